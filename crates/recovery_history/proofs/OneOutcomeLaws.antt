-- Each number has one outcome throughout a run, and so it leaves once: the clauses `one_outcome` and `resolved_once` of
-- `run`.
use Rattle.std.proofs.Common.{arith}
use Rattle.recovery_history.specs.History.{AtEach, Beginning, History}
use Rattle.recovery_history.specs.Promises.Fates.{HaveOneOutcome}
use Rattle.recovery_history.specs.Promises.ResolvedOnce.{ResolvedOnce}
use Rattle.recovery_history.specs.RepliesAfter.{RepliesAfter}
use Rattle.recovery_history.proofs.Runs.{kept_after}
use Rattle.recovery_history.proofs.TrackedLaws.{AllTracked, keeps_tracked, none_tracked}

-- ---- what has one outcome leaves once

pub leave_once : {Q S M P : Type 0} (history : History Q S M P) → HaveOneOutcome history → ResolvedOnce history
leave_once history fates = λ space n. grind (arith, fates space n)

-- ---- throughout a run

module _ {F K Q S M P : Type 0} (beginning : Beginning F K Q S M P) where
  -- if tracking follows the history, each number has one outcome
  pub one_fate : (history : History Q S M P) → AllTracked beginning history → HaveOneOutcome history
  one_fate history all = λ space n. ((all space n).once, (all space n).adds)

  pub have_one_fate : (history : History Q S M P) → AtEach (RepliesAfter beginning) history → HaveOneOutcome history
  have_one_fate history told = one_fate history (kept_after (RepliesAfter beginning) (AllTracked beginning)
      (keeps_tracked beginning) (none_tracked beginning) history told)
