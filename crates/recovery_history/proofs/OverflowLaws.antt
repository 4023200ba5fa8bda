-- Counters overflow exactly if the history says so: the clause `overflow` of `run`.
use Rattle.std.proofs.Common.{◌≡◌, ◌≤◌, ◌+◌, ◌^◌, ℕ, Bool, not, IsTrue, Option, None, Some, Ok, Err, ap, arith, sym}
use Rattle.std.specs.Prelude.{sum_by, option_map}
use Rattle.recovery_paths.specs.declared.path_pair.PathName.TheVariants.{Current, Previous}
use Rattle.recovery_paths.specs.PathLog.{PathHistory, known_of}
use Rattle.recovery_events.specs.declared.event.Event.TheVariants.{DatagramIn, NewPath}
use Rattle.recovery_events.specs.declared.event.Answer.TheVariants.{Done}
use Rattle.recovery_events.specs.declared.event.Refusal.TheVariants.{Overflow}
use Rattle.recovery_history.specs.RepliesAfter.{inputs_after, pasts_of, RepliesAfter}
use Rattle.recovery_history.specs.History.{Beginning, History, Reply}
use Rattle.recovery_history.specs.PartReplies.{EqualsAnswer, AnswersDone, UnlessPathMissing}
use Rattle.recovery_history.specs.Replies.{AnswersOrNoMemory, RejectsWhen}
use Rattle.recovery_history.specs.Promises.Datagrams.{datagrams_on, bytes_in}
use Rattle.recovery_history.specs.Promises.Overflow.{IsRoom, OverflowsExactly}
use Rattle.recovery_history.specs.Promises.Paths.{paths_made}
use Rattle.recovery_history.proofs.DatagramLaws.{Flow, flow_of, IsFlowWhereLives, FlowsAgree, flows_at_first, flows_after}
use Rattle.recovery_history.proofs.PathLaws.{made_told}
use Rattle.recovery_history.proofs.Runs.{AllAlong, throughout_kept}
use Rattle.recovery_history.proofs.SearchSaid.{Follows}

module _ {Q : Type 0} where
  counter : (n m : ℕ) → n ≡ m → (Otherwise : Reply Q → Type 0) (reply : Reply Q)
      → RejectsWhen Overflow (2 ^ 64 ≤ m) Otherwise reply → IsRoom n reply
  counter n m is Otherwise (Ok given) told = omega (arith, is, told.0)
  counter n m is Otherwise (Err Overflow) told = omega (arith, is, told)
  counter n m is Otherwise (Err other) told = tt

module _ {F K Q S M P : Type 0} (beginning : Beginning F K Q S M P) where
  -- on the previous path, if it exists
  on_previous : (validated : Bool) (here : History Q S M P) (bytes : ℕ) (found : Option (PathHistory K))
      (reply : Reply Q)
      → IsFlowWhereLives validated here (option_map flow_of found)
      → UnlessPathMissing (option_map known_of found)
      (λ there. RejectsWhen Overflow (2 ^ 64 ≤ there.state.total_recvd + bytes) AnswersDone) reply
      → IsRoom (sum_by bytes_in here + bytes) reply
  on_previous validated here bytes None (Ok given) agree told = absurd told.1
  on_previous validated here bytes None (Err Overflow) agree told = absurd told.1
  on_previous validated here bytes None (Err other) agree told = tt
  on_previous validated here bytes (Some past) reply agree told =
      counter _ _ (ap (λ (f : Flow). f.came + bytes) agree.0) AnswersDone reply told

  full_told : Follows (RepliesAfter beginning) (FlowsAgree beginning) OverflowsExactly
  full_told before (DatagramIn Current bytes) reply told agree =
      counter _ _ (ap (λ (f : Flow). f.came + bytes) agree.0.0) AnswersDone reply told
  full_told before (DatagramIn Previous bytes) reply told agree =
      on_previous _ (datagrams_on Previous before) bytes (pasts_of beginning before).previous reply agree.1 told
  full_told before (NewPath now remote is_fresh) reply told agree =
      let made : paths_made before ≡ (inputs_after beginning before).paths.made = sym (made_told beginning before) in
      counter (paths_made before + 1) _ (ap (λ n. n + 1) made)
      (AnswersOrNoMemory (IsTrue (not is_fresh)) (EqualsAnswer Done)) reply told
  full_told before event reply told agree = tt

  pub overflows_full : AllAlong beginning OverflowsExactly
  overflows_full =
      throughout_kept beginning (FlowsAgree beginning) OverflowsExactly (flows_after beginning) full_told
      (flows_at_first beginning)
