-- The parts without a log, one event at a time: their state is what the history says. `StateAfterLaws` rest on it.
use Rattle.std.proofs.Common.{arith, ◌≡◌, ℕ, true, List, ◌∷◌, Ok, Err, ap}
use Rattle.recovery_base.specs.declared.below.SpaceId.{SpaceId}
use Rattle.recovery_base.specs.declared.timer.Timer.{Timer}
use Rattle.recovery_base.specs.Timers.{moment}
use Rattle.recovery_congestion.specs.Controllers.{ControllerSemantics}
use Rattle.recovery_ids.specs.LocalIds.{LocalIds}
use Rattle.recovery_spaces.specs.Acks.{AckState}
use Rattle.recovery_spaces.specs.Discarded.{is_discarded}
use Rattle.recovery_events.specs.declared.event.Event.{Event}
use Rattle.recovery_events.specs.declared.event.Event.TheVariants.{AckFrequencyIn, InitialId, NewId, NextId, NextTimeout, SetTimer, StopTimer}
use Rattle.recovery_events.specs.declared.event.Answer.{Answer}
use Rattle.recovery_events.specs.declared.event.Answer.TheVariants.{Done, Flag}
use Rattle.recovery_events.specs.declared.event.Refusal.TheVariants.{DelayTooSmall, NoMemory}
use Rattle.recovery_history.specs.History.{Beginning, History, QueueModel, Reply}
use Rattle.recovery_history.specs.IdReplies.{FrameReply}
use Rattle.recovery_history.specs.ReplyInputs.{ReplyInputs}
use Rattle.recovery_history.specs.Unlogged.{UnloggedState}
use Rattle.recovery_history.specs.Table.{UnloggedStep, frequency_by, limit, own_ids, ReplyTable}
use Rattle.recovery_history.specs.Promises.GivenIds.{AreHeld}
use Rattle.recovery_history.specs.Promises.NewNumbers.{is_discarded as was_discarded}
use Rattle.recovery_history.specs.Promises.Timeouts.{ReportsNextTimeout, timer_value}
use Rattle.recovery_history.specs.Replies.{AlwaysAnswers}
use Rattle.recovery_history.specs.RepliesAfter.{RepliesAfter}
use Rattle.recovery_history.proofs.PeerIdsLaws.{frame_step, next_step, initial_step}

module _ {K Q S M P : Type 0} (q : QueueModel Q S M P) (words : ControllerSemantics K) (heard : SpaceId → AckState)
    (known : ReplyInputs K P M) (first : ℕ) (initial : List ℕ) (own : LocalIds) where
  abbrev pub PlainLeft : History Q S M P → UnloggedState → Type 0
  PlainLeft history plain =
      ((space : SpaceId) → is_discarded space plain.discarded ≡ was_discarded space history)
      × (plain.frequency ≡ frequency_by first history)
      × ((kind : Timer) → moment kind plain.timers ≡ timer_value history kind)
      × (plain.peer_limit ≡ limit history)
      × AreHeld initial history plain.remote_ids
      × (plain.local_ids ≡ own_ids own history)

  pub plain_after : (history : History Q S M P) (event : Event Q S M P) (reply : Reply Q) (old new : UnloggedState)
      → PlainLeft history old → known.remote_ids ≡ old.remote_ids → ReplyTable q words heard known event reply
      → UnloggedStep event reply old new → PlainLeft ((event, reply) ∷ history) new
  plain_after history (NewId frame) (Ok answer) old new left is told step =
      let reply : Type 0 = FrameReply old.remote_ids frame (Ok answer) in
      let here : reply = rw is at told in
      let held = frame_step initial history old.remote_ids left.4 frame answer here in
      rw step.1 (left.0, left.1, left.2, left.3, rw step.0.same held, left.5)
  plain_after history NextId (Ok answer) old new left is told step =
      let held = next_step initial history old.remote_ids left.4 answer (rw is at told) in
      rw step.1 (left.0, left.1, left.2, left.3, rw step.0.same held, left.5)
  plain_after history (InitialId id) (Ok answer) old new left is told step =
      let held = initial_step initial history old.remote_ids left.4 id answer (rw is at told) in
      rw step.1 (left.0, left.1, left.2, left.3, rw step.0.same held, left.5)
  plain_after history (AckFrequencyIn frame) (Ok (Flag true)) old new left is told step = grind (arith, left, step)
  plain_after history (AckFrequencyIn frame) (Err DelayTooSmall) old new left is told step = grind (arith, left, step)
  plain_after history event reply old new left is told step = grind (arith, left, step)

-- ---- the replies of timers: the clause `timers` of `run`

always : {Q : Type 0} (given : Answer Q) (reply : Reply Q) → AlwaysAnswers (λ answer. answer ≡ given) reply
    → reply ≡ Ok given
always given (Ok answer) told = ap Ok told
always given (Err NoMemory) told = absurd told
always given (Err refusal) told = absurd told

module _ {F K Q S M P : Type 0} (beginning : Beginning F K Q S M P) where
  -- the reply to an event follows from the timers
  pub timers_told : (history : History Q S M P) (event : Event Q S M P) (reply : Reply Q)
      → RepliesAfter beginning history event reply → ReportsNextTimeout history event reply
  timers_told history NextTimeout reply told = always _ reply told
  timers_told history (SetTimer timer time) reply told = always Done reply told
  timers_told history (StopTimer timer) reply told = always Done reply told
  timers_told history event reply told = tt
