-- The replies by the parts of a recovery are the replies by the history: the clause `reply_after` of `run`, event by
-- event.
use Rattle.std.proofs.Common.{arith, ℕ, ◌↔◌, Bool, IsSome}
use Rattle.recovery_base.specs.declared.below.SpaceId.{SpaceId}
use Rattle.recovery_base.specs.Numbers.{RecentNumbers, IsNewNumber}
use Rattle.recovery_base.proofs.WindowLaws.{HasGreatest, new_to_known, new_to_all}
use Rattle.recovery_congestion.specs.Controllers.{ControllerSemantics}
use Rattle.recovery_spaces.specs.Acks.{AckState, acks_by}
use Rattle.recovery_spaces.specs.Probes.{ProbeFound}
use Rattle.recovery_spaces.proofs.HeardLaws.{arms_alike}
use Rattle.recovery_spaces.proofs.ReceivedLaws.{came_greatest}
use Rattle.recovery_events.specs.declared.event.Event.{Event}
use Rattle.recovery_events.specs.declared.event.Event.TheVariants.{Received, QueueProbe}
use Rattle.recovery_events.specs.declared.event.Answer.{Answer}
use Rattle.recovery_events.specs.declared.event.Answer.TheVariants.{New, Duplicate, Sendable}
use Rattle.recovery_events.specs.declared.event.Refusal.TheVariants.{NumberTooLarge, SpaceDiscarded}
use Rattle.recovery_history.specs.Entries.{found_in}
use Rattle.recovery_history.specs.RepliesAfter.{inputs_after, logs_of}
use Rattle.recovery_history.specs.History.{Beginning, History, Reply, QueueModel}
use Rattle.recovery_history.specs.ReplyInputs.{SpaceReplyInputs, ReplyInputs}
use Rattle.recovery_history.specs.RecoveryState.{RecoveryState}
use Rattle.recovery_history.specs.Replies.{AnswersOrNoMemory}
use Rattle.recovery_history.specs.StateAfter.{LoggedStateAfter}
use Rattle.recovery_history.specs.Transitions.{acks_to}
use Rattle.recovery_history.specs.PartReplies.{UnlessSpaceDiscarded, ReceivedAnswer, ReceivedReply, IsQueueProbeAnswer}
use Rattle.recovery_history.specs.Table.{ReplyTable}
use Rattle.recovery_history.proofs.ReplyLaws.{refuses_alike, answers_alike}

-- ---- the window of a space gives the same replies as all numbers

record HeardAlike (here there : AckState) : Type 0 where
  numbers : (n : ℕ) → here.came n ↔ RecentNumbers there.came n
  greatest : HasGreatest there.came
  required : here.required ↔ there.required
  started : (m : ℕ) → here.started m ↔ there.started m
  pending : (n : ℕ) → here.pending n ↔ there.pending n

module _ {here there : AckState} (alike : HeardAlike here there) where
  -- a number that is new by the window is new by all numbers
  new_told : (number : ℕ) → IsNewNumber here.came number → IsNewNumber there.came number
  new_told = new_to_all there.came here.came alike.greatest alike.numbers

  module _ {Q P M : Type 0} (known : SpaceReplyInputs P M) (number : ℕ) (ack_eliciting : Bool) where
    -- what a received packet is answered
    answer_told : (answer : Answer Q) → ReceivedAnswer here known.counts number ack_eliciting answer
        → ReceivedAnswer there known.counts number ack_eliciting answer
    answer_told (New arm) told =
        let arms = arms_alike here.came there.came alike.greatest alike.numbers number alike.required alike.started
        known.counts ack_eliciting in
        (new_told number told.0, (λ armed. arms.0 (told.1.0 armed), λ should. told.1.1 (arms.1 should)))
    answer_told Duplicate told = λ new. told (new_to_known there.came here.came alike.greatest alike.numbers number new)
    answer_told answer told = absurd told

    received_told : (reply : Reply Q) → ReceivedReply known here number ack_eliciting reply
        → ReceivedReply known there number ack_eliciting reply
    received_told =
        refuses_alike SpaceDiscarded _ _ _ _ (λ h. h, λ h. h)
        (refuses_alike NumberTooLarge _ _ _ _ (λ h. h, λ h. h) (answers_alike _ _ _ _ (new_told number) answer_told))

  module _ {Q S M P : Type 0} (q : QueueModel Q S M P) (known : SpaceReplyInputs P M) (streams : S) (immediate : Bool)
      (found : ProbeFound) where
    -- what can be sent, if a probe is requested
    probe_answer_told : (answer : Answer Q) → IsQueueProbeAnswer q known streams here immediate found answer
        → IsQueueProbeAnswer q known streams there immediate found answer
    probe_answer_told (Sendable frames) told = grind (arith, told, alike.required, alike.pending)
    probe_answer_told answer told = absurd told

    probe_told : (reply : Reply Q)
        → UnlessSpaceDiscarded known (AnswersOrNoMemory (IsSome found.moved)
        (IsQueueProbeAnswer q known streams here immediate found)) reply
        → UnlessSpaceDiscarded known (AnswersOrNoMemory (IsSome found.moved)
        (IsQueueProbeAnswer q known streams there immediate found)) reply
    probe_told = refuses_alike SpaceDiscarded _ _ _ _ (λ h. h, λ h. h)
        (answers_alike _ (IsSome found.moved) _ _ (λ h. h) probe_answer_told)

-- the two events whose replies depend on the numbers received
told_alike : {K Q S M P : Type 0} (q : QueueModel Q S M P) (words : ControllerSemantics K)
    {here there : SpaceId → AckState}
    → ((space : SpaceId) → HeardAlike (here space) (there space))
    → (known : ReplyInputs K P M) (event : Event Q S M P) (reply : Reply Q) → ReplyTable q words here known event reply
    → ReplyTable q words there known event reply
told_alike q words alike known (Received space now number ack_eliciting) reply told =
    received_told (alike space) (known.spaces space) number ack_eliciting reply told
told_alike q words alike known (QueueProbe space immediate streams) reply told =
    probe_told (alike space) q (known.spaces space) streams immediate (found_in known q.words streams space) reply told
told_alike q words alike known event reply told = told

-- ---- all events

module _ {F K Q S M P : Type 0} (beginning : Beginning F K Q S M P) (history : History Q S M P)
    (state : RecoveryState K P M) (left : LoggedStateAfter beginning history state) where
  -- what the logs say about the packets received
  abbrev heard_there : SpaceId → AckState
  heard_there space = acks_by beginning.queue.words ((logs_of beginning history).spaces space)

  -- what a space holds is what its log says
  alike : (space : SpaceId) → HeardAlike (acks_to state space) (heard_there space)
  alike space =
      grind (
        arith,
        (left.spaces space).acks,
        (left.spaces space).numbers,
        came_greatest ((logs_of beginning history).spaces space),
      )

  -- the reply by the parts is the reply by the history
  pub told_by_logs : (event : Event Q S M P) (reply : Reply Q)
      → ReplyTable beginning.queue state.settings.words (acks_to state) (inputs_after beginning history) event reply
      → ReplyTable beginning.queue beginning.words heard_there (inputs_after beginning history) event reply
  told_by_logs event reply told =
      told_alike beginning.queue beginning.words {here = acks_to state} {there = heard_there} alike
      (inputs_after beginning history)
      event reply (rw left.settings at told)
