-- A datagram is blocked exactly if the events and answers before it say so: the clause `blocked` of `run`.
use Rattle.std.proofs.Common.{arith, ℕ, ◌≡◌, ◌≤◌, ◌+◌, ◌^◌, Bool, true, false, Ok, Err, refl}
use Rattle.std.proofs.lemmas.Bool.{leb-true, le-leb}
use Rattle.recovery_congestion.specs.Controllers.{ControllerSemantics}
use Rattle.recovery_paths.specs.PathLog.{path_state_of}
use Rattle.recovery_paths.specs.PathStates.{PathState, is_blocked}
use Rattle.recovery_events.specs.declared.event.Event.TheVariants.{Transmit}
use Rattle.recovery_events.specs.declared.event.Answer.{Answer}
use Rattle.recovery_events.specs.declared.event.Refusal.TheVariants.{Overflow}
use Rattle.recovery_history.specs.RepliesAfter.{pasts_of, RepliesAfter}
use Rattle.recovery_history.specs.History.{Beginning, Reply}
use Rattle.recovery_history.specs.Replies.{RejectsWhen, AlwaysAnswers}
use Rattle.recovery_history.specs.PartReplies.{EqualsAnswer, transmit_answer}
use Rattle.recovery_history.specs.Promises.Blocked.{IsTransmitReply, BlocksExactly}
use Rattle.recovery_history.proofs.Runs.{AllAlong, throughout_kept}
use Rattle.recovery_history.proofs.DatagramLaws.{FlowsAgree, flows_at_first, flows_after}
use Rattle.recovery_history.proofs.SearchSaid.{Follows}

-- the answer of the table is one that the promise allows
module _ {K : Type 0} (Q : Type 0) (words : ControllerSemantics K) where
  fits : (now bytes : ℕ) (checked : Bool) (path : PathState K)
      → (let answer : Answer Q = transmit_answer words now bytes checked path in IsTransmitReply false checked
      (is_blocked path bytes) (Ok answer))
  fits now bytes false path = refl
  fits now bytes true path = grind arith

module _ {Q : Type 0} (checked forbidden : Bool) (answer : Answer Q)
    (fine : IsTransmitReply false checked forbidden (Ok answer)) (TooLarge : Type 0) where
  decide : (large : Bool) → (TooLarge → large ≡ true) → (large ≡ true → TooLarge) → (reply : Reply Q)
      → RejectsWhen Overflow TooLarge (AlwaysAnswers (EqualsAnswer answer)) reply
      → IsTransmitReply large checked forbidden reply
  decide large is to (Err Overflow) told = grind (arith, is, to, told)
  decide large is to reply told = grind (arith, is, to, told, fine)

module _ {F K Q S M P : Type 0} (beginning : Beginning F K Q S M P) where
  blocked_told : Follows (RepliesAfter beginning) (FlowsAgree beginning) (BlocksExactly beginning.config.validated)
  blocked_told before (Transmit now bytes checked) reply told agree =
      let path = path_state_of (pasts_of beginning before).current in
      grind (
        arith,
        agree.0.0,
        decide checked (is_blocked path bytes) (transmit_answer beginning.words now bytes checked path)
            (fits Q beginning.words now bytes checked path) (2 ^ 64 ≤ path.total_sent + bytes) _
            (le-leb (2 ^ 64) (path.total_sent + bytes)) (leb-true (2 ^ 64) (path.total_sent + bytes)) reply told,
      )
  blocked_told before event reply told agree = tt

  -- throughout a run
  pub blocks_exactly : AllAlong beginning (BlocksExactly beginning.config.validated)
  blocks_exactly =
      throughout_kept beginning (FlowsAgree beginning) (BlocksExactly beginning.config.validated)
      (flows_after beginning)
      blocked_told (flows_at_first beginning)
