-- Each tracked 1-RTT packet has the size with which the history says that it was sent. `SearchSteps` rests on it.
use Rattle.std.proofs.Common.{ℕ, ◌≡◌, ◌∷◌, Ok, refl, arith}
use Rattle.std.proofs.lemmas.Bool.Decides.{nat_tests}
use Rattle.recovery_base.specs.declared.below.SpaceId.TheVariants.{Data}
use Rattle.recovery_spaces.specs.Packets.{Packet}
use Rattle.recovery_events.specs.declared.event.Event.{Event}
use Rattle.recovery_events.specs.declared.event.Event.TheVariants.{Send, PollMtu}
use Rattle.recovery_events.specs.declared.event.Answer.TheVariants.{Probe}
use Rattle.recovery_history.specs.RepliesAfter.{RepliesAfter}
use Rattle.recovery_history.specs.History.{Beginning, History, Reply}
use Rattle.recovery_history.specs.Promises.Bursts.{size_of}
use Rattle.recovery_history.proofs.FieldLaws.{IsSaid, said_then, said_told}
use Rattle.recovery_history.proofs.TrackedLaws.{sent_in}
use Rattle.recovery_events.specs.declared.event.Answer.TheVariants as answers

abbrev pub size_in : {P M : Type 0} → Packet P M → ℕ
size_in packet = packet.size

module _ {F K Q S M P : Type 0} (beginning : Beginning F K Q S M P) where
  abbrev pub Sized : History Q S M P → Type 0
  Sized history = IsSaid size_in (size_of history) (sent_in beginning history Data)

  -- an event preserves that
  pub sized_after : (history : History Q S M P) (event : Event Q S M P) (reply : Reply Q)
      → RepliesAfter beginning history event reply → Sized history
      → Sized ((event, reply) ∷ history)
  sized_after history event reply told sized =
      said_told beginning Data size_in (λ contents packet. refl) history (size_of history) sized event reply
      (size_of ((event, reply) ∷ history)) told (same event reply)
    where
      same : (event : Event Q S M P) (reply : Reply Q) (n : ℕ)
          → said_then beginning Data size_in (λ contents packet. refl) history (size_of history) sized event reply n
          ≡ size_of ((event, reply) ∷ history) n
      same (Send Data now size eliciting largest queue frames) (Ok (answers.Sent number forgotten)) n =
          grind (arith, nat_tests)
      same (Send there now size eliciting largest queue frames) (Ok (answers.Sent number forgotten)) n = refl
      same (PollMtu now) (Ok (Probe number size)) n = grind (arith, nat_tests)
      same event reply n = refl
