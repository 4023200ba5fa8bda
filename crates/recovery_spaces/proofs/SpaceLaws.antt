-- Packet spaces, one entry at a time. The driver's `StateAfterLaws` rest on it.
use Rattle.std.proofs.Common.{ℕ, ◌↔◌, false, List, [], ◌∷◌, refl, sym, ap, ◌∙◌, arith}
use Rattle.std.proofs.lemmas.Bool.Decides.{nat_tests}
use Rattle.std.proofs.lemmas.Option.{none-some}
use Rattle.recovery_base.specs.declared.dedup.Dedup.{Dedup}
use Rattle.recovery_base.specs.Numbers.{RecentNumbers, InsertNumber}
use Rattle.recovery_base.specs.Received.{HasReceived}
use Rattle.recovery_base.proofs.WindowLaws.{left_with, iff_trans}
use Rattle.recovery_base.specs.Ranges.{InRanges}
use Rattle.recovery_queue.specs.Queues.{QueueSemantics}
use Rattle.recovery_spaces.specs.Packets.{packet_at}
use Rattle.recovery_spaces.specs.Received.{ReceivedNumbers}
use Rattle.recovery_spaces.specs.SpaceLog.{SpaceEntry, heard, heard_again, sends, acknowledged}
use Rattle.recovery_base.specs.declared.below.SpaceId.{SpaceId}
use Rattle.recovery_base.specs.declared.below.SpaceId.TheVariants.{Initial, Handshake, Data}
use Rattle.recovery_spaces.specs.Spaces.{Spaces, space_of, with_space, Space, IsMade, acks_of, SpaceStep, SpaceAfter}
use Rattle.recovery_spaces.specs.Tracked.{SentState}
use Rattle.recovery_spaces.proofs.HeardLaws.{heard_law, acknowledged_law, ack_goes_law, ack_is_late_law, asked_law}
use Rattle.recovery_spaces.proofs.ReceivedLaws.{fails, came_greatest}

module _ {P M : Type 0} where
  numbers_law : (log : List (SpaceEntry P M)) (old new : Dedup) (number : ℕ)
      → ((n : ℕ) → HasReceived old n ↔ RecentNumbers (ReceivedNumbers log) n)
      → ((n : ℕ) → HasReceived new n ↔ RecentNumbers (InsertNumber number (HasReceived old)) n)
      → (n : ℕ) → HasReceived new n ↔ RecentNumbers (InsertNumber number (ReceivedNumbers log)) n
  numbers_law log old new number left step n =
      iff_trans (step n) (left_with (ReceivedNumbers log) (HasReceived old) (came_greatest log) left number n)

module _ {P M S : Type 0} (words : QueueSemantics P S) where
  pub space_law : (start : ℕ) (entry : SpaceEntry P M) (log : List (SpaceEntry P M)) (old new : Space P M)
      → SpaceAfter words start log old → SpaceStep words entry old new → SpaceAfter words start (entry ∷ log) new
  space_law start (heard now number ack_eliciting) log old new left step =
      grind (
        arith,
        step.others,
        left,
        numbers_law log old.dedup new.dedup number left.numbers step.numbers,
        heard_law words log (acks_of old) left.acks (HasReceived old.dedup) left.numbers now number ack_eliciting
            (acks_of new)
            step.hears,
      )
  space_law start (heard_again number) log old new left step =
      grind (arith, step.1, left, numbers_law log old.dedup new.dedup number left.numbers step.0)
  space_law start (sends number packet) log old new left step =
      grind (arith, nat_tests, step, left)
  space_law start (acknowledged number) log old new left step =
      grind (
        arith,
        step.others,
        step.found,
        left,
        acknowledged_law words log (acks_of old) left.acks number (acks_of new) step.packet
            (sym (ap (λ (s : SentState P M). packet_at s.tracked number) left.sent) ∙ step.found) step.subtracts,
      )
  space_law start entry log old new left step =
      grind (
        arith,
        step,
        left,
        ack_goes_law words log (acks_of old) left.acks,
        ack_is_late_law words log (acks_of old) left.acks,
        asked_law words log (acks_of old) left.acks,
      )

  -- a space in which nothing happened
  pub fresh_space : (start : ℕ) (fresh : Space P M) → IsMade words start fresh → SpaceAfter words start [] fresh
  unfolding InRanges
  fresh_space start fresh made = record {
    numbers = λ n. (λ here. absurd (made.numbers n here), λ here. absurd here.0);
    acks = rw (made.acks)
        (record {
          pending = λ n. (λ here. here, λ here. here);
          required = (λ h. absurd (fails false refl h), λ h. absurd h);
          started = λ m. (none-some m, λ h. absurd h);
          counts = refl;
        });
    greatest = made.received;
    acknowledged = rw (made.acknowledged, made.acknowledged_sent) refl;
    last_sent = made.last_sent;
    probes = made.probes;
    given_out = made.given_out;
    queued = made.queued;
    sent = grind (arith, made.packets, made.next);
  }

-- what holds for three spaces holds for each
pub of_each : {P M : Type 0} (Holds : Space P M → Type 0) (spaces : Spaces P M) → Holds spaces.initial
    → Holds spaces.handshake → Holds spaces.«data» → (space : SpaceId) → Holds (space_of space spaces)
of_each {P} {M} Holds spaces initial handshake other Initial = initial
of_each {P} {M} Holds spaces initial handshake other Handshake = handshake
of_each {P} {M} Holds spaces initial handshake other Data = other

-- and if one changes, it still holds for each
pub each_with : {P M : Type 0} (Holds : Space P M → Type 0) (spaces : Spaces P M) (space : SpaceId) (here : Space P M)
    → ((other : SpaceId) → Holds (space_of other spaces)) → Holds here
    → (other : SpaceId) → Holds (space_of other (with_space spaces space here))
each_with Holds spaces Initial here all one = of_each Holds _ one (all Handshake) (all Data)
each_with Holds spaces Handshake here all one = of_each Holds _ (all Initial) one (all Data)
each_with Holds spaces Data here all one = of_each Holds _ (all Initial) (all Handshake) one
