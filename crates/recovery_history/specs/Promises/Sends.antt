-- Whether a packet is sent (RFC 9000, 12.3; RFC 9002, B.2). It is rejected exactly if it carries an ACK of a number of
-- 2^62 or more, no number is left for it, or it overflows what is in flight. Those are the bytes and the ack-eliciting
-- packets on the path in use.
use Rattle.std.specs.Prelude.{ℕ, ◌+◌, ◌≤◌, ◌⊎◌, Bool, false, Ok, Err, if◌then◌else◌}
use Rattle.recovery_base.specs.declared.below.SpaceId.{SpaceId}
use Rattle.recovery_base.specs.declared.below.SpaceId.TheVariants.{Data}
use Rattle.recovery_base.specs.Units.{number_limit, u64_limit}
use Rattle.recovery_spaces.specs.Packets.{IsTooLarge}
use Rattle.recovery_events.specs.declared.event.Event.{Event}
use Rattle.recovery_events.specs.declared.event.Event.TheVariants.{Send, PollMtu}
use Rattle.recovery_events.specs.declared.event.Answer.TheVariants.{Sent}
use Rattle.recovery_events.specs.declared.event.Refusal.TheVariants.{SpaceDiscarded, NumberTooLarge, NumbersExhausted, Overflow, NoMemory}
use Rattle.recovery_history.specs.History.{History, Reply}
use Rattle.recovery_history.specs.Promises.Counted.{sum_on}
use Rattle.recovery_history.specs.Promises.Paths.{generations}
use Rattle.recovery_history.specs.Promises.Skipped.{IsNextNumber}

module _ {Q S M P : Type 0} (history : History Q S M P) where
  -- a sum over the packets in flight on the path in use
  abbrev pub sum_now : (ℕ → Bool → ℕ) → ℕ
  sum_now weigh = sum_on weigh (generations history).current (λ space n. false) history

  -- one more packet would make a counter reach 2^64
  abbrev pub OverflowsInFlight : ℕ → Bool → Type 0
  OverflowsInFlight size eliciting = (u64_limit ≤ sum_now (λ bytes elicits. bytes) + size)
      ⊎ (u64_limit ≤ sum_now (λ bytes elicits. if elicits then 1 else 0) + (if eliciting then 1 else 0))

  -- the next number would be 2^62 or more
  abbrev pub HasNoNumber : SpaceId → Type 0
  HasNoNumber space = (n : ℕ) × IsNextNumber space n history × (number_limit ≤ n)

  -- for discarded spaces see `rejections`
  abbrev pub SendsOrRejects : Event Q S M P → Reply Q → Type 0
  SendsOrRejects (Send space now size eliciting largest queue frames) (Ok (Sent number forgotten)) =
      (¬ IsTooLarge largest) × ¬ OverflowsInFlight size eliciting
  SendsOrRejects (Send space now size eliciting largest queue frames) (Err NumberTooLarge) = IsTooLarge largest
  SendsOrRejects (Send space now size eliciting largest queue frames) (Err NumbersExhausted) =
      (¬ IsTooLarge largest) × HasNoNumber space
  SendsOrRejects (Send space now size eliciting largest queue frames) (Err Overflow) =
      (¬ IsTooLarge largest) × OverflowsInFlight size eliciting
  SendsOrRejects (Send space now size eliciting largest queue frames) (Err SpaceDiscarded) = Unit {0}
  SendsOrRejects (Send space now size eliciting largest queue frames) (Err NoMemory) = Unit {0}
  SendsOrRejects (Send space now size eliciting largest queue frames) reply = ⊥
  SendsOrRejects (PollMtu now) (Err NumbersExhausted) = HasNoNumber Data
  SendsOrRejects event reply = Unit {0}
