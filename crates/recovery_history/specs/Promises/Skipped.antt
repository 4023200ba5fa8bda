-- Skipped numbers (RFC 9000, 12.3 and 21.4): a packet is sent under the first number above all assigned in its space,
-- or, of 1-RTT packets, under the next one, which skips a number. The ACK of a range is rejected exactly if it contains
-- the number skipped last, or is no range of numbers below 2^62.
use Rattle.std.specs.Prelude.{◌≡◌, ℕ, ◌+◌, ◌<◌, ◌≤◌, true, Ok, Err}
use Rattle.recovery_base.specs.declared.below.SpaceId.{SpaceId}
use Rattle.recovery_base.specs.declared.below.SpaceId.TheVariants.{Data}
use Rattle.recovery_base.specs.Units.{number_limit}
use Rattle.recovery_events.specs.declared.event.Event.{Event}
use Rattle.recovery_events.specs.declared.event.Event.TheVariants.{CheckAck}
use Rattle.recovery_events.specs.declared.event.Answer.TheVariants.{Done}
use Rattle.recovery_events.specs.declared.event.Refusal.TheVariants.{SpaceDiscarded, NumberTooLarge, BadRange, SkippedAcked}
use Rattle.recovery_history.specs.History.{History, Reply}
use Rattle.recovery_history.specs.Promises.Fates.{times, is_given}
use Rattle.recovery_history.specs.Promises.Tracked.{goes_out}

module _ {Q S M P : Type 0} (space : SpaceId) where
  -- neither the number nor one above it was assigned
  abbrev pub IsAboveAllSent : ℕ → History Q S M P → Type 0
  IsAboveAllSent n history = (m : ℕ) → n ≤ m → times (is_given space m) history ≡ 0

  -- it is the first such number, or, of 1-RTT packets, the one after that
  abbrev pub IsNextNumber : ℕ → History Q S M P → Type 0
  IsNextNumber n history =
      IsAboveAllSent n history × ((m : ℕ) → IsAboveAllSent m history → m < n → (space ≡ Data) × (m + 1 ≡ n))

  -- it was not assigned, and one above it was
  abbrev pub WasSkipped : ℕ → History Q S M P → Type 0
  WasSkipped n history = (times (is_given space n) history ≡ 0)
      × ((m : ℕ) × (n < m) × (0 < times (is_given space m) history))

  -- the last such number is in a range; earlier ones are not remembered
  abbrev pub ContainsSkipped : ℕ → ℕ → History Q S M P → Type 0
  ContainsSkipped low high history = (n : ℕ) × WasSkipped n history × ((m : ℕ) → WasSkipped m history → m ≤ n)
      × (low ≤ n) × (n ≤ high)

module _ {Q S M P : Type 0} where
  abbrev pub AssignsNextNumber : History Q S M P → Event Q S M P → Reply Q → Type 0
  AssignsNextNumber history event reply =
      (space : SpaceId) (number : ℕ) → goes_out (event, reply) space number ≡ true → IsNextNumber space number history

  -- for discarded spaces see `rejections`
  abbrev pub RejectsSkippedAcks : History Q S M P → Event Q S M P → Reply Q → Type 0
  RejectsSkippedAcks history (CheckAck space low high) (Ok given) =
      (given ≡ Done) × (high < number_limit) × (low ≤ high) × ¬ ContainsSkipped space low high history
  RejectsSkippedAcks history (CheckAck space low high) (Err SpaceDiscarded) = Unit {0}
  RejectsSkippedAcks history (CheckAck space low high) (Err NumberTooLarge) = number_limit ≤ high
  RejectsSkippedAcks history (CheckAck space low high) (Err BadRange) = (high < number_limit) × (high < low)
  RejectsSkippedAcks history (CheckAck space low high) (Err SkippedAcked) = (high < number_limit)
      × ContainsSkipped space low high history
  RejectsSkippedAcks history (CheckAck space low high) (Err other) = ⊥
  RejectsSkippedAcks history event reply = Unit {0}
