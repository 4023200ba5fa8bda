-- Numbers increase (RFC 9000, 12.3): a packet is sent under a number below 2^62, above all assigned in its space
-- before.
use Rattle.std.specs.Prelude.{◌≡◌, ℕ, ◌<◌, ◌≤◌, true}
use Rattle.recovery_base.specs.declared.below.SpaceId.{SpaceId}
use Rattle.recovery_base.specs.Units.{number_limit}
use Rattle.recovery_events.specs.declared.event.Event.{Event}
use Rattle.recovery_history.specs.History.{History, Reply}
use Rattle.recovery_history.specs.Promises.Fates.{times, is_given}
use Rattle.recovery_history.specs.Promises.Tracked.{goes_out}

module _ {Q S M P : Type 0} where
  -- neither the number nor one above it was assigned in the space before
  abbrev pub NumbersIncrease : History Q S M P → Event Q S M P → Reply Q → Type 0
  NumbersIncrease history event reply = (space : SpaceId) (number : ℕ) → goes_out (event, reply) space number ≡ true
      → (number < number_limit) × ((n : ℕ) → number ≤ n → times (is_given space n) history ≡ 0)
