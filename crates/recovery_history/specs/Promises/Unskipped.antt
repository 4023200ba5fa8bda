-- If skipping is disabled, no number is skipped (RFC 9000, 12.3): each packet is sent under the first number above all
-- assigned in its space.
use Rattle.std.specs.Prelude.{◌≡◌, ℕ, ◌≤◌, true}
use Rattle.recovery_base.specs.declared.below.SpaceId.{SpaceId}
use Rattle.recovery_packet_numbers.specs.declared.filter.Skips.TheVariants.{Disabled}
use Rattle.recovery_events.specs.declared.event.Event.{Event}
use Rattle.recovery_history.specs.History.{Beginning, History, Reply}
use Rattle.recovery_history.specs.Promises.Skipped.{IsAboveAllSent}
use Rattle.recovery_history.specs.Promises.Tracked.{goes_out}

module _ {F K Q S M P : Type 0} (beginning : Beginning F K Q S M P) where
  abbrev pub SkipsNoNumbers : History Q S M P → Event Q S M P → Reply Q → Type 0
  SkipsNoNumbers history event reply = beginning.config.skips ≡ Disabled → (space : SpaceId) (number : ℕ)
      → goes_out (event, reply) space number ≡ true → (m : ℕ) → IsAboveAllSent space m history → number ≤ m
