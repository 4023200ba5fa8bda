-- Acknowledged (RFC 9002, A.7): a frame newly acknowledges exactly those of its numbers that are tracked by the events
-- before it. Such a packet was sent, and since then not acknowledged, lost, forgotten or discarded with its space.
use Rattle.std.specs.Prelude.{◌≡◌, ℕ, ◌↔◌, true, false, List}
use Rattle.recovery_base.specs.declared.below.SpaceId.{SpaceId}
use Rattle.recovery_losses.specs.Losses.{IsOneOf}
use Rattle.recovery_losses.specs.Frames.{IsInAckRanges}
use Rattle.recovery_history.specs.History.{History}
use Rattle.recovery_history.specs.Promises.Tracked.{is_tracked}
use Rattle.recovery_sender.specs.declared.sender.ends.Retransmitted.{Retransmitted}

module _ {Q S M P : Type 0} (space : SpaceId) where
  abbrev pub AcksTracked : List (ℕ × ℕ) → List ℕ → History Q S M P → Type 0
  AcksTracked ranges numbers past =
      (number : ℕ) → IsOneOf number numbers ↔ (IsInAckRanges number ranges × (is_tracked space number past ≡ true))

  -- all packets that a space tracks are declared lost, except those for which allocation failed (RFC 9002, 6.3 and 6.4)
  abbrev pub LosesWholeSpace : Retransmitted → History Q S M P → Type 0
  LosesWholeSpace all past = (number : ℕ) → (IsOneOf number all.numbers.items → is_tracked space number past ≡ true)
      × (all.is_cut ≡ false → is_tracked space number past ≡ true → IsOneOf number all.numbers.items)
