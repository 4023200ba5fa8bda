-- Packets are resolved once (RFC 9002, A.7 and A.10): no number of a space is acknowledged twice, lost twice, or both
-- acknowledged and lost.
use Rattle.std.specs.Prelude.{ℕ, ◌+◌, ◌≤◌}
use Rattle.recovery_base.specs.declared.below.SpaceId.{SpaceId}
use Rattle.recovery_history.specs.History.{History}
use Rattle.recovery_history.specs.Promises.Fates.{times, is_acked, is_lost}

module _ {Q S M P : Type 0} where
  -- how often a number of a space was acknowledged or lost
  abbrev pub departures_of : SpaceId → ℕ → History Q S M P → ℕ
  departures_of space number history = times (is_acked space number) history + times (is_lost space number) history

  abbrev pub ResolvedOnce : History Q S M P → Type 0
  ResolvedOnce history = (space : SpaceId) (number : ℕ) → departures_of space number history ≤ 1
