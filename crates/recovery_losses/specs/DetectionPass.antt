-- The result of a loss detection pass for the packets below a number.
use Rattle.std.specs.Prelude.{◌≡◌, ℕ, ◌<◌, min, List, Option, Some}
use Rattle.std.specs.Option.{ForSome}
use Rattle.recovery_base.specs.Units.{largest_u64}
use Rattle.recovery_spaces.specs.Packets.{Packets}
use Rattle.recovery_losses.specs.declared.looks.LossPass.{LossPass}
use Rattle.recovery_losses.specs.declared.tally.Tally.{Tally}
use Rattle.recovery_losses.specs.Losses.{AreLost, IsEarliest, IsLostBelow, IsDeclaredLost, bytes_counted, last_counted, without_all}
use Rattle.recovery_losses.specs.PersistentCongestion.{IsEndAt, IsLossRun}

pub record PassSoFar {P M : Type 0} (look : LossPass) (old : Packets P M) (end : ℕ) (numbers : List ℕ) (tally : Tally)
    (new : Packets P M) : Type 0 where
  pub lost : AreLost look old end numbers
  pub taken : new ≡ without_all old numbers
  pub probe : ForSome tally.probe (λ number. (look.probe ≡ Some number) × (number < end) × IsLostBelow look old number)
  pub earliest : IsEarliest look old end (IsDeclaredLost numbers tally.probe) tally.loss_time
  pub bytes : tally.bytes ≡ min (bytes_counted look old numbers) largest_u64
  pub last_sent : tally.last_sent ≡ last_counted look old numbers
  -- the numbers that are lost now, in consecutive runs
  pub run :
      IsLossRun (IsDeclaredLost numbers tally.probe) (IsEndAt look old numbers) look.skipped look.period end tally.run

-- each lost packet below a number was tried once: it was declared lost, or allocation failed; the MTU probe is tried
-- last
pub record TriesEachLost {P M : Type 0} (look : LossPass) (old : Packets P M) (end : ℕ) (tried : List ℕ)
    (probe : Option ℕ) : Type 0 where
  pub lost : AreLost look old end tried
  pub each : (number : ℕ) → IsLostBelow look old number → number < end → IsDeclaredLost tried probe number
