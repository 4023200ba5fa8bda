-- At most four bursts are stored, whatever is acknowledged and lost. `DiscoveryLaws` rests on it.
use Rattle.std.proofs.Common.{ℕ, ◌≤◌, Bool, List, [], ◌∷◌, length, arith, length-append}
use Rattle.std.specs.Prelude.{filter}
use Rattle.std.proofs.lemmas.Bool.Decides.{nat_tests}
use Rattle.recovery_mtud.specs.Bursts.{LossBursts, AreBurstsSound, bursts_acked, with_burst}
use Rattle.recovery_mtud.proofs.BurstCounts.{length-in_place}

pub filter_fewer : (keeps : ℕ → Bool) (sizes : List ℕ) → length (filter keeps sizes) ≤ length sizes
filter_fewer keeps [] = omega arith
filter_fewer keeps (size ∷ sizes) = grind (arith, filter_fewer keeps sizes)

pub with_burst_few : (size : ℕ) (sizes : List ℕ) → length sizes ≤ 4 → length (with_burst size sizes) ≤ 4
with_burst_few size sizes few = grind (arith, nat_tests, length-append {A = ℕ}, length-in_place)

pub bursts_acked_sound : (number size : ℕ) (old : LossBursts) → AreBurstsSound old
    → AreBurstsSound (bursts_acked number size old)
bursts_acked_sound number size old sound = grind (arith, filter_fewer)
