-- The minimum RTT is the smallest of the samples: `update` rests on it.
use Rattle.std.specs.Prelude.{ℕ, ◌≡◌, min, List, [], ◌∷◌, Some, true, is_some}
use Rattle.std.proofs.Common.{arith, refl}
use Rattle.recovery_congestion.specs.Rtt.{Rtt, KeepsLeast, least_of, rtt_by, rtt_updated}

-- after a sample there is a smoothed value, and the minimum of all
least_by : (initial : ℕ) (sample : ℕ × ℕ) (earlier : List (ℕ × ℕ)) → let rtt = rtt_by initial (sample ∷ earlier) in
    (is_some rtt.smoothed ≡ true) × (rtt.least ≡ least_of initial (sample ∷ earlier))
least_by initial sample [] = (refl, refl)
least_by initial sample (before ∷ earlier) = grind (arith, least_by initial before earlier)

-- the same for one more sample after any others
pub keeps_least : (delay sample : ℕ) (old : Rtt) → KeepsLeast old (delay, sample) (rtt_updated delay sample old)
keeps_least delay sample old initial earlier is = rw is (least_by initial (delay, sample) earlier).1

-- once there is a smoothed value, the smaller of the minimum and the sample is the minimum of them all
pub keeps_lesser : (delay sample s : ℕ) (old : Rtt) (initial : ℕ) (earlier : List (ℕ × ℕ)) → old.smoothed ≡ Some s
    → old ≡ rtt_by initial earlier → min old.least sample ≡ least_of initial ((delay, sample) ∷ earlier)
keeps_lesser delay sample s old initial earlier smoothed is =
    grind (arith, smoothed, keeps_least delay sample old initial earlier is)
