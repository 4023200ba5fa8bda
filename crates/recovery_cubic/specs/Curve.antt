-- The cubic curve (RFC 9438, 4.2), with whole numbers: bytes, and microseconds since the beginning of a stage of
-- congestion avoidance. C is 2/5 datagrams for each cubed second, which is 2·10^-18/5 for each cubed microsecond.
use Rattle.std.specs.Prelude.{ℕ, zero, suc, ◌+◌, ◌-◌, ◌*◌, ◌/◌, ◌<◌, ◌≤◌, ◌^◌, min, nat_le, if◌then◌else◌}
use Rattle.recovery_base.specs.Units.{largest_u64}
use Rattle.recovery_congestion.specs.NewReno.{sum_to_most}
use Rattle.recovery_cubic.specs.declared.curve.Curve.{Curve}

-- microseconds in a second
abbrev pub micros : ℕ
micros = 10 ^ 6

abbrev pub cube : ℕ → ℕ
cube n = n * n * n

-- the largest number whose cube is at most this one
pub record IsCubeRoot (n root : ℕ) : Type 0 where
  pub fits : cube root ≤ n
  pub greatest : n < cube (root + 1)

-- the same as a function: it increases by one whenever the next cube is reached
unfoldable pub cube_root : ℕ → ℕ
cube_root zero = 0
cube_root (suc n) = let root = cube_root n in if nat_le (cube (root + 1)) (suc n) then root + 1 else root

-- C·t^3 in bytes, rounded down, for datagrams of this size
abbrev pub rise : ℕ → ℕ → ℕ
rise datagram time = min (cube time * (2 * datagram) / (5 * cube micros)) largest_u64

-- K, in whole fractions of a second: the largest with C·K^3 at most the distance from the window to the plateau
pub record IsGreatestK (a_second datagram distance k : ℕ) : Type 0 where
  pub fits : 2 * datagram * cube k ≤ 5 * cube a_second * distance
  pub greatest : 5 * cube a_second * distance < 2 * datagram * cube (k + 1)

abbrev pub k_of : ℕ → ℕ → ℕ
k_of datagram distance = cube_root (5 * cube micros * distance / (2 * datagram))

-- from a window up to the plateau W_max, and beyond
abbrev pub curve_from : ℕ → ℕ → ℕ → Curve
curve_from w_max window datagram = record { w_max = w_max; k = k_of datagram (w_max - window); datagram = datagram }

-- immediately on the plateau: K is zero (RFC 9438, 4.8)
abbrev pub flat_curve : ℕ → ℕ → Curve
flat_curve window datagram = record { w_max = window; k = 0; datagram = datagram }

-- C·(t - K)^3 + W_max, with the distance from W_max rounded down
abbrev pub curve_at : Curve → ℕ → ℕ
curve_at curve time =
    if nat_le curve.k time then sum_to_most curve.w_max (rise curve.datagram (time - curve.k))
    else curve.w_max - rise curve.datagram (curve.k - time)
