-- The curve of RFC 9438, 4.2, as a real number, and how near the curve in whole microseconds and bytes is to it.
use Rattle.std.specs.Prelude.{ℕ, ◌+◌, ◌-◌, ◌*◌, ◌/◌, ◌<◌, ◌≤◌}
use Rattle.std.specs.Int.{abs_diff}
use Rattle.recovery_base.specs.Units.{microseconds, seconds}
use Rattle.recovery_cubic.specs.declared.curve.Curve.{Curve}
use Rattle.recovery_cubic.specs.Curve.{cube, curve_at, micros, IsGreatestK}

-- two numbers differ by at most this
pub record AreNear (a b apart : ℕ) : Type 0 where
  pub below : a ≤ b + apart
  pub above : b ≤ a + apart

-- at a time in nanoseconds the real curve moves in a microsecond by at most a byte less than a datagram. For 1200 bytes
-- that is 15 minutes to both sides of K
abbrev pub IsSteady : Curve → ℕ → Type 0
IsSteady curve time =
    let apart = abs_diff (time / microseconds) curve.k in
    2 * curve.datagram * cube (apart + 1) + 5 * cube micros
    ≤ 2 * curve.datagram * cube apart + 5 * cube micros * curve.datagram

-- K in fractions of a nanosecond: with more and more of them it becomes the cube root of the RFC. Then W(t) = C·(t -
-- K)^3 + W_max is within one datagram of the curve. Here it is multiplied by 5·s^3, if a second has s fractions
abbrev pub IsNearReal : Curve → ℕ → ℕ → Type 0
IsNearReal curve window time = (a_nano k : ℕ) → 0 < a_nano
    → let a_second = seconds * a_nano in
    let one = 5 * cube a_second in
    let way = 2 * curve.datagram * cube (abs_diff (time * a_nano) k) in
    IsGreatestK a_second curve.datagram (curve.w_max - window) k
    → (k ≤ time * a_nano
    → AreNear (one * curve_at curve (time / microseconds)) (one * curve.w_max + way) (one * curve.datagram))
    × (time * a_nano ≤ k
    → AreNear (one * curve_at curve (time / microseconds) + way) (one * curve.w_max) (one * curve.datagram))
