-- The curve in whole microseconds and bytes is within one datagram of the real one.
use Rattle.std.proofs.Common.{◌≡◌, ℕ, zero, suc, ◌+◌, ◌-◌, ◌*◌, ◌/◌, ◌^◌, ◌<◌, ◌≤◌, Bool, true, false, nat_le, ap, subst, refl, arith, inl, inr}
use Rattle.std.specs.Prelude.{if◌then◌else◌}
use Rattle.std.specs.Int.{abs_diff}
use Rattle.std.proofs.lemmas.Bool.{cases_lt}
use Rattle.std.proofs.lemmas.Bool.Decides.{nat_tests}
use Rattle.std.proofs.Math.Nat.{mul-le-mul_left, mul-le-mul_right}
use Rattle.recovery_base.specs.Units.{largest_u64}
use Rattle.recovery_congestion.specs.NewReno.{sum_to_most}
use Rattle.recovery_cubic.specs.declared.curve.Curve.{Curve}
use Rattle.recovery_cubic.specs.Curve.{cube, micros, rise, curve_at, IsGreatestK}
use Rattle.recovery_cubic.specs.RealCurve.{AreNear, IsSteady, IsNearReal}
use Rattle.recovery_cubic.proofs.CurveLaws.{cube-le}

-- ---- K in fractions is in the microsecond of K

cube_of : (a b : ℕ) → cube (a * b) ≡ cube a * cube b
cube_of a b = omega arith

-- a microsecond has q fractions
k-from : (q datagram distance whole k : ℕ) → IsGreatestK micros datagram distance whole
    → IsGreatestK (micros * q) datagram distance k → whole * q ≤ k
k-from q datagram distance whole k coarse fine = elim (cases_lt k (whole * q)) [
  | inl less ↦
      let up : cube (k + 1) ≤ cube (whole * q) = cube-le (k + 1) (whole * q) (omega (arith, less)) in
      let here = mul-le-mul_left (2 * datagram) up in
      let there = mul-le-mul_left (cube q) coarse.fits in
      absurd (omega (arith, fine.greatest, here, there))
  | inr enough ↦ enough
]

k-below : (q datagram distance whole k : ℕ) → 0 < q → IsGreatestK micros datagram distance whole
    → IsGreatestK (micros * q) datagram distance k → k < (whole + 1) * q
k-below q datagram distance whole k some coarse fine = elim (cases_lt k ((whole + 1) * q)) [
  | inl less ↦ less
  | inr more ↦
      let up : cube ((whole + 1) * q) ≤ cube k = cube-le ((whole + 1) * q) k more in
      let here = mul-le-mul_left (2 * datagram) up in
      let one : 1 ≤ cube q = cube-le 1 q some in
      let next : 5 * cube micros * distance + 1 ≤ 2 * datagram * cube (whole + 1) = omega (arith, coarse.greatest) in
      let there = mul-le-mul_left (cube q) next in
      absurd (omega (arith, fine.fits, here, there, one))
]

-- ---- cubes of distances

-- if y fractions are at most one whole unit more than x, and at most one less
cube-up : (q x y : ℕ) → y ≤ (x + 1) * q → cube y ≤ cube (x + 1) * cube q
cube-up q x y fits = let up = cube-le y ((x + 1) * q) fits in omega (arith, up, cube_of (x + 1) q)

cube-down : (q x y : ℕ) → x * q ≤ y + q → 2 * cube x * cube q ≤ cube y + cube (x + 1) * cube q
cube-down q zero y fits = omega arith
cube-down q (suc x) y fits =
    let down : cube (x * q) ≤ cube y = cube-le (x * q) y (omega (arith, fits)) in
    let bend : 2 * cube (suc x) ≤ cube x + cube (suc x + 1) = omega arith in
    let scaled = mul-le-mul_left (cube q) bend in
    omega (arith, down, scaled, cube_of x q)

-- a steady curve, in fractions: c is twice the datagram, d one byte
steady-up : (c d q datagram x y v : ℕ) → c * cube (x + 1) + d ≤ c * cube x + d * datagram
    → c * cube x < d * (v + 1) → cube y ≤ cube (x + 1) * cube q
    → c * cube y ≤ d * cube q * v + d * cube q * datagram
steady-up c d q datagram x y v steady floor up =
    let here = mul-le-mul_left c up in
    let one = mul-le-mul_left (cube q) steady in
    let two = mul-le-mul_left (cube q) (let h : c * cube x + 1 ≤ d * (v + 1) = omega (arith, floor) in h) in
    omega (arith, here, one, two)

steady-down : (c d q datagram x y v : ℕ) → c * cube (x + 1) + d ≤ c * cube x + d * datagram
    → d * v ≤ c * cube x → 2 * cube x * cube q ≤ cube y + cube (x + 1) * cube q
    → d * cube q * v ≤ c * cube y + d * cube q * datagram
steady-down c d q datagram x y v steady floor down =
    let here = mul-le-mul_left c down in
    let one = mul-le-mul_left (cube q) steady in
    let two = mul-le-mul_left (cube q) floor in
    omega (arith, here, one, two)

-- ---- all together, over plain numbers: t whole microseconds of q fractions each, T fractions

-- the distance, rounded down: v bytes for x microseconds
record Floors (datagram x v : ℕ) : Type 0 where
  low : 5 * cube micros * v ≤ 2 * datagram * cube x
  high : 2 * datagram * cube x < 5 * cube micros * (v + 1)

floors : (datagram x : ℕ) → Floors datagram x (cube x * (2 * datagram) / (5 * cube micros))
floors datagram x = record { low = omega arith; high = omega arith }

record Apart (q x y : ℕ) : Type 0 where
  most_apart : y ≤ (x + 1) * q
  least_apart : x * q ≤ y + q

-- near K the real curve differs by at most a datagram
record Ways (datagram q x y v : ℕ) : Type 0 where
  up : 2 * datagram * cube y ≤ 5 * cube micros * cube q * v + 5 * cube micros * cube q * datagram
  down : 5 * cube micros * cube q * v ≤ 2 * datagram * cube y + 5 * cube micros * cube q * datagram

ways : (datagram q x y v : ℕ)
    → 2 * datagram * cube (x + 1) + 5 * cube micros ≤ 2 * datagram * cube x + 5 * cube micros * datagram
    → Floors datagram x v → Apart q x y → Ways datagram q x y v
ways datagram q x y v steady f a = record {
  up = steady-up (2 * datagram) (5 * cube micros) q datagram x y v steady f.high (cube-up q x y a.most_apart);
  down = steady-down (2 * datagram) (5 * cube micros) q datagram x y v steady f.low (cube-down q x y a.least_apart);
}

-- after K, before it, and in its own microsecond
behind : (one datagram plateau v c : ℕ) → c ≤ one * v + one * datagram → one * v ≤ c + one * datagram
    → AreNear (one * (plateau + v)) (one * plateau + c) (one * datagram)
behind one datagram plateau v c up down = record { below = omega (arith, down); above = omega (arith, up) }

before : (one datagram plateau w v c : ℕ) → w + v ≡ plateau → c ≤ one * v + one * datagram
    → one * v ≤ c + one * datagram → AreNear (one * w + c) (one * plateau) (one * datagram)
before one datagram plateau w v c is up down =
    let scaled : one * (w + v) ≡ one * plateau = ap (λ n. one * n) is in
    let all : one * w + one * v ≡ one * plateau = omega (arith, scaled) in
    record { below = omega (arith, all, up); above = omega (arith, all, down) }

-- a time and K in fractions, and the whole microseconds in which they are
record InParts (q t T k K : ℕ) : Type 0 where
  time_from : t * q ≤ T
  time_below : T < (t + 1) * q
  k_from : k * q ≤ K
  k_below : K < (k + 1) * q

abbrev one : ℕ → ℕ
one q = 5 * cube micros * cube q

abbrev Steady : ℕ → ℕ → Type 0
Steady datagram x = 2 * datagram * cube (x + 1) + 5 * cube micros ≤ 2 * datagram * cube x + 5 * cube micros * datagram

apart-later : (q t T k K x : ℕ) → InParts q t T k K → x + k ≡ t → Apart q x (T - K)
apart-later q t T k K x p is =
    let all : x * q + k * q ≡ t * q = (let h : (x + k) * q ≡ t * q = ap (λ n. n * q) is in omega (arith, h)) in
    record {
      most_apart = omega (arith, all, p.time_below, p.k_from);
      least_apart = omega (arith, all, p.time_from, p.k_below);
    }

apart-sooner : (q t T k K x : ℕ) → InParts q t T k K → x + t ≡ k → Apart q x (K - T)
apart-sooner q t T k K x p is =
    let all : x * q + t * q ≡ k * q = (let h : (x + t) * q ≡ k * q = ap (λ n. n * q) is in omega (arith, h)) in
    record {
      most_apart = omega (arith, all, p.time_from, p.k_below);
      least_apart = omega (arith, all, p.time_below, p.k_from);
    }

-- K is before a time, in whole microseconds
real-later : (datagram plateau q t T k K x v : ℕ) → InParts q t T k K → x + k ≡ t → Steady datagram x
    → Floors datagram x v
    → (K ≤ T → AreNear (one q * (plateau + v)) (one q * plateau + 2 * datagram * cube (T - K)) (one q * datagram))
    × (T ≤ K → AreNear (one q * (plateau + v) + 2 * datagram * cube (K - T)) (one q * plateau) (one q * datagram))
real-later datagram plateau q t T k K x v p is steady f = (
  λ less.
      let w = ways datagram q x (T - K) v steady f (apart-later q t T k K x p is) in
      behind (one q) datagram plateau v _ w.up w.down,
  λ more. elim (cases_lt k t) [
    | inl below ↦
        let far = mul-le-mul_right q (let h : k + 1 ≤ t = omega (arith, below) in h) in
        absurd (omega (arith, far, more, p.time_from, p.k_below))
    | inr same ↦
        let none : x ≡ 0 = omega (arith, is, same) in
        let at_none : 2 * datagram * cube x ≡ 2 * datagram * cube 0 = ap (λ n. 2 * datagram * cube n) none in
        let nothing : 2 * datagram * cube x ≡ 0 = omega (arith, at_none) in
        let empty : v ≡ 0 = omega (arith, f.low, nothing) in
        let w = ways datagram q x (K - T) v steady f (apart-sooner q t T k K x p (omega (arith, is, same, none))) in
        let flat : one q * v ≡ 0 = (let h : one q * v ≡ one q * 0 = ap (λ n. one q * n) empty in omega (arith, h)) in
        record { below = omega (arith, w.up, flat); above = omega arith }
  ],
)

-- K is after it
real-sooner : (datagram plateau q t T k K x v w : ℕ) → InParts q t T k K → x + t ≡ k → 0 < x → Steady datagram x
    → Floors datagram x v → w + v ≡ plateau
    → (K ≤ T → AreNear (one q * w) (one q * plateau + 2 * datagram * cube (T - K)) (one q * datagram))
    × (T ≤ K → AreNear (one q * w + 2 * datagram * cube (K - T)) (one q * plateau) (one q * datagram))
real-sooner datagram plateau q t T k K x v w p is some steady f down = (
  λ more.
      let far = mul-le-mul_right q (let h : t + 1 ≤ k = omega (arith, is, some) in h) in
      absurd (omega (arith, far, more, p.time_below, p.k_from)),
  λ less.
      let way = ways datagram q x (K - T) v steady f (apart-sooner q t T k K x p is) in
      before (one q) datagram plateau w v _ down way.up way.down,
)

module _ (curve : Curve) (window time : ℕ) (some : 0 < curve.datagram) (within : curve.w_max ≤ largest_u64)
    (whole : IsGreatestK micros curve.datagram (curve.w_max - window) curve.k)
    (room : curve_at curve (time / 1000) < largest_u64) (steady : IsSteady curve time) where
  in_parts : (a k : ℕ) → 0 < a → IsGreatestK (micros * (1000 * a)) curve.datagram (curve.w_max - window) k
      → InParts (1000 * a) (time / 1000) (time * a) curve.k k
  in_parts a k any fine =
      let low : 1000 * (time / 1000) ≤ time = omega arith in
      let high : time + 1 ≤ 1000 * (time / 1000 + 1) = omega arith in
      record {
        time_from = omega (arith, mul-le-mul_right a low);
        time_below = omega (arith, mul-le-mul_right a high, any);
        k_from = k-from (1000 * a) curve.datagram (curve.w_max - window) curve.k k whole fine;
        k_below = k-below (1000 * a) curve.datagram (curve.w_max - window) curve.k k (omega (arith, any)) whole fine;
      }

  abbrev Near : ℕ → ℕ → ℕ → Type 0
  Near a k w =
      (k ≤ time * a → AreNear (one (1000 * a) * w)
      (one (1000 * a) * curve.w_max + 2 * curve.datagram * cube (time * a - k)) (one (1000 * a) * curve.datagram))
      × (time * a ≤ k → AreNear (one (1000 * a) * w + 2 * curve.datagram * cube (k - time * a))
      (one (1000 * a) * curve.w_max) (one (1000 * a) * curve.datagram))

  near_by : (a k : ℕ) (test : Bool) → nat_le curve.k (time / 1000) ≡ test
      → InParts (1000 * a) (time / 1000) (time * a) curve.k k
      → (if test then sum_to_most curve.w_max (rise curve.datagram (time / 1000 - curve.k))
      else curve.w_max - rise curve.datagram (curve.k - time / 1000)) < largest_u64
      → Near a k (if test then sum_to_most curve.w_max (rise curve.datagram (time / 1000 - curve.k))
      else curve.w_max - rise curve.datagram (curve.k - time / 1000))
  near_by a k true is parts less =
      let later : curve.k ≤ time / 1000 = grind (arith, nat_tests) in
      let x = time / 1000 - curve.k in
      let v = cube x * (2 * curve.datagram) / (5 * cube micros) in
      let same : sum_to_most curve.w_max (rise curve.datagram x) ≡ curve.w_max + v = omega (arith, less) in
      let apart : abs_diff (time / 1000) curve.k ≡ x = omega (arith, later) in
      rw same (real-later curve.datagram curve.w_max (1000 * a) (time / 1000) (time * a) curve.k k x v parts
      (omega (arith, later)) (subst (λ n. Steady curve.datagram n) apart steady) (floors curve.datagram x))
  near_by a k false is parts less =
      let sooner : time / 1000 < curve.k = grind (arith, nat_tests) in
      let x = curve.k - time / 1000 in
      let v = cube x * (2 * curve.datagram) / (5 * cube micros) in
      let up : cube x ≤ cube curve.k = cube-le x curve.k (omega arith) in
      let f = floors curve.datagram x in
      let low : v ≤ curve.w_max - window =
      omega (arith, f.low, mul-le-mul_left (2 * curve.datagram) up, whole.fits) in
      let same : rise curve.datagram x ≡ v = omega (arith, low, within) in
      let down : curve.w_max - rise curve.datagram x + v ≡ curve.w_max = omega (arith, low, same) in
      let apart : abs_diff (time / 1000) curve.k ≡ x = omega (arith, sooner) in
      real-sooner curve.datagram curve.w_max (1000 * a) (time / 1000) (time * a) curve.k k x v
      (curve.w_max - rise curve.datagram x) parts (omega (arith, sooner)) (omega (arith, sooner))
      (subst (λ n. Steady curve.datagram n) apart steady) f down

  -- times in fractions, as in the statement
  near_then : (a k : ℕ) → IsGreatestK (micros * (1000 * a)) curve.datagram (curve.w_max - window) k → 0 < a
      → Near a k (curve_at curve (time / 1000))
  near_then a k fine any =
      near_by a k (nat_le curve.k (time / 1000)) refl (in_parts a k any fine) room

  pub near_real : IsNearReal curve window time
  near_real a k any fine =
      let parts_of : 10 ^ 9 * a ≡ micros * (1000 * a) = omega arith in
      let near = near_then a k (subst (λ s. IsGreatestK s curve.datagram (curve.w_max - window) k) parts_of fine) any in
      let one_is : 5 * cube (10 ^ 9 * a) ≡ one (1000 * a) = omega arith in (
        λ less.
            let apart : abs_diff (time * a) k ≡ time * a - k = omega (arith, less) in
            rw (one_is, apart) (near.0 less),
        λ more.
            let apart : abs_diff (time * a) k ≡ k - time * a = omega (arith, more) in
            rw (one_is, apart) (near.1 more),
      )
