-- Cubes and their roots; what saturates at 128 bits exceeds 64 bits.
use Rattle.std.proofs.Common.{◌≡◌, ℕ, zero, suc, ◌+◌, ◌-◌, ◌*◌, ◌/◌, ◌^◌, ◌<◌, ◌≤◌, min, Bool, true, false, nat_le, arith, refl, inl, inr}
use Rattle.std.specs.Prelude.{if◌then◌else◌}
use Rattle.std.proofs.lemmas.Bool.{cases_lt}
use Rattle.std.proofs.lemmas.Bool.Decides.{nat_tests}
use Rattle.std.proofs.lemmas.Nat.{mul-le}
use Rattle.std.proofs.Math.Nat.{mul-div-le, lt-mul-div-succ, mul-le-mul_left}
use Rattle.recovery_base.specs.Units.{largest_u64}
use Rattle.recovery_cubic.specs.Curve.{cube, cube_root, k_of, micros, IsCubeRoot, IsGreatestK}

pub cube-le : (a b : ℕ) → a ≤ b → cube a ≤ cube b
cube-le a b less = mul-le (a * a) a (b * b) b (mul-le a a b b less less) less

-- ---- the function returns the largest

root-next : (n root : ℕ) (test : Bool) → nat_le (cube (root + 1)) (suc n) ≡ test → IsCubeRoot n root
    → IsCubeRoot (suc n) (if test then root + 1 else root)
root-next n root true is before =
    let up = cube-le (root + 1) (root + 2) (omega arith) in
    record {
      fits = grind (arith, nat_tests);
      greatest = omega (arith, before.greatest);
    }
root-next n root false is before = record {
  fits = omega (arith, before.fits);
  greatest = grind (arith, nat_tests);
}

pub root_is : (n : ℕ) → IsCubeRoot n (cube_root n)
unfolding cube_root
root_is zero = record { fits = omega arith; greatest = omega arith }
root_is (suc n) = root-next n (cube_root n) (nat_le (cube (cube_root n + 1)) (suc n)) refl (root_is n)

-- ---- there is one largest

not-less : (n a b : ℕ) → IsCubeRoot n a → IsCubeRoot n b → a < b → ⊥
not-less n a b here there less = let up = cube-le (a + 1) b (omega arith) in omega (arith, here.greatest, there.fits)

pub one_root : (n a b : ℕ) → IsCubeRoot n a → IsCubeRoot n b → a ≡ b
one_root n a b here there = elim (cases_lt a b) [
  | inl less ↦ absurd (not-less n a b here there less)
  | inr up ↦ elim (cases_lt b a) [
    | inl less ↦ absurd (not-less n b a there here less)
    | inr down ↦ omega arith
  ]
]

-- if two consecutive numbers enclose it, it is the smaller
pub root_between : (n root above : ℕ) → cube root ≤ n → n < cube above → above ≤ root + 1 → root ≡ cube_root n
root_between n root above fits under near =
    let up = cube-le above (root + 1) near in
    one_root n root (cube_root n) (record { fits = fits; greatest = omega (arith, under, up) }) (root_is n)

-- ---- K

pub greatest_k : (datagram distance : ℕ) → 0 < datagram
    → IsGreatestK micros datagram distance (k_of datagram distance)
greatest_k datagram distance positive =
    let n = 5 * 10 ^ 18 * distance in
    let q = n / (2 * datagram) in
    let root = root_is q in
    let least : 2 * datagram * q ≤ n = mul-div-le n (2 * datagram) in
    let above : n < 2 * datagram * (q + 1) = lt-mul-div-succ n (omega (arith, positive)) in
    let up : 2 * datagram * cube (cube_root q) ≤ 2 * datagram * q = mul-le-mul_left (2 * datagram) root.fits in
    let down : 2 * datagram * (q + 1) ≤ 2 * datagram * cube (cube_root q + 1) =
    mul-le-mul_left (2 * datagram) (omega (arith, root.greatest)) in
    record { fits = omega (arith, up, least); greatest = omega (arith, above, down) }

-- there is one
k-not-less : (a_second datagram distance a b : ℕ) → IsGreatestK a_second datagram distance a
    → IsGreatestK a_second datagram distance b → a < b → ⊥
k-not-less a_second datagram distance a b here there less =
    let up = mul-le-mul_left (2 * datagram) (cube-le (a + 1) b (omega (arith, less))) in
    omega (arith, here.greatest, there.fits, up)

pub one_k : (a_second datagram distance a b : ℕ) → IsGreatestK a_second datagram distance a
    → IsGreatestK a_second datagram distance b → a ≡ b
one_k a_second datagram distance a b here there = elim (cases_lt a b) [
  | inl less ↦ absurd (k-not-less a_second datagram distance a b here there less)
  | inr up ↦ elim (cases_lt b a) [
    | inl less ↦ absurd (k-not-less a_second datagram distance b a there here less)
    | inr down ↦ omega arith
  ]
]

-- ---- products of 128 bits

pub cube_fits : (n : ℕ) → n < 6981463658332 → cube n < 2 ^ 128
cube_fits n low = let up = cube-le n 6981463658331 (omega (arith, low)) in omega (arith, up)

-- a saturated 128-bit product, divided, is that of the whole one, as far as 64 bits go
pub stops : (x y : ℕ)
    → min (min (min x (2 ^ 128 - 1) * y) (2 ^ 128 - 1) / (5 * 10 ^ 18)) largest_u64
    ≡ min (x * y / (5 * 10 ^ 18)) largest_u64
stops x zero = omega arith
stops x (suc y) =
    let up : x ≤ x * suc y = omega arith in
    let cut : min x (2 ^ 128 - 1) ≤ min x (2 ^ 128 - 1) * suc y = omega arith in
    elim (cases_lt x (2 ^ 128)) [
      | inl fits ↦ let same : min x (2 ^ 128 - 1) ≡ x = omega (arith, fits) in rw same (omega arith)
      | inr over ↦ omega (arith, up, cut, over)
    ]

-- how much Reno's window grows, before it is divided
pub step_fits : (alpha datagram bytes : ℕ) → alpha ≤ 17 → datagram < 2 ^ 16 → bytes < 2 ^ 64
    → 2 ^ 32 * alpha * datagram * bytes < 2 ^ 120
step_fits alpha datagram bytes few small fits =
    let here = mul-le (2 ^ 32 * alpha) datagram (2 ^ 32 * 17) (2 ^ 16) (omega arith) (omega (arith, small)) in
    let all = mul-le (2 ^ 32 * alpha * datagram) bytes (2 ^ 32 * 17 * 2 ^ 16) (2 ^ 64) here (omega (arith, fits)) in
    omega (arith, all)
