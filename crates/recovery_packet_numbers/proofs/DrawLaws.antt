-- A draw is in its range and leaves random words that fit 64 bits, so that each skip is below a power of two. Laws for
-- users rest on it.
use Rattle.std.proofs.Common.{◌≡◌, ℕ, zero, suc, ◌+◌, ◌-◌, ◌*◌, ◌/◌, ◌%◌, ◌<◌, ◌≤◌, ◌^◌, [], ◌∷◌, max, Option, None, Some, Bool, true, false, refl, arith}
use Rattle.std.specs.Prelude.{nat_le, if◌then◌else◌}
use Rattle.std.proofs.lemmas.Nat.{mul-le}
use Rattle.std.proofs.lemmas.Option.{none-some, same_Some}
use Rattle.std.proofs.Math.Pow.{pow_mono}
use Rattle.rand_core.specs.Stream.{u64_call, Stream, next_u64}
use Rattle.rand.specs.Draw.{draw_map}
use Rattle.rand.specs.Uniform.{canon}
use Rattle.recovery_packet_numbers.specs.declared.filter.Skips.{Skips}
use Rattle.recovery_packet_numbers.specs.declared.filter.Skips.TheVariants.{Drawn, Starting, Disabled}
use Rattle.recovery_packet_numbers.specs.Skips.{IsSkips, AreWords, draw, first_skip, next_skip, skip_at}
use Rattle.recovery_packet_numbers.proofs.DrawRangeLaws.{range_wide}

-- the high word of a product of a random word and a range is below the range, and a carry that stays open leaves room
high_below : (m range w hi lo : ℕ) → w < m → 0 < range → range ≤ m → hi * m + lo ≡ w * range
    → (hi < range) × (m - range < lo → hi + 1 < range)
high_below m range w hi lo fits some within product =
    let most : (w + 1) * range ≤ m * range = mul-le (w + 1) range m range (omega arith) (omega arith) in
    let least : range ≤ hi → range * m ≤ hi * m = λ over. mul-le range m hi m over (omega arith) in
    let next : range ≤ hi + 1 → range * m ≤ (hi + 1) * m = λ over. mul-le range m (hi + 1) m over (omega arith) in
    grind arith

settled_below : (m range hi lo : ℕ) (next : Stream → ℕ × Stream) (rest : Stream) (opens : Bool) → hi < range
    → (opens ≡ true → hi + 1 < range)
    → (if opens then draw_map (λ w. if nat_le m (lo + w * range / m) then hi + 1 else hi) next rest else (hi, rest)).0
    < range
settled_below m _ hi lo _ _ true below room = grind arith
settled_below m _ hi lo _ _ false below _ = below

canon_below : (m range : ℕ) (next : Stream → ℕ × Stream) (words : Stream) → (next words).0 < m → 0 < range → range ≤ m
    → (canon m next range words).0 < range
unfolding canon
canon_below m range next words fits some within =
    let product = (next words).0 * range in
    let parts : product / m * m + product % m ≡ product = omega arith in
    let high = high_below m _ _ _ _ fits some within parts in
    settled_below m _ _ _ next _ _ high.0
    (λ opens. grind arith)

-- ---- words

first_fits : (words : Stream) → AreWords words → (next_u64 words).0 < 2 ^ 64
unfolding next_u64
first_fits _ fit = fit []

rest_fits : (words : Stream) → AreWords words → AreWords (next_u64 words).1
unfolding next_u64
rest_fits _ fit = λ calls. fit (u64_call ∷ calls)

settled_fits : (read : ℕ → ℕ) (hi : ℕ) (rest : Stream) (opens : Bool) → AreWords rest
    → AreWords (if opens then draw_map read next_u64 rest else (hi, rest)).1
settled_fits _ hi rest true fit = rest_fits _ fit
settled_fits _ hi _ false fit = fit

canon_fits : (m range : ℕ) (words : Stream) → AreWords words → AreWords (canon m next_u64 range words).1
unfolding canon
canon_fits m range words fit =
    let hi = (next_u64 words).0 * range / m in
    let lo = (next_u64 words).0 * range % m in
    settled_fits (λ w. if nat_le m (lo + w * range / m) then hi + 1 else hi) hi _
    _ (rest_fits _ fit)

draw_below : (low end : ℕ) (words : Stream) → AreWords words → low < end → end ≤ 2 ^ 64 → (draw low end words).0 < end
draw_below low end words fit some within = omega (
  arith,
  some,
  canon_below _ (end - low) next_u64 words
      (first_fits _ fit) (omega arith) (omega arith),
)

-- ---- skips

module _ (skips : Skips) (words : Stream) (is_skips : IsSkips skips) (fit : AreWords words) where
  next_fits : (exponent : ℕ) (before : Option ℕ × Stream) → AreWords before.1 → AreWords (next_skip exponent before).1
  next_fits _ (None, _) fits = fits
  next_fits _ (Some s, rest) fits = canon_fits (2 ^ 64) _ rest fits

  skip_fits : (k : ℕ) → AreWords (skip_at skips words k).1
  skip_fits zero = elim skips as (λ s. AreWords (first_skip s words).1) [
    | Drawn ↦ canon_fits (2 ^ 64) 64 words fit
    | Starting n ↦ fit
    | Disabled ↦ fit
  ]
  skip_fits (suc k) = next_fits (6 + k) _ (skip_fits k)

  first_below : (s : Skips) → IsSkips s → (t : ℕ) → (first_skip s words).0 ≡ Some t → t < 64
  first_below Drawn _ t is =
      omega (arith, same_Some _ t is, draw_below 0 64 words fit (omega arith) (omega arith))
  first_below (Starting n) sound t is = omega (arith, same_Some _ t is)
  first_below Disabled _ t is = absurd (none-some t is)

  next_below : (exponent t : ℕ) (skip : Option ℕ) (rest : Stream) → AreWords rest → 6 ≤ exponent → exponent ≤ 62
      → ((s : ℕ) → skip ≡ Some s → s < 2 ^ exponent) → (next_skip exponent (skip, rest)).0 ≡ Some t
      → t < 2 ^ (exponent + 1)
  next_below _ t None _ _ _ _ _ is = absurd (none-some t is)
  next_below exponent t (Some s) rest fits least most below is =
      let small : exponent + 1 ≤ 64 = omega arith in
      omega (
        arith,
        same_Some _ t is,
        draw_below (max (2 ^ exponent) (s + 2)) (2 ^ (exponent + 1)) rest fits
            (range_wide exponent s least (below s refl)) (pow_mono small),
      )

  -- of the skips that a filter can have, the one counted k from 0 is below 2^(6 + k)
  pub skip_below_power : (k t : ℕ) → k ≤ 57 → (skip_at skips words k).0 ≡ Some t → t < 2 ^ (6 + k)
  skip_below_power zero t _ is = first_below _ is_skips t is
  skip_below_power (suc k) t small is =
      let same : 6 + k + 1 ≡ 6 + suc k = omega arith in
      rw same at (next_below _ t _ _ (skip_fits k)
      (omega arith) (omega arith) (λ s here. skip_below_power k s (omega arith) here) is)
