-- The bits of 32-bit words at their places, the lowest word first: moving them, setting one, and finding the highest
-- that is clear. `Dedup` rests on it.
use Rattle.std.proofs.Common.{◌≡◌, ℕ, suc, zero, ◌+◌, ◌-◌, ◌*◌, ◌/◌, ◌%◌, ◌^◌, ◌<◌, ◌≤◌, max, inl, inr, ◌⊎◌, ◌↔◌}
use Rattle.std.proofs.Common.{List, [], ◌∷◌, length, slice_index, slice_set, sym, ◌∙◌, ap, ap₂, refl}
use Rattle.std.proofs.Common.{arith}
use Rattle.std.specs.Prelude.{bit_and, bit_or}
use Rattle.std.specs.Int.{bit_at, bit_not, w32, leading_zeros}
use Rattle.std.proofs.Math.Nat.{lt_of_le_of_lt, pow-suc, le_refl}
use Rattle.std.proofs.lemmas.Nat.{leading_top, pow_pos, and_le_l, shr-shr, shr_below, one_shl}
use Rattle.std.proofs.lemmas.Bool.{cases_lt, cases_eq}
use Rattle.std.proofs.lemmas.Nat.Bits.{bit_at_cat_low, bit_at_cat_high, bit_at_above, bit_at-zero, bit_at_or}
use Rattle.std.proofs.lemmas.Nat.Bits.{bit_at_and, bit_at_not, bit_at_ones, bit_at_ones_above, bit_at-lt}
use Rattle.std.proofs.lemmas.Nat.Bits.{bit_at-pow_other, ones_shr, and_pow, bit_at_set_same, bit_at_set_other}
use Rattle.std.proofs.lemmas.List.{get_or_past, get_or-set_same, get_or-set_other}
use Rattle.recovery_base.specs.Received.{IsBitOne, IsBitSetAt, ShiftsBy, SetsBit, AreBitsSet, IsHighestClear}
use Rattle.recovery_base.proofs.KnownLaws.{AreWithin}

-- the bit at a place
abbrev pub bit_of : List ℕ → ℕ → ℕ
bit_of words place = bit_at (slice_index words (place / 32)) (place % 32)

-- a place by its word and its bit there
place_is : (words : List ℕ) (place word bit : ℕ) → bit < 32 → place ≡ 32 * word + bit →
    bit_of words place ≡ bit_at (slice_index words word) bit
place_is words place word bit within is =
    ap₂ (λ (k i : ℕ). bit_at (slice_index words k) i)
    (let e : place / 32 ≡ word = omega arith in e)
    (let e : place % 32 ≡ bit = omega arith in e)

-- the places of four words are below 128
pub places_within : (words : List ℕ) → length words ≡ 4 → AreWithin (IsBitSetAt words)
places_within words four place set =
    grind (arith, get_or_past words (place / 32) 0)

-- ---- a word that moves up, with the bits from the one below

-- the bits of n below a width
bit_in : (n w i : ℕ) → i < w → bit_at (n % 2 ^ w) i ≡ bit_at n i
bit_in n w i within =
    let whole : n / 2 ^ w * 2 ^ w + n % 2 ^ w ≡ n = omega arith in
    sym (bit_at_cat_low (n / 2 ^ w) w (n % 2 ^ w) i within) ∙ ap (λ k. bit_at k i) whole

-- what `moved` returns
abbrev pub Moved : ℕ → ℕ → ℕ → ℕ → Type 0
Moved word lower bits new =
    ((i : ℕ) → bits ≤ i → i < 32 → bit_at new i ≡ bit_at word (i - bits)) ×
    ((i : ℕ) → i < bits → bit_at new i ≡ bit_at lower (32 - bits + i))

pub moved_is : (word lower bits : ℕ) → bits < 32 → lower < 2 ^ 32 →
    Moved word lower bits (bit_or (word * 2 ^ bits % 2 ^ 32) (lower / 2 ^ 1 / 2 ^ (31 - bits)))
moved_is word lower bits short fits = (
  λ i above within. grind (
    arith,
    parts i within,
    bit_at_cat_high word bits 0 i (pow_pos bits) above,
    bit_at_above (lower / 2 ^ (32 - bits)) bits i small above,
  ),
  λ i below. grind (
    arith,
    parts i (omega arith),
    bit_at_cat_low word bits 0 i below,
    bit_at-zero i,
    shr-shr lower
        (32 - bits) i,
  ),
)
  where
    small : lower / 2 ^ (32 - bits) < 2 ^ bits
    small = let e : 32 ≡ bits + (32 - bits) = omega arith in shr_below lower bits (32 - bits) (rw (sym e) fits)

    parts : (i : ℕ) → i < 32 → bit_at (bit_or (word * 2 ^ bits % 2 ^ 32) (lower / 2 ^ 1 / 2 ^ (31 - bits))) i ≡
        max (bit_at (word * 2 ^ bits + 0) i) (bit_at (lower / 2 ^ (32 - bits)) i)
    parts i within =
        let e : 1 + (31 - bits) ≡ 32 - bits = omega arith in
        let plus : word * 2 ^ bits + 0 ≡ word * 2 ^ bits = omega arith in
        rw plus (bit_at_or (word * 2 ^ bits % 2 ^ 32) (lower / 2 ^ 1 / 2 ^ (31 - bits)) i
        ∙ ap₂ max (bit_in (word * 2 ^ bits) 32 i within) (ap (λ n. bit_at n i)
        (shr-shr lower 1 (31 - bits) ∙ ap (λ k. lower / 2 ^ k) e)))

-- ---- four words that move up

-- the four words, below them the largest number as the top bit of a fifth, and nothing below that
abbrev pub padded : List ℕ → List ℕ
padded words =
    0 ∷ 0 ∷ 0 ∷ 0 ∷ 2 ^ 31 ∷ slice_index words 0 ∷ slice_index words 1 ∷ slice_index words 2 ∷ slice_index words 3
    ∷ []

-- a word below four is one of four
four_words : (P : ℕ → Type 0) → P 0 → P 1 → P 2 → P 3 → (word : ℕ) → word < 4 → P word
four_words P a b c d zero _ = a
four_words P a b c d (suc zero) _ = b
four_words P a b c d (suc (suc zero)) _ = c
four_words P a b c d (suc (suc (suc zero))) _ = d
four_words P a b c d (suc (suc (suc (suc _)))) few = absurd (omega arith)

module _ (words : List ℕ) where
  below_greatest : (place : ℕ) → place < 159 → bit_of (padded words) place ≡ 0
  below_greatest place below = elim (cases_eq (place / 32) 4) [
    | inl same ↦ rw same (bit_at-pow_other 31 (place % 32) (omega arith))
    | inr other ↦ let none = bit_at-zero (place % 32) in four_words
        (λ word. bit_at (slice_index (padded words) word) (place % 32) ≡ 0) none none none none (place / 32)
        (omega arith)
  ]

  above_greatest : (place : ℕ) → place < 128 → bit_of (padded words) (160 + place) ≡ bit_of words place
  above_greatest place within = place_is (padded words) (160 + place) (5 + place / 32) (place % 32) (omega arith)
      (omega arith) ∙ four_words (λ word. bit_at (slice_index (padded words) (5 + word)) (place % 32) ≡ bit_at
      (slice_index words word) (place % 32)) refl refl refl refl (place / 32) (omega arith)

-- a move, place by place: what is added at the end, what is free below it, and what moves up
moves_by : (New Old : Type 0) (place by : ℕ) → (New → place < 128) → (place < 128 → place + 1 ≡ by → New)
    → (place < 128 → place + 1 < by → ¬ New) → (place < 128 → by ≤ place → New ↔ Old)
    → New ↔ ((place < 128) × ((place + 1 ≡ by) ⊎ ((by ≤ place) × Old)))
moves_by New Old place by within last below above = grind (arith, within, last, below, above)

module _ (words : List ℕ) (bits : ℕ) (short : bits < 32) where
  abbrev pub Up : ℕ → ℕ → ℕ → Type 0
  Up upper lower = Moved (slice_index (padded words) upper) (slice_index (padded words) lower) bits

  module _ (from by : ℕ) (some : 0 < by) (few : by ≤ 128) (is : by + 32 * from ≡ 128 + bits) (a b c d : ℕ)
      (first : Up (from + 1) from a) (second : Up (from + 2) (from + 1) b) (third : Up (from + 3) (from + 2) c)
      (fourth : Up (from + 4) (from + 3) d) where
    moved_place : (place : ℕ) → place < 128 → bit_of (a ∷ b ∷ c ∷ d ∷ []) place ≡ bit_of (padded words)
        (160 + place - by)
    moved_place place within = four_words (λ word. place / 32 ≡ word →
        bit_at (slice_index (a ∷ b ∷ c ∷ d ∷ []) word) (place % 32) ≡ bit_of (padded words) (160 + place - by))
        (at 0 (from + 1) from a first (omega arith, omega arith)) (at 1 (from + 2) (from + 1) b second
        (omega arith, omega arith))
        (at 2 (from + 3) (from + 2) c third (omega arith, omega arith)) (at 3 (from + 4) (from + 3) d fourth
        (omega arith, omega arith))
        (place / 32) (omega arith) refl
      where
        at : (word upper lower new : ℕ) → Up upper lower new → (upper ≡ lower + 1) × (lower ≡ from + word) → place / 32
            ≡ word
            → bit_at new (place % 32) ≡ bit_of (padded words) (160 + place - by)
        at word upper lower new moved above here = elim (cases_lt (place % 32) bits) [
          | inl carried ↦ moved.1 (place % 32) carried ∙ sym (place_is (padded words) (160 + place - by) lower
              (32 - bits + place % 32) (omega arith) (omega (arith, above)))
          | inr stays ↦ moved.0 (place % 32) stays (omega arith) ∙ sym (place_is (padded words) (160 + place - by) upper
              (place % 32 - bits) (omega arith) (omega (arith, above)))
        ]

    pub moved_words : ShiftsBy by (IsBitSetAt words) (IsBitSetAt (a ∷ b ∷ c ∷ d ∷ []))
    moved_words place = moves_by (IsBitSetAt (a ∷ b ∷ c ∷ d ∷ []) place) (IsBitSetAt words (place - by)) place by
        (places_within (a ∷ b ∷ c ∷ d ∷ []) refl place)
        (λ within same. let e : 160 + place - by ≡ 159 = omega arith in (rw e at (moved_place place within)))
        (λ within less set. let e = moved_place place within in
        omega (arith, e, set, below_greatest words (160 + place - by) (omega arith)))
        (λ within above. let e : 160 + place - by ≡ 160 + (place - by) = omega arith in
        let is = (rw e at (moved_place place within)) ∙ above_greatest words (place - by) (omega arith) in
        (λ set. sym is ∙ set, λ set. is ∙ set))

-- ---- one more place

module _ (words : List ℕ) (one : ℕ) (four : length words ≡ 4) (inside : one < 128) where
  abbrev pub word : ℕ
  word = slice_index words (one / 32)

  abbrev pub mask : ℕ
  mask = 1 * 2 ^ (one % 32) % 2 ^ 32

  abbrev pub with_one : List ℕ
  with_one = slice_set words (one / 32) (bit_or word mask)

  tested : bit_and word mask ≡ bit_of words one * 2 ^ (one % 32)
  tested = ap (λ m. bit_and word m) (one_shl (one % 32) 32 (omega arith)) ∙ and_pow word (one % 32)

  pub set_by_bit : ¬ (bit_and word mask ≡ 0) → IsBitSetAt words one
  set_by_bit some = grind (arith, tested)

  pub clear_by_bit : bit_and word mask ≡ 0 → ¬ IsBitSetAt words one
  clear_by_bit none set = grind (arith, none, set, tested, pow_pos (one % 32))

  pub sets_one : SetsBit one (IsBitSetAt words) (IsBitSetAt with_one)
  sets_one place = grind (
    arith,
    get_or-set_same words (one / 32) (bit_or word mask) 0,
    bit_at_set_same w32 word (one % 32),
    bit_at_set_other w32 word (one % 32) (omega arith) (place % 32),
    get_or-set_other words (one / 32) (place / 32) (bit_or word mask) 0,
  )

pub sets_again : (Places : ℕ → Type 0) (one : ℕ) → Places one → SetsBit one Places Places
sets_again Places _ here _ = grind arith

-- ---- the highest that is clear

-- what the ones of `!word` below a place mean for the word
module _ (word bits : ℕ) (fits : word < 2 ^ 32) (some : 0 < bits) (few : bits ≤ 32) where
  abbrev pub zeros : ℕ
  zeros = bit_and (bit_not w32 word) ((2 ^ 32 - 1) / 2 ^ (32 - bits))

  mask_is : (2 ^ 32 - 1) / 2 ^ (32 - bits) ≡ 2 ^ bits - 1
  mask_is = let e : 32 - (32 - bits) ≡ bits = omega arith in
      ones_shr 32 (32 - bits) (omega arith) ∙ ap (λ k. 2 ^ k - 1) e

  turned : (i : ℕ) → (i < bits → bit_at zeros i ≡ 1 - bit_at word i) × (bits ≤ i → bit_at zeros i ≡ 0)
  turned i = rw mask_is (grind (
    arith,
    bit_at_and (bit_not w32 word) (2 ^ bits - 1) i,
    bit_at_ones bits i,
    bit_at_ones_above bits i,
    bit_at_not w32 word i fits,
    bit_at-lt word i,
  ))

  zeros_fit : zeros < 2 ^ 32
  zeros_fit = let below : bit_not w32 word < 2 ^ 32 = omega arith in
      lt_of_le_of_lt (and_le_l (bit_not w32 word) ((2 ^ 32 - 1) / 2 ^ (32 - bits))) below

  pub all_ones : zeros ≡ 0 → AreBitsSet (IsBitOne word) 0 bits
  all_ones none i from below = grind (arith, none, turned i, bit_at-zero i, bit_at-lt word i)

  top : (j : ℕ) → 2 ^ j ≤ zeros → zeros < 2 ^ suc j → bit_at zeros j ≡ 1
  top j low high = ap (λ n. bit_at n j) split ∙ bit_at_cat_high 1 j (zeros - 2 ^ j) j
      (let h : zeros < 2 ^ suc j = high in let two : 2 ^ suc j ≡ 2 ^ j * 2 = pow-suc 2 j in omega arith) (le_refl j)
      ∙ ap (λ k. bit_at 1 k) (let z : j - j ≡ 0 = omega arith in z)
    where
      split : zeros ≡ 1 * 2 ^ j + (zeros - 2 ^ j)
      split = omega arith

  pub highest_zero_is : ¬ (zeros ≡ 0) → IsHighestClear (IsBitOne word) bits (31 - leading_zeros w32 zeros)
  highest_zero_is positive =
      let t = leading_top 32 zeros (omega (arith, positive)) zeros_fit in
      let e : leading_zeros w32 zeros + suc t.0 ≡ 32 = t.1 in
      let same : 31 - leading_zeros w32 zeros ≡ t.0 = omega arith in
      let set = top t.0 t.2 t.3 in rw same (
        grind (arith, set, turned t.0),
        λ one. grind (arith, one, set, turned t.0),
        λ i above inside. grind (arith, turned i, bit_at-lt word i, bit_at_above zeros (suc t.0) i t.3 (omega arith)),
      )
