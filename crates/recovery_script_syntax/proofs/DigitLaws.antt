-- Reading leading digits of bytes, eight at a time. `leading_digits` rests on it.
use Rattle.std.proofs.Common.{◌≡◌, ℕ, ◌+◌, ◌-◌, ◌*◌, ◌%◌, ◌^◌, ◌<◌, ◌≤◌, List, length, length-take, take, drop, get_or, ◌∙◌, refl, arith}
use Rattle.std.specs.Char.{is_ascii_digit}
use Rattle.std.specs.Str.Parse.{digits_value}
use Rattle.std.proofs.lemmas.List.Sums.{prefix_len_passes}
use Rattle.std.proofs.lemmas.Str.Parse.{digits_value_short}
use lib.Lanes.{number_l}
use lib.Seq.{drop-drop, take-take}
use mir.Syntax.{w8}
use mir.Val.{Fits}
use Rattle.core.specs.Slice.Scan.{little_endian}
use Rattle.core.specs.Float.Numeral.{digits_len}
use Rattle.core.specs.Dec2flt.Digits.{IsEightBytes}
use Rattle.core.proofs.slice.Prefixes.{drop_more, prefix_len-drop_yes}
use Rattle.core.proofs.dec2flt.DigitsLemmas.{HasRead, HasRead_more, digits_len-take, digit_range, is_digit}
use Rattle.core.proofs.dec2flt.Eight.{eight_at, word_at}
use Rattle.recovery_script_syntax.specs.Reading.{AreDigits}
use Rattle.recovery_script_syntax.proofs.NumberWordLaws.{by_index, taken_digits}

pub are_digits : (bs : List ℕ) (at value : ℕ) → HasRead bs 0 0 at value → AreDigits bs at
are_digits bs at value r =
    λ i lt. digit_range _ (prefix_len_passes is_ascii_digit bs i 0 (omega (arith, lt, r.digits)))

pub value_read : (bs : List ℕ) (at value : ℕ) → HasRead bs 0 0 at value → at ≤ 19
    → value ≡ digits_value 10 (take at bs)
value_read bs at value r few =
    grind (
      arith,
      r.value_is,
      length-take at bs,
      digits_value_short by_index (take at bs) 19 (taken_digits bs at (are_digits bs at value r) r.within),
    )

pub none_read : (bs : List ℕ) → HasRead bs 0 0 0 0
none_read bs = record { after = omega arith; within = omega arith; digits = omega arith; value_is = refl }

-- what `up_to_eight` returns for a word
abbrev pub Counts : ℕ → ℕ → ℕ → Type 0
Counts word count value = (xs : List ℕ) → IsEightBytes xs → word ≡ number_l 256 xs
    → (count ≡ digits_len xs) × (value ≡ digits_value 10 (take count xs))

module _ (bs : List ℕ) (typed : (k : ℕ) → Fits w8 (get_or bs k 0)) where
  pub eight_more : (at value word count next : ℕ) → HasRead bs 0 0 at value → at + 8 ≤ length bs
      → word ≡ little_endian bs at → count ≤ 8 → Counts word count next
      → HasRead bs 0 0 (at + count) ((value * 10 ^ count % 2 ^ 64 + next) % 2 ^ 64)
  eight_more at value word count next r room is most counts =
      let u = counts _ (eight_at bs at (λ k. (typed k).fits) room) (is ∙ word_at bs at room) in
      let more = rw (← u.0, drop-drop) at (digits_len-take (drop at bs) 8) in
      HasRead_more bs 0 0 at value count next r (omega arith) more (rw (take-take _ 8 _ most) at u.1)

  pub eight_first : (word count at first : ℕ) → at ≡ count → 8 ≤ length bs → word ≡ little_endian bs 0 → count ≤ 8
      → first < 2 ^ 64 → Counts word count first → HasRead bs 0 0 at first
  eight_first word count at first same room is most fits counts =
      let r = eight_more 0 0 word count first (none_read bs) room is most counts in
      grind (arith, r)

  pub one_more : (at value : ℕ) → HasRead bs 0 0 at value → at < length bs
      → (get_or bs at 0 + (2 ^ 64 - 48)) % 2 ^ 64 ≤ 9
      → HasRead bs 0 0 (at + 1) ((value * 10 % 2 ^ 64 + (get_or bs at 0 + (2 ^ 64 - 48)) % 2 ^ 64) % 2 ^ 64)
  one_more at value r lt near =
      let byte = (typed at).fits in
      let d = is_digit (get_or bs at 0) (omega arith) (omega arith) in
      HasRead_more bs 0 0 at value 1 _ r (omega arith) (prefix_len-drop_yes _ bs at 0 lt d.0)
      (rw (drop_more bs at 0 lt) (omega (arith, d.1)))
