-- The conditions for reading a number from a word. The readers of numbers and `LineFieldLaws` rest on it.
use Rattle.std.proofs.Common.{◌+◌, ◌*◌, ◌%◌, take, length-take, lit≤, ◌≡◌, ℕ, ◌^◌, ◌<◌, ◌≤◌, List, length, get_or, Some, None, decimal, arith}
use Rattle.std.proofs.lemmas.Bool.Decides.{nat_tests}
use Rattle.std.proofs.lemmas.List.{get_or-take}
use Rattle.std.specs.Str.Parse.{digits_value}
use Rattle.std.specs.Int.{IsInRange}
use Rattle.std.proofs.lemmas.Int.Digits.{digits_value_more}
use borrow.Author.Count.{below_more}
use Rattle.std.proofs.lemmas.Fmt.{decimal_is_IsNumeral_wide, decimal_digit}
use Rattle.std.proofs.lemmas.Str.Parse.{IsNumeralModel, numerals_by_value, tells_by_index, digits_value-take-le, digit_at}
use Rattle.std.proofs.lemmas.Slice.Eq.{bytes_eq-Decides}
use Rattle.recovery_script_syntax.specs.Reading.{AreDigits, number_of}
use Rattle.recovery_script_syntax.proofs.NumeralLaws.{digits_written, leads_above_zero}

-- what is read is encoded so
pub number_takes : (limit : ℕ) (word : List ℕ) (n : ℕ) → number_of limit word ≡ Some n
    → (word ≡ decimal n) × (n < limit)
unfolding number_of
number_takes limit word n e =
    grind (arith, nat_tests, e, bytes_eq-Decides (decimal (digits_value 10 word)) word)

-- what is encoded so is read
pub number_again : (limit n : ℕ) → limit ≤ 10 ^ 64 → n < limit → number_of limit (decimal n) ≡ Some n
unfolding number_of
number_again limit n most lt =
    grind (arith, nat_tests, decimal_is_IsNumeral_wide n (omega arith), bytes_eq-Decides (decimal n) (decimal n))

-- ---- words that are no number

-- the encoding of a number
pub record IsSpelled (word : List ℕ) (n : ℕ) : Type 0 where
  pub digits : AreDigits word (length word)
  pub some : 0 < length word
  pub lead : get_or word 0 0 ≡ 48 → length word ≡ 1
  pub value : digits_value 10 word ≡ n

is_spelled : (n : ℕ) → n < 10 ^ 64 → IsSpelled (decimal n) n
is_spelled n lt =
    let d = decimal_is_IsNumeral_wide n lt in
    record {
      digits = λ i. digit_at (decimal n) i d.0.1;
      some = d.0.0;
      lead = λ first. grind (arith, first, leads_above_zero n, decimal_digit n);
      value = d.1;
    }

-- what encodes no number is not read
pub not_read : (word : List ℕ) → ((n : ℕ) → n < 2 ^ 128 → IsSpelled word n → ⊥) → None ≡ number_of (2 ^ 128) word
unfolding number_of
not_read word none =
    let n : ℕ = digits_value 10 word in
    grind (arith, nat_tests, none n, is_spelled n, bytes_eq-Decides (decimal n) word)

-- ---- one more digit

module _ (word : List ℕ) (i value : ℕ) (lt : i < length word) (byte : get_or word i 0 < 256)
    (near : (get_or word i 0 + 208) % 256 ≤ 9) (digits : AreDigits word i)
    (is : value ≡ digits_value 10 (take i word)) where
  pub digits_more : AreDigits word (i + 1)
      × (value * 10 + (get_or word i 0 + 208) % 256 ≡ digits_value 10 (take (i + 1) word))
  digits_more = (
    below_more (λ k. IsInRange 48 57 (get_or word k 0)) i digits (omega arith, omega arith),
    grind (arith, nat_tests, is, byte, near, digits_value_more 10 word i lt),
  )

  -- too large a number
  pub too_large : 2 ^ 128 ≤ value * 10 + (get_or word i 0 + 208) % 256 → None ≡ number_of (2 ^ 128) word
  too_large large = not_read word
      (λ n less s. omega (arith, digits_more.1, s.value, digits_value-take-le 10 word (i + 1) (lit≤ tt)))

-- ---- words of digits

pub by_index : IsNumeralModel (λ ds. AreDigits ds (length ds)) (digits_value 10)
by_index = numerals_by_value (λ ds. AreDigits ds (length ds)) tells_by_index

pub digits_read : (limit : ℕ) → limit ≤ 10 ^ 64 → (word : List ℕ) (value : ℕ)
    → AreDigits word (length word) → value ≡ digits_value 10 word → value < limit
    → 0 < length word → (get_or word 0 0 ≡ 48 → length word ≤ 1) → Some value ≡ number_of limit word
unfolding number_of
digits_read limit most word value digits is small some lead =
    grind (
      arith,
      nat_tests,
      is,
      digits_written word (by_index.to word digits) some lead (omega arith),
      bytes_eq-Decides (decimal (digits_value 10 word)) word,
    )

-- digits at the front of bytes
pub taken_digits : (bytes : List ℕ) (n : ℕ) → AreDigits bytes n → n ≤ length bytes
    → AreDigits (take n bytes) (length (take n bytes))
taken_digits bytes n digits le = λ i lt. grind (arith, length-take n bytes, get_or-take n bytes i 0, digits i)
