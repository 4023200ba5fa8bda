-- Numerals of up to 64 digits: what `decimal` writes of the value of digits, and its first digit. `NumberWordLaws` rest
-- on it.
use Rattle.std.proofs.Common.{◌≡◌, ◌+◌, ◌*◌, ◌%◌, ℕ, ◌<◌, ◌≤◌, ◌^◌, List, [], ◌∷◌, ◌++◌, length, get_or, decimal, sym, arith, append_assoc, append-nil, length-append}
use Rattle.std.specs.Str.Parse.{AllDigits, digits_value, digits_value_after}
use Rattle.std.specs.Char.{digit_value}
use Rattle.std.proofs.Math.ListN.{get_or-append}
use Rattle.std.proofs.lemmas.Str.{digit_value_digit}
use Rattle.std.proofs.lemmas.Str.Parse.{digit_from_value}
use Rattle.std.proofs.lemmas.Fmt.{decimal_digit, decimal_step_wide, decimal_by_steps_wide}

-- digits increase the number that they follow
value_grows : (n : ℕ) (digits : List ℕ) → n ≤ digits_value_after 10 n digits
value_grows n [] = omega arith
value_grows n (c ∷ digits) = omega (arith, value_grows (n * 10 + digit_value c) digits)

-- digits after a number above zero
digits_behind : (n : ℕ) (digits : List ℕ) → 0 < n → AllDigits 10 digits → digits_value_after 10 n digits < 10 ^ 64
    → decimal (digits_value_after 10 n digits) ≡ decimal n ++ digits
digits_behind n [] some all small = sym (append-nil (decimal n))
digits_behind n (c ∷ digits) some all small =
    let m : ℕ = n * 10 + digit_value c in
    grind (
      arith,
      digits_behind m digits,
      decimal_step_wide m,
      value_grows m digits,
      all.0,
      all.1,
      small,
      digit_value_digit c (digit_from_value c all.0),
      append_assoc (decimal n) (c ∷ []) digits,
    )

-- digits without leading zeros are what is written for their value
pub digits_written : (digits : List ℕ) → AllDigits 10 digits → 0 < length digits
    → (get_or digits 0 0 ≡ 48 → length digits ≤ 1) → digits_value 10 digits < 10 ^ 64
    → decimal (digits_value 10 digits) ≡ digits
digits_written [] all some lead small = absurd (omega arith)
digits_written (c ∷ []) all some lead small =
    grind (arith, all.0, digit_value_digit c (digit_from_value c all.0), decimal_digit (0 * 10 + digit_value c))
digits_written (c ∷ next ∷ digits) all some lead small =
    grind (
      arith,
      all.0,
      all.1,
      lead,
      small,
      digit_value_digit c (digit_from_value c all.0),
      decimal_digit (0 * 10 + digit_value c),
      digits_behind (0 * 10 + digit_value c) (next ∷ digits),
    )

-- the first digit of a number above zero is no zero
pub leads_above_zero : (n : ℕ) → 0 < n → n < 10 ^ 64 → 48 < get_or (decimal n) 0 0
leads_above_zero n some small =
    (decimal_by_steps_wide (λ n digits. (0 < length digits) × (0 < n → 48 < get_or digits 0 0))
    (λ m less. (omega arith, λ above. omega arith))
    (λ m digits large leads. let last : List ℕ = (48 + m % 10) ∷ [] in
    grind (arith, leads, large, get_or-append digits last 0 0 leads.0, length-append digits last)) n small).1 some
