-- The first word of a line. The readers of words rest on it.
use Rattle.std.proofs.Common.{None, Option, refl, ◌≡◌, ℕ, ◌<◌, ◌==◌, Bool, List, [], length, take, drop, take_all, length-drop, ◌+◌, ◌-◌, Some, ◌≤◌, not, ap, arith, Decides, is_some, IsSomeAnd}
use Rattle.std.specs.List.{position_or_len, before_first}
use Rattle.std.proofs.lemmas.List.Splits.{slice_split_none, slice_split_first}
use Rattle.std.proofs.lemmas.List.Sums.{fails_before_first}
use Rattle.std.proofs.lemmas.Bool.{cases_lt}
use Rattle.recovery_script_syntax.specs.Words.{words_of}
use Rattle.recovery_script_syntax.specs.Reading.{first_word, left_of}

-- bytes with no space are one word
pub last_word : (bytes : List ℕ) (end : ℕ) → end ≡ position_or_len (λ b. b == 32) bytes → length bytes ≤ end
    → first_word (words_of bytes) ≡ Some (take end bytes, [])
last_word bytes end is all =
    rw (take_all end bytes all) (ap first_word (slice_split_none (λ b. b == 32) bytes
    (λ k d lt. fails_before_first (λ b. b == 32) bytes k d (omega arith))))

-- the first word ends at the first space
pub next_word : (bytes : List ℕ) (end : ℕ) → end ≡ position_or_len (λ b. b == 32) bytes → end < length bytes
    → first_word (words_of bytes)
    ≡ Some (take end bytes, words_of (take (length bytes - (end + 1)) (drop (end + 1) bytes)))
next_word bytes end is lt =
    rw (take_all (length bytes - (end + 1)) (drop (end + 1) bytes) (omega (arith, length-drop (end + 1) bytes)), is)
    (ap first_word (slice_split_first (λ b. b == 32) bytes 0 (omega (arith, is, lt))))

-- there is a first word
pub some_first : (bytes : List ℕ)
    → IsSomeAnd (first_word (words_of bytes)) (λ first. first.0 ≡ before_first (λ b. b == 32) bytes)
some_first bytes =
    let end : ℕ = position_or_len (λ b. b == 32) bytes in
    grind (arith, cases_lt end (length bytes), next_word bytes end refl, last_word bytes end refl)

-- no word is left only after the last one
pub none_left : {S : Type 0} (text : S → List ℕ) (rest : Option S) (b : Bool) → is_some rest ≡ not b
    → Decides b (left_of text rest ≡ [])
none_left text None b is = grind (arith, is)
none_left text (Some bytes) b is = grind (arith, is, some_first (text bytes))
