-- Names at the front of bytes, and equality of bytes by two 64-bit words. The readers of words rest on it.
use Rattle.std.proofs.Common.{◌≡◌, ◌-◌, ◌<◌, ◌≤◌, ◌^◌, ◌==◌, ℕ, true, false, not, Option, None, Some, IfSome, List, [], ◌∷◌, length, take, get_or, drop, take_all, length-drop, length-take-le, bytes_eq, refl, sym, ap, inl, inr, ◌∙◌, arith}
use Rattle.std.specs.List.{AllByRecursion, position_or_len, before_first}
use Rattle.std.proofs.lemmas.Bool.Decides.{nat_tests}
use Rattle.std.proofs.lemmas.List.{get_or-take, get_or-drop}
use Rattle.std.proofs.lemmas.List.Sums.{position_or_len_is, prefix_len-le-length, passes_at_first, fails_before_first}
use Rattle.std.proofs.lemmas.Slice.Eq.{bytes_eq-Decides}
use Rattle.core.specs.Slice.Scan.{little_endian}
use Rattle.core.proofs.cmp.Settled.{same_word}
use Rattle.recovery_script_syntax.specs.Reading.{◌>>=◌, first_word, field, named, largest_of, number_of, TakesName}
use Rattle.std.proofs.lemmas.Bool.{cases_lt}
use lib.Chars.{codes}
use lib.Seq.{ext_get_or}
use mir.Syntax.{w8}
use mir.Val.{Fits}

-- ---- equal bytes

-- bytes are the same where the first are, and the rest is
module _ (xs ys : List ℕ) (also : length xs ≡ length ys) (n : ℕ)
    (first : (k : ℕ) → k < n → get_or xs k 0 ≡ get_or ys k 0) where
  whole : drop n xs ≡ drop n ys → xs ≡ ys
  whole rest =
      ext_get_or 0 xs ys also (λ k less. elim (cases_lt k n) [
        | inl near ↦ first k near
        | inr far ↦ grind (arith, rest, get_or-drop n xs (k - n) 0, get_or-drop n ys (k - n) 0)
      ])

  pub by_rest : (left : ℕ) → left ≡ length xs - n
      → bytes_eq (take left (drop n xs)) (take left (drop n ys)) ≡ bytes_eq xs ys
  by_rest left is =
      rw (
        take_all left (drop n xs) (omega (arith, length-drop n xs)),
        take_all left (drop n ys) (omega (arith, also, length-drop n ys)),
      ) (grind (
        arith,
        nat_tests,
        bytes_eq-Decides xs ys,
        bytes_eq-Decides (drop n xs) (drop n ys),
        whole,
      ))

fits : {n : ℕ} → n < 256 → Fits w8 n
fits lt = record { fits = lt }

module _ (xs ys : List ℕ) (bx : (k : ℕ) → get_or xs k 0 < 256) (by-bytes : (k : ℕ) → get_or ys k 0 < 256) where
  -- eight bytes that are one number
  pub eight_same : little_endian xs 0 ≡ little_endian ys 0 → (k : ℕ) → k < 8 → get_or xs k 0 ≡ get_or ys k 0
  eight_same e k lt =
      let alike = same_word xs ys (λ k. fits (bx k)) (λ k. fits (by-bytes k)) 0 true (grind (arith, nat_tests, e)) in
      grind (arith, nat_tests, alike k)

-- ---- names

module _ (bytes name : List ℕ) (plain : position_or_len (λ b. b == 32) name ≡ length name) where
  abbrev end : ℕ
  end = length name

  -- bytes that begin with a name, after which they end or have a space
  first_is : end ≤ length bytes → (end < length bytes → get_or bytes end 0 ≡ 32) → take end bytes ≡ name
      → before_first (λ b. b == 32) bytes ≡ name
  first_is fits ends is =
      let place : position_or_len (λ b. b == 32) bytes ≡ end =
      position_or_len_is (λ b. b == 32) bytes end 0 fits
      (λ k lt. grind (arith, is, get_or-take end bytes k 0, fails_before_first (λ b. b == 32) name k 0))
      (λ lt. grind (arith, nat_tests, ends lt)) in
      rw place is

  first_only : before_first (λ b. b == 32) bytes ≡ name
      → (end ≤ length bytes) × (end < length bytes → get_or bytes end 0 ≡ 32) × (take end bytes ≡ name)
  first_only is =
      let at : ℕ = position_or_len (λ b. b == 32) bytes in
      let place : at ≡ end =
      sym (length-take-le at bytes (prefix_len-le-length (λ b. not (b == 32)) bytes)) ∙ ap length is in (
        omega (arith, place, prefix_len-le-length (λ b. not (b == 32)) bytes),
        λ lt. grind (arith, nat_tests, place, passes_at_first (λ b. b == 32) bytes 0),
        rw (place) at is,
      )

  -- whether the first word of bytes is a name
  pub is_first : end ≤ length bytes → (end < length bytes → get_or bytes end 0 ≡ 32)
      → bytes_eq (take end bytes) name ≡ bytes_eq (before_first (λ b. b == 32) bytes) name
  is_first fits ends =
      grind (
        arith,
        bytes_eq-Decides (take end bytes) name,
        bytes_eq-Decides (before_first (λ b. b == 32) bytes) name,
        first_is fits ends,
        first_only,
      )

  pub is_other : (end ≤ length bytes → (end < length bytes → get_or bytes end 0 ≡ 32) → ⊥)
      → false ≡ bytes_eq (before_first (λ b. b == 32) bytes) name
  is_other other = grind (arith, bytes_eq-Decides (before_first (λ b. b == 32) bytes) name, first_only, other)

  pub taken : before_first (λ b. b == 32) bytes ≡ name
      → (end ≡ position_or_len (λ b. b == 32) bytes) × (take end bytes ≡ name)
  taken is =
      let at : ℕ = position_or_len (λ b. b == 32) bytes in
      let place : at ≡ end =
      sym (length-take-le at bytes (prefix_len-le-length (λ b. not (b == 32)) bytes)) ∙ ap length is in
      (sym place, rw place at is)

-- a field that is named by its word
pub field_named : {A : Type 0} (read : List ℕ → Option A) (words rest : List (List ℕ)) (name : List ℕ) (value : A)
    → first_word words ≡ Some (name, rest) → read name ≡ Some value → field read words ≡ Some (value, rest)
unfolding field
field_named read words rest name value first is = rw (first, is) refl

-- and one that is not
pub field_unnamed : {A : Type 0} (names : List (List ℕ × A)) (words : List (List ℕ))
    → AllByRecursion (λ pair. IfSome (first_word words) (λ first. bytes_eq first.0 pair.0 ≡ false)) names
    → field (named names) words ≡ None
unfolding field
field_unnamed names [] other = refl
field_unnamed [] (word ∷ words) other = refl
field_unnamed ((name, value) ∷ names) (word ∷ words) other =
    let rest = field_unnamed names (word ∷ words) other.1 in rw (other.0) rest

-- A field of two names, the first of which is tried before the second: its value is that of the name as which the next
-- word was read. There is none if it was read as neither.
pub record OfTwo {A : Type 0} (name other : List ℕ) (value last : A) (words : List (List ℕ)) : Type 0 where
  pub first : (left : List (List ℕ)) → TakesName name true words left
      → field (named ((name, value) ∷ (other, last) ∷ [])) words ≡ Some (value, left)
  pub second : (between left : List (List ℕ)) → TakesName name false words between → TakesName other true between left
      → field (named ((name, value) ∷ (other, last) ∷ [])) words ≡ Some (last, left)
  pub neither : (between left : List (List ℕ)) → TakesName name false words between → TakesName other false between left
      → field (named ((name, value) ∷ (other, last) ∷ [])) words ≡ None

pub of_two : {A : Type 0} (name other : List ℕ) (value last : A) → bytes_eq other name ≡ false
    → (words : List (List ℕ)) → OfTwo name other value last words
of_two {A = A} name other value last differ words =
    let names : List (List ℕ × A) = (name, value) ∷ (other, last) ∷ [] in record {
      first = λ left taken. field_named (named names) words left name value taken
          (grind (arith, bytes_eq-Decides name name));
      second = λ between left passed taken. rw (← passed.0) (field_named (named names) between left other last taken
          (grind (arith, differ, bytes_eq-Decides other other)));
      neither = λ between left passed also. field_unnamed names words (passed.1, (rw (passed.0) at also.1, tt));
    }

-- if the next word is not the one for no number, it is read as a number
pub largest_as : (words : List (List ℕ)) → IfSome (first_word words) (λ first. bytes_eq first.0 (codes "-") ≡ false)
    → field largest_of words ≡ (field (number_of (2 ^ 64)) words >>= λ x. Some (Some x.0, x.1))
unfolding field largest_of
largest_as [] other = refl
largest_as (word ∷ words) other = by (number_of (2 ^ 64) word) refl
  where
    by : (found : Option ℕ) → number_of (2 ^ 64) word ≡ found
        → field largest_of (word ∷ words) ≡ (field (number_of (2 ^ 64)) (word ∷ words) >>= λ x. Some (Some x.0, x.1))
    by None e = rw (other, e) refl
    by (Some n) e = rw (other, e) refl
