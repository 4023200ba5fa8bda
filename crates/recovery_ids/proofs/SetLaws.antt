-- How calls of a queue of slots change its numbers, which increase; the functions over them in `state` rest on it.
use Rattle.std.proofs.Common.{◌≡◌, ℕ, suc, ◌+◌, ◌-◌, ◌<◌, ◌≤◌, ◌==◌, nat_lt, not, Bool, false, List, [], ◌∷◌, ◌++◌, filter, None, Some, refl, ap, arith}
use Rattle.std.specs.Ordering.{nat_cmp}
use Rattle.std.specs.BTreeMap.{is_at}
use Rattle.std.specs.Map.{keys_of, remove_entry}
use Rattle.std.specs.Set.{remove_key}
use Rattle.std.specs.List.{list_any, range_with_len}
use Rattle.std.proofs.lemmas.Bool.Decides.{nat_tests}
use Rattle.recovery_queue.specs.Slots.{IsAboveAll, first_number, is_from}
use Rattle.recovery_ids.specs.LocalIds.{AreIncreasingWithin}
use Rattle.recovery_ids.proofs.RiseLaws.{Rise-bound, Rise-wider, absent_below, list_any-front}

-- a removal removes a number by its value
pub removes : (low high x : ℕ) (ns : List ℕ) → AreIncreasingWithin low high ns
    → remove_key (is_at (nat_cmp x)) ns ≡ filter (λ n. not (n == x)) ns
removes _ _ x [] _ = refl
removes _ high x (n ∷ ns) rise = grind (
  arith,
  nat_tests,
  removes (n + 1) high x ns rise.1,
  absent_below (n + 1) high
      x ns rise.1,
)

-- ---- nothing is stored with the numbers

module _ {T : Type 0} where
  pub keys-append : (es others : List (ℕ × T)) → keys_of (es ++ others) ≡ keys_of es ++ keys_of others
  keys-append [] _ = refl
  keys-append (e ∷ es) others = ap (λ later. e.0 ∷ later) (keys-append es _)

  -- removing the entry of a number removes the number
  pub keys-removed : (test : ℕ → Bool) (es : List (ℕ × T))
      → keys_of (remove_entry test es) ≡ remove_key test (keys_of es)
  keys-removed _ [] = refl
  keys-removed test (e ∷ es) = grind (arith, keys-removed test es)

  -- numbers that increase up to another are below it
  pub is_above : (low number : ℕ) (es : List (ℕ × T)) → AreIncreasingWithin low number (keys_of es)
      → IsAboveAll es number
  is_above _ _ [] _ _ _ found = absurd cc
  is_above low number (e ∷ es) rise other item found = grind (
    arith,
    nat_tests,
    found,
    Rise-bound (e.0 + 1) number (keys_of es) rise.1,
    is_above (e.0 + 1) number es rise.1 other item,
  )

  -- the smallest number decides whether one is below another
  pub least_decides : (low high end least : ℕ) (es : List (ℕ × T)) → AreIncreasingWithin low high (keys_of es)
      → Some least ≡ first_number (filter (is_from 0) es)
      → nat_lt least end ≡ list_any (λ n. nat_lt n end) (keys_of es)
  least_decides _ _ _ _ [] _ there = absurd cc
  least_decides low high end least (e ∷ es) rise there =
      grind (arith, nat_tests, there, list_any-front low high e.0 end (keys_of es) rise)

  pub none_decides : (end : ℕ) (es : List (ℕ × T)) → None ≡ first_number (filter (is_from 0) es)
      → false ≡ list_any (λ n. nat_lt n end) (keys_of es)
  none_decides _ [] _ = refl
  none_decides _ (e ∷ es) none = grind arith

-- a number after lower ones leaves those before and after it
pub removed_behind : (low x : ℕ) (before later : List ℕ) → AreIncreasingWithin low x before
    → remove_key (is_at (nat_cmp x)) (before ++ x ∷ later) ≡ before ++ later
removed_behind _ x [] _ _ = grind arith
removed_behind _ x (n ∷ ns) later rise =
    grind (arith, Rise-bound (n + 1) x ns rise.1, removed_behind (n + 1) x ns later rise.1)

-- numbers that were appended are removed again, the lowest first
pub one_back : (before : List ℕ) (first number end : ℕ) → first ≤ number → number < end
    → AreIncreasingWithin 0 first before
    → remove_key (is_at (nat_cmp number)) (before ++ range_with_len number (end - number))
    ≡ before ++ range_with_len (number + 1) (end - (number + 1))
one_back before first number end from more rise =
    let one : end - number ≡ suc (end - (number + 1)) = omega arith in
    rw one (removed_behind 0 number before (range_with_len (number + 1) (end - (number + 1)))
    (Rise-wider 0 first 0 number before rise (omega arith) from))
