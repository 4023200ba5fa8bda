-- Lists of increasing numbers. All laws of the local IDs rest on it.
use Rattle.std.proofs.Common.{◌≡◌, ℕ, zero, suc, ◌+◌, ◌<◌, ◌≤◌, ◌==◌, ◌&&◌, nat_lt, nat_le, not, Bool, false, List, [], ◌∷◌, ◌++◌, filter, refl, arith}
use Rattle.std.specs.List.{list_any, range_with_len}
use Rattle.recovery_ids.specs.LocalIds.{AreIncreasingWithin}

pub Rise-bound : (low high : ℕ) (ns : List ℕ) → AreIncreasingWithin low high ns → low ≤ high
Rise-bound _ _ [] rise = rise
Rise-bound _ high (n ∷ ns) rise = omega (arith, Rise-bound (n + 1) high ns rise.1)

pub Rise-wider : (low high lower higher : ℕ) (ns : List ℕ) → AreIncreasingWithin low high ns → lower ≤ low
    → high ≤ higher
    → AreIncreasingWithin lower higher ns
Rise-wider _ _ _ higher [] rise below above = grind (arith, rise)
Rise-wider low high lower higher (n ∷ ns) rise below above = grind (
  arith,
  rise,
  Rise-wider (n + 1) high (n + 1) higher
      ns,
)

-- a run with one more number at its end
pub range_more : (first count next : ℕ) → first + count ≡ next
    → range_with_len first (suc count) ≡ range_with_len first count ++ next ∷ []
range_more _ zero _ ends = grind (arith, ends)
range_more first (suc count) next ends = grind (arith, range_more (first + 1) count next)

range_rises : (low first count high : ℕ) → low ≤ first → first + count ≡ high
    → AreIncreasingWithin low high (range_with_len first count)
range_rises _ _ zero _ below ends = omega arith
range_rises low first (suc count) high below ends = grind (arith, range_rises (first + 1) (first + 1) count high)

-- more numbers from the end on
pub Rise-append : (low first count high : ℕ) (ns : List ℕ) → AreIncreasingWithin low first ns → first + count ≡ high
    → AreIncreasingWithin low high (ns ++ range_with_len first count)
Rise-append low first count high [] rise ends = range_rises low _ _ _ rise ends
Rise-append _ first count high (n ∷ ns) rise ends = (rise.0, Rise-append (n + 1) first count high ns rise.1 ends)

pub Rise-filter : (test : ℕ → Bool) (low high : ℕ) (ns : List ℕ) → AreIncreasingWithin low high ns
    → AreIncreasingWithin low high (filter test ns)
Rise-filter _ _ _ [] rise = rise
Rise-filter test low high (n ∷ ns) rise = grind (
  arith,
  rise,
  Rise-filter test (n + 1) high ns rise.1,
  Rise-wider (n + 1) high low high (filter test ns),
)

-- ---- which numbers are below another

none_below : (low high end : ℕ) (ns : List ℕ) → AreIncreasingWithin low high ns → end ≤ low → list_any
    (λ n. nat_lt n end) ns ≡ false
none_below _ _ _ [] _ _ = refl
none_below _ high end (n ∷ ns) rise past = grind (arith, rise, none_below (n + 1) high end ns)

-- the smallest number decides whether one is below
pub list_any-front : (low high n end : ℕ) (ns : List ℕ) → AreIncreasingWithin low high (n ∷ ns)
    → list_any (λ m. nat_lt m end) (n ∷ ns) ≡ nat_lt n end
list_any-front _ high n end ns rise = grind (arith, none_below (n + 1) high end ns rise.1)

-- no number is below the low end
pub list_any-between : (low high from end : ℕ) (ns : List ℕ) → AreIncreasingWithin low high ns → from ≤ low →
    list_any (λ n. nat_le from n && nat_lt n end) ns ≡ list_any (λ n. nat_lt n end) ns
list_any-between _ _ _ _ [] _ _ = refl
list_any-between _ high from end (n ∷ ns) rise below =
    grind (arith, rise, list_any-between (n + 1) high from end ns)

-- no number is between a number and itself
pub list_any-nowhere : (at : ℕ) (ns : List ℕ) → list_any (λ n. nat_le at n && nat_lt n at) ns ≡ false
list_any-nowhere at [] = refl
list_any-nowhere at (n ∷ ns) = grind (arith, list_any-nowhere at ns)

-- if none is below another number, all increase from that one
pub Rise-from : (low high from : ℕ) (ns : List ℕ) → AreIncreasingWithin low high ns → list_any (λ n. nat_lt n from) ns
    ≡ false
    → from ≤ high → AreIncreasingWithin from high ns
Rise-from _ _ _ [] _ _ below = below
Rise-from _ _ _ (n ∷ ns) rise none _ = grind arith

-- ---- removing a number

pub absent_below : (low high x : ℕ) (ns : List ℕ) → AreIncreasingWithin low high ns → x < low → filter
    (λ n. not (n == x)) ns ≡ ns
absent_below _ _ x [] _ _ = refl
absent_below _ high x (n ∷ ns) rise below = grind (arith, rise, absent_below (n + 1) high x ns)
