-- Ranges that are apart, and the numbers in them. All calls of the set of ranges rest on it, and `HighestRunLaws` of
-- the pending ACKs.
use Rattle.std.proofs.Common.{◌≡◌, ℕ, suc, zero, ◌+◌, ◌<◌, ◌≤◌, inl, inr, ◌⊎◌, ◌↔◌, List, [], ◌∷◌, ◌++◌, length, take, drop, set, get_or, sym, ◌∙◌, ap, arith, drop-cons, add-one, refl}
use Rattle.std.proofs.lemmas.Bool.Decides.{nat_tests}
use Rattle.std.specs.declared.ops.Range.{Range}
use Rattle.std.specs.List.{insert, remove}
use Rattle.std.proofs.lemmas.List.{drop_all, get_or_default}
use Rattle.std.specs.Prelude.{ltb}
use Rattle.std.specs.List.Sorted.{IsNonDecreasingBy, IsPartitionedBy, IsPartitionPoint}
use Rattle.std.proofs.lemmas.List.Sorted.{IsPartitionedBy-ltb}
use Rattle.std.proofs.lemmas.Option.{get_or_from_slice_get, slice_get-get_or}
use Rattle.recovery_base.specs.Ranges.{InRanges, AreApart, InsertsOne, floor_above, EndsFrom, IsPlace, span}
use Rattle.std.specs.Prelude.{◌==◌, ◌-◌, MatchBool, Bool, true, false, Some, None, slice_get}

abbrev pub Ranges : Type 0
Ranges = List (Range ℕ)

pub apart_lower : (low other : ℕ) (ranges : Ranges) → other ≤ low → AreApart low ranges → AreApart other ranges
unfolding AreApart
apart_lower _ _ [] _ _ = tt
apart_lower _ _ (_ ∷ _) less apart = grind arith

pub apart_rest : (low : ℕ) (range : Range ℕ) (others : Ranges) → AreApart low (range ∷ others) → AreApart low others
unfolding AreApart
apart_rest low range others apart = grind (arith, apart_lower (range.end + 1) low others)

pub in_above : (low : ℕ) (ranges : Ranges) (n : ℕ) → AreApart low ranges → InRanges ranges n → low ≤ n
unfolding InRanges AreApart
in_above _ [] n _ here = absurd here
in_above _ (range ∷ others) n apart here = grind (arith, in_above (range.end + 1) others n)

-- the ranges from a position on
pub from_there : (low at : ℕ) (ranges : Ranges) → AreApart low ranges
    → (low ≤ floor_above low (take at ranges)) × AreApart (floor_above low (take at ranges)) (drop at ranges)
unfolding AreApart floor_above
from_there _ (suc at) (range ∷ others) apart = grind (arith, from_there (range.end + 1) at others)
from_there low at ranges apart = (omega arith, apart)

-- a number from `bound` on is in what is left of the ranges
pub from_place : (bound n low at : ℕ) (ranges : Ranges) → AreApart low ranges → floor_above low (take at ranges) ≤ bound
    → bound ≤ n + 1 → InRanges ranges n ↔ InRanges (drop at ranges) n
unfolding InRanges AreApart floor_above
from_place bound n _ (suc at) (range ∷ others) apart below above =
    grind (arith, from_place bound n (range.end + 1) at others apart.2, from_there (range.end + 1) at others)
from_place bound n low at ranges apart below above = (λ here. here, λ here. here)

-- the numbers added and removed when ranges change, of which `n` may be one
module _ (n bound more : ℕ) (Comes Extends : Type 0) (arrives : Comes → bound ≤ n + 1)
    (leaves : Extends → bound ≤ n + 1) where
  abbrev pub Changes : ℕ → Ranges → Ranges → Type 0
  Changes low old new = (InRanges new n ↔ Comes ⊎ (InRanges old n × ¬ Extends)) × (Comes → ¬ InRanges old n)
      × AreApart low new × (length new ≤ length old + more)

  pub changed : (edit : ℕ → Ranges → Ranges) → ((at : ℕ) (range : Range ℕ) (others : Ranges)
      → range.start < range.end → range.end < bound → edit (suc at) (range ∷ others) ≡ range ∷ edit at others)
      → (low at : ℕ) (ranges : Ranges) → AreApart low ranges → floor_above low (take at ranges) ≤ bound
      → at ≤ length ranges
      → Changes (floor_above low (take at ranges)) (drop at ranges) (edit 0 (drop at ranges))
      → Changes low ranges (edit at ranges)
  unfolding InRanges AreApart floor_above
  changed edit passes low zero ranges apart below within change = change
  changed edit passes low (suc at) [] apart below within change = absurd (omega arith)
  changed edit passes low (suc at) (range ∷ others) apart below within change =
      let grows = from_there (range.end + 1) at others apart.2 in rw (passes at range others apart.1 (omega arith))
      (grind (
        arith,
        apart,
        arrives,
        leaves,
        grows,
        changed edit passes (range.end + 1) at others apart.2 below (omega arith)
            change,
      ))

-- what is left of the ranges after one of them
pub after : Ranges → ℕ → Ranges
after ranges at = drop (suc at) ranges

-- what is left of the ranges from one of them on
pub drop_at : (ranges : Ranges) (at : ℕ) (range : Range ℕ) → at < length ranges → range ≡ get_or ranges at range
    → drop at ranges ≡ range ∷ after ranges at
unfolding after
drop_at ranges at range inside is =
    drop-cons ranges at range inside ∙ ap (λ (r : Range ℕ). r ∷ drop (suc at) ranges) (sym is)

-- two reads at one position
pub same_read : (ranges : Ranges) (at : ℕ) {first second : Range ℕ} → at < length ranges
    → first ≡ get_or ranges at first → second ≡ get_or ranges at second → first ≡ second
same_read ranges at inside is also = is ∙ get_or_default ranges at _ _ inside ∙ sym also

-- ---- one more number

module _ {ranges : Ranges} {x at : ℕ} (apart : AreApart 0 ranges) (place : IsPlace ranges x at) where
  low : ℕ
  low = floor_above 0 (take at ranges)

  -- what an insertion must do from the position on
  abbrev Local : ℕ → ℕ → Ranges → Ranges → Type 0
  Local n = Changes n x 1 (n ≡ x) ⊥ (λ same. omega (arith, same)) (λ goes. absurd goes)

  inserted : (edit : ℕ → Ranges → Ranges) → ((at : ℕ) (range : Range ℕ) (others : Ranges)
      → edit (suc at) (range ∷ others) ≡ range ∷ edit at others) → (old : Ranges) → drop at ranges ≡ old
      → (low ≤ x → AreApart low old → (n : ℕ) → Local n low old (edit 0 old))
      → InsertsOne ranges x true (edit at ranges)
  unfolding low
  inserted edit passes old is local =
      record { answer = (all x).1 refl; numbers = λ n. grind (arith, all n); apart = (all 0).2; count = (all 0).3 }
    where
      all : (n : ℕ) → Local n 0 ranges (edit at ranges)
      all n = changed n x 1 (n ≡ x) ⊥ (λ same. omega (arith, same)) (λ goes. absurd goes) edit
          (λ i range others _ _. passes i range others) 0 at
          ranges apart place.below place.bound
          (rw is (local place.below (rw is at (from_there 0 at ranges apart).1) n))

  pub inserts_last : at ≡ length ranges → InsertsOne ranges x true (ranges ++ span x (x + 1) ∷ [])
  unfolding InRanges AreApart
  inserts_last last = inserted (λ i rs. rs ++ span x (x + 1) ∷ []) (λ i range others. refl) []
      (drop_all at ranges (omega arith)) (λ below apart n. grind (arith, below))

  -- `range` and `other` are two reads of the range at the position
  module _ {range other : Range ℕ} (differs : ¬ (at ≡ length ranges)) (is : range ≡ get_or ranges at range)
      (also : other ≡ get_or ranges at other) where
    rest : drop at ranges ≡ range ∷ after ranges at
    rest = drop_at ranges at range (omega arith) is

    as_other : range ≡ other
    as_other = same_read ranges at (omega arith) is also

    pub inserts_known : range.start ≤ x → x < other.end → InsertsOne ranges x false ranges
    unfolding InRanges AreApart
    inserts_known from to =
        let known : InRanges ranges x = (from_place x x 0 at ranges apart place.below (omega arith)).1
        (rw rest (inl (from, rw as_other to))) in
        record { answer = known; numbers = λ n. grind (arith, known); apart = apart; count = omega arith }

    pub inserts_between : x + 1 < range.start → InsertsOne ranges x true (insert ranges at (span x (x + 1)))
    unfolding InRanges AreApart
    inserts_between above = inserted (λ i rs. insert rs i (span x (x + 1))) (λ i range others. refl)
        (range ∷ after ranges at) rest
        (λ below apart n. grind (arith, below, apart, above, in_above (range.end + 1) (after ranges at) x))

    pub inserts_below : x + 1 ≡ other.start → InsertsOne ranges x true (set ranges at (span x range.end))
    unfolding InRanges AreApart
    inserts_below touches = inserted (λ i rs. set rs i (span x range.end)) (λ i range others. refl)
        (range ∷ after ranges at) rest
        (λ below apart n. grind (arith, below, apart, touches, as_other, in_above (range.end + 1) (after ranges at) x))

    module _ (past : other.end ≤ x) where
      ends_there : x ≤ range.end
      ends_there = rw rest at place.above

      rest_two : (next : Range ℕ) → at + 1 < length ranges → next ≡ get_or ranges (at + 1) next
          → drop at ranges ≡ range ∷ next ∷ drop (suc (suc at)) ranges
      unfolding after
      rest_two next within is' = rest ∙ ap (λ (rs : Ranges). range ∷ rs)
          (drop_at _ (suc at) _ (omega arith) (is' ∙ ap (λ i. get_or ranges i next) (add-one at)))

      -- no range joins it from above
      pub inserts_above : (length ranges ≤ at + 1) ⊎ ((next : Range ℕ) × (at + 1 < length ranges)
          × (next ≡ get_or ranges (at + 1) next) × (¬ (next.start ≡ x + 1)))
          → InsertsOne ranges x true (set ranges at (span range.start (x + 1)))
      unfolding InRanges AreApart after
      inserts_above (inl last) = inserted (λ i rs. set rs i (span range.start (x + 1))) (λ i range others. refl)
          (range ∷ []) (rest ∙ ap (λ (rs : Ranges). range ∷ rs) (drop_all (suc at) ranges (omega arith)))
          (λ below apart n. grind (arith, below, apart, past, as_other, ends_there))
      inserts_above (inr next) = let alone = next.3 in
          inserted (λ i rs. set rs i (span range.start (x + 1))) (λ i range others. refl)
          (range ∷ next.0 ∷ drop (suc (suc at)) ranges) (rest_two next.0 next.1 next.2)
          (λ below apart n. grind (
            arith,
            below,
            apart,
            past,
            as_other,
            ends_there,
            alone,
            in_above (next.0.end + 1) (drop (suc (suc at)) ranges) x,
          ))

      pub inserts_joining : (next : Range ℕ) → at + 1 < length ranges → next ≡ get_or ranges (at + 1) next
          → next.start ≡ x + 1 → InsertsOne ranges x true (set (remove ranges (at + 1)) at
          (span range.start next.end))
      unfolding InRanges AreApart
      inserts_joining next within is' follows =
          inserted (λ i rs. set (remove rs (i + 1)) i (span range.start next.end))
          (λ i range others. let e : suc i + 1 ≡ suc (i + 1) = omega arith in rw e refl)
          (range ∷ next ∷ drop (suc (suc at)) ranges) (rest_two next within is')
          (λ below apart n. grind (
            arith,
            below,
            apart,
            past,
            as_other,
            ends_there,
            follows,
            in_above (next.end + 1) (drop (suc (suc at)) ranges) x,
          ))

-- ---- the position of a number

-- the range at a position
at_range : (low i : ℕ) (ranges : Ranges) (d : Range ℕ) → AreApart low ranges → i < length ranges
    → (floor_above low (take i ranges) ≤ (get_or ranges i d).start)
    × ((get_or ranges i d).start < (get_or ranges i d).end)
    × (floor_above low (take (suc i) ranges) ≡ (get_or ranges i d).end + 1)
unfolding AreApart floor_above
at_range _ i [] d _ within = absurd (omega arith)
at_range _ zero (_ ∷ _) d apart _ = (apart.0, apart.1, refl)
at_range _ (suc i) (range ∷ others) d apart within = at_range (range.end + 1) i _ d apart.2 (omega arith)

ends_from : (x i : ℕ) (ranges : Ranges) (d : Range ℕ) → (i < length ranges → x ≤ (get_or ranges i d).end)
    → EndsFrom x (drop i ranges)
ends_from x zero (_ ∷ _) d above = above (omega arith)
ends_from x (suc i) (_ ∷ others) d above = ends_from x i _ d (λ within. above (omega arith))
ends_from x i ranges d above = tt

ends_rise : (low : ℕ) (ranges : Ranges) → AreApart low ranges → IsNonDecreasingBy (λ (r : Range ℕ). r.end) ranges
unfolding AreApart
ends_rise _ (range ∷ others) apart zero (suc j) d less within =
    grind (arith, from_there (range.end + 1) j others, at_range (range.end + 1) j others d)
ends_rise low (range ∷ others) apart (suc i) (suc j) d less within =
    ends_rise (range.end + 1) others apart.2 i j d (omega arith) (omega arith)
ends_rise low ranges apart i j d less within = omega arith

pub ends_parted : (ranges : Ranges) (x : ℕ) → AreApart 0 ranges → IsPartitionedBy (λ (r : Range ℕ). ltb r.end x) ranges
ends_parted ranges x apart = IsPartitionedBy-ltb (λ (r : Range ℕ). r.end) ranges x (ends_rise 0 ranges apart)

pub place_is : (ranges : Ranges) (x at : ℕ) → AreApart 0 ranges → at ≤ length ranges
    → IsPartitionPoint (λ (r : Range ℕ). ltb r.end x ≡ true) (λ (r : Range ℕ). ltb r.end x ≡ false) ranges at
    → IsPlace ranges x at
unfolding floor_above
place_is ranges x at apart within parts = record {
  bound = within;
  below = below at within parts.0;
  above = ends_from x at ranges (span 0 0)
      (λ inside. grind (arith, nat_tests, parts.1 at (span 0 0) (omega arith) inside));
}
  where
    below : (i : ℕ) → i ≤ length ranges → ((k : ℕ) (d : Range ℕ) → 0 ≤ k → k < i → ltb (get_or ranges k d).end x ≡ true)
        → floor_above 0 (take i ranges) ≤ x
    below zero within parts = omega arith
    below (suc i) within parts = grind (
      arith,
      nat_tests,
      at_range 0 i ranges (span 0 0) apart,
      parts i (span 0 0) (omega arith) (omega arith),
    )

some_last : (ranges : Ranges) (last : Range ℕ) → slice_get ranges (length ranges - 1) ≡ Some last → 0 < length ranges
some_last [] _ is = absurd cc
some_last (_ ∷ _) _ is = omega arith

-- what the last range determines of the position
module _ (ranges : Ranges) (x : ℕ) where
  -- if there is none, the position is the first
  pub place_of_none : slice_get ranges (length ranges - 1) ≡ None → IsPlace ranges x 0
  unfolding floor_above
  place_of_none none = record {
    bound = omega arith;
    below = omega arith;
    above = ends_from x 0 ranges (span 0 0) (λ within. let h : slice_get ranges (length ranges - 1)
        ≡ Some (get_or ranges (length ranges - 1) (span 0 0)) = slice_get-get_or ranges (length ranges - 1)
        (span 0 0) (omega arith) in absurd cc);
  }

  module _ (last : Range ℕ) (apart : AreApart 0 ranges) (is : slice_get ranges (length ranges - 1) ≡ Some last) where
    last_at : (floor_above 0 (take (length ranges - 1) ranges) ≤ last.start)
        × (last.start < last.end)
        × (floor_above 0 (take (suc (length ranges - 1)) ranges) ≡ last.end + 1)
    last_at = rw (get_or_from_slice_get ranges (length ranges - 1) last last is) at
        (at_range 0 (length ranges - 1) ranges last apart (omega (arith, some_last ranges last is)))

    -- if it ends below x, the position is after it
    pub place_behind : last.end < x → IsPlace ranges x (length ranges)
    place_behind above = record {
      bound = omega arith;
      below = let e : suc (length ranges - 1) ≡ length ranges = omega (arith, some_last ranges last is) in
          let at : floor_above 0 (take (length ranges) ranges) ≡ last.end + 1 = rw e at last_at.2 in omega arith;
      above = rw (drop_all (length ranges) ranges (omega arith)) tt;
    }

    -- if x is in it or at its end, the position is that one
    pub place_in_last : last.start ≤ x → x ≤ last.end → IsPlace ranges x (length ranges - 1)
    place_in_last from to = record {
      bound = omega arith;
      below = omega (arith, last_at);
      above = ends_from x (length ranges - 1) ranges last (λ within. rw
          (get_or_from_slice_get ranges (length ranges - 1) last last is) to);
    }

-- the ranges after the first
pub apart_dropped : (ranges : Ranges) → AreApart 0 ranges → AreApart 0 (drop 1 ranges)
apart_dropped [] apart = apart
apart_dropped (range ∷ others) apart = apart_rest 0 range others apart

-- no range, no number; else the first one begins with one
pub is_empty_told : (ranges : Ranges) (low count : ℕ) → AreApart low ranges → length ranges ≡ count → (empty : Bool)
    → empty ≡ (count == 0) → MatchBool empty ((n : ℕ) → ¬ InRanges ranges n) ((n : ℕ) × InRanges ranges n)
unfolding AreApart InRanges
is_empty_told [] _ _ _ _ true is = λ n here. here
is_empty_told (range ∷ _) _ _ apart _ false is = (range.start, inl (omega arith, apart.1))
is_empty_told ranges low count apart size empty is = grind arith
