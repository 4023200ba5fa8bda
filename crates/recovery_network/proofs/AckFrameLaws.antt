-- The ranges of an ACK frame, and its counts.
use Rattle.std.proofs.Common.{◌≡◌, ℕ, zero, suc, ◌+◌, ◌-◌, ◌<◌, ◌≤◌, ◌⊎◌, inl, inr, drop, List, [], ◌∷◌, ◌++◌, length, get_or, arith}
use Rattle.std.specs.declared.ops.Range.{Range}
use Rattle.std.proofs.lemmas.List.{drop_more}
use Rattle.recovery_base.specs.Ranges.{InRanges}
use Rattle.recovery_network.specs.AckFrames.{IsInAck}

-- ---- ranges

abbrev pub no_range : Range ℕ
no_range = record { start = 0; end = 0 }

in_range : (n : ℕ) (all : List (Range ℕ)) (at : ℕ) → at < length all → (get_or all at no_range).start ≤ n
    → n < (get_or all at no_range).end → InRanges all n
unfolding InRanges
in_range n [] at within low high = absurd (omega (arith, within))
in_range n (range ∷ all) zero within low high = inl (low, high)
in_range n (range ∷ all) (suc at) within low high = inr (in_range n all at (omega (arith, within)) low high)

-- in the first range, or in the others
in_here : (range : Range ℕ) (others : List (Range ℕ)) (n : ℕ) → InRanges (range ∷ others) n
    → ((range.start ≤ n) × (n < range.end)) ⊎ InRanges others n
unfolding InRanges
in_here range others n is = is

none_from : (all : List (Range ℕ)) (at n : ℕ) → length all ≤ at → InRanges (drop at all) n → ⊥
unfolding InRanges
none_from [] zero n le is = is
none_from [] (suc at) n le is = is
none_from (range ∷ all) zero n le is = absurd (omega (arith, le))
none_from (range ∷ all) (suc at) n le is = none_from all at n (omega (arith, le)) is

-- ---- the ranges of an ACK

in_either : (n : ℕ) (ranges : List (ℕ × ℕ)) (range : ℕ × ℕ) → IsInAck n (ranges ++ range ∷ [])
    → IsInAck n ranges ⊎ ((range.0 ≤ n) × (n ≤ range.1))
in_either n [] range (inl here) = inr here
in_either n [] range (inr never) = absurd never
in_either n (first ∷ ranges) range (inl here) = inl (inl here)
in_either n (first ∷ ranges) range (inr there) = elim (in_either n ranges range there) [
  | inl earlier ↦ inl (inr earlier)
  | inr last ↦ inr last
]

in_first : (n : ℕ) (ranges more : List (ℕ × ℕ)) → IsInAck n ranges → IsInAck n (ranges ++ more)
in_first n [] more never = absurd never
in_first n (range ∷ ranges) more (inl here) = inl here
in_first n (range ∷ ranges) more (inr there) = inr (in_first n ranges more there)

in_last : (n : ℕ) (ranges more : List (ℕ × ℕ)) → IsInAck n more → IsInAck n (ranges ++ more)
in_last n [] more is = is
in_last n (range ∷ ranges) more is = inr (in_last n ranges more is)

-- the ranges from a place on are listed
pub record AreListed (all : List (Range ℕ)) (at : ℕ) (ranges : List (ℕ × ℕ)) : Type 0 where
  pub held : (n : ℕ) → IsInAck n ranges → InRanges all n
  pub listed : (n : ℕ) → InRanges (drop at all) n → IsInAck n ranges
  pub within : at ≤ length all

pub none_listed : (all : List (Range ℕ)) (at : ℕ) → at ≡ length all → AreListed all at []
none_listed all at is = record {
  held = λ n never. absurd never;
  listed = λ n held. absurd (none_from all at n (omega (arith, is)) held);
  within = omega (arith, is);
}

module _ (all : List (Range ℕ)) (at : ℕ) (ranges : List (ℕ × ℕ)) (some : 0 < at) (old : AreListed all at ranges) where
  -- a number from the place before on
  one_back : (n : ℕ) → InRanges (drop (at - 1) all) n
      → (((get_or all (at - 1) no_range).start ≤ n) × (n < (get_or all (at - 1) no_range).end))
      ⊎ InRanges (drop at all) n
  one_back n held =
      let within = old.within in
      let next : at - 1 + 1 ≡ at = omega (arith, some) in
      let down = drop_more all (at - 1) no_range (omega (arith, some, within)) in
      rw next at (in_here (get_or all (at - 1) no_range) (drop (at - 1 + 1) all) n (rw down at held))

  pub one_more : (last : ℕ) (more : List (ℕ × ℕ)) → (get_or all (at - 1) no_range).end ≡ suc last
      → more ≡ ranges ++ ((get_or all (at - 1) no_range).start, last) ∷ [] → AreListed all (at - 1) more
  one_more last more ends is = let within = old.within in record {
    held = λ n acked. elim (in_either n ranges ((get_or all (at - 1) no_range).start, last) (rw is at acked)) [
      | inl earlier ↦ old.held n earlier
      | inr here ↦ in_range n all (at - 1) (omega (arith, some, within)) here.0 (omega (arith, here.1, ends))
    ];
    listed = λ n held. rw is (elim (one_back n held) [
      | inl here ↦ in_last n ranges (((get_or all (at - 1) no_range).start, last) ∷ [])
          (inl (here.0, omega (arith, here.1, ends)))
      | inr there ↦ in_first n ranges (((get_or all (at - 1) no_range).start, last) ∷ []) (old.listed n there)
    ]);
    within = omega (arith, within);
  }

  -- the range there has no number
  pub no_more : (get_or all (at - 1) no_range).end ≡ 0 → AreListed all (at - 1) ranges
  no_more ends = let within = old.within in record {
    held = old.held;
    listed = λ n held. elim (one_back n held) [
      | inl here ↦ absurd (omega (arith, here.1, ends))
      | inr there ↦ old.listed n there
    ];
    within = omega (arith, within);
  }
