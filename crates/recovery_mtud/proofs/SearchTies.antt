-- The invariants of a search: how many sizes may still follow by its bounds (a size in the middle halves what is left:
-- RFC 8899, 5.3.2), and what the link leaves of them. `SearchRunLaws` rest on it.
use Rattle.std.proofs.Common.{◌≡◌, ◌⊎◌, inl, inr, ℕ, zero, suc, ◌+◌, ◌-◌, ◌*◌, ◌/◌, ◌^◌, ◌<◌, ◌≤◌, min, max, if◌then◌else◌, Option, Some, None, Bool, true, false, List, ◌∷◌, length, arith, refl}
use Rattle.std.specs.Prelude.{nat_eq}
use Rattle.std.specs.Set.{distinct_count, is_member}
use Rattle.std.proofs.Math.Nat.{pow-suc}
use Rattle.std.proofs.lemmas.Bool.Decides.{nat_tests}
use Rattle.recovery_mtud.specs.declared.config.MtuDiscoveryConfig.{MtuDiscoveryConfig}
use Rattle.recovery_mtud.specs.declared.search.Probing.{Probing}
use Rattle.recovery_mtud.specs.Search.{MtuSearch, search_begun, narrowed, repeats, size_to_probe}

abbrev pub flying : Option ℕ → ℕ
flying None = 0
flying (Some number) = 1

-- the last size got through, or is tried: in flight, or lost this many times. This many more sizes are enough for the
-- width above it and, if it is tried, for the width below it
abbrev pub Narrows : ℕ → ℕ → List ℕ → Probing → Type 0
Narrows further change probed p =
    (distinct_count nat_eq probed + further ≤ 16) × (length probed + 3 * further ≤ 48)
    × (p.lower ≤ p.last) × (p.last ≤ p.upper)
    × ((p.upper - p.last ≤ 2 ^ further) ⊎ (p.upper - p.last < change))
    × (1 ≤ p.losses + flying p.in_flight → (p.losses + flying p.in_flight ≤ 3) × (p.lower < p.last)
    × ((p.last - 1 - p.lower ≤ 2 ^ further) ⊎ ((1 ≤ further) × (p.last + 1 ≤ p.lower + 2 * change))
    ⊎ (p.last - p.lower < change + (p.last - 1 - p.lower) / 2))
    × (is_member nat_eq probed p.last ≡ true)
    × (length probed + 3 * further + 3 ≤ 48 + (p.losses + flying p.in_flight)))

one_more : (k : ℕ) → (1 ≤ k) ⊎ (2 ^ k ≡ 1)
one_more zero = inr refl
one_more (suc k) = inl (omega arith)

-- a size that is probed again takes none of them, another one does
abbrev pub left : ℕ → Probing → ℕ
left further p = if repeats p then further else further - 1

abbrev pub next : ℕ → ℕ → Probing → Probing
next number size p = record (narrowed p) { in_flight = Some number; last = size }

by_test : (further change number size : ℕ) (probed : List ℕ) (p : Probing) (again : Bool) → repeats p ≡ again
    → 3 ≤ change → p.in_flight ≡ None → size_to_probe change p ≡ Some size → Narrows further change probed p
    → Narrows (if again then further else further - 1) change (size ∷ probed) (next number size p)
by_test _ _ _ _ probed p true same _ empty is narrows = grind (arith, nat_tests)
by_test zero _ _ _ probed p false same wide _ is narrows = absurd (grind (arith, nat_tests))
by_test (suc k) _ _ _ probed p false same wide empty is narrows =
    grind (arith, nat_tests, pow-suc 2 k, one_more k)

pub narrows_next : (further change number size : ℕ) (probed : List ℕ) (p : Probing)
    → 3 ≤ change → p.in_flight ≡ None → size_to_probe change p ≡ Some size → Narrows further change probed p
    → Narrows (left further p) change (size ∷ probed) (next number size p)
narrows_next further change number size probed p = by_test _ _ number size probed p (repeats p) refl

-- to a link that carries exactly the sizes up to this one: the MTU in use gets through, and the best size is within
-- reach
abbrev pub Fair : ℕ → ℕ → ℕ → Probing → Type 0
Fair link upper mtu p = (mtu ≤ link) × (min link upper ≤ p.upper) × (p.lower ≤ mtu) × (0 < p.losses → link < p.last)
    × (p.losses + flying p.in_flight ≡ 0 → p.last ≤ mtu)

pub fair_next : (link upper mtu change number size : ℕ) (p : Probing) → p.in_flight ≡ None
    → size_to_probe change p ≡ Some size → Fair link upper mtu p → Fair link upper mtu (next number size p)
fair_next _ _ _ _ _ _ p empty is fair = grind arith

pub fair_end : (link upper mtu change further : ℕ) (probed : List ℕ) (p : Probing) → 3 ≤ change → p.in_flight ≡ None
    → size_to_probe change p ≡ None → Narrows further change probed p → Fair link upper mtu p
    → min link upper < mtu + 2 * change
fair_end _ _ _ _ _ probed p wide empty is _ fair = grind arith

-- all sizes are within the bound; the last one got through, or is tried: above the MTU in use, and within the upper
-- bound of the settings
abbrev pub Within : MtuDiscoveryConfig → ℕ → ℕ → Probing → Type 0
Within settings bound mtu p = (p.lower ≤ bound) × (p.upper ≤ bound) × (p.last ≤ bound)
    × (3 ≤ settings.minimum_change → (p.last ≤ p.upper) × (min mtu p.upper ≤ p.last)
    × (p.upper ≤ max settings.upper_bound p.last)
    × (1 ≤ p.losses + flying p.in_flight
    → (mtu ≤ p.lower) × (p.lower < p.last) × (p.upper ≤ settings.upper_bound)))

pub within_begun : (mtu : ℕ) (search : MtuSearch)
    → (let fresh = search_begun mtu search in Within search.settings fresh.upper mtu fresh)
within_begun _ _ = grind arith

pub within_next : (settings : MtuDiscoveryConfig) (bound mtu number size : ℕ) (p : Probing)
    → Within settings bound mtu p → size_to_probe settings.minimum_change p ≡ Some size
    → Within settings bound mtu (next number size p)
within_next _ _ _ _ _ p within is = grind (arith, nat_tests)
