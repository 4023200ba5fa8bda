-- What waits at an end, step by step.
use Rattle.std.proofs.Common.{◌≡◌, ℕ, ◌+◌, ◌<◌, ◌≤◌, true, List, [], ◌∷◌, ◌++◌, length, get_or, zero, suc, sym, ap, subst, arith}
use Rattle.std.specs.List.{remove}
use Rattle.recovery_base.specs.declared.below.SpaceId.{SpaceId}
use Rattle.recovery_base.specs.Spaces.{same_space}
use Rattle.recovery_history.proofs.TrackedLaws.{one_space}
use Rattle.recovery_pair.specs.declared.endpoint.Waiting.{Waiting}
use Rattle.recovery_pair.specs.Logs.{part}
use Rattle.recovery_pair.specs.Waits.{GainsOne, LosesNone, LosesOne, waiting_in}

swapped : (a w b r : ℕ) → w ≤ b + r → a + w ≤ b + (a + r)
swapped a w b r most = omega (arith, most)

swapped_back : (a b w r : ℕ) → a + w ≤ r → a + (b + w) ≤ b + r
swapped_back a b w r most = omega (arith, most)

pub none_lost : (old new : List Waiting) → new ≡ old → LosesNone old new
none_lost old new same measure space =
    let equal = ap (λ (all : List Waiting). waiting_in measure space all) same in omega (arith, equal)

-- ---- one is taken

pub one_removed : (there : SpaceId) (measure : List ℕ → ℕ) (space : SpaceId) (all : List Waiting) (at : ℕ)
    (one : Waiting) → at < length all → same_space (get_or all at one).space there ≡ true
    → waiting_in measure space all
    ≤ part (same_space there space) (measure (get_or all at one).queue) + waiting_in measure space (remove all at)
one_removed there measure space [] at one within is = absurd (omega (arith, within))
one_removed there measure space (first ∷ all) zero one within is =
    let same : first.space ≡ there = one_space first.space there is in
    let most : part (same_space first.space space) (measure first.queue) + waiting_in measure space all
    ≤ part (same_space first.space space) (measure first.queue) + waiting_in measure space all = omega arith in
    subst (λ (here : SpaceId). part (same_space first.space space) (measure first.queue) + waiting_in measure space all
    ≤ part (same_space here space) (measure first.queue) + waiting_in measure space all) same most
one_removed there measure space (first ∷ all) (suc at) one within is =
    swapped (part (same_space first.space space) (measure first.queue)) (waiting_in measure space all)
    (part (same_space there space) (measure (get_or all at one).queue)) (waiting_in measure space (remove all at))
    (one_removed there measure space all at one (omega (arith, within)) is)

pub removed_one : (there : SpaceId) (all new : List Waiting) (at : ℕ) (one : Waiting) → at < length all
    → same_space (get_or all at one).space there ≡ true → one ≡ get_or all at one → new ≡ remove all at
    → LosesOne all new there one.queue
removed_one there all new at one within is found same measure space =
    subst (λ (left : List Waiting). waiting_in measure space all
    ≤ part (same_space there space) (measure one.queue) + waiting_in measure space left) (sym same)
    (subst (λ (it : Waiting). waiting_in measure space all
    ≤ part (same_space there space) (measure it.queue) + waiting_in measure space (remove all at)) (sym found)
    (one_removed there measure space all at one within is))

pub lost_one : (there : SpaceId) (items : List ℕ) (old new : List Waiting) → new ≡ old
    → LosesOne old new there items
lost_one there items old new same measure space =
    let equal = ap (λ (all : List Waiting). waiting_in measure space all) same in
    more (part (same_space there space) (measure items)) (waiting_in measure space old) (waiting_in measure space new)
    equal
  where
    more : (a b c : ℕ) → c ≡ b → b ≤ a + c
    more a b c is = omega (arith, is)

-- ---- one more waits

pub one_pushed : (there : SpaceId) (old new : List Waiting) (last : Waiting) → last.space ≡ there
    → new ≡ old ++ last ∷ [] → GainsOne old new there last.queue
one_pushed there old new last is pushed measure space =
    rw pushed (pushes old)
  where
    here : part (same_space there space) (measure last.queue) + 0
        ≤ part (same_space last.space space) (measure last.queue) + 0
    here = rw is (omega arith)

    pushes : (all : List Waiting) → part (same_space there space) (measure last.queue) + waiting_in measure space all
        ≤ waiting_in measure space (all ++ last ∷ [])
    pushes [] = here
    pushes (first ∷ all) = swapped_back (part (same_space there space) (measure last.queue))
        (part (same_space first.space space) (measure first.queue)) (waiting_in measure space all)
        (waiting_in measure space (all ++ last ∷ [])) (pushes all)

-- what was taken waits again
pub kept_again : (there : SpaceId) (items again : List ℕ) (old between new : List Waiting)
    → LosesOne old between there items → GainsOne between new there again → again ≡ items → LosesNone old new
kept_again there items again old between new loses gains same measure space =
    let one = loses measure space in
    let two = subst (λ (list : List ℕ). part (same_space there space) (measure list) + waiting_in measure space between
    ≤ waiting_in measure space new) same (gains measure space) in
    both _ _ _ _ one two
  where
    both : (a b c d : ℕ) → a ≤ b + c → b + c ≤ d → a ≤ d
    both a b c d one two = omega (arith, one, two)

pub lost_then : (there : SpaceId) (items told : List ℕ) (old between new : List Waiting)
    → LosesOne old between there items → new ≡ between → told ≡ items → LosesOne old new there told
lost_then there items told old between new loses same is measure space =
    subst (λ (list : List ℕ). waiting_in measure space old
    ≤ part (same_space there space) (measure list) + waiting_in measure space new) (sym is)
    (subst (λ (all : List Waiting). waiting_in measure space old
    ≤ part (same_space there space) (measure items) + waiting_in measure space all) (sym same) (loses measure space))
