-- Counts over the stored sizes of bursts, and numbers among others. `BurstTies` rest on it.
use Rattle.std.proofs.Common.{◌≡◌, ℕ, suc, ◌+◌, ◌<◌, ◌≤◌, min, max, Bool, true, false, List, [], ◌∷◌, ◌++◌, length, arith, refl, length-append}
use Rattle.std.specs.Prelude.{nat_lt, nat_eq, filter}
use Rattle.std.specs.List.{list_all}
use Rattle.std.specs.List.{reduce}
use Rattle.std.specs.Option.{unwrap_or}
use Rattle.std.specs.Set.{is_member}
use Rattle.recovery_mtud.specs.Bursts.{in_place, with_burst}

-- 1 where the test is passed
abbrev pub one : Bool → ℕ
one true = 1
one false = 0

-- how many pass
abbrev pub tally : {X : Type 0} → (X → Bool) → List X → ℕ
tally test [] = 0
tally test (x ∷ xs) = one (test x) + tally test xs

abbrev pub AllAbove : ℕ → List ℕ → Type 0
AllAbove low [] = Unit {0}
AllAbove low (size ∷ sizes) = (low < size) × AllAbove low sizes

pub length-filter : {X : Type 0} (test : X → Bool) (xs : List X) → length (filter test xs) ≡ tally test xs
length-filter _ [] = refl
length-filter test (x ∷ xs) = grind (arith, length-filter test xs)

pub tally-append : {X : Type 0} (test : X → Bool) (xs ys : List X)
    → tally test (xs ++ ys) ≡ tally test xs + tally test ys
tally-append _ [] ys = omega arith
tally-append test (x ∷ xs) ys = omega (arith, tally-append test xs ys)

tally-in_place : (low this that : ℕ) (sizes : List ℕ)
    → tally (λ size. nat_lt low size) (in_place this that sizes) ≤ tally (λ size. nat_lt low size) sizes + one
    (nat_lt low this)
tally-in_place _ _ _ [] = omega arith
tally-in_place low this that (_ ∷ sizes) = grind (arith, tally-in_place low this that sizes)

pub length-in_place : (this that : ℕ) (sizes : List ℕ) → length (in_place this that sizes) ≡ length sizes
length-in_place _ _ [] = refl
length-in_place this that (_ ∷ sizes) = grind (arith, length-in_place this that sizes)

all-in_place : (low this that : ℕ) (sizes : List ℕ) → low < this → AllAbove low sizes
    → AllAbove low (in_place this that sizes)
all-in_place _ _ _ [] _ _ = tt
all-in_place low this that (_ ∷ sizes) above all = grind (arith, all-in_place low this that sizes above all.1)

all-push : (low size : ℕ) (sizes : List ℕ) → low < size → AllAbove low sizes → AllAbove low (sizes ++ size ∷ [])
all-push _ _ [] above _ = (above, tt)
all-push low size (_ ∷ sizes) above all = (all.0, all-push low _ sizes above all.1)

pub all-filter : (low : ℕ) (keeps : ℕ → Bool) (sizes : List ℕ) → AllAbove low sizes → AllAbove low (filter keeps sizes)
all-filter _ _ [] _ = tt
all-filter low keeps (_ ∷ sizes) all = grind (arith, all-filter low keeps sizes all.1)

pub all-kept : (low : ℕ) (sizes : List ℕ) → AllAbove low (filter (λ size. nat_lt low size) sizes)
all-kept _ [] = tt
all-kept low (_ ∷ sizes) = grind (arith, all-kept low sizes)

-- all pass
pub tally-all : (low least : ℕ) (sizes : List ℕ) → low ≤ least → AllAbove least sizes
    → tally (λ size. nat_lt low size) sizes ≡ length sizes
tally-all _ _ [] _ _ = refl
tally-all low least (_ ∷ sizes) below all = grind (arith, tally-all low least sizes below all.1)

-- a size below all of them adds nothing to the test
pub tally-raise : (low bytes least : ℕ) (sizes : List ℕ) → bytes ≤ least → AllAbove least sizes
    → tally (λ size. nat_lt low size) sizes ≡ tally (λ size. nat_lt (max low bytes) size) sizes
tally-raise _ _ _ [] _ _ = refl
tally-raise low bytes least (_ ∷ sizes) below all =
    grind (arith, tally-raise low bytes least sizes below all.1)

-- ---- one more size

pub length-with_burst : (size : ℕ) (sizes : List ℕ) → min 4 (suc (length sizes)) ≤ length (with_burst size sizes)
length-with_burst _ _ = grind (arith, length-append {A = ℕ}, length-in_place)

pub tally-with_burst : (low size : ℕ) (sizes : List ℕ)
    → tally (λ other. nat_lt low other) (with_burst size sizes) ≤ tally (λ other. nat_lt low other) sizes + one
    (nat_lt low size)
tally-with_burst low size sizes =
    let least = unwrap_or (reduce min sizes) 0 in
    grind (arith, tally-append (λ other. nat_lt low other) sizes (size ∷ []), tally-in_place low size least sizes)

pub all-with_burst : (low size : ℕ) (sizes : List ℕ) → low < size → AllAbove low sizes
    → AllAbove low (with_burst size sizes)
all-with_burst low size sizes above all =
    let least = unwrap_or (reduce min sizes) 0 in
    grind (arith, all-push low size sizes above all, all-in_place low size least sizes above all)

-- ---- numbers

abbrev pub has : ℕ → List ℕ → Bool
has number numbers = is_member nat_eq numbers number

pub past_has : (last : ℕ) (numbers : List ℕ) (number : ℕ) → list_all (λ other. nat_lt other last) numbers ≡ true
    → has number numbers ≡ true → number < last
past_has _ [] _ _ is = absurd (cc)
past_has last (_ ∷ numbers) number past is = grind (arith, past_has last numbers number)
