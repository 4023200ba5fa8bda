-- Items up to the end of a line: what is read is encoded so, what is encoded so is read, and all words are plain.
-- `FormLaws` rest on it.
use Rattle.std.proofs.Common.{◌≡◌, ℕ, ◌+◌, ◌<◌, ◌^◌, List, [], ◌∷◌, ◌++◌, map, length, Option, Some, None, Result, Ok, Err, OnErr, Bool, false, Decides, decimal}
use Rattle.std.proofs.Common.{arith, lit≤, refl}
use Rattle.std.specs.List.{AllByRecursion}
use Rattle.recovery_script_syntax.specs.Reading.{◌>>=◌, field, items_read, number_of}
use Rattle.recovery_script_syntax.proofs.NumberWordLaws.{number_again, number_takes}
use Rattle.recovery_script_syntax.proofs.PlainWordLaws.{IsPlain, decimal_plain}

abbrev pub AreItems : List ℕ → Type 0
AreItems items = AllByRecursion (λ item. item < 2 ^ 64) items

pub items_take : (words : List (List ℕ)) (items : List ℕ) → items_read words ≡ Some items
    → (words ≡ map decimal items) × AreItems items
items_take [] items e = grind (arith, e)
items_take (word ∷ words) items e = grind (arith, e, number_takes (2 ^ 64) word, items_take words)

pub items_again : (items : List ℕ) → AreItems items
    → (items_read (map decimal items) ≡ Some items) × AllByRecursion IsPlain (map decimal items)
items_again [] h = (refl, tt)
items_again (item ∷ items) h =
    let rest = items_again items h.1 in
    (rw (number_again (2 ^ 64) item (lit≤ tt) h.0, rest.0) refl, (decimal_plain item (omega (arith, h.0)), rest.1))

-- ---- reading them one after another

-- the next word is an item
pub item_first : (words rest : List (List ℕ)) (item : ℕ) → field (number_of (2 ^ 64)) words ≡ Some (item, rest)
    → (items_read words ≡ (items_read rest >>= λ more. Some (item ∷ more))) × (length rest + 1 ≡ length words)
unfolding field
item_first [] rest item e = absurd cc
item_first (word ∷ words) rest item e = grind (arith, e)

-- the next word is none
pub no_item : (words : List (List ℕ)) (empty : Bool) → empty ≡ false → Decides empty (words ≡ [])
    → field (number_of (2 ^ 64)) words ≡ None → items_read words ≡ None
unfolding field
no_item [] empty is decides e = grind (arith, is, decides)
no_item (word ∷ words) empty is decides e = grind (arith, e)

-- these items are before those that are read
abbrev pub behind : List ℕ → Option (List ℕ) → Option (List ℕ)
behind items read = read >>= λ more. Some (items ++ more)

-- what is true is true if an allocation failed
pub on_err : {T E P : Type 0} (result : Result T E) → P → OnErr result P
on_err (Ok value) holds = tt
on_err (Err error) holds = holds
