-- A field that is read is the field that is encoded, what is encoded is read, and its word is plain. `FormLaws` rest on
-- it.
use Rattle.std.proofs.Common.{arith, ◌≡◌, ℕ, ◌^◌, List, [], ◌∷◌, Option, Some, None, decimal, refl}
use Rattle.std.proofs.lemmas.Slice.Eq.{bytes_eq-Decides}
use lib.Chars.{codes}
use Rattle.recovery_base.specs.Timers.{timer_named}
use Rattle.recovery_script_syntax.specs.Fields.{Field, Value, word_for, FitsFieldType, a_largest}
use Rattle.recovery_script_syntax.specs.Reading.{◌>>=◌, field, value_of, flag_of, space_of, path_of, largest_of}
use Rattle.std.proofs.lemmas.Fmt.{decimal_is_IsNumeral}
use Rattle.recovery_script_syntax.proofs.NumberWordLaws.{number_takes, number_again}
use Rattle.recovery_script_syntax.proofs.PlainWordLaws.{IsPlain, decimal_plain}

-- the value of a step that did not fail
pub bind_some : {A B : Type 0} (o : Option A) (f : A → Option B) (y : B) → (o >>= f) ≡ Some y → (x : A) × (o ≡ Some x)
    × (f x ≡ Some y)
bind_some (Some x) f y e = (x, refl, e)
bind_some None f y e = absurd cc

takes : (f : Field) (text : List ℕ) (x : Value f) → value_of f text ≡ Some x → (text ≡ word_for f x) × FitsFieldType f x
unfolding flag_of space_of timer_named path_of largest_of
takes a_largest text (Some n) e = grind (arith, e, bytes_eq-Decides text, number_takes (2 ^ 64) text n)
takes f text x e = first_of (search number_takes, grind (arith, e, bytes_eq-Decides text))

pub again : (f : Field) (x : Value f) → FitsFieldType f x → (value_of f (word_for f x) ≡ Some x) × IsPlain
    (word_for f x)
unfolding flag_of space_of timer_named path_of largest_of
again a_largest (Some n) h = (
  grind (arith, number_again (2 ^ 64) n, decimal_is_IsNumeral n h, bytes_eq-Decides (decimal n) (codes "-")),
  grind (arith, decimal_plain),
)
again f x h = (grind (arith, number_again), grind (arith, decimal_plain))

-- a field at the front of some words
pub field_takes : (f : Field) (words : List (List ℕ)) (x : Value f) (rest : List (List ℕ))
    → field (value_of f) words ≡ Some (x, rest) → (words ≡ word_for f x ∷ rest) × FitsFieldType f x
unfolding field
field_takes f [] x rest e = absurd cc
field_takes f (text ∷ words) x rest e = grind (arith, e, takes f text x)
