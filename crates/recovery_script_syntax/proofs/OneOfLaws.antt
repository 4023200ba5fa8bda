-- One of several forms: what is read by them they encode, and what they encode is read by them.
use Rattle.std.proofs.Common.{◌≡◌, ℕ, true, false, Bool, List, [], ◌∷◌, Option, Some, None, IsSome, bytes_eq, if◌then◌else◌, inl, inr, refl, sym, subst, ap, ◌∙◌, arith}
use Rattle.std.specs.List.{AllByRecursion}
use Rattle.std.proofs.lemmas.Slice.Eq.{bytes_eq-Decides}
use Rattle.recovery_script_syntax.specs.Fields.{words_for, AllFitFieldTypes}
use Rattle.recovery_script_syntax.specs.Forms.{Form, FormValues, SaysForm, SaysOneOf}
use Rattle.recovery_script_syntax.specs.Reading.{◌>>=◌, ParsesTo, first_word, form_named, line_behind, reading}
use Rattle.recovery_script_syntax.proofs.FormLaws.{all_is, fields_again, fields_take}

-- ---- a form

module _ {A : Type 0} (form : Form A) where
  pub form_says : (words : List (List ℕ)) (made : A) → reading form words ≡ Some (made, [])
      → SaysForm form (form.name ∷ words) made
  form_says words made e =
      let r = fields_take form.tail form.fields form.make words made
      (sym (all_is form.tail form.fields form.make words) ∙ e) in
      record {
        values = r.0;
        are = ap (λ (behind : List (List ℕ)). form.name ∷ behind) r.1.0;
        fit = r.1.1;
        is = sym r.1.2;
      }

  pub form_again : (values : FormValues form) → AllFitFieldTypes form.tail form.fields values
      → reading form (words_for form.tail form.fields values) ≡ Some (form.make values, [])
  form_again values fit =
      all_is form.tail form.fields form.make (words_for form.tail form.fields values)
      ∙ (fields_again form.tail form.fields form.make values fit).0

-- ---- several forms

pub one_says : {A : Type 0} (forms : List (Form A)) (name : List ℕ) (words : List (List ℕ)) (made : A)
    → line_behind forms name words ≡ Some (made, []) → SaysOneOf forms (name ∷ words) made
unfolding line_behind
one_says [] name words made e = absurd cc
one_says (form ∷ forms) name words made e = by (bytes_eq name form.name) refl e (one_says forms name words made)
  where
    by : (same : Bool) → bytes_eq name form.name ≡ same
        → ((if same then Some form else form_named forms name) >>= λ found. reading found words) ≡ Some (made, [])
        → (line_behind forms name words ≡ Some (made, []) → SaysOneOf forms (name ∷ words) made)
        → SaysOneOf (form ∷ forms) (name ∷ words) made
    by true is e rest =
        let named : name ≡ form.name = grind (arith, is, bytes_eq-Decides name form.name) in
        inl (subst (λ (n : List ℕ). SaysForm form (n ∷ words) made) (sym named) (form_says form words made e))
    by false is e rest = inr (rest e)

-- a form is the first of its name
abbrev pub IsOwn : {A : Type 0} → List (Form A) → Form A → Type 0
IsOwn all form = form_named all form.name ≡ Some form

pub one_again : {A : Type 0} (all forms : List (Form A)) → AllByRecursion (IsOwn all) forms → (name : List ℕ)
    (words : List (List ℕ)) (made : A) → SaysOneOf forms (name ∷ words) made
    → line_behind all name words ≡ Some (made, [])
unfolding line_behind
one_again all [] own name words made says = absurd says
one_again all (form ∷ forms) own name words made (inl says) =
    grind (arith, says.are, says.is, own.0, form_again form says.values says.fit)
one_again all (form ∷ forms) own name words made (inr says) = one_again all forms own.1 name words made says

-- ---- what precedes and follows

-- the first word of several
pub first_is : (words rest : List (List ℕ)) (name : List ℕ) → first_word words ≡ Some (name, rest)
    → words ≡ name ∷ rest
first_is [] rest name e = absurd cc
first_is (word ∷ words) rest name e = grind (arith, e)

-- nothing was read, or words are left
pub not_whole : {A : Type 0} (found : Option A) (left : List (List ℕ)) (read : Option (A × List (List ℕ)))
    → ParsesTo (λ x. x) found left read → (IsSome found → left ≡ [] → ⊥) → (made : A) → read ≡ Some (made, []) → ⊥
not_whole None left read reads over made e = grind (arith, reads, e)
not_whole (Some found) left read reads over made e = over refl (grind (arith, reads, e))
