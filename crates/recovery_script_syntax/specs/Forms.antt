-- The form of a line: its name, the fields after it, what may follow them, and what their values make. At the end:
-- which item of a grammar a line encodes.
use Rattle.std.specs.Prelude.{◌≡◌, ℕ, ◌⊎◌, List, [], ◌∷◌, Option, Some, None}
use Rattle.recovery_script_syntax.specs.Fields.{Field, Tail, Values, words_for, AllFitFieldTypes, no_tail}

pub record Form (A : Type 0) : Type 0 where
  pub name : List ℕ
  pub fields : List Field
  pub tail : Tail
  pub make : Values tail fields → A

-- a line's fields with their values
abbrev pub FormValues : {A : Type 0} → Form A → Type 0
FormValues form = Values form.tail form.fields

-- nothing follows the fields
abbrev pub plain_form : {A : Type 0} → List ℕ → (fields : List Field) → (Values no_tail fields → A) → Form A
plain_form name fields make = record { name = name; fields = fields; tail = no_tail; make = make }

-- words are a form's name and the values of its fields, each within the type of its field, and this is made of them
pub record SaysForm {A : Type 0} (form : Form A) (words : List (List ℕ)) (made : A) : Type 0 where
  pub values : FormValues form
  pub are : words ≡ form.name ∷ words_for form.tail form.fields values
  pub fit : AllFitFieldTypes form.tail form.fields values
  pub is : made ≡ form.make values

-- this is so for one of several forms
abbrev pub SaysOneOf : {A : Type 0} → List (Form A) → List (List ℕ) → A → Type 0
SaysOneOf [] words made = ⊥
SaysOneOf (form ∷ forms) words made = SaysForm form words made ⊎ SaysOneOf forms words made

-- ---- the item of a line, by the relation of a grammar

module _ {A : Type 0} (encodes : List ℕ → A → Type 0) where
  -- the line encodes an item
  abbrev pub IsLineOf : List ℕ → Type 0
  IsLineOf line = (item : A) × encodes line item

  -- this is the item of the line, or the line encodes none
  abbrev pub IsItemOf : List ℕ → Option A → Type 0
  IsItemOf line (Some item) = encodes line item
  IsItemOf line None = (item : A) → ¬ encodes line item
