-- Each form of a line: what is read is encoded so, what is encoded so is read, and all words are plain. `LineLaws` rest
-- on it.
use Rattle.std.proofs.Common.{◌≡◌, ◌<◌, ℕ, List, [], ◌∷◌, ◌++◌, map, decimal, Option, Some, refl, sym, ap, subst, ◌∙◌, arith, lit≤, append-nil}
use Rattle.std.specs.List.{AllByRecursion}
use Rattle.std.proofs.lemmas.Slice.Eq.{bytes_eq-Decides}
use Rattle.std.proofs.lemmas.List.Elements.{All-from_recursion}
use Rattle.recovery_events.specs.declared.event.Event.TheVariants.{Received}
use Rattle.recovery_script_syntax.specs.declared.forms.Line.{Line}
use Rattle.recovery_script_syntax.specs.declared.forms.Line.TheVariants.{Said, Ids, Path}
use Rattle.recovery_script_syntax.specs.Fields.{Field, Tail, no_tail, an_item_tail, Values, words_for, AllFitFieldTypes}
use Rattle.recovery_script_syntax.specs.Lines.{ItemEvent, DenotesEvent, EventForm, send, issue_ids, new_path, forms, saying, words_said, encoding_of, IsWithinTypes}
use Rattle.recovery_script_syntax.specs.Forms.{FormValues}
use Rattle.recovery_script_syntax.specs.Reading.{◌>>=◌, field, value_of, items_read, fields_read, all_read, reading, form_named, line_at, line_behind, TakesMemory}
use Rattle.recovery_script_syntax.proofs.LineFieldLaws.{bind_some, again, field_takes}
use Rattle.recovery_script_syntax.proofs.IdLaws.{ids_count, ids_first}
use Rattle.recovery_script_syntax.proofs.ItemLaws.{items_take, items_again}
use Rattle.recovery_script_syntax.proofs.PlainWordLaws.{IsPlain}

-- ---- several fields, and what follows them

-- what words are read as, those that were taken encode
pub fields_front : {A : Type 0} (tail : Tail) (fields : List Field) (make : Values tail fields → A)
    (words : List (List ℕ)) (made : A) (rest : List (List ℕ)) → fields_read tail fields make words ≡ Some (made, rest)
    → (x : Values tail fields) × ((words ≡ words_for tail fields x ++ rest) × AllFitFieldTypes tail fields x
    × (make x ≡ made))
unfolding fields_read
fields_front no_tail [] make words made rest e = (tt, grind (arith, e))
fields_front an_item_tail [] make words made rest e =
    let b = bind_some (items_read words) (λ items. Some (make items, [])) (made, rest) e in
    (b.0, grind (arith, b.2, items_take words b.0 b.1, append-nil (map decimal b.0)))
fields_front tail (f ∷ fields) make words made rest e =
    let b = bind_some (field (value_of f) words) (λ x. fields_read tail fields (λ y. make (x.0, y)) x.1)
    (made, rest) e in
    let r = fields_front tail fields (λ y. make (b.0.0, y)) b.0.1 made rest b.2 in
    ((b.0.0, r.0), grind (arith, field_takes f words b.0.0 b.0.1 b.1, r))

-- all words
pub fields_take : {A : Type 0} (tail : Tail) (fields : List Field) (make : Values tail fields → A)
    (words : List (List ℕ)) (made : A) → fields_read tail fields make words ≡ Some (made, [])
    → (x : Values tail fields) × ((words ≡ words_for tail fields x) × AllFitFieldTypes tail fields x × (make x ≡ made))
fields_take tail fields make words made e =
    let r = fields_front tail fields make words made [] e in
    (r.0, (r.1.0 ∙ append-nil (words_for tail fields r.0), r.1.1, r.1.2))

-- a line with items is an event itself, for which nothing is allocated after it was read
pub send_says : (words : List (List ℕ)) (said : Line) → reading send words ≡ Some (said, []) → TakesMemory said → ⊥
send_says words said e memory =
    let r = fields_take an_item_tail send.fields send.make words said e in rw (← r.1.2) at memory

pub fields_again : {A : Type 0} (tail : Tail) (fields : List Field) (make : Values tail fields → A)
    (x : Values tail fields) → AllFitFieldTypes tail fields x
    → (fields_read tail fields make (words_for tail fields x) ≡ Some (make x, []))
    × AllByRecursion IsPlain (words_for tail fields x)
unfolding fields_read field
fields_again no_tail [] make x h = (refl, tt)
fields_again an_item_tail [] make x h = let items = items_again x h in (rw (items.0) refl, items.1)
fields_again tail (f ∷ fields) make x h =
    let first = again f x.0 h.0 in
    let rest = fields_again tail fields (λ y. make (x.0, y)) x.1 h.1 in
    (rw (first.0) rest.0, (first.1, rest.1))

pub all_is : {A : Type 0} (tail : Tail) (fields : List Field) (make : Values tail fields → A) (words : List (List ℕ))
    → all_read tail fields make words ≡ fields_read tail fields make words
unfolding fields_read
all_is tail [] make words = refl
all_is tail (f ∷ fields) make words = refl

-- ---- forms

abbrev pub Saying : Type 0
Saying = (form : EventForm) × FormValues form

-- the form of a line, and its values
abbrev pub said_by : Line → Saying
said_by (Said event) = saying 0 event
said_by (Ids now first count) = (issue_ids, (now, (first, (count, tt))))
said_by (Path now port fresh) = (new_path, (now, (port, (fresh, tt))))

pub means_said : (said : Line) (event : ItemEvent) → DenotesEvent said event
    → (unkept : ℕ) × (saying unkept event ≡ said_by said)
means_said (Said said) event m = (0, ap (saying 0) m)
means_said (Ids now first count) event m =
    (first, grind (arith, m.1, m.2, ids_count first count, ids_first first count))
means_said (Path now port fresh) event m = (0, grind (arith, m.1, m.2.at))

-- what a form means is encoded by it, and its name is plain
record IsForm (form : EventForm) : Type 0 where
  own : (x : FormValues form) → said_by (form.make x) ≡ (form, x)
  plain : AllByRecursion (λ b. 32 < b) form.name

-- each of them, in their order
are_forms : AllByRecursion IsForm forms
are_forms = search lit≤

-- the form of an event's line is the one of its name
is_listed : (unkept : ℕ) (event : ItemEvent)
    → form_named forms (saying unkept event).0.name ≡ Some (saying unkept event).0
is_listed unkept (Received space now number ack_eliciting) = refl
is_listed unkept event = refl

named_form : (listed : List EventForm) → AllByRecursion IsForm listed → (name : List ℕ) (form : EventForm)
    → form_named listed name ≡ Some form → (name ≡ form.name) × IsForm form
named_form [] h name form e = absurd cc
named_form (first ∷ listed) h name form e =
    grind (arith, e, h.0, bytes_eq-Decides name first.name, named_form listed h.1 name form)

-- ---- lines

-- the line is encoded by these words
abbrev pub Spell : List (List ℕ) → Line → Saying → Type 0
Spell words said by =
    (words ≡ words_said by) × AllFitFieldTypes by.0.tail by.0.fields by.1 × (by.0.make by.1 ≡ said)

pub line_takes : (words : List (List ℕ)) (said : Line) → line_at words ≡ Some (said, [])
    → Spell words said (said_by said)
unfolding line_at line_behind
line_takes [] said e = absurd cc
line_takes (name ∷ words) said e =
    let b = bind_some (form_named forms name) (λ form. reading form words) (said, []) e in
    let n = named_form forms are_forms name b.0 b.1 in
    let r = fields_take b.0.tail b.0.fields b.0.make words said
    (sym (all_is b.0.tail b.0.fields b.0.make words) ∙ b.2) in
    subst (Spell (name ∷ words) said) (sym (n.1.own r.0) ∙ ap said_by r.1.2)
    (grind (arith, n.0, r.1.0), r.1.1, r.1.2)

pub line_again : (unkept : ℕ) (event : ItemEvent) → IsWithinTypes unkept event
    → (line_at (encoding_of unkept event) ≡ Some ((saying unkept event).0.make (saying unkept event).1, []))
    × AllByRecursion IsPlain (encoding_of unkept event)
unfolding line_at line_behind
line_again unkept event h =
    let s : Saying = saying unkept event in
    let listed = is_listed unkept event in
    let read = fields_again s.0.tail s.0.fields s.0.make s.1 h.0 in (
      ap (λ (o : Option EventForm). o >>= λ f. reading f (words_for s.0.tail s.0.fields s.1)) listed
          ∙ all_is s.0.tail s.0.fields s.0.make (words_for s.0.tail s.0.fields s.1) ∙ read.0,
      (All-from_recursion _ _ (named_form forms are_forms s.0.name s.0 listed).1.plain, read.1),
    )
