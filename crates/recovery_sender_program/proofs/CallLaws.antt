-- The words of a call: what is read is encoded so, and what is encoded so is read. `call_in` rests on it.
use Rattle.std.proofs.Common.{◌≡◌, ℕ, ◌≤◌, true, false, Bool, List, [], ◌∷◌, ◌++◌, length, ◌⊎◌, Option, Some, None, IsSome, bytes_eq, if◌then◌else◌, inl, inr, refl, sym, ap, subst, MatchOption, ◌∙◌, arith, append-nil, length-append}
use Rattle.std.specs.List.{AllByRecursion}
use Rattle.std.proofs.lemmas.Slice.Eq.{bytes_eq-Decides}
use lib.Chars.{codes}
use Rattle.recovery_script_syntax.specs.Fields.{Field, Values, words_for, AllFitFieldTypes, no_tail}
use Rattle.recovery_script_syntax.specs.Lines.{ItemEvent, EncodesEvent, IsSameEvent}
use Rattle.recovery_script_syntax.specs.Forms.{IsItemOf, SaysOneOf}
use Rattle.recovery_script_syntax.specs.Reading.{field, fields_read, first_word, line_at, line_behind, line_of, ParsesTo}
use Rattle.recovery_script_syntax.specs.Words.{words_of}
use Rattle.recovery_script_syntax.proofs.LineFieldLaws.{again}
use Rattle.recovery_script_syntax.proofs.OneOfLaws.{IsOwn, one_again, one_says}
use Rattle.recovery_script_syntax.proofs.LineLaws.{line_only, one_event}
use Rattle.recovery_events.specs.declared.event.Event.TheVariants.{IssueIds}
use Rattle.recovery_sender.specs.Calls.{IsPassedThrough}
use Rattle.recovery_sender.specs.declared.calls.Call.TheVariants.{Event}
use Rattle.recovery_sender.specs.declared.calls.Frame.{Frame}
use Rattle.recovery_sender_program.specs.CallLines.{EncodesCall, IsAck, IsPassed, ItemCall, SaysAck, call_forms}
use Rattle.recovery_sender_program.specs.CallReading.{IsAckRead, IsPassedRead}

-- ---- fields before other words

pub fields_behind : {A : Type 0} (fields : List Field) (make : Values no_tail fields → A) (x : Values no_tail fields)
    (rest : List (List ℕ)) → AllFitFieldTypes no_tail fields x
    → fields_read no_tail fields make (words_for no_tail fields x ++ rest) ≡ Some (make x, rest)
unfolding fields_read field
fields_behind [] make x rest h = refl
fields_behind (f ∷ fields) make x rest h =
    rw ((again f x.0 h.0).0) (fields_behind fields (λ y. make (x.0, y)) x.1 rest h.1)

-- ---- the forms of calls

are_own : AllByRecursion (IsOwn call_forms) call_forms
are_own = search

-- ---- a line

ack_unread : (rest : List (List ℕ)) → line_behind call_forms (codes "ack") rest ≡ None
unfolding line_behind
ack_unread rest = refl

event_unread : (rest : List (List ℕ)) → line_at (codes "ack" ∷ rest) ≡ None
unfolding line_at line_behind
event_unread rest = refl

no_event : (line : List ℕ) (rest : List (List ℕ)) (event : ItemEvent) → words_of line ≡ codes "ack" ∷ rest
    → EncodesEvent line event → ⊥
unfolding line_of
no_event line rest event is spells = grind (arith, is, (line_only line event spells).1, event_unread rest)

-- an ACK frame that is none is no call
ack_none : (line : List ℕ) (rest : List (List ℕ)) → words_of line ≡ codes "ack" ∷ rest
    → ((frame : Frame) → ¬ SaysAck (codes "ack" ∷ rest) frame) → (call : ItemCall)
    → SaysOneOf call_forms (words_of line) call ⊎ (IsAck (words_of line) call ⊎ IsPassed line call) → ⊥
ack_none line rest is none call (inl says) =
    grind (arith, one_again call_forms call_forms are_own (codes "ack") rest call (rw is at says), ack_unread rest)
ack_none line rest is none call (inr (inl ack)) = none ack.0 (rw is at ack.2)
ack_none line rest is none call (inr (inr passed)) = no_event line rest passed.0 is passed.3

ack_read : (line : List ℕ) (rest : List (List ℕ)) → words_of line ≡ codes "ack" ∷ rest → length line ≤ 4096
    → (read : Option ItemCall) → IsAckRead rest read → IsItemOf EncodesCall line read
ack_read line rest is short (Some call) h =
    record { short = short; said = inr (inl (subst (λ (w : List (List ℕ)). IsAck w call) (sym is) h)) }
ack_read line rest is short None h = λ call e. ack_none line rest is h call e.said

module _ (line name : List ℕ) (rest : List (List ℕ)) (is : words_of line ≡ name ∷ rest) (short : length line ≤ 4096)
  where
    pub line_ack : true ≡ bytes_eq name (codes "ack") → (read : Option ItemCall) → IsAckRead rest read
        → IsItemOf EncodesCall line read
    line_ack same read h =
        let named : name ≡ codes "ack" = grind (arith, same, bytes_eq-Decides name (codes "ack")) in
        ack_read line rest (is ∙ ap (λ (n : List ℕ). n ∷ rest) named) short read h

    pub line_found : (call : ItemCall) → line_behind call_forms name rest ≡ Some (call, []) → EncodesCall line call
    line_found call e =
        record { short = short; said = inl (rw is (one_says call_forms name rest call e)) }

    -- what is no call of a form
    abbrev pub IsNoForm : Type 0
    IsNoForm = (call : ItemCall) → line_behind call_forms name rest ≡ Some (call, []) → ⊥

    other_none : false ≡ bytes_eq name (codes "ack") → IsNoForm → ((call : ItemCall) → ¬ IsPassed line call)
        → (call : ItemCall)
        → SaysOneOf call_forms (words_of line) call ⊎ (IsAck (words_of line) call ⊎ IsPassed line call) → ⊥
    other_none other lacks none call (inl says) =
        lacks call (one_again call_forms call_forms are_own name rest call (rw is at says))
    other_none other lacks none call (inr (inl ack)) =
        grind (arith, other, ack.2.are, is, bytes_eq-Decides name (codes "ack"))
    other_none other lacks none call (inr (inr passed)) = none call passed

    pub line_passed : false ≡ bytes_eq name (codes "ack") → IsNoForm → (read : Option ItemCall)
        → IsPassedRead line read → IsItemOf EncodesCall line read
    line_passed other lacks (Some call) h = record { short = short; said = inr (inr h) }
    line_passed other lacks None h = λ call e. other_none other lacks h call e.said

-- ---- events that are passed

pub same_passes : (first second : ItemEvent) → IsSameEvent first second → IsPassedThrough second
    → IsPassedThrough first
same_passes first second (inl same) passes = subst IsPassedThrough (sym same) passes
same_passes (IssueIds now ids) second (inr alike) passes = tt
same_passes first second (inr alike) passes = absurd alike

not_passed : (line : List ℕ) (event : ItemEvent) → EncodesEvent line event → ¬ IsPassedThrough event
    → (call : ItemCall) → ¬ IsPassed line call
not_passed line event spells other call passed =
    other (same_passes event passed.0 (one_event line event passed.0 spells passed.3) passed.2)

pub passed_read : (line : List ℕ) (event : ItemEvent) → EncodesEvent line event → (result : Option ItemCall)
    → MatchOption result (¬ IsPassedThrough event) (λ call. (call ≡ Event event) × IsPassedThrough event)
    → IsPassedRead line result
passed_read line event spells None other = not_passed line event spells other
passed_read line event spells (Some call) passed = (event, passed.0, passed.1, spells)

-- a line without an event passes none
pub none_passed : (line : List ℕ) → ((event : ItemEvent) → ¬ EncodesEvent line event) → (call : ItemCall)
    → ¬ IsPassed line call
none_passed line none call passed = none passed.0 passed.3
