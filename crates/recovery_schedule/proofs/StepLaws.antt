-- What is read from a line is the step that it encodes, and what it encodes is read: `step_in` rests on it.
use Rattle.std.proofs.Common.{◌≡◌, ℕ, ◌≤◌, true, false, Bool, List, [], ◌∷◌, map, length, ◌⊎◌, Option, Some, None, IsSome, decimal, bytes_eq, if◌then◌else◌, inl, inr, refl, sym, ap, subst, ◌∙◌, arith}
use Rattle.std.specs.Global.{Vec}
use Rattle.std.specs.List.{AllByRecursion}
use Rattle.std.proofs.lemmas.Slice.Eq.{bytes_eq-Decides}
use lib.Chars.{codes}
use Rattle.recovery_base.specs.declared.below.SpaceId.{SpaceId}
use Rattle.recovery_pair.specs.declared.steps.End.{End}
use Rattle.recovery_pair.specs.declared.steps.End.TheVariants.{Client, Server}
use Rattle.recovery_pair.specs.declared.steps.LocalStep.TheVariants.{Hand}
use Rattle.recovery_pair.specs.declared.steps.PairStep.{PairStep}
use Rattle.recovery_pair.specs.declared.steps.PairStep.TheVariants.{Local}
use Rattle.recovery_script_syntax.specs.Fields.{a_space, an_item_tail}
use Rattle.recovery_script_syntax.specs.Forms.{IsItemOf, SaysForm, SaysOneOf}
use Rattle.recovery_script_syntax.specs.Reading.{◌>>=◌, ParsesTo, field, items_read, line_behind, reading, space_of, tail_read}
use Rattle.recovery_script_syntax.specs.Words.{space_word, words_of}
use Rattle.recovery_script_syntax.proofs.ItemLaws.{items_again, items_take}
use Rattle.recovery_script_syntax.proofs.LineFieldLaws.{again, bind_some, field_takes}
use Rattle.recovery_script_syntax.proofs.OneOfLaws.{IsOwn, form_again, form_says, not_whole, one_again, one_says}
use Rattle.recovery_schedule.specs.StepReading.{IsHandRead, end_of, step_read}
use Rattle.recovery_schedule.specs.Steps.{EncodesStep, SaysAtEnd, SaysHand, arrive, end_forms}
use Rattle.recovery_schedule.specs.Texts.{end_text}

-- ---- an endpoint

pub end_takes : (words rest : List (List ℕ)) (end : End) → field end_of words ≡ Some (end, rest)
    → words ≡ end_text end ∷ rest
unfolding field end_of
end_takes [] rest end e = absurd cc
end_takes (word ∷ words) rest Client e = grind (arith, e, bytes_eq-Decides word)
end_takes (word ∷ words) rest Server e = grind (arith, e, bytes_eq-Decides word)

pub end_again : (end : End) (rest : List (List ℕ)) → field end_of (end_text end ∷ rest) ≡ Some (end, rest)
unfolding field end_of
end_again Client rest = refl
end_again Server rest = refl

-- ---- `hand`

module _ (words : List (List ℕ)) where
  pub no_end : field end_of words ≡ None → (step : PairStep) → ¬ SaysHand (codes "hand" ∷ words) step
  no_end none step says =
      let is : words ≡ end_text says.end ∷ space_word says.space ∷ map decimal says.items.items =
      grind (arith, says.are) in
      grind (arith, none, is, end_again says.end (space_word says.space ∷ map decimal says.items.items))

  module _ (end : End) (after : List (List ℕ)) (first : field end_of words ≡ Some (end, after)) where
    after_is : (step : PairStep) (says : SaysHand (codes "hand" ∷ words) step)
        → after ≡ space_word says.space ∷ map decimal says.items.items
    after_is step says =
        grind (arith, first, says.are, end_again says.end (space_word says.space ∷ map decimal says.items.items))

    space_again : (step : PairStep) (says : SaysHand (codes "hand" ∷ words) step)
        → field space_of after ≡ Some (says.space, map decimal says.items.items)
    unfolding field
    space_again step says = rw (after_is step says, (again a_space says.space tt).0) refl

    pub no_space : field space_of after ≡ None → (step : PairStep) → ¬ SaysHand (codes "hand" ∷ words) step
    no_space none step says = grind (arith, none, space_again step says)

    module _ (space : SpaceId) (left : List (List ℕ)) (second : field space_of after ≡ Some (space, left)) where
      pub no_items : tail_read an_item_tail (λ items. items) left ≡ None → (step : PairStep)
          → ¬ SaysHand (codes "hand" ∷ words) step
      no_items none step says =
          grind (arith, none, second, space_again step says, items_again says.items.items says.fit)

      pub hand_says : (items : Vec ℕ) (rest : List (List ℕ))
          → tail_read an_item_tail (λ items. items) left ≡ Some (items.items, rest)
          → SaysHand (codes "hand" ∷ words) (Local end (Hand space items))
      hand_says items rest third =
          let found = bind_some (items_read left) (λ items. Some (items, [])) (items.items, rest) third in
          let taken = items_take left found.0 found.1 in
          let same : found.0 ≡ items.items = grind (arith, found.2) in
          let begun = end_takes words after end first in
          let spaced = (field_takes a_space after space left second).0 in
          record {
            end = end;
            space = space;
            items = items;
            are = grind (arith, begun, spaced, taken.0, same);
            fit = rw same at taken.1;
            is = refl;
          }

-- ---- other steps

are_own : (end : End) → AllByRecursion (IsOwn (end_forms end)) (end_forms end)
are_own end = search

at_end_again : (end : End) (name : List ℕ) (rest : List (List ℕ)) (step : PairStep)
    → SaysOneOf (end_forms end) (name ∷ rest) step → line_behind (end_forms end) name rest ≡ Some (step, [])
at_end_again end name rest step says = one_again (end_forms end) (end_forms end) (are_own end) name rest step says

no_arrive : (end : End) (rest : List (List ℕ)) → line_behind (end_forms end) (codes "arrive") rest ≡ None
unfolding line_behind
no_arrive end rest = refl

no_hand : (end : End) (rest : List (List ℕ)) → line_behind (end_forms end) (codes "hand") rest ≡ None
unfolding line_behind
no_hand end rest = refl

-- what is read of a step is said so
step_says : (name : List ℕ) (words : List (List ℕ)) (step : PairStep) → step_read name words ≡ Some (step, [])
    → SaysForm arrive (name ∷ words) step ⊎ SaysAtEnd (name ∷ words) step
unfolding step_read
step_says name words step e = by (bytes_eq name (codes "arrive")) refl e
  where
    at_end : (field end_of words >>= λ end. line_behind (end_forms end.0) name end.1) ≡ Some (step, [])
        → SaysAtEnd (name ∷ words) step
    at_end e =
        let found = bind_some (field end_of words) (λ end. line_behind (end_forms end.0) name end.1) (step, []) e in
        record {
          end = found.0.0;
          name = name;
          rest = found.0.1;
          are = ap (λ (w : List (List ℕ)). name ∷ w) (end_takes words found.0.1 found.0.0 found.1);
          said = one_says (end_forms found.0.0) name found.0.1 step found.2;
        }

    by : (is_arrive : Bool) → bytes_eq name (codes "arrive") ≡ is_arrive
        → (if is_arrive then reading arrive words
        else (field end_of words >>= λ end. line_behind (end_forms end.0) name end.1)) ≡ Some (step, [])
        → SaysForm arrive (name ∷ words) step ⊎ SaysAtEnd (name ∷ words) step
    by true is e =
        let named : name ≡ codes "arrive" = grind (arith, is, bytes_eq-Decides name (codes "arrive")) in
        inl (subst (λ (n : List ℕ). SaysForm arrive (n ∷ words) step) (sym named) (form_says arrive words step e))
    by false is e = inr (at_end e)

-- and what is said of a step is read so
arrive_again : (name : List ℕ) (words : List (List ℕ)) (step : PairStep) → SaysForm arrive (name ∷ words) step
    → step_read name words ≡ Some (step, [])
unfolding step_read
arrive_again name words step says = grind (arith, says.are, says.is, form_again arrive says.values says.fit)

end_step_again : (name : List ℕ) (words : List (List ℕ)) (step : PairStep) → SaysAtEnd (name ∷ words) step
    → step_read name words ≡ Some (step, [])
unfolding step_read
end_step_again name words step says = by (bytes_eq says.name (codes "arrive")) refl
  where
    read : line_behind (end_forms says.end) says.name says.rest ≡ Some (step, [])
    read = at_end_again says.end says.name says.rest step says.said

    by : (is_arrive : Bool) → bytes_eq says.name (codes "arrive") ≡ is_arrive
        → step_read name words ≡ Some (step, [])
    by true is =
        let named : says.name ≡ codes "arrive" = grind (arith, is, bytes_eq-Decides says.name (codes "arrive")) in
        absurd (grind (arith, rw named at read, no_arrive says.end says.rest))
    by false is = grind (arith, says.are, is, read, end_again says.end says.rest)

-- ---- a line

module _ (line name : List ℕ) (rest : List (List ℕ)) (is : words_of line ≡ name ∷ rest) (short : length line ≤ 4096)
  where
    hand_only : (step : PairStep) → name ≡ codes "hand" → EncodesStep line step → SaysHand (name ∷ rest) step
    hand_only step named encoded = by (rw is at encoded.said)
      where
        by : SaysForm arrive (name ∷ rest) step ⊎ (SaysAtEnd (name ∷ rest) step ⊎ SaysHand (name ∷ rest) step)
            → SaysHand (name ∷ rest) step
        by (inl says) = absurd (grind (arith, named, says.are))
        by (inr (inl says)) =
            let read = at_end_again says.end says.name says.rest step says.said in
            let same : says.name ≡ codes "hand" = grind (arith, named, says.are) in
            absurd (grind (arith, rw same at read, no_hand says.end says.rest))
        by (inr (inr says)) = says

    pub line_hand : true ≡ bytes_eq name (codes "hand") → (read : Option PairStep) → IsHandRead rest read
        → IsItemOf EncodesStep line read
    line_hand same (Some step) says =
        let named : name ≡ codes "hand" = grind (arith, same, bytes_eq-Decides name (codes "hand")) in
        record {
          short = short;
          said = inr (inr (rw (is, named) says));
        }
    line_hand same None none =
        let named : name ≡ codes "hand" = grind (arith, same, bytes_eq-Decides name (codes "hand")) in
        λ step encoded. none step (rw named at (hand_only step named encoded))

    pub line_found : (step : PairStep) → step_read name rest ≡ Some (step, []) → EncodesStep line step
    line_found step e = record { short = short; said = by (step_says name rest step e) }
      where
        by : SaysForm arrive (name ∷ rest) step ⊎ SaysAtEnd (name ∷ rest) step
            → SaysForm arrive (words_of line) step
            ⊎ (SaysAtEnd (words_of line) step ⊎ SaysHand (words_of line) step)
        by (inl says) = inl (rw is says)
        by (inr says) = inr (inl (rw is says))

    -- no step was read, or words are left
    pub line_none : false ≡ bytes_eq name (codes "hand") → (step : Option PairStep) (left : List (List ℕ))
        → ParsesTo (λ x. x) step left (step_read name rest) → (IsSome step → left ≡ [] → ⊥)
        → IsItemOf EncodesStep line None
    line_none other step left reads over = λ found encoded. by found (rw is at encoded.said)
      where
        unread : (found : PairStep) → step_read name rest ≡ Some (found, []) → ⊥
        unread = not_whole step left (step_read name rest) reads over

        by : (found : PairStep)
            → SaysForm arrive (name ∷ rest) found ⊎ (SaysAtEnd (name ∷ rest) found ⊎ SaysHand (name ∷ rest) found)
            → ⊥
        by found (inl says) = unread found (arrive_again name rest found says)
        by found (inr (inl says)) = unread found (end_step_again name rest found says)
        by found (inr (inr says)) = grind (arith, other, says.are, bytes_eq-Decides name (codes "hand"))
