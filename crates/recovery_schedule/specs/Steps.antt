-- How a line encodes a step of two endpoints: this is the grammar of schedules.
use Rattle.std.specs.Prelude.{◌≡◌, ℕ, ◌<◌, ◌≤◌, ◌⊎◌, List, [], ◌∷◌, length, map, decimal}
use Rattle.std.specs.Global.{Vec}
use Rattle.std.specs.List.{AllByRecursion}
use lib.Chars.{codes}
use Rattle.recovery_base.specs.Units.{u64_limit}
use Rattle.recovery_base.specs.declared.below.SpaceId.{SpaceId}
use Rattle.recovery_pair.specs.declared.steps.End.{End}
use Rattle.recovery_pair.specs.declared.steps.LocalStep.TheVariants.{AddressValidated, Discard, Expire, Hand, HandshakeConfirmed, HandshakeKeys, Late}
use Rattle.recovery_pair.specs.declared.steps.PairStep.{PairStep}
use Rattle.recovery_pair.specs.declared.steps.PairStep.TheVariants.{Arrive, Local, Send}
use Rattle.recovery_script_syntax.specs.Fields.{a_space, a_u16, a_u64}
use Rattle.recovery_script_syntax.specs.Forms.{Form, SaysForm, SaysOneOf, plain_form}
use Rattle.recovery_script_syntax.specs.Words.{longest_line, space_word, words_of}
use Rattle.recovery_schedule.specs.Texts.{end_text}

abbrev pub StepForm : Type 0
StepForm = Form PairStep

-- a copy of the packet at a position arrives at a time, as in 'arrive 0 10000000'
abbrev pub arrive : StepForm
arrive = plain_form (codes "arrive") (a_u64 ∷ a_u64 ∷ []) (λ x. Arrive x.0 x.1.0)

-- what an endpoint does: its name follows that of the step, as in 'send client data 0 1200'
module _ (end : End) where
  abbrev pub send : StepForm
  send = plain_form (codes "send") (a_space ∷ a_u64 ∷ a_u16 ∷ []) (λ x. Send end x.0 x.1.0 x.1.1.0)

  abbrev pub expire : StepForm
  expire = plain_form (codes "expire") (a_u64 ∷ []) (λ x. Local end (Expire x.0))

  abbrev pub late : StepForm
  late = plain_form (codes "late") (a_u64 ∷ []) (λ x. Local end (Late x.0))

  abbrev pub discard : StepForm
  discard = plain_form (codes "discard") (a_space ∷ a_u64 ∷ []) (λ x. Local end (Discard x.0 x.1.0))

  abbrev pub validated : StepForm
  validated = plain_form (codes "validated") [] (λ x. Local end AddressValidated)

  abbrev pub keys : StepForm
  keys = plain_form (codes "keys") [] (λ x. Local end HandshakeKeys)

  abbrev pub confirmed : StepForm
  confirmed = plain_form (codes "confirmed") [] (λ x. Local end HandshakeConfirmed)

  abbrev pub end_forms : List StepForm
  end_forms = send ∷ expire ∷ late ∷ discard ∷ validated ∷ keys ∷ confirmed ∷ []

-- words are the name of a step, an endpoint, and the values of the fields of that step
pub record SaysAtEnd (words : List (List ℕ)) (step : PairStep) : Type 0 where
  pub end : End
  pub name : List ℕ
  pub rest : List (List ℕ)
  pub are : words ≡ name ∷ end_text end ∷ rest
  pub said : SaysOneOf (end_forms end) (name ∷ rest) step

-- words are `hand`, an endpoint, a space and the items that are passed, as in 'hand client data 1 2'
pub record SaysHand (words : List (List ℕ)) (step : PairStep) : Type 0 where
  pub end : End
  pub space : SpaceId
  pub items : Vec ℕ
  pub are : words ≡ codes "hand" ∷ end_text end ∷ space_word space ∷ map decimal items.items
  pub fit : AllByRecursion (λ item. item < u64_limit) items.items
  pub is : step ≡ Local end (Hand space items)

-- a line encodes a step
pub record EncodesStep (line : List ℕ) (step : PairStep) : Type 0 where
  pub short : length line ≤ longest_line
  pub said : SaysForm arrive (words_of line) step
      ⊎ (SaysAtEnd (words_of line) step ⊎ SaysHand (words_of line) step)
