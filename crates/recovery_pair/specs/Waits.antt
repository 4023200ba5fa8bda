-- What waits to be sent at an end, and how each step changes it.
use Rattle.std.specs.Prelude.{◌≡◌, ℕ, ◌+◌, ◌<◌, ◌≤◌, true, List, [], ◌∷◌, length, get_or, Option, None, Some, Result, Ok}
use Rattle.recovery_base.specs.declared.below.SpaceId.{SpaceId}
use Rattle.recovery_base.specs.Spaces.{same_space}
use Rattle.recovery_sender.specs.declared.sender.SenderError.{SenderError}
use Rattle.recovery_pair.specs.declared.endpoint.Outgoing.{Outgoing}
use Rattle.recovery_pair.specs.declared.endpoint.Outgoing.TheVariants.{Held, Nothing, Sent}
use Rattle.recovery_pair.specs.declared.endpoint.Waiting.{Waiting}
use Rattle.recovery_pair.specs.declared.steps.End.{End}
use Rattle.recovery_pair.specs.declared.steps.LocalStep.{LocalStep}
use Rattle.recovery_pair.specs.declared.steps.LocalStep.TheVariants.{Hand}
use Rattle.recovery_pair.specs.declared.steps.PairAnswer.{PairAnswer}
use Rattle.recovery_pair.specs.declared.steps.PairAnswer.TheVariants.{Done}
use Rattle.recovery_pair.specs.Logs.{PairLog, handed, part, sent_in}

-- by a measure of the items of a packet: what waits in a space
abbrev pub waiting_in : (List ℕ → ℕ) → SpaceId → List Waiting → ℕ
waiting_in measure space [] = 0
waiting_in measure space (one ∷ all) = part (same_space one.space space) (measure one.queue)
    + waiting_in measure space all

-- a packet of the space has this place, or none waits
abbrev pub IsPlaceInQueue : SpaceId → List Waiting → Option ℕ → Type 0
IsPlaceInQueue space all None = (measure : List ℕ → ℕ) → waiting_in measure space all ≡ 0
IsPlaceInQueue space all (Some at) =
    (at < length all) × ((default : Waiting) → same_space (get_or all at default).space space ≡ true)

module _ (old new : List Waiting) where
  -- none is lost
  abbrev pub LosesNone : Type 0
  LosesNone = (measure : List ℕ → ℕ) (space : SpaceId) → waiting_in measure space old ≤ waiting_in measure space new

  -- at most these items, of this space
  abbrev pub LosesOne : SpaceId → List ℕ → Type 0
  LosesOne there items = (measure : List ℕ → ℕ) (space : SpaceId) →
      waiting_in measure space old ≤ part (same_space there space) (measure items) + waiting_in measure space new

  -- these items wait too, in this space
  abbrev pub GainsOne : SpaceId → List ℕ → Type 0
  GainsOne there items = (measure : List ℕ → ℕ) (space : SpaceId) →
      part (same_space there space) (measure items) + waiting_in measure space old ≤ waiting_in measure space new

  -- a packet that goes out may be one that waited; there is nothing to send only if none waits
  abbrev pub SendWaits : SpaceId → Result Outgoing SenderError → Type 0
  SendWaits space (Ok (Sent packet items window)) = LosesOne space items.items
  SendWaits space (Ok Nothing) = LosesNone × ((measure : List ℕ → ℕ) → waiting_in measure space old ≡ 0)
  SendWaits space other = LosesNone

  abbrev pub PackWaits : SpaceId → Outgoing → Type 0
  PackWaits space (Sent packet items window) = LosesOne space items.items
  PackWaits space Nothing = ⊥
  PackWaits space (Held held) = ⊥
  PackWaits space other = LosesNone

  abbrev pub HandWaits : SpaceId → List ℕ → Result PairAnswer SenderError → Type 0
  HandWaits space items (Ok Done) = GainsOne space items
  HandWaits space items other = LosesNone

  -- what is handed over waits
  abbrev pub LocalWaits : LocalStep → Result PairAnswer SenderError → Type 0
  LocalWaits (Hand space items) answer = HandWaits space items.items answer
  LocalWaits step answer = LosesNone

-- what was handed over was sent, or waits
abbrev pub AreQueued : PairLog → End → List Waiting → Type 0
AreQueued log end waits = (measure : List ℕ → ℕ) (space : SpaceId) →
    handed end measure space log ≤ waiting_in measure space waits + sent_in end measure space log
