-- Nothing is lost (RFC 9000, 13.3). Once an endpoint has nothing to send in a space with keys, it has sent there all
-- that was passed to it. It has sent once more what was in packets that it reported as lost. So each item is in a
-- packet that was not reported as lost: it is in flight, or delivered. By every measure that adds up.
use Rattle.std.specs.Prelude.{◌≡◌, ℕ, ◌+◌, ◌≤◌, false, List, [], ◌∷◌, ◌++◌, option_to_list, Ok, if◌then◌else◌}
use Rattle.recovery_base.specs.declared.below.SpaceId.{SpaceId}
use Rattle.recovery_base.specs.Spaces.{same_space}
use Rattle.recovery_sender.specs.declared.sender.losses.Losses.{Losses}
use Rattle.recovery_sender.specs.declared.sender.probes.Timeout.TheVariants.{Lost}
use Rattle.recovery_pair.specs.declared.steps.AckOutcome.TheVariants.{Taken}
use Rattle.recovery_pair.specs.declared.steps.End.{End}
use Rattle.recovery_pair.specs.declared.steps.Fate.TheVariants.{New}
use Rattle.recovery_pair.specs.declared.steps.LocalStep.TheVariants.{Expire}
use Rattle.recovery_pair.specs.declared.steps.PairAnswer.TheVariants.{Arrived, Expired, Nothing}
use Rattle.recovery_pair.specs.declared.steps.PairStep.TheVariants.{Arrive, Local, Send}
use Rattle.recovery_pair.specs.Logs.{PairEvent, PairLog, handed, same_end, sends_of, sent_in, was_discarded}

-- a measure of items adds up: how many there are, how often one occurs
pub record AddsItems (measure : List ℕ → ℕ) : Type 0 where
  pub none : measure [] ≡ 0
  pub joined : (items more : List ℕ) → measure (items ++ more) ≡ measure items + measure more

abbrev pub sum_of : (List ℕ → ℕ) → List (List ℕ) → ℕ
sum_of measure [] = 0
sum_of measure (items ∷ all) = measure items + sum_of measure all

-- what is declared lost in a space
abbrev pub lost_of : SpaceId → SpaceId → Losses → List ℕ
lost_of space there losses =
    if same_space there space then losses.numbers.items ++ option_to_list losses.probe else []

module _ (end : End) (space : SpaceId) where
  -- the numbers of the space that a step reports as lost to the endpoint
  abbrev pub lost_by : PairEvent → List ℕ
  lost_by (Arrive at now, Ok (Arrived to there number size (New items (Taken acked)))) =
      if same_end to end then lost_of space there acked.losses else []
  lost_by (Local at (Expire now), Ok (Expired (Lost there losses))) =
      if same_end at end then lost_of space there losses else []
  lost_by event = []

  module _ (measure : List ℕ → ℕ) where
    -- what it sent under these numbers
    abbrev pub sent_under : List ℕ → PairLog → ℕ
    sent_under [] log = 0
    sent_under (n ∷ numbers) log = sum_of measure (sends_of end space n log) + sent_under numbers log

    -- what it lost
    abbrev pub lost_in : PairLog → ℕ
    lost_in [] = 0
    lost_in (event ∷ earlier) = sent_under (lost_by event) earlier + lost_in earlier

abbrev pub ResendsWhatIsLost : PairLog → PairEvent → Type 0
ResendsWhatIsLost log (Send end space now size, Ok Nothing) = was_discarded end space log ≡ false
    → (measure : List ℕ → ℕ) → AddsItems measure
    → handed end measure space log + lost_in end space measure log ≤ sent_in end measure space log
ResendsWhatIsLost log event = Unit {0}
