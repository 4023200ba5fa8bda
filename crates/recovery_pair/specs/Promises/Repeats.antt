-- Nothing is sent again without cause (RFC 9000, 13.3). An endpoint sends in a space at most what was passed to it,
-- plus what it reported as lost, plus what its probes carried (RFC 9002, 6.2.4). So an item is sent once, and once more
-- for each loss of its packet and each probe that carries it. If a packet cannot be tracked, its items wait and are
-- sent again, even those of a probe: the promise ends there.
use Rattle.std.specs.Prelude.{◌≡◌, ℕ, ◌+◌, ◌≤◌, ◌&&◌, ◌||◌, not, is_some, Bool, false, List, [], ◌∷◌, Option, Ok}
use Rattle.recovery_base.specs.declared.below.SpaceId.{SpaceId}
use Rattle.recovery_base.specs.Spaces.{same_space}
use Rattle.recovery_pair.specs.declared.steps.End.{End}
use Rattle.recovery_pair.specs.declared.steps.PairAnswer.TheVariants.{Failed, Sent}
use Rattle.recovery_pair.specs.declared.steps.PairStep.TheVariants.{Send}
use Rattle.recovery_pair.specs.Logs.{PairLog, handed, part, same_end, sent_in}
use Rattle.recovery_pair.specs.Promises.Resends.{AddsItems, lost_in}

-- a probe counts in flight, and no window was checked for it (`SendsAsPermitted`)
abbrev pub is_probe : Bool → Option ℕ → Bool
is_probe eliciting window = eliciting && not (is_some window)

module _ (end : End) (space : SpaceId) where
  -- a packet of the space could not be tracked
  abbrev pub has_failed : PairLog → Bool
  has_failed [] = false
  has_failed ((Send from there now size, Ok (Failed refusal)) ∷ earlier) =
      (same_end from end && same_space there space) || has_failed earlier
  has_failed (event ∷ earlier) = has_failed earlier

  -- what was sent in probes
  abbrev pub probed_in : (List ℕ → ℕ) → PairLog → ℕ
  probed_in measure [] = 0
  probed_in measure ((Send from there now size, Ok (Sent number items eliciting window ack)) ∷ earlier) =
      part (same_end from end && (same_space there space && is_probe eliciting window)) (measure items.items)
      + probed_in measure earlier
  probed_in measure (event ∷ earlier) = probed_in measure earlier

abbrev pub RepeatsWithCause : PairLog → Type 0
RepeatsWithCause log = (end : End) (space : SpaceId) → has_failed end space log ≡ false
    → (measure : List ℕ → ℕ) → AddsItems measure
    → sent_in end measure space log
    ≤ handed end measure space log + (lost_in end space measure log + probed_in end space measure log)
