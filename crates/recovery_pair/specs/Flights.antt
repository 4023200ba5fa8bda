-- The packets in flight of an endpoint, by the log (RFC 9002, 2 and B.2). The endpoint sent them, and they are
-- ack-eliciting. No later answer reports them as acknowledged or lost, and no later step discards their space.
use Rattle.std.specs.Prelude.{ℕ, ◌+◌, ◌==◌, ◌&&◌, ◌||◌, nat_eq, max, Bool, true, false, [], ◌∷◌, Option, Some, Result, Ok, if◌then◌else◌}
use Rattle.std.specs.Option.{option_map_or}
use Rattle.std.specs.Set.{is_member}
use Rattle.recovery_base.specs.declared.below.SpaceId.{SpaceId}
use Rattle.recovery_base.specs.Spaces.{same_space}
use Rattle.recovery_sender.specs.declared.sender.SenderError.{SenderError}
use Rattle.recovery_sender.specs.declared.sender.losses.Losses.{Losses}
use Rattle.recovery_sender.specs.declared.sender.probes.Timeout.TheVariants.{Lost}
use Rattle.recovery_pair.specs.declared.steps.AckOutcome.{AckOutcome}
use Rattle.recovery_pair.specs.declared.steps.AckOutcome.TheVariants.{Taken}
use Rattle.recovery_pair.specs.declared.steps.End.{End}
use Rattle.recovery_pair.specs.declared.steps.Fate.{Fate}
use Rattle.recovery_pair.specs.declared.steps.Fate.TheVariants.{New}
use Rattle.recovery_pair.specs.declared.steps.LocalStep.TheVariants.{Discard, Expire}
use Rattle.recovery_pair.specs.declared.steps.PairAnswer.{PairAnswer}
use Rattle.recovery_pair.specs.declared.steps.PairAnswer.TheVariants.{Arrived, Done, Expired, Sent}
use Rattle.recovery_pair.specs.declared.steps.PairStep.TheVariants.{Arrive, Local, Send}
use Rattle.recovery_pair.specs.Logs.{PairEvent, PairLog, same_end}

-- these numbers, of each space
abbrev pub Numbers : Type 0
Numbers = SpaceId → ℕ → Bool

abbrev pub no_numbers : Numbers
no_numbers space n = false

-- it is declared lost
abbrev pub is_lost_in : Losses → ℕ → Bool
is_lost_in losses n = is_member nat_eq losses.numbers.items n || option_map_or (λ probe. probe == n) losses.probe false

-- what an ACK frame ends: what it newly acknowledges, and what is lost then
abbrev pub ends_by_ack : SpaceId → AckOutcome → Numbers
ends_by_ack there (Taken acked) space n =
    same_space there space && (is_member nat_eq acked.numbers.items n || is_lost_in acked.losses n)
ends_by_ack there outcome space n = false

-- what it newly acknowledges
abbrev pub acked_by : SpaceId → AckOutcome → Numbers
acked_by there (Taken acked) space n = same_space there space && is_member nat_eq acked.numbers.items n
acked_by there outcome space n = false

abbrev pub ends_by_fate : SpaceId → Fate → Numbers
ends_by_fate there (New items acked) space n = ends_by_ack there acked space n
ends_by_fate there fate space n = false

-- what the loss detection timer ends
abbrev pub ends_by_timer : Result PairAnswer SenderError → Numbers
ends_by_timer (Ok (Expired (Lost there losses))) space n = same_space there space && is_lost_in losses n
ends_by_timer answer space n = false

-- what ends by a step, of the packets of one endpoint
abbrev pub ends_at : End → PairEvent → Numbers
ends_at end (Arrive at now, Ok (Arrived to there number size fate)) space n =
    same_end to end && ends_by_fate there fate space n
ends_at end (Local at (Expire now), answer) space n = same_end at end && ends_by_timer answer space n
ends_at end (Local at (Discard there now), Ok Done) space n = same_end at end && same_space there space
ends_at end event space n = false

-- the bytes of a packet that counts in flight
abbrev pub counted_if : Bool → ℕ → ℕ
counted_if eliciting size = if eliciting then size else 0

module _ (end : End) where
  -- the bytes in flight of the packets whose window is such, except for those numbers that are gone
  abbrev pub flight_of : (Option ℕ → Bool) → Numbers → PairLog → ℕ
  flight_of is_such gone [] = 0
  flight_of is_such gone ((Send from there now size, Ok (Sent number items eliciting window delay)) ∷ earlier) =
      (if same_end from end && is_such window then (if gone there number then 0 else counted_if eliciting size) else 0)
      + flight_of is_such gone earlier
  flight_of is_such gone (event ∷ earlier) =
      flight_of is_such (λ space n. ends_at end event space n || gone space n) earlier

  -- the bytes in flight
  abbrev pub flight : PairLog → ℕ
  flight = flight_of (λ window. true) no_numbers

  -- the largest window for which one of its packets was checked
  abbrev pub largest_window : PairLog → ℕ
  largest_window [] = 0
  largest_window ((Send from there now size, Ok (Sent number items eliciting (Some window) delay)) ∷ earlier) =
      if same_end from end then max window (largest_window earlier) else largest_window earlier
  largest_window (event ∷ earlier) = largest_window earlier
