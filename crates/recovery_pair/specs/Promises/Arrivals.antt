-- What arrives is what the other endpoint sent: in the same space, under the same number, with the same size and items.
-- It is new at most once, and its outcome follows from the steps before it. It is dropped only if its space was
-- discarded, or if allocation fails. It is new exactly if its number exceeds all received before, or is none of them
-- and not too old (RFC 9000, 12.3 and 13.1; RFC 9001, 4.9).
use Rattle.std.specs.Prelude.{◌≡◌, ℕ, ◌≤◌, Bool, true, false, List, [], length, Result, Ok, Err}
use Rattle.recovery_base.specs.declared.below.SpaceId.{SpaceId}
use Rattle.recovery_events.specs.declared.event.Refusal.TheVariants.{NoMemory, SpaceDiscarded}
use Rattle.recovery_history.specs.Promises.NewNumbers.{is_new}
use Rattle.recovery_sender.specs.declared.sender.SenderError.{SenderError}
use Rattle.recovery_sender.specs.declared.sender.SenderError.TheVariants.{Event}
use Rattle.recovery_pair.specs.declared.steps.End.{End}
use Rattle.recovery_pair.specs.declared.steps.Fate.{Fate}
use Rattle.recovery_pair.specs.declared.steps.Fate.TheVariants.{Dropped, Duplicate, New}
use Rattle.recovery_pair.specs.declared.steps.PairAnswer.{PairAnswer}
use Rattle.recovery_pair.specs.declared.steps.PairAnswer.TheVariants.{Arrived, Nothing}
use Rattle.recovery_pair.specs.declared.steps.PairStep.TheVariants.{Arrive}
use Rattle.recovery_pair.specs.Logs.{IsAt, LoggedPacket, PairEvent, PairLog, deliveries_of, numbers_at, other_end, was_discarded, wire_of}

-- its fate, by whether its space was discarded, and whether its number is new
abbrev pub IsFateBy : Bool → Bool → Fate → Type 0
IsFateBy discarded new (New items acked) = (discarded ≡ false) × (new ≡ true)
IsFateBy discarded new Duplicate = (discarded ≡ false) × (new ≡ false)
IsFateBy discarded new (Dropped (Event SpaceDiscarded)) = discarded ≡ true
IsFateBy discarded new (Dropped (Event NoMemory)) = (discarded ≡ false) × (new ≡ true)
IsFateBy discarded new (Dropped refusal) = ⊥

-- if it is new, these items are delivered
abbrev pub Delivers : List ℕ → Fate → Type 0
Delivers items (New told acked) = told.items ≡ items
Delivers items fate = Unit {0}

-- and no others were before
abbrev pub IsFirstDelivery : List (List ℕ) → Fate → Type 0
IsFirstDelivery before (New told acked) = before ≡ []
IsFirstDelivery before fate = Unit {0}

pub record IsArrival (log : PairLog) (at : ℕ) (to : End) (there : SpaceId) (n bytes : ℕ) (fate : Fate) : Type 0 where
  pub packet : LoggedPacket
  pub sent : IsAt (wire_of log) at packet
  pub same : (packet.from ≡ other_end to) × (packet.space ≡ there) × (packet.number ≡ n) × (packet.size ≡ bytes)
  pub fated : IsFateBy (was_discarded to there log) (is_new (numbers_at to there log) n) fate
  pub delivers : Delivers packet.items fate
  pub once : IsFirstDelivery (deliveries_of to there n log) fate

-- the answer for a position: nothing exactly if the wire has no such packet
abbrev pub IsAnsweredAt : PairLog → ℕ → Result PairAnswer SenderError → Type 0
IsAnsweredAt log at (Ok (Arrived to space number size fate)) = IsArrival log at to space number size fate
IsAnsweredAt log at (Ok Nothing) = length (wire_of log) ≤ at
IsAnsweredAt log at (Ok answer) = ⊥
IsAnsweredAt log at (Err refusal) = Unit {0}

abbrev pub ArrivesAsSent : PairLog → PairEvent → Type 0
ArrivesAsSent log (Arrive at now, answer) = IsAnsweredAt log at answer
ArrivesAsSent log (step, Ok (Arrived to space number size fate)) = ⊥
ArrivesAsSent log event = Unit {0}
