-- The log of two ends: the steps with their answers, the newest first.
use Rattle.std.specs.Prelude.{◌≡◌, ℕ, ◌+◌, ◌<◌, ◌==◌, ◌&&◌, ◌||◌, Bool, true, false, List, [], ◌∷◌, ◌++◌, length, get_or, Option, Result, Ok, if◌then◌else◌}
use Rattle.recovery_base.specs.declared.below.SpaceId.{SpaceId}
use Rattle.recovery_base.specs.Spaces.{same_space}
use Rattle.recovery_losses.specs.Frames.{largest_of}
use Rattle.recovery_sender.specs.declared.sender.SenderError.{SenderError}
use Rattle.recovery_pair.specs.declared.steps.End.{End}
use Rattle.recovery_pair.specs.declared.steps.End.TheVariants.{Client, Server}
use Rattle.recovery_pair.specs.declared.steps.Fate.TheVariants.{Dropped, New}
use Rattle.recovery_pair.specs.declared.steps.LocalStep.TheVariants.{AddressValidated, Discard, Hand}
use Rattle.recovery_pair.specs.declared.steps.PairAnswer.{PairAnswer}
use Rattle.recovery_pair.specs.declared.steps.PairAnswer.TheVariants.{Arrived, Done, Sent}
use Rattle.recovery_pair.specs.declared.steps.PairStep.{PairStep}
use Rattle.recovery_pair.specs.declared.steps.SentAck.{SentAck}
use Rattle.recovery_pair.specs.declared.steps.WirePacket.{WirePacket}
use Rattle.recovery_pair.specs.declared.steps.PairStep.TheVariants.{Local, Send}

abbrev pub other_end : End → End
other_end Client = Server
other_end Server = Client

abbrev pub same_end : End → End → Bool
same_end Client Client = true
same_end Server Server = true
same_end one other = false

-- an amount that counts only here
abbrev pub part : Bool → ℕ → ℕ
part here amount = if here then amount else 0

-- a step with its answer, or its error
abbrev pub PairEvent : Type 0
PairEvent = PairStep × Result PairAnswer SenderError

abbrev pub PairLog : Type 0
PairLog = List PairEvent

-- it is the number of this end and space
abbrev pub is_number : End → SpaceId → ℕ → End → SpaceId → ℕ → Bool
is_number end space n at there number = same_end at end && (same_space there space && number == n)

-- the items of each packet that an end sent under a number
abbrev pub sends_of : End → SpaceId → ℕ → PairLog → List (List ℕ)
sends_of end space n [] = []
sends_of end space n ((Send from there now size, Ok (Sent number items eliciting window delay)) ∷ earlier) =
    if is_number end space n from there number then items.items ∷ sends_of end space n earlier
    else sends_of end space n earlier
sends_of end space n (event ∷ earlier) = sends_of end space n earlier

-- the items that were delivered each time that an end called a number of the other end new
abbrev pub deliveries_of : End → SpaceId → ℕ → PairLog → List (List ℕ)
deliveries_of end space n [] = []
deliveries_of end space n ((step, Ok (Arrived to there number size (New items acked))) ∷ earlier) =
    if is_number end space n to there number then items.items ∷ deliveries_of end space n earlier
    else deliveries_of end space n earlier
deliveries_of end space n (event ∷ earlier) = deliveries_of end space n earlier

-- ---- the wire

-- a packet that was sent, as the log records it
pub record LoggedPacket : Type 0 where
  pub from : End
  pub space : SpaceId
  pub number : ℕ
  pub size : ℕ
  pub items : List ℕ
  -- the largest number of its ACK frame, if it has one
  pub largest : Option ℕ

-- all packets that were sent, in the order of sending
abbrev pub wire_of : PairLog → List LoggedPacket
wire_of [] = []
wire_of ((Send end there now bytes, Ok (Sent n told eliciting window ack)) ∷ earlier) =
    wire_of earlier ++ record {
      from = end;
      space = there;
      number = n;
      size = bytes;
      items = told.items;
      largest = ack.largest;
    } ∷ []
wire_of (event ∷ earlier) = wire_of earlier

-- a packet has this position on it
abbrev pub IsAt : List LoggedPacket → ℕ → LoggedPacket → Type 0
IsAt wire at packet = (at < length wire) × (get_or wire at packet ≡ packet)

-- what is reported of the ACK frame of a packet
abbrev pub ack_of : WirePacket → SentAck
ack_of packet = record { largest = largest_of packet.ranges.items; delay = packet.delay }

-- ---- what an end knows

module _ (end : End) where
  -- the bytes of the packets that it sent
  abbrev pub bytes_sent : PairLog → ℕ
  bytes_sent [] = 0
  bytes_sent ((Send from there now size, Ok (Sent number items eliciting window delay)) ∷ earlier) =
      if same_end from end then size + bytes_sent earlier else bytes_sent earlier
  bytes_sent (event ∷ earlier) = bytes_sent earlier

  -- the bytes of the packets that arrived at it, duplicates and dropped ones included
  abbrev pub bytes_arrived : PairLog → ℕ
  bytes_arrived [] = 0
  bytes_arrived ((step, Ok (Arrived to there number size fate)) ∷ earlier) =
      if same_end to end then size + bytes_arrived earlier else bytes_arrived earlier
  bytes_arrived (event ∷ earlier) = bytes_arrived earlier

  -- the address of its peer was validated: from the start, or by a step
  abbrev pub has_validated : Bool → PairLog → Bool
  has_validated first [] = first
  has_validated first ((Local at AddressValidated, Ok Done) ∷ earlier) = same_end at end || has_validated first earlier
  has_validated first (event ∷ earlier) = has_validated first earlier

  -- when the endpoint sent the packet of a number
  abbrev pub time_sent : SpaceId → ℕ → PairLog → ℕ
  time_sent space n [] = 0
  time_sent space n ((Send from there now size, Ok (Sent number items eliciting window delay)) ∷ earlier) =
      if is_number end space n from there number then now else time_sent space n earlier
  time_sent space n (event ∷ earlier) = time_sent space n earlier

  -- whether that packet is ack-eliciting
  abbrev pub is_eliciting : SpaceId → ℕ → PairLog → Bool
  is_eliciting space n [] = false
  is_eliciting space n ((Send from there now size, Ok (Sent number items eliciting window delay)) ∷ earlier) =
      if is_number end space n from there number then eliciting else is_eliciting space n earlier
  is_eliciting space n (event ∷ earlier) = is_eliciting space n earlier

  -- a step dropped the keys of a space
  abbrev pub was_discarded : SpaceId → PairLog → Bool
  was_discarded space [] = false
  was_discarded space ((Local at (Discard there now), Ok Done) ∷ earlier) =
      (same_end at end && same_space there space) || was_discarded space earlier
  was_discarded space (event ∷ earlier) = was_discarded space earlier

  -- the numbers of the packets of a space that arrived and were not dropped, new or not
  abbrev pub numbers_at : SpaceId → PairLog → List ℕ
  numbers_at space [] = []
  numbers_at space ((step, Ok (Arrived to there number size (Dropped refusal))) ∷ earlier) = numbers_at space earlier
  numbers_at space ((step, Ok (Arrived to there number size fate)) ∷ earlier) =
      if same_end to end && same_space there space then number ∷ numbers_at space earlier else numbers_at space earlier
  numbers_at space (event ∷ earlier) = numbers_at space earlier

  -- the sum of a measure over the items that the caller passed to the endpoint, to be sent in a space
  abbrev pub handed : (List ℕ → ℕ) → SpaceId → PairLog → ℕ
  handed measure space [] = 0
  handed measure space ((Local at (Hand there items), Ok Done) ∷ earlier) =
      part (same_end at end && same_space there space) (measure items.items) + handed measure space earlier
  handed measure space (event ∷ earlier) = handed measure space earlier

  -- and over the items that the endpoint sent there
  abbrev pub sent_in : (List ℕ → ℕ) → SpaceId → PairLog → ℕ
  sent_in measure space [] = 0
  sent_in measure space ((Send from there now size, Ok (Sent number items eliciting window delay)) ∷ earlier) =
      part (same_end from end && same_space there space) (measure items.items) + sent_in measure space earlier
  sent_in measure space (event ∷ earlier) = sent_in measure space earlier
