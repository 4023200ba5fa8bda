-- The result of an ACK frame, step by step (RFC 9002, 5.1, 5.3, 6.2.1, A.7 and B.7; RFC 9000, 13.4.2.1).
use Rattle.std.specs.Prelude.{◌≡◌, ℕ, ◌+◌, ◌-◌, ◌≤◌, ◌||◌, ◌&&◌, ◌==◌, not, max, min, nat_lt, ◌⊎◌, Bool, true, false, List, [], ◌∷◌, filter, length, map, Option, None, Some, IfSome, option_map, is_some, Result, Ok, Err, if◌then◌else◌}
use Rattle.std.specs.Option.{option_and_then, option_map_or}
use Rattle.std.specs.Vec.{vec_capacity}
use Rattle.recovery_base.specs.declared.below.SpaceId.{SpaceId}
use Rattle.recovery_base.specs.declared.below.frames.EcnCounts.{EcnCounts}
use Rattle.recovery_events.specs.declared.event.Answer.{Answer}
use Rattle.recovery_events.specs.declared.event.Answer.TheVariants.{Flag}
use Rattle.recovery_events.specs.declared.event.Event.TheVariants.{Acked, EndAcks, Sample, Ecn}
use Rattle.recovery_events.specs.declared.event.Refusal.{Refusal}
use Rattle.recovery_events.specs.declared.event.Refusal.TheVariants.{NoMemory}
use Rattle.recovery_spaces.specs.Packets.{Packet, packet_at}
use Rattle.recovery_spaces.specs.Spaces.{Space, next_number_of}
use Rattle.recovery_paths.specs.PathStates.{PathMarks}
use Rattle.recovery_history.specs.RecoveryState.{RecoveryState}
use Rattle.recovery_losses.specs.declared.frames.Ack.{Ack}
use Rattle.recovery_losses.specs.Frames.{largest_of, received_at}
use Rattle.recovery_losses.specs.Losses.{AreIncreasing, count_below, without_all}
use Rattle.recovery_losses.specs.Variables.{ack_delay_in, heard_in, sampled_first}
use Rattle.recovery_sender.specs.declared.sender.acks.Acknowledged.{Acknowledged}
use Rattle.recovery_sender.specs.declared.sender.acks.EcnOutcome.{EcnOutcome}
use Rattle.recovery_sender.specs.declared.sender.acks.NewlyAcked.{NewlyAcked}
use Rattle.recovery_sender.specs.declared.sender.acks.EcnOutcome.TheVariants.{Quiet, Marked, Failed}
use Rattle.recovery_sender.specs.declared.sender.SenderError.{SenderError}
use Rattle.recovery_sender.specs.declared.sender.SenderError.TheVariants as refused
use Rattle.recovery_sender.specs.declared.sender.Sender.{Sender}
use Rattle.recovery_sender.specs.Acks.{AckChecked, AreNotSkipped, AreNewlyAcked, IsAckWellFormed, WereSent}
use Rattle.recovery_sender.specs.Bounds.{IsWindowLeast}
use Rattle.recovery_sender.specs.Detection.{DetectsLosses, congested}
use Rattle.recovery_sender.specs.Losses.{largest_in, IsEmptyLosses}
use Rattle.recovery_sender.specs.Promises.Acked.{AcksTracked}
use Rattle.recovery_sender.specs.Promises.Pasts.{ForEveryPast}
use Rattle.recovery_sender.specs.Promises.RttSampled.{SamplesByPast}
use Rattle.recovery_sender.specs.Senders.{state_in}
use Rattle.recovery_sender.specs.Spaces.{packets_in, space_in}
use Rattle.recovery_sender.specs.Steps.{SenderStep, CompletesCall, TakesSteps, marked, occurs, told}

-- each of these is acknowledged
abbrev pub acking : {Q S M P : Type 0} → SpaceId → ℕ → Bool → List ℕ → List (SenderStep Q S M P)
acking space now app_limited numbers = map (λ number. occurs (Acked space now number app_limited)) numbers

-- a number is at most `bound`, if any
abbrev pub IsWithin : ℕ → Option ℕ → Type 0
IsWithin bound number = IfSome number (λ n. n ≤ bound)

-- these are no longer tracked, and the largest acknowledged number is one of them or unchanged
pub record AreAcked {F Q R C K S M P : Type 0} {f : _} {c : _} {q : _} {m : _} {r : _} (space : SpaceId)
    (numbers : List ℕ) (old new : Sender F Q R C K S M P f c q m r) : Type 0 where
  pub packets : packets_in (state_in new) space ≡ without_all (packets_in (state_in old) space) numbers
  pub largest : (bound : ℕ) → IsWithin bound (largest_in (state_in old) space) → AreIncreasing 0 numbers bound
      → IsWithin bound (largest_in (state_in new) space)

module _ {K P M : Type 0} (recovery : RecoveryState K P M) where
  -- when a tracked packet was sent, if that was on the path in use (RFC 9000, 9.4)
  abbrev pub sent_here : Option (Packet P M) → Option ℕ
  sent_here packet = option_and_then (λ there. if there.path_generation == recovery.paths.current.ledger.generation
      then Some there.time_sent else None) packet

  abbrev pub sent_on : SpaceId → ℕ → Option ℕ
  sent_on space number = sent_here (packet_at (packets_in recovery space) number)

  -- when the largest number of a frame was sent, if it is tracked and was sent on the path in use
  abbrev pub largest_sent_on : SpaceId → List (ℕ × ℕ) → Option ℕ
  largest_sent_on space ranges = option_and_then (λ largest. sent_on space largest) (largest_of ranges)

  -- how many of these numbers are tracked and were sent on the path in use
  abbrev pub count_sent_on : SpaceId → List ℕ → ℕ
  count_sent_on space numbers = length (filter (λ number. is_some (sent_on space number)) numbers)

  -- with how many newly acknowledged packets ECN counts are compared, if there are any: those of another path may be
  -- unmarked (RFC 9000, 13.4.2.1)
  abbrev pub newly_compared : SpaceId → List ℕ → Option EcnCounts → ℕ
  newly_compared space numbers None = 0
  newly_compared space numbers (Some counts) = count_sent_on space numbers

  -- the marks of the path in use
  abbrev pub marks_now : PathMarks
  marks_now = recovery.paths.current.marks

  -- these marks with another ECN marking and another first packet after an RTT sample
  abbrev pub with_marks_now : Bool → Option (SpaceId × ℕ) → PathMarks
  with_marks_now sending first = record marks_now { sending_ecn = sending; first_after_sample = first }

  -- the next packet of a space is the first one after an RTT sample, if none is marked (RFC 9002, 7.6.2)
  abbrev pub first_marked : {Q S : Type 0} → SpaceId → Option (SpaceId × ℕ) → Option (Space P M) → List
      (SenderStep Q S M P)
  first_marked space None (Some here) =
      marked (with_marks_now marks_now.sending_ecn (Some (space, next_number_of here))) ∷ []
  first_marked space first here = []

  -- packets are no longer marked (RFC 9000, 13.4.2.1)
  abbrev pub unmarked : {Q S : Type 0} → SenderStep Q S M P
  unmarked = marked (with_marks_now false marks_now.first_after_sample)

-- the largest acknowledged number increases
abbrev pub is_raised : Option ℕ → Option ℕ → Bool
is_raised before None = false
is_raised None (Some after) = true
is_raised (Some before) (Some after) = nat_lt before after

-- ---- what is known of a sample and of ECN

-- an RTT sample, if any: the ACK delay counts in the space of 1-RTT packets, up to the peer's max_ack_delay (RFC 9002,
-- 5.3)
module _ {F Q R C K S M P : Type 0} {f : _} {c : _} {q : _} {m : _} {r : _} (space : SpaceId) (delay : ℕ)
    (old new : Sender F Q R C K S M P f c q m r) where
  abbrev pub SamplesRtt : Option ℕ → Type 0
  SamplesRtt None = TakesSteps [] old new
  SamplesRtt (Some rtt) = (between : Sender F Q R C K S M P f c q m r)
      × TakesSteps (occurs (Sample (min delay (ack_delay_in old.variables space)) rtt) ∷ []) old between
      × TakesSteps (first_marked (state_in between) space (marks_now (state_in between)).first_after_sample
      (space_in (state_in between) space)) between new

-- the answer to ECN counts reports more marked packets
abbrev pub is_marked : {Q : Type 0} → Answer Q → Bool
is_marked (Flag flag) = flag
is_marked answer = false

-- CE indicates congestion: more packets were marked, and the largest number of the frame was sent on the path in use
-- (RFC 9002, B.7; RFC 9000, 9.4)
abbrev pub is_congestion : {Q : Type 0} → Answer Q → Option ℕ → Bool
is_congestion answer sent = is_marked answer && is_some sent

-- `sent` is when the largest number of the frame was sent, if that was on the path in use
module _ {F Q R C K S M P : Type 0} {f : _} {c : _} {q : _} {m : _} {r : _} (space : SpaceId) (now newly : ℕ)
    (sent : Option ℕ) (old new : Sender F Q R C K S M P f c q m r) where
  -- the ECN counts are compared with those before and stored: no congestion, congestion, or the counts are invalid and
  -- packets are no longer marked (RFC 9000, 13.4.2.1; RFC 9002, B.7)
  abbrev pub EcnCompared : EcnCounts → EcnOutcome → Type 0
  EcnCompared counts Quiet = (answer : Answer Q) × (is_congestion answer sent ≡ false)
      × TakesSteps (told (Ecn space newly counts) (Ok answer) ∷ []) old new
  EcnCompared counts Marked = (answer : Answer Q) × (between : Sender F Q R C K S M P f c q m r)
      × (is_congestion answer sent ≡ true) × TakesSteps (told (Ecn space newly counts) (Ok answer) ∷ []) old between
      × TakesSteps (congested now false 0 sent) between new
  EcnCompared counts Failed = (between : Sender F Q R C K S M P f c q m r) × (refusal : Refusal)
      × TakesSteps (told (Ecn space newly counts) (Err refusal) ∷ []) old between
      × TakesSteps (unmarked (state_in between) ∷ []) between new

  -- ECN is validated only on a path that sends it, if the frame increased the largest acknowledged number: a frame
  -- without counts stops ECN on the path, and counts are compared (RFC 9000, 13.4.2.1)
  abbrev pub EcnResult : Bool → Option EcnCounts → Bool → EcnOutcome → Type 0
  EcnResult false counts raised end = (end ≡ Quiet) × TakesSteps [] old new
  EcnResult true counts false end = (end ≡ Quiet) × TakesSteps [] old new
  EcnResult true None true end = (end ≡ Quiet) × TakesSteps (unmarked (state_in old) ∷ []) old new
  EcnResult true (Some counts) true end = EcnCompared counts end

-- ---- a frame that newly acknowledges something

-- The window must not grow: the caller had too little to send (RFC 9002, 7.8), or the path in use is being validated.
-- An ACK may then be for a packet on the path before it (RFC 9000, 9.4).
abbrev pub is_limited : {K P M : Type 0} → RecoveryState K P M → Bool → Bool
is_limited recovery app_limited = app_limited || is_some (marks_now recovery).challenge

-- An RTT sample: the time from sending the largest number of the frame to receiving the frame, if that number is newly
-- acknowledged and was sent on the path in use. A newly acknowledged packet must be ack-eliciting (RFC 9002, 5.1).
abbrev pub rtt_since : ℕ → Option ℕ → Bool → Option ℕ
rtt_since received sent elicits = if elicits then option_map (λ sent. received - sent) sent else None

abbrev pub rtt_of : {K P M : Type 0} → RecoveryState K P M → SpaceId → ℕ → List (ℕ × ℕ) → Bool → Option ℕ
rtt_of recovery space received ranges elicits = rtt_since received (largest_sent_on recovery space ranges) elicits

-- the sample is the first of the path in use (RFC 9002, 7.6.2)
abbrev pub is_first_sample : {K P M : Type 0} → RecoveryState K P M → Option ℕ → Bool
is_first_sample recovery rtt = is_some rtt && not (is_some (marks_now recovery).first_after_sample)

pub record Acknowledges {F Q R C K S M P : Type 0} {f : _} {c : _} {q : _} {m : _} {r : _} (space : SpaceId) (now : ℕ)
    (ranges : List (ℕ × ℕ)) (ack : Ack) (elicits : Bool) (old : Sender F Q R C K S M P f c q m r) (acked : Acknowledged)
    (new : Sender F Q R C K S M P f c q m r) : Type 0 where
  pub taken : Sender F Q R C K S M P f c q m r
  pub ended : Sender F Q R C K S M P f c q m r
  pub sampled : Sender F Q R C K S M P f c q m r
  pub looked : Sender F Q R C K S M P f c q m r
  pub heard : Sender F Q R C K S M P f c q m r
  -- each number is acknowledged, and the acknowledgements are ended
  pub acks : TakesSteps (acking space now (is_limited (state_in old) ack.app_limited) acked.numbers.items) old taken
  pub ends : TakesSteps (occurs (EndAcks now (is_limited (state_in old) ack.app_limited)
      (largest_in (state_in taken) space)) ∷ []) taken ended
  -- the RTT is sampled and losses are detected, both by the time at which the frame was received (RFC 9002, 5.3); the
  -- ECN counts are compared
  pub samples : SamplesRtt space ack.delay ended sampled
      (rtt_of (state_in old) space (received_at ack now) ranges elicits)
  pub rtt : acked.rtt ≡ rtt_of (state_in old) space (received_at ack now) ranges elicits
  pub detects : DetectsLosses space now (received_at ack now) true sampled acked.losses looked
  pub compares : EcnResult space now (newly_compared (state_in old) space acked.numbers.items ack.ecn)
      (largest_sent_on (state_in old) space ranges) looked heard (marks_now (state_in looked)).sending_ecn ack.ecn
      (is_raised (largest_in (state_in old) space) (largest_in (state_in looked) space)) acked.ecn
  -- the count of probe timeouts is reset, and the timer is set
  pub does : CompletesCall [] (heard_in space now (sampled_first (is_first_sample (state_in old)
      (rtt_of (state_in old) space (received_at ack now) ranges elicits)) now old.variables)) heard new
  -- persistent congestion results in the smallest window, for every controller (RFC 9002, 7.6.2)
  pub least : acked.losses.is_persistent ≡ true → IsWindowLeast c.words (state_in new)

-- ---- a frame

-- the exclusive end of the numbers that may be lost after a frame: the largest acknowledged number before, or the
-- number after the largest of the frame
abbrev pub loss_end : Option ℕ → Option ℕ → ℕ
loss_end before largest = max (option_map_or (λ known. known) before 0) (option_map_or (λ n. n + 1) largest 0)

-- the frame is valid, with what it newly acknowledges; or it fails
module _ {F Q R C K S M P : Type 0} {f : _} {c : _} {q : _} {m : _} {r : _} (space : SpaceId) (ranges : List (ℕ × ℕ))
    (sender : Sender F Q R C K S M P f c q m r) where
  -- there is room for the numbers of all packets that may be lost after the frame
  pub record HasRoomForLosses (found : NewlyAcked) : Type 0 where
    pub none : found.lost.items ≡ []
    pub below : AreIncreasing 0 found.numbers.items (loss_end (largest_in (state_in sender) space) (largest_of ranges))
    pub room : count_below (loss_end (largest_in (state_in sender) space) (largest_of ranges))
        (packets_in (state_in sender) space) ≤ vec_capacity found.lost + length found.numbers.items

  pub record IsAckAcceptable (found : NewlyAcked) : Type 0 where
    pub whole : IsAckWellFormed space ranges sender.recovery.recovery
    pub sent : WereSent space ranges sender.recovery.recovery
    pub allowed : AreNotSkipped space ranges sender.recovery.recovery
    pub newly : AreNewlyAcked (packets_in (state_in sender) space) ranges 0 found.numbers.items found.elicits
    -- by the events before it
    pub tracked : ForEveryPast sender (AcksTracked space ranges found.numbers.items)
    pub room : HasRoomForLosses found

  abbrev pub IsNewly : Result NewlyAcked SenderError → Type 0
  IsNewly (Ok newly) = IsAckAcceptable newly
  IsNewly (Err refusal) =
      AckChecked space ranges sender.recovery.recovery (Err refusal) ⊎ (refusal ≡ refused.Event NoMemory)

module _ {F Q R C K S M P : Type 0} {f : _} {c : _} {q : _} {m : _} {r : _} (space : SpaceId) (now : ℕ)
    (ranges : List (ℕ × ℕ)) (ack : Ack) (old new : Sender F Q R C K S M P f c q m r) where
  -- nothing is newly acknowledged
  pub record HasNoneNewlyAcked (acked : Acknowledged) : Type 0 where
    pub lost : IsEmptyLosses acked.losses
    pub ecn : acked.ecn ≡ Quiet
    pub rtt : acked.rtt ≡ None
    pub does : CompletesCall [] old.variables old new

  -- the frame is valid, and what it newly acknowledges is returned, if anything
  pub record ProcessesAck (acked : Acknowledged) : Type 0 where
    pub whole : IsAckWellFormed space ranges old.recovery.recovery
    pub sent : WereSent space ranges old.recovery.recovery
    pub allowed : AreNotSkipped space ranges old.recovery.recovery
    pub elicits : Bool
    pub newly : AreNewlyAcked (packets_in (state_in old) space) ranges 0 acked.numbers.items elicits
    -- by the events before it
    pub tracked : ForEveryPast old (AcksTracked space ranges acked.numbers.items)
    pub sampled : ForEveryPast old (SamplesByPast space (received_at ack now) ranges acked.numbers.items acked.rtt)
    pub none : acked.numbers.items ≡ [] → HasNoneNewlyAcked acked
    pub some : (acked.numbers.items ≡ [] → ⊥) → Acknowledges space now ranges ack elicits old acked new

  -- for a result of `newly_acked`
  pub record ProcessesNewlyAcked (newly : NewlyAcked) (acked : Acknowledged) : Type 0 where
    pub numbers : acked.numbers.items ≡ newly.numbers.items
    pub none : newly.numbers.items ≡ [] → HasNoneNewlyAcked acked
    pub some : (newly.numbers.items ≡ [] → ⊥) → Acknowledges space now ranges ack newly.elicits old acked new

  -- or the frame fails for its contents or for want of memory, and nothing changes
  abbrev pub AckResult : Result Acknowledged SenderError → Type 0
  AckResult (Ok acked) = ProcessesAck acked
  AckResult (Err refusal) = (new ≡ old)
      × (AckChecked space ranges old.recovery.recovery (Err refusal) ⊎ (refusal ≡ refused.Event NoMemory))
