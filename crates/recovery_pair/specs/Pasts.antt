-- How the past of an end goes on: what was sent stays sent, what was received stays received.
use Rattle.std.specs.Prelude.{◌≡◌, ℕ, ◌+◌, ◌<◌, ◌≤◌, ◌⊎◌, ◌||◌, ◌&&◌, ◌==◌, nat_eq, nat_le, Bool, true, false, List, [], ◌∷◌, sum_by, Option, None, Some, IfSome, IsSomeAnd, Result, Ok, Err, if◌then◌else◌}
use Rattle.std.specs.Set.{is_member}
use Rattle.rand_core.specs.Stream.{Stream}
use Rattle.recovery_acks.specs.Acks.{largest_with}
use Rattle.recovery_base.specs.declared.below.SpaceId.{SpaceId}
use Rattle.recovery_base.specs.Spaces.{same_space}
use Rattle.recovery_base.specs.Units.{number_limit}
use Rattle.recovery_events.specs.declared.event.Answer.{Answer}
use Rattle.recovery_events.specs.declared.event.Answer.TheVariants.{New, Sent}
use Rattle.recovery_events.specs.declared.event.Event.TheVariants.{Received, Send}
use Rattle.recovery_events.specs.declared.event.Refusal.TheVariants.{NoMemory, NumberTooLarge, SpaceDiscarded}
use Rattle.recovery_losses.specs.Frames.{IsInAckRanges, largest_of}
use Rattle.recovery_losses.specs.Losses.{IsOneOf}
use Rattle.recovery_history.specs.declared.config.RecoveryConfig.{RecoveryConfig}
use Rattle.recovery_history.specs.History.{History, begins, queue_model}
use Rattle.recovery_history.specs.Promises.Acknowledged.{WasDropped, WasReceived, largest_in}
use Rattle.recovery_history.specs.Promises.Counted.{sum_on}
use Rattle.recovery_history.specs.Promises.Datagrams.{bytes_in, bytes_out, datagrams_on, is_validated}
use Rattle.recovery_history.specs.Promises.Fates.{is_given, times}
use Rattle.recovery_history.specs.Promises.NewNumbers.{came_in, is_discarded, is_new}
use Rattle.recovery_history.specs.Promises.Paths.{generations, paths_made}
use Rattle.recovery_history.specs.Reachability.{ReachedBy}
use Rattle.recovery_paths.specs.declared.path_pair.PathName.TheVariants.{Current}
use Rattle.recovery_sender.specs.Promises.Lost.{elicits_by, sent_at}
use Rattle.recovery_sender.specs.Promises.Pasts.{ForEveryPast}
use Rattle.recovery_sender.specs.Senders.{state_in}
use Rattle.recovery_sender.specs.declared.sender.Sender.{Sender}
use Rattle.recovery_sender.specs.declared.sender.SenderError.{SenderError}
use Rattle.recovery_sender.specs.declared.sender.SenderError.TheVariants.{Event}
use Rattle.recovery_pair.specs.declared.steps.AckOutcome.{AckOutcome}
use Rattle.recovery_pair.specs.declared.steps.AckOutcome.TheVariants.{Taken}
use Rattle.recovery_pair.specs.declared.steps.Fate.{Fate}
use Rattle.recovery_pair.specs.declared.steps.Fate.TheVariants as fates
use Rattle.recovery_pair.specs.Congested.{AddsCongestion, Congestions, any_congestion, no_congestion}
use Rattle.recovery_pair.specs.Flights.{Numbers, acked_by, counted_if, ends_by_ack, no_numbers}
use Rattle.recovery_pair.specs.Frames.{IsSoundFrame}
use Rattle.recovery_pair.specs.Promises.NeverAccused.{IsSpared}
use Rattle.recovery_pair.specs.Promises.RttSamples.{sample_of}

-- ---- what one step adds to the past of an end

pub record EndTurn : Type 0 where
  -- a packet came with this number, new or not
  pub came : Option (SpaceId × ℕ)
  -- and it is new
  pub heard : Option (SpaceId × ℕ)
  -- the bytes that are received, and those that are transmitted
  pub arrives : ℕ
  pub leaves : ℕ
  -- the keys of a space are dropped
  pub discards : Option SpaceId
  -- the address of the peer is validated
  pub validates : Bool
  -- a packet is sent: its space, its number, and how many bytes of it count in flight
  pub counts : Option (SpaceId × ℕ × ℕ)
  -- no other packets than these are acknowledged, lost, or discarded with their space
  pub ends : Numbers
  -- when a packet is heard
  pub at : ℕ
  -- a packet is sent: its space, its number, and the largest number of its ACK frame, if it has one
  pub carries : Option (SpaceId × ℕ × Option ℕ)
  -- no other packets than these are acknowledged
  pub acks : Numbers
  -- a packet is sent: its space, its number, when, and whether it is ack-eliciting
  pub sends : Option (SpaceId × ℕ × ℕ × Bool)
  -- no other congestion is found
  pub congests : Congestions

-- the packets that end, those of them that are acknowledged, and the congestion that may be found
pub record Endings : Type 0 where
  pub gone : Numbers
  pub acked : Numbers
  pub congests : Congestions

abbrev pub ending : Endings → EndTurn
ending endings = record {
  came = None;
  heard = None;
  arrives = 0;
  leaves = 0;
  discards = None;
  validates = false;
  counts = None;
  ends = endings.gone;
  at = 0;
  carries = None;
  acks = endings.acked;
  sends = None;
  congests = endings.congests;
}

-- with other congestion
abbrev pub with_congestion : Congestions → Endings → Endings
with_congestion congests endings = record endings { congests = congests }

-- none of them is acknowledged
abbrev pub losing : Numbers → Endings
losing gone = record { gone = gone; acked = no_numbers; congests = any_congestion }

abbrev pub no_endings : Endings
no_endings = with_congestion no_congestion (losing no_numbers)

-- the endings of an ACK frame, and of a packet that arrives
abbrev pub endings_by_ack : SpaceId → AckOutcome → Endings
endings_by_ack there outcome =
    record { gone = ends_by_ack there outcome; acked = acked_by there outcome; congests = any_congestion }

abbrev pub endings_by_fate : SpaceId → Fate → Endings
endings_by_fate there (fates.New items acked) = endings_by_ack there acked
endings_by_fate there fate = no_endings

abbrev pub quiet : EndTurn
quiet = ending no_endings

abbrev pub arriving : ℕ → EndTurn
arriving size = record quiet { arrives = size }

abbrev pub leaving : ℕ → EndTurn
leaving size = record quiet { leaves = size }

abbrev pub discarding : SpaceId → EndTurn
discarding space = record quiet { discards = Some space; ends = λ there n. same_space space there }

-- a packet is sent in a datagram of this size, with an ACK up to this number, if any
abbrev pub packet_leaving : ℕ → ℕ → Bool → SpaceId → ℕ → Option ℕ → ℕ → EndTurn
packet_leaving size counted eliciting space n largest now = record quiet {
  leaves = size;
  counts = Some (space, n, counted);
  carries = Some (space, n, largest);
  sends = Some (space, n, now, eliciting);
}

abbrev pub validating : EndTurn
validating = record quiet { validates = true }

-- a packet is new (`Ok true`), a duplicate (`Ok false`), or dropped
abbrev pub came_by : SpaceId × ℕ → Result Bool SenderError → Option (SpaceId × ℕ)
came_by number (Ok new) = Some number
came_by number (Err refusal) = None

abbrev pub new_by : SpaceId × ℕ → Result Bool SenderError → Option (SpaceId × ℕ)
new_by number (Ok true) = Some number
new_by number reply = None

abbrev pub hearing : ℕ → ℕ → SpaceId → ℕ → Result Bool SenderError → Endings → EndTurn
hearing now size space n reply endings = record (ending endings) {
  came = came_by (space, n) reply;
  heard = new_by (space, n) reply;
  arrives = size;
  at = now;
}

-- the largest number received, with its time, after another was
abbrev pub with_largest : SpaceId → Option (SpaceId × ℕ) → ℕ → Option (ℕ × ℕ) → Option (ℕ × ℕ)
with_largest space None now before = before
with_largest space (Some number) now before =
    if same_space number.0 space then largest_with before number.1 now else before

abbrev pub with_number : SpaceId → Option (SpaceId × ℕ) → List ℕ → List ℕ
with_number space None before = before
with_number space (Some number) before = if same_space number.0 space then number.1 ∷ before else before

-- the largest number in the ACK frame of a packet, after one was sent
abbrev pub with_carried : SpaceId → ℕ → Option (SpaceId × ℕ × Option ℕ) → Option ℕ → Option ℕ
with_carried space n None before = before
with_carried space n (Some sent) before = if same_space sent.0 space && sent.1 == n then sent.2 else before

-- when a packet was sent, after one was
abbrev pub with_time : SpaceId → ℕ → Option (SpaceId × ℕ × ℕ × Bool) → ℕ → ℕ
with_time space n None before = before
with_time space n (Some sent) before = if same_space sent.0 space && sent.1 == n then sent.2 else before

-- and whether it is ack-eliciting
abbrev pub with_eliciting : SpaceId → ℕ → Option (SpaceId × ℕ × ℕ × Bool) → Bool → Bool
with_eliciting space n None before = before
with_eliciting space n (Some sent) before = if same_space sent.0 space && sent.1 == n then sent.3 else before

-- what a sent packet adds in flight, unless its number is gone
abbrev pub added : Option (SpaceId × ℕ × ℕ) → Numbers → ℕ
added None gone = 0
added (Some sent) gone = if gone sent.0 sent.1 then 0 else sent.2

abbrev pub is_of : SpaceId → Option SpaceId → Bool
is_of space None = false
is_of space (Some there) = same_space there space

-- whether it is new, by whether its space is discarded, its number is too large, and that is new
abbrev pub IsHeardBy : Bool → Bool → Bool → Result Bool SenderError → Type 0
IsHeardBy discarded large new (Ok true) = (discarded ≡ false) × (new ≡ true)
IsHeardBy discarded large new (Ok false) = (discarded ≡ false) × (new ≡ false)
IsHeardBy discarded large new (Err (Event SpaceDiscarded)) = discarded ≡ true
IsHeardBy discarded large new (Err (Event NumberTooLarge)) = large ≡ true
IsHeardBy discarded large new (Err (Event NoMemory)) = (discarded ≡ false) × (new ≡ true)
IsHeardBy discarded large new (Err refusal) = ⊥

-- ---- one past goes on to another

module _ {Q S M P : Type 0} where
  -- a packet was sent under the number
  abbrev pub WasSentUnder : SpaceId → ℕ → History Q S M P → Type 0
  WasSentUnder space n past = 0 < times (is_given space n) past

  -- a packet with the number came
  abbrev pub Came : SpaceId → ℕ → History Q S M P → Type 0
  Came space n past = is_member nat_eq (came_in space past) n ≡ true

  -- the bytes received and transmitted on the path
  abbrev pub bytes_received : History Q S M P → ℕ
  bytes_received past = sum_by bytes_in (datagrams_on Current past)

  abbrev pub bytes_transmitted : History Q S M P → ℕ
  bytes_transmitted past = sum_by bytes_out (datagrams_on Current past)

  -- the bytes of the ack-eliciting packets in flight on the path in use, except for those numbers that are gone
  abbrev pub flight_in : Numbers → History Q S M P → ℕ
  flight_in gone past = sum_on (λ size eliciting. counted_if eliciting size) (generations past).current gone past

  -- the largest number of a space that was received, and when
  abbrev pub largest_came : SpaceId → History Q S M P → Option (ℕ × ℕ)
  largest_came space [] = None
  largest_came space ((Received there now number eliciting, Ok (New arm)) ∷ earlier) =
      if same_space there space then largest_with (largest_came space earlier) number now
      else largest_came space earlier
  largest_came space (happened ∷ earlier) = largest_came space earlier

  -- the bytes of the packets that count in flight, but are not ack-eliciting
  abbrev pub silent_bytes : History Q S M P → ℕ
  silent_bytes [] = 0
  silent_bytes ((Send there now size eliciting largest queue frames, Ok (Sent number forgotten)) ∷ earlier) =
      (if eliciting then 0 else size) + silent_bytes earlier
  silent_bytes (happened ∷ earlier) = silent_bytes earlier

  -- the largest number received is still to be acknowledged (RFC 9000, 13.2.3)
  abbrev pub KeepsLargest : SpaceId → History Q S M P → Type 0
  KeepsLargest space past = IfSome (largest_came space past) (λ largest. ¬ WasDropped space largest.0 past)

  -- the ACK of each packet that is acknowledged has only numbers below the largest received (RFC 9000, 13.2.4)
  abbrev pub AcksBelow : Numbers → SpaceId → History Q S M P → History Q S M P → Type 0
  AcksBelow acks space past after = (n l : ℕ) → acks space n ≡ true → largest_in space n past ≡ Some l
      → IsSomeAnd (largest_came space after) (λ largest. l < largest.0)

  -- only this is added
  pub record GoesOn (turn : EndTurn) (past after : History Q S M P) : Type 0 where
    pub given : (space : SpaceId) (n : ℕ) → WasSentUnder space n past → WasSentUnder space n after
    pub came : (space : SpaceId) → came_in space after ≡ with_number space turn.came (came_in space past)
    pub heard : (space : SpaceId) (n : ℕ) → WasReceived space n after
        → WasReceived space n past ⊎ (turn.heard ≡ Some (space, n))
    pub arrived : bytes_received after ≤ turn.arrives + bytes_received past
    pub left : turn.leaves + bytes_transmitted past ≤ bytes_transmitted after
    pub discarded : (space : SpaceId) → is_discarded space after
        ≡ (is_of space turn.discards || is_discarded space past)
    pub validated : (first : Bool) → is_validated first Current after
        ≡ (turn.validates || is_validated first Current past)
    pub largest : (space : SpaceId) → largest_came space after
        ≡ with_largest space turn.heard turn.at (largest_came space past)
    pub flight : (gone : Numbers) → added turn.counts gone
        + flight_in (λ space n. turn.ends space n || gone space n) past ≤ flight_in gone after
    pub carried : (space : SpaceId) (n : ℕ) → largest_in space n after
        ≡ with_carried space n turn.carries (largest_in space n past)
    pub timed : (space : SpaceId) (n : ℕ) → sent_at space after n ≡ with_time space n turn.sends (sent_at space past n)
    pub elicited : (space : SpaceId) (n : ℕ) → elicits_by space after n
        ≡ with_eliciting space n turn.sends (elicits_by space past n)
    pub paths : paths_made after ≡ paths_made past
    pub topped : (space : SpaceId) → AcksBelow turn.acks space past after → KeepsLargest space past
        → KeepsLargest space after
    pub silent : silent_bytes after ≤ silent_bytes past
    pub congested : AddsCongestion turn.congests past after

  abbrev pub GoesOnQuietly : History Q S M P → History Q S M P → Type 0
  GoesOnQuietly = GoesOn quiet

  -- a packet is sent under a number that was not used before, in a datagram of this size; `counted` bytes of the packet
  -- count in flight
  pub record SendsNumber (size counted : ℕ) (eliciting : Bool) (space : SpaceId) (n : ℕ) (largest : Option ℕ) (now : ℕ)
      (past after : History Q S M P) : Type 0 where
    pub goes : GoesOn (packet_leaving size counted eliciting space n largest now) past after
    pub unused : WasSentUnder space n past → ⊥
    pub above : (k : ℕ) → WasSentUnder space k past → k < n
    pub used : WasSentUnder space n after
    pub small : n < number_limit

  -- and with an ACK of all numbers that are to be acknowledged
  pub record SendsWithAck (size counted : ℕ) (eliciting : Bool) (space : SpaceId) (n : ℕ) (ranges : List (ℕ × ℕ))
      (now : ℕ) (past after : History Q S M P) : Type 0 where
    pub sends : SendsNumber size counted eliciting space n (largest_of ranges) now past after
    pub acks : (k : ℕ) → IsInAckRanges k ranges → WasReceived space k past
    pub whole : (k : ℕ) → WasReceived space k past → ¬ WasDropped space k past → IsInAckRanges k ranges

  -- a packet comes: it is new, a duplicate, or dropped, by what came before
  pub record HearsNumber (now size : ℕ) (space : SpaceId) (n : ℕ) (reply : Result Bool SenderError)
      (endings : Endings) (past after : History Q S M P) : Type 0 where
    pub goes : GoesOn (hearing now size space n reply endings) past after
    pub by : IsHeardBy (is_discarded space past) (nat_le number_limit n) (is_new (came_in space past) n) reply

-- ---- the same of a sender

module _ {F Q R C K S M P : Type 0} {f : _} {c : _} {q : _} {m : _} {r : _} where
  -- a past led to its state
  pub record HasPast (sender : Sender F Q R C K S M P f c q m r) : Type 0 where
    pub config : RecoveryConfig F
    pub start : ℕ
    pub random : Stream
    pub past : History Q S M P
    pub came : ReachedBy (begins f.built c.words (queue_model q.contents q.words q.blank) config start random) past
        (state_in sender)

  -- each past of the old state goes on so to a past of the new one
  pub record Continues (Goes : History Q S M P → History Q S M P → Type 0) (old new : Sender F Q R C K S M P f c q m r)
      : Type 0 where
    pub from : (config : RecoveryConfig F) (start : ℕ) (random : Stream) (past : History Q S M P)
        → (let beginning = begins f.built c.words (queue_model q.contents q.words q.blank) config start random in
        ReachedBy beginning past (state_in old)
        → (after : History Q S M P) × ReachedBy beginning after (state_in new) × Goes past after)

-- whether to start the ACK delay timer, if a packet is new
abbrev pub arm_told : {Q : Type 0} → Answer Q → Option Bool
arm_told (New arm) = Some arm
arm_told answer = None

-- whether it is new, or why it is dropped
abbrev pub heard_of : Result (Option Bool) SenderError → Result Bool SenderError
heard_of (Ok (Some arm)) = Ok true
heard_of (Ok None) = Ok false
heard_of (Err refusal) = Err refusal

-- ---- ACK frames

-- these numbers were sent
abbrev pub WereSentUnder : {Q S M P : Type 0} → SpaceId → List (ℕ × ℕ) → History Q S M P → Type 0
WereSentUnder space ranges past =
    (n : ℕ) → IsInAckRanges n ranges → WasSentUnder space n past × (n < number_limit)

-- if all numbers of a sound frame were sent, it is not refused for what it says
abbrev pub NoAccusation : {F Q R C K S M P : Type 0} {f : _} {c : _} {q : _} {m : _} {r : _} → SpaceId → List (ℕ × ℕ)
    → Sender F Q R C K S M P f c q m r → AckOutcome → Type 0
NoAccusation space ranges sender outcome = IsSoundFrame ranges
    → ForEveryPast sender (λ past. WereSentUnder space ranges past → IsSpared outcome)

-- there is a sample exactly if the frame gives one, by when packets were sent and whether they are ack-eliciting
abbrev pub GivesSample : (ℕ → ℕ) → (ℕ → Bool) → ℕ → Option ℕ → AckOutcome → Type 0
GivesSample sent elicits now largest (Taken acked) =
    acked.rtt ≡ sample_of sent elicits now acked.numbers.items largest
GivesSample sent elicits now largest outcome = Unit {0}

-- by each past in which no other path was made
abbrev pub SampledBy : {F Q R C K S M P : Type 0} {f : _} {c : _} {q : _} {m : _} {r : _} → SpaceId → ℕ → List (ℕ × ℕ)
    → Sender F Q R C K S M P f c q m r → AckOutcome → Type 0
SampledBy space now ranges sender outcome = ForEveryPast sender (λ past. paths_made past ≡ 0
    → GivesSample (sent_at space past) (elicits_by space past) now (largest_of ranges) outcome)

-- what is newly acknowledged is in the frame
abbrev pub AcksWithin : List (ℕ × ℕ) → AckOutcome → Type 0
AcksWithin ranges (Taken acked) = (n : ℕ) → IsOneOf n acked.numbers.items → IsInAckRanges n ranges
AcksWithin ranges outcome = Unit {0}
