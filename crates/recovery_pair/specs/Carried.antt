-- What becomes of contents at an endpoint (RFC 9000, 13.3), by the events of its sender. They are taken from the
-- retransmission queue, perhaps by a probe. They are sent under a number, which may be declared lost.
use Rattle.std.specs.Prelude.{◌≡◌, ℕ, ◌+◌, ◌≤◌, ◌⊎◌, ◌&&◌, ◌||◌, ◌==◌, Bool, true, false, List, [], ◌∷◌, Option, None, Some, Result, Ok, if◌then◌else◌}
use Rattle.recovery_base.specs.declared.below.SpaceId.{SpaceId}
use Rattle.recovery_base.specs.Spaces.{same_space}
use Rattle.recovery_events.specs.declared.event.Answer.TheVariants.{Queue, Sent}
use Rattle.recovery_events.specs.declared.event.Event.TheVariants.{Lost, QueueProbe, Send, TakePending}
use Rattle.recovery_queue.specs.Queues.{QueueSemantics}
use Rattle.recovery_history.specs.History.{History}
use Rattle.recovery_sender.specs.declared.sender.Sender.{Sender}
use Rattle.recovery_sender.specs.declared.sender.SenderError.{SenderError}
use Rattle.recovery_sender.specs.declared.sender.probes.Timeout.{Timeout}
use Rattle.recovery_sender.specs.declared.sender.probes.Timeout.TheVariants as timeouts
use Rattle.recovery_pair.specs.declared.endpoint.Outgoing.{Outgoing}
use Rattle.recovery_pair.specs.declared.endpoint.Outgoing.TheVariants as outgoing
use Rattle.recovery_pair.specs.declared.endpoint.Waiting.{Waiting}
use Rattle.recovery_pair.specs.declared.steps.AckOutcome.{AckOutcome}
use Rattle.recovery_pair.specs.declared.steps.AckOutcome.TheVariants.{Taken}
use Rattle.recovery_pair.specs.declared.steps.End.{End}
use Rattle.recovery_pair.specs.declared.steps.Fate.{Fate}
use Rattle.recovery_pair.specs.declared.steps.Fate.TheVariants.{New}
use Rattle.recovery_pair.specs.declared.steps.LocalStep.{LocalStep}
use Rattle.recovery_pair.specs.declared.steps.LocalStep.TheVariants.{Expire, Hand}
use Rattle.recovery_pair.specs.declared.steps.PairAnswer.{PairAnswer}
use Rattle.recovery_pair.specs.declared.steps.PairAnswer.TheVariants.{Done, Expired}
use Rattle.recovery_pair.specs.Logs.{PairLog, handed, part, sends_of, sent_in}
use Rattle.recovery_pair.specs.Pasts.{Continues, HasPast}
use Rattle.recovery_pair.specs.Promises.Passed.{IsAllPassed}
use Rattle.recovery_pair.specs.Promises.Repeats.{has_failed, is_probe, probed_in}
use Rattle.recovery_pair.specs.Promises.Resends.{AddsItems, lost_in, lost_of, sum_of}
use Rattle.recovery_pair.specs.Waits.{waiting_in}

-- a measure of contents adds up
pub record AddsContents {P S : Type 0} (words : QueueSemantics P S) (measure : P → ℕ) : Type 0 where
  pub none : measure words.empty ≡ 0
  pub joined : (p r : P) → measure (words.joined p r) ≡ measure p + measure r

-- ---- by the events of a sender

-- contents for a probe were queued in a space, and the queue was not taken since
abbrev pub is_probing : {Q S M P : Type 0} → SpaceId → History Q S M P → Bool
is_probing space [] = false
is_probing space ((QueueProbe there immediate streams, Ok answer) ∷ earlier) =
    same_space there space || is_probing space earlier
is_probing space ((TakePending there, Ok answer) ∷ earlier) =
    if same_space there space then false else is_probing space earlier
is_probing space (happened ∷ earlier) = is_probing space earlier

module _ {Q S M P : Type 0} (contents : Q → P) (measure : P → ℕ) (space : SpaceId) where
  -- what was sent under a number
  abbrev pub sent_with : ℕ → History Q S M P → ℕ
  sent_with n [] = 0
  sent_with n ((Send there now size eliciting largest queue frames, Ok (Sent number forgotten)) ∷ earlier) =
      part (same_space there space && number == n) (measure (contents queue)) + sent_with n earlier
  sent_with n (happened ∷ earlier) = sent_with n earlier

  -- what was sent under the numbers that were declared lost
  abbrev pub lost_there : History Q S M P → ℕ
  lost_there [] = 0
  lost_there ((Lost there n, Ok answer) ∷ earlier) =
      part (same_space there space) (sent_with n earlier) + lost_there earlier
  lost_there (happened ∷ earlier) = lost_there earlier

  -- what was taken from the retransmission queue
  abbrev pub taken_there : History Q S M P → ℕ
  taken_there [] = 0
  taken_there ((TakePending there, Ok (Queue queue)) ∷ earlier) =
      part (same_space there space) (measure (contents queue)) + taken_there earlier
  taken_there (happened ∷ earlier) = taken_there earlier

  -- and by probes
  abbrev pub probed_there : History Q S M P → ℕ
  probed_there [] = 0
  probed_there ((TakePending there, Ok (Queue queue)) ∷ earlier) =
      part (same_space there space && is_probing space earlier) (measure (contents queue)) + probed_there earlier
  probed_there (happened ∷ earlier) = probed_there earlier

  -- what was sent under these numbers
  abbrev pub all_sent_with : List ℕ → History Q S M P → ℕ
  all_sent_with [] past = 0
  all_sent_with (n ∷ numbers) past = sent_with n past + all_sent_with numbers past

-- ---- what a step adds

-- contents that are taken from the retransmission queue, those that a probe takes, a packet that is sent, and the
-- numbers that are declared lost
pub record ContentsTurn (P : Type 0) : Type 0 where
  pub takes : Option (SpaceId × P)
  pub probes : Option (SpaceId × P)
  pub sends : Option (SpaceId × ℕ × P)
  pub loses : SpaceId → List ℕ

abbrev pub losing : {P : Type 0} → (SpaceId → List ℕ) → ContentsTurn P
losing numbers = record { takes = None; probes = None; sends = None; loses = numbers }

abbrev pub none_lost : SpaceId → List ℕ
none_lost space = []

-- contents that a probe takes, or another packet
abbrev pub taken_if : {P : Type 0} → Bool → SpaceId → P → Option (SpaceId × P)
taken_if probe space contents = if probe then Some (space, contents) else None

abbrev pub taking : {P : Type 0} → Bool → SpaceId → P → ContentsTurn P
taking probe space contents =
    record { takes = Some (space, contents); probes = taken_if probe space contents; sends = None; loses = none_lost }

abbrev pub sending_with : {P : Type 0} → SpaceId → ℕ → P → ContentsTurn P
sending_with space n contents =
    record { takes = None; probes = None; sends = Some (space, n, contents); loses = none_lost }

module _ {P : Type 0} (measure : P → ℕ) (space : SpaceId) where
  abbrev pub amount_of : Option (SpaceId × P) → ℕ
  amount_of None = 0
  amount_of (Some one) = part (same_space one.0 space) (measure one.1)

  abbrev pub amount_sent : Option (SpaceId × ℕ × P) → ℕ
  amount_sent None = 0
  amount_sent (Some one) = part (same_space one.0 space) (measure one.2)

  abbrev pub amount_with : ℕ → Option (SpaceId × ℕ × P) → ℕ
  amount_with n None = 0
  amount_with n (Some one) = part (same_space one.0 space && one.1 == n) (measure one.2)

-- one past goes on to another
pub record CarriesOn {Q S M P : Type 0} (contents : Q → P) (turn : ContentsTurn P) (past after : History Q S M P)
    : Type 0 where
  pub taken : (measure : P → ℕ) (space : SpaceId) → taken_there contents measure space after
      ≡ amount_of measure space turn.takes + taken_there contents measure space past
  pub sent : (measure : P → ℕ) (space : SpaceId) (n : ℕ) → sent_with contents measure space n after
      ≡ amount_with measure space n turn.sends + sent_with contents measure space n past
  pub lost : (measure : P → ℕ) (space : SpaceId) → lost_there contents measure space after
      ≡ all_sent_with contents measure space (turn.loses space) past + lost_there contents measure space past
  pub probed : (measure : P → ℕ) (space : SpaceId) → is_probing space past ≡ false
      → (is_probing space after ≡ false) × (probed_there contents measure space after
      ≡ amount_of measure space turn.probes + probed_there contents measure space past)

-- a call goes on so
abbrev pub Carries : {F Q R C K S M P : Type 0} {f : _} {c : _} {q : _} {m : _} {r : _} → ContentsTurn P
    → Sender F Q R C K S M P f c q m r → Sender F Q R C K S M P f c q m r → Type 0
Carries {q = q} turn old new = Continues (CarriesOn q.contents turn) old new

-- it takes, sends and loses nothing
abbrev pub CarriesNone : {F Q R C K S M P : Type 0} {f : _} {c : _} {q : _} {m : _} {r : _}
    → Sender F Q R C K S M P f c q m r → Sender F Q R C K S M P f c q m r → Type 0
CarriesNone = Carries (losing none_lost)

-- the numbers that an ACK frame and the loss detection timer report as lost
abbrev pub lost_by_ack : SpaceId → AckOutcome → SpaceId → List ℕ
lost_by_ack there (Taken acked) space = lost_of space there acked.losses
lost_by_ack there outcome space = []

abbrev pub lost_by_fate : SpaceId → Result Fate SenderError → SpaceId → List ℕ
lost_by_fate there (Ok (New items acked)) space = lost_by_ack there acked space
lost_by_fate there fate space = []

abbrev pub lost_by_timeout : Result Timeout SenderError → SpaceId → List ℕ
lost_by_timeout (Ok (timeouts.Lost there losses)) space = lost_of space there losses
lost_by_timeout timeout space = []

-- ---- at an endpoint

-- what is passed and what is taken is sent, or waits
abbrev pub Balances : List Waiting → List Waiting → Option (SpaceId × List ℕ) → Option (SpaceId × List ℕ)
    → Option (SpaceId × ℕ × List ℕ) → Type 0
Balances old new hands takes sends = (measure : List ℕ → ℕ) → measure [] ≡ 0 → (space : SpaceId)
    → amount_of measure space hands + (amount_of measure space takes + waiting_in measure space old)
    ≡ amount_sent measure space sends + waiting_in measure space new

-- in one space, some items wait in place of others
abbrev pub Exchanges : List Waiting → List Waiting → SpaceId → List ℕ → List ℕ → Type 0
Exchanges old new there more items = (measure : List ℕ → ℕ) → measure [] ≡ 0 → (space : SpaceId)
    → part (same_space there space) (measure more) + waiting_in measure space old
    ≡ part (same_space there space) (measure items) + waiting_in measure space new

-- no probe takes items
abbrev pub IsNoProbe : Option (SpaceId × List ℕ) → Type 0
IsNoProbe None = Unit {0}
IsNoProbe (Some one) = ⊥

-- a probe of the space may
abbrev pub IsProbeIn : SpaceId → Option (SpaceId × List ℕ) → Type 0
IsProbeIn space None = Unit {0}
IsProbeIn space (Some one) = one.0 ≡ space

-- if a packet is a probe, it may take the items that it sends, or none
abbrev pub IsProbeWith : Bool → SpaceId → List ℕ → Option (SpaceId × List ℕ) → Type 0
IsProbeWith probe space items None = Unit {0}
IsProbeWith true space items (Some one) = (one.0 ≡ space) × ((one.1 ≡ []) ⊎ (items ≡ one.1))
IsProbeWith false space items (Some one) = ⊥

module _ {F Q R C K S M : Type 0} {f : _} {c : _} {q : _} {m : _} {r : _} where
  -- nothing is taken of what was never sent in the space
  abbrev pub TakesSent : Option (SpaceId × List ℕ) → Sender F Q R C K S M (List ℕ) f c q m r → Type 0
  TakesSent takes sender = (own : HasPast sender) (measure : List ℕ → ℕ) → AddsContents q.words measure
      → (space : SpaceId) → ((n : ℕ) → sent_with q.contents measure space n own.past ≡ 0)
      → amount_of measure space takes ≡ 0

  -- these items are passed, this packet is sent, these numbers are declared lost, and a probe may take such items
  pub record MovesItems (hands : Option (SpaceId × List ℕ)) (sends : Option (SpaceId × ℕ × List ℕ))
      (loses : SpaceId → List ℕ) (IsProbed : Option (SpaceId × List ℕ) → Type 0)
      (old new : Sender F Q R C K S M (List ℕ) f c q m r × List Waiting) : Type 0 where
    pub takes : Option (SpaceId × List ℕ)
    pub probes : Option (SpaceId × List ℕ)
    pub goes : Carries (record { takes = takes; probes = probes; sends = sends; loses = loses }) old.0 new.0
    pub balances : Balances old.1 new.1 hands takes sends
    pub probed : IsProbed probes
    -- what is taken was sent before
    pub resent : TakesSent takes old.0

  abbrev pub MovesNone : Sender F Q R C K S M (List ℕ) f c q m r × List Waiting
      → Sender F Q R C K S M (List ℕ) f c q m r × List Waiting → Type 0
  MovesNone = MovesItems None None none_lost IsNoProbe

  -- a packet cannot be tracked: a probe may have taken its items
  abbrev pub MovesBack : SpaceId → Sender F Q R C K S M (List ℕ) f c q m r × List Waiting
      → Sender F Q R C K S M (List ℕ) f c q m r × List Waiting → Type 0
  MovesBack space = MovesItems None None none_lost (IsProbeIn space)

  -- a packet may be sent
  abbrev pub MovesSent : SpaceId → Result Outgoing SenderError
      → Sender F Q R C K S M (List ℕ) f c q m r × List Waiting
      → Sender F Q R C K S M (List ℕ) f c q m r × List Waiting → Type 0
  MovesSent space (Ok (outgoing.Sent packet items window)) =
      MovesItems None (Some (space, packet.number, items.items)) none_lost
      (IsProbeWith (is_probe packet.eliciting window) space items.items)
  MovesSent space (Ok (outgoing.Failed refusal)) = MovesBack space
  MovesSent space outcome = MovesNone

  -- items are taken to be sent: those of the retransmission queue, or if it has none, those that wait longest
  pub record TakesItems (probe : Bool) (space : SpaceId) (items : List ℕ)
      (old new : Sender F Q R C K S M (List ℕ) f c q m r × List Waiting) : Type 0 where
    pub queued : List ℕ
    pub goes : Carries (taking probe space queued) old.0 new.0
    pub exchanges : Exchanges old.1 new.1 space queued items
    pub first : (queued ≡ []) ⊎ (items ≡ queued)

  -- the log and a past of the sender agree: what was passed and what was taken was sent, or waits
  pub record CarriesItems (log : PairLog) (end : End)
      (here : Sender F Q R C K S M (List ℕ) f c q m r × List Waiting) : Type 0 where
    pub own : HasPast here.0
    pub held : (measure : List ℕ → ℕ) → measure [] ≡ 0 → (space : SpaceId)
        → handed end measure space log + taken_there q.contents measure space own.past
        ≡ waiting_in measure space here.1 + sent_in end measure space log
    pub sent : (measure : List ℕ → ℕ) (space : SpaceId) (n : ℕ) → sent_with q.contents measure space n own.past
        ≡ sum_of measure (sends_of end space n log)
    pub lost : (measure : List ℕ → ℕ) (space : SpaceId) → lost_there q.contents measure space own.past
        ≡ lost_in end space measure log
    -- unless a packet could not be tracked, what probes took was sent in probes
    pub calm : (space : SpaceId) → is_probing space own.past ≡ false
    pub probed : (measure : List ℕ → ℕ) → measure [] ≡ 0 → (space : SpaceId) → has_failed end space log ≡ false
        → probed_there q.contents measure space own.past ≤ probed_in end space measure log
    pub adds : (measure : List ℕ → ℕ) → AddsItems measure → AddsContents q.words measure
    -- only what was passed was sent
    pub passed : IsAllPassed log end

-- the items that a step passes, and the numbers that it reports as lost
abbrev pub hands_by : LocalStep → Result PairAnswer SenderError → Option (SpaceId × List ℕ)
hands_by (Hand space items) (Ok Done) = Some (space, items.items)
hands_by step answer = None

abbrev pub lost_by_local : LocalStep → Result PairAnswer SenderError → SpaceId → List ℕ
lost_by_local (Expire now) (Ok (Expired timeout)) = lost_by_timeout (Ok timeout)
lost_by_local step answer = none_lost
