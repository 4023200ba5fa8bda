-- How a line encodes a call of a sender: this is the grammar of the program's input.
use Rattle.std.specs.Prelude.{◌≡◌, ℕ, ◌<◌, ◌≤◌, ◌⊎◌, false, List, [], ◌∷◌, ◌++◌, length, Option, Some, None, IfSome, decimal}
use Rattle.std.specs.List.{AllByRecursion, flat_map}
use lib.Chars.{codes}
use Rattle.recovery_base.specs.Units.{u64_limit}
use Rattle.recovery_base.specs.declared.below.frames.EcnCounts.{EcnCounts}
use Rattle.recovery_script_syntax.specs.Fields.{Field, Values, words_for, AllFitFieldTypes, no_tail}
use Rattle.recovery_script_syntax.specs.Forms.{Form, SaysOneOf, plain_form}
use Rattle.recovery_script_syntax.specs.Fields.{a_space, a_flag, a_u64, a_span, a_u16}
use Rattle.recovery_script_syntax.specs.Lines.{ItemEvent, EncodesEvent}
use Rattle.recovery_script_syntax.specs.Words.{longest_line, words_of}
use Rattle.recovery_sender.specs.Calls.{IsPassedThrough}
use Rattle.recovery_sender.specs.declared.calls.Call.{Call}
use Rattle.recovery_sender.specs.declared.calls.Call.TheVariants.{Transmit, Ack, Timeout, Probe, Datagram, HandshakeKeys}
use Rattle.recovery_sender.specs.declared.calls.Call.TheVariants.{HandshakeConfirmed, AddressValidated, PeerDelay}
use Rattle.recovery_sender.specs.declared.calls.Call.TheVariants.{Discard, Abandon, Event}
use Rattle.recovery_sender.specs.declared.calls.Frame.{Frame}

-- the calls of lines: the contents of a packet are a list of items
abbrev pub ItemCall : Type 0
ItemCall = Call (List ℕ) (Unit {0}) (Unit {0}) (List ℕ)

-- ---- calls of a name and fields

abbrev pub CallForm : Type 0
CallForm = Form ItemCall

abbrev pub transmit : CallForm
transmit = plain_form (codes "transmit") (a_space ∷ a_u64 ∷ a_u16 ∷ a_flag ∷ [])
    (λ x. Transmit (record { space = x.0; now = x.1.0; bytes = x.1.1.0; in_flight = x.1.1.1.0 }))

abbrev pub timeout : CallForm
timeout = plain_form (codes "timeout") (a_u64 ∷ []) (λ x. Timeout x.0)

abbrev pub probe : CallForm
probe = plain_form (codes "probe") (a_space ∷ [])
    (λ x. Probe (record { space = x.0; immediate_ack = false; streams = tt }))

abbrev pub datagram : CallForm
datagram = plain_form (codes "datagram") (a_u64 ∷ []) (λ x. Datagram x.0)

abbrev pub keys : CallForm
keys = plain_form (codes "keys") [] (λ x. HandshakeKeys)

abbrev pub confirmed : CallForm
confirmed = plain_form (codes "confirmed") [] (λ x. HandshakeConfirmed)

abbrev pub validated : CallForm
validated = plain_form (codes "validated") [] (λ x. AddressValidated)

abbrev pub peer_delay : CallForm
peer_delay = plain_form (codes "peer-delay") (a_span ∷ []) (λ x. PeerDelay x.0)

abbrev pub discard : CallForm
discard = plain_form (codes "discard") (a_space ∷ a_u64 ∷ []) (λ x. Discard x.0 x.1.0)

abbrev pub abandon : CallForm
abandon = plain_form (codes "abandon") (a_space ∷ a_u64 ∷ []) (λ x. Abandon x.0 x.1.0)

-- those about the connection and its spaces
abbrev pub connection_forms : List CallForm
connection_forms = datagram ∷ keys ∷ confirmed ∷ validated ∷ peer_delay ∷ discard ∷ abandon ∷ []

abbrev pub call_forms : List CallForm
call_forms = transmit ∷ timeout ∷ probe ∷ connection_forms

-- ---- ACK frames

-- the space, the time, the ACK delay, and whether the sender was app-limited
abbrev pub ack_fields : List Field
ack_fields = a_space ∷ a_u64 ∷ a_span ∷ a_flag ∷ []

abbrev pub ack_values : Frame → Values no_tail ack_fields
ack_values frame = (frame.space, (frame.now, (frame.ack.delay, (frame.ack.app_limited, tt))))

-- the ranges, each by its first and its last number
abbrev pub range_words : List (ℕ × ℕ) → List (List ℕ)
range_words ranges = flat_map (λ range. decimal range.0 ∷ decimal range.1 ∷ []) ranges

-- the ECN counts, if there are any (RFC 9000, 19.3.2)
abbrev pub ecn_words : Option EcnCounts → List (List ℕ)
ecn_words None = []
ecn_words (Some counts) = codes "ecn" ∷ decimal counts.ect0 ∷ decimal counts.ect1 ∷ decimal counts.ce ∷ []

-- when the frame was received, if that is given (RFC 9002, 5.3)
abbrev pub received_words : Option ℕ → List (List ℕ)
received_words None = []
received_words (Some time) = codes "received" ∷ decimal time ∷ []

abbrev pub FitCounts : EcnCounts → Type 0
FitCounts counts = (counts.ect0 < u64_limit) × (counts.ect1 < u64_limit) × (counts.ce < u64_limit)

abbrev pub IsRange : ℕ × ℕ → Type 0
IsRange range = (range.0 < u64_limit) × (range.1 < u64_limit)

-- words are ranges, and then ECN counts and the time of receipt, if there are any
pub record SaysRanges (words : List (List ℕ)) (ranges : List (ℕ × ℕ)) (end : Option EcnCounts × Option ℕ) : Type 0 where
  pub are : words ≡ range_words ranges ++ (ecn_words end.0 ++ received_words end.1)
  pub fit : AllByRecursion IsRange ranges
  pub counts : IfSome end.0 FitCounts
  pub time : IfSome end.1 (λ time. time < u64_limit)

-- words are `ack`, the values of a frame's fields and its ranges, of which there is at least one
pub record SaysAck (words : List (List ℕ)) (frame : Frame) : Type 0 where
  pub behind : List (List ℕ)
  pub are : words ≡ codes "ack" ∷ (words_for no_tail ack_fields (ack_values frame) ++ behind)
  pub fit : AllFitFieldTypes no_tail ack_fields (ack_values frame)
  pub ranges : SaysRanges behind frame.ranges.items (frame.ack.ecn, frame.ack.received)
  pub some : 0 < length frame.ranges.items

-- ---- all of them

abbrev pub IsAck : List (List ℕ) → ItemCall → Type 0
IsAck words call = (frame : Frame) × (call ≡ Ack frame) × SaysAck words frame

-- the line is an event's, and the sender passes the event
abbrev pub IsPassed : List ℕ → ItemCall → Type 0
IsPassed line call = (event : ItemEvent) × (call ≡ Event event) × IsPassedThrough event × EncodesEvent line event

-- a line encodes a call
pub record EncodesCall (line : List ℕ) (call : ItemCall) : Type 0 where
  pub short : length line ≤ longest_line
  pub said : SaysOneOf call_forms (words_of line) call ⊎ (IsAck (words_of line) call ⊎ IsPassed line call)
