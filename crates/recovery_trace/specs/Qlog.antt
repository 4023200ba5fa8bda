-- The qlog records of an event, as JSON text sequences (RFC 7464; draft-ietf-quic-qlog-quic-events): times and spans in
-- milliseconds, as whole nanoseconds with an exponent.
use Rattle.std.specs.Prelude.{ℕ, ◌-◌, Bool, true, false, List, [], ◌∷◌, ◌++◌, Ok, decimal}
use lib.Chars.{codes}
use Rattle.recovery_base.specs.declared.below.SpaceId.{SpaceId}
use Rattle.recovery_base.specs.declared.below.SpaceId.TheVariants.{Initial, Handshake, Data}
use Rattle.recovery_base.specs.declared.timer.Timer.TheVariants.{LossDetection}
use Rattle.recovery_congestion.specs.Controllers.{ControllerSemantics}
use Rattle.recovery_events.specs.declared.event.Event.TheVariants as events
use Rattle.recovery_events.specs.declared.event.Answer.TheVariants as answers
use Rattle.recovery_spaces.specs.Paths.{counters_of}
use Rattle.recovery_paths.specs.PathStates.{Path}
use Rattle.recovery_script_syntax.specs.Answers.{ScriptReply}
use Rattle.recovery_script_syntax.specs.Lines.{ItemEvent}
use Rattle.recovery_trace.specs.declared.qlog.Note.{Note}
use Rattle.recovery_trace.specs.declared.qlog.Note.TheVariants.{Sent, Probing, Received, Lost, Congestion, Set, Stopped, Nothing}
use Rattle.recovery_trace.specs.States.{flight_text, window_text, rtt_text}

-- what qlog can express of an event
abbrev pub note_of : ItemEvent → Note
note_of (events.Send space now size eliciting largest queue frames) = Sent space size eliciting
note_of (events.PollMtu now) = Probing
note_of (events.Received space now number eliciting) = Received space number eliciting
note_of (events.Lost space number) = Lost space number
note_of (events.Congestion now sent persistent bytes) = Congestion persistent
note_of (events.SetTimer LossDetection time) = Set time
note_of (events.StopTimer LossDetection) = Stopped
note_of event = Nothing

-- the header record
abbrev pub header_text : List ℕ
header_text =
    30 ∷ (codes "{\"qlog_version\":\"0.3\",\"qlog_format\":\"JSON-SEQ\",\"title\":\"recovery-trace\",\"trace\":"
    ++ (codes "{\"vantage_point\":{\"type\":\"unknown\"},\"common_fields\":"
    ++ codes "{\"time_format\":\"relative\",\"reference_time\":0}}}\n"))

-- a record with a time, a name and data
abbrev pub record_text : ℕ → List ℕ → List ℕ → List ℕ
record_text time name values =
    30 ∷ (codes "{\"time\":" ++ (decimal time ++ (codes "e-6,\"name\":\"" ++ (name
    ++ (codes "\",\"data\":{" ++ values)))))

-- ---- packets

abbrev pub type_text : SpaceId → List ℕ
type_text Initial = codes "initial"
type_text Handshake = codes "handshake"
type_text Data = codes "1RTT"

-- of the frames, the record has whether one is ack-eliciting
abbrev pub frame_text : Bool → List ℕ
frame_text true = codes "ping"
frame_text false = codes "padding"

abbrev pub packet_text : List ℕ → ℕ → List ℕ → List ℕ
packet_text kind number behind =
    codes "\"header\":{\"packet_type\":\"" ++ (kind ++ (codes "\",\"packet_number\":" ++ (decimal number ++ behind)))

unfoldable pub sent_text : ℕ → List ℕ → ℕ → ℕ → List ℕ → List ℕ
sent_text time kind number size frame =
    record_text time (codes "transport:packet_sent") (packet_text kind number (codes "},\"raw\":{\"length\":"
    ++ (decimal size ++ (codes "},\"frames\":[{\"frame_type\":\"" ++ (frame ++ codes "\"}]}}\n")))))

unfoldable pub received_text : ℕ → List ℕ → ℕ → List ℕ → List ℕ
received_text time kind number frame =
    record_text time (codes "transport:packet_received") (packet_text kind number
    (codes "},\"frames\":[{\"frame_type\":\"" ++ (frame ++ codes "\"}]}}\n")))

unfoldable pub lost_text : ℕ → List ℕ → ℕ → List ℕ
lost_text time kind number =
    record_text time (codes "recovery:packet_lost") (packet_text kind number (codes "}}}\n"))

-- ---- congestion, and the loss detection timer

abbrev pub trigger_text : Bool → List ℕ
trigger_text true = codes ",\"trigger\":\"persistent_congestion\""
trigger_text false = []

unfoldable pub congestion_text : ℕ → List ℕ → List ℕ
congestion_text time trigger =
    record_text time (codes "recovery:congestion_state_updated")
    (codes "\"new\":\"recovery\"" ++ (trigger ++ codes "}}\n"))

unfoldable pub set_text : ℕ → ℕ → List ℕ
set_text time delta =
    record_text time (codes "recovery:timer_updated")
    (codes "\"timer_type\":\"pto\",\"event_type\":\"set\",\"delta\":" ++ (decimal delta ++ codes "e-6}}\n"))

unfoldable pub stopped_text : ℕ → List ℕ
stopped_text time = record_text time (codes "recovery:timer_updated") (codes "\"event_type\":\"cancelled\"}}\n")

-- ---- an event, and the state after it

-- its own record, if it was not rejected
abbrev pub note_text : ℕ → Note → ScriptReply → List ℕ
note_text time (Sent space size eliciting) (Ok (answers.Sent number forgotten)) =
    sent_text time (type_text space) number size (frame_text eliciting)
note_text time Probing (Ok (answers.Probe number size)) = sent_text time (codes "1RTT") number size (codes "ping")
note_text time (Received space number eliciting) (Ok (answers.New arm)) =
    received_text time (type_text space) number (frame_text eliciting)
note_text time (Lost space number) (Ok answer) = lost_text time (type_text space) number
note_text time (Congestion persistent) (Ok answer) = congestion_text time (trigger_text persistent)
note_text time (Set moment) (Ok answer) = set_text time (moment - time)
note_text time Stopped (Ok answer) = stopped_text time
note_text time note reply = []

unfoldable pub metrics_named : ℕ → List ℕ
metrics_named time = record_text time (codes "recovery:metrics_updated") []

-- the metrics of a path
abbrev pub metrics_text : {K : Type 0} → ControllerSemantics K → ℕ → Path K → List ℕ
metrics_text words time path =
    metrics_named time ++ (flight_text (counters_of path.ledger) ++ (window_text (words.metrics path.state.controller)
    ++ (rtt_text path.state.rtt ++ codes "}}\n")))
