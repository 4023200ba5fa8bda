-- The line of a path's state at a time.
use Rattle.std.specs.Prelude.{ℕ, nat_lt, List, [], ◌++◌, Option, Some, None, decimal, if◌then◌else◌}
use lib.Chars.{codes}
use Rattle.recovery_base.specs.Units.{largest_u64}
use Rattle.recovery_congestion.specs.Controllers.{ControllerSemantics}
use Rattle.recovery_congestion.specs.Rtt.{Rtt, rtt_get}
use Rattle.recovery_congestion.specs.declared.congestion.ControllerMetrics.{ControllerMetrics}
use Rattle.recovery_spaces.specs.declared.paths.InFlight.{InFlight}
use Rattle.recovery_spaces.specs.Paths.{counters_of}
use Rattle.recovery_paths.specs.PathStates.{Path}

-- in milliseconds, as whole nanoseconds with an exponent, and so are the spans below
unfoldable pub time_text : ℕ → List ℕ
time_text time = codes "{\"time\":" ++ (decimal time ++ codes "e-6,")

abbrev pub flight_text : InFlight → List ℕ
flight_text flight =
    codes "\"bytes_in_flight\":" ++ (decimal flight.bytes ++ (codes ",\"packets_in_flight\":"
    ++ decimal flight.ack_eliciting))

-- none while it is infinite (RFC 9002, B.3), which is 2^64 - 1
abbrev pub threshold_text : Option ℕ → List ℕ
threshold_text (Some bytes) = if nat_lt bytes largest_u64 then codes ",\"ssthresh\":" ++ decimal bytes else []
threshold_text None = []

abbrev pub window_text : ControllerMetrics → List ℕ
window_text metrics =
    codes ",\"congestion_window\":" ++ (decimal metrics.congestion_window ++ threshold_text metrics.ssthresh)

unfoldable pub spans_text : ℕ → ℕ → ℕ → ℕ → List ℕ
spans_text smoothed variance least latest =
    codes ",\"smoothed_rtt\":" ++ (decimal smoothed ++ (codes "e-6,\"rtt_variance\":" ++ (decimal variance
    ++ (codes "e-6,\"min_rtt\":" ++ (decimal least ++ (codes "e-6,\"latest_rtt\":" ++ (decimal latest
    ++ codes "e-6")))))))

-- before the first sample, the smoothed RTT and the last sample are the initial RTT (RFC 9002, 5)
abbrev pub rtt_text : Rtt → List ℕ
rtt_text rtt = spans_text (rtt_get rtt) rtt.variance rtt.least rtt.latest

-- the MTU in use (RFC 9000, 14.3), and the bytes in the pacer's bucket (RFC 9002, 7.7)
unfoldable pub room_text : ℕ → ℕ → List ℕ
room_text mtu tokens =
    codes ",\"mtu\":" ++ (decimal mtu ++ (codes ",\"pacer_tokens\":" ++ (decimal tokens ++ codes "}\n")))

abbrev pub state_text : {K : Type 0} → ControllerSemantics K → ℕ → Path K → List ℕ
state_text words time path =
    time_text time ++ (flight_text (counters_of path.ledger) ++ (window_text (words.metrics path.state.controller)
    ++ (rtt_text path.state.rtt ++ room_text path.state.discovery.mtu path.state.pacer.tokens)))
