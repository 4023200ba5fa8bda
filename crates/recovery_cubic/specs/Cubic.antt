-- CUBIC (RFC 9438), with whole numbers: what each call does. Each division states its rounding.
use Rattle.std.specs.Prelude.{ℕ, ◌*◌, ◌/◌, ◌<◌, min, max, Bool, Some, None, nat_le, nat_lt, if◌then◌else◌, Option, unwrap_or, nat_eq}
use Rattle.recovery_base.specs.Units.{largest_u64}
use Rattle.recovery_congestion.specs.declared.congestion.ControllerMetrics.{ControllerMetrics}
use Rattle.recovery_congestion.specs.Calls.{ControllerCall, acks, congests, ends_acks, sends, takes_mtu}
use Rattle.recovery_congestion.specs.Controllers.{ControllerSemantics}
use Rattle.recovery_congestion.specs.NewReno.{sum_to_most}
use Rattle.recovery_cubic.specs.declared.cubic.Cubic.{Cubic}
use Rattle.recovery_cubic.specs.declared.stage.Stage.{Stage}
use Rattle.recovery_cubic.specs.Curve.{curve_from}
use Rattle.recovery_cubic.specs.Stage.{parts, quotient_up, stage_from, flat_stage, counted, uncounted, raised, curve_window, resumed}
use Rattle.recovery_cubic.specs.Fractions.{alpha_denominator, alpha_numerator, beta_denominator, beta_numerator, convergence_denominator, convergence_numerator}

-- an MTU of zero counts as one byte
abbrev pub datagram_of : ℕ → ℕ
datagram_of mtu = max mtu 1

-- the minimum window (RFC 9002, 7.2; RFC 9438, 4.6)
abbrev pub least_window : Cubic → ℕ
least_window cubic = 2 * datagram_of cubic.current_mtu

-- at first in slow start (RFC 9438, 4.10)
abbrev pub cubic_made : ℕ → ℕ → ℕ → Cubic
cubic_made window now mtu = record {
  initial_window = window;
  current_mtu = mtu;
  window = window;
  ssthresh = largest_u64;
  recovery_start_time = now;
  prior_window = window;
  stage = flat_stage window (datagram_of mtu) now;
  idle_since = None;
}

-- ---- idle periods: nothing is in flight (RFC 9438, 5.8)

-- a packet that counts in flight ends one
abbrev pub cubic_resumed : ℕ → Cubic → Cubic
cubic_resumed now cubic = record cubic { stage = resumed now cubic.idle_since cubic.stage; idle_since = None }

abbrev pub cubic_sent : ℕ → ℕ → Cubic → Cubic
cubic_sent now bytes cubic = if nat_eq bytes 0 then cubic else cubic_resumed now cubic

-- an ACK that leaves nothing in flight begins one
abbrev pub idle_found : ℕ → ℕ → Option ℕ → Option ℕ
idle_found now in_flight idle = if nat_eq in_flight 0 then Some (unwrap_or idle now) else None

abbrev pub cubic_found : ℕ → ℕ → Cubic → Cubic
cubic_found now in_flight cubic = record cubic { idle_since = idle_found now in_flight cubic.idle_since }

-- ---- acknowledgements

-- in slow start the window grows by the bytes acknowledged, and a stage begins where it is (RFC 9438, 4.8 and 4.10)
abbrev pub slow_started : ℕ → ℕ → Cubic → Cubic
slow_started now bytes cubic =
    let window = sum_to_most cubic.window bytes in
    record cubic { window = window; stage = flat_stage window (datagram_of cubic.current_mtu) now }

-- how much Reno's window grows, in fractions of a byte, rounded up: alpha datagrams for each window of bytes
-- acknowledged. Alpha is 9/17, and 1 once Reno's window reached the window before the reduction (RFC 9438, 4.3)
abbrev pub friendly_step : ℕ → Cubic → ℕ
friendly_step bytes cubic =
    let alpha =
    if nat_le (parts * cubic.prior_window) cubic.stage.estimate then alpha_denominator else alpha_numerator in
    quotient_up (parts * alpha * datagram_of cubic.current_mtu * bytes)
    (alpha_denominator * max cubic.window (least_window cubic))

-- the curve's value, but at most half the bytes acknowledged above the window; or the window before, or Reno's, if that
-- is larger (RFC 9438, 4.2 and 4.3)
abbrev pub grown_window : ℕ → ℕ → ℕ → ℕ → ℕ
grown_window window bytes curve estimate =
    max (max window (min curve (sum_to_most window (bytes / 2)))) (quotient_up estimate parts)

-- in congestion avoidance
abbrev pub avoided : ℕ → ℕ → Cubic → Cubic
avoided now bytes cubic =
    let stage = raised (friendly_step bytes cubic) (counted now cubic.stage) in
    record cubic { window = grown_window cubic.window bytes (curve_window stage) stage.estimate; stage = stage }

abbrev pub cubic_grown : ℕ → ℕ → Cubic → Cubic
cubic_grown now bytes cubic =
    if nat_lt cubic.window cubic.ssthresh then slow_started now bytes cubic else avoided now bytes cubic

-- a packet was acknowledged: nothing changes if it was sent before the recovery began, or at that time (RFC 9002,
-- 7.3.2); if application-limited, only time passes, uncounted (RFC 9438, 5.8)
abbrev pub cubic_acked : ℕ → ℕ → ℕ → Bool → Cubic → Cubic
cubic_acked now sent bytes limited cubic =
    if nat_le sent cubic.recovery_start_time then cubic
    else if limited then record cubic { stage = uncounted now cubic.stage } else cubic_grown now bytes cubic

-- ---- congestion

-- beta is 7/10, rounded down, or the minimum window if that is larger (RFC 9438, 4.6)
abbrev pub reduced_window : Cubic → ℕ
reduced_window cubic = max (cubic.window * beta_numerator / beta_denominator) (least_window cubic)

-- W_max: the window before the reduction. If that had not reached the last plateau, (1 + beta)/2 of it, rounded down,
-- so that a new flow finds room sooner (fast convergence: RFC 9438, 4.7)
abbrev pub next_w_max : Cubic → ℕ
next_w_max cubic =
    if nat_lt cubic.window cubic.stage.curve.w_max then cubic.window * convergence_numerator / convergence_denominator
    else cubic.window

-- the stage that begins with a reduction
abbrev pub next_stage : ℕ → Cubic → Stage
next_stage now cubic =
    let reduced = reduced_window cubic in
    stage_from (curve_from (next_w_max cubic) reduced (datagram_of cubic.current_mtu)) reduced now

-- a recovery begins; persistent congestion leaves the minimum window, from which slow start continues (RFC 9002, 7.6.2;
-- RFC 9438, 4.8)
abbrev pub cubic_recovering : ℕ → Bool → Cubic → Cubic
cubic_recovering now persistent cubic = record cubic {
  window = if persistent then least_window cubic else reduced_window cubic;
  ssthresh = reduced_window cubic;
  recovery_start_time = now;
  prior_window = cubic.window;
  stage = if persistent then flat_stage (least_window cubic) (datagram_of cubic.current_mtu) now
      else next_stage now cubic;
}

-- packets were lost, or marked: one reduction in a recovery (RFC 9002, 7.3.2)
abbrev pub cubic_congested : ℕ → ℕ → Bool → Cubic → Cubic
cubic_congested now sent persistent cubic =
    if nat_le sent cubic.recovery_start_time then cubic else cubic_recovering now persistent cubic

-- ---- all calls

-- the curve of a stage has the datagram size with which it began
abbrev pub cubic_with_mtu : ℕ → Cubic → Cubic
cubic_with_mtu mtu cubic = record cubic { current_mtu = mtu; window = max cubic.window (2 * datagram_of mtu) }

abbrev pub cubic_metrics : Cubic → ControllerMetrics
cubic_metrics cubic =
    record { congestion_window = cubic.window; ssthresh = Some cubic.ssthresh; pacing_rate = None }

abbrev pub IsCubicSound : Cubic → Type 0
IsCubicSound cubic = 0 < cubic.window

abbrev pub cubic_after : ControllerCall → Cubic → Cubic
cubic_after (sends now bytes number) cubic = cubic_sent now bytes cubic
cubic_after (acks now sent bytes limited rtt) cubic = cubic_acked now sent bytes limited cubic
cubic_after (ends_acks now in_flight limited largest) cubic = cubic_found now in_flight cubic
cubic_after (congests now sent persistent lost) cubic = cubic_congested now sent persistent cubic
cubic_after (takes_mtu mtu) cubic = cubic_with_mtu mtu cubic

abbrev pub cubic_words : ControllerSemantics Cubic
cubic_words = record {
  after = cubic_after;
  window = λ cubic. cubic.window;
  least = least_window;
  recovery_start = λ cubic. cubic.recovery_start_time;
  metrics = cubic_metrics;
  initial = λ cubic. cubic.initial_window;
}
