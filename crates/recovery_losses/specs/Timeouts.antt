-- How long to wait before a packet is lost and before a probe is sent (RFC 9002, 6.1.2 and 6.2.1).
use Rattle.std.specs.Prelude.{ℕ, ◌+◌, ◌-◌, ◌*◌, ◌/◌, ◌^◌, ◌==◌, min, max, Bool, true, false, Option, None, Some, if◌then◌else◌}
use Rattle.recovery_base.specs.Times.{longest_span}
use Rattle.recovery_base.specs.Units.{timer_granularity}

abbrev pub up_to_longest : ℕ → ℕ
up_to_longest nanos = min nanos longest_span

-- products of durations are capped at this value
abbrev pub largest_product : ℕ
largest_product = 2 ^ 128 - 1

-- a duration times a fraction, rounded down; a fraction with denominator 0 counts as 1
abbrev pub scaled_by : ℕ × ℕ → ℕ → ℕ
scaled_by fraction span =
    if fraction.1 == 0 then span else min (span * fraction.0) largest_product / fraction.1

-- The larger RTT times the time threshold, a fraction (kTimeThreshold, 6.1.2). The result is not below that RTT, since
-- a packet is not lost before its ACK can arrive, nor below a millisecond (kGranularity).
abbrev pub loss_delay_of : ℕ × ℕ → ℕ → ℕ → ℕ
loss_delay_of threshold smoothed latest = let rtt = max smoothed latest in
    up_to_longest (max (max rtt (scaled_by threshold rtt)) timer_granularity)

-- twice as long for each consecutive probe timeout
abbrev pub probe_timeout_of : ℕ → ℕ → ℕ → ℕ
probe_timeout_of base max_ack_delay count = up_to_longest ((base + max_ack_delay) * 2 ^ count)

-- From when a probe timeout of a space is measured, if it has one: when the last ack-eliciting packet was sent, if such
-- a packet is tracked (RFC 9002, 6.2.1). Otherwise, if a packet waits for room in the window, the later of both times.
abbrev pub probe_start_of : (is_tracked : Bool) (waiting sent : Option ℕ) → Option ℕ
probe_start_of true waiting sent = sent
probe_start_of false None sent = None
probe_start_of false (Some since) None = Some since
probe_start_of false (Some since) (Some sent) = Some (max since sent)
