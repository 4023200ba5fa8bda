-- NewReno (RFC 9002, 7 and appendix B), with whole numbers: a fraction as the reduction factor, sums that saturate at
-- 64 bits, and growth in congestion avoidance by counted bytes (RFC 3465, 2.1).
use Rattle.std.specs.Prelude.{ℕ, ◌≡◌, ◌+◌, ◌-◌, ◌*◌, ◌/◌, ◌<◌, ◌≤◌, min, max, Bool, false, Some, None, ◌||◌, nat_le, nat_lt, if◌then◌else◌}
use Rattle.recovery_base.specs.Units.{largest_u64}
use Rattle.recovery_congestion.specs.declared.congestion.ControllerMetrics.{ControllerMetrics}
use Rattle.recovery_congestion.specs.declared.congestion.new_reno.NewReno.{NewReno}
use Rattle.recovery_congestion.specs.RenoSettings.{RenoSettings}
use Rattle.recovery_congestion.specs.Calls.{ControllerCall, acks, congests, takes_mtu}
use Rattle.recovery_congestion.specs.Controllers.{ControllerSemantics}

-- a sum that saturates at the largest 64-bit number
abbrev pub sum_to_most : ℕ → ℕ → ℕ
sum_to_most a b = min (a + b) largest_u64

-- at first in slow start (RFC 9002, 7.3.1)
abbrev pub reno_made : RenoSettings → ℕ → ℕ → NewReno
reno_made config now mtu = record {
  config = config;
  current_mtu = mtu;
  window = config.initial_window;
  ssthresh = largest_u64;
  recovery_start_time = now;
  bytes_acked = 0;
}

-- two datagrams (RFC 9002, 7.2)
abbrev pub minimum_window : NewReno → ℕ
minimum_window reno = 2 * reno.current_mtu

-- a reduction factor above 1 reduces no window, so that each window is the minimum
abbrev pub least_window : NewReno → ℕ
least_window reno = if nat_le reno.config.numerator reno.config.denominator then minimum_window reno else reno.window

-- an acknowledgement is ignored if the sender was application-limited (RFC 9002, 7.8), or if the packet was sent before
-- the recovery began, or at that time (RFC 9002, 7.3.2)
abbrev pub is_ignored : ℕ → Bool → NewReno → Bool
is_ignored sent limited reno = limited || nat_le sent reno.recovery_start_time

-- in slow start the window grows by the bytes acknowledged; those beyond the threshold are counted (RFC 9002, 7.3.1)
abbrev pub slow_started : ℕ → NewReno → NewReno
slow_started bytes reno =
    let window = sum_to_most reno.window bytes in
    record reno {
      window = window;
      bytes_acked = if nat_le reno.ssthresh window then window - reno.ssthresh
          else reno.bytes_acked;
    }

-- in congestion avoidance each acknowledged window of bytes increases it by one MTU (RFC 9002, 7.3.3)
abbrev pub avoided : ℕ → NewReno → NewReno
avoided counted reno =
    if nat_le reno.window counted
    then record reno { window = sum_to_most reno.window reno.current_mtu; bytes_acked = counted - reno.window }
    else record reno { bytes_acked = counted }

abbrev pub reno_grown : ℕ → NewReno → NewReno
reno_grown bytes reno =
    if nat_lt reno.window reno.ssthresh then slow_started bytes reno else avoided (sum_to_most reno.bytes_acked bytes)
    reno

-- a packet was acknowledged
abbrev pub reno_acked : ℕ → ℕ → Bool → NewReno → NewReno
reno_acked sent bytes limited reno = if is_ignored sent limited reno then reno else reno_grown bytes reno

-- the window after a loss (RFC 9002, 7.3.2)
abbrev pub reduced_window : NewReno → ℕ
reduced_window reno = max (min (reno.window * reno.config.numerator / reno.config.denominator) largest_u64)
    (minimum_window reno)

-- a recovery begins; persistent congestion leaves the minimum window (RFC 9002, 7.3.2 and 7.6.2)
abbrev pub reno_recovering : ℕ → Bool → NewReno → NewReno
reno_recovering now persistent reno = record reno {
  recovery_start_time = now;
  ssthresh = reduced_window reno;
  window = if persistent then minimum_window reno else reduced_window reno;
}

-- packets were lost, or marked: one reduction in a recovery
abbrev pub reno_congested : ℕ → ℕ → Bool → NewReno → NewReno
reno_congested now sent persistent reno =
    if nat_le sent reno.recovery_start_time then reno else reno_recovering now persistent reno

abbrev pub reno_with_mtu : ℕ → NewReno → NewReno
reno_with_mtu mtu reno = record reno { current_mtu = mtu; window = max reno.window (2 * mtu) }

abbrev pub reno_metrics : NewReno → ControllerMetrics
reno_metrics reno = record { congestion_window = reno.window; ssthresh = Some reno.ssthresh; pacing_rate = None }

abbrev pub IsRenoSound : NewReno → Type 0
IsRenoSound reno = (0 < reno.window) × (0 < reno.current_mtu)

abbrev pub reno_after : ControllerCall → NewReno → NewReno
reno_after (acks now sent bytes limited rtt) reno = reno_acked sent bytes limited reno
reno_after (congests now sent persistent lost) reno = reno_congested now sent persistent reno
reno_after (takes_mtu mtu) reno = reno_with_mtu mtu reno
reno_after call reno = reno

abbrev pub reno_words : ControllerSemantics NewReno
reno_words = record {
  after = reno_after;
  window = λ reno. reno.window;
  least = least_window;
  recovery_start = λ reno. reno.recovery_start_time;
  metrics = reno_metrics;
  initial = λ reno. reno.config.initial_window;
}

-- a packet's acknowledgement counts in congestion avoidance, and no sum saturates
pub record AvoidsBelowMost (sent bytes : ℕ) (limited : Bool) (reno : NewReno) : Type 0 where
  pub counts : is_ignored sent limited reno ≡ false
  pub above : reno.ssthresh ≤ reno.window
  pub counted : reno.bytes_acked + bytes ≤ largest_u64
  pub grown : reno.window ≤ reno.bytes_acked + bytes → reno.window + reno.current_mtu ≤ largest_u64

-- every byte counts once: to grow from a window of one MTU m to w, by m for each window of bytes, takes w·(w - m) /
-- (2·m) bytes. These and the bytes counted since then increase by exactly the bytes acknowledged. Here all is
-- multiplied by 2·m, with m·w of the other window on each side, so that nothing is divided or below zero
abbrev pub CountsBytes : ℕ → NewReno → NewReno → Type 0
CountsBytes bytes old new =
    let mtu = old.current_mtu in
    new.window * new.window + 2 * mtu * new.bytes_acked + mtu * old.window
    ≡ old.window * old.window + 2 * mtu * old.bytes_acked + mtu * new.window + 2 * mtu * bytes
