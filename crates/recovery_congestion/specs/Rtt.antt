-- The RTT estimate, in nanoseconds (RFC 9002, 5).
use Rattle.std.specs.Prelude.{ℕ, ◌≡◌, ◌+◌, ◌-◌, ◌*◌, ◌/◌, ◌≤◌, min, max, List, [], ◌∷◌, Option, None, Some, nat_le, if◌then◌else◌}
use Rattle.std.specs.Option.{option_map_or, unwrap_or}
use Rattle.std.specs.Int.{abs_diff}
use Rattle.recovery_base.specs.Times.{longest_span}
use Rattle.recovery_base.specs.Units.{timer_granularity}

pub record Rtt : Type 0 where
  -- the last sample; before the first one, the initial RTT
  pub latest : ℕ
  -- none before the first sample
  pub smoothed : Option ℕ
  pub variance : ℕ
  -- the smallest sample; before the first one, the initial RTT
  pub least : ℕ

-- before the first sample (RFC 9002, 5.3 and 6.2.2)
abbrev pub rtt_made : ℕ → Rtt
rtt_made initial = record { latest = initial; smoothed = None; variance = initial / 2; least = initial }

-- a sample minus the delay of its ACK, unless that would be below the smallest RTT
abbrev pub adjusted_rtt : ℕ → ℕ → ℕ → ℕ
adjusted_rtt least delay sample = if nat_le (least + delay) sample then sample - delay else sample

-- after a sample, whose ACK was delayed (RFC 9002, 5.3). The first sample replaces the estimate. A later one, minus
-- that delay, moves the smoothed RTT by an eighth, and the RTT variation by a quarter.
abbrev pub rtt_updated : ℕ → ℕ → Rtt → Rtt
rtt_updated delay sample old =
    let first : Rtt = record { latest = sample; smoothed = Some sample; variance = sample / 2; least = sample } in
    let adjusted = adjusted_rtt (min old.least sample) delay sample in
    option_map_or (λ smoothed. record first {
      smoothed = Some ((7 * smoothed + adjusted) / 8);
      variance = (3 * old.variance + abs_diff smoothed adjusted) / 4;
      least = min old.least sample;
    }) old.smoothed first

-- after samples, each the delay of its ACK and the time measured, the newest first
abbrev pub rtt_by : ℕ → List (ℕ × ℕ) → Rtt
rtt_by initial [] = rtt_made initial
rtt_by initial (sample ∷ earlier) = rtt_updated sample.0 sample.1 (rtt_by initial earlier)

-- the smallest of some samples, the newest first; the initial RTT if there is none
abbrev pub least_of : ℕ → List (ℕ × ℕ) → ℕ
least_of initial [] = initial
least_of initial (sample ∷ []) = sample.1
least_of initial (sample ∷ (before ∷ earlier)) = min (least_of initial (before ∷ earlier)) sample.1

-- the smoothed RTT, or the initial RTT before the first sample
abbrev pub rtt_get : Rtt → ℕ
rtt_get rtt = unwrap_or rtt.smoothed rtt.latest

-- the estimate that is used to declare losses (RFC 9002, 6.1.2)
abbrev pub rtt_conservative : Rtt → ℕ
rtt_conservative rtt = max (rtt_get rtt) rtt.latest

-- the probe timeout without the max_ack_delay (RFC 9002, 6.2.1)
abbrev pub pto_base_of : Rtt → ℕ
pto_base_of rtt = min (rtt_get rtt + max (4 * rtt.variance) timer_granularity) longest_span

-- an invariant of every estimate: it is never below the smallest sample (RFC 9002, 5.3), or the initial RTT before the
-- first one
abbrev pub IsAboveLeast : Rtt → Type 0
IsAboveLeast rtt = rtt.least ≤ rtt_get rtt

-- one more sample after any others leaves the smallest of them all as the minimum RTT (RFC 9002, 5.2)
abbrev pub KeepsLeast : Rtt → ℕ × ℕ → Rtt → Type 0
KeepsLeast old sample new = (initial : ℕ) (earlier : List (ℕ × ℕ)) → old ≡ rtt_by initial earlier
    → new.least ≡ least_of initial (sample ∷ earlier)

-- the larger of a sample and the smoothed RTT, if there is one
abbrev pub greatest_of : Option ℕ → ℕ → ℕ
greatest_of None sample = sample
greatest_of (Some smoothed) sample = max smoothed sample
