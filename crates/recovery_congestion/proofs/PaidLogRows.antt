-- Worked rows: an unchecked probe is sent that exceeds the balance, and what is delayed and paid for after it,
-- computed. Nothing rests on them.
use Rattle.std.proofs.Common.{◌≡◌, ℕ, ◌-◌, ◌*◌, ◌^◌, true, false, List, [], ◌∷◌, None, Some, refl, arith}
use Rattle.recovery_congestion.specs.Pacing.{Bucket, PacerCall, bucket_made}
use Rattle.recovery_congestion.specs.PacerLog.{PacerEntry, asked, took, PacerMark, bytes_in, greatest_moment, balance_in, marks_by, KeepsRate}
use Rattle.recovery_congestion.specs.PaidLog.{paid_of, marks_paid, DelaysUncovered, PaysRate}
use Rattle.recovery_congestion.proofs.PaidLogLaws.{delays_uncovered, pays_in_full, pays_rate}

-- at an RTT of 333 ms, a window of 12,000 bytes and an MTU of 1,200
abbrev asks : ℕ → ℕ → PacerCall
asks bytes now = record { bytes = bytes; rtt = 333_000_000; mtu = 1_200; window = 12_000; now = now }

abbrev made : Bucket
made = bucket_made 333_000_000 12_000 1_200 0

-- of 12,000 bytes 10,800 are checked and sent
abbrev sent : List PacerEntry
sent = took 10_800 true ∷ asked (asks 10_800 0) ∷ []

-- a probe of 2,400 is sent unchecked, of which the balance pays for 1,200
abbrev probed : List PacerEntry
probed = took 2_400 false ∷ sent

half_is_paid : paid_of made 2_400 (marks_paid made sent) ≡ 1_200
unfolding balance_in
half_is_paid = refl

nothing_is_left : balance_in made (marks_paid made probed) ≡ 0
unfolding balance_in
nothing_is_left = refl

-- so one more packet is delayed until the tokens of a full bucket are added
waits : DelaysUncovered made probed (asks 1_200 0) (Some 266_400_000)
waits = delays_uncovered made probed (asks 1_200 0) refl

-- it does not pass, as it would if unchecked bytes took no tokens
passing_is_wrong : ¬ DelaysUncovered made probed (asks 1_200 0) None
unfolding balance_in
passing_is_wrong delays = delays.1 ((omega arith, omega arith), omega arith)

-- nor does it wait for 13,200 bytes, as it would if a debt were stored
debt_is_wrong : ¬ DelaysUncovered made probed (asks 1_200 0) (Some 293_040_000)
unfolding balance_in
debt_is_wrong delays = let is = delays.1.1 in omega (arith, is)

-- and it passes, paid for in full, once its own tokens are added
abbrev waited : List PacerEntry
waited = asked (asks 1_200 0) ∷ probed

passes : DelaysUncovered made waited (asks 1_200 26_640_000) None
passes = delays_uncovered made waited (asks 1_200 26_640_000) refl

in_full : paid_of made 1_200 (marks_paid made (asked (asks 1_200 26_640_000) ∷ waited)) ≡ 1_200
in_full = pays_in_full made waited (asks 1_200 26_640_000) refl refl (omega arith, omega arith)

delaying_is_wrong : ¬ DelaysUncovered made waited (asks 1_200 26_640_000) (Some 266_400_000)
unfolding balance_in
delaying_is_wrong delays = let low = delays.1.0.1 in omega (arith, low)

-- a nanosecond earlier it does not
too_early : ¬ DelaysUncovered made waited (asks 1_200 26_639_999) None
unfolding balance_in
too_early delays = delays.1 ((omega arith, omega arith), omega arith)

-- ---- the rate of what is paid for, after the probe: met with equality

abbrev since : List PacerMark
since = marks_paid made (took 1_200 true ∷ asked (asks 1_200 26_640_000) ∷ waited)

rate_met : 4 * 333_000_000 * (bytes_in since - 12_000) ≡ 5 * 12_000 * (greatest_moment made since - 0)
unfolding balance_in
rate_met = refl

-- what is sent unchecked does not observe the rate: 1,200 bytes too many were sent at once
all_is_too_much : ¬ KeepsRate made probed
unfolding balance_in
all_is_too_much keeps =
    let low = keeps (marks_by made probed) [] 333_000_000 12_000 0 refl tt tt in omega (arith, low)

-- but what is paid for does
paid_is_within : PaysRate made probed
paid_is_within = pays_rate made probed refl

-- ---- at a window of 2^32 bytes nothing is delayed

abbrev wide : PacerCall
wide = record (asks 13_000 0) { window = 2 ^ 32 }

wide_passes : DelaysUncovered made probed wide None
wide_passes = delays_uncovered made probed wide refl

wide_waits_is_wrong : ¬ DelaysUncovered made probed wide (Some 266_400_000)
wide_waits_is_wrong delays = let below = delays.1.0.0.0 in omega (arith, below)
