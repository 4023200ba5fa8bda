-- Worked rows: the results of the definitions on one bucket, computed. Nothing rests on them.
use Rattle.std.proofs.Common.{◌≡◌, ℕ, ◌^◌, None, Some, refl}
use Rattle.recovery_congestion.specs.Pacing.{Bucket, PacerCall, capacity_of, wait_of, bucket_made, paced, pacer_delay, less_tokens}

-- at an RTT of 50 ms, a window of 2,000,000 bytes and an MTU of 1,000
abbrev asks : ℕ → ℕ → PacerCall
asks bytes now = record { bytes = bytes; rtt = 50_000_000; mtu = 1_000; window = 2_000_000; now = now }

-- eighty packets were sent at once
abbrev emptied : Bucket
emptied = less_tokens 80_000 (bucket_made 50_000_000 2_000_000 1_000 0)

first_delay : pacer_delay (asks 1_000 0) (paced (asks 1_000 0) emptied) ≡ Some 1_600_000
first_delay = refl

-- half of that time later
abbrev half_full : Bucket
half_full = paced (asks 1_000 800_000) emptied

half_the_tokens : half_full.tokens ≡ 40_000
half_the_tokens = refl

no_delay : pacer_delay (asks 1_000 800_000) half_full ≡ None
no_delay = refl

-- those are sent, and then the clock steps back: nothing is credited twice
stepped_back : pacer_delay (asks 1_000 0) (paced (asks 1_000 0) (less_tokens 40_000 half_full)) ≡ Some 2_400_000
stepped_back = refl

widest_window : capacity_of 1 (2 ^ 63) 1_000 ≡ 256_000
widest_window = refl

-- at an RTT of 1 s
past_32_bits : wait_of (10 ^ 9) 12_000 (2 ^ 32) ≡ 286_331_153_066_664
past_32_bits = refl
