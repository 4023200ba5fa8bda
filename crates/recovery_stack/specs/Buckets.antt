-- The calls of a pacer without a recovery (RFC 9002, 7.7).
use Rattle.std.specs.Prelude.{◌≡◌, ◌⊎◌, ℕ, ◌<◌, ◌==◌, ◌||◌, if◌then◌else◌, Option, Some, None}
use Rattle.recovery_congestion.specs.Pacing as Pacing
use Rattle.recovery_congestion.specs.Pacing.{PacerCall, IsBucketSound, bucket_made, paced, pacer_delay, less_tokens}
use Rattle.recovery_engine.specs.declared.numbers.TheConstants.{ANSWER_DELAYED, ANSWER_READY, ANSWER_TRANSMITTED}
use Rattle.recovery_stack.specs.declared.pacer.Bucket.{Bucket}
use Rattle.recovery_engine.specs.declared.spelling.EncodedReply.{EncodedReply}
use Rattle.recovery_engine.specs.Replies.{plain, bad_argument}

-- a bucket from its numbers, and its numbers
abbrev pub bucket_in : Bucket → Pacing.Bucket
bucket_in given = record {
  capacity = given.capacity;
  window = given.window;
  mtu = given.mtu;
  tokens = given.tokens;
  last = given.last;
}

abbrev pub bucket_shown : Pacing.Bucket → Bucket
bucket_shown bucket = record {
  capacity = bucket.capacity;
  window = bucket.window;
  tokens = bucket.tokens;
  last = bucket.last;
  mtu = bucket.mtu;
}

abbrev pub no_bucket : Bucket
no_bucket = record { capacity = 0; window = 0; tokens = 0; last = 0; mtu = 0 }

-- a full bucket; none if the window or the MTU is zero
abbrev pub bucket_first : ℕ → ℕ → ℕ → ℕ → Bucket
bucket_first rtt window mtu now =
    if (window == 0) || (mtu == 0) then no_bucket else bucket_shown (bucket_made rtt window mtu now)

-- a call without a bucket fails, and nothing changes
abbrev pub IsNoBucket : Type 0 → Bucket → EncodedReply → Bucket → Type 0
IsNoBucket Sound old reply new = (¬ Sound) × (reply ≡ bad_argument) × (new ≡ old)

abbrev pub PacerTransmits : ℕ → Bucket → EncodedReply → Bucket → Type 0
PacerTransmits bytes old reply new =
    (IsBucketSound (bucket_in old) × (reply ≡ plain ANSWER_TRANSMITTED)
    × (new ≡ bucket_shown (less_tokens bytes (bucket_in old))))
    ⊎ IsNoBucket (IsBucketSound (bucket_in old)) old reply new

-- a window and an MTU above zero, and a bucket
abbrev pub IsPaceable : PacerCall → Bucket → Type 0
IsPaceable call old = (0 < call.window) × (0 < call.mtu) × IsBucketSound (bucket_in old)

abbrev pub delay_spelled : Option ℕ → EncodedReply
delay_spelled (Some until) = record (plain ANSWER_DELAYED) { first = until }
delay_spelled None = plain ANSWER_READY

abbrev pub Delays : PacerCall → Bucket → EncodedReply → Bucket → Type 0
Delays call old reply new =
    let left = paced call (bucket_in old) in
    (IsPaceable call old × (reply ≡ delay_spelled (pacer_delay call left)) × (new ≡ bucket_shown left))
    ⊎ IsNoBucket (IsPaceable call old) old reply new
