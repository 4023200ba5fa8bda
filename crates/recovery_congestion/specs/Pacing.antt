-- A token bucket that paces packets (RFC 9002, 7.7): it is refilled at five fourths of a window in each RTT, and what
-- is sent is subtracted. Times and spans are in nanoseconds.
use Rattle.std.specs.Prelude.{◌≡◌, ◌↔◌, ℕ, ◌+◌, ◌-◌, ◌*◌, ◌/◌, ◌<◌, ◌≤◌, min, max, Bool, ◌&&◌, ◌||◌, ◌==◌, nat_le, if◌then◌else◌, Option, None, Some}
use Rattle.recovery_base.specs.Times.{longest_span}
use Rattle.recovery_base.specs.Units.{largest_u64, last_time, milliseconds, u32_limit}

pub record Bucket : Type 0 where
  -- its capacity in bytes, and the window and MTU for which it was computed
  pub capacity : ℕ
  pub window : ℕ
  pub mtu : ℕ
  -- the bytes that may be sent now
  pub tokens : ℕ
  -- the latest time at which it was refilled, or made
  pub last : ℕ

-- May these bytes be sent now? Asked with the RTT, MTU and window of that time.
pub record PacerCall : Type 0 where
  pub bytes : ℕ
  pub rtt : ℕ
  pub mtu : ℕ
  pub window : ℕ
  pub now : ℕ

-- ---- the size of bursts (RFC 9002, 7.7)

-- a full bucket has what a window gives in this span, in nanoseconds
abbrev pub burst_interval : ℕ
burst_interval = 2 * milliseconds

-- the minimum size of a full bucket, in packets
abbrev pub min_burst : ℕ
min_burst = 10

-- the maximum size of a full bucket, in packets
abbrev pub max_burst : ℕ
max_burst = 256

-- ---- amounts

-- what a window gives in two milliseconds, between 10 and 256 packets (bursts are limited, as 7.7 asks)
abbrev pub capacity_of : ℕ → ℕ → ℕ → ℕ
capacity_of rtt window mtu =
    max (min_burst * mtu) (min (max_burst * mtu) (window * burst_interval / max rtt 1))

-- the bytes that are added in a span of time: the window for each RTT, times N = 5/4 (7.7), rounded down
abbrev pub credit_of : ℕ → ℕ → ℕ → ℕ
credit_of rtt window elapsed = 5 * window * elapsed / (4 * rtt)

-- the time until these bytes are added; the product saturates at the longest span
abbrev pub wait_of : ℕ → ℕ → ℕ → ℕ
wait_of rtt window short = 4 * (min (rtt * short) longest_span / window / 5)

-- ---- what happens to a bucket

-- a full one
abbrev pub bucket_made : ℕ → ℕ → ℕ → ℕ → Bucket
bucket_made rtt window mtu now =
    let capacity = capacity_of rtt window mtu in
    record { capacity = capacity; window = window; mtu = mtu; tokens = capacity; last = now }

-- if window or MTU differ from those of the call before, the capacity is computed again; tokens beyond it are dropped
abbrev pub resized : ℕ → ℕ → ℕ → Bucket → Bucket
resized rtt window mtu old =
    let capacity = capacity_of rtt window mtu in
    if (window == old.window) && (mtu == old.mtu) then old
    else record old { capacity = capacity; window = window; mtu = mtu; tokens = min capacity old.tokens }

-- the bytes since the last time are added, up to the capacity, and the later time is stored: no time counts twice
abbrev pub refilled : ℕ → ℕ → ℕ → Bucket → Bucket
refilled rtt window now old =
    let credit = credit_of rtt window (now - old.last) in
    record old { tokens = min (old.tokens + credit) old.capacity; last = max old.last now }

-- nothing is delayed at a window of 2^32 bytes or more, or an RTT of zero
abbrev pub is_unpaced : PacerCall → Bool
is_unpaced call = nat_le u32_limit call.window || (call.rtt == 0)

-- the bytes may be sent now
abbrev pub may_send : PacerCall → Bucket → Bool
may_send call bucket = nat_le call.bytes bucket.tokens || is_unpaced call

-- the bucket after a call: it is refilled only if the bytes may not be sent yet
abbrev pub paced : PacerCall → Bucket → Bucket
paced call old =
    let bucket = resized call.rtt call.window call.mtu old in
    if may_send call bucket then bucket else refilled call.rtt call.window call.now bucket

-- when the missing bytes are added, or a full bucket if that is more; it saturates at the last time
abbrev pub next_moment : PacerCall → ℕ → ℕ → ℕ → ℕ
next_moment call capacity tokens last =
    min (last + wait_of call.rtt call.window (max call.bytes capacity - tokens)) last_time

-- the answer to a call, by the bucket after it: none if the bytes may be sent, and else when to ask again
abbrev pub pacer_delay : PacerCall → Bucket → Option ℕ
pacer_delay call bucket =
    if may_send call bucket then None else Some (next_moment call bucket.capacity bucket.tokens bucket.last)

-- what may be sent now, in bytes: exactly that many and fewer are not delayed
abbrev pub IsPacerRoom : (rtt mtu window now : ℕ) → Bucket → ℕ → Type 0
IsPacerRoom rtt mtu window now bucket room = (bytes : ℕ) → bytes ≤ largest_u64
    → let call : PacerCall = record { bytes = bytes; rtt = rtt; mtu = mtu; window = window; now = now } in
    (bytes ≤ room) ↔ (pacer_delay call (paced call bucket) ≡ None)

-- a packet of this size was sent; a debt is not stored
abbrev pub less_tokens : ℕ → Bucket → Bucket
less_tokens bytes old = record old { tokens = old.tokens - bytes }

-- ---- invariants of every bucket

-- the tokens are at most the capacity, which is 10 to 256 packets of the MTU of the last call: bursts are limited, as
-- 7.7 asks
pub record IsBucketSound (bucket : Bucket) : Type 0 where
  pub tokens : bucket.tokens ≤ bucket.capacity
  pub least : min_burst * bucket.mtu ≤ bucket.capacity
  pub most : bucket.capacity ≤ max_burst * bucket.mtu
  pub window : 0 < bucket.window
  pub mtu : 0 < bucket.mtu
