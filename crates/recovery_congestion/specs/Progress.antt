-- How soon a delayed call passes, if nothing is sent in between (RFC 9002, 7.7).
use Rattle.std.specs.Prelude.{◌≡◌, ℕ, ◌+◌, ◌*◌, ◌<◌, ◌≤◌, ⊤, List, ◌∷◌, Option, None, Some}
use Rattle.recovery_base.specs.Times.{longest_span}
use Rattle.recovery_base.specs.Units.{u64_limit}
use Rattle.recovery_congestion.specs.PacerLog.{PacerEntry, asked, bucket_by}
use Rattle.recovery_congestion.specs.Pacing.{Bucket, PacerCall, paced, pacer_delay}

-- a full bucket has the bytes, it is refilled, and the wait fits the longest span
pub record IsInReach (call : PacerCall) (bucket : Bucket) : Type 0 where
  pub fits : call.bytes ≤ bucket.capacity
  pub uncut : call.rtt * bucket.capacity ≤ longest_span
  pub window : 0 < call.window

-- if a call that was delayed until a time is the pacer's last, it passes from four nanoseconds after that time on, with
-- the same bytes, RTT, MTU and window. Divisions that round down make the time that much too early, and each call in
-- between rounds down once more
abbrev pub PassesBehind : Bucket → List PacerEntry → PacerCall → Option ℕ → Type 0
PassesBehind made (asked call ∷ earlier) later given =
    let bucket = paced call (bucket_by made earlier) in
    (until : ℕ) → pacer_delay call bucket ≡ Some until → later ≡ record call { now = later.now } → IsInReach call bucket
    → until + 4 ≤ later.now → later.now < u64_limit → given ≡ None
PassesBehind made entries later given = ⊤
