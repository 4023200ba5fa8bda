-- A delayed call passes at the time that the answer reported (RFC 9002, 7.7). A timer that is set for it need not be
-- set again, even if others ask in between.
use Rattle.std.specs.Prelude.{◌≡◌, ℕ, ◌+◌, ◌*◌, ◌<◌, ◌≤◌, List, ◌∷◌, ◌++◌, map, length, Option, None, Some}
use Rattle.std.specs.List.{AllByRecursion}
use Rattle.recovery_base.specs.Times.{longest_span}
use Rattle.recovery_base.specs.Units.{last_time}
use Rattle.recovery_congestion.specs.PacerLog.{PacerEntry, asked, bucket_by}
use Rattle.recovery_congestion.specs.Pacing.{Bucket, PacerCall, paced, pacer_delay}

-- the bucket is refilled, and the wait fits the longest span. There is room for the bytes, one byte for each call, as
-- each rounds down, and the tokens of four nanoseconds, as the time is rounded too. Those are five windows for each
-- RTT: bytes + questions + 5 window / rtt ≤ capacity
abbrev pub HasRoom : PacerCall → ℕ → Bucket → Type 0
HasRoom call questions bucket = (0 < call.window) × (call.rtt * bucket.capacity ≤ longest_span)
    × (call.rtt * (call.bytes + questions) + 5 * call.window ≤ call.rtt * bucket.capacity)

-- if a call was delayed until a time, and since then the pacer was only asked, with the same RTT, MTU and window, the
-- same bytes pass from that time on
abbrev pub PassesAtMoment : Bucket → List PacerEntry → PacerCall → Option ℕ → Type 0
PassesAtMoment made entries later given =
    (between : List PacerCall) (call : PacerCall) (earlier : List PacerEntry) (until : ℕ)
    → entries ≡ map asked between ++ asked call ∷ earlier
    → AllByRecursion (λ other. other ≡ record call { bytes = other.bytes; now = other.now }) between
    → let bucket = paced call (bucket_by made earlier) in
    pacer_delay call bucket ≡ Some until → later ≡ record call { now = later.now }
    → HasRoom call (length between) bucket → until < last_time → until ≤ later.now → given ≡ None
