-- The bytes that a pacer's tokens pay for, checked or not (RFC 9002, 7.7). What it lets pass follows from them alone.
-- Lists are newest first.
use Rattle.std.specs.Prelude.{◌≡◌, ℕ, ◌-◌, ◌*◌, ◌<◌, ◌≤◌, min, List, [], ◌∷◌, ◌++◌, Option, None, SomeIff}
use Rattle.std.specs.List.{AllByRecursion}
use Rattle.recovery_base.specs.Units.{u32_limit}
use Rattle.recovery_congestion.specs.Pacing.{Bucket, PacerCall, next_moment}
use Rattle.recovery_congestion.specs.PacerLog.{PacerEntry, asked, took, PacerMark, transmitted, bytes_in, refills_in, capacity_in, greatest_moment, balance_in, IsBalance, marks_asking}

-- a call at a window below 2^32 bytes and an RTT above zero; no other is delayed
abbrev pub IsPaced : PacerCall → Type 0
IsPaced call = (call.window < u32_limit) × (0 < call.rtt)

module _ (made : Bucket) where
  -- the balance pays for as many of these bytes as it has: a debt is not stored
  abbrev pub paid_of : ℕ → List PacerMark → ℕ
  paid_of bytes past = min bytes (balance_in made past)

  -- the marks that these entries make, by the bytes paid for in each transmission
  abbrev pub marks_paid : List PacerEntry → List PacerMark
  marks_paid [] = []
  marks_paid (asked call ∷ earlier) = marks_asking made call (marks_paid earlier)
  marks_paid (took bytes checked ∷ earlier) =
      let past = marks_paid earlier in transmitted (paid_of bytes past) ∷ past

  -- ---- the promises, without premise

  -- one more call is delayed exactly if it is paced and the balance, after its own refill, is below the bytes asked. It
  -- is delayed until the tokens that it lacks are added, or those of a full bucket if that is more. The balance is the
  -- minimum, over all cap points, of the capacity there plus the credits and minus the bytes paid for after it
  abbrev pub DelaysUncovered : List PacerEntry → PacerCall → Option ℕ → Type 0
  DelaysUncovered earlier call given =
      let past = marks_asking made call (marks_paid earlier) in
      let balance = balance_in made past in
      let moment = next_moment call (capacity_in made past) balance (greatest_moment made past) in
      IsBalance made past balance × SomeIff given (IsPaced call × (balance < call.bytes)) moment

  -- one more paced call that passes is paid for in full
  abbrev pub PaysInFull : List PacerEntry → PacerCall → Option ℕ → Type 0
  PaysInFull earlier call given =
      given ≡ None → IsPaced call → paid_of call.bytes (marks_asking made call (marks_paid earlier)) ≡ call.bytes

  -- from each point on, take an RTT, a window and a time that bound those of all calls that refilled since. The bytes
  -- paid for beyond the balance there are at most five fourths of the window for each RTT since the latest time there
  -- (none if this time is earlier)
  abbrev pub PaysRate : List PacerEntry → Type 0
  PaysRate entries =
      (later past : List PacerMark) (rtt window moment : ℕ) → later ++ past ≡ marks_paid entries
      → AllByRecursion (λ call. (rtt ≤ call.rtt) × (call.window ≤ window) × (call.now ≤ moment)) (refills_in later)
      → 4 * rtt * (bytes_in later - balance_in made past) ≤ 5 * window * (moment - greatest_moment made past)
