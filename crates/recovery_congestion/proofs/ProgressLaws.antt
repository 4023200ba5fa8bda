-- A delayed call passes in time, and a bucket that is only asked is refilled as reported. The clause
-- `passes_after_delay` of `run` and `ReportedTimeLaws` rest on it.
use Rattle.std.proofs.lemmas.Bool.Decides.{nat_tests}
use Rattle.std.proofs.Common.{◌≡◌, ℕ, suc, ◌+◌, ◌-◌, ◌*◌, ◌/◌, ◌^◌, ◌<◌, ◌≤◌, min, max, List, ◌∷◌, None, Some, ap, refl, arith, inl, inr}
use Rattle.std.proofs.Math.Nat.{mul-le-mul_left, mul-le-mul_right}
use Rattle.std.proofs.lemmas.Bool.{cases_lt}
use Rattle.recovery_base.specs.Times.{longest_span}
use Rattle.recovery_congestion.specs.PacerLog.{PacerEntry, asked, bucket_by}
use Rattle.recovery_congestion.specs.Pacing.{Bucket, PacerCall, credit_of, wait_of, resized, refilled, paced, next_moment, pacer_delay}
use Rattle.recovery_congestion.specs.Progress.{IsInReach, PassesBehind}

-- the bucket has the call's window and MTU
abbrev pub Knows : PacerCall → Bucket → Type 0
Knows call bucket = (bucket.window ≡ call.window) × (bucket.mtu ≡ call.mtu)

-- so it has after a call
pub paced-knows : (call : PacerCall) (old : Bucket) → Knows call (paced call old)
paced-knows call old =
    let sized : Knows call (resized call.rtt call.window call.mtu old) = grind arith in
    grind arith

-- a wait is rounded down by less than four nanoseconds
wait_comes : (rtt window short : ℕ) → 0 < window → rtt * short ≤ longest_span
    → 4 * (rtt * short) + 4 ≤ 5 * window * wait_of rtt window short + 20 * window
wait_comes rtt window short some uncut =
    let q = rtt * short / window in
    let least : min (rtt * short) longest_span ≡ rtt * short = omega arith in
    let fifth : q + 1 ≤ 5 * (q / 5 + 1) = omega arith in
    rw least (omega (arith, mul-le-mul_right window fifth))

-- if tokens are missing in spite of the time that passed, there was no room
no_room : (r w bytes questions capacity before lacking first last wait slack tokens : ℕ)
    → 4 * r * before + 5 * w * last ≤ 4 * r * (tokens + suc questions) + 5 * w * first
    → 4 * (r * lacking) + 4 ≤ 5 * w * wait + 20 * w → 5 * w * (first + wait + slack) ≤ 5 * w * last
    → 4 * r * (tokens + 1) ≤ 4 * r * bytes → r * (before + lacking) ≡ r * capacity
    → 4 * (r * (bytes + questions)) + 20 * w ≤ 4 * (r * capacity) + 5 * w * slack → ⊥
no_room r w _ _ _ _ _ _ _ _ _ _ filled waits passed wants all room =
    omega arith

module _ (call : PacerCall) (first : Bucket) where
  -- this many calls after a delayed one: if the bucket is not full, at most a byte each was lost
  abbrev pub Fills : ℕ → Bucket → Type 0
  Fills questions bucket = (bucket.capacity ≡ first.capacity) × Knows call bucket
      × (bucket.tokens < first.capacity → 4 * call.rtt * first.tokens + 5 * call.window * bucket.last
      ≤ 4 * call.rtt * (bucket.tokens + questions) + 5 * call.window * first.last)

  -- one more call refills
  pub fills_refilled : (now questions : ℕ) (bucket : Bucket) → 0 < call.rtt → Fills questions bucket
      → Fills (suc questions) (refilled call.rtt call.window now bucket)
  fills_refilled now _ bucket some fills =
      let elapsed = now - bucket.last in
      let credit = credit_of call.rtt call.window elapsed in
      let later : max bucket.last now ≡ bucket.last + elapsed = omega arith in (
        fills.0,
        fills.1,
        λ below.
            let least : min (bucket.tokens + credit) bucket.capacity ≡ bucket.tokens + credit =
            omega arith in
            let before = fills.2 (omega arith) in
            rw (least, later) (omega arith),
      )

  -- the bucket has enough tokens by the reported time
  covers : (questions slack now : ℕ) (bucket : Bucket) → 0 < call.rtt → Fills questions bucket → IsInReach call first
      → first.tokens ≤ first.capacity
      → first.last + wait_of call.rtt call.window (first.capacity - first.tokens) + slack ≤ now
      → 4 * (call.rtt * (call.bytes + questions)) + 20 * call.window
      ≤ 4 * (call.rtt * first.capacity) + 5 * call.window * slack
      → call.bytes ≤ (refilled call.rtt call.window now bucket).tokens
  covers questions slack now bucket some fills reach sound late room =
      let after = refilled call.rtt call.window now bucket in
      let lacking = first.capacity - first.tokens in
      let all : first.tokens + lacking ≡ first.capacity = omega arith in
      let less : lacking ≤ first.capacity = omega arith in
      let passed : first.last + wait_of call.rtt call.window lacking + slack ≤ after.last = omega arith in
      elim (cases_lt after.tokens call.bytes) [
        | inl below ↦ absurd (no_room _ _ _ _ _ _ lacking
            first.last after.last (wait_of call.rtt call.window lacking) slack after.tokens
            ((fills_refilled now _ _ some fills).2 (omega arith))
            (wait_comes _ _ _ reach.window
            (omega (arith, mul-le-mul_left call.rtt less)))
            (mul-le-mul_left (5 * call.window) passed) (omega (arith, mul-le-mul_left (4 * call.rtt) below))
            (ap (λ (n : ℕ). call.rtt * n) all) room)
        | inr enough ↦ enough
      ]

-- a call that was delayed until a time passes as much later as the roundings take: a delayed call is paced, the tokens
-- do not cover it, and a refilled bucket has at most its capacity
pub passes : (call later : PacerCall) (old bucket : Bucket) (until questions slack : ℕ) → (let first = paced call old in
    pacer_delay call first ≡ Some until → later ≡ record call { now = later.now } → IsInReach call first
    → until < 2 ^ 64 - 1 → until + slack ≤ later.now
    → 4 * (call.rtt * (call.bytes + questions)) + 20 * call.window
    ≤ 4 * (call.rtt * first.capacity) + 5 * call.window * slack
    → (0 < call.rtt → Fills call first questions bucket) → pacer_delay later (paced later bucket) ≡ None)
passes call later old bucket until questions slack delays again reach before_end late room fills =
    grind (arith, enough)
  where
    first : Bucket
    first = paced call old

    short : (until ≡ next_moment call first.capacity first.tokens first.last)
        × (first.tokens < call.bytes) × (0 < call.rtt) × (first.tokens ≤ first.capacity)
    short = grind (arith, nat_tests, delays)

    most : max call.bytes first.capacity - first.tokens ≡ first.capacity - first.tokens
    most = omega (arith, reach.fits)

    enough : call.bytes ≤ (refilled call.rtt call.window later.now bucket).tokens
    enough = covers call first questions slack later.now bucket short.2 (fills short.2) reach short.3
        (omega (arith, rw most at short.0, before_end, late)) room

pub passes_behind : (made : Bucket) (entries : List PacerEntry) (later : PacerCall)
    → PassesBehind made entries later (pacer_delay later (paced later (bucket_by made entries)))
passes_behind made (asked call ∷ earlier) later = λ until delays again reach late before_end.
    passes call later (bucket_by made earlier) _ until 0 4 delays again reach (omega (arith, before_end)) late
    (omega (arith, mul-le-mul_left call.rtt reach.fits)) (λ some. (refl, paced-knows call _, λ below. omega arith))
passes_behind _ _ _ = tt
