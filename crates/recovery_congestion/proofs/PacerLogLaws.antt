-- The state of a pacer is what its history says, if all that was transmitted was checked. The clauses of `run` on
-- pacers rest on it.
use Rattle.std.proofs.lemmas.Bool.Decides.{nat_tests}
use Rattle.std.proofs.Common.{◌≡◌, ℕ, ◌-◌, ◌≤◌, min, true, false, List, [], ◌∷◌, None, arith}
use Rattle.std.specs.Prelude.{◌&&◌, ◌==◌, if◌then◌else◌}
use Rattle.recovery_congestion.specs.Pacing.{Bucket, PacerCall, credit_of, resized, refilled, is_unpaced, paced, pacer_delay, less_tokens}
use Rattle.recovery_congestion.specs.PacerLog.{PacerEntry, asked, took, bucket_by, AreChecked, PacerMark, credited, transmitted, changed, capacity_in, greatest_moment, balance_in, is_as_before, marks_by, marks_asking, DelaysBy, KeepsRate}
use Rattle.recovery_congestion.specs.PaidLog.{IsPaced}
use Rattle.recovery_congestion.proofs.PacerBalanceLaws.{NoDebt, AreEarned, credits_more, bytes_more, balance_is, rate_bound}

-- ---- what was transmitted checked

-- the last entry is a call for this many bytes, which was not delayed
abbrev pub HasPassed : Bucket → ℕ → List PacerEntry → Type 0
HasPassed made bytes [] = ⊥
HasPassed made bytes (asked call ∷ earlier) =
    (call.bytes ≡ bytes) × (pacer_delay call (paced call (bucket_by made earlier)) ≡ None)
HasPassed made bytes (took other checked ∷ earlier) = ⊥

-- all that was transmitted checked had passed right before
abbrev pub HavePassed : Bucket → List PacerEntry → Type 0
HavePassed made [] = Unit {0}
HavePassed made (asked call ∷ earlier) = HavePassed made earlier
HavePassed made (took bytes checked ∷ earlier) = (checked ≡ true → HasPassed made bytes earlier)
    × HavePassed made earlier

-- ---- the invariants

module _ (made : Bucket) where
  -- the bucket has the window and the MTU of the last change, or of the making
  abbrev HasLast : List PacerMark → Bucket → Type 0
  HasLast past bucket = (call : PacerCall)
      → is_as_before made call past ≡ ((call.window == bucket.window) && (call.mtu == bucket.mtu))

  -- the bucket has what the history says: its tokens are the balance, its last time the latest one
  pub record Tied (past : List PacerMark) (bucket : Bucket) : Type 0 where
    pub capacity : bucket.capacity ≡ capacity_in made past
    pub last_change : HasLast past bucket
    pub tokens : bucket.tokens ≡ balance_in made past
    pub last : bucket.last ≡ greatest_moment made past
    pub no_debt : NoDebt made 0 0 past
    pub earned : AreEarned made past

  -- at first it is full
  pub tied_made : made.tokens ≡ made.capacity → Tied [] made
  unfolding balance_in
  tied_made full = grind arith

  -- a call changes the capacity
  tied_change : (call : PacerCall) (past : List PacerMark) (bucket : Bucket) → Tied past bucket
      → Tied (if is_as_before made call past then past else changed call ∷ past)
      (resized call.rtt call.window call.mtu bucket)
  unfolding balance_in
  tied_change call _ _ t = grind arith

  -- it refills
  tied_credit : (call : PacerCall) (past : List PacerMark) (bucket : Bucket) → Tied past bucket
      → Tied (credited call (credit_of call.rtt call.window (call.now - greatest_moment made past)) ∷ past)
      (refilled call.rtt call.window call.now bucket)
  unfolding balance_in
  tied_credit call past _ t =
      let credit = credit_of call.rtt call.window (call.now - greatest_moment made past) in
      grind (arith, credits_more made 0 0 credit past)

  -- bytes are transmitted, and paid for as far as there are tokens
  pub tied_took : (bytes paid : ℕ) (past : List PacerMark) (bucket : Bucket) → paid ≡ min bytes bucket.tokens
      → Tied past bucket → Tied (transmitted paid ∷ past) (less_tokens bytes bucket)
  unfolding balance_in
  tied_took _ paid past _ is t =
      grind (arith, bytes_more made 0 0 paid past)

-- a call within the bounds is paced
is_bounded : (call : PacerCall) → IsPaced call → is_unpaced call ≡ false
is_bounded _ bounds = grind arith

-- what passes is covered, if the call is paced
pub passed_is_covered : (call : PacerCall) (bucket : Bucket) → IsPaced call → pacer_delay call bucket ≡ None
    → call.bytes ≤ bucket.tokens
passed_is_covered _ _ bounds passes = grind arith

module _ (made : Bucket) where
  -- the law of a call, before its answer
  pub tied_asking : (call : PacerCall) (past : List PacerMark) (bucket : Bucket) → Tied made past bucket
      → Tied made (marks_asking made call past) (paced call bucket)
  tied_asking call past bucket t =
      let changed = tied_change _ call past bucket t in
      grind (arith, tied_credit made call _ _ changed)

  -- the state of the pacer is what the history says
  pub tied_by : (entries : List PacerEntry) → made.tokens ≡ made.capacity → AreChecked entries → HavePassed made entries
      → Tied made (marks_by made entries) (bucket_by made entries)
  tied_by [] full _ _ = tied_made made full
  tied_by (asked call ∷ earlier) full checked passed =
      tied_asking call _ _ (tied_by earlier full checked.1 passed)
  tied_by (took bytes _ ∷ asked call ∷ earlier) full checked passed =
      let bucket = paced call (bucket_by made earlier) in
      let pass = passed.0 checked.0 in
      let low : bytes ≤ bucket.tokens = omega (arith, pass.0, passed_is_covered call bucket checked.1.0 pass.1) in
      tied_took made bytes bytes (marks_by made (asked call ∷ earlier)) bucket (omega (arith, low))
      (tied_by (asked call ∷ earlier) full checked.1 passed.1)
  tied_by (took _ _ ∷ _) _ checked passed = absurd (passed.0 checked.0)

  -- a call is delayed exactly by the balance
  pub delays_by : (earlier : List PacerEntry) (call : PacerCall) → made.tokens ≡ made.capacity
      → AreChecked (asked call ∷ earlier) → HavePassed made earlier
      → DelaysBy made earlier call (pacer_delay call (paced call (bucket_by made earlier)))
  delays_by earlier call full checked passed =
      let tied = tied_asking call _ _ (tied_by earlier full checked.1 passed) in (
        balance_is made _ tied.no_debt,
        grind (arith, nat_tests, is_bounded call checked.0, tied.tokens, tied.last, tied.capacity),
      )

  -- the pacing bound
  pub keeps_rate : (entries : List PacerEntry) → made.tokens ≡ made.capacity → AreChecked entries
      → HavePassed made entries → KeepsRate made entries
  keeps_rate entries full checked passed later past rtt window moment is =
      let t = tied_by entries full checked passed in
      rate_bound made (marks_by made entries) later past rtt window moment t.no_debt t.earned is
