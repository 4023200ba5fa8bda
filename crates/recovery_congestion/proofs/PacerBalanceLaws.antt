-- Laws of the balance and of the rate, on histories alone. `PacerLogLaws` and `PaidLogLaws` rest on it.
use Rattle.std.proofs.Common.{◌≡◌, ℕ, ◌+◌, ◌-◌, ◌*◌, ◌≤◌, max, List, [], ◌∷◌, ◌++◌, refl, ap, arith, inl, inr}
use Rattle.std.specs.List.{AllByRecursion}
use Rattle.std.proofs.Math.Nat.{mul-le-mul, mul-le-mul_left, mul-add}
use Rattle.std.proofs.lemmas.Bool.{cases_lt}
use Rattle.recovery_congestion.specs.Pacing.{Bucket, PacerCall, capacity_of}
use Rattle.recovery_congestion.specs.PacerLog.{PacerMark, changed, credited, transmitted, IsCapPoint, credits_in, bytes_in, refills_in, capacity_in, greatest_moment, balance_from, balance_in, IsBalance}

-- the calls have at most this window, no smaller RTT and no later time
abbrev AreWithin : ℕ → ℕ → ℕ → List PacerCall → Type 0
AreWithin window rtt latest calls =
    AllByRecursion (λ call. (rtt ≤ call.rtt) × (call.window ≤ window) × (call.now ≤ latest)) calls

-- one more credit
step_bound : (r r' w w' x c n g g0 : ℕ) → r ≤ r' → w' ≤ w → g0 ≤ g → 4 * r' * x ≤ 5 * w' * (n - g)
    → 4 * r * c ≤ 5 * w * (g - g0) → 4 * r * (x + c) ≤ 5 * w * (max n g - g0)
step_bound r r' w w' x c n g g0 rtts windows rises one rest =
    let low : 4 * r * x ≤ 4 * r' * x = mul-le-mul (mul-le-mul_left 4 rtts) (omega arith) in
    let high : 5 * w' * (n - g) ≤ 5 * w * (n - g) = mul-le-mul (mul-le-mul_left 5 windows) (omega arith) in
    let whole : max n g - g0 ≡ (n - g) + (g - g0) = omega arith in
    rw (whole, mul-add (4 * r) x c, mul-add (5 * w) (n - g) (g - g0)) (omega arith)

-- what was transmitted is covered by the capacity and the credits, and these by the time
bound_at : (r w bytes capacity credits high latest low : ℕ) → bytes ≤ capacity + credits
    → 4 * r * credits ≤ 5 * w * (high - low) → high ≤ max latest low
    → 4 * r * (bytes - capacity) ≤ 5 * w * (latest - low)
bound_at r w bytes capacity credits high latest low within earned below =
    let less : 4 * r * (bytes - capacity) ≤ 4 * r * credits = mul-le-mul_left (4 * r) (omega arith) in
    let more : 5 * w * (high - low) ≤ 5 * w * (latest - low) = mul-le-mul_left (5 * w) (omega arith) in
    omega arith

module _ (made : Bucket) where
  -- at no cap point was more transmitted afterwards than its capacity and the credits after it
  abbrev pub NoDebt : ℕ → ℕ → List PacerMark → Type 0
  NoDebt credits bytes [] = bytes ≤ made.capacity + credits
  NoDebt credits bytes (changed call ∷ past) = (bytes ≤ capacity_of call.rtt call.window call.mtu + credits)
      × NoDebt credits bytes past
  NoDebt credits bytes (credited call credit ∷ past) = (bytes ≤ capacity_in made past + credits)
      × NoDebt (credits + credit) bytes past
  NoDebt credits bytes (transmitted sent ∷ past) = NoDebt credits (bytes + sent) past

  -- each credit is at most five fourths of a window for each RTT since the latest time
  abbrev pub AreEarned : List PacerMark → Type 0
  AreEarned [] = Unit {0}
  AreEarned (credited call credit ∷ past) =
      (4 * call.rtt * credit ≤ 5 * call.window * (call.now - greatest_moment made past)) × AreEarned past
  AreEarned (mark ∷ past) = AreEarned past

  -- credits and bytes after a history without debt change its balance by as much
  pub credits_more : (credits bytes more : ℕ) (past : List PacerMark) → NoDebt credits bytes past
      → NoDebt (credits + more) bytes past
      × (balance_from made (credits + more) bytes past ≡ balance_from made credits bytes past + more)
  credits_more _ _ _ [] h = grind arith
  credits_more _ _ more (_ ∷ past) h = grind (arith, λ (c b : ℕ). credits_more c b more past)

  pub bytes_more : (credits bytes more : ℕ) (past : List PacerMark) → NoDebt credits bytes past
      → more ≤ balance_from made credits bytes past → NoDebt credits (bytes + more) past
      × (balance_from made credits (bytes + more) past ≡ balance_from made credits bytes past - more)
  bytes_more _ _ _ [] h low = grind arith
  bytes_more _ _ more (_ ∷ past) h low = grind (arith, λ (c b : ℕ). bytes_more c b more past)

  -- what was transmitted after a cap point is within its capacity and the credits after it, minus the balance
  below_each : (credits bytes : ℕ) (later past : List PacerMark) → IsCapPoint past
      → NoDebt credits bytes (later ++ past)
      → balance_from made credits bytes (later ++ past) + bytes + bytes_in later ≤ capacity_in made past + credits +
      credits_in later
  below_each _ _ [] _ p h = grind arith
  below_each _ _ (_ ∷ later) past p h = grind (arith, λ (c b : ℕ). below_each c b later past p)

  -- the latest time increases, and is at most that of the latest call
  greatest_rises : (later past : List PacerMark) → greatest_moment made past ≤ greatest_moment made (later ++ past)
  greatest_rises [] _ = omega arith
  greatest_rises (_ ∷ later) past = grind (arith, greatest_rises later past)

  greatest_below : (w r latest : ℕ) (later past : List PacerMark) → AreWithin w r latest (refills_in later)
      → greatest_moment made (later ++ past) ≤ max latest (greatest_moment made past)
  greatest_below w r _ [] _ h = omega arith
  greatest_below w r latest (_ ∷ later) past h = grind (arith, greatest_below w r latest later past)

  -- all credits together are at most five fourths of the largest window for each smallest RTT
  credits_below : (w r latest : ℕ) (later past : List PacerMark) → AreWithin w r latest (refills_in later)
      → AreEarned (later ++ past)
      → 4 * r * credits_in later ≤ 5 * w * (greatest_moment made (later ++ past) - greatest_moment made past)
  credits_below w r _ [] _ h e = omega arith
  credits_below w r latest (credited call credit ∷ later) past h e =
      step_bound r call.rtt w call.window credit (credits_in later) call.now (greatest_moment made (later ++ past))
      (greatest_moment made past) h.0.0 h.0.1 (greatest_rises later past) e.0
      (credits_below w r latest later past h.1 e.1)
  credits_below w r latest (_ ∷ later) past h e = grind (arith, credits_below w r latest later past)

  -- the pacing bound, from a point on: what was transmitted since is covered by the tokens there and the credits since
  bound_from : (there : ℕ) (later past : List PacerMark) (rtt window moment : ℕ) → AreEarned (later ++ past)
      → AreWithin window rtt moment (refills_in later) → bytes_in later ≤ there + credits_in later
      → 4 * rtt * (bytes_in later - there) ≤ 5 * window * (moment - greatest_moment made past)
  bound_from _ later past rtt _ _ earned within covered =
      bound_at rtt _ _ _ _
      _ _ _ covered
      (credits_below _ _ _ later past within earned) (greatest_below _ _ _ later past within)

  -- from a cap point on
  pub rate_bound : (history later past : List PacerMark) (rtt window moment : ℕ) → NoDebt 0 0 history
      → AreEarned history → later ++ past ≡ history → IsCapPoint past → AreWithin window rtt moment (refills_in later)
      → 4 * rtt * (bytes_in later - capacity_in made past) ≤ 5 * window * (moment - greatest_moment made past)
  rate_bound _ later past rtt window moment debt earned is point within =
      bound_from (capacity_in made past) later past rtt window moment (rw is earned) within
      (omega (arith, below_each 0 0 later past point (rw is debt)))

  -- from any point on, by the balance there: credits after it add to it, and bytes subtract from it
  moves_by : (more taken credits bytes : ℕ) (past : List PacerMark) → NoDebt (credits + more) (bytes + taken) past
      → balance_from made (credits + more) (bytes + taken) past + taken ≤ balance_from made credits bytes past + more
  moves_by _ _ _ _ [] h = omega (arith, h)
  moves_by more taken _ _ (_ ∷ past) h = grind (arith, λ (c b : ℕ). moves_by more taken c b past)

  covered_by : (credits bytes : ℕ) (later past : List PacerMark) → NoDebt credits bytes (later ++ past)
      → balance_from made credits bytes (later ++ past) + bytes + bytes_in later
      ≤ balance_from made 0 0 past + credits + credits_in later
  covered_by credits bytes [] past h = grind (arith, moves_by credits bytes 0 0 past)
  covered_by _ _ (_ ∷ later) past h = grind (arith, λ (c b : ℕ). covered_by c b later past)

  pub paid_bound : (history later past : List PacerMark) (rtt window moment : ℕ) → NoDebt 0 0 history
      → AreEarned history → later ++ past ≡ history → AreWithin window rtt moment (refills_in later)
      → 4 * rtt * (bytes_in later - balance_in made past) ≤ 5 * window * (moment - greatest_moment made past)
  unfolding balance_in
  paid_bound _ later past rtt window moment debt earned is within =
      bound_from (balance_from made 0 0 past) later past rtt window moment (rw is earned) within
      (omega (arith, covered_by 0 0 later past (rw is debt)))

  -- ---- the balance is the minimum over the cap points

  abbrev Met : ℕ → ℕ → List PacerMark → Type 0
  Met credits bytes history =
      (later : List PacerMark) × (past : List PacerMark) × (later ++ past ≡ history) × IsCapPoint past
      × (balance_from made credits bytes history + bytes + bytes_in later
      ≡ capacity_in made past + credits + credits_in later)

  met_behind : (mark : PacerMark) (credits bytes credits' bytes' : ℕ) (past : List PacerMark)
      → balance_from made credits bytes (mark ∷ past) ≡ balance_from made credits' bytes' past
      → ((later : List PacerMark) → (bytes + bytes_in (mark ∷ later) ≡ bytes' + bytes_in later)
      × (credits + credits_in (mark ∷ later) ≡ credits' + credits_in later))
      → Met credits' bytes' past → Met credits bytes (mark ∷ past)
  met_behind mark _ _ _ _ _ same adds rest =
      (mark ∷ rest.0, rest.1, ap (λ l. mark ∷ l) rest.2, rest.3, omega arith)

  met_at : (credits bytes : ℕ) (history : List PacerMark) → NoDebt credits bytes history → Met credits bytes history
  met_at _ _ [] h = ([], [], refl, tt, omega arith)
  met_at credits bytes (changed call ∷ past) h =
      elim (cases_lt (capacity_of call.rtt call.window call.mtu + credits - bytes)
      (balance_from made credits bytes past)) [
        | inl low ↦ ([], changed call ∷ past, refl, tt, omega arith)
        | inr high ↦ met_behind (changed call) credits bytes _ _ past (omega arith) (λ later. (refl, refl))
            (met_at _ _ _ h.1)
      ]
  met_at credits bytes (credited call credit ∷ past) h =
      elim (cases_lt (capacity_in made past + credits - bytes) (balance_from made (credits + credit) bytes past)) [
        | inl low ↦ ([], credited call credit ∷ past, refl, tt, omega arith)
        | inr high ↦ met_behind (credited call credit) credits bytes _ _ past (omega arith)
            (λ later. (refl, omega arith)) (met_at (credits + credit) _ _ h.1)
      ]
  met_at credits bytes (transmitted sent ∷ past) h =
      met_behind (transmitted sent) credits bytes _ _ past refl (λ later. (omega arith, refl))
      (met_at _ (bytes + sent) past h)

  pub balance_is : (history : List PacerMark) → NoDebt 0 0 history → IsBalance made history (balance_in made history)
  unfolding balance_in
  balance_is history h = record {
    at_most = λ later past is point.
        omega (arith, ap (balance_from made 0 0) is, below_each 0 0 later past point (rw is h));
    met = let found = met_at 0 0 history h in (found.0, found.1, found.2, found.3, omega arith);
  }
