-- CUBIC's window follows the curve from a reduction until the next.
use Rattle.std.proofs.Common.{◌≡◌, ℕ, ◌+◌, ◌-◌, ◌*◌, ◌/◌, ◌<◌, ◌≤◌, min, max, Bool, true, false, nat_le, List, [], ◌∷◌, ◌++◌, Option, None, Some, refl, ap, ◌∙◌, subst, sym, arith}
use Rattle.std.specs.Prelude.{if◌then◌else◌}
use Rattle.std.proofs.lemmas.Bool.Decides.{nat_tests}
use Rattle.std.proofs.Math.Nat.{mul-le-mul_right}
use Rattle.recovery_base.specs.Units.{largest_u64}
use Rattle.recovery_congestion.specs.Calls.{ControllerCall}
use Rattle.recovery_congestion.specs.NewReno.{sum_to_most}
use Rattle.recovery_cubic.specs.declared.cubic.Cubic.{Cubic}
use Rattle.recovery_cubic.specs.declared.curve.Curve.{Curve}
use Rattle.recovery_cubic.specs.Curve.{micros, rise, curve_from, curve_at, k_of, IsGreatestK}
use Rattle.recovery_cubic.specs.Stage.{parts, quotient_up, past_idle, curve_window}
use Rattle.recovery_cubic.specs.Cubic.{idle_found, avoided, cubic_after, cubic_recovering, datagram_of, reduced_window, next_w_max}
use Rattle.recovery_cubic.specs.History.{CubicEntry, resumes, finds, grows, reduces, turn_of, turn_at, cubic_by, window_by}
use Rattle.recovery_cubic.specs.Growth.{ContinuesEpoch, ContinuesEpochThrough, bytes_of, floor_by, least_of}
use Rattle.recovery_cubic.specs.Reno.{mtu_by}
use Rattle.recovery_cubic.specs.Epochs.{idle_next, last_next, time_next, plateau_next, idle_by, last_by, time_by, plateau_by, BeginsEpoch, curve_of, curve_then, IsBelowCurve, IsReal, MovesTowardCurve, halves_in, HasReturnedToWmax, IsReachedAtK}
use Rattle.recovery_cubic.proofs.CurveLaws.{cube-le, greatest_k, one_k}
use Rattle.recovery_cubic.proofs.GrowthLaws.{holds}
use Rattle.recovery_cubic.proofs.RealLaws.{near_real}
use Rattle.recovery_cubic.proofs.TurnLaws.{Turns, by_turn}

-- ---- the curve never decreases

rise-le : (datagram a b : ℕ) → a ≤ b → rise datagram a ≤ rise datagram b
rise-le datagram a b less =
    let up = mul-le-mul_right (2 * datagram) (cube-le a b less) in omega (arith, up)

curve-le-by : (curve : Curve) (s t : ℕ) (first second : Bool) → nat_le curve.k s ≡ first → nat_le curve.k t ≡ second
    → curve.w_max ≤ largest_u64 → s ≤ t
    → (if first then sum_to_most curve.w_max (rise curve.datagram (s - curve.k))
    else curve.w_max - rise curve.datagram (curve.k - s))
    ≤ (if second then sum_to_most curve.w_max (rise curve.datagram (t - curve.k))
    else curve.w_max - rise curve.datagram (curve.k - t))
curve-le-by curve s t true true is too within less =
    let up = rise-le curve.datagram (s - curve.k) (t - curve.k) (omega (arith, less)) in omega (arith, up)
curve-le-by curve s t true false is too within less =
    let first : curve.k ≤ s = grind (arith, nat_tests) in
    let second : t < curve.k = grind (arith, nat_tests) in
    absurd (omega (arith, first, second, less))
curve-le-by curve s t false true is too within less = omega (arith, within)
curve-le-by curve s t false false is too within less =
    let up = rise-le curve.datagram (curve.k - t) (curve.k - s) (omega (arith, less)) in omega (arith, up)

curve-le : (curve : Curve) (s t : ℕ) → curve.w_max ≤ largest_u64 → s ≤ t → curve_at curve s ≤ curve_at curve t
curve-le curve s t within less =
    curve-le-by curve s t (nat_le curve.k s) (nat_le curve.k t) refl refl within less

-- from K on it is not below the plateau
from_k : (curve : Curve) (t : ℕ) → curve.w_max ≤ largest_u64 → curve.k ≤ t → curve.w_max ≤ curve_at curve t
from_k curve t within past = grind (arith, nat_tests)

-- the curve of these numbers has the largest K
curve_from_is : (w p r a d e k : ℕ) → w ≡ p → r ≡ a → d ≡ e → 0 < e → IsGreatestK micros e (p - a) k
    → curve_from w r d ≡ record { w_max = p; k = k; datagram = e }
curve_from_is w p r a d e k plateau reduced datagram some greatest =
    let same : k_of e (p - a) ≡ k = one_k micros e (p - a) (k_of e (p - a)) k (greatest_k e (p - a) some) greatest in
    rw (plateau, reduced, datagram, same) refl

-- before it is not above it
to_k : (curve : Curve) (t : ℕ) → t < curve.k → curve_at curve t ≤ curve.w_max
to_k curve t before = grind (arith, nat_tests)

-- ---- time and plateau in the state are what the history says

-- an idle period that was found, or ends
found_is : (now in_flight : ℕ) (idle : Option ℕ)
    → idle_found now in_flight idle ≡ idle_next (finds now in_flight) idle
found_is now in_flight None = refl
found_is now in_flight (Some since) = refl

past_is : (now last : ℕ) (idle : Option ℕ) → past_idle now idle last ≡ last_next (resumes now) idle last
past_is now last None = refl
past_is now last (Some since) = refl

record Times (window now mtu : ℕ) (calls : List ControllerCall) (cubic : Cubic) : Type 0 where
  idle : cubic.idle_since ≡ idle_by window now mtu calls
  last : cubic.stage.last ≡ last_by window now mtu calls
  time : cubic.stage.elapsed ≡ time_by window now mtu calls
  plateau : cubic.stage.curve.w_max ≡ plateau_by window now mtu calls
  within : cubic.stage.elapsed ≤ largest_u64

module _ (window now mtu : ℕ) where
  record NextTimes (earlier : List ControllerCall) (turn : CubicEntry) (new : Cubic) : Type 0 where
    idle : new.idle_since ≡ idle_next turn (idle_by window now mtu earlier)
    last : new.stage.last ≡ last_next turn (idle_by window now mtu earlier) (last_by window now mtu earlier)
    time : new.stage.elapsed ≡ time_next turn (last_by window now mtu earlier) (time_by window now mtu earlier)
    plateau : new.stage.curve.w_max
        ≡ plateau_next turn (window_by window now mtu earlier) new.window (plateau_by window now mtu earlier)
    within : new.stage.elapsed ≤ largest_u64

  next_times : (earlier : List ControllerCall) → Times window now mtu earlier (cubic_by window now mtu earlier)
      → Turns (cubic_by window now mtu earlier) (NextTimes earlier)
  next_times earlier h = record {
    resuming = λ at. record {
      idle = refl;
      last = rw (h.idle, h.last) (past_is at (last_by window now mtu earlier) (idle_by window now mtu earlier));
      time = h.time;
      plateau = h.plateau;
      within = h.within;
    };
    finding = λ at bytes. record {
      idle = rw h.idle (found_is at bytes (idle_by window now mtu earlier));
      last = h.last;
      time = h.time;
      plateau = h.plateau;
      within = h.within;
    };
    growing = λ at bytes. record {
      idle = h.idle;
      last = ap (λ n. max n at) h.last;
      time = rw (h.last, h.time) refl;
      plateau = h.plateau;
      within = omega arith;
    };
    waiting = λ at. record {
      idle = h.idle;
      last = ap (λ n. max n at) h.last;
      time = h.time;
      plateau = h.plateau;
      within = h.within;
    };
    reducing = λ at. record {
      idle = h.idle;
      last = refl;
      time = refl;
      plateau = rw h.plateau refl;
      within = omega arith;
    };
    starting = λ at bytes. record { idle = h.idle; last = refl; time = refl; plateau = refl; within = omega arith };
    persisting = λ at. record { idle = h.idle; last = refl; time = refl; plateau = refl; within = omega arith };
    resizing = λ to. record { idle = h.idle; last = h.last; time = h.time; plateau = h.plateau; within = h.within };
    passing = record { idle = h.idle; last = h.last; time = h.time; plateau = h.plateau; within = h.within };
  }

  times : (calls : List ControllerCall) → Times window now mtu calls (cubic_by window now mtu calls)
  times [] = record { idle = refl; last = refl; time = refl; plateau = refl; within = omega arith }
  times (call ∷ earlier) =
      let here = by_turn (cubic_by window now mtu earlier) (NextTimes earlier) (next_times earlier (times earlier)) call
      in record {
        idle = here.idle;
        last = here.last;
        time = here.time;
        plateau = here.plateau;
        within = here.within;
      }

  -- ---- a reduction

  -- what a turn that reduces leaves
  reducing_leaves : (cubic : Cubic) (call : ControllerCall) (m : ℕ) → turn_of call cubic ≡ reduces m
      → cubic_after call cubic ≡ cubic_recovering m false cubic
  reducing_leaves cubic call m =
      by_turn cubic (λ turn new. turn ≡ reduces m → new ≡ cubic_recovering m false cubic) (record {
        resuming = λ at is. absurd (cc);
        finding = λ at bytes is. absurd (cc);
        growing = λ at bytes is. absurd (cc);
        waiting = λ at is. absurd (cc);
        reducing = λ at is. let same : at ≡ m = cc in ap (λ n. cubic_recovering n false cubic) same;
        starting = λ at bytes is. absurd (cc);
        persisting = λ at is. absurd (cc);
        resizing = λ to is. absurd (cc);
        passing = λ is. absurd (cc);
      }) call

  module _ (reduction : ControllerCall) (earlier : List ControllerCall) (k : ℕ)
      (b : BeginsEpoch window now mtu reduction earlier k) where
    old : Cubic
    old = cubic_by window now mtu earlier

    left : cubic_by window now mtu (reduction ∷ earlier) ≡ cubic_recovering b.moment false old
    unfolding old
    left = reducing_leaves old reduction b.moment b.reduced

    -- its curve is the one that the history says
    curve_is : (cubic_by window now mtu (reduction ∷ earlier)).stage.curve ≡ curve_of window now mtu reduction earlier k
    unfolding old
    curve_is =
        let plateau : next_w_max old ≡ plateau_by window now mtu (reduction ∷ earlier) =
        sym (ap (λ (c : Cubic). c.stage.curve.w_max) left) ∙ (times (reduction ∷ earlier)).plateau in
        let reduced : reduced_window old ≡ window_by window now mtu (reduction ∷ earlier) =
        sym (ap (λ (c : Cubic). c.window) left) in
        let datagram : datagram_of old.current_mtu ≡ datagram_of (mtu_by window now mtu earlier) =
        ap datagram_of (holds window now mtu earlier).mtu_is in
        ap (λ (c : Cubic). c.stage.curve) left
        ∙ curve_from_is (next_w_max old) (plateau_by window now mtu (reduction ∷ earlier)) (reduced_window old)
        (window_by window now mtu (reduction ∷ earlier)) (datagram_of old.current_mtu)
        (datagram_of (mtu_by window now mtu earlier)) k plateau reduced datagram (omega arith) b.k_is

    -- the plateau fits 64 bits
    plateau_fits : plateau_by window now mtu (reduction ∷ earlier) ≤ largest_u64
    unfolding old
    plateau_fits =
        let plateau : next_w_max old ≡ plateau_by window now mtu (reduction ∷ earlier) =
        sym (ap (λ (c : Cubic). c.stage.curve.w_max) left) ∙ (times (reduction ∷ earlier)).plateau in
        let low : next_w_max old ≤ old.window = grind arith in
        omega (arith, plateau, low, b.before)

  -- ---- after it, while congestion avoidance continues

  record Below (curve : Curve) (reduced floor : ℕ) (cubic : Cubic) : Type 0 where
    curve_is : cubic.stage.curve ≡ curve
    window_is : cubic.window
        ≤ max (max floor (curve_at curve (cubic.stage.elapsed / 1000))) (quotient_up cubic.stage.estimate parts)
    kept : reduced ≤ cubic.window
    time : cubic.stage.elapsed ≤ largest_u64
    estimate : cubic.stage.estimate ≤ parts * largest_u64

  -- one acknowledgement, over plain numbers
  below-more : (window floor before curve half estimate more : ℕ)
      → window ≤ max (max floor before) (quotient_up estimate parts) → before ≤ curve → estimate ≤ more
      → max (max window (min curve half)) (quotient_up more parts)
      ≤ max (max (max floor 0) curve) (quotient_up more parts)
  below-more window floor before curve half estimate more is up rises = omega arith

  below_next : (curve : Curve) (reduced floor : ℕ) → curve.w_max ≤ largest_u64 → (cubic : Cubic)
      → Below curve reduced floor cubic
      → Turns cubic (λ turn new. ContinuesEpoch turn → Below curve reduced (max floor (least_of turn)) new)
  below_next curve reduced floor fits cubic h = record {
    resuming = λ at goes. record {
      curve_is = h.curve_is;
      window_is = omega (arith, h.window_is);
      kept = h.kept;
      time = h.time;
      estimate = h.estimate;
    };
    finding = λ at bytes goes. record {
      curve_is = h.curve_is;
      window_is = omega (arith, h.window_is);
      kept = h.kept;
      time = h.time;
      estimate = h.estimate;
    };
    growing = λ at bytes goes.
        let new = avoided at bytes cubic in
        let later : cubic.stage.elapsed / 1000 ≤ new.stage.elapsed / 1000 = omega (arith, h.time) in
        let up = curve-le curve (cubic.stage.elapsed / 1000) (new.stage.elapsed / 1000) fits later in
        let rises : cubic.stage.estimate ≤ new.stage.estimate = omega (arith, h.estimate) in
        let there : curve_window new.stage ≡ curve_at curve (new.stage.elapsed / 1000) =
        ap (λ (c : Curve). curve_at c (new.stage.elapsed / 1000)) h.curve_is in
        record {
          curve_is = h.curve_is;
          window_is = subst (λ (n : ℕ). max (max cubic.window (min n (sum_to_most cubic.window (bytes / 2))))
              (quotient_up new.stage.estimate parts)
              ≤ max (max (max floor 0) (curve_at curve (new.stage.elapsed / 1000)))
              (quotient_up new.stage.estimate parts))
              (sym there) (below-more cubic.window floor (curve_at curve (cubic.stage.elapsed / 1000))
              (curve_at curve (new.stage.elapsed / 1000)) (sum_to_most cubic.window (bytes / 2)) cubic.stage.estimate
              new.stage.estimate h.window_is up rises);
          kept = omega (arith, h.kept);
          time = omega arith;
          estimate = omega arith;
        };
    waiting = λ at goes. record {
      curve_is = h.curve_is;
      window_is = omega (arith, h.window_is);
      kept = h.kept;
      time = h.time;
      estimate = h.estimate;
    };
    reducing = λ at goes. absurd goes;
    starting = λ at bytes goes. absurd goes;
    persisting = λ at goes. absurd goes;
    resizing = λ to goes. record {
      curve_is = h.curve_is;
      window_is = omega (arith, h.window_is);
      kept = omega (arith, h.kept);
      time = h.time;
      estimate = h.estimate;
    };
    passing = λ goes. record {
      curve_is = h.curve_is;
      window_is = omega (arith, h.window_is);
      kept = h.kept;
      time = h.time;
      estimate = h.estimate;
    };
  }

  module _ (reduction : ControllerCall) (earlier : List ControllerCall) (k : ℕ)
      (b : BeginsEpoch window now mtu reduction earlier k) where
    below_by : (later : List ControllerCall) → ContinuesEpochThrough window now mtu later (reduction ∷ earlier)
        → Below (curve_of window now mtu reduction earlier k) (window_by window now mtu (reduction ∷ earlier))
        (floor_by window now mtu later (reduction ∷ earlier))
        (cubic_by window now mtu (later ++ reduction ∷ earlier))
    below_by [] goes =
        let is = left reduction earlier k b in
        let time : (cubic_by window now mtu (reduction ∷ earlier)).stage.elapsed ≡ 0 =
        ap (λ (c : Cubic). c.stage.elapsed) is in
        let estimate : (cubic_by window now mtu (reduction ∷ earlier)).stage.estimate
        ≡ parts * (cubic_by window now mtu (reduction ∷ earlier)).window =
        subst (λ (c : Cubic). c.stage.estimate ≡ parts * c.window) (sym is) refl in
        record {
          curve_is = curve_is reduction earlier k b;
          window_is = omega arith;
          kept = omega arith;
          time = omega (arith, time);
          estimate = omega (arith, estimate, b.after);
        }
    below_by (call ∷ later) goes =
        let curve = curve_of window now mtu reduction earlier k in
        let reduced = window_by window now mtu (reduction ∷ earlier) in
        let floor = floor_by window now mtu later (reduction ∷ earlier) in
        let cubic = cubic_by window now mtu (later ++ reduction ∷ earlier) in
        by_turn cubic (λ turn new. ContinuesEpoch turn → Below curve reduced (max floor (least_of turn)) new)
        (below_next curve reduced floor (plateau_fits reduction earlier k b) cubic (below_by later goes.1)) call goes.0

    pub below_curve : (later : List ControllerCall) → ContinuesEpochThrough window now mtu later (reduction ∷ earlier)
        → IsBelowCurve window now mtu later reduction earlier k
    below_curve later goes =
        let h = below_by later goes in
        let time = (times (later ++ reduction ∷ earlier)).time in
        let estimate = (holds window now mtu (later ++ reduction ∷ earlier)).estimate in
        rw (← time, ← estimate) h.window_is

    -- the curve of the state is the one that the history says
    window_then : (later : List ControllerCall) → ContinuesEpochThrough window now mtu later (reduction ∷ earlier)
        → curve_window (cubic_by window now mtu (later ++ reduction ∷ earlier)).stage
        ≡ curve_then window now mtu later reduction earlier k
    window_then later goes =
        let time = (cubic_by window now mtu (later ++ reduction ∷ earlier)).stage.elapsed / 1000 in
        ap (λ (c : Curve). curve_at c time) (below_by later goes).curve_is
        ∙ ap (λ (n : ℕ). curve_at (curve_of window now mtu reduction earlier k) (n / 1000))
        (times (later ++ reduction ∷ earlier)).time

    pub real_curve : (later : List ControllerCall) → IsReal window now mtu later reduction earlier k
    real_curve later room steady =
        near_real (curve_of window now mtu reduction earlier k) (window_by window now mtu (reduction ∷ earlier))
        (time_by window now mtu (later ++ reduction ∷ earlier)) (omega arith) (plateau_fits reduction earlier k b)
        b.k_is room steady

    -- how an acknowledgement that counts changes the window
    makes : (cubic : Cubic) (call : ControllerCall) (at bytes : ℕ) → turn_of call cubic ≡ grows at bytes
        → min (curve_window (cubic_after call cubic).stage) (sum_to_most cubic.window (bytes / 2))
        ≤ (cubic_after call cubic).window
    makes cubic call at bytes =
        by_turn cubic (λ turn new. turn ≡ grows at bytes
        → min (curve_window new.stage) (sum_to_most cubic.window (bytes / 2)) ≤ new.window) (record {
          resuming = λ now_at is. absurd (cc);
          finding = λ now_at some is. absurd (cc);
          growing = λ now_at some is. let same : bytes ≡ some = cc in rw same (omega arith);
          waiting = λ now_at is. absurd (cc);
          reducing = λ now_at is. absurd (cc);
          starting = λ now_at some is. absurd (cc);
          persisting = λ now_at is. absurd (cc);
          resizing = λ to is. absurd (cc);
          passing = λ is. absurd (cc);
        }) call

    -- it continues
    goes_on : (call : ControllerCall) (calls : List ControllerCall) (at bytes : ℕ)
        → turn_at window now mtu call calls ≡ grows at bytes → ContinuesEpoch (turn_at window now mtu call calls)
    goes_on call calls at bytes is = subst (λ (turn : CubicEntry). ContinuesEpoch turn) (sym is) tt

    pub goes_to_curve : (call : ControllerCall) (later : List ControllerCall) (at bytes : ℕ)
        → ContinuesEpochThrough window now mtu later (reduction ∷ earlier)
        → turn_at window now mtu call (later ++ reduction ∷ earlier) ≡ grows at bytes
        → MovesTowardCurve window now mtu call later reduction earlier k bytes
    goes_to_curve call later at bytes goes is =
        let on = goes_on call (later ++ reduction ∷ earlier) at bytes is in
        let there = window_then (call ∷ later) (on, goes) in
        let up : min (curve_then window now mtu (call ∷ later) reduction earlier k)
        (sum_to_most (window_by window now mtu (later ++ reduction ∷ earlier)) (bytes / 2))
        ≤ window_by window now mtu (call ∷ later ++ reduction ∷ earlier) =
        rw (← there) (makes (cubic_by window now mtu (later ++ reduction ∷ earlier)) call at bytes is) in
        let none : least_of (turn_at window now mtu call (later ++ reduction ∷ earlier)) ≡ 0 = ap least_of is in
        let down = below_curve (call ∷ later) (on, goes) in
        record { up = up; on = λ half floor reno. omega (arith, up, down, none, half, floor, reno) }

  -- ---- from K on

  record Back (curve : Curve) (goal : ℕ) (cubic : Cubic) : Type 0 where
    curve_is : cubic.stage.curve ≡ curve
    window_is : min curve.w_max goal ≤ cubic.window
    time : cubic.stage.elapsed ≤ largest_u64
    past : curve.k ≤ cubic.stage.elapsed / 1000

  back-more : (window plateau goal curve half more : ℕ) → min plateau goal ≤ window → plateau ≤ largest_u64
      → plateau ≤ curve
      → min plateau (half + goal) ≤ max (max window (min curve (sum_to_most window half))) more
  back-more window plateau goal curve half more is fits up = omega arith

  back_next : (curve : Curve) (goal : ℕ) → curve.w_max ≤ largest_u64 → (cubic : Cubic) → Back curve goal cubic
      → Turns cubic (λ turn new. ContinuesEpoch turn → Back curve (bytes_of turn / 2 + goal) new)
  back_next curve goal fits cubic h = record {
    resuming = λ at goes. record {
      curve_is = h.curve_is;
      window_is = omega (arith, h.window_is);
      time = h.time;
      past = h.past;
    };
    finding = λ at bytes goes. record {
      curve_is = h.curve_is;
      window_is = omega (arith, h.window_is);
      time = h.time;
      past = h.past;
    };
    growing = λ at bytes goes.
        let new = avoided at bytes cubic in
        let past : curve.k ≤ new.stage.elapsed / 1000 = omega (arith, h.past, h.time) in
        let up = from_k curve (new.stage.elapsed / 1000) fits past in
        let there : curve_window new.stage ≡ curve_at curve (new.stage.elapsed / 1000) =
        ap (λ (c : Curve). curve_at c (new.stage.elapsed / 1000)) h.curve_is in
        record {
          curve_is = h.curve_is;
          window_is = back-more cubic.window curve.w_max goal (curve_window new.stage) (bytes / 2)
              (quotient_up new.stage.estimate parts) h.window_is fits (rw there up);
          time = omega arith;
          past = past;
        };
    waiting = λ at goes. record {
      curve_is = h.curve_is;
      window_is = omega (arith, h.window_is);
      time = h.time;
      past = h.past;
    };
    reducing = λ at goes. absurd goes;
    starting = λ at bytes goes. absurd goes;
    persisting = λ at goes. absurd goes;
    resizing = λ to goes. record {
      curve_is = h.curve_is;
      window_is = omega (arith, h.window_is);
      time = h.time;
      past = h.past;
    };
    passing = λ goes. record {
      curve_is = h.curve_is;
      window_is = omega (arith, h.window_is);
      time = h.time;
      past = h.past;
    };
  }

  module _ (until : List ControllerCall) (reduction : ControllerCall) (earlier : List ControllerCall) (k : ℕ)
      (b : BeginsEpoch window now mtu reduction earlier k) (gone : ContinuesEpochThrough window now mtu until
      (reduction ∷ earlier))
      (past : k ≤ time_by window now mtu (until ++ reduction ∷ earlier) / 1000) where
    back_by : (later : List ControllerCall) → ContinuesEpochThrough window now mtu later (until ++ reduction ∷ earlier)
        → Back (curve_of window now mtu reduction earlier k)
        (halves_in window now mtu later (until ++ reduction ∷ earlier)
        + window_by window now mtu (until ++ reduction ∷ earlier))
        (cubic_by window now mtu (later ++ (until ++ reduction ∷ earlier)))
    back_by [] goes =
        let h = below_by reduction earlier k b until gone in
        let time = (times (until ++ reduction ∷ earlier)).time in
        record { curve_is = h.curve_is; window_is = omega arith; time = h.time; past = rw time past }
    back_by (call ∷ later) goes =
        let curve = curve_of window now mtu reduction earlier k in
        let goal = halves_in window now mtu later (until ++ reduction ∷ earlier)
        + window_by window now mtu (until ++ reduction ∷ earlier) in
        let cubic = cubic_by window now mtu (later ++ (until ++ reduction ∷ earlier)) in
        let here = by_turn cubic (λ turn new. ContinuesEpoch turn → Back curve (bytes_of turn / 2 + goal) new)
        (back_next curve goal (plateau_fits reduction earlier k b) cubic (back_by later goes.1)) call goes.0 in
        record {
          curve_is = here.curve_is;
          window_is = omega (arith, here.window_is);
          time = here.time;
          past = here.past;
        }

    pub comes_back : (later : List ControllerCall) → ContinuesEpochThrough window now mtu later
        (until ++ reduction ∷ earlier)
        → HasReturnedToWmax window now mtu later until reduction earlier
    comes_back later goes = let h = back_by later goes in omega (arith, h.window_is)

  pub reached_at_k : (later until : List ControllerCall) (reduction : ControllerCall) (earlier : List ControllerCall)
      (k : ℕ) → BeginsEpoch window now mtu reduction earlier k → ContinuesEpochThrough window now mtu until
      (reduction ∷ earlier)
      → ContinuesEpochThrough window now mtu later (until ++ reduction ∷ earlier)
      → IsReachedAtK window now mtu later until reduction earlier k
  unfolding old
  reached_at_k later until reduction earlier k b gone goes = record {
    plateau = λ past.
        subst (λ (turn : CubicEntry). plateau_next turn (window_by window now mtu earlier)
        (window_by window now mtu (reduction ∷ earlier)) (plateau_by window now mtu earlier)
        ≡ window_by window now mtu earlier) (sym b.reduced) (grind (arith, nat_tests, past));
    lacking =
        let is : window_by window now mtu (reduction ∷ earlier) ≡ reduced_window (cubic_by window now mtu earlier) =
        ap (λ (c : Cubic). c.window) (left reduction earlier k b) in
        omega (arith, is, (below_by reduction earlier k b until gone).kept);
    sooner = λ before.
        to_k (curve_of window now mtu reduction earlier k)
        (time_by window now mtu (until ++ reduction ∷ earlier) / 1000) before;
    back = λ past. comes_back until reduction earlier k b gone past later goes;
  }
