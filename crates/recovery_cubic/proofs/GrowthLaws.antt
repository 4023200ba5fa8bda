-- CUBIC's window in congestion avoidance: never below Reno's, and at most half of the bytes acknowledged above what it
-- was.
use Rattle.std.proofs.Common.{◌≡◌, ℕ, ◌+◌, ◌-◌, ◌*◌, ◌^◌, ◌<◌, ◌≤◌, max, nat_le, List, [], ◌∷◌, ◌++◌, refl, arith}
use Rattle.std.specs.Prelude.{if◌then◌else◌}
use Rattle.std.proofs.lemmas.Nat.{mul-le, div_below}
use Rattle.std.proofs.Math.Nat.{mul-le-mul_right}
use Rattle.recovery_congestion.specs.Calls.{ControllerCall}
use Rattle.recovery_cubic.specs.declared.cubic.Cubic.{Cubic}
use Rattle.recovery_cubic.specs.Stage.{parts, quotient_up}
use Rattle.recovery_cubic.specs.Cubic.{datagram_of}
use Rattle.recovery_cubic.specs.History.{CubicEntry, cubic_by, window_by}
use Rattle.recovery_cubic.specs.Growth.{ContinuesEpoch, ContinuesEpochThrough, bytes_of, least_of, acked_in, floor_by, GrowsByHalf}
use Rattle.recovery_cubic.specs.Reno.{reno_growth, prior_next, mtu_next, reno_next, prior_by, mtu_by, reno_by, NeverBelowReno}
use Rattle.recovery_cubic.proofs.TurnLaws.{Turns, by_turn}

-- ---- one step of Reno's window

-- a quotient rounded up is at most what the product says
up-le : (a b m : ℕ) → 0 < b → a ≤ b * m → quotient_up a b ≤ m
up-le a b m positive fits =
    let low : a + (b - 1) < (m + 1) * b = omega (arith, positive, fits) in
    omega (arith, div_below (a + (b - 1)) b (m + 1) positive low)

-- it is at most half of the bytes, as the window counts as two datagrams or more
half-of : (alpha bytes window datagram : ℕ) → alpha ≤ 17 → 0 < datagram
    → 2 * quotient_up (parts * alpha * datagram * bytes) (17 * max window (2 * datagram)) ≤ parts * bytes
half-of alpha bytes window datagram few some =
    let wide : 2 * datagram ≤ max window (2 * datagram) = omega arith in
    let here : alpha * (2 * datagram) ≤ 17 * max window (2 * datagram) = mul-le alpha (2 * datagram) 17 _ few wide in
    let all : alpha * (2 * datagram) * (2 ^ 31 * bytes) ≤ 17 * max window (2 * datagram) * (2 ^ 31 * bytes) =
    mul-le-mul_right (2 ^ 31 * bytes) here in
    let fits : parts * alpha * datagram * bytes ≤ 17 * max window (2 * datagram) * (2 ^ 31 * bytes) =
    omega (arith, all) in
    let low = up-le _ _ (2 ^ 31 * bytes) (omega (arith, some, wide)) fits in
    omega (arith, low)

pub growth_half : (bytes window datagram prior estimate : ℕ) → 0 < datagram
    → 2 * reno_growth bytes window datagram prior estimate ≤ parts * bytes
growth_half bytes window datagram prior estimate some =
    half-of (if nat_le (parts * prior) estimate then 17 else 9) bytes window datagram (grind arith) some

-- ---- the state is what the history says, and at most the window

pub record Holds (window now mtu : ℕ) (calls : List ControllerCall) (cubic : Cubic) : Type 0 where
  pub estimate : cubic.stage.estimate ≡ reno_by window now mtu calls
  pub prior : cubic.prior_window ≡ prior_by window now mtu calls
  pub mtu_is : cubic.current_mtu ≡ mtu_by window now mtu calls
  pub below : cubic.stage.estimate ≤ parts * cubic.window

module _ (window now mtu : ℕ) where
  -- the state after a call, by what held before it
  record Next (earlier : List ControllerCall) (turn : CubicEntry) (new : Cubic) : Type 0 where
    estimate : new.stage.estimate
        ≡ reno_next turn (window_by window now mtu earlier) new.window (datagram_of (mtu_by window now mtu earlier))
        (prior_by window now mtu earlier) (reno_by window now mtu earlier)
    prior : new.prior_window ≡ prior_next turn (window_by window now mtu earlier) (prior_by window now mtu earlier)
    mtu_is : new.current_mtu ≡ mtu_next turn (mtu_by window now mtu earlier)
    below : new.stage.estimate ≤ parts * new.window

  next : (earlier : List ControllerCall) → Holds window now mtu earlier (cubic_by window now mtu earlier)
      → Turns (cubic_by window now mtu earlier) (Next earlier)
  next earlier h = record {
    resuming = λ at. record { estimate = h.estimate; prior = h.prior; mtu_is = h.mtu_is; below = h.below };
    finding = λ at bytes. record { estimate = h.estimate; prior = h.prior; mtu_is = h.mtu_is; below = h.below };
    growing = λ at bytes. record {
      estimate = rw (h.estimate, h.prior, h.mtu_is) refl;
      prior = h.prior;
      mtu_is = h.mtu_is;
      below = omega arith;
    };
    waiting = λ at. record { estimate = h.estimate; prior = h.prior; mtu_is = h.mtu_is; below = h.below };
    reducing = λ at. record { estimate = refl; prior = refl; mtu_is = h.mtu_is; below = omega arith };
    starting = λ at bytes. record { estimate = refl; prior = h.prior; mtu_is = h.mtu_is; below = omega arith };
    persisting = λ at. record { estimate = refl; prior = refl; mtu_is = h.mtu_is; below = omega arith };
    resizing = λ to. record {
      estimate = h.estimate;
      prior = h.prior;
      mtu_is = refl;
      below = omega (arith, h.below);
    };
    passing = record { estimate = h.estimate; prior = h.prior; mtu_is = h.mtu_is; below = h.below };
  }

  pub holds : (calls : List ControllerCall) → Holds window now mtu calls (cubic_by window now mtu calls)
  holds [] = record { estimate = refl; prior = refl; mtu_is = refl; below = omega arith }
  holds (call ∷ earlier) =
      let here = by_turn (cubic_by window now mtu earlier) (Next earlier) (next earlier (holds earlier)) call in
      record { estimate = here.estimate; prior = here.prior; mtu_is = here.mtu_is; below = here.below }

  pub never_below_reno : (calls : List ControllerCall) → NeverBelowReno window now mtu calls
  never_below_reno calls = let h = holds calls in rw (← h.estimate) h.below

  -- ---- by half of the bytes acknowledged

  record Within (bytes before : ℕ) (cubic : Cubic) : Type 0 where
    window_is : 2 * cubic.window ≤ 2 * before + bytes + 1
    estimate : 2 * cubic.stage.estimate ≤ parts * (2 * before + bytes)

  within : (cubic : Cubic) (acked before : ℕ) → Within acked before cubic
      → Turns cubic (λ turn new. ContinuesEpoch turn → Within (bytes_of turn + acked) (max before (least_of turn)) new)
  within cubic acked before w = record {
    resuming = λ at goes. record { window_is = omega (arith, w.window_is); estimate = omega (arith, w.estimate) };
    finding = λ at bytes goes. record { window_is = omega (arith, w.window_is); estimate = omega (arith, w.estimate) };
    growing = λ at bytes goes.
        let half = growth_half bytes cubic.window (datagram_of cubic.current_mtu) cubic.prior_window
        cubic.stage.estimate (omega arith) in
        record { window_is = omega (arith, w.window_is, w.estimate, half); estimate = omega (arith, w.estimate, half) };
    waiting = λ at goes. record { window_is = omega (arith, w.window_is); estimate = omega (arith, w.estimate) };
    reducing = λ at goes. absurd goes;
    starting = λ at bytes goes. absurd goes;
    persisting = λ at goes. absurd goes;
    resizing = λ to goes. record { window_is = omega (arith, w.window_is); estimate = omega (arith, w.estimate) };
    passing = λ goes. record { window_is = omega (arith, w.window_is); estimate = omega (arith, w.estimate) };
  }

  within_by : (later earlier : List ControllerCall) → ContinuesEpochThrough window now mtu later earlier
      → Within (acked_in window now mtu later earlier) (floor_by window now mtu later earlier)
      (cubic_by window now mtu (later ++ earlier))
  within_by [] earlier goes =
      let h = holds earlier in record { window_is = omega arith; estimate = omega (arith, h.below) }
  within_by (call ∷ later) earlier goes =
      let before = floor_by window now mtu later earlier in
      let acked = acked_in window now mtu later earlier in
      let cubic = cubic_by window now mtu (later ++ earlier) in
      by_turn cubic (λ turn new. ContinuesEpoch turn → Within (bytes_of turn + acked) (max before (least_of turn)) new)
      (within cubic acked before (within_by later earlier goes.1)) call goes.0

  pub grows_by_half : (later earlier : List ControllerCall) → ContinuesEpochThrough window now mtu later earlier
      → GrowsByHalf window now mtu later earlier
  grows_by_half later earlier goes =
      let w = within_by later earlier goes in
      record { bytes = w.window_is; round = λ few. omega (arith, w.window_is, few) }
