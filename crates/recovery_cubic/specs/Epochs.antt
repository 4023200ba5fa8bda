-- CUBIC's window follows the curve from a reduction until the next (RFC 9438, 4.2). Lists are newest first.
use Rattle.std.specs.Prelude.{ℕ, ◌≡◌, ◌+◌, ◌-◌, ◌*◌, ◌/◌, ◌<◌, ◌≤◌, min, max, nat_lt, if◌then◌else◌, List, [], ◌∷◌, ◌++◌, nat_eq, Option, None, Some}
use Rattle.recovery_base.specs.Units.{largest_u64, microseconds}
use Rattle.recovery_congestion.specs.Calls.{ControllerCall}
use Rattle.recovery_congestion.specs.NewReno.{sum_to_most}
use Rattle.recovery_cubic.specs.declared.curve.Curve.{Curve}
use Rattle.recovery_cubic.specs.Stage.{parts, quotient_up}
use Rattle.recovery_cubic.specs.Curve.{curve_at, micros, IsGreatestK}
use Rattle.recovery_cubic.specs.Cubic.{datagram_of}
use Rattle.recovery_cubic.specs.History.{CubicEntry, resumes, finds, grows, waits, reduces, persists, starts, turn_at, window_by}
use Rattle.recovery_cubic.specs.Growth.{bytes_of, floor_by}
use Rattle.recovery_cubic.specs.RealCurve.{IsSteady, IsNearReal}
use Rattle.recovery_cubic.specs.Reno.{mtu_by, reno_by}
use Rattle.recovery_cubic.specs.Fractions.{beta_denominator, beta_numerator, convergence_denominator, convergence_numerator}

-- ---- the time that counts, in nanoseconds (RFC 9438, 4.2 and 5.8)

-- an idle period: from the first ACK that leaves nothing in flight to the next packet that counts in flight
abbrev pub idle_next : CubicEntry → Option ℕ → Option ℕ
idle_next (finds now in_flight) (Some since) = if nat_eq in_flight 0 then Some since else None
idle_next (finds now in_flight) None = if nat_eq in_flight 0 then Some now else None
idle_next (resumes now) idle = None
idle_next turn idle = idle

-- up to when time has passed: from the beginning of a stage to each acknowledgement, and by the length of each idle
-- period in between, at most to its end
abbrev pub last_next : CubicEntry → Option ℕ → ℕ → ℕ
last_next (resumes now) (Some since) last = max last (min now (last + (now - since)))
last_next (grows now bytes) idle last = max last now
last_next (waits now) idle last = max last now
last_next (reduces now) idle last = now
last_next (persists now) idle last = now
last_next (starts now bytes) idle last = now
last_next turn idle last = last

-- the time up to an acknowledgement counts, unless application-limited then
abbrev pub time_next : CubicEntry → ℕ → ℕ → ℕ
time_next (grows now bytes) last time = sum_to_most time (now - last)
time_next (reduces now) last time = 0
time_next (persists now) last time = 0
time_next (starts now bytes) last time = 0
time_next turn last time = time

-- ---- W_max (RFC 9438, 4.6 to 4.8)

abbrev pub plateau_next : CubicEntry → ℕ → ℕ → ℕ → ℕ
plateau_next (reduces now) before after plateau =
    if nat_lt before plateau then before * convergence_numerator / convergence_denominator else before
plateau_next (persists now) before after plateau = after
plateau_next (starts now bytes) before after plateau = after
plateau_next turn before after plateau = plateau

module _ (window now mtu : ℕ) where
  abbrev pub idle_by : List ControllerCall → Option ℕ
  idle_by [] = None
  idle_by (call ∷ earlier) = idle_next (turn_at window now mtu call earlier) (idle_by earlier)

  abbrev pub last_by : List ControllerCall → ℕ
  last_by [] = now
  last_by (call ∷ earlier) = last_next (turn_at window now mtu call earlier) (idle_by earlier) (last_by earlier)

  abbrev pub time_by : List ControllerCall → ℕ
  time_by [] = 0
  time_by (call ∷ earlier) = time_next (turn_at window now mtu call earlier) (last_by earlier) (time_by earlier)

  abbrev pub plateau_by : List ControllerCall → ℕ
  plateau_by [] = window
  plateau_by (call ∷ earlier) =
      plateau_next (turn_at window now mtu call earlier) (window_by window now mtu earlier)
      (window_by window now mtu (call ∷ earlier)) (plateau_by earlier)

  -- a call reduced the window, both within 64 bits, and K is the time back to the plateau
  pub record BeginsEpoch (reduction : ControllerCall) (earlier : List ControllerCall) (k : ℕ) : Type 0 where
    pub moment : ℕ
    pub reduced : turn_at window now mtu reduction earlier ≡ reduces moment
    pub before : window_by window now mtu earlier ≤ largest_u64
    pub after : window_by window now mtu (reduction ∷ earlier) ≤ largest_u64
    pub k_is : IsGreatestK micros (datagram_of (mtu_by window now mtu earlier))
        (plateau_by (reduction ∷ earlier) - window_by window now mtu (reduction ∷ earlier)) k

  -- the curve after a reduction, and its value at the whole microseconds counted
  abbrev pub curve_of : ControllerCall → List ControllerCall → ℕ → Curve
  curve_of reduction earlier k = record {
    w_max = plateau_by (reduction ∷ earlier);
    k = k;
    datagram = datagram_of (mtu_by window now mtu earlier);
  }

  abbrev pub curve_then : List ControllerCall → ControllerCall → List ControllerCall → ℕ → ℕ
  curve_then later reduction earlier k =
      curve_at (curve_of reduction earlier k) (time_by (later ++ reduction ∷ earlier) / microseconds)

  -- the window is at most the maximum of the curve, of Reno's window, of the window that the reduction left, and of the
  -- minimum windows of MTUs set since
  abbrev pub IsBelowCurve : List ControllerCall → ControllerCall → List ControllerCall → ℕ → Type 0
  IsBelowCurve later reduction earlier k =
      window_by window now mtu (later ++ reduction ∷ earlier)
      ≤ max (max (floor_by window now mtu later (reduction ∷ earlier)) (curve_then later reduction earlier k))
      (quotient_up (reno_by window now mtu (later ++ reduction ∷ earlier)) parts)

  -- while the curve moves by less than a datagram in a microsecond, it is within one datagram of the real one
  abbrev pub IsReal : List ControllerCall → ControllerCall → List ControllerCall → ℕ → Type 0
  IsReal later reduction earlier k =
      let curve = curve_of reduction earlier k in
      let time = time_by (later ++ reduction ∷ earlier) in
      curve_then later reduction earlier k < largest_u64 → IsSteady curve time
      → IsNearReal curve (window_by window now mtu (reduction ∷ earlier)) time

  -- an acknowledgement of these bytes in congestion avoidance, after later calls after a reduction
  pub record MovesTowardCurve (call : ControllerCall) (later : List ControllerCall) (reduction : ControllerCall)
      (earlier : List ControllerCall) (k bytes : ℕ) : Type 0 where
    -- it raises the window to the curve's value or higher, or by half of its bytes if that is less
    pub up : min (curve_then (call ∷ later) reduction earlier k)
        (sum_to_most (window_by window now mtu (later ++ reduction ∷ earlier)) (bytes / 2))
        ≤ window_by window now mtu (call ∷ later ++ reduction ∷ earlier)
    -- It raises it exactly to the curve's value if half of the bytes reach it, and no lower limit is above it. These
    -- limits are Reno's window, what the reduction left, and the minimum window of an MTU set since.
    pub on : curve_then (call ∷ later) reduction earlier k
        ≤ sum_to_most (window_by window now mtu (later ++ reduction ∷ earlier)) (bytes / 2)
        → floor_by window now mtu later (reduction ∷ earlier) ≤ curve_then (call ∷ later) reduction earlier k
        → reno_by window now mtu (call ∷ later ++ reduction ∷ earlier)
        ≤ parts * curve_then (call ∷ later) reduction earlier k
        → window_by window now mtu (call ∷ later ++ reduction ∷ earlier)
        ≡ curve_then (call ∷ later) reduction earlier k

  -- the sum of half the bytes of each acknowledgement after earlier calls
  abbrev pub halves_in : List ControllerCall → List ControllerCall → ℕ
  halves_in [] earlier = 0
  halves_in (call ∷ later) earlier =
      bytes_of (turn_at window now mtu call (later ++ earlier)) / 2 + halves_in later earlier

  -- the window is back at the plateau, as far as acknowledgements raised it since: by half of their bytes each
  abbrev pub HasReturnedToWmax : List ControllerCall → List ControllerCall → ControllerCall → List ControllerCall
      → Type 0
  HasReturnedToWmax later until reduction earlier =
      let there = until ++ reduction ∷ earlier in
      min (plateau_by (reduction ∷ earlier)) (window_by window now mtu there + halves_in later there)
      ≤ window_by window now mtu (later ++ there)

  -- from K on
  abbrev pub ReturnsToWmax : List ControllerCall → List ControllerCall → ControllerCall → List ControllerCall → ℕ
      → Type 0
  ReturnsToWmax later until reduction earlier k =
      k ≤ time_by (until ++ reduction ∷ earlier) / microseconds → HasReturnedToWmax later until reduction earlier

  -- so the window before the reduction is reached again at K, in whole microseconds, as soon as acknowledgements raise
  -- it that far. At most 3/10 of it is missing, which those of a round trip make up for
  pub record IsReachedAtK (later until : List ControllerCall) (reduction : ControllerCall)
      (earlier : List ControllerCall) (k : ℕ) : Type 0 where
    -- the plateau is the window before, unless that was below the last plateau
    pub plateau : plateau_by earlier ≤ window_by window now mtu earlier
        → plateau_by (reduction ∷ earlier) ≡ window_by window now mtu earlier
    pub lacking : beta_numerator * window_by window now mtu earlier
        ≤ beta_denominator * window_by window now mtu (until ++ reduction ∷ earlier) + 9
    pub sooner : time_by (until ++ reduction ∷ earlier) / microseconds < k
        → curve_then until reduction earlier k ≤ plateau_by (reduction ∷ earlier)
    pub back : ReturnsToWmax later until reduction earlier k
