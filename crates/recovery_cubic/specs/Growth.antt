-- How much CUBIC's window grows in congestion avoidance (RFC 9438, 4.2): by half of what is acknowledged. Lists are
-- newest first.
use Rattle.std.specs.Prelude.{ℕ, ◌+◌, ◌*◌, ◌≤◌, max, List, [], ◌∷◌, ◌++◌}
use Rattle.recovery_congestion.specs.Calls.{ControllerCall}
use Rattle.recovery_cubic.specs.Cubic.{datagram_of}
use Rattle.recovery_cubic.specs.History.{CubicEntry, resumes, finds, grows, waits, resizes, passes, turn_at, window_by}

-- congestion avoidance continues: no slow start, no reduction
abbrev pub ContinuesEpoch : CubicEntry → Type 0
ContinuesEpoch (resumes now) = Unit {0}
ContinuesEpoch (finds now in_flight) = Unit {0}
ContinuesEpoch (grows now bytes) = Unit {0}
ContinuesEpoch (waits now) = Unit {0}
ContinuesEpoch (resizes mtu) = Unit {0}
ContinuesEpoch passes = Unit {0}
ContinuesEpoch turn = ⊥

-- the bytes of an acknowledgement that counts
abbrev pub bytes_of : CubicEntry → ℕ
bytes_of (grows now bytes) = bytes
bytes_of turn = 0

-- the minimum window of a new MTU (RFC 9002, 7.2; RFC 9438, 4.6)
abbrev pub least_of : CubicEntry → ℕ
least_of (resizes mtu) = 2 * datagram_of mtu
least_of turn = 0

module _ (window now mtu : ℕ) where
  -- it continues at each call after earlier ones
  abbrev pub ContinuesEpochThrough : List ControllerCall → List ControllerCall → Type 0
  ContinuesEpochThrough [] earlier = Unit {0}
  ContinuesEpochThrough (call ∷ later) earlier = ContinuesEpoch (turn_at window now mtu call (later ++ earlier))
      × ContinuesEpochThrough later earlier

  -- the bytes acknowledged after earlier calls, as far as they count
  abbrev pub acked_in : List ControllerCall → List ControllerCall → ℕ
  acked_in [] earlier = 0
  acked_in (call ∷ later) earlier = bytes_of (turn_at window now mtu call (later ++ earlier)) + acked_in later earlier

  -- what growth counts from: the window after earlier calls, or the largest minimum window of an MTU that was set
  -- later, if that is larger
  abbrev pub floor_by : List ControllerCall → List ControllerCall → ℕ
  floor_by [] earlier = window_by window now mtu earlier
  floor_by (call ∷ later) earlier =
      max (floor_by later earlier) (least_of (turn_at window now mtu call (later ++ earlier)))

  -- The window is at most half of these bytes above it, rounded up. In a round trip at most a window of bytes is
  -- acknowledged, so the window grows by at most half.
  pub record GrowsByHalf (later earlier : List ControllerCall) : Type 0 where
    pub bytes : 2 * window_by window now mtu (later ++ earlier)
        ≤ 2 * floor_by later earlier + acked_in later earlier + 1
    pub round : acked_in later earlier ≤ floor_by later earlier
        → 2 * window_by window now mtu (later ++ earlier) ≤ 3 * floor_by later earlier + 1
