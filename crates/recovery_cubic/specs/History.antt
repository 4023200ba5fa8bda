-- What each call is to a CUBIC controller (RFC 9438), and its state after all of them. Lists are newest first.
use Rattle.std.specs.Prelude.{ℕ, nat_eq, nat_le, nat_lt, if◌then◌else◌, List}
use Rattle.recovery_congestion.specs.Calls.{ControllerCall, acks, congests, ends_acks, sends, takes_mtu}
use Rattle.recovery_congestion.specs.Rounds.{content_by}
use Rattle.recovery_cubic.specs.declared.cubic.Cubic.{Cubic}
use Rattle.recovery_cubic.specs.Cubic.{cubic_made, cubic_words}

pub data CubicEntry : Type 0 where
  -- a packet that counts in flight is sent, which ends an idle period (RFC 9438, 5.8)
  resumes : (now : ℕ) → CubicEntry
  -- the end of an ACK, with this many bytes in flight: if there are none an idle period begins, or continues
  finds : (now in_flight : ℕ) → CubicEntry
  -- an acknowledgement in congestion avoidance, not application-limited: the window may grow
  grows : (now bytes : ℕ) → CubicEntry
  -- an application-limited acknowledgement (RFC 9438, 5.8)
  waits : (now : ℕ) → CubicEntry
  -- a reduction (RFC 9438, 4.6): a stage of congestion avoidance begins
  reduces : (now : ℕ) → CubicEntry
  -- persistent congestion (RFC 9002, 7.6.2): slow start begins, on a plateau (RFC 9438, 4.8)
  persists : (now : ℕ) → CubicEntry
  -- an acknowledgement in slow start (RFC 9438, 4.10): the plateau is the window after it
  starts : (now bytes : ℕ) → CubicEntry
  -- the MTU changes
  resizes : (mtu : ℕ) → CubicEntry
  -- nothing, as for all packets that were sent before the last recovery began (RFC 9002, 7.3.2)
  passes : CubicEntry

abbrev pub turn_of : ControllerCall → Cubic → CubicEntry
turn_of (sends now bytes number) cubic = if nat_eq bytes 0 then passes else resumes now
turn_of (acks now sent bytes limited rtt) cubic =
    if nat_le sent cubic.recovery_start_time then passes else if limited then waits now
    else if nat_lt cubic.window cubic.ssthresh then starts now bytes else grows now bytes
turn_of (ends_acks now in_flight limited largest) cubic = finds now in_flight
turn_of (congests now sent persistent lost) cubic =
    if nat_le sent cubic.recovery_start_time then passes else if persistent then persists now else reduces now
turn_of (takes_mtu mtu) cubic = resizes mtu

-- if one is made with this window, at this time, with this MTU
module _ (window now mtu : ℕ) where
  -- its state after calls
  abbrev pub cubic_by : List ControllerCall → Cubic
  cubic_by = content_by cubic_words (cubic_made window now mtu)

  abbrev pub window_by : List ControllerCall → ℕ
  window_by calls = (cubic_by calls).window

  abbrev pub turn_at : ControllerCall → List ControllerCall → CubicEntry
  turn_at call earlier = turn_of call (cubic_by earlier)
