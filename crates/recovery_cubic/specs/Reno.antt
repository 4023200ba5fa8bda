-- What Reno's window would be (RFC 9438, 4.3), in fractions of a byte. Lists are newest first.
use Rattle.std.specs.Prelude.{ℕ, ◌+◌, ◌*◌, ◌≤◌, min, max, nat_le, if◌then◌else◌, List, [], ◌∷◌}
use Rattle.recovery_base.specs.Units.{largest_u64}
use Rattle.recovery_congestion.specs.Calls.{ControllerCall}
use Rattle.recovery_cubic.specs.Stage.{parts, quotient_up}
use Rattle.recovery_cubic.specs.Cubic.{datagram_of}
use Rattle.recovery_cubic.specs.History.{CubicEntry, grows, reduces, persists, starts, resizes, turn_at, window_by}
use Rattle.recovery_cubic.specs.Fractions.{alpha_denominator, alpha_numerator}

-- the growth by bytes acknowledged, for a window of two datagrams or more: alpha datagrams for a window of bytes,
-- rounded up. Alpha is 9/17, and 1 once the estimate reached the window before the reduction
abbrev pub reno_growth : ℕ → ℕ → ℕ → ℕ → ℕ → ℕ
reno_growth bytes window datagram prior estimate =
    let alpha = if nat_le (parts * prior) estimate then alpha_denominator else alpha_numerator in
    quotient_up (parts * alpha * datagram * bytes) (alpha_denominator * max window (2 * datagram))

-- the window before a reduction
abbrev pub prior_next : CubicEntry → ℕ → ℕ → ℕ
prior_next (reduces now) before prior = before
prior_next (persists now) before prior = before
prior_next turn before prior = prior

abbrev pub mtu_next : CubicEntry → ℕ → ℕ
mtu_next (resizes mtu) before = mtu
mtu_next turn before = before

-- a stage begins with the window after a call; the estimate saturates at 64 bits
abbrev pub reno_next : CubicEntry → ℕ → ℕ → ℕ → ℕ → ℕ → ℕ
reno_next (grows now bytes) before after datagram prior estimate =
    min (estimate + reno_growth bytes before datagram prior estimate) (parts * largest_u64)
reno_next (reduces now) before after datagram prior estimate = parts * after
reno_next (persists now) before after datagram prior estimate = parts * after
reno_next (starts now bytes) before after datagram prior estimate = parts * after
reno_next turn before after datagram prior estimate = estimate

module _ (window now mtu : ℕ) where
  -- the window before the last reduction, or the first one
  abbrev pub prior_by : List ControllerCall → ℕ
  prior_by [] = window
  prior_by (call ∷ earlier) =
      prior_next (turn_at window now mtu call earlier) (window_by window now mtu earlier) (prior_by earlier)

  abbrev pub mtu_by : List ControllerCall → ℕ
  mtu_by [] = mtu
  mtu_by (call ∷ earlier) = mtu_next (turn_at window now mtu call earlier) (mtu_by earlier)

  -- W_est
  abbrev pub reno_by : List ControllerCall → ℕ
  reno_by [] = parts * window
  reno_by (call ∷ earlier) =
      reno_next (turn_at window now mtu call earlier) (window_by window now mtu earlier)
      (window_by window now mtu (call ∷ earlier)) (datagram_of (mtu_by earlier)) (prior_by earlier) (reno_by earlier)

  -- the window is never below it
  abbrev pub NeverBelowReno : List ControllerCall → Type 0
  NeverBelowReno calls = reno_by calls ≤ parts * window_by window now mtu calls
