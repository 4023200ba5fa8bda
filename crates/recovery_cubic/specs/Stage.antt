-- A stage of congestion avoidance: its curve, its time, and the Reno-friendly estimate (RFC 9438, 4.2, 4.3 and 5.8).
use Rattle.std.specs.Prelude.{ℕ, ◌+◌, ◌-◌, ◌*◌, ◌/◌, ◌^◌, min, max, Option, None, Some}
use Rattle.recovery_base.specs.Units.{largest_u64, microseconds}
use Rattle.recovery_congestion.specs.NewReno.{sum_to_most}
use Rattle.recovery_cubic.specs.declared.curve.Curve.{Curve}
use Rattle.recovery_cubic.specs.declared.stage.Stage.{Stage}
use Rattle.recovery_cubic.specs.Curve.{flat_curve, curve_at}

-- the estimate counts in fractions of a byte, of which this many are a byte
abbrev pub parts : ℕ
parts = 2 ^ 32

-- a quotient, rounded up
abbrev pub quotient_up : ℕ → ℕ → ℕ
quotient_up a b = (a + (b - 1)) / b

-- it begins with this window, as Reno would (RFC 9438, 4.3)
abbrev pub stage_from : Curve → ℕ → ℕ → Stage
stage_from curve window now = record { curve = curve; estimate = parts * window; elapsed = 0; last = now }

-- it begins on the plateau (RFC 9438, 4.8)
abbrev pub flat_stage : ℕ → ℕ → ℕ → Stage
flat_stage window datagram now = stage_from (flat_curve window datagram) window now

-- the time since the previous time counts (RFC 9438, 4.2)
abbrev pub counted : ℕ → Stage → Stage
counted now stage = record stage {
  elapsed = sum_to_most stage.elapsed (now - stage.last);
  last = max stage.last now;
}

-- it does not count: application-limited (RFC 9438, 5.8)
abbrev pub uncounted : ℕ → Stage → Stage
uncounted now stage = record stage { last = max stage.last now }

-- an idle period ended now, if there was one: the counted time begins later by its length, but not after its end (RFC
-- 9438, 5.8)
abbrev pub past_idle : ℕ → Option ℕ → ℕ → ℕ
past_idle now None last = last
past_idle now (Some since) last = max last (min now (last + (now - since)))

abbrev pub resumed : ℕ → Option ℕ → Stage → Stage
resumed now idle stage = record stage { last = past_idle now idle stage.last }

-- Reno's window grows
abbrev pub raised : ℕ → Stage → Stage
raised step stage = record stage { estimate = min (stage.estimate + step) (parts * largest_u64) }

-- the curve at the whole microseconds counted
abbrev pub curve_window : Stage → ℕ
curve_window stage = curve_at stage.curve (stage.elapsed / microseconds)
