-- A call that was delayed until a time passes from that time on, even if others ask in between. The clause
-- `passes_at_reported_time` of `run` rests on it.
use Rattle.std.proofs.Common.{◌≡◌, ℕ, suc, ◌<◌, ◌≤◌, List, [], ◌∷◌, ◌++◌, map, length, cond, Bool, true, false, ap, refl, arith, inl, inr}
use Rattle.std.proofs.Math.Nat.{mul-le-mul_left}
use Rattle.std.proofs.lemmas.Bool.{cases_lt}
use Rattle.std.specs.List.{AllByRecursion}
use Rattle.recovery_congestion.specs.ReportedTime.{HasRoom, PassesAtMoment}
use Rattle.recovery_congestion.specs.Progress.{IsInReach}
use Rattle.recovery_congestion.specs.PacerLog.{PacerEntry, asked, bucket_by}
use Rattle.recovery_congestion.specs.Pacing.{Bucket, PacerCall, resized, refilled, may_send, paced, pacer_delay}
use Rattle.recovery_congestion.proofs.ProgressLaws.{Fills, fills_refilled, paced-knows, passes}

module _ (call : PacerCall) (made : Bucket) (earlier : List PacerEntry) (some : 0 < call.rtt) where
  abbrev first : Bucket
  first = paced call (bucket_by made earlier)

  -- with the same RTT, MTU and window
  abbrev IsAlike : PacerCall → Type 0
  IsAlike other = other ≡ record call { bytes = other.bytes; now = other.now }

  -- one more call, whatever it asks
  fills_asked : (other : PacerCall) (questions : ℕ) (bucket : Bucket) → IsAlike other
      → Fills call first questions bucket → Fills call first (suc questions) (paced other bucket)
  fills_asked other questions bucket alike fills = rw same (by_test (may_send other bucket))
    where
      same : resized other.rtt other.window other.mtu bucket ≡ bucket
      same = grind arith

      by_test : (pass : Bool) → Fills call first (suc questions)
          (cond pass bucket (refilled other.rtt other.window other.now bucket))
      by_test true = (fills.0, fills.1, λ below. omega (arith, fills.2 below))
      by_test false = rw (ap (λ (c : PacerCall). c.rtt) alike, ap (λ (c : PacerCall). c.window) alike)
          (fills_refilled call first _ _ _ some fills)

  -- the state after this many calls
  fills_by : (between : List PacerCall) → AllByRecursion IsAlike between
      → Fills call first (length between) (bucket_by made (map asked between ++ asked call ∷ earlier))
  fills_by [] _ = (refl, paced-knows _ _, λ below. omega arith)
  fills_by (other ∷ between) alike = fills_asked _ _
      _ alike.0 (fills_by between alike.1)

pub passes_at_moment : (made : Bucket) (entries : List PacerEntry) (later : PacerCall)
    → PassesAtMoment made entries later (pacer_delay later (paced later (bucket_by made entries)))
passes_at_moment made _ later between call earlier until is alike delays like room before_end late =
    let reach : IsInReach call (paced call (bucket_by made earlier)) =
    record { fits = fits (length between) (paced call _) room; uncut = room.1; window = room.0 } in
    rw is (passes _ _ _ _ _ _ 0 delays like reach before_end (omega arith) (omega (arith, room.2))
    (λ some. fills_by call made earlier some between alike))
  where
    fits : (questions : ℕ) (bucket : Bucket) → HasRoom call questions bucket → call.bytes ≤ bucket.capacity
    fits questions bucket room = elim (cases_lt bucket.capacity call.bytes) [
      | inl low ↦ absurd (omega (arith, mul-le-mul_left call.rtt low, room.0, room.2))
      | inr enough ↦ enough
    ]
