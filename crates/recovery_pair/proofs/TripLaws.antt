-- The falls of a window are a trip apart.
use Rattle.std.proofs.Common.{ℕ, ◌≤◌, inl, inr, List, [], ◌∷◌, Result, arith}
use Rattle.recovery_sender.specs.declared.sender.Sender.{Sender}
use Rattle.recovery_sender.specs.declared.sender.SenderError.{SenderError}
use Rattle.recovery_pair.specs.declared.steps.End.{End}
use Rattle.recovery_pair.specs.declared.steps.End.TheVariants.{Client, Server}
use Rattle.recovery_pair.specs.declared.steps.LocalStep.TheVariants.{Expire}
use Rattle.recovery_pair.specs.declared.steps.PairAnswer.{PairAnswer}
use Rattle.recovery_pair.specs.declared.steps.PairStep.{PairStep}
use Rattle.recovery_pair.specs.declared.steps.PairStep.TheVariants.{Arrive, Local}
use Rattle.recovery_pair.specs.Falls.{BeginsAt, FallOnce, FallsAt, FallsByRecovery, KeepsRecovery, controller_in, found_at, recovery_start_in}
use Rattle.recovery_pair.specs.Logs.{PairEvent, PairLog}
use Rattle.recovery_pair.specs.Trips.{FallApart, AreInTimeOrder, FallAlong, FallLater, HasFallen, at_end}

order_before : (time later : ℕ) (steps : List PairStep) → time ≤ later → AreInTimeOrder later steps
    → AreInTimeOrder time steps
order_before time later [] less order = tt
order_before time later (Arrive at now ∷ steps) less order =
    let first = order.0 in (omega (arith, less, first), order.1, order.2)
order_before time later (Local end (Expire now) ∷ steps) less order =
    let first = order.0 in (omega (arith, less, first), order.1, order.2)
order_before time later (step ∷ steps) less order = order_before time later steps less order

order_next : (time : ℕ) (step : PairStep) (steps : List PairStep) → AreInTimeOrder time (step ∷ steps)
    → AreInTimeOrder time steps
order_next time (Arrive at now) steps order = order_before time now steps order.0 order.2
order_next time (Local end (Expire now)) steps order = order_before time now steps order.0 order.2
order_next time step steps order = order

-- a recovery period begins then
begun_then : (time start : ℕ) (step : PairStep) (steps : List PairStep) → AreInTimeOrder time (step ∷ steps)
    → BeginsAt step start → (time ≤ start) × (found_at step ≤ start) × AreInTimeOrder (found_at step) steps
begun_then time start (Arrive at now) steps order is =
    let first = order.0 in
    let early = order.1 in (omega (arith, is, first, early), omega (arith, is, early), order.2)
begun_then time start (Local end (Expire now)) steps order is =
    let first = order.0 in
    let early = order.1 in (omega (arith, is, first, early), omega (arith, is, early), order.2)
begun_then time start step steps order never = absurd never

module _ {F Q R C K S M P : Type 0} {f : _} {c : _} {q : _} {m : _} {r : _} (end : End)
    (client_after server_after : Sender F Q R C K S M P f c q m r) (falls : FallsByRecovery c.words) where
  once_at : (one : End) (log : PairLog) (event : PairEvent)
      (client server client_next server_next : Sender F Q R C K S M P f c q m r)
      → FallOnce log event client server client_next server_next
      → FallsAt log event one (at_end one client server) (at_end one client_next server_next)
  once_at Client log event client server client_next server_next once = (once falls).0
  once_at Server log event client server client_next server_next once = (once falls).1

  -- without a recovery period nothing falls
  never : (old new : Sender F Q R C K S M P f c q m r)
      → KeepsRecovery c.words (controller_in old) (controller_in new) → HasFallen old new → ⊥
  never old new kept (inl fell) = let up = kept.window in omega (arith, fell, up)
  never old new kept (inr changed) = changed kept.threshold

  later_falls : (time : ℕ) (log : PairLog) (steps : List PairStep) (answers : List (Result PairAnswer SenderError))
      (client server : Sender F Q R C K S M P f c q m r)
      (along : FallAlong log steps answers client server client_after server_after) → AreInTimeOrder time steps
      → time ≤ recovery_start_in (at_end end client server)
      → FallLater end time log steps answers client server client_after server_after along
  later_falls time log [] answers client server along order before = tt
  later_falls time log (step ∷ steps) [] client server along order before = absurd along
  later_falls time log (step ∷ steps) (answer ∷ answers) client server along order before =
      by (once_at end log (step, answer) client server along.0 along.1 along.2)
      (later_falls time ((step, answer) ∷ log) steps answers along.0 along.1 along.3
      (order_next time step steps order))
    where
      by : FallsAt log (step, answer) end (at_end end client server) (at_end end along.0 along.1)
          → (time ≤ recovery_start_in (at_end end along.0 along.1)
          → FallLater end time ((step, answer) ∷ log) steps answers along.0 along.1 client_after server_after along.3)
          → FallLater end time log (step ∷ steps) (answer ∷ answers) client server client_after server_after along
      by (inl kept) rest =
          let same = kept.start in (
            λ fell. absurd (never (at_end end client server) (at_end end along.0 along.1) kept fell),
            rest (omega (
              arith,
              before,
              same,
            )),
          )
      by (inr begun) rest = (
        λ fell. elim begun.cause [
          | inl persists ↦ inl persists
          | inr lost ↦ (let less = lost.3 in inr (lost.0, lost.1, lost.2, omega (arith, before, less)))
        ],
        rest (begun_then time _ step steps order begun.begins).0,
      )

  pub falls_apart : (time : ℕ) (log : PairLog) (steps : List PairStep)
      (answers : List (Result PairAnswer SenderError)) (client server : Sender F Q R C K S M P f c q m r)
      (along : FallAlong log steps answers client server client_after server_after) → AreInTimeOrder time steps
      → FallApart end log steps answers client server client_after server_after along
  falls_apart time log [] answers client server along order = tt
  falls_apart time log (step ∷ steps) [] client server along order = absurd along
  falls_apart time log (step ∷ steps) (answer ∷ answers) client server along order = (
    λ fell. by fell (once_at end log (step, answer) client server along.0 along.1 along.2),
    falls_apart time ((step, answer) ∷ log) steps answers along.0 along.1 along.3 (order_next time step steps order),
  )
    where
      by : HasFallen (at_end end client server) (at_end end along.0 along.1)
          → FallsAt log (step, answer) end (at_end end client server) (at_end end along.0 along.1)
          → FallLater end (found_at step) ((step, answer) ∷ log) steps answers along.0 along.1 client_after server_after
          along.3
      by fell (inl kept) = absurd (never (at_end end client server) (at_end end along.0 along.1) kept fell)
      by fell (inr begun) =
          let is = begun_then time _ step steps order begun.begins in
          later_falls (found_at step) ((step, answer) ∷ log) steps answers along.0 along.1 along.3 is.2 is.1
