-- The falls of a window are a trip apart (RFC 9002, 7.3.2): a later one is for a packet that was sent after an earlier
-- one, unless it is for persistent congestion (7.6.2).
use Rattle.std.specs.Prelude.{◌≡◌, ◌≢◌, ℕ, ◌<◌, ◌≤◌, ◌⊎◌, min, true, List, [], ◌∷◌, Result}
use Rattle.recovery_base.specs.declared.below.SpaceId.{SpaceId}
use Rattle.recovery_base.specs.Units.{largest_u64}
use Rattle.recovery_losses.specs.Losses.{IsOneOf}
use Rattle.recovery_sender.specs.Bounds.{latest_start}
use Rattle.recovery_sender.specs.Calls.{window_of}
use Rattle.recovery_sender.specs.Senders.{state_in}
use Rattle.recovery_sender.specs.declared.sender.Sender.{Sender}
use Rattle.recovery_sender.specs.declared.sender.SenderError.{SenderError}
use Rattle.recovery_pair.specs.declared.steps.End.{End}
use Rattle.recovery_pair.specs.declared.steps.End.TheVariants.{Client, Server}
use Rattle.recovery_pair.specs.declared.steps.LocalStep.TheVariants.{Expire}
use Rattle.recovery_pair.specs.declared.steps.PairAnswer.{PairAnswer}
use Rattle.recovery_pair.specs.declared.steps.PairStep.{PairStep}
use Rattle.recovery_pair.specs.declared.steps.PairStep.TheVariants.{Arrive, Local}
use Rattle.recovery_pair.specs.Falls.{FallOnce, controller_in, found_at}
use Rattle.recovery_pair.specs.LeastWindows.{persists_at}
use Rattle.recovery_pair.specs.Logs.{PairEvent, PairLog, time_sent}
use Rattle.recovery_pair.specs.Promises.Resends.{lost_by}

-- from this time on, the times do not decrease at which congestion may be found, and they end before the clock does
abbrev pub AreInTimeOrder : ℕ → List PairStep → Type 0
AreInTimeOrder time [] = Unit {0}
AreInTimeOrder time (Arrive at now ∷ steps) = (time ≤ now) × (now ≤ latest_start) × AreInTimeOrder now steps
AreInTimeOrder time (Local end (Expire now) ∷ steps) = (time ≤ now) × (now ≤ latest_start) × AreInTimeOrder now steps
AreInTimeOrder time (step ∷ steps) = AreInTimeOrder time steps

-- persistent congestion is reported to an endpoint, or the loss of a packet that it sent after this time
abbrev pub IsForLater : End → ℕ → PairLog → PairEvent → Type 0
IsForLater end time log event = (persists_at end event ≡ true)
    ⊎ (space : SpaceId) × (n : ℕ) × IsOneOf n (lost_by end space event) × (time < time_sent end space n log)

module _ {F Q R C K S M P : Type 0} {f : _} {c : _} {q : _} {m : _} {r : _} where
  -- at each of these steps the windows fall as stated
  abbrev pub FallAlong : PairLog → List PairStep → List (Result PairAnswer SenderError)
      → Sender F Q R C K S M P f c q m r → Sender F Q R C K S M P f c q m r → Sender F Q R C K S M P f c q m r
      → Sender F Q R C K S M P f c q m r → Type 0
  FallAlong log [] [] client server client_after server_after = (client_after ≡ client) × (server_after ≡ server)
  FallAlong log (step ∷ steps) (answer ∷ answers) client server client_after server_after =
      (client_next : Sender F Q R C K S M P f c q m r) × (server_next : Sender F Q R C K S M P f c q m r)
      × FallOnce log (step, answer) client server client_next server_next
      × FallAlong ((step, answer) ∷ log) steps answers client_next server_next client_after server_after
  FallAlong log steps answers client server client_after server_after = ⊥

  -- the sender of an endpoint
  abbrev pub at_end : End → Sender F Q R C K S M P f c q m r → Sender F Q R C K S M P f c q m r
      → Sender F Q R C K S M P f c q m r
  at_end Client client server = client
  at_end Server client server = server

  -- its window, of 64 bits, falls, or its slow start threshold changes
  abbrev pub HasFallen : Sender F Q R C K S M P f c q m r → Sender F Q R C K S M P f c q m r → Type 0
  HasFallen old new = (window_of c.words (state_in new) < min (window_of c.words (state_in old)) largest_u64)
      ⊎ ((c.words.metrics (controller_in new)).ssthresh ≢ (c.words.metrics (controller_in old)).ssthresh)

  module _ (end : End) where
    -- each fall at these steps is for that
    abbrev pub FallLater : ℕ → (log : PairLog) (steps : List PairStep) (answers : List (Result PairAnswer SenderError))
        (client server client_after server_after : Sender F Q R C K S M P f c q m r)
        → FallAlong log steps answers client server client_after server_after → Type 0
    FallLater time log [] answers client server client_after server_after along = Unit {0}
    FallLater time log (step ∷ steps) [] client server client_after server_after along = ⊥
    FallLater time log (step ∷ steps) (answer ∷ answers) client server client_after server_after along =
        (HasFallen (at_end end client server) (at_end end along.0 along.1) → IsForLater end time log (step, answer))
        × FallLater time ((step, answer) ∷ log) steps answers along.0 along.1 client_after server_after along.3

    -- after each fall, the later falls are for what was sent after it
    abbrev pub FallApart : (log : PairLog) (steps : List PairStep) (answers : List (Result PairAnswer SenderError))
        (client server client_after server_after : Sender F Q R C K S M P f c q m r)
        → FallAlong log steps answers client server client_after server_after → Type 0
    FallApart log [] answers client server client_after server_after along = Unit {0}
    FallApart log (step ∷ steps) [] client server client_after server_after along = ⊥
    FallApart log (step ∷ steps) (answer ∷ answers) client server client_after server_after along =
        (HasFallen (at_end end client server) (at_end end along.0 along.1)
        → FallLater (found_at step) ((step, answer) ∷ log) steps answers along.0 along.1 client_after server_after
        along.3)
        × FallApart ((step, answer) ∷ log) steps answers along.0 along.1 client_after server_after along.3
