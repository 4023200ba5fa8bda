-- The window (RFC 9002, 7): the bytes in flight on the path in use, and the window of its controller, by the events so
-- far.
use Rattle.std.specs.Prelude.{◌≡◌, ℕ, ◌+◌, ◌≤◌, Bool, true, false}
use Rattle.recovery_history.specs.History.{Beginning, History}
use Rattle.recovery_history.specs.Promises.Counted.{sum_on}
use Rattle.recovery_history.specs.Promises.Paths.{generations}
use Rattle.recovery_history.specs.RepliesAfter.{pasts_of}
use Rattle.recovery_sender.specs.declared.sender.packets.Transmission.{Transmission}
use Rattle.recovery_sender.specs.declared.sender.packets.Transmission.TheVariants.{Blocked, Full}

-- if the window is checked, a datagram is sent or delayed only if it fits; it is `Full` only if it is checked and does
-- not fit
abbrev pub IsByRoom : Bool → Type 0 → Transmission → Type 0
IsByRoom checked Fits (Full ack) = (checked ≡ true) × ¬ Fits
IsByRoom checked Fits Blocked = Unit {0}
IsByRoom checked Fits sent = checked ≡ true → Fits

module _ {F K Q S M P : Type 0} (beginning : Beginning F K Q S M P) (past : History Q S M P) where
  -- the sizes of the packets that were sent on the path and not acknowledged, lost, forgotten or discarded since (RFC
  -- 9002, B.2)
  abbrev pub flight_by : ℕ
  flight_by = sum_on (λ size eliciting. size) (generations past).current (λ space n. false) past

  -- the window of the path's controller, after all calls that it got
  abbrev pub window_by : ℕ
  window_by = beginning.words.window (pasts_of beginning past).current.kept.controller

  -- `bytes` more fit into the window
  abbrev pub FitsWindow : ℕ → Type 0
  FitsWindow bytes = flight_by + bytes ≤ window_by
