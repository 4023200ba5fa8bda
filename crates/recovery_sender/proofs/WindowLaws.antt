-- If the window is checked, a datagram is sent or delayed exactly if it fits, by the events so far.
use Rattle.std.proofs.Common.{◌≡◌, ◌+◌, ◌≤◌, ℕ, Bool, true, false, Option, None, Some, nat_lt, ap, refl, sym, subst, ◌∙◌, arith}
use Rattle.std.proofs.lemmas.Bool.Decides.{nat_tests}
use Rattle.std.specs.Prelude.{if◌then◌else◌}
use Rattle.recovery_congestion.specs.Controllers.{ControllerSemantics}
use Rattle.recovery_paths.specs.PathLog.{PathReplyInputs, PerPath}
use Rattle.recovery_paths.specs.PathStates.{is_blocked, path_delay}
use Rattle.recovery_spaces.specs.declared.paths.InFlight.{InFlight}
use Rattle.recovery_history.specs.History.{Beginning, History, begins, queue_model}
use Rattle.recovery_history.specs.Reachability.{ReachedBy}
use Rattle.recovery_history.specs.RecoveryState.{RecoveryState}
use Rattle.recovery_history.specs.ReplyInputs.{in_flight_on}
use Rattle.recovery_history.specs.RepliesAfter.{RepliesAfter, inputs_after}
use Rattle.recovery_history.proofs.CountedLaws.{Kept, flight_now, keeps_counts, none_counted}
use Rattle.recovery_history.proofs.Runs.{kept_after}
use Rattle.recovery_sender.specs.declared.sender.packets.Transmission.{Transmission}
use Rattle.recovery_sender.specs.declared.sender.packets.Transmission.TheVariants.{Blocked, Full, Transmitted}
use Rattle.recovery_sender.specs.declared.sender.Sender.{Sender}
use Rattle.recovery_sender.specs.Calls.{bytes_in_flight, is_full, paced_to, transmission, window_of}
use Rattle.recovery_sender.specs.Promises.Pasts.{ForEveryRun}
use Rattle.recovery_sender.specs.Promises.Window.{FitsWindow, IsByRoom, flight_by, window_by}
use Rattle.recovery_sender.specs.Senders.{state_in}

-- ---- by the state before

module _ (checked : Bool) (window wanted : ℕ) where
  paced_by_room : (ack : Bool) (delay : Option ℕ) → wanted ≤ window
      → IsByRoom checked (wanted ≤ window) (paced_to ack delay)
  paced_by_room ack None fits = λ asked. fits
  paced_by_room ack (Some until) fits = λ asked. fits

  by_room : (blocked full ack : Bool) (delay : Option ℕ) → nat_lt window wanted ≡ full → checked ≡ true
      → IsByRoom checked (wanted ≤ window)
      (if blocked then Blocked else if full then Full ack else paced_to ack delay)
  by_room true full ack delay is asked = tt
  by_room false true ack delay is asked = (asked, λ fits. grind (arith, nat_tests, is, fits))
  by_room false false ack delay is asked = paced_by_room ack delay (grind (arith, nat_tests, is))

  unasked : (blocked : Bool) → checked ≡ false
      → IsByRoom checked (wanted ≤ window) (if blocked then Blocked else Transmitted)
  unasked true is = tt
  unasked false is = λ asked. absurd (let never = sym is ∙ asked in cc)

module _ {K P M : Type 0} (words : ControllerSemantics K) (recovery : RecoveryState K P M) (now bytes : ℕ) where
  fits_now : (checked ack : Bool) → IsByRoom checked (bytes_in_flight recovery + bytes ≤ window_of words recovery)
      (transmission words recovery now bytes checked ack)
  fits_now true ack = by_room true (window_of words recovery) (bytes_in_flight recovery + bytes)
      (is_blocked recovery.paths.current.state bytes) (is_full words recovery bytes) ack
      (path_delay words now bytes recovery.paths.current.state) refl refl
  fits_now false ack = unasked false (window_of words recovery) (bytes_in_flight recovery + bytes)
      (is_blocked recovery.paths.current.state bytes) refl

-- ---- by the events before

module _ {F K Q S M P : Type 0} (beginning : Beginning F K Q S M P) (past : History Q S M P)
    (recovery : RecoveryState K P M) (came : ReachedBy beginning past recovery) where
  window_same : window_of beginning.words recovery ≡ window_by beginning past
  window_same = ap (λ (paths : PerPath (PathReplyInputs K)). beginning.words.window paths.current.state.controller)
      came.state_after.paths

  flight_same : bytes_in_flight recovery ≡ flight_by beginning past
  flight_same =
      let counts = kept_after (RepliesAfter beginning) (Kept beginning) (keeps_counts beginning)
      (none_counted beginning) past came.replies in
      ap (λ (flight : InFlight). flight.bytes) came.state_after.in_flight.current
      ∙ ap (λ (paths : PerPath (PathReplyInputs K)). (in_flight_on (inputs_after beginning past) paths.current).bytes)
      came.state_after.paths
      ∙ sym (flight_now beginning past counts.1).0

  fits_by : (now bytes : ℕ) (checked ack : Bool) (sent : Transmission)
      → sent ≡ transmission beginning.words recovery now bytes checked ack
      → IsByRoom checked (FitsWindow beginning past bytes) sent
  fits_by now bytes checked ack sent is =
      subst (λ (sent : Transmission). IsByRoom checked (FitsWindow beginning past bytes) sent) (sym is)
      (subst (λ (flight : ℕ). IsByRoom checked (flight + bytes ≤ window_by beginning past)
      (transmission beginning.words recovery now bytes checked ack)) flight_same
      (subst (λ (window : ℕ). IsByRoom checked (bytes_in_flight recovery + bytes ≤ window)
      (transmission beginning.words recovery now bytes checked ack)) window_same
      (fits_now beginning.words recovery now bytes checked ack)))

pub fits_exactly : {F Q R C K S M P : Type 0} {f : _} {c : _} {q : _} {m : _} {r : _}
    (sender : Sender F Q R C K S M P f c q m r) (now bytes : ℕ) (checked ack : Bool) (sent : Transmission)
    → sent ≡ transmission c.words (state_in sender) now bytes checked ack
    → ForEveryRun sender (λ beginning past. IsByRoom checked (FitsWindow beginning past bytes) sent)
fits_exactly {f = f} {c = c} {q = q} sender now bytes checked ack sent is config start random past came =
    fits_by (begins f.built c.words (queue_model q.contents q.words q.blank) config start random) past
    (state_in sender) came now bytes checked ack sent is
