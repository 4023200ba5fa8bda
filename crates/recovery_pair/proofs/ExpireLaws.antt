-- The loss detection timer acts at its time. What is due has a cause: a packet that is lost by its age, an
-- ack-eliciting packet in flight, a packet that waits for room, or a client that does not know its address validated.
use Rattle.std.proofs.Common.{◌≡◌, ◌≢◌, ◌⊎◌, ◌≤◌, ℕ, ◌||◌, true, false, Bool, Option, None, Some, option_map, Result, Ok, Err, inl, inr, refl, sym, ap, subst, ◌∙◌, arith}
use Rattle.std.specs.Prelude.{IsSomeAnd, if◌then◌else◌, nat_le}
use Rattle.std.proofs.lemmas.Bool.Decides.{nat_tests}
use Rattle.std.proofs.lemmas.Option.{none-some, same_Some}
use Rattle.std.specs.Option.{option_and_then}
use Rattle.recovery_base.specs.declared.below.SpaceId.{SpaceId}
use Rattle.recovery_losses.specs.declared.due.Due.{Due}
use Rattle.recovery_losses.specs.declared.due.Due.TheVariants.{AntiDeadlock, Losses, Probes}
use Rattle.recovery_losses.specs.declared.variables.Variables.{Variables}
use Rattle.recovery_losses.specs.Timeouts.{probe_start_of}
use Rattle.recovery_losses.specs.Variables.{is_address_validated, is_probe_due, timed_out, waiting_since}
use Rattle.recovery_spaces.specs.Discarded.{is_discarded}
use Rattle.recovery_spaces.specs.Spaces.{Space, packets_of}
use Rattle.recovery_paths.specs.PathStates.{is_blocked}
use Rattle.recovery_history.specs.RecoveryState.{RecoveryState}
use Rattle.recovery_sender.specs.declared.sender.Sender.{Sender}
use Rattle.recovery_sender.specs.declared.sender.SenderError.{SenderError}
use Rattle.recovery_sender.specs.declared.sender.probes.Timeout.{Timeout}
use Rattle.recovery_sender.specs.declared.sender.probes.Timeout.TheVariants.{Nothing, Lost, Probe}
use Rattle.recovery_sender.specs.Calls.{due_now}
use Rattle.recovery_sender.specs.Promises.Liveness.{IsAckOwed, loss_time_in}
use Rattle.recovery_sender.specs.Senders.{state_in}
use Rattle.recovery_sender.specs.Spaces.{space_in}
use Rattle.recovery_sender.specs.Timeouts.{IsEarly, TimeoutResult}
use Rattle.recovery_sender.specs.Timer.{behind, deadlock_space, due_of, has_eliciting, loss_due, probe_due, probe_in, pto_of, waits, least_datagram}
use Rattle.recovery_sender.proofs.DueLaws.{IfDue, or_has, soonest_has, unless_has}
use Rattle.recovery_pair.specs.AddressKnown.{Known}
use Rattle.recovery_pair.specs.Expires.{ActsInTime, AsksIn, ExpiresBy, IsDue, IsLossDue, expired}
use Rattle.recovery_pair.specs.Timed.{IsTimedAs}
use Rattle.recovery_pair.proofs.FilledLaws.{here_itself}

-- ---- what is due

module _ {K P M : Type 0} (recovery : RecoveryState K P M) (variables : Variables) where
  abbrev CauseOf : ℕ → Due → Type 0
  CauseOf time (Losses space) = loss_time_in recovery space ≡ Some time
  CauseOf time (Probes space) = IsAckOwed recovery variables space ⊎ (waiting_since variables space ≢ None)
  CauseOf time (AntiDeadlock space) = is_address_validated variables ≡ false

  abbrev HasCause : Option (ℕ × Due) → Type 0
  HasCause = IfDue (λ due. CauseOf due.0 due.1)

  lost : (space : SpaceId) (time : Option ℕ) → loss_time_in recovery space ≡ time
      → HasCause (option_map (λ time. (time, Losses space)) time)
  lost space None is = tt
  lost space (Some time) is = is

  probe : (space : SpaceId) → waits recovery variables space ≡ false → (there : Option (Space P M))
      → space_in recovery space ≡ there → HasCause (option_and_then (probe_in recovery variables space) there)
  probe space goes None is = tt
  probe space goes (Some here) is = by (has_eliciting (packets_of here)) refl (waiting_since variables space) refl
      here.time_of_last_ack_eliciting_packet
    where
      by : (elicits : Bool) → has_eliciting (packets_of here) ≡ elicits → (since : Option ℕ)
          → waiting_since variables space ≡ since → (sent : Option ℕ)
          → HasCause (option_map (λ start. (behind start (pto_of recovery variables space), Probes space))
          (probe_start_of elicits since sent))
      by true elicits since held None = tt
      by true elicits since held (Some sent) =
          inl (record { here = here; lives = is; elicits = elicits; goes = goes })
      by false elicits None held sent = tt
      by false elicits (Some since) held None = inr (λ none. none-some since (sym none ∙ held))
      by false elicits (Some since) held (Some sent) = inr (λ none. none-some since (sym none ∙ held))

  waiting : (space : SpaceId) (test : Bool) → waits recovery variables space ≡ test
      → HasCause (if test then None else option_and_then (probe_in recovery variables space) (space_in recovery space))
  waiting space true is = tt
  waiting space false is = probe space is (space_in recovery space) refl

  deadlock : (known : Bool) → is_address_validated variables ≡ known → (gone : Bool) (time : ℕ)
      → HasCause (if known || gone then None else Some (time, AntiDeadlock (deadlock_space recovery variables)))
  deadlock true is gone time = tt
  deadlock false is true time = tt
  deadlock false is false time = is

  due_caused : HasCause (due_of recovery variables)
  due_caused = let Cause = λ (due : ℕ × Due). CauseOf due.0 due.1 in
      or_has Cause _ _ (soonest_has Cause (loss_due recovery) (λ space. lost space _ refl))
      (unless_has Cause (is_blocked recovery.paths.current.state least_datagram) _
      (or_has Cause _ _ (soonest_has Cause (probe_due recovery variables) (λ space. waiting space _ refl))
      (deadlock _ refl (is_discarded (deadlock_space recovery variables) recovery.discarded) _)))

-- ---- by now

early_of : (now : ℕ) (due : Option (ℕ × Due))
    → option_and_then (λ (due : ℕ × Due). if nat_le due.0 now then Some due.1 else None) due ≡ None
    → IsEarly now (option_map (λ due. due.0) due)
early_of now None none = tt
early_of now (Some due) none = by (nat_le due.0 now) refl none
  where
    by : (test : Bool) → nat_le due.0 now ≡ test → (if test then Some due.1 else None) ≡ None → IsEarly now (Some due.0)
    by true is none = absurd (none-some due.1 (sym none))
    by false is none = grind (arith, nat_tests, is)

found_by : (now : ℕ) (due : Option (ℕ × Due)) (kind : Due)
    → option_and_then (λ (due : ℕ × Due). if nat_le due.0 now then Some due.1 else None) due ≡ Some kind
    → (time : ℕ) × (due ≡ Some (time, kind)) × (time ≤ now)
found_by now None kind is = absurd (none-some kind is)
found_by now (Some due) kind is = by (nat_le due.0 now) refl is
  where
    by : (test : Bool) → nat_le due.0 now ≡ test → (if test then Some due.1 else None) ≡ Some kind
        → (time : ℕ) × (Some due ≡ Some (time, kind)) × (time ≤ now)
    by true less found =
        (due.0, ap (λ (kind : Due). Some (due.0, kind)) (same_Some due.1 kind found), grind (arith, nat_tests, less))
    by false more found = absurd (none-some kind found)

some_and : (now : ℕ) (due : Option ℕ) (time : ℕ) → due ≡ Some time → time ≤ now → IsSomeAnd due (λ time. time ≤ now)
some_and now due time is less = rw is less

module _ {F Q R C K S M P : Type 0} {f : _} {c : _} {q : _} {m : _} {r : _} (now : ℕ)
    (old new : Sender F Q R C K S M P f c q m r) where
  probed : (space : SpaceId) (count : ℕ) → new.variables ≡ timed_out space count now old.variables
      → is_probe_due new.variables space ≡ true
  probed space count is = rw is (here_itself space)

  pub timeout_asks : (result : Result Timeout SenderError) → TimeoutResult now old new result
      → AsksIn (expired result) new
  timeout_asks (Ok (Probe space count)) is = probed space count is.1.variables
  timeout_asks result is = tt

module _ {F Q R C K S M P : Type 0} {f : _} {c : _} {q : _} {m : _} {r : _} (now : ℕ)
    (old new : Sender F Q R C K S M P f c q m r) (known : Known) (timed : IsTimedAs known old) where
  -- the timer is due, and why
  due_since : (kind : Due) → due_now now (state_in old) old.variables ≡ Some kind
      → IsDue now old × ((time : ℕ) × CauseOf (state_in old) old.variables time kind × (time ≤ now))
  due_since kind is =
      let found = found_by now (due_of (state_in old) old.variables) kind is in (
        some_and now _ found.0 (timed.2 ∙ ap (λ (due : Option (ℕ × Due)). option_map (λ due. due.0) due) found.1)
            found.2,
        (
          found.0,
          subst (HasCause (state_in old) old.variables) found.1 (due_caused (state_in old) old.variables),
          found.2,
        ),
      )

  loss_since : (space : SpaceId) → due_now now (state_in old) old.variables ≡ Some (Losses space)
      → IsDue now old × IsLossDue now space old
  loss_since space is =
      let since = due_since (Losses space) is in (since.0, some_and now _ since.1.0 since.1.1 since.1.2)

  timeout_acts : (result : Result Timeout SenderError) → TimeoutResult now old new result
      → ActsInTime now (expired result) old new
  timeout_acts (Ok Nothing) is = subst (IsEarly now) (sym timed.2) (early_of now _ is.0)
  timeout_acts (Ok (Lost space losses)) is = loss_since space is.0
  timeout_acts (Ok (Probe space count)) (inl probes, does) =
      let since = due_since (Probes space) probes.0 in
      (since.0, probed now old new space count does.variables, inl (probes.1, since.1.1))
  timeout_acts (Ok (Probe space count)) (inr ends, does) =
      let since = due_since (AntiDeadlock space) ends.0 in
      (since.0, probed now old new space count does.variables, inr (ends.1, since.1.1))
  timeout_acts (Err refusal) is =
      let since = loss_since is.0.0 is.0.1 in (since.0, is.1, is.0.0, since.1)

module _ {F Q R C K S M P : Type 0} {f : _} {c : _} {q : _} {m : _} {r : _} (now : ℕ)
    (old new : Sender F Q R C K S M P f c q m r) where
  pub timeout_expires : (result : Result Timeout SenderError) → TimeoutResult now old new result
      → ExpiresBy now (expired result) old new
  timeout_expires (Ok timeout) is = (is, λ known timed. timeout_acts now old new known timed (Ok timeout) is)
  timeout_expires (Err refusal) is = (is, λ known timed. timeout_acts now old new known timed (Err refusal) is)
