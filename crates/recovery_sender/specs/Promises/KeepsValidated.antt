-- The last validated path is kept (RFC 9000, 9.3.2: "an endpoint MUST revert to using the last validated peer address
-- when validation of a new peer address fails").
use Rattle.std.specs.Prelude.{◌≡◌, ◌⊎◌, true}
use Rattle.recovery_events.specs.declared.event.Event.{Event}
use Rattle.recovery_events.specs.declared.event.Event.TheVariants.{RevertPath}
use Rattle.recovery_paths.specs.declared.path_pair.PathName.{PathName}
use Rattle.recovery_paths.specs.declared.path_pair.PathName.TheVariants.{Current, Previous}
use Rattle.recovery_history.specs.History.{Beginning, History}
use Rattle.recovery_history.specs.Promises.Datagrams.{is_validated}
use Rattle.recovery_history.specs.RecoveryState.{RecoveryState}
use Rattle.recovery_sender.specs.declared.sender.Sender.{Sender}
use Rattle.recovery_sender.specs.PathChanges.{is_previous_validated}
use Rattle.recovery_sender.specs.Promises.Pasts.{ForEveryRun}
use Rattle.recovery_sender.specs.Senders.{state_in}

-- the peer's address was validated on the path in use or on the previous one
abbrev pub HasValidatedPath : {K P M : Type 0} → RecoveryState K P M → Type 0
HasValidatedPath recovery =
    (recovery.paths.current.state.validated ≡ true) ⊎ (is_previous_validated recovery ≡ true)

-- so by the events so far
abbrev pub IsValidatedBy : {F K Q S M P : Type 0} → PathName → Beginning F K Q S M P → History Q S M P → Type 0
IsValidatedBy name beginning past = is_validated beginning.config.validated name past ≡ true

module _ {F Q R C K S M P : Type 0} {f : _} {c : _} {q : _} {m : _} {r : _} (old new : Sender F Q R C K S M P f c q m r)
  where
    -- after a return the path in use is validated, by all events so far
    abbrev pub ReturnsToValidated : Event Q S M P → Type 0
    ReturnsToValidated RevertPath = ForEveryRun new (IsValidatedBy Current)
    ReturnsToValidated event = Unit {0}

    -- a change of the path in use
    pub record KeepsValidated (event : Event Q S M P) : Type 0 where
      -- if one of the paths was validated before, one is after it
      pub kept : HasValidatedPath (state_in old) → HasValidatedPath (state_in new)
      -- by all events so far
      pub by_events : HasValidatedPath (state_in old) → ForEveryRun new
          (λ beginning past. IsValidatedBy Current beginning past ⊎ IsValidatedBy Previous beginning past)
      pub returns : ReturnsToValidated event
