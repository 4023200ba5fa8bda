-- How a sender changes the path in use. The last validated path is kept (RFC 9000, 9.3.2), and a client may send to its
-- new path at once (RFC 9000, 8.1).
use Rattle.std.specs.Prelude.{◌≡◌, ◌≤◌, ◌+◌, ◌++◌, ◌&&◌, not, Bool, true, false, List, [], ◌∷◌, Ok, Err}
use Rattle.std.specs.Option.{option_map_or}
use Rattle.recovery_base.specs.Units.{u64_limit}
use Rattle.recovery_events.specs.declared.event.Answer.{Answer}
use Rattle.recovery_events.specs.declared.event.Answer.TheVariants.{Done}
use Rattle.recovery_events.specs.declared.event.Event.{Event}
use Rattle.recovery_events.specs.declared.event.Event.TheVariants.{NewPath, RevertPath, Validated}
use Rattle.recovery_events.specs.declared.event.Refusal.{Refusal}
use Rattle.recovery_events.specs.declared.event.Refusal.TheVariants.{NoMemory, NoSuchPath, Overflow}
use Rattle.recovery_paths.specs.declared.path_pair.PathName.TheVariants.{Current}
use Rattle.recovery_history.specs.History.{Reply}
use Rattle.recovery_history.specs.RecoveryState.{RecoveryState}
use Rattle.recovery_losses.specs.declared.variables.Side.{Side}
use Rattle.recovery_losses.specs.Variables.{is_server}
use Rattle.recovery_sender.specs.declared.sender.Sender.{Sender}
use Rattle.recovery_sender.specs.Senders.{state_in}
use Rattle.recovery_sender.specs.Steps.{SenderStep, TakesSteps, told}

module _ {K P M : Type 0} (recovery : RecoveryState K P M) where
  -- there is a previous path, and the peer's address on it was validated
  abbrev pub is_previous_validated : Bool
  is_previous_validated = option_map_or (λ path. path.state.validated) recovery.paths.previous false

  -- the previous path is the last validated one: the path in use was never validated
  abbrev pub is_last_validated_previous : Bool
  is_last_validated_previous = not recovery.paths.current.state.validated && is_previous_validated

-- ---- the events of a call

module _ {Q S M P : Type 0} where
  -- another path is used, if need be after a return to the last validated one
  abbrev pub moving : Bool → Event Q S M P → Answer Q → List (SenderStep Q S M P)
  moving true event answer = told RevertPath (Ok Done) ∷ told event (Ok answer) ∷ []
  moving false event answer = told event (Ok answer) ∷ []

  -- then a client validates it, since only servers are limited until then (RFC 9000, 8.1)
  abbrev pub validating : Bool → List (SenderStep Q S M P)
  validating true = []
  validating false = told (Validated Current) (Ok Done) ∷ []

  abbrev pub path_steps : {K : Type 0} → RecoveryState K P M → Side → Event Q S M P → Answer Q
      → List (SenderStep Q S M P)
  path_steps recovery side (NewPath now remote is_fresh) answer =
      moving (is_last_validated_previous recovery) (NewPath now remote is_fresh) answer ++ validating (is_server side)
  path_steps recovery side event answer = told event (Ok answer) ∷ []

-- ---- errors

module _ {K Q S M P : Type 0} where
  -- a return leads to a validated path (RFC 9000, 9.3.2)
  abbrev pub IsPathPermitted : Event Q S M P → RecoveryState K P M → Type 0
  IsPathPermitted RevertPath recovery = is_previous_validated recovery ≡ true
  IsPathPermitted event recovery = Unit {0}

  -- the sender itself decides whether this event fails
  abbrev pub is_decided : Event Q S M P → RecoveryState K P M → Bool
  is_decided (NewPath now remote is_fresh) recovery = is_last_validated_previous recovery
  is_decided RevertPath recovery = true
  is_decided event recovery = false

  -- why it does: 2^64 paths were made, the copy of a controller has no memory, or no validated path is left
  abbrev pub RejectsPath : Event Q S M P → Refusal → RecoveryState K P M → Type 0
  RejectsPath (NewPath now remote is_fresh) Overflow recovery = u64_limit ≤ recovery.paths.made + 1
  RejectsPath (NewPath now remote is_fresh) NoMemory recovery = is_fresh ≡ false
  RejectsPath RevertPath NoSuchPath recovery = is_previous_validated recovery ≡ false
  RejectsPath event refusal recovery = ⊥

module _ {F Q R C K S M P : Type 0} {f : _} {c : _} {q : _} {m : _} {r : _} (event : Event Q S M P)
    (old new : Sender F Q R C K S M P f c q m r) where
  -- the event fails, and nothing changes
  abbrev pub IsFailedEvent : Refusal → Bool → Type 0
  IsFailedEvent refusal true = RejectsPath event refusal (state_in old) × (new ≡ old)
  IsFailedEvent refusal false = TakesSteps (told event (Err refusal) ∷ []) old new

  -- another path is used, or the event fails
  abbrev pub LeavesPath : Reply Q → Type 0
  LeavesPath (Ok answer) = TakesSteps (moving (is_last_validated_previous (state_in old)) event answer) old new
  LeavesPath (Err refusal) = IsFailedEvent refusal (is_last_validated_previous (state_in old))

  -- the path changes by these events, or the event fails
  abbrev pub SwitchesPath : Reply Q → Type 0
  SwitchesPath (Ok answer) = IsPathPermitted event (state_in old)
      × TakesSteps (path_steps (state_in old) old.variables.side event answer) old new
  SwitchesPath (Err refusal) = IsFailedEvent refusal (is_decided event (state_in old))
