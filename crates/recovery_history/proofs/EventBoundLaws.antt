-- An event that stays in bounds leaves each path within them, and which events leave the controller of the path in use
-- as it is. The sender's invariant and its promise of persistent congestion rest on them.
use Rattle.std.proofs.Common.{◌≡◌, ◌≤◌, ℕ, arith, max, true, false, Bool, List, [], ◌∷◌, Ok, Err, zero-le, refl, subst, sym, ap, ◌∙◌}
use Rattle.std.proofs.lemmas.Bool.{false≢true}
use Rattle.recovery_congestion.specs.Calls.{ControllerCall, congestion_time, sends, acks, ends_acks, congests, takes_mtu}
use Rattle.recovery_paths.specs.declared.path_pair.PathName.TheVariants.{Current, Previous}
use Rattle.recovery_paths.specs.PathBounds.{AreWithinBounds}
use Rattle.recovery_paths.specs.PathLog.{PathEntry, PathReplyInputs, PathsEntry, PerPath, on, moves, drops_previous, reverts, receives, is_validated, samples, tells, searches, asks, transmits, passes, is_reset, on_current, known_following, path_known_with, paths_after, paths_known, PathsStep}
use Rattle.recovery_paths.specs.PathMaking.{PathSettings}
use Rattle.recovery_paths.proofs.PathBoundLaws.{AllowsPathsEntry, entry_keeps_bounds}
use Rattle.recovery_events.specs.declared.event.Event.{Event}
use Rattle.recovery_events.specs.declared.event.Event.TheVariants.{Congestion, NewPath, ResetPath, Transmit}
use Rattle.recovery_events.specs.declared.event.Answer.TheVariants.{Transmitted, Delayed}
use Rattle.recovery_history.specs.Entries.{following}
use Rattle.recovery_history.specs.EventBounds.{StaysInBounds}
use Rattle.recovery_history.specs.History.{QueueModel, Reply}
use Rattle.recovery_history.specs.RecoveryState.{RecoveryState}
use Rattle.recovery_history.specs.Table.{entries_of}
use Rattle.recovery_history.specs.Transitions.{StateTransition, inputs_of}
use Rattle.recovery_history.proofs.EntryKinds.{PathKind, is_by, path_kind, paths_kept, telling, congesting, transmitting, passing, resetting, moving, returning, elsewhere}

-- entries that need nothing to stay in bounds
abbrev is_harmless : PathKind → Bool
is_harmless congesting = false
is_harmless transmitting = false
is_harmless passing = false
is_harmless resetting = false
is_harmless moving = false
is_harmless elsewhere = false
is_harmless kind = true

module _ {K Q S M P : Type 0} (q : QueueModel Q S M P) (latest : ℕ) (settings : PathSettings K)
    (moves_start : (call : ControllerCall) (k : K)
    → settings.words.recovery_start (settings.words.after call k)
    ≤ max (settings.words.recovery_start k) (congestion_time call))
    (starts : (now : ℕ) → settings.words.recovery_start (settings.built now) ≤ now) where
  abbrev Bounded : PerPath (PathReplyInputs K) → Type 0
  Bounded paths = AreWithinBounds settings.words latest paths

  abbrev after : RecoveryState K P M → List PathsEntry → PerPath (PathReplyInputs K)
  after old entries = paths_after (path_known_with settings) (known_following settings) entries (paths_known old.paths)

  module _ (old : RecoveryState K P M) (within : Bounded (paths_known old.paths)) where
    one : (entry : PathsEntry) (entries : List PathsEntry)
        → AllowsPathsEntry settings latest entry (after old entries) → Bounded (after old entries)
        → Bounded (after old (entry ∷ entries))
    one entry entries allowed within =
        entry_keeps_bounds settings latest moves_start starts entry (after old entries) allowed within

    harmless : (entry : PathsEntry) (entries : List PathsEntry) → is_harmless (path_kind entry) ≡ true
        → Bounded (after old entries) → Bounded (after old (entry ∷ entries))
    harmless (on Current (receives bytes)) entries is within = one (on Current (receives bytes)) entries tt within
    harmless (on Current is_validated) entries is within = one (on Current is_validated) entries tt within
    harmless (on Current (samples delay rtt)) entries is within = one (on Current (samples delay rtt)) entries tt within
    harmless (on Current (searches call)) entries is within = one (on Current (searches call)) entries tt within
    harmless (on Current (asks now bytes)) entries is within = one (on Current (asks now bytes)) entries tt within
    harmless (on Current (tells (congests now sent persistent lost))) entries is within = absurd (false≢true is)
    harmless (on Current (tells (sends now bytes number))) entries is within =
        one (on Current (tells (sends now bytes number))) entries zero-le within
    harmless (on Current (tells (acks now sent bytes limited rtt))) entries is within =
        one (on Current (tells (acks now sent bytes limited rtt))) entries zero-le within
    harmless (on Current (tells (ends_acks now in_flight limited largest))) entries is within =
        one (on Current (tells (ends_acks now in_flight limited largest))) entries zero-le within
    harmless (on Current (tells (takes_mtu mtu))) entries is within =
        one (on Current (tells (takes_mtu mtu))) entries zero-le within
    harmless (on Previous (receives bytes)) entries is within =
        one (on Previous (receives bytes)) entries (λ there found. tt) within
    harmless (on Previous is_validated) entries is within =
        one (on Previous is_validated) entries (λ there found. tt) within
    harmless drops_previous entries is within = one drops_previous entries tt within
    harmless (reverts limit) entries is within = one (reverts limit) entries tt within
    harmless entry entries is within = absurd (false≢true is)

    by_event : (event : Event Q S M P) (reply : Reply Q) → StaysInBounds latest old event
        → Bounded (after old (entries_of q (inputs_of old) event reply).paths)
    by_event (Transmit now bytes true) (Ok Transmitted) stays = one (on_current (passes now bytes)) [] stays within
    by_event (Transmit now bytes true) (Ok (Delayed until)) stays = one (on_current (asks now bytes)) [] tt within
    by_event (Transmit now bytes true) (Ok answer) stays = within
    by_event (Transmit now bytes false) (Ok answer) stays = one (on_current (transmits bytes)) [] stays within
    by_event (Congestion now sent persistent bytes) (Ok answer) stays =
        one (on_current (tells (congests now sent persistent bytes))) [] stays within
    by_event (NewPath now remote true) (Ok answer) stays =
        one (moves (following (inputs_of old) now remote true)) [] stays within
    by_event (NewPath now remote false) (Ok answer) stays =
        one (moves (following (inputs_of old) now remote false)) [] tt within
    by_event (ResetPath now) (Ok answer) stays = one (on_current (is_reset now)) [] stays within
    by_event event (Ok answer) stays =
        paths_kept q (inputs_of old) (λ entries. Bounded (after old entries)) is_harmless within harmless event
        (Ok answer) refl
    by_event event (Err refusal) stays = within

  -- a recovery with these settings, in bounds
  abbrev pub IsBounded : RecoveryState K P M → Type 0
  IsBounded recovery = (recovery.settings ≡ settings) × Bounded (paths_known recovery.paths)

  pub event_keeps_bounds : (event : Event Q S M P) (reply : Reply Q) (old new : RecoveryState K P M)
      → StaysInBounds latest old event → StateTransition q old event reply new → IsBounded old → IsBounded new
  event_keeps_bounds event reply old new stays step within = (
    step.steps.settings ∙ within.0,
    subst Bounded (sym (subst (λ (settings : PathSettings K).
        PathsStep settings (entries_of q (inputs_of old) event reply).paths (paths_known old.paths)
        (paths_known new.paths)) within.0 step.steps.paths)) (by_event old within.1 event reply stays),
  )

-- ---- the controller of the path in use

-- entries that leave it
abbrev pub leaves_controller : PathKind → Bool
leaves_controller telling = false
leaves_controller congesting = false
leaves_controller resetting = false
leaves_controller moving = false
leaves_controller returning = false
leaves_controller kind = true

module _ {K Q S M P : Type 0} (q : QueueModel Q S M P) (old : RecoveryState K P M) where
  abbrev controller_after : List PathsEntry → K
  controller_after entries = (paths_after (path_known_with old.settings) (known_following old.settings) entries
      (paths_known old.paths)).current.state.controller

  abbrev IsAsBefore : List PathsEntry → Type 0
  IsAsBefore entries = controller_after entries ≡ old.paths.current.state.controller

  left : (entry : PathsEntry) (entries : List PathsEntry) → leaves_controller (path_kind entry) ≡ true
      → IsAsBefore entries → IsAsBefore (entry ∷ entries)
  left (on Current (tells (congests now sent persistent lost))) entries is same = absurd (false≢true is)
  left (on Current (tells call)) entries is same = absurd (false≢true is)
  left (on Current (is_reset now)) entries is same = absurd (false≢true is)
  left (moves following) entries is same = absurd (false≢true is)
  left (reverts limit) entries is same = absurd (false≢true is)
  left (on Current (receives bytes)) entries is same = same
  left entry entries is same = same

  pub event_leaves_controller : (event : Event Q S M P) (reply : Reply Q) (new : RecoveryState K P M)
      → is_by leaves_controller event ≡ true → StateTransition q old event reply new
      → new.paths.current.state.controller ≡ old.paths.current.state.controller
  event_leaves_controller event reply new is step =
      ap (λ (paths : PerPath (PathReplyInputs K)). paths.current.state.controller) step.steps.paths
      ∙ paths_kept q (inputs_of old) IsAsBefore leaves_controller refl left event reply is
