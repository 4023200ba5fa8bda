-- The MTU of the previous path is the one with which it was left, by the history alone: a path that is used again has
-- it. `ConvergenceLaws` and `MtuLaws` rest on it.
use Rattle.std.proofs.Common.{◌≡◌, ℕ, Bool, true, false, [], ◌∷◌, Option, None, Some, Ok, refl, sym, ap, subst, ◌∙◌}
use Rattle.std.proofs.lemmas.Option.{none-some}
use Rattle.std.specs.Option.{ForSome}
use Rattle.recovery_config.specs.Settings.{initial_mtu_of}
use Rattle.recovery_paths.specs.declared.path_pair.PathName.TheVariants.{Previous}
use Rattle.recovery_paths.specs.PathLog.{PerPath, PathHistory, is_validated, past_following, past_with, receives, returns, reverted}
use Rattle.recovery_events.specs.declared.event.Event.{Event}
use Rattle.recovery_events.specs.declared.event.Event.TheVariants.{NewPath, DropPrevious, RevertPath}
use Rattle.recovery_history.specs.RepliesAfter.{pasts_of, settings_of, RepliesAfter}
use Rattle.recovery_history.specs.Table.{limit}
use Rattle.recovery_history.specs.History.{Beginning, History, Reply}
use Rattle.recovery_history.specs.Promises.Mtu.{before_move, mtu, mtu_on}
use Rattle.recovery_history.proofs.MadeLaws.{IsLeftAt, in_state, left_size, left_there, mtu_before}
use Rattle.recovery_history.proofs.SeenLaws.{IsStill, IsStillOn, stays_seen, map_kept}

-- the history says of the previous path what it says of the one in use up to the move
pub before_same : {Q S M P : Type 0} (searched : Bool) (first least : ℕ) (history : History Q S M P)
    → mtu_on searched first least Previous history ≡ mtu searched first least (before_move history)
before_same searched first least [] = refl
before_same searched first least ((NewPath now remote is_fresh, Ok given) ∷ earlier) = refl
before_same searched first least (happened ∷ earlier) = before_same searched first least earlier

-- if it exists it is no other
only_one : (found : Option ℕ) (size left : ℕ) → found ≡ Some size → ForSome found (λ other. other ≡ left)
    → found ≡ Some left
only_one found size left is each = is ∙ ap (λ n. Some n) (each size is)

module _ {F K Q S M P : Type 0} (beginning : Beginning F K Q S M P) (searched : Bool) where
  abbrev first : ℕ
  first = initial_mtu_of beginning.config.transport

  abbrev least : ℕ
  least = beginning.config.transport.min_mtu

  still : IsStill (settings_of beginning) mtu_before
  still entry paths = refl

  still_on : IsStillOn (settings_of beginning) mtu_before
  still_on paths = (
    λ bytes. map_kept in_state (past_with (settings_of beginning) (receives bytes)) (λ past. refl) paths.previous,
    map_kept in_state (past_with (settings_of beginning) is_validated) (λ past. refl) paths.previous,
  )

  abbrev pub IsLeft : History Q S M P → Type 0
  IsLeft history =
      ForSome (mtu_before (pasts_of beginning history)) (λ size. size ≡ mtu_on searched first least Previous history)

  abbrev pub IsNow : History Q S M P → Type 0
  IsNow history = in_state (pasts_of beginning history).current ≡ mtu searched first least history

  -- there is no path before one that is used again
  none_left : (change : PathHistory K → PathHistory K) (paths : PerPath (PathHistory K))
      (previous : Option (PathHistory K))
      → (let with : PerPath (PathHistory K) = record paths { previous = previous } in
      mtu_before (reverted change with) ≡ None)
  none_left change paths None = refl
  none_left change paths (Some past) = refl

  pub left_after : (history : History Q S M P) (event : Event Q S M P) (reply : Reply Q) → IsNow history
      → IsLeft history → IsLeft ((event, reply) ∷ history)
  left_after history (NewPath now remote true) (Ok given) is left = λ size found. cc
  left_after history (NewPath now remote false) (Ok given) is left = λ size found. cc
  left_after history DropPrevious (Ok given) is left = λ size found. absurd (cc)
  left_after history RevertPath (Ok given) is left = λ size found.
      let paths = pasts_of beginning history in
      let change = past_following (settings_of beginning) (returns (limit history)) in
      absurd (none-some _ (sym (none_left change paths paths.previous) ∙ found))
  left_after history event reply is left =
      subst (λ o. ForSome o (λ size. size ≡ mtu_on searched first least Previous history))
      (sym (stays_seen beginning mtu_before still still_on history event reply)) left

  pub left_at_first : IsLeft []
  left_at_first = λ size found. absurd (cc)

  -- a path that is used again existed, and has that MTU
  pub left_is : (history : History Q S M P) (event : Event Q S M P) (reply : Reply Q)
      → RepliesAfter beginning history event reply → IsLeft history
      → IsLeftAt beginning history event reply (mtu_on searched first least Previous history)
  left_is history RevertPath (Ok given) told left =
      only_one _ (left_size beginning history) _ (left_there beginning history RevertPath (Ok given) told) left
  left_is history event reply told left = tt
