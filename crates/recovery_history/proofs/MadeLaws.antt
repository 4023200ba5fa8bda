-- The discovery with which the path in use was made stays until a fresh path, or until one is used again. The laws of
-- searches by events alone (`ConvergenceLaws`, `BlackHolesLaws`, `MtuLaws`) rest on it.
use Rattle.std.proofs.Common.{◌≡◌, ℕ, true, false, ◌∷◌, Option, None, Some, Ok, refl, ap}
use Rattle.std.specs.Prelude.{option_map, unwrap_or}
use Rattle.recovery_mtud.specs.Discovery.{Discovery, within}
use Rattle.recovery_paths.specs.PathLog.{PerPath, PathHistory, known_of, past_following, receives, returns, reverted, path_state_of}
use Rattle.recovery_paths.proofs.PathLogLaws.{some_same}
use Rattle.recovery_events.specs.declared.event.Event.{Event}
use Rattle.recovery_events.specs.declared.event.Event.TheVariants.{NewPath, DropPrevious, RevertPath}
use Rattle.recovery_history.specs.RepliesAfter.{pasts_of, settings_of, RepliesAfter}
use Rattle.recovery_history.specs.Table.{limit}
use Rattle.recovery_history.specs.History.{Beginning, History, Reply}
use Rattle.recovery_history.specs.PartReplies.{AnswersDone, UnlessPathMissing}
use Rattle.recovery_history.proofs.SeenLaws.{IsStill, IsStillOn, stays_seen}

module _ {K : Type 0} where
  abbrev pub in_state : PathHistory K → ℕ
  in_state past = (path_state_of past).discovery.mtu

  -- the MTU of the previous path, if it exists
  abbrev pub mtu_before : PerPath (PathHistory K) → Option ℕ
  mtu_before paths = option_map in_state paths.previous

module _ {F K Q S M P : Type 0} (beginning : Beginning F K Q S M P) where
  -- a path that is used again had that MTU
  abbrev pub IsLeftAt : History Q S M P → Event Q S M P → Reply Q → ℕ → Type 0
  IsLeftAt history RevertPath (Ok given) left = mtu_before (pasts_of beginning history) ≡ Some left
  IsLeftAt history event reply left = Unit {0}

  abbrev pub left_size : History Q S M P → ℕ
  left_size history = unwrap_or (mtu_before (pasts_of beginning history)) 0

  -- it had some: it existed
  pub left_there : (history : History Q S M P) (event : Event Q S M P) (reply : Reply Q)
      → RepliesAfter beginning history event reply → IsLeftAt history event reply (left_size history)
  left_there history RevertPath (Ok given) told = go (pasts_of beginning history).previous told
    where
      go : (previous : Option (PathHistory K)) → UnlessPathMissing (option_map known_of previous)
          (λ there. AnswersDone {Q = Q}) (Ok given)
          → option_map in_state previous ≡ Some (unwrap_or (option_map in_state previous) 0)
      go None told = absurd told.1
      go (Some past) told = refl
  left_there history event reply told = tt

  abbrev made_of : PerPath (PathHistory K) → Discovery
  made_of paths = paths.current.kept.discovery

  still : IsStill (settings_of beginning) made_of
  still (receives bytes) paths = refl
  still entry paths = refl

  still_on : IsStillOn (settings_of beginning) made_of
  still_on paths = (λ bytes. refl, refl)

  abbrev pub made_in : History Q S M P → Discovery
  made_in history = made_of (pasts_of beginning history)

  -- a fresh path has one of its own, by the limit that the peer stated last, and so has one that is used again, with
  -- the MTU with which it was left, within that limit
  abbrev pub resumed : ℕ → History Q S M P → Discovery
  resumed left history =
      record ((settings_of beginning).discovery (limit history)) { mtu = within left (limit history) }

  abbrev pub made_after : ℕ → History Q S M P → Event Q S M P → Reply Q → Discovery
  made_after left history (NewPath now remote true) (Ok given) = (settings_of beginning).discovery (limit history)
  made_after left history RevertPath (Ok given) = resumed left history
  made_after left history event reply = made_in history

  pub is_made : (past : History Q S M P) (event : Event Q S M P) (reply : Reply Q) (left : ℕ)
      → IsLeftAt past event reply left → made_in ((event, reply) ∷ past) ≡ made_after left past event reply
  is_made past (NewPath now remote true) (Ok given) left is = refl
  is_made past (NewPath now remote false) (Ok given) left is = refl
  is_made past DropPrevious (Ok given) left is = refl
  is_made past RevertPath (Ok given) left is = go (pasts_of beginning past).previous is
    where
      go : (previous : Option (PathHistory K)) → option_map in_state previous ≡ Some left
          → (let paths : PerPath (PathHistory K) = record (pasts_of beginning past) { previous = previous } in
          made_of (reverted (past_following (settings_of beginning) (returns (limit past))) paths))
          ≡ resumed left past
      go None is = absurd cc
      go (Some before) is = ap (λ left. resumed left past) (some_same is)
  is_made past event reply left is = stays_seen beginning made_of still still_on past event reply
