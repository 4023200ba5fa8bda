-- What happens on the paths keeps each within its bounds, if what is transmitted is within the amplification limit, and
-- congestion is found and paths are made by the latest start. The sender's invariant rests on it.
use Rattle.std.proofs.Common.{◌≡◌, ◌≤◌, ◌+◌, ℕ, arith, max, true, false, Bool, List, [], ◌∷◌, Option, None, Some, zero-le, refl, subst}
use Rattle.std.proofs.lemmas.Option.{none-some, same_Some}
use Rattle.std.proofs.lemmas.Bool.Decides.{nat_tests}
use Rattle.std.specs.Prelude.{not, ◌&&◌, ◌*◌, nat_lt, option_map}
use Rattle.std.specs.Option.{ForSome}
use Rattle.std.specs.declared.net.socket_addr.SocketAddr.{SocketAddr}
use Rattle.recovery_congestion.specs.Calls.{ControllerCall, congestion_time}
use Rattle.recovery_paths.specs.declared.path_pair.PathName.TheVariants.{Current, Previous}
use Rattle.recovery_paths.specs.PathBounds.{AreWithinBounds, IsThreefold, IsWithinBounds}
use Rattle.recovery_paths.specs.PathLog.{PathEntry, PathOrigin, PathReplyInputs, PathsEntry, PerPath, on, moves, drops_previous, reverts, receives, is_validated, samples, tells, searches, asks, transmits, passes, is_reset, fresh, extends, returns, known_following, path_known_with, paths_with, state_following, state_with}
use Rattle.recovery_paths.specs.PathMaking.{PathSettings, state_fresh}
use Rattle.recovery_paths.specs.PathStates.{PathState, is_blocked}

module _ {K : Type 0} (settings : PathSettings K) (latest : ℕ) where
  -- what keeps a path within its bounds
  abbrev pub AllowsEntry : PathEntry → PathState K → Type 0
  AllowsEntry (transmits bytes) path = is_blocked path bytes ≡ false
  AllowsEntry (passes now bytes) path = is_blocked path bytes ≡ false
  AllowsEntry (tells call) path = congestion_time call ≤ latest
  AllowsEntry (is_reset now) path = now ≤ latest
  AllowsEntry entry path = Unit {0}

  abbrev pub AllowsOrigin : PathOrigin → Type 0
  AllowsOrigin (fresh generation remote limit now) = now ≤ latest
  AllowsOrigin (extends generation remote now) = Unit {0}
  AllowsOrigin (returns limit) = Unit {0}

  -- of the paths, one of which was in use before it
  abbrev pub AllowsPathsEntry : PathsEntry → PerPath (PathReplyInputs K) → Type 0
  AllowsPathsEntry (on Current entry) paths = AllowsEntry entry paths.current.state
  AllowsPathsEntry (on Previous entry) paths = ForSome paths.previous (λ there. AllowsEntry entry there.state)
  AllowsPathsEntry (moves following) paths = AllowsOrigin following
  AllowsPathsEntry drops_previous paths = Unit {0}
  AllowsPathsEntry (reverts limit) paths = Unit {0}

  abbrev Bounded : PathState K → Type 0
  Bounded path = IsWithinBounds settings.words latest path

  module _ (moves_start : (call : ControllerCall) (k : K)
      → settings.words.recovery_start (settings.words.after call k)
      ≤ max (settings.words.recovery_start k) (congestion_time call))
      (starts : (now : ℕ) → settings.words.recovery_start (settings.built now) ≤ now) where
    -- a datagram that the limit lets out
    goes_out : (path : PathState K) (bytes : ℕ) (validated : Bool) → path.validated ≡ validated
        → (not validated && nat_lt (3 * path.total_recvd) (path.total_sent + bytes)) ≡ false
        → validated ≡ false → path.total_sent + bytes ≤ 3 * path.total_recvd
    goes_out path bytes true is free unvalidated = absurd cc
    goes_out path bytes false is free unvalidated = grind (arith, nat_tests, free)

    entry_bounded : (entry : PathEntry) (path : PathState K) → AllowsEntry entry path → Bounded path
        → Bounded (state_with settings entry path)
    entry_bounded (receives bytes) path allowed within =
        record { threefold = λ not_yet. omega (arith, within.threefold not_yet); start = within.start }
    entry_bounded is_validated path allowed within =
        record { threefold = λ not_yet. absurd cc; start = within.start }
    entry_bounded (samples delay rtt) path allowed within =
        record { threefold = within.threefold; start = within.start }
    entry_bounded (tells call) path allowed within = record {
      threefold = within.threefold;
      start = omega (arith, moves_start call path.controller, within.start, allowed);
    }
    entry_bounded (searches call) path allowed within =
        record { threefold = within.threefold; start = within.start }
    entry_bounded (asks now bytes) path allowed within =
        record { threefold = within.threefold; start = within.start }
    entry_bounded (transmits bytes) path allowed within =
        record { threefold = goes_out path bytes path.validated refl allowed; start = within.start }
    entry_bounded (passes now bytes) path allowed within =
        record { threefold = goes_out path bytes path.validated refl allowed; start = within.start }
    entry_bounded (is_reset now) path allowed within =
        record { threefold = within.threefold; start = omega (arith, starts now, allowed) }

    fresh_bounded : (remote : SocketAddr) (validated : Bool) (limit : Option ℕ) (now : ℕ) → now ≤ latest
        → Bounded (state_fresh settings remote validated limit now)
    fresh_bounded remote validated limit now early =
        record { threefold = λ not_yet. zero-le; start = omega (arith, starts now, early) }

    origin_bounded : (following : PathOrigin) (path : PathState K) → AllowsOrigin following → Bounded path
        → Bounded (state_following settings following path)
    origin_bounded (fresh generation remote limit now) path allowed within =
        fresh_bounded remote false limit now allowed
    origin_bounded (extends generation remote now) path allowed within =
        record { threefold = λ not_yet. zero-le; start = within.start }
    origin_bounded (returns limit) path allowed within =
        record { threefold = within.threefold; start = within.start }

    -- the path before the one in use, if it is there
    previous_bounded : (entry : PathEntry) (previous : Option (PathReplyInputs K))
        → ForSome previous (λ there. AllowsEntry entry there.state) → ForSome previous (λ there. Bounded there.state)
        → ForSome (option_map (path_known_with settings entry) previous) (λ there. Bounded there.state)
    previous_bounded entry None allowed within = λ found is. absurd (none-some found is)
    previous_bounded entry (Some there) allowed within = λ found is.
        subst (λ (there : PathReplyInputs K). Bounded there.state) (same_Some _ found is)
        (entry_bounded entry there.state (allowed there refl) (within there refl))

    abbrev AllBounded : PerPath (PathReplyInputs K) → Type 0
    AllBounded paths = AreWithinBounds settings.words latest paths

    reverted_bounded : (limit : Option ℕ) (current : PathReplyInputs K) (previous : Option (PathReplyInputs K))
        (made : ℕ) → (let paths : PerPath (PathReplyInputs K) = record {
          current = current;
          previous = previous;
          made = made;
        } in AllBounded paths
        → AllBounded (paths_with (path_known_with settings) (known_following settings) (reverts limit) paths))
    reverted_bounded limit current None made within = within
    reverted_bounded limit current (Some there) made within =
        (origin_bounded (returns limit) there.state tt (within.1 there refl), λ found is. absurd (none-some found is))

    -- one entry more
    pub entry_keeps_bounds : (entry : PathsEntry) (paths : PerPath (PathReplyInputs K)) → AllowsPathsEntry entry paths
        → AllBounded paths
        → AllBounded (paths_with (path_known_with settings) (known_following settings) entry paths)
    entry_keeps_bounds (on Current entry) paths allowed within =
        (entry_bounded entry paths.current.state allowed within.0, within.1)
    entry_keeps_bounds (on Previous entry) paths allowed within =
        (within.0, previous_bounded entry paths.previous allowed within.1)
    entry_keeps_bounds (moves following) paths allowed within = (
      origin_bounded following paths.current.state allowed within.0,
      λ found is. subst (λ (there : PathReplyInputs K). Bounded there.state) (same_Some _ found is) within.0,
    )
    entry_keeps_bounds drops_previous paths allowed within = (within.0, λ found is. absurd (none-some found is))
    entry_keeps_bounds (reverts limit) paths allowed within =
        reverted_bounded limit paths.current paths.previous paths.made within

    -- the first path
    pub first_bounded : (remote : SocketAddr) (validated : Bool) (limit : Option ℕ) (now : ℕ) → now ≤ latest
        → Bounded (state_fresh settings remote validated limit now)
    first_bounded = fresh_bounded
