-- The MTU in use (RFC 8899, 5; RFC 9000, 14.3): the last one acknowledged or found elsewhere, unless it was set since.
use Rattle.std.specs.Prelude.{◌≡◌, ℕ, min, Bool, true, None, Some, [], ◌∷◌, Ok, is_some, if◌then◌else◌}
use Rattle.std.specs.Option.{ForSome}
use Rattle.recovery_config.specs.Settings.{initial_mtu_of}
use Rattle.recovery_mtud.specs.Discovery.{limit_or_greatest, within}
use Rattle.recovery_paths.specs.declared.path_pair.PathName.{PathName}
use Rattle.recovery_paths.specs.declared.path_pair.PathName.TheVariants.{Current, Previous}
use Rattle.recovery_events.specs.declared.event.Event.{Event}
use Rattle.recovery_events.specs.declared.event.Event.TheVariants.{Acked, LossesDone, MtuFound, PeerLimit, ResetPath, NewPath, RevertPath}
use Rattle.recovery_events.specs.declared.event.Answer.TheVariants as answer
use Rattle.recovery_history.specs.History.{Beginning, History, Reply}
use Rattle.recovery_history.specs.RepliesAfter.{inputs_after}
use Rattle.recovery_history.specs.Table.{limit}
use Rattle.recovery_history.specs.Promises.Probes.{last_probe}
use Rattle.recovery_history.specs.Search.{discovery_settings}

module _ {Q S M P : Type 0} (searched : Bool) (first least : ℕ) where
  -- paths begin with the first MTU, and a black hole leaves the minimum; if MTU discovery is disabled, no limit is
  -- stored. The previous path has the MTU with which it was left, also when it is used again, within the peer's limit
  abbrev pub mtu_on : PathName → History Q S M P → ℕ
  mtu_on name [] = first
  mtu_on Previous ((NewPath now remote is_fresh, Ok given) ∷ earlier) = mtu_on Current earlier
  mtu_on Current ((Acked space now number app_limited, Ok (answer.Acked true)) ∷ earlier) = (last_probe earlier).1
  mtu_on Current ((MtuFound size, Ok given) ∷ earlier) = size
  mtu_on Current ((PeerLimit size, Ok given) ∷ earlier) = min (mtu_on Current earlier) size
  mtu_on Current ((LossesDone now, Ok (answer.BlackHole true)) ∷ earlier) = least
  mtu_on Current ((ResetPath now, Ok given) ∷ earlier) =
      within first (if searched then Some (limit_or_greatest (limit earlier)) else None)
  mtu_on Current ((NewPath now remote true, Ok given) ∷ earlier) =
      within first (if searched then limit earlier else None)
  mtu_on Current ((RevertPath, Ok given) ∷ earlier) = within (mtu_on Previous earlier) (limit earlier)
  mtu_on name (happened ∷ earlier) = mtu_on name earlier

  -- the MTU of the path in use
  abbrev pub mtu : History Q S M P → ℕ
  mtu = mtu_on Current

module _ {Q S M P : Type 0} where
  -- the history up to the move to the path in use
  abbrev pub before_move : History Q S M P → History Q S M P
  before_move [] = []
  before_move ((NewPath now remote is_fresh, Ok given) ∷ earlier) = earlier
  before_move (happened ∷ earlier) = before_move earlier

module _ {F K Q S M P : Type 0} (run : Beginning F K Q S M P) where
  abbrev pub mtu_in_use : History Q S M P → ℕ
  mtu_in_use =
      let config = run.config.transport in mtu (is_some (discovery_settings run)) (initial_mtu_of config) config.min_mtu

  -- after an event the path in use has it, and the previous path, if it exists, has that of when it was left
  abbrev pub UsesAckedMtu : History Q S M P → Event Q S M P → Reply Q → Type 0
  UsesAckedMtu history event reply =
      let now = (event, reply) ∷ history in let paths = (inputs_after run now).paths in
      (paths.current.state.discovery.mtu ≡ mtu_in_use now)
      × ForSome paths.previous (λ path. path.state.discovery.mtu ≡ mtu_in_use (before_move now))
