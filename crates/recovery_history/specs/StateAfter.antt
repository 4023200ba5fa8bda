-- The state of each part of a recovery after a history.
use Rattle.std.specs.Prelude.{◌≡◌}
use Rattle.std.specs.Option.{ForSome}
use Rattle.recovery_base.specs.declared.below.SpaceId.{SpaceId}
use Rattle.recovery_base.specs.declared.below.SpaceId.TheVariants.{Data}
use Rattle.recovery_base.specs.declared.timer.Timer.{Timer}
use Rattle.recovery_base.specs.Timers.{moment}
use Rattle.recovery_ids.specs.CidQueue.{remote_ids}
use Rattle.recovery_spaces.specs.Discarded.{is_discarded}
use Rattle.recovery_spaces.specs.Queued.{no_ecn}
use Rattle.recovery_spaces.specs.Spaces.{space_of, SpaceAfter}
use Rattle.recovery_paths.specs.PathLog.{PerPath, path_known, paths_known}
use Rattle.recovery_paths.specs.PathStates.{Path}
use Rattle.recovery_packet_numbers.specs.Filters.{skipping_at}
use Rattle.recovery_history.specs.CallerState.{unset_fields_of, HasNoLossTime}
use Rattle.recovery_history.specs.Table.{frequency_by, limit, own_ids}
use Rattle.recovery_history.specs.RepliesAfter.{logs_of, inputs_after, first_ids, settings_of}
use Rattle.recovery_history.specs.History.{Beginning, History}
use Rattle.recovery_history.specs.ReplyInputs.{ReplyInputs, in_flight_on}
use Rattle.recovery_history.specs.RecoveryState.{RecoveryState}
use Rattle.recovery_history.specs.Promises.GivenIds.{AreHeld}
use Rattle.recovery_history.specs.Promises.NewNumbers.{is_discarded as was_discarded}
use Rattle.recovery_history.specs.Promises.Timeouts.{timer_value}

-- the bytes in flight on each path: the sums over the packets tracked on it
pub record InFlightAfter {K P M : Type 0} (known : ReplyInputs K P M) (paths : PerPath (Path K)) : Type 0 where
  pub current : paths.current.ledger.in_flight ≡ in_flight_on known (path_known paths.current)
  pub previous : ForSome paths.previous (λ path. path.ledger.in_flight ≡ in_flight_on known (path_known path))

module _ {F K Q S M P : Type 0} (beginning : Beginning F K Q S M P) where
  -- what a history determines of all that events change, in a run that begins so
  pub record LoggedStateAfter (history : History Q S M P) (recovery : RecoveryState K P M) : Type 0 where
    pub settings : recovery.settings ≡ settings_of beginning
    pub spaces : (space : SpaceId) → SpaceAfter beginning.queue.words beginning.start
        ((logs_of beginning history).spaces space) (space_of space recovery.spaces)
    -- what nothing changes
    pub beside : (space : SpaceId) → unset_fields_of (space_of space recovery.spaces) ≡ (no_ecn, 0)
    pub discarded : (space : SpaceId) → is_discarded space recovery.discarded ≡ was_discarded space history
    -- the filter, and the remaining words of the generator, are those of the skips below the next number
    pub skipping : recovery.skipping
        ≡ skipping_at beginning.config.skips beginning.random ((inputs_after beginning history).spaces Data).sent.next
    pub paths : paths_known recovery.paths ≡ (inputs_after beginning history).paths
    pub peer_limit : recovery.peer_limit ≡ limit history
    pub in_flight : InFlightAfter (inputs_after beginning history) recovery.paths
    pub frequency : recovery.frequency ≡ frequency_by beginning.config.max_ack_delay history
    pub timers : (kind : Timer) → moment kind recovery.timers ≡ timer_value history kind
    pub remote_ids : AreHeld beginning.config.initial_cid history (remote_ids recovery.remote_cids)
    pub local_ids : recovery.local_ids ≡ own_ids (first_ids beginning) history

  -- the state of a recovery in which the caller set no loss time
  pub record StateAfter (history : History Q S M P) (recovery : RecoveryState K P M) : Type 0 where
    pub parts : LoggedStateAfter history recovery
    pub loss_times : HasNoLossTime recovery.spaces
