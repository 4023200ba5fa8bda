-- The state of a recovery: its parts.
use Rattle.std.specs.Prelude.{ℕ, Option}
use Rattle.recovery_base.specs.declared.timer.TimerTable.{TimerTable}
use Rattle.recovery_acks.specs.declared.frequency.AckFrequencyState.{AckFrequencyState}
use Rattle.recovery_ids.specs.declared.queue.CidQueue.{CidQueue}
use Rattle.recovery_ids.specs.LocalIds.{LocalIds}
use Rattle.recovery_spaces.specs.declared.discarded.DiscardedSpaces.{DiscardedSpaces}
use Rattle.recovery_paths.specs.PathLog.{PerPath}
use Rattle.recovery_paths.specs.PathStates.{Path}
use Rattle.recovery_spaces.specs.Spaces.{Spaces}
use Rattle.recovery_paths.specs.PathMaking.{PathSettings}
use Rattle.recovery_packet_numbers.specs.Filters.{SkipState}

-- K is the value of a controller in contracts, P the contents of a queue, M what the caller stores about a packet
pub record RecoveryState (K P M : Type 0) : Type 0 where
  -- how its paths are made
  pub settings : PathSettings K
  pub spaces : Spaces P M
  pub discarded : DiscardedSpaces
  pub paths : PerPath (Path K)
  pub peer_limit : Option ℕ
  -- which numbers are skipped, and the remaining random words of the generator
  pub skipping : SkipState
  pub frequency : AckFrequencyState
  pub timers : TimerTable
  pub remote_cids : CidQueue
  pub local_ids : LocalIds
