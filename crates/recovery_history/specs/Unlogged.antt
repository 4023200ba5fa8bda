-- The parts of which no log is kept, since a few lines over the history define them.
use Rattle.std.specs.Prelude.{ℕ, Option}
use Rattle.recovery_base.specs.declared.timer.TimerTable.{TimerTable}
use Rattle.recovery_acks.specs.declared.frequency.AckFrequencyState.{AckFrequencyState}
use Rattle.recovery_ids.specs.CidQueue.{remote_ids}
use Rattle.recovery_ids.specs.LocalIds.{LocalIds}
use Rattle.recovery_ids.specs.RemoteIds.{RemoteIds}
use Rattle.recovery_spaces.specs.declared.discarded.DiscardedSpaces.{DiscardedSpaces}
use Rattle.recovery_history.specs.RecoveryState.{RecoveryState}

-- the parts without a log
pub record UnloggedState : Type 0 where
  pub discarded : DiscardedSpaces
  pub frequency : AckFrequencyState
  pub timers : TimerTable
  pub peer_limit : Option ℕ
  pub remote_ids : RemoteIds
  pub local_ids : LocalIds

abbrev pub plain_of : {K P M : Type 0} → RecoveryState K P M → UnloggedState
plain_of recovery = record {
  discarded = recovery.discarded;
  frequency = recovery.frequency;
  timers = recovery.timers;
  peer_limit = recovery.peer_limit;
  remote_ids = remote_ids recovery.remote_cids;
  local_ids = recovery.local_ids;
}
