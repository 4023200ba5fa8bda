-- What can be read of a sender, in numbers.
use Rattle.std.specs.Prelude.{ℕ, false, is_some}
use Rattle.std.specs.Option.{unwrap_or}
use Rattle.recovery_base.specs.Units.{largest_u64}
use Rattle.recovery_history.specs.RecoveryState.{RecoveryState}
use Rattle.recovery_losses.specs.declared.due.Due.TheVariants.{Losses, Probes, AntiDeadlock}
use Rattle.recovery_losses.specs.declared.variables.Variables.{Variables}
use Rattle.recovery_sender.specs.declared.sender.readings.TimerState.{TimerState}
use Rattle.recovery_sender.specs.declared.sender.readings.TimerState.TheVariants.{Set, Blocked, Unconfirmed, Idle}
use Rattle.recovery_sender.specs.Readings.{amplification_room, timer_state, window_room}
use Rattle.recovery_sender.specs.Senders.{state_in}
use Rattle.recovery_engine.specs.Controllers.{chosen_words}
use Rattle.recovery_engine.specs.Replies.{space_number}
use Rattle.recovery_engine.specs.declared.controllers.Chosen.{Chosen}
use Rattle.recovery_engine.specs.declared.kept.Engine.{Engine}
use Rattle.recovery_engine.specs.declared.kept.Engine.TheVariants.{Alone, Sends}
use Rattle.recovery_engine.specs.declared.numbers.TheConstants.{AWAITS_CONFIRMATION, AWAITS_DEADLOCK_PROBE, AWAITS_LOSSES, AWAITS_NOTHING, AWAITS_PEER, AWAITS_PROBES}
use Rattle.recovery_engine.specs.declared.views.SenderView.{SenderView}

-- the purpose of the timer, or why it is not set
abbrev pub awaited : TimerState → ℕ
awaited (Set time (Losses space)) = AWAITS_LOSSES
awaited (Set time (Probes space)) = AWAITS_PROBES
awaited (Set time (AntiDeadlock space)) = AWAITS_DEADLOCK_PROBE
awaited Blocked = AWAITS_PEER
awaited Unconfirmed = AWAITS_CONFIRMATION
awaited Idle = AWAITS_NOTHING

abbrev pub awaited_space : TimerState → ℕ
awaited_space (Set time (Losses space)) = space_number space
awaited_space (Set time (Probes space)) = space_number space
awaited_space (Set time (AntiDeadlock space)) = space_number space
awaited_space state = 0

abbrev pub awaited_time : TimerState → ℕ
awaited_time (Set time due) = time
awaited_time state = 0

abbrev pub sender_shown : {P M : Type 0} → RecoveryState Chosen P M → Variables → SenderView
sender_shown recovery variables =
    let state = timer_state recovery variables in
    let room = amplification_room recovery in
    record {
      window_room = window_room chosen_words recovery;
      amplification_room = unwrap_or room largest_u64;
      timer = awaited_time state;
      awaits = awaited state;
      space = awaited_space state;
      is_limited = is_some room;
    }

abbrev pub no_sender_view : SenderView
no_sender_view = record {
  window_room = 0;
  amplification_room = 0;
  timer = 0;
  awaits = AWAITS_NOTHING;
  space = 0;
  is_limited = false;
}

abbrev pub sender_view_of : Engine → SenderView
sender_view_of (Alone recovery) = no_sender_view
sender_view_of (Sends sending) = sender_shown (state_in sending.sender) sending.sender.variables
