-- The caller sets when a packet of a space is to be declared lost: nothing that events change is changed.
use Rattle.std.proofs.Common.{◌≡◌, ℕ, List, Option}
use Rattle.recovery_base.specs.declared.below.SpaceId.{SpaceId}
use Rattle.recovery_base.specs.declared.below.SpaceId.TheVariants.{Initial, Handshake, Data}
use Rattle.recovery_spaces.specs.Queued.{no_ecn}
use Rattle.recovery_spaces.specs.SpaceLog.{SpaceEntry}
use Rattle.recovery_spaces.specs.Spaces.{Space, Spaces, space_of, with_space, SpaceAfter}
use Rattle.recovery_queue.specs.Queues.{QueueSemantics}
use Rattle.recovery_history.specs.CallerState.{unset_fields_of, with_loss_time}
use Rattle.recovery_history.specs.History.{Beginning, History}
use Rattle.recovery_history.specs.RecoveryState.{RecoveryState}
use Rattle.recovery_history.specs.Reachability.{ReachedBy}

-- what holds for each space, whatever its loss time, holds for each after one is set
module _ {P M : Type 0} (Holds : SpaceId → Space P M → Type 0) (time : Option ℕ)
    (holds_with : (space : SpaceId) (there : Space P M) → Holds space there → Holds space (with_loss_time time there))
    (spaces : Spaces P M) (all : (space : SpaceId) → Holds space (space_of space spaces)) where
  each_with_loss_time : (set space : SpaceId)
      → Holds space (space_of space (with_space spaces set (with_loss_time time (space_of set spaces))))
  each_with_loss_time Initial Initial = holds_with Initial _ (all Initial)
  each_with_loss_time Initial Handshake = all Handshake
  each_with_loss_time Initial Data = all Data
  each_with_loss_time Handshake Initial = all Initial
  each_with_loss_time Handshake Handshake = holds_with Handshake _ (all Handshake)
  each_with_loss_time Handshake Data = all Data
  each_with_loss_time Data Initial = all Initial
  each_with_loss_time Data Handshake = all Handshake
  each_with_loss_time Data Data = holds_with Data _ (all Data)

left_with_loss_time : {P M S : Type 0} (words : QueueSemantics P S) (start : ℕ) (log : List (SpaceEntry P M))
    (time : Option ℕ) (there : Space P M) → SpaceAfter words start log there
    → SpaceAfter words start log (with_loss_time time there)
left_with_loss_time words start log time there left = record {
  numbers = left.numbers;
  acks = left.acks;
  greatest = left.greatest;
  sent = left.sent;
  acknowledged = left.acknowledged;
  last_sent = left.last_sent;
  probes = left.probes;
  given_out = left.given_out;
  queued = left.queued;
}

-- so the same pasts lead to the new state
module _ {F K Q S M P : Type 0} (beginning : Beginning F K Q S M P) (past : History Q S M P) where
  pub reached_with_loss_time : (set : SpaceId) (time : Option ℕ) (there : Space P M) (recovery : RecoveryState K P M)
      → there ≡ space_of set recovery.spaces → ReachedBy beginning past recovery
      → ReachedBy beginning past (record recovery {
        spaces = with_space recovery.spaces set
            (with_loss_time time there);
      })
  reached_with_loss_time set time there recovery is came =
      let left = came.state_after in rw is (record {
        replies = came.replies;
        state_after = record {
          settings = left.settings;
          spaces = each_with_loss_time _ time (λ space. left_with_loss_time _ _ _ time) recovery.spaces left.spaces
              set;
          beside = each_with_loss_time (λ space kept. unset_fields_of kept ≡ (no_ecn, 0)) time
              (λ space kept beside. beside) recovery.spaces left.beside set;
          discarded = left.discarded;
          skipping = left.skipping;
          paths = left.paths;
          peer_limit = left.peer_limit;
          in_flight = left.in_flight;
          frequency = left.frequency;
          timers = left.timers;
          remote_ids = left.remote_ids;
          local_ids = left.local_ids;
        };
        small = came.small;
      })
