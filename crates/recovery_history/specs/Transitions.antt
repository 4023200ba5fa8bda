-- What an event changes: each part of a recovery by its step; and its reply, by what the parts know.
use Rattle.std.specs.Prelude.{◌≡◌, ℕ, Option, Some, OnErr}
use Rattle.recovery_base.specs.declared.below.SpaceId.{SpaceId}
use Rattle.recovery_base.specs.declared.below.SpaceId.TheVariants.{Data}
use Rattle.recovery_base.specs.Timers.{moment}
use Rattle.recovery_ids.specs.CidQueue.{remote_ids}
use Rattle.recovery_spaces.specs.Acks.{AckState}
use Rattle.recovery_spaces.specs.Discarded.{is_discarded}
use Rattle.recovery_spaces.specs.SpaceLog.{SpaceEntry, sends}
use Rattle.recovery_spaces.specs.Spaces.{space_of, sent_of, queued_of, heard_of, next_number_of, SpaceStep}
use Rattle.recovery_paths.specs.PathLog.{PathsStep, paths_known, paths_marks}
use Rattle.recovery_queue.specs.Queues.{QueueSemantics}
use Rattle.recovery_packet_numbers.specs.Filters.{SkipState, number_by, passed}
use Rattle.recovery_events.specs.declared.event.Event.{Event}
use Rattle.recovery_history.specs.Table.{marks_after, entries_of, UnloggedStep, ReplyTable}
use Rattle.recovery_history.specs.Entries.{Entries}
use Rattle.recovery_history.specs.History.{Reply, QueueModel}
use Rattle.recovery_history.specs.ReplyInputs.{ReplyInputs}
use Rattle.recovery_history.specs.Logs.{OptionalStep}
use Rattle.recovery_history.specs.RecoveryState.{RecoveryState}
use Rattle.recovery_history.specs.Unlogged.{plain_of}

-- ---- the inputs

-- the inputs of replies, as the parts hold them
abbrev pub inputs_of : {K P M : Type 0} → RecoveryState K P M → ReplyInputs K P M
inputs_of recovery = record {
  spaces = λ space. let there = space_of space recovery.spaces in record {
    discarded = is_discarded space recovery.discarded;
    counts = there.pending_acks.counts;
    sent = sent_of there;
    queued = queued_of there;
  };
  next_number = number_by recovery.skipping.filter (next_number_of (space_of Data recovery.spaces));
  skipped = recovery.skipping.filter.last;
  last_asked = recovery.frequency.last_ack_frequency_frame;
  remote_ids = remote_ids recovery.remote_cids;
  local_ids = recovery.local_ids;
  timer_value = λ kind. moment kind recovery.timers;
  paths = paths_known recovery.paths;
  peer_limit = recovery.peer_limit;
}

abbrev pub acks_to : {K P M : Type 0} → RecoveryState K P M → SpaceId → AckState
acks_to recovery space = heard_of (space_of space recovery.spaces)

-- ---- one event

-- the next number of 1-RTT packets was n: a packet that is sent gets the number that the filter assigns
abbrev pub SkippingStep : {P M : Type 0} → Option (SpaceEntry P M) → ℕ → SkipState → SkipState → Type 0
SkippingStep (Some (sends number packet)) n old new = (number ≡ number_by old.filter n) × (new ≡ passed n old)
SkippingStep other n old new = new ≡ old

module _ {K P M S : Type 0} (words : QueueSemantics P S) where
  -- each part with a log changes by the step of the event's entry
  pub record ComponentSteps (entries : Entries P M) (old new : RecoveryState K P M) : Type 0 where
    pub settings : new.settings ≡ old.settings
    pub spaces : (space : SpaceId) →
        OptionalStep (SpaceStep words) (entries.spaces space) (space_of space old.spaces) (space_of space new.spaces)
    pub skipping :
        SkippingStep (entries.spaces Data) (next_number_of (space_of Data old.spaces)) old.skipping new.skipping
    pub paths : PathsStep old.settings entries.paths (paths_known old.paths) (paths_known new.paths)

module _ {K Q S M P : Type 0} (q : QueueModel Q S M P) where
  -- the reply follows from the inputs, and each part changes by the event's entries. A path's marks move with the path.
  -- An error changes nothing, except for the frame's number that `DelayTooSmall` stores
  pub record StateTransitionBy (known : ReplyInputs K P M) (old : RecoveryState K P M) (event : Event Q S M P)
      (reply : Reply Q)
      (new : RecoveryState K P M) : Type 0 where
    pub told : ReplyTable q old.settings.words (acks_to old) known event reply
    pub steps : ComponentSteps q.words (entries_of q known event reply) old new
    pub plain : UnloggedStep event reply (plain_of old) (plain_of new)
    pub marks : paths_marks new.paths ≡ marks_after event reply (paths_marks old.paths)
    pub refused : OnErr reply (new ≡ record old { frequency = new.frequency })

  -- the inputs are those that the parts hold
  abbrev pub StateTransition : RecoveryState K P M → Event Q S M P → Reply Q → RecoveryState K P M → Type 0
  StateTransition old = StateTransitionBy (inputs_of old) old
