-- The timer is due at the same time if none of its inputs changes.
use Rattle.std.proofs.Common.{◌≡◌, ℕ, true, false, Bool, Option, None, Some, option_map, Ok, ◌⊎◌, refl, ap, subst, sym, inl, inr, true≢false, ◌∙◌}
use Rattle.std.specs.Prelude.{if◌then◌else◌, min, not, ◌||◌}
use Rattle.std.specs.Option.{is_some, option_and_then, option_map_or, option_or}
use Rattle.recovery_base.specs.declared.below.SpaceId.{SpaceId}
use Rattle.recovery_base.specs.declared.below.SpaceId.TheVariants.{Initial, Handshake, Data}
use Rattle.recovery_base.specs.declared.timer.Timer.TheVariants.{LossDetection}
use Rattle.recovery_base.specs.declared.timer.TimerTable.{TimerTable}
use Rattle.recovery_base.specs.Spaces.{same_space}
use Rattle.recovery_base.specs.Timers.{moment}
use Rattle.recovery_congestion.specs.Controllers.{ControllerSemantics}
use Rattle.recovery_congestion.specs.Rtt.{Rtt, pto_base_of}
use Rattle.recovery_events.specs.declared.event.Answer.{Answer}
use Rattle.recovery_events.specs.declared.event.Answer.TheVariants as answers
use Rattle.recovery_events.specs.declared.event.Event.{Event}
use Rattle.recovery_events.specs.declared.event.Event.TheVariants.{Received, AcksSent, AckDelayTimeout, TakePending, PacerCheck, NewId, NextId, InitialId, IssueIds, IdTimeout, PeerRetired, NextTimeout, InFlight, CheckAck, DatagramIn, Transmit}
use Rattle.recovery_spaces.specs.declared.discarded.DiscardedSpaces.{DiscardedSpaces}
use Rattle.recovery_spaces.specs.Discarded.{is_discarded}
use Rattle.recovery_spaces.specs.Packets.{Packets}
use Rattle.recovery_spaces.specs.SpaceLog.{SpaceEntry, heard, heard_again, takes_pending, ack_goes, ack_is_late}
use Rattle.recovery_spaces.specs.Spaces.{Space, SpaceStep, space_of, packets_of}
use Rattle.recovery_losses.specs.declared.due.Due.{Due}
use Rattle.recovery_losses.specs.declared.due.Due.TheVariants.{Losses, Probes}
use Rattle.recovery_losses.specs.Timeouts.{probe_start_of, probe_timeout_of}
use Rattle.recovery_paths.specs.declared.path_pair.PathName.TheVariants.{Current}
use Rattle.recovery_paths.specs.PathLog.{PerPath, PathReplyInputs, paths_known}
use Rattle.recovery_paths.specs.PathStates.{PathState, is_blocked}
use Rattle.recovery_queue.specs.Queues.{QueueSemantics}
use Rattle.recovery_history.specs.Entries.{here}
use Rattle.recovery_history.specs.History.{QueueModel}
use Rattle.recovery_history.specs.Logs.{OptionalStep}
use Rattle.recovery_history.specs.RecoveryState.{RecoveryState}
use Rattle.recovery_history.specs.Unlogged.{UnloggedState, plain_of}
use Rattle.recovery_history.specs.Transitions.{StateTransition}
use Rattle.recovery_losses.specs.declared.variables.Variables.{Variables}
use Rattle.recovery_sender.specs.declared.sender.packets.Transmission.{Transmission}
use Rattle.recovery_sender.specs.declared.sender.packets.Transmission.TheVariants as transmissions
use Rattle.recovery_sender.specs.Calls.{transmit_steps}
use Rattle.recovery_sender.specs.TimerUnchanged.{leaves_timer}
use Rattle.recovery_sender.specs.Steps.{StepsLeadTo}
use Rattle.recovery_losses.specs.Variables.{ack_delay_in, waiting_since}
use Rattle.recovery_sender.specs.Timer.{IsOnlyPto, behind, competes, deadlock_due, due_of, has_eliciting, loss_due, probe_due, probe_in, only_pto, pto_of, rtt_or, soonest, waits, TimerIsSet, least_datagram}

-- ---- the inputs of a space

abbrev pub Read : (P M : Type 0) → Type 0
Read P M = Packets P M × Option ℕ × Option ℕ

abbrev pub read_of : {P M : Type 0} → Space P M → Read P M
read_of here = (packets_of here, here.loss_time, here.time_of_last_ack_eliciting_packet)

-- an event of a space that changes nothing of it
abbrev IsQuiet : {P M : Type 0} → SpaceEntry P M → Type 0
IsQuiet (heard now number eliciting) = Unit {0}
IsQuiet (heard_again number) = Unit {0}
IsQuiet takes_pending = Unit {0}
IsQuiet ack_goes = Unit {0}
IsQuiet ack_is_late = Unit {0}
IsQuiet entry = ⊥

module _ {P M S : Type 0} (words : QueueSemantics P S) (old new : Space P M) where
  quiet_step : (entry : SpaceEntry P M) → IsQuiet entry → SpaceStep words entry old new → read_of new ≡ read_of old
  quiet_step (heard now number eliciting) quiet step = ap read_of step.others
  quiet_step (heard_again number) quiet step = ap read_of step.1
  quiet_step takes_pending quiet step = ap read_of step
  quiet_step ack_goes quiet step = ap read_of step
  quiet_step ack_is_late quiet step = ap read_of step
  quiet_step entry quiet step = absurd quiet

  quiet_where : (entry : SpaceEntry P M) → IsQuiet entry → (there : Bool)
      → OptionalStep (SpaceStep words) (if there then Some entry else None) old new → read_of new ≡ read_of old
  quiet_where entry quiet true step = quiet_step entry quiet step
  quiet_where entry quiet false step = ap read_of step

-- ---- what is due

module _ {P M : Type 0} (one other : Space P M) (same : read_of one ≡ read_of other) (space : SpaceId) where
  abbrev loss_by : Option ℕ → Option (ℕ × Due)
  loss_by time = option_map (λ time. let due : ℕ × Due = (time, Losses space) in due) time

  abbrev loss_where : Bool → Space P M → Option (ℕ × Due)
  loss_where gone here = loss_by (option_and_then (λ (here : Space P M). here.loss_time)
      (if gone then None else Some here))

  loss_same : (gone : Bool) → loss_where gone one ≡ loss_where gone other
  loss_same true = refl
  loss_same false = ap (λ (read : Read P M). loss_by read.1) same

  abbrev probe_by : Option ℕ → ℕ → Read P M → Option (ℕ × Due)
  probe_by waiting pto read = option_map (λ start. (behind start pto, Probes space))
      (probe_start_of (has_eliciting read.0) waiting read.2)

  probe_same : (waiting : Option ℕ) (first second : ℕ) → first ≡ second
      → probe_by waiting first (read_of one) ≡ probe_by waiting second (read_of other)
  probe_same waiting first second is =
      ap (λ pto. probe_by waiting pto (read_of one)) is ∙ ap (λ (read : Read P M). probe_by waiting second read) same

abbrev AllSame : (SpaceId → Option (ℕ × Due)) → (SpaceId → Option (ℕ × Due)) → Type 0
AllSame one other = (space : SpaceId) → one space ≡ other space

soonest_same : (one other : SpaceId → Option (ℕ × Due)) → AllSame one other → soonest one ≡ soonest other
soonest_same one other same = rw (same Initial, same Handshake, same Data) refl

-- ---- nothing but a probe of 1-RTT packets may be due

abbrev pub only_if : Bool → Bool → Bool → Bool → Bool → Bool → ℕ → Option ℕ
only_if initial handshake gone lost blocked waits pto = if initial || handshake then None
    else if gone then None else if lost || blocked || waits then None else Some pto

module _ {K P M : Type 0} (variables : Variables) where
  abbrev pub lost_in : RecoveryState K P M → Bool
  lost_in recovery = is_some (space_of Data recovery.spaces).loss_time

  pub only_of : (recovery : RecoveryState K P M) → only_pto recovery variables
      ≡ only_if (competes recovery variables Initial) (competes recovery variables Handshake)
      (is_discarded Data recovery.discarded) (lost_in recovery) (is_blocked recovery.paths.current.state least_datagram)
      (not variables.is_handshake_confirmed) (pto_of recovery variables Data)
  only_of recovery = go (competes recovery variables Initial || competes recovery variables Handshake)
      (is_discarded Data recovery.discarded)
    where
      go : (more gone : Bool)
          → (if more then None else option_and_then (λ (here : Space P M). if is_some here.loss_time
          || is_blocked recovery.paths.current.state least_datagram || not variables.is_handshake_confirmed then None
          else Some (pto_of recovery variables Data)) (if gone then None else Some (space_of Data recovery.spaces)))
          ≡ (if more then None else if gone then None else if lost_in recovery
          || is_blocked recovery.paths.current.state least_datagram || not variables.is_handshake_confirmed then None
          else Some (pto_of recovery variables Data))
      go true gone = refl
      go false true = refl
      go false false = refl

  pub only_by_parts : (old new : RecoveryState K P M)
      → competes new variables Initial ≡ competes old variables Initial
      → competes new variables Handshake ≡ competes old variables Handshake
      → lost_in new ≡ lost_in old → new.discarded ≡ old.discarded
      → is_blocked new.paths.current.state least_datagram ≡ is_blocked old.paths.current.state least_datagram
      → pto_of new variables Data ≡ pto_of old variables Data
      → only_pto new variables ≡ only_pto old variables
  only_by_parts old new initial handshake lost discarded blocked pto =
      let gone = ap (is_discarded Data) discarded in
      let same : (
        competes new variables Initial,
        competes new variables Handshake,
        is_discarded Data new.discarded,
        lost_in new,
        is_blocked new.paths.current.state least_datagram,
        pto_of new variables Data,
      )
      ≡ (
        competes old variables Initial,
        competes old variables Handshake,
        is_discarded Data old.discarded,
        lost_in old,
        is_blocked old.paths.current.state least_datagram,
        pto_of old variables Data,
      ) = cc in
      only_of new ∙ ap (λ (it : Bool × Bool × Bool × Bool × Bool × ℕ). only_if it.0 it.1 it.2 it.3 it.4
      (not variables.is_handshake_confirmed) it.5) same ∙ sym (only_of old)

-- ---- what is known of the timer

abbrev Timing : Type 0
Timing = Option ℕ × Option (ℕ × Due) × Option ℕ

module _ {K P M : Type 0} where
  abbrev pub timing_in : RecoveryState K P M → Variables → Timing
  timing_in recovery variables =
      (moment LossDetection recovery.timers, due_of recovery variables, only_pto recovery variables)

  -- the timer is set if it was, and what was known of it is
  abbrev pub KeepsTiming : RecoveryState K P M → Variables → RecoveryState K P M → Variables → Type 0
  KeepsTiming old before new after = (TimerIsSet old before → TimerIsSet new after)
      × ((known : Option ℕ) → IsOnlyPto old before known → IsOnlyPto new after known)

  pub keeps_timing : (old new here : RecoveryState K P M) (before after given : Variables) → here ≡ new → given ≡ after
      → timing_in new after ≡ timing_in old before → KeepsTiming old before here given
  keeps_timing old new here before after given is_here is_given kept =
      let same = ap (λ (at : RecoveryState K P M). timing_in at given) is_here
      ∙ ap (λ at. timing_in new at) is_given ∙ kept in (
        subst (λ (timing : Timing). timing.0 ≡ option_map (λ due. due.0) timing.1) (sym same),
        λ known is pto at. subst (λ (timing : Timing). timing.2 ≡ Some pto) (sym same) (is pto at),
      )

module _ {K P M : Type 0} (variables : Variables) (old new : RecoveryState K P M)
    (discarded : new.discarded ≡ old.discarded) (space : SpaceId) where
  pub competes_same : read_of (space_of space new.spaces) ≡ read_of (space_of space old.spaces)
      → competes new variables space ≡ competes old variables space
  competes_same same = rw discarded (go (is_discarded space old.discarded))
    where
      go : (gone : Bool)
          → option_map_or (λ (here : Space P M). is_some here.loss_time || has_eliciting (packets_of here))
          (if gone then None else Some (space_of space new.spaces)) false
          ≡ option_map_or (λ (here : Space P M). is_some here.loss_time || has_eliciting (packets_of here))
          (if gone then None else Some (space_of space old.spaces)) false
      go true = refl
      go false = ap (λ (read : Read P M). is_some read.1 || has_eliciting read.0) same

abbrev either_due : Option (ℕ × Due) → Bool → Option (ℕ × Due) → Option (ℕ × Due) → Option (ℕ × Due)
either_due losses blocked probes deadlock = option_or losses (if blocked then None else option_or probes deadlock)

module _ {K P M : Type 0} (variables : Variables) (old new : RecoveryState K P M)
    (spaces : (space : SpaceId) → read_of (space_of space new.spaces) ≡ read_of (space_of space old.spaces))
    (discarded : new.discarded ≡ old.discarded)
    (rtt : new.paths.current.state.rtt ≡ old.paths.current.state.rtt)
    (blocked : is_blocked new.paths.current.state least_datagram
    ≡ is_blocked old.paths.current.state least_datagram) where
  pto_same : (space : SpaceId) → pto_of new variables space ≡ pto_of old variables space
  pto_same space = ap (λ rtt. probe_timeout_of (pto_base_of (rtt_or variables.initial_rtt rtt))
      (ack_delay_in variables space) (min variables.pto_count 16)) rtt

  losses_same : AllSame (loss_due new) (loss_due old)
  losses_same space = rw discarded (loss_same (space_of space new.spaces) (space_of space old.spaces) (spaces space)
      space (is_discarded space old.discarded))

  probes_same : AllSame (probe_due new variables) (probe_due old variables)
  probes_same space = rw discarded (go (waits old variables space) (is_discarded space old.discarded))
    where
      go : (waiting gone : Bool)
          → (if waiting then None else option_and_then (probe_in new variables space)
          (if gone then None else Some (space_of space new.spaces)))
          ≡ (if waiting then None else option_and_then (probe_in old variables space)
          (if gone then None else Some (space_of space old.spaces)))
      go true gone = refl
      go false true = refl
      go false false =
          probe_same (space_of space new.spaces) (space_of space old.spaces) (spaces space) space
          (waiting_since variables space) _ _ (pto_same space)

  abbrev with_seen : DiscardedSpaces × Rtt → RecoveryState K P M
  with_seen seen = record old {
    discarded = seen.0;
    paths = record old.paths {
      current = record old.paths.current { state = record old.paths.current.state { rtt = seen.1 } };
    };
  }

  deadlock_same : deadlock_due new variables ≡ deadlock_due old variables
  deadlock_same =
      let same : (new.discarded, new.paths.current.state.rtt) ≡ (old.discarded, old.paths.current.state.rtt) = cc in
      ap (λ (seen : DiscardedSpaces × Rtt). deadlock_due (with_seen seen) variables) same

  pub due_kept : due_of new variables ≡ due_of old variables
  due_kept =
      let losses = soonest_same (loss_due new) (loss_due old) losses_same in
      let probes = soonest_same (probe_due new variables) (probe_due old variables) probes_same in
      let deadlock = deadlock_same in
      let same : (
        soonest (loss_due new),
        is_blocked new.paths.current.state least_datagram,
        soonest (probe_due new variables),
        deadlock_due new variables,
      ) ≡ (
        soonest (loss_due old),
        is_blocked old.paths.current.state least_datagram,
        soonest (probe_due old variables),
        deadlock_due old variables,
      ) = cc in
      ap (λ (it : Option (ℕ × Due) × Bool × Option (ℕ × Due) × Option (ℕ × Due)). either_due it.0 it.1 it.2 it.3) same

  competes_here : (space : SpaceId) → competes new variables space ≡ competes old variables space
  competes_here space = competes_same variables old new discarded space (spaces space)

  only_same : only_pto new variables ≡ only_pto old variables
  only_same = only_by_parts variables old new (competes_here Initial) (competes_here Handshake)
      (ap (λ (read : Read P M). is_some read.1) (spaces Data)) discarded blocked (pto_same Data)

  -- what is known of the timer stays
  pub timing_same : new.timers ≡ old.timers → timing_in new variables ≡ timing_in old variables
  timing_same timers =
      let set = ap (moment LossDetection) timers in let due = due_kept in let only = only_same in cc

-- ---- by events

abbrev plain_same : UnloggedState → DiscardedSpaces × TimerTable
plain_same plain = (plain.discarded, plain.timers)

module _ {K P M : Type 0} (variables : Variables) (old new : RecoveryState K P M) where
  same_set : ((space : SpaceId) → read_of (space_of space new.spaces) ≡ read_of (space_of space old.spaces))
      → new.paths.current.state.rtt ≡ old.paths.current.state.rtt
      → is_blocked new.paths.current.state least_datagram ≡ is_blocked old.paths.current.state least_datagram
      → plain_same (plain_of new) ≡ plain_same (plain_of old) → timing_in new variables ≡ timing_in old variables
  same_set spaces rtt blocked plain = timing_same variables old new spaces
      (ap (λ (it : DiscardedSpaces × TimerTable). it.0) plain) rtt blocked
      (ap (λ (it : DiscardedSpaces × TimerTable). it.1) plain)

  by_spaces : ((space : SpaceId) → read_of (space_of space new.spaces) ≡ read_of (space_of space old.spaces))
      → paths_known new.paths ≡ paths_known old.paths → plain_same (plain_of new) ≡ plain_same (plain_of old)
      → timing_in new variables ≡ timing_in old variables
  by_spaces spaces paths plain =
      let state : new.paths.current.state ≡ old.paths.current.state =
      ap (λ (known : PerPath (PathReplyInputs K)). known.current.state) paths in
      same_set spaces (ap (λ (state : PathState K). state.rtt) state)
      (ap (λ (state : PathState K). is_blocked state least_datagram) state) plain

  -- the path is not limited, and remains so
  unblocked : old.paths.current.state.validated ≡ true → new.paths.current.state.validated ≡ true
      → is_blocked new.paths.current.state least_datagram ≡ is_blocked old.paths.current.state least_datagram
  unblocked before after = rw (before, after) refl

module _ {K Q S M P : Type 0} (queue : QueueModel Q S M P) (variables : Variables) (old new : RecoveryState K P M) where
  quietly : (space : SpaceId) (entry : SpaceEntry P M) → IsQuiet entry → ((there : SpaceId)
      → OptionalStep (SpaceStep queue.words) (here space there entry) (space_of there old.spaces)
      (space_of there new.spaces))
      → (there : SpaceId) → read_of (space_of there new.spaces) ≡ read_of (space_of there old.spaces)
  quietly space entry quiet steps there = quiet_where queue.words (space_of there old.spaces)
      (space_of there new.spaces) entry quiet (same_space space there) (steps there)

  pub left_by : (event : Event Q S M P) (answer : Answer Q) → leaves_timer event ≡ true
      → StateTransition queue old event (Ok answer) new → timing_in new variables ≡ timing_in old variables
  left_by (Received space now number eliciting) (answers.New arm) is changes =
      by_spaces variables old new (quietly space (heard now number eliciting) tt changes.steps.spaces)
      changes.steps.paths (ap plain_same changes.plain)
  left_by (Received space now number eliciting) answer is changes =
      by_spaces variables old new (quietly space (heard_again number) tt changes.steps.spaces) changes.steps.paths
      (ap plain_same changes.plain)
  left_by (AcksSent space) answer is changes =
      by_spaces variables old new (quietly space ack_goes tt changes.steps.spaces) changes.steps.paths
      (ap plain_same changes.plain)
  left_by (AckDelayTimeout space) answer is changes =
      by_spaces variables old new (quietly space ack_is_late tt changes.steps.spaces) changes.steps.paths
      (ap plain_same changes.plain)
  left_by (TakePending space) answer is changes =
      by_spaces variables old new (quietly space takes_pending tt changes.steps.spaces) changes.steps.paths
      (ap plain_same changes.plain)
  left_by (PacerCheck now bytes) answer is changes =
      let asked = ap (λ (known : PerPath (PathReplyInputs K)). known.current.state) changes.steps.paths in
      same_set variables old new (λ there. ap read_of (changes.steps.spaces there))
      (ap (λ (state : PathState K). state.rtt) asked)
      (ap (λ (state : PathState K). is_blocked state least_datagram) asked)
      (ap plain_same changes.plain)
  left_by (NewId frame) answer is changes = by_spaces variables old new
      (λ there. ap read_of (changes.steps.spaces there)) changes.steps.paths (ap plain_same changes.plain.1)
  left_by NextId answer is changes = by_spaces variables old new
      (λ there. ap read_of (changes.steps.spaces there)) changes.steps.paths (ap plain_same changes.plain.1)
  left_by (InitialId id) answer is changes = by_spaces variables old new
      (λ there. ap read_of (changes.steps.spaces there)) changes.steps.paths (ap plain_same changes.plain.1)
  left_by (IssueIds now ids) answer is changes = by_spaces variables old new
      (λ there. ap read_of (changes.steps.spaces there)) changes.steps.paths (ap plain_same changes.plain)
  left_by IdTimeout answer is changes = by_spaces variables old new
      (λ there. ap read_of (changes.steps.spaces there)) changes.steps.paths (ap plain_same changes.plain)
  left_by (PeerRetired sequence limit) answer is changes = by_spaces variables old new
      (λ there. ap read_of (changes.steps.spaces there)) changes.steps.paths (ap plain_same changes.plain)
  left_by NextTimeout answer is changes = by_spaces variables old new
      (λ there. ap read_of (changes.steps.spaces there)) changes.steps.paths (ap plain_same changes.plain)
  left_by (InFlight path) answer is changes = by_spaces variables old new
      (λ there. ap read_of (changes.steps.spaces there)) changes.steps.paths (ap plain_same changes.plain)
  left_by (CheckAck space low high) answer is changes = by_spaces variables old new
      (λ there. ap read_of (changes.steps.spaces there)) changes.steps.paths (ap plain_same changes.plain)
  left_by event answer is changes = absurd (true≢false (sym is))

  -- no transmission or reception on a path without an amplification limit moves the timer
  module _ (unlimited : old.paths.current.state.validated ≡ true) where
    by_path : ((space : SpaceId) → space_of space new.spaces ≡ space_of space old.spaces)
        → new.paths.current.state.rtt ≡ old.paths.current.state.rtt
        → new.paths.current.state.validated ≡ old.paths.current.state.validated → plain_of new ≡ plain_of old
        → timing_in new variables ≡ timing_in old variables
    by_path spaces rtt validated plain =
        same_set variables old new (λ there. ap read_of (spaces there)) rtt
        (unblocked variables old new unlimited (validated ∙ unlimited)) (ap plain_same plain)

    abbrev current_of : PerPath (PathReplyInputs K) → PathState K
    current_of known = known.current.state

    pub received_in : (bytes : ℕ) (answer : Answer Q) → StateTransition queue old (DatagramIn Current bytes)
        (Ok answer) new
        → timing_in new variables ≡ timing_in old variables
    received_in bytes answer changes =
        let state = ap current_of changes.steps.paths in
        by_path changes.steps.spaces (ap (λ (state : PathState K). state.rtt) state)
        (ap (λ (state : PathState K). state.validated) state) changes.plain

    transmitted_in : (now bytes : ℕ) (checked : Bool) (answer : Answer Q)
        → (answer ≡ answers.Transmitted) ⊎ ((until : ℕ) × (answer ≡ answers.Delayed until))
        → StateTransition queue old (Transmit now bytes checked) (Ok answer) new
        → timing_in new variables ≡ timing_in old variables
    transmitted_in now bytes true answers.Transmitted either changes =
        let state = ap current_of changes.steps.paths in
        by_path changes.steps.spaces (ap (λ (state : PathState K). state.rtt) state)
        (ap (λ (state : PathState K). state.validated) state) changes.plain
    transmitted_in now bytes true (answers.Delayed until) either changes =
        let state = ap current_of changes.steps.paths in
        by_path changes.steps.spaces (ap (λ (state : PathState K). state.rtt) state)
        (ap (λ (state : PathState K). state.validated) state) changes.plain
    transmitted_in now bytes false answer either changes =
        let state = ap current_of changes.steps.paths in
        by_path changes.steps.spaces (ap (λ (state : PathState K). state.rtt) state)
        (ap (λ (state : PathState K). state.validated) state) changes.plain
    transmitted_in now bytes true answer (inl is) changes = absurd cc
    transmitted_in now bytes true answer (inr delayed) changes =
        let is = delayed.1 in absurd cc

module _ {F K Q S M P : Type 0} (built : F → ℕ → ℕ → K) (words : ControllerSemantics K) (queue : QueueModel Q S M P)
    (variables : Variables) (old new : RecoveryState K P M) (unlimited : old.paths.current.state.validated ≡ true) where
  pub transmitted_left : (now bytes : ℕ) (checked : Bool) (sent : Transmission)
      → StepsLeadTo built words queue (transmit_steps now bytes checked sent) old new
      → timing_in new variables ≡ timing_in old variables
  transmitted_left now bytes checked transmissions.Transmitted (between, changes, extends, is) = rw is
      (transmitted_in queue variables old between unlimited now bytes checked _ (inl refl) changes)
  transmitted_left now bytes checked (transmissions.Delayed until ack) (between, changes, extends, is) = rw is
      (transmitted_in queue variables old between unlimited now bytes checked _ (inr (until, refl)) changes)
  transmitted_left now bytes checked transmissions.Blocked is = rw is refl
  transmitted_left now bytes checked (transmissions.Full ack) is = rw is refl
