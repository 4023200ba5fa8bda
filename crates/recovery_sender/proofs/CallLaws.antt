-- The calls other than ACK frames and losses: their replies, and that their events succeed.
use Rattle.std.proofs.Common.{◌≡◌, ℕ, ◌∷◌, [], ◌+◌, ◌<◌, ◌≤◌, ◌^◌, true, false, Bool, Option, None, Some, Ok, Err, Result, true≢false, ltb-true, arith, refl, sym, ap, subst, ◌∙◌}
use Rattle.std.specs.Prelude.{◌&&◌, not, Decides, if◌then◌else◌, nat_lt}
use Rattle.std.proofs.lemmas.Option.{same_Some}
use Rattle.recovery_acks.specs.Acks.{CanSend}
use Rattle.recovery_base.specs.declared.below.SpaceId.{SpaceId}
use Rattle.recovery_base.specs.declared.below.SpaceId.TheVariants.{Initial, Handshake, Data}
use Rattle.recovery_base.specs.Spaces.{same_space}
use Rattle.recovery_base.specs.Units.{u64_limit}
use Rattle.recovery_congestion.specs.Controllers.{ControllerSemantics}
use Rattle.recovery_events.specs.declared.event.Answer.{Answer}
use Rattle.recovery_events.specs.declared.event.Answer.TheVariants as answers
use Rattle.recovery_events.specs.declared.event.Event.TheVariants.{QueueProbe, TakePending}
use Rattle.recovery_events.specs.declared.event.Refusal.{Refusal}
use Rattle.recovery_events.specs.declared.event.Refusal.TheVariants.{NoMemory, Overflow, SpaceDiscarded}
use Rattle.recovery_spaces.specs.Acks.{AckState}
use Rattle.recovery_spaces.specs.Discarded.{is_discarded}
use Rattle.recovery_spaces.specs.Spaces.{Space}
use Rattle.recovery_losses.specs.declared.variables.Variables.{Variables}
use Rattle.recovery_losses.specs.Variables.{is_probe_due}
use Rattle.recovery_paths.specs.PathStates.{PathState, is_blocked, path_delay}
use Rattle.recovery_history.specs.History.{QueueModel, Reply, queue_model}
use Rattle.recovery_history.specs.ReplyInputs.{ReplyInputs}
use Rattle.recovery_history.specs.RecoveryState.{RecoveryState}
use Rattle.recovery_history.specs.PartReplies.{delayed_or, transmit_answer}
use Rattle.recovery_history.specs.Unlogged.{UnloggedState}
use Rattle.recovery_history.specs.Transitions.{acks_to, inputs_of}
use Rattle.recovery_history.specs.Table.{ReplyTable}
use Rattle.recovery_sender.specs.declared.sender.SenderError.{SenderError}
use Rattle.recovery_sender.specs.declared.sender.SenderError.TheVariants.{Event}
use Rattle.recovery_sender.specs.declared.sender.Sender.{Sender}
use Rattle.recovery_sender.specs.declared.sender.packets.Transmission.{Transmission}
use Rattle.recovery_sender.specs.declared.sender.packets.Transmission.TheVariants.{Transmitted, Blocked, Delayed, Full}
use Rattle.recovery_sender.specs.Senders.{state_in}
use Rattle.recovery_sender.specs.Spaces.{space_in}
use Rattle.recovery_sender.specs.Steps.{told, TakesSteps}
use Rattle.recovery_sender.specs.Calls.{after_transmit, done_of, QueuesProbe, paced_to, bytes_in_flight, is_checked, is_full, window_of, transmission, transmit_reply, IsAckRequired}

-- ---- a datagram

-- a space that is found is not discarded
pub known_from : (gone : Bool) (there found : Bool) → (if gone then None else Some there) ≡ Some found
    → (gone ≡ false) × (there ≡ found)
known_from gone there found is = grind (arith, is)

-- what is transmitted after a check of window and pacer fits
within : (blocked full ack : Bool) (delay : Option ℕ) (window wanted : ℕ) → full ≡ nat_lt window wanted
    → Transmitted ≡ (if blocked then Blocked else if true then (if full then Full ack else paced_to ack delay)
    else Transmitted)
    → wanted ≤ window
within true full ack delay window wanted is goes = absurd cc
within false true ack delay window wanted is goes = absurd cc
within false false ack delay window wanted is goes = grind (arith, is)

-- no 1-RTT packet waits for room, nor one that does not count in flight
pub none_waits : (space : SpaceId) (now : ℕ) (in_flight : Bool) (sent : Transmission) (variables : Variables)
    → (in_flight && not (same_space space Data)) ≡ false
    → after_transmit now space in_flight sent variables ≡ variables
none_waits space now false sent variables alone = refl
none_waits Data now true (Full ack) variables alone = refl
none_waits Data now true Transmitted variables alone = refl
none_waits Data now true (Delayed until ack) variables alone = refl
none_waits Data now true Blocked variables alone = refl
none_waits Initial now true sent variables alone = absurd (true≢false alone)
none_waits Handshake now true sent variables alone = absurd (true≢false alone)

-- an ACK of a space is required exactly if it can be sent
pub ack_decided : {K P M : Type 0} (recovery : RecoveryState K P M) (space : SpaceId) (here : Space P M) (test : Bool)
    → Some here ≡ space_in recovery space → Decides test (CanSend here.pending_acks)
    → Decides test (IsAckRequired recovery space)
ack_decided {P = P} {M = M} recovery space here test is decides = (
  λ yes. (here, sym is, decides.0 yes),
  λ required. decides.1 (subst (λ (at : Space P M). CanSend at.pending_acks)
      (sym (same_Some here required.0 (is ∙ required.1))) required.2),
)

module _ {K P M : Type 0} (words : ControllerSemantics K) (recovery : RecoveryState K P M) (variables : Variables)
    (now bytes : ℕ) where
  pub transmit_answered : (space : SpaceId) (in_flight checked ack : Bool) (sent : Transmission)
      → (if is_discarded space recovery.discarded then None else Some (is_checked variables space in_flight))
      ≡ Some checked → recovery.paths.current.state.total_sent + bytes < 2 ^ 64
      → sent ≡ transmission words recovery now bytes checked ack
      → Ok sent ≡ transmit_reply words recovery variables now bytes space in_flight ack
  transmit_answered space in_flight checked ack sent is fits sends =
      let known = known_from _ _ _ is in
      grind (arith, known.0, known.1, fits, sends)

  pub overflow_answered : (space : SpaceId) (in_flight checked ack : Bool)
      → (if is_discarded space recovery.discarded then None else Some (is_checked variables space in_flight))
      ≡ Some checked → (test : Bool) → test ≡ false
      → Decides test (recovery.paths.current.state.total_sent + bytes < u64_limit)
      → Err (Event Overflow) ≡ transmit_reply words recovery variables now bytes space in_flight ack
  overflow_answered space in_flight checked ack is test never decides =
      by (nat_lt (recovery.paths.current.state.total_sent + bytes) u64_limit) refl
    where
      by : (fits : Bool) → nat_lt (recovery.paths.current.state.total_sent + bytes) u64_limit ≡ fits
          → Err (Event Overflow) ≡ transmit_reply words recovery variables now bytes space in_flight ack
      by true fits = absurd (true≢false (sym (decides.1 (ltb-true _ _ fits)) ∙ never))
      by false over = rw ((known_from _ _ _ is).0, over) refl

  pub window_kept : (space : SpaceId) (in_flight checked ack : Bool) (sent : Transmission)
      → (if is_discarded space recovery.discarded then None else Some (is_checked variables space in_flight))
      ≡ Some checked → sent ≡ transmission words recovery now bytes checked ack
      → ◌≡◌ {A = Result Transmission SenderError} (Ok sent) (Ok Transmitted) → in_flight ≡ true
      → is_probe_due variables space ≡ false
      → bytes_in_flight recovery + bytes ≤ window_of words recovery
  window_kept space in_flight checked ack sent is sends goes counts none =
      let known = known_from _ _ _ is in
      let is_sent : sent ≡ Transmitted = cc in
      let is_asked : checked ≡ true = sym known.1 ∙ (grind (arith, counts, none)) in
      within (is_blocked recovery.paths.current.state bytes) (is_full words recovery bytes) ack _ _ _ refl
      (rw is_asked at (sym is_sent ∙ sends))

-- what the limit permits is transmitted or delayed
pub always_told : {K Q : Type 0} (words : ControllerSemantics K) (now bytes : ℕ) (checked : Bool) (path : PathState K)
    → is_blocked path bytes ≡ false → (given : Answer Q) → given ≡ transmit_answer words now bytes checked path
    → (given ≡ answers.Transmitted → ⊥) → ((until : ℕ) → given ≡ answers.Delayed until → ⊥) → ⊥
always_told words now bytes false path limit given is sent delayed = sent is
always_told {Q = Q} words now bytes true path limit given is sent delayed =
    go (path_delay words now bytes path) (rw limit at is)
  where
    go : (delay : Option ℕ) → given ≡ delayed_or words answers.Transmitted delay → ⊥
    go None is = sent is
    go (Some until) is = delayed until is

-- ---- probes

-- in a space that is not discarded, a probe fails for want of memory alone
memory_alone : {K Q S M P : Type 0} (queue : QueueModel Q S M P) (words : ControllerSemantics K)
    (heard : SpaceId → AckState) (known : ReplyInputs K P M) (space : SpaceId) (immediate : Bool) (streams : S)
    (refusal : Refusal) → (known.spaces space).discarded ≡ false
    → ReplyTable queue words heard known (QueueProbe space immediate streams) (Err refusal) → refusal ≡ NoMemory
memory_alone queue words heard known space immediate streams NoMemory kept said = refl
memory_alone queue words heard known space immediate streams SpaceDiscarded kept said = absurd cc
memory_alone queue words heard known space immediate streams refusal kept said = absurd said.1

-- in a space that is not discarded, its queue is always returned
pub pending_given : {K Q S M P : Type 0} (queue : QueueModel Q S M P) (words : ControllerSemantics K)
    (heard : SpaceId → AckState) (known : ReplyInputs K P M) (space : SpaceId) (refusal : Refusal)
    → (known.spaces space).discarded ≡ false
    → ReplyTable queue words heard known (TakePending space) (Err refusal) → ⊥
pending_given queue words heard known space SpaceDiscarded kept said = absurd cc
pending_given queue words heard known space refusal kept said = said.1

-- as a queue
pub pending_queue : {K Q S M P : Type 0} (queue : QueueModel Q S M P) (words : ControllerSemantics K)
    (heard : SpaceId → AckState) (known : ReplyInputs K P M) (space : SpaceId) (answer : Answer Q)
    → ReplyTable queue words heard known (TakePending space) (Ok answer)
    → ((given : Q) → answer ≡ answers.Queue given → ⊥) → ⊥
pending_queue queue words heard known space (answers.Queue given) said none = none given refl
pending_queue queue words heard known space answer said none = said.1

module _ {F Q R C K S M P : Type 0} {f : _} {c : _} {q : _} {m : _} {r : _} (space : SpaceId) (immediate : Bool)
    (streams : S) (old new : Sender F Q R C K S M P f c q m r) where
  refused_so : (refusal : Refusal) → refusal ≡ NoMemory
      → TakesSteps (told (QueueProbe space immediate streams) (Err refusal) ∷ []) old new
      → QueuesProbe space immediate streams old new (Err (Event refusal))
  refused_so NoMemory is goes = goes
  refused_so refusal is goes = absurd cc

  pub queued_by : (reply : Reply Q) → is_discarded space (state_in old).discarded ≡ false
      → TakesSteps (told (QueueProbe space immediate streams) reply ∷ []) old new
      → QueuesProbe space immediate streams old new (done_of reply)
  queued_by (Ok answer) kept goes = (answer, goes)
  queued_by (Err refusal) kept goes =
      let recovery = state_in old in
      refused_so refusal (memory_alone (queue_model q.contents q.words q.blank) recovery.settings.words
      (acks_to recovery) (inputs_of recovery) space immediate streams refusal kept goes.leads.1.told) goes

  -- a probe discards no space
  pub kept_by : (answer : Answer Q) → is_discarded space (state_in old).discarded ≡ false
      → TakesSteps (told (QueueProbe space immediate streams) (Ok answer) ∷ []) old new
      → is_discarded space (state_in new).discarded ≡ false
  kept_by answer kept goes =
      let same : (state_in new).discarded ≡ (state_in old).discarded =
      ap (λ (parts : RecoveryState K P M). parts.discarded) goes.leads.3
      ∙ ap (λ (plain : UnloggedState). plain.discarded) goes.leads.1.plain in
      ap (is_discarded space) same ∙ kept
