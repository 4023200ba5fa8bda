-- After a datagram that the window or the pacer holds back, an ACK alone of its size may be sent.
use Rattle.std.proofs.Common.{◌≡◌, ◌<◌, ℕ, Bool, true, false, [], ◌∷◌, Option, None, Some, nat_lt, inl, inr, ap, refl, sym, subst, ◌∙◌}
use Rattle.std.specs.Prelude.{◌*◌, ◌+◌, ◌&&◌, not, if◌then◌else◌}
use Rattle.recovery_base.specs.declared.below.SpaceId.{SpaceId}
use Rattle.recovery_base.specs.Units.{u64_limit}
use Rattle.recovery_congestion.specs.Controllers.{ControllerSemantics}
use Rattle.recovery_spaces.specs.declared.discarded.DiscardedSpaces.{DiscardedSpaces}
use Rattle.recovery_spaces.specs.Discarded.{is_discarded}
use Rattle.recovery_paths.specs.PathLog.{PathReplyInputs, PerPath}
use Rattle.recovery_paths.specs.PathStates.{PathState, is_blocked}
use Rattle.recovery_history.specs.History.{QueueModel, queue_model}
use Rattle.recovery_history.specs.RecoveryState.{RecoveryState}
use Rattle.recovery_history.specs.Unlogged.{UnloggedState}
use Rattle.recovery_losses.specs.declared.due.Due.{Due}
use Rattle.recovery_losses.specs.declared.variables.Variables.{Variables}
use Rattle.recovery_sender.specs.declared.sender.Sender.{Sender}
use Rattle.recovery_sender.specs.declared.sender.packets.Transmission.{Transmission}
use Rattle.recovery_sender.specs.declared.sender.packets.Transmission.TheVariants.{Blocked, Delayed, Full, Transmitted}
use Rattle.recovery_sender.specs.Calls.{PermitsAckAlone, PermitsAlone, paced_to, transmission, transmit_steps}
use Rattle.recovery_sender.specs.Senders.{state_in}
use Rattle.recovery_sender.specs.Steps.{CompletesCall, RearmsTimer, StepsLeadTo, timed}

-- what the amplification limit reads of a state, with the discarded spaces
abbrev Limits : Type 0
Limits = DiscardedSpaces × Bool × ℕ × ℕ

module _ {K P M : Type 0} where
  abbrev limits_in : RecoveryState K P M → Limits
  limits_in recovery = let path = recovery.paths.current.state in
      (recovery.discarded, path.validated, path.total_recvd, path.total_sent)

  limits_by : (one other : RecoveryState K P M) → other.discarded ≡ one.discarded
      → other.paths.current.state.validated ≡ one.paths.current.state.validated
      → other.paths.current.state.total_recvd ≡ one.paths.current.state.total_recvd
      → other.paths.current.state.total_sent ≡ one.paths.current.state.total_sent → limits_in other ≡ limits_in one
  limits_by one other discarded validated received sent = cc

module _ {F K Q S M P : Type 0} (built : F → ℕ → ℕ → K) (words : ControllerSemantics K) (queue : QueueModel Q S M P)
    (one other : RecoveryState K P M) where
  abbrev current_of : PerPath (PathReplyInputs K) → PathState K
  current_of known = known.current.state

  -- the timer is set, or stopped
  timer_kept : (due : Option (ℕ × Due)) → StepsLeadTo {Q = Q} {S = S} {M = M} {P = P} built words queue
      (timed due ∷ []) one other
      → limits_in other ≡ limits_in one
  timer_kept None (between, changes, extends, is) =
      let state = ap current_of changes.steps.paths in
      ap limits_in is ∙ limits_by one between (ap (λ (plain : UnloggedState). plain.discarded) changes.plain.1)
      (ap (λ (state : PathState K). state.validated) state) (ap (λ (state : PathState K). state.total_recvd) state)
      (ap (λ (state : PathState K). state.total_sent) state)
  timer_kept (Some due) (between, changes, extends, is) =
      let state = ap current_of changes.steps.paths in
      ap limits_in is ∙ limits_by one between (ap (λ (plain : UnloggedState). plain.discarded) changes.plain.1)
      (ap (λ (state : PathState K). state.validated) state) (ap (λ (state : PathState K). state.total_recvd) state)
      (ap (λ (state : PathState K). state.total_sent) state)

  rearmed_kept : (kept : Variables) → RearmsTimer built words queue kept one other
      → limits_in other ≡ limits_in one
  rearmed_kept kept (inl set) = ap limits_in set.1
  rearmed_kept kept (inr sets) = timer_kept _ sets.1

  -- the pacer delays a datagram
  delayed_kept : (now bytes until : ℕ) (ack : Bool)
      → StepsLeadTo built words queue (transmit_steps now bytes true (Delayed until ack)) one other
      → limits_in other ≡ limits_in one
  delayed_kept now bytes until ack (between, changes, extends, is) =
      let state = ap current_of changes.steps.paths in
      ap limits_in is ∙ limits_by one between (ap (λ (plain : UnloggedState). plain.discarded) changes.plain)
      (ap (λ (state : PathState K). state.validated) state) (ap (λ (state : PathState K). state.total_recvd) state)
      (ap (λ (state : PathState K). state.total_sent) state)

-- ---- what the sender says of the datagram

-- what is held back for the window or the pacer is within the limit
module _ (asked : Bool) (delay : Option ℕ) where
  abbrev said_as : (blocked checked full : Bool) → Transmission
  said_as blocked checked full = if blocked then Blocked
      else if checked then (if full then Full asked else paced_to asked delay) else Transmitted

full_within : (asked : Bool) (delay : Option ℕ) (blocked checked full ack : Bool)
    → Full ack ≡ said_as asked delay blocked checked full → blocked ≡ false
full_within asked delay true checked full ack is = absurd cc
full_within asked delay false checked full ack is = refl

delayed_within : (asked : Bool) (delay : Option ℕ) (blocked checked full ack : Bool) (until : ℕ)
    → Delayed until ack ≡ said_as asked delay blocked checked full → (blocked ≡ false) × (checked ≡ true)
delayed_within asked delay true checked full ack until is = absurd cc
delayed_within asked delay false true full ack until is = (refl, refl)
delayed_within asked delay false false full ack until is = absurd cc

module _ {F Q R C K S M P : Type 0} {f : _} {c : _} {q : _} {m : _} {r : _} (now bytes : ℕ) (space : SpaceId)
    (checked asked : Bool) (kept : Variables) (old new : Sender F Q R C K S M P f c q m r)
    (there : is_discarded space (state_in old).discarded ≡ false)
    (fits : (state_in old).paths.current.state.total_sent + bytes < u64_limit) where
  permits_by : limits_in (state_in new) ≡ limits_in (state_in old)
      → is_blocked (state_in old).paths.current.state bytes ≡ false → PermitsAlone (state_in new) space bytes
  permits_by same limit = record {
    keys = ap (λ (limits : Limits). is_discarded space limits.0) same ∙ there;
    total = subst (λ (limits : Limits). limits.3 + bytes < u64_limit) (sym same) fits;
    limit = ap (λ (limits : Limits). not limits.1 && nat_lt (3 * limits.2) (limits.3 + bytes)) same ∙ limit;
  }

  pub permits_alone : (sent : Transmission)
      → sent ≡ transmission c.words (state_in old) now bytes checked asked
      → CompletesCall (transmit_steps now bytes checked sent) kept old new
      → PermitsAckAlone (state_in new) space bytes sent
  permits_alone Transmitted is does = tt
  permits_alone Blocked is does = tt
  permits_alone (Full ack) is does = permits_by
      (rearmed_kept f.built c.words _ does.between (state_in new) kept does.sets ∙ ap limits_in does.leads)
      (full_within asked _ _ checked _ ack is)
  permits_alone (Delayed until ack) is does =
      let within = delayed_within asked _ _ checked _ ack until is in
      permits_by
      (rearmed_kept f.built c.words _ does.between (state_in new) kept does.sets
      ∙ delayed_kept f.built c.words _ (state_in old) does.between now bytes until ack
      (subst (λ (checked : Bool). StepsLeadTo {Q = Q} {S = S} f.built c.words (queue_model q.contents q.words q.blank)
      (transmit_steps now bytes checked (Delayed until ack)) (state_in old) does.between) within.1 does.leads)) within.0
