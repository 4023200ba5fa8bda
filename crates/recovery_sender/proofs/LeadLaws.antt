-- Steps of a sender in order, and the tracked packets after a loss.
use Rattle.std.proofs.Common.{◌≡◌, ◌≢◌, ℕ, true, false, Bool, List, [], ◌∷◌, ◌++◌, length, ◌==◌, Option, None, Some, Ok, refl, sym, ap, subst, ◌∙◌, true≢false, arith}
use Rattle.std.specs.Option.{option_map_or}
use Rattle.recovery_base.specs.declared.below.SpaceId.{SpaceId}
use Rattle.recovery_base.specs.declared.below.SpaceId.TheVariants.{Initial, Handshake, Data}
use Rattle.recovery_congestion.specs.Controllers.{ControllerSemantics}
use Rattle.recovery_events.specs.declared.event.Answer.{Answer}
use Rattle.recovery_events.specs.declared.event.Answer.TheVariants.{BlackHole}
use Rattle.recovery_events.specs.declared.event.Event.{Event}
use Rattle.recovery_events.specs.declared.event.Event.TheVariants.{Lost, LossesDone, Congestion}
use Rattle.recovery_spaces.specs.Discarded.{is_discarded}
use Rattle.recovery_spaces.specs.Packets.{Packets, packet_at, without}
use Rattle.recovery_spaces.specs.Spaces.{space_of, packets_of}
use Rattle.recovery_history.specs.History.{QueueModel, queue_model}
use Rattle.recovery_history.specs.RecoveryState.{RecoveryState}
use Rattle.recovery_history.specs.Unlogged.{UnloggedState, plain_of}
use Rattle.recovery_history.specs.Transitions.{StateTransition}
use Rattle.recovery_sender.specs.Senders.{state_in}
use Rattle.recovery_sender.specs.Spaces.{packets_in, space_in}
use Rattle.recovery_sender.specs.declared.sender.Sender.{Sender}
use Rattle.recovery_sender.specs.Detection.{ended, congested, is_reported}
use Rattle.recovery_sender.specs.Steps.{SenderStep, StepsLeadTo, TakesSteps, told, occurs, loss_time, marked}

module _ {F K Q S M P : Type 0} (built : F → ℕ → ℕ → K) (words : ControllerSemantics K)
    (queue : QueueModel Q S M P) where
  -- steps after steps
  pub leads_on : (steps more : List (SenderStep Q S M P)) (old between new : RecoveryState K P M)
      → StepsLeadTo built words queue steps old between → StepsLeadTo built words queue more between new
      → StepsLeadTo built words queue (steps ++ more) old new
  leads_on [] more old between new first second = subst (λ at. StepsLeadTo built words queue more at new) first second
  leads_on (told event reply ∷ steps) more old between new first second =
      (first.0, first.1, first.2, leads_on steps more first.0 between new first.3 second)
  leads_on (occurs event ∷ steps) more old between new first second =
      (first.0, first.1, first.2, first.3, leads_on steps more first.1 between new first.4 second)
  leads_on (loss_time space time ∷ steps) more old between new first second =
      leads_on steps more _ between new first second
  leads_on (marked marks ∷ steps) more old between new first second =
      leads_on steps more _ between new first second

  -- a packet was declared lost: it is no longer tracked
  taken_in : (space : SpaceId) (number : ℕ) (answer : Answer Q) (old new : RecoveryState K P M)
      → StateTransition queue old (Lost space number) (Ok answer) new
      → packets_of (space_of space new.spaces) ≡ without (packets_of (space_of space old.spaces)) number
  taken_in Initial number answer old new changes = ap packets_of (changes.steps.spaces Initial)
  taken_in Handshake number answer old new changes = ap packets_of (changes.steps.spaces Handshake)
  taken_in Data number answer old new changes = ap packets_of (changes.steps.spaces Data)

  pub packets_lost : (space : SpaceId) (number : ℕ) (answer : Answer Q) (old new : RecoveryState K P M)
      → StateTransition queue old (Lost space number) (Ok answer) new → packet_at (packets_in old space) number ≢ None
      → packets_in new space ≡ without (packets_in old space) number
  packets_lost space number answer old new changes tracked = by_test (is_discarded space old.discarded) refl
    where
      same : is_discarded space new.discarded ≡ is_discarded space old.discarded
      same = ap (λ (plain : UnloggedState). is_discarded space plain.discarded) changes.plain

      by_test : (test : Bool) → is_discarded space old.discarded ≡ test
          → packets_in new space ≡ without (packets_in old space) number
      by_test true gone = absurd (tracked (grind (arith, gone)))
      by_test false kept = rw (same, kept) (taken_in space number answer old new changes)

pub none_ended : (numbers : List ℕ) → false ≡ (length numbers == 0) → numbers ≡ [] → ⊥
none_ended [] some none = true≢false (sym some)
none_ended (number ∷ numbers) some none = absurd cc

-- an event with such an answer occurred
module _ {F Q R C K S M P : Type 0} {f : _} {c : _} {q : _} {m : _} {r : _} where
  pub occurred : (event : Event Q S M P) (answer : Answer Q) (old new : Sender F Q R C K S M P f c q m r)
      → TakesSteps (told event (Ok answer) ∷ []) old new → TakesSteps (occurs event ∷ []) old new
  occurred event answer old new goes = let leads = goes.leads in record {
    leads = (answer, leads.0, leads.1, leads.2, leads.3);
    variables = goes.variables;
  }

  -- the end of the losses reports whether there is a black hole
  pub some_ended : (now : ℕ) (answer : Answer Q) (numbers : List ℕ) (old new : Sender F Q R C K S M P f c q m r)
      → false ≡ (length numbers == 0) → TakesSteps (told (LossesDone now) (Ok answer) ∷ []) old new
      → TakesSteps (ended now (is_reported answer) numbers) old new
  some_ended now answer [] old new some goes = absurd (true≢false (sym some))
  some_ended now answer (number ∷ numbers) old new some goes =
      let is = goes.leads.1.told in
      subst (λ (a : Answer Q). TakesSteps (told (LossesDone now) (Ok a) ∷ []) old new)
      (is ∙ ap (λ (a : Answer Q). BlackHole (is_reported a)) (sym is)) goes

-- ---- steps that leave the packets of the spaces unchanged

-- a space is unchanged, if all are and none was discarded
pub space_same : {K P M : Type 0} (space : SpaceId) (old new : RecoveryState K P M)
    → ((at : SpaceId) → space_of at new.spaces ≡ space_of at old.spaces) → plain_of new ≡ plain_of old
    → space_in new space ≡ space_in old space
space_same space old new spaces plain =
    let here = spaces space in let there = ap (λ (p : UnloggedState). is_discarded space p.discarded) plain in
    grind (arith, here, there)

module _ {K Q S M P : Type 0} (queue : QueueModel Q S M P) (space : SpaceId) (answer : Answer Q)
    (old new : RecoveryState K P M) where
  packets_same : ((at : SpaceId) → space_of at new.spaces ≡ space_of at old.spaces) → plain_of new ≡ plain_of old
      → packets_in new space ≡ packets_in old space
  packets_same spaces plain = ap (λ here. option_map_or packets_of here []) (space_same space old new spaces plain)

  done_same : (now : ℕ) → StateTransition queue old (LossesDone now) (Ok answer) new
      → packets_in new space ≡ packets_in old space
  done_same now changes = packets_same changes.steps.spaces changes.plain

  congestion_same : (now sent : ℕ) (persistent : Bool) (bytes : ℕ)
      → StateTransition queue old (Congestion now sent persistent bytes) (Ok answer) new
      → packets_in new space ≡ packets_in old space
  congestion_same now sent persistent bytes changes = packets_same changes.steps.spaces changes.plain

module _ {F Q R C K S M P : Type 0} {f : _} {c : _} {q : _} {m : _} {r : _} (space : SpaceId)
    (old new : Sender F Q R C K S M P f c q m r) where
  abbrev tracked : RecoveryState K P M → Packets P M
  tracked recovery = packets_in recovery space

  pub packets_ended : (now : ℕ) (reported : Bool) (numbers : List ℕ) → TakesSteps (ended now reported numbers) old new
      → tracked (state_in new) ≡ tracked (state_in old)
  packets_ended now reported [] goes = ap tracked goes.leads
  packets_ended now reported (number ∷ numbers) goes = let leads = goes.leads in ap tracked leads.3
      ∙ done_same (queue_model q.contents q.words q.blank) space (BlackHole reported) (state_in old) leads.0 now
      leads.1

  pub packets_congested : (now : ℕ) (persistent : Bool) (bytes : ℕ) (sent : Option ℕ)
      → TakesSteps (congested now persistent bytes sent) old new → tracked (state_in new) ≡ tracked (state_in old)
  packets_congested now persistent bytes None goes = ap tracked goes.leads
  packets_congested now persistent bytes (Some sent) goes = let leads = goes.leads in ap tracked leads.4
      ∙ congestion_same (queue_model q.contents q.words q.blank) space leads.0 (state_in old) leads.1 _ _ persistent
      bytes leads.2
