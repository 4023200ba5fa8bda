-- Steps after steps are one list of steps.
use Rattle.std.proofs.Common.{◌≡◌, List, [], ◌∷◌, ◌++◌, sym, subst, ◌∙◌}
use Rattle.recovery_events.specs.declared.event.Event.{Event}
use Rattle.recovery_history.specs.History.{Reply, queue_model}
use Rattle.recovery_history.specs.Transitions.{StateTransition}
use Rattle.recovery_sender.specs.declared.sender.Sender.{Sender}
use Rattle.recovery_losses.specs.declared.variables.Variables.{Variables}
use Rattle.recovery_sender.specs.Senders.{state_in}
use Rattle.recovery_sender.specs.Steps.{SenderStep, StepsLeadTo, TakesSteps, CompletesCall, told}
use Rattle.recovery_sender.proofs.LeadLaws.{leads_on}

module _ {F Q R C K S M P : Type 0} {f : _} {c : _} {q : _} {m : _} {r : _} where
  pub goes_on : (first second : List (SenderStep Q S M P)) (old between new : Sender F Q R C K S M P f c q m r)
      → TakesSteps first old between → TakesSteps second between new → TakesSteps (first ++ second) old new
  goes_on first second old between new goes later = record {
    leads = leads_on _ _ _ first _ _ _ _ goes.leads later.leads;
    variables = later.variables ∙ goes.variables;
  }

  -- the timer is set after steps
  pub does_after : (kept : Variables) (steps : List (SenderStep Q S M P))
      (old between new : Sender F Q R C K S M P f c q m r) → TakesSteps steps old between
      → CompletesCall [] kept between new → CompletesCall steps kept old new
  does_after kept steps old between new goes does = record {
    between = does.between;
    leads = subst (λ at. StepsLeadTo f.built c.words (queue_model q.contents q.words q.blank) steps (state_in old) at)
        (sym does.leads) goes.leads;
    sets = does.sets;
    variables = does.variables;
    timer = does.timer;
    limited = does.limited;
    alive = does.alive;
    running = does.running;
  }

  -- with variables derived from the old ones
  pub does_behind_with : (made : Variables → Variables) (steps : List (SenderStep Q S M P))
      (old between new : Sender F Q R C K S M P f c q m r) → TakesSteps steps old between
      → CompletesCall [] (made between.variables) between new → CompletesCall steps (made old.variables) old new
  does_behind_with made steps old between new goes does = does_after (made old.variables) steps old between new goes
      (subst (λ (kept : Variables). CompletesCall [] (made kept) between new) goes.variables does)

  pub does_behind : (steps : List (SenderStep Q S M P)) (old between new : Sender F Q R C K S M P f c q m r)
      → TakesSteps steps old between → CompletesCall [] between.variables between new
      → CompletesCall steps old.variables old new
  does_behind = does_behind_with (λ kept. kept)

  -- the same law for another sender with an equal recovery and equal variables
  pub does_as : (kept wanted : Variables) (old from new : Sender F Q R C K S M P f c q m r)
      → state_in old ≡ state_in from → kept ≡ wanted → CompletesCall [] kept from new → CompletesCall [] wanted old new
  does_as kept wanted old from new same is does =
      let does : CompletesCall [] wanted from new = subst (λ (kept : Variables). CompletesCall [] kept from new) is
      does in
      record {
        between = does.between;
        leads = does.leads ∙ sym same;
        sets = does.sets;
        variables = does.variables;
        timer = does.timer;
        limited = does.limited;
        alive = does.alive;
        running = does.running;
      }

  -- what an event changes
  pub told_changes : (event : Event Q S M P) (reply : Reply Q) (old new : Sender F Q R C K S M P f c q m r)
      → TakesSteps (told event reply ∷ []) old new
      → StateTransition (queue_model q.contents q.words q.blank) (state_in old) event reply (state_in new)
  told_changes event reply old new goes =
      subst (λ at. StateTransition (queue_model q.contents q.words q.blank) (state_in old) event reply at)
      (sym goes.leads.3) goes.leads.1
