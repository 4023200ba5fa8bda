-- Bytes in flight (RFC 9002, 2 and B.2): the sum of the sizes of the packets that were sent on a path and not
-- acknowledged, lost, forgotten or discarded since; and how many of these are ack-eliciting.
use Rattle.std.specs.Prelude.{◌≡◌, ℕ, ◌+◌, ◌==◌, Bool, true, false, ◌||◌, [], ◌∷◌, Option, None, Some, Ok, Err, if◌then◌else◌}
use Rattle.recovery_base.specs.declared.below.SpaceId.{SpaceId}
use Rattle.recovery_base.specs.declared.below.SpaceId.TheVariants.{Data}
use Rattle.recovery_events.specs.declared.event.Event.{Event}
use Rattle.recovery_events.specs.declared.event.Event.TheVariants.{Send, PollMtu, InFlight}
use Rattle.recovery_events.specs.declared.event.Answer.TheVariants as answer
use Rattle.recovery_events.specs.declared.event.Answer.TheVariants.{Sent, Probe}
use Rattle.recovery_events.specs.declared.event.Refusal.TheVariants.{NoSuchPath}
use Rattle.recovery_history.specs.History.{History, Reply}
use Rattle.recovery_history.specs.Promises.Paths.{generations, generation_by}
use Rattle.recovery_history.specs.Promises.Tracked.{leaves}

module _ {Q S M P : Type 0} (weigh : ℕ → Bool → ℕ) where
  -- what a sent packet adds, by its size and whether it is ack-eliciting, unless its number is gone
  abbrev pub weight : (SpaceId → ℕ → Bool) → Event Q S M P × Reply Q → ℕ
  weight gone (Send space now size eliciting largest queue frames, Ok (Sent number forgotten)) =
      if gone space number then 0 else weigh size eliciting
  weight gone (PollMtu now, Ok (Probe number size)) = if gone Data number then 0 else weigh size true
  weight gone happened = 0

  -- the sum over the packets that were sent on a path, whose numbers are not gone and did not leave since
  abbrev pub sum_on : ℕ → (SpaceId → ℕ → Bool) → History Q S M P → ℕ
  sum_on generation gone [] = 0
  sum_on generation gone (happened ∷ earlier) =
      (if (generations earlier).current == generation then weight gone happened else 0)
      + sum_on generation (λ space n. leaves happened space n || gone space n) earlier

module _ {Q S M P : Type 0} where
  abbrev pub IsTally : History Q S M P → Option ℕ → Reply Q → Type 0
  IsTally history None reply = reply ≡ Err NoSuchPath
  IsTally history (Some generation) reply =
      -- at the end of a history no number is gone yet
      let none_gone : SpaceId → ℕ → Bool = λ space n. false in
      reply ≡ Ok (answer.InFlight (sum_on (λ size eliciting. size) generation none_gone history)
      (sum_on (λ size eliciting. if eliciting then 1 else 0) generation none_gone history))

  abbrev pub CountsInFlight : History Q S M P → Event Q S M P → Reply Q → Type 0
  CountsInFlight history (InFlight path) reply = IsTally history (generation_by path history) reply
  CountsInFlight history event reply = Unit {0}
