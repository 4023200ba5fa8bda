-- The loss times of all spaces are computed again, in order.
use Rattle.std.proofs.Common.{ℕ, [], ◌∷◌, Option}
use Rattle.recovery_base.specs.declared.below.SpaceId.{SpaceId}
use Rattle.recovery_base.specs.declared.below.SpaceId.TheVariants.{Initial, Handshake, Data}
use Rattle.recovery_sender.specs.declared.sender.Sender.{Sender}
use Rattle.recovery_sender.specs.Calls.{RenewsLossTimes}
use Rattle.recovery_sender.specs.Losses.{IsNextLoss}
use Rattle.recovery_sender.specs.Senders.{state_in}
use Rattle.recovery_sender.specs.Steps.{TakesSteps, loss_time}
use Rattle.recovery_sender.proofs.StepLaws.{goes_on}

abbrev time_in : Option ℕ → Option ℕ → Option ℕ → SpaceId → Option ℕ
time_in initial handshake other Initial = initial
time_in initial handshake other Handshake = handshake
time_in initial handshake other Data = other

module _ {F Q R C K S M P : Type 0} {f : _} {c : _} {q : _} {m : _} {r : _}
    (old first second new : Sender F Q R C K S M P f c q m r) (initial handshake other : Option ℕ) where
  abbrev IsNext : SpaceId → Option ℕ → Type 0
  IsNext space time = IsNextLoss (state_in old) old.variables space time

  pub renewed : IsNext Initial initial → IsNext Handshake handshake → IsNext Data other
      → TakesSteps (loss_time Initial initial ∷ []) old first
      → TakesSteps (loss_time Handshake handshake ∷ []) first second
      → TakesSteps (loss_time Data other ∷ []) second new → RenewsLossTimes old new
  renewed is_initial is_handshake is_other one two three = record {
    times = time_in initial handshake other;
    next = next;
    goes = goes_on (loss_time Initial initial ∷ []) (loss_time Handshake handshake ∷ loss_time Data other ∷ []) old
        first new one (goes_on (loss_time Handshake handshake ∷ []) (loss_time Data other ∷ []) first second new two
        three);
  }
    where
      next : (space : SpaceId) → IsNext space (time_in initial handshake other space)
      next Initial = is_initial
      next Handshake = is_handshake
      next Data = is_other
