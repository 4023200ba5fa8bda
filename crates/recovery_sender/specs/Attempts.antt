-- Packets that are declared lost, one after another: allocation may fail for some, which are still tracked then.
use Rattle.std.specs.Prelude.{ℕ, Bool, true, false, not, List, [], ◌∷◌, Option, None, Some, Err}
use Rattle.std.specs.List.{list_any}
use Rattle.std.specs.Option.{is_some}
use Rattle.recovery_base.specs.declared.below.SpaceId.{SpaceId}
use Rattle.recovery_events.specs.declared.event.Event.TheVariants.{Lost}
use Rattle.recovery_events.specs.declared.event.Refusal.TheVariants.{NoMemory}
use Rattle.recovery_sender.specs.Steps.{SenderStep, occurs, told}

-- an attempt is the number of a packet, and whether allocation failed
abbrev pub LossAttempt : Type 0
LossAttempt = ℕ × Bool

-- the numbers that were tried
abbrev pub tried_in : List LossAttempt → List ℕ
tried_in [] = []
tried_in (attempt ∷ attempts) = attempt.0 ∷ tried_in attempts

-- those of them that were declared lost
abbrev pub declared_in : List LossAttempt → List ℕ
declared_in [] = []
declared_in ((number, false) ∷ attempts) = number ∷ declared_in attempts
declared_in ((number, true) ∷ attempts) = declared_in attempts

-- allocation failed for one
abbrev pub is_cut_in : List LossAttempt → Bool
is_cut_in attempts = list_any (λ attempt. attempt.1) attempts

-- the MTU probe is tried last, if it is lost
abbrev pub probe_attempts : Option ℕ → Option ℕ → List LossAttempt
probe_attempts None declared = []
probe_attempts (Some number) declared = (number, not (is_some declared)) ∷ []

-- the event of each attempt, with its reply
abbrev pub trying : {Q S M P : Type 0} → SpaceId → List LossAttempt → List (SenderStep Q S M P)
trying space [] = []
trying space ((number, false) ∷ attempts) = occurs (Lost space number) ∷ trying space attempts
trying space ((number, true) ∷ attempts) = told (Lost space number) (Err NoMemory) ∷ trying space attempts
