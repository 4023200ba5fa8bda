-- A frame is checked: no range holds a skipped number.
use Rattle.std.proofs.Common.{ℕ, ◌≡◌, ◌+◌, ◌<◌, false, Bool, List, Option, None, Some, get_or, Ok, subst, inl, inr, arith}
use Rattle.std.proofs.lemmas.Bool.Decides.{leb_tells, nat_tests}
use Rattle.std.specs.Prelude.{IfSome, if◌then◌else◌}
use Rattle.recovery_base.specs.declared.below.SpaceId.{SpaceId}
use Rattle.recovery_events.specs.declared.event.Answer.{Answer}
use Rattle.recovery_events.specs.declared.event.Answer.TheVariants.{Done}
use Rattle.recovery_events.specs.declared.event.Event.TheVariants.{CheckAck}
use Rattle.recovery_losses.specs.Frames.{is_unsent}
use Rattle.quic_recovery.specs.declared.driver.Recovery.{Recovery}
use Rattle.quic_recovery.specs.State.{ReadOnlyTransition}

module _ {F Q R C K S M P : Type 0} {f : _} {c : _} {q : _} {m : _} {r : _} (space : SpaceId) (ranges : List (ℕ × ℕ))
    (recovery : Recovery F Q R C K S M P f c q m r) where
  abbrev IsAllowed : ℕ → Type 0
  IsAllowed at = let range = get_or ranges at (0, 0) in ReadOnlyTransition (CheckAck space range.0 range.1) recovery
      (Ok Done)

  allowed : (low high : ℕ) (answer : Answer Q) → ReadOnlyTransition (CheckAck space low high) recovery (Ok answer)
      → ReadOnlyTransition (CheckAck space low high) recovery (Ok Done)
  allowed low high answer (kept, (small, (whole, (none, is)))) =
      subst (λ (given : Answer Q). ReadOnlyTransition (CheckAck space low high) recovery (Ok given)) is
      (kept, (small, (whole, (none, is))))

  pub allowed_on : (at : ℕ) (answer : Answer Q) → ((i : ℕ) → i < at → IsAllowed i)
      → (let range = get_or ranges at (0, 0) in ReadOnlyTransition (CheckAck space range.0 range.1) recovery
      (Ok answer))
      → (i : ℕ) → i < at + 1 → IsAllowed i
  allowed_on at answer before here i below = elim (leb_tells at i) [
    | inl same ↦ subst IsAllowed (omega (arith, same.1, below)) (allowed _ _ answer here)
    | inr under ↦ before i under.1
  ]

-- a space that is found is not discarded
pub kept_here : {T : Type 0} (gone : Bool) (there found : T) → Some found ≡ (if gone then None else Some there)
    → (gone ≡ false) × (found ≡ there)
kept_here gone there found is = grind (arith, is)

-- no number is above those that were sent
pub all_sent : (largest : Option ℕ) (next : ℕ) → is_unsent largest next ≡ false → IfSome largest (λ n. n < next)
all_sent None next is = tt
all_sent (Some largest) next is = grind (arith, nat_tests, is)
