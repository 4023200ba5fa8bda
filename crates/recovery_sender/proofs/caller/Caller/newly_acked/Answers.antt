use Rattle.std.proofs.Common.{ℕ, List, Err, refl, subst}
use Rattle.recovery_sender.specs.Acking.{IsNewly}
use Rattle.recovery_sender.proofs.caller.Caller.newly_acked.Goals as goal

pub returns : goal.returns
returns g c = (
  subst (λ (ranges : List (ℕ × ℕ)). IsNewly c.args.asked.space ranges c.args.self.now.sender (Err c.in-Err.refused))
      c.deref.ensures.value c.in-Err.ensures,
  refl,
)
