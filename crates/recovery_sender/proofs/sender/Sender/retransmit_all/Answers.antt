use Rattle.std.proofs.Common.{None, [], ◌∷◌, sym, subst, ◌∙◌}
use Rattle.recovery_losses.specs.declared.variables.Variables.{Variables}
use Rattle.recovery_losses.specs.Variables.{begun_anew}
use Rattle.recovery_sender.specs.Steps.{CompletesCall, loss_time}
use Rattle.recovery_sender.proofs.PromiseLaws.{loses_all}
use Rattle.recovery_sender.proofs.StepLaws.{does_behind_with}
use Rattle.recovery_sender.proofs.sender.Sender.retransmit_all.Goals as goal

pub returns : goal.returns
returns g c =
    let tries = c.lose_all-is_cut.ensures in
    let kept = sym c.is_discarded.ensures ∙ c.if-is_discarded.false in
    let steps = loss_time c.args.space None ∷ [] in (
      kept,
      c.lose_all-is_cut.new.self,
      tries,
      loses_all c.args.space c.args.self.now kept
          (record { numbers = c.lose_all-is_cut.new.numbers; is_cut = c.lose_all-is_cut.result }) _ tries,
      subst (λ (kept : Variables). CompletesCall steps (begun_anew c.args.space c.args.now kept)
          c.lose_all-is_cut.new.self c.begin_anew.new.self) tries.goes.variables
          (does_behind_with (begun_anew c.args.space c.args.now) steps c.lose_all-is_cut.new.self _ _
          c.set_loss_time.ensures c.begin_anew.ensures),
    )
