use Rattle.recovery_sender.proofs.StepLaws.{does_behind_with}
use Rattle.recovery_losses.specs.Variables.{begun_anew}
use Rattle.recovery_sender.proofs.sender.Sender.discard.Goals as goal

pub returns-clause-steps : goal.returns-clause-steps
returns-clause-steps g c =
    does_behind_with (begun_anew c.args.space c.args.now) _ _ _ _ c.drop_keys.ensures c.begin_anew.ensures
