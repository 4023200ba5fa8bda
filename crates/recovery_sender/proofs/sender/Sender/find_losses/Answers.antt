use Rattle.std.proofs.Common.{ap, refl}
use Rattle.recovery_losses.specs.declared.variables.Variables.{Variables}
use Rattle.recovery_sender.proofs.DetectLaws.{variables_kept}
use Rattle.recovery_sender.proofs.StepLaws.{does_as}
use Rattle.recovery_sender.proofs.sender.Sender.find_losses.Goals as goal

pub returns : goal.returns
returns g c =
    let now = c.args.now in
    let behind = c.detect_and_remove_lost_packets-losses.new.self in
    let kept : Variables = record behind.variables { base = now } in
    let wanted : Variables = record c.args.self.now.variables { base = now } in
    record {
      behind = behind;
      detects = c.detect_and_remove_lost_packets-losses.ensures;
      does = does_as kept wanted behind _ _ refl (ap (λ (variables : Variables). record variables { base = now })
          (variables_kept _ _ _ _ _ _ _ c.detect_and_remove_lost_packets-losses.ensures)) c.complete.ensures;
    }
