use Rattle.recovery_history.specs.History.{queue_model}
use Rattle.recovery_sender.proofs.ExtendedLaws.{steps_extend_pasts}
use Rattle.recovery_sender.proofs.laws.past_explains_marks.Goals as goal

pub returns : goal.returns
returns g c = steps_extend_pasts g.F.ControllerFactory.built g.F.Controller.Controller.words
    (queue_model g.Q.RetransmitQueue.contents g.Q.RetransmitQueue.words g.Q.RetransmitQueue.blank)
