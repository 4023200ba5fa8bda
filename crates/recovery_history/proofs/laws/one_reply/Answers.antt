use Rattle.recovery_history.specs.History.{begins, queue_model}
use Rattle.recovery_history.proofs.TableLaws.{one_reply_to}
use Rattle.recovery_history.proofs.laws.one_reply.Goals as goal

pub returns : goal.returns
returns g c = λ config start random history.
    let queues = queue_model g.Q.RetransmitQueue.contents g.Q.RetransmitQueue.words g.Q.RetransmitQueue.blank in
    one_reply_to (begins g.F.ControllerFactory.built g.F.Controller.Controller.words queues config start random) history
