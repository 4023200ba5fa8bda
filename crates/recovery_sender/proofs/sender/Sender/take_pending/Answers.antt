use Rattle.recovery_history.specs.History.{queue_model}
use Rattle.recovery_history.specs.Transitions.{acks_to, inputs_of}
use Rattle.recovery_sender.specs.Senders.{state_in}
use Rattle.recovery_sender.proofs.CallLaws.{pending_given, pending_queue}
use Rattle.recovery_sender.proofs.sender.Sender.take_pending.Goals as goal

pub tell-requires : goal.tell-requires
tell-requires g c =
    let old = state_in c.args.self.now in
    record {
      answered = λ refusal said. pending_given
          (queue_model g.Q.RetransmitQueue.contents g.Q.RetransmitQueue.words g.Q.RetransmitQueue.blank)
          old.settings.words (acks_to old) (inputs_of old) c.args.space refusal c.requires.there said;
      stays = tt;
    }

pub unreachable-requires : goal.unreachable-requires
unreachable-requires g c =
    let old = state_in c.args.self.now in
    pending_queue (queue_model g.Q.RetransmitQueue.contents g.Q.RetransmitQueue.words g.Q.RetransmitQueue.blank)
    old.settings.words (acks_to old) (inputs_of old) c.args.space c.tell.result c.tell.ensures.leads.1.told
    c.in_default.not-Queue
