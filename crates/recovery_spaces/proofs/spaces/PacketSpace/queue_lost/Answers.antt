use Rattle.recovery_spaces.proofs.CarryLaws.{tracking_back}
use Rattle.recovery_spaces.proofs.spaces.PacketSpace.queue_lost.Goals as goal

pub returns-in-Err-clause-err : goal.returns-in-Err-clause-err
returns-in-Err-clause-err g c =
    let back = tracking_back c.self.inside.sent_packets c.args.number
    (g.Q.RetransmitQueue.contents c.empty-queue.result) (g.Q.RetransmitQueue.contents c.empty-queue.result) in
    rw (
      c.swap_queue-in-Err.ensures.after,
      c.in-Err.ensures.back,
      c.swap_queue.ensures.queue,
      c.swap_queue.ensures.after,
      back,
      c.in-Err.ensures.err,
    ) c.self.view_is
