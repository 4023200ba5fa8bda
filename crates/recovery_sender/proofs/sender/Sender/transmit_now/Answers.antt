use Rattle.recovery_sender.specs.Senders.{state_in}
use Rattle.recovery_sender.proofs.CallLaws.{always_told}
use Rattle.recovery_sender.proofs.sender.Sender.transmit_now.Goals as goal

pub unreachable-requires : goal.unreachable-requires
unreachable-requires g c =
    let told = c.tell_transmit.ensures.leads.1.told in
    always_told g.F.Controller.Controller.words c.args.now c.args.bytes c.args.is_checked
    (state_in c.args.self.now).paths.current.state c.requires.limit c.tell_transmit.result told.1
    c.in_default.not-Transmitted c.in_default.not-Delayed
