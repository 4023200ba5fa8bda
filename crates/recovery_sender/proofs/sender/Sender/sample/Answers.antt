use Rattle.std.proofs.Common.{sym, ap, ◌∙◌}
use Rattle.recovery_history.specs.History.{queue_model}
use Rattle.recovery_history.specs.RecoveryState.{RecoveryState}
use Rattle.recovery_sender.proofs.LeadLaws.{occurred}
use Rattle.recovery_sender.proofs.SampleLaws.{estimated}
use Rattle.recovery_sender.specs.Senders.{state_in}
use Rattle.recovery_sender.proofs.sender.Sender.sample.Goals as goal

pub returns : goal.returns
returns g c = rw c.in-Some.is (
  c.tell_sample.new.self,
  rw (← c.delay_counted-delay.ensures) (occurred _ _ _ _ c.tell_sample.ensures),
  c.mark_first_packet.ensures,
)

pub mark_first_packet-requires : goal.mark_first_packet-requires
mark_first_packet-requires g c =
    let leads = c.tell_sample.ensures.leads in
    λ none. estimated (queue_model g.Q.RetransmitQueue.contents g.Q.RetransmitQueue.words g.Q.RetransmitQueue.blank)
    (state_in c.args.self.now) leads.0 _ _ c.tell_sample.result leads.1
    (sym (ap (λ (recovery : RecoveryState _ _ _). recovery.paths.current.state.rtt.smoothed) leads.3) ∙ none)
