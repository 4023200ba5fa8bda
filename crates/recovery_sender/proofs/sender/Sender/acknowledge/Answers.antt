use Rattle.std.proofs.Common.{[], subst, ◌∙◌}
use Rattle.recovery_losses.specs.declared.variables.Variables.{Variables}
use Rattle.recovery_losses.specs.Variables.{heard_in, sampled_first}
use Rattle.recovery_sender.specs.Steps.{CompletesCall}
use Rattle.recovery_sender.proofs.AckRoomLaws.{has_room}
use Rattle.recovery_sender.proofs.DetectLaws.{variables_kept}
use Rattle.recovery_sender.proofs.KeptLaws.{ecn_keeps, sample_keeps}
use Rattle.recovery_sender.proofs.PersistenceLaws.{acknowledges_least}
use Rattle.recovery_sender.proofs.sender.Sender.acknowledge.Goals as goal

pub detect_and_remove_lost_packets-losses-requires-clause-room
    : goal.detect_and_remove_lost_packets-losses-requires-clause-room
detect_and_remove_lost_packets-losses-requires-clause-room g c =
    has_room c.args.space c.args.ranges.now c.args.self.now c.tell_acked.new.self c.end_acks.new.self
    c.sample.new.self c.args.newly c.requires.room (λ number there. ((c.requires.newly.each number).0 there).1)
    (rw c.deref-2.ensures.value at c.tell_acked.ensures.left) _ _ _ _ _ c.end_acks.ensures c.sample.ensures

pub returns-clause-stages : goal.returns-clause-stages
returns-clause-stages g c =
    let rtt_is = rw (c.received_at-received.ensures, c.largest_sent_on-sent.ensures) at c.rtt_since-rtt.ensures in
    let compared_is = rw c.deref.ensures.value at c.newly_compared-compared.ensures in
    record {
      taken = c.tell_acked.new.self;
      ended = c.end_acks.new.self;
      sampled = c.sample.new.self;
      looked = c.detect_and_remove_lost_packets-losses.new.self;
      heard = c.process_ecn-ecn.new.self;
      acks = rw (← c.deref-2.ensures.value, ← c.is_limited-is_limited.ensures) c.tell_acked.ensures.acks;
      ends = rw (← c.is_limited-is_limited.ensures) c.end_acks.ensures;
      samples = rw (← rtt_is) c.sample.ensures;
      rtt = rtt_is;
      detects = rw (← c.received_at-received.ensures) c.detect_and_remove_lost_packets-losses.ensures;
      compares = rw (
        ← compared_is,
        ← c.largest_sent_on-sent.ensures,
        ← c.largest_acked-before.ensures,
        ← c.largest_acked.ensures,
        ← c.is_raised-is_raised.ensures,
      ) c.process_ecn-ecn.ensures;
      does = rw (← rtt_is, ← c.is_first_sample-is_first.ensures) (subst (λ (variables : Variables).
          CompletesCall [] (heard_in c.args.space c.args.now
          (sampled_first c.is_first_sample-is_first.result c.args.now variables))
          c.process_ecn-ecn.new.self c.hear.new.self) (ecn_keeps _ _ _ _ _ _ _ _ _ _ c.process_ecn-ecn.ensures
          ∙ variables_kept _ _ _ _ _ _ _ c.detect_and_remove_lost_packets-losses.ensures
          ∙ sample_keeps _ _ _ _ _ c.sample.ensures ∙ c.end_acks.ensures.variables
          ∙ c.tell_acked.ensures.acks.variables) c.hear.ensures);
      least = acknowledges_least _ _ _ _ _ _ _ _ _ _ _ c.sample.new.self
          c.detect_and_remove_lost_packets-losses.new.self c.process_ecn-ecn.new.self c.hear.new.self
          g.met.F.Controller.Controller.laws
          g.met.F.ControllerFactory.starts_by_now
          c.detect_and_remove_lost_packets-losses.ensures c.process_ecn-ecn.ensures c.hear.ensures;
    }
