use Rattle.recovery_sender.proofs.PathLaws.{validated_kept}
use Rattle.recovery_sender.proofs.sender.Sender.change_path.Goals as goal

pub returns-in-Ok : goal.returns-in-Ok
returns-in-Ok g c = record {
  between = c.switch_path.new.self;
  permitted = c.in-Ok.ensures.0;
  goes = c.in-Ok.ensures.1;
  renews = rw (
    ← c.forgets_rtt-forgets.ensures,
    ← c.makes_fresh_path-is_fresh.ensures,
    ← c.initial_rtt_after.ensures,
    ← c.pto_count_on.ensures,
  )
      c.change_rtt.ensures;
  keeps = validated_kept c.args.self.now c.switch_path.new.self c.change_rtt.new.self _ c.change_rtt.ensures
      c.args.event c.in-Ok.answer c.requires.changes c.in-Ok.ensures.0 c.in-Ok.ensures.1;
}
