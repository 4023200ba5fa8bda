use Rattle.std.proofs.Common.{◌∙◌, arith}
use Rattle.recovery_replay.proofs.ReadingLaws.{kept_all, kept_full}
use Rattle.recovery_replay.proofs.reading.keep.Goals as goal

pub returns-then-len-gt-LINE_LIMIT : goal.returns-then-len-gt-LINE_LIMIT
returns-then-len-gt-LINE_LIMIT c = record {
  kept = kept_full c.args.line.now.items c.args.byte
      (omega (arith, c.requires, c.len.ensures, c.if-len-gt-LINE_LIMIT.true));
  memory = tt;
}

pub returns-in-Ok : goal.returns-in-Ok
returns-in-Ok c = record {
  kept = c.in-Ok.ensures.items
      ∙ kept_all c.args.line.now.items c.args.byte (omega (arith, c.len.ensures, c.if-len-gt-LINE_LIMIT.false));
  memory = tt;
}
