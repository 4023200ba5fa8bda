use Rattle.std.proofs.Common.{refl, inr, rules}
use Rattle.std.proofs.KnownBytes.{Keeps-refl}
use Rattle.recovery_replay.proofs.GivingLaws.{line_told, no_item}
use Rattle.recovery_replay.proofs.YieldLaws.{none_given, one_given}
use Rattle.recovery_replay.proofs.giving.give.Goals as goal

pub returns-then-is_silent : goal.returns-then-is_silent
returns-then-is_silent g c =
    none_given g.S.Sink.takes _ c.args.sink.now ((search rules, tt), Keeps-refl (g.E.Write.contents c.args.errors.now))

pub returns-in-Ok-Some : goal.returns-in-Ok-Some
returns-in-Ok-Some g c =
    one_given g.S.Sink.takes _ c.args.sink.now c.put.new.self c.in-Ok-Some.item c.put.ensures
    (inr (search rules, tt), Keeps-refl (g.E.Write.contents c.args.errors.now))

pub returns-in-Ok-None : goal.returns-in-Ok-None
returns-in-Ok-None g c =
    none_given g.S.Sink.takes _ c.args.sink.now (line_told g.G.Grammar.encodes g.G.Grammar.are_short _ _
    c.args.line.now c.args.number c.report_line.result (
      search rules,
      no_item g.G.Grammar.encodes
          g.G.Grammar.are_short c.args.line.now c.in-Ok-None.field-0 (search rules) c.in-Ok-None.ensures,
    )
    c.report_line.ensures)

pub returns-in-Err : goal.returns-in-Err
returns-in-Err g c =
    none_given g.S.Sink.takes _ c.args.sink.now (refl, Keeps-refl (g.E.Write.contents c.args.errors.now))
