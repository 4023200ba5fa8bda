use Rattle.std.proofs.Common.{refl, rules}
use Rattle.recovery_replay.proofs.GivingLaws.{all_given, cut_given, end_given, last_done, line_done, no_more, not_last, nothing_yet, stopped_given}
use Rattle.recovery_replay.proofs.YieldLaws.{given_so, none_given}
use Rattle.recovery_replay.proofs.giving.give_all.Goals as goal

pub loop-number-init : goal.loop-number-init
loop-number-init g c =
    none_given g.S.Sink.takes _ c.args.sink.now (nothing_yet g.G.Grammar.encodes g.G.Grammar.are_short
    (g.R.Read.remaining c.args.input.now) (g.E.Write.contents c.args.errors.now))

pub returns-in-Ok-None : goal.returns-in-Ok-None
returns-in-Ok-None g c =
    all_given g.G.Grammar.encodes g.G.Grammar.are_short g.S.Sink.takes _ _ c.loop-number.sink _ _
    (g.R.Read.remaining c.next_line.new.input) _ _ (g.E.Write.contents c.loop-number.errors)
    c.loop-number.number c.loop-number.invariant c.next_line.new.line.items c.in-Ok-None.field-0
    (search rules) c.in-Ok-None.ensures

pub returns-in-Err : goal.returns-in-Err
returns-in-Err g c =
    cut_given g.G.Grammar.encodes g.G.Grammar.are_short g.S.Sink.takes _ _ c.loop-number.sink _ _
    (g.R.Read.remaining c.next_line.new.input) _ _ (g.E.Write.contents c.loop-number.errors)
    c.loop-number.number c.loop-number.invariant c.in-Err.unread
    c.from.result c.from.ensures c.in-Err.ensures

pub returns-in-Ok-false : goal.returns-in-Ok-false
returns-in-Ok-false g c =
    stopped_given g.G.Grammar.encodes g.G.Grammar.are_short g.S.Sink.takes _ _ c.give.new.sink _ _
    (g.R.Read.remaining c.next_line.new.input) _ _ (g.E.Write.contents c.give.new.errors)
    c.loop-number.number c.loop-number.invariant c.next_line.new.line.items c.deref.result.now c.deref.ensures.value
    c.in-Ok-Some.next c.in-Ok-Some.field-0
    (search rules) c.in-Ok-Some.ensures c.in-Ok-false.field-0 c.in-Ok-false.ensures

pub returns-in-Err-give : goal.returns-in-Err-give
returns-in-Err-give g c =
    end_given g.G.Grammar.encodes g.G.Grammar.are_short g.S.Sink.takes _ _ c.give.new.sink _ _
    (g.R.Read.remaining c.next_line.new.input) _ _ (g.E.Write.contents c.give.new.errors)
    c.loop-number.number c.loop-number.invariant c.next_line.new.line.items c.deref.result.now c.deref.ensures.value
    c.in-Ok-Some.next c.in-Ok-Some.field-0
    (search rules) c.in-Ok-Some.ensures c.in-Err-give.outcome c.in-Err-give.ensures

pub returns-in-Last : goal.returns-in-Last
returns-in-Last g c =
    last_done g.G.Grammar.encodes g.G.Grammar.are_short g.S.Sink.takes _ _ c.give.new.sink _ _
    (g.R.Read.remaining c.next_line.new.input) _ _ (g.E.Write.contents c.give.new.errors)
    c.loop-number.number c.loop-number.invariant c.next_line.new.line.items c.deref.result.now c.deref.ensures.value
    c.in-Ok-Some.next c.in-Ok-Some.field-0
    (search rules) c.in-Ok-Some.ensures c.in-Ok-true.field-0 c.in-Last.is c.in-Ok-true.ensures

pub loop-number-preserved : goal.loop-number-preserved
loop-number-preserved g c =
    line_done g.G.Grammar.encodes g.G.Grammar.are_short g.S.Sink.takes _ _ c.give.new.sink _ _
    (g.R.Read.remaining c.next_line.new.input) _ _ (g.E.Write.contents c.give.new.errors)
    c.loop-number.number c.loop-number.invariant c.next_line.new.line.items c.deref.result.now c.deref.ensures.value
    c.in-Ok-Some.next c.in-Ok-Some.field-0
    (search rules) c.in-Ok-Some.ensures c.in-Ok-true.field-0 (not_last _ c.in_default.not-Last) c.in-Ok-true.ensures

pub returns : goal.returns
returns g c =
    given_so g.S.Sink.takes _ _ _ _ c.loop-number.invariant (λ items so. no_more g.G.Grammar.encodes
    g.G.Grammar.are_short _ _ _ _ c.loop-number.number items so)
