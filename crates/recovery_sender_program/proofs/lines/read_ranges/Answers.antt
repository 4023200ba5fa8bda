use Rattle.std.proofs.Common.{sym, arith, rules}
use Rattle.recovery_script_syntax.specs.Reading.{words_left}
use Rattle.recovery_sender_program.proofs.RangeLaws.{end_last, none_more, one_more, over}
use Rattle.recovery_sender_program.proofs.lines.read_ranges.Goals as goal

pub loop-word-init : goal.loop-word-init
loop-word-init c = search rules

pub returns-then-is_end_name : goal.returns-then-is_end_name
returns-then-is_end_name c =
    end_last _ _ c.loop-word.ranges.items c.loop-word.invariant _ _ c.in-Some.ensures c.if-is_end_name.ensures _
    c.frame_end.ensures

pub returns-in_default-range_in : goal.returns-in_default-range_in
returns-in_default-range_in c =
    none_more _ _ c.loop-word.ranges.items c.loop-word.invariant _ _ c.in-Some.ensures c.if-is_end_name.ensures
    c.in_default-range_in.ensures

pub loop-word-smaller : goal.loop-word-smaller
loop-word-smaller c =
    (one_more _ _ c.loop-word.ranges.items c.loop-word.invariant _ _ c.in-Some.ensures c.if-is_end_name.ensures
    c.in-Some-range_in.range _ c.in-Some-range_in.ensures).1

pub loop-word-preserved : goal.loop-word-preserved
loop-word-preserved c =
    rw (c.in_ok-push.ensures.items)
    (one_more _ _ c.loop-word.ranges.items c.loop-word.invariant _ _ c.in-Some.ensures c.if-is_end_name.ensures
    c.in-Some-range_in.range _ c.in-Some-range_in.ensures).0

pub returns : goal.returns
returns c = over _ _ c.loop-word.ranges.items c.loop-word.invariant c.in_default.ensures
