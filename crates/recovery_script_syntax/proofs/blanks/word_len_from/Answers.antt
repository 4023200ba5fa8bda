use Rattle.std.proofs.Common.{sym, arith}
use Rattle.std.proofs.lemmas.List.Sums.{position_or_len_is}
use Rattle.std.proofs.lemmas.Bool.{eq-eqb}
use Rattle.recovery_script_syntax.proofs.blanks.word_len_from.Goals as goal

pub returns-else-bytes-end-ne32-clause-place : goal.returns-else-bytes-end-ne32-clause-place
returns-else-bytes-end-ne32-clause-place c = sym (position_or_len_is _ _ _ 0
    c.loop-end.invariant.0 c.loop-end.invariant.1 (λ lt. eq-eqb _ _ c.if-bytes-end-ne32.false))

pub returns-after-loop-end-clause-place : goal.returns-after-loop-end-clause-place
returns-after-loop-end-clause-place c = sym (position_or_len_is _ _ _ 0
    c.loop-end.invariant.0 c.loop-end.invariant.1 (λ lt. absurd (omega arith)))
