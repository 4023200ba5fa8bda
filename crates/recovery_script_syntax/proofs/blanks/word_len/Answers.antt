use Rattle.std.proofs.Common.{◌==◌, slice_index, sym, arith}
use Rattle.std.proofs.lemmas.List.Sums.{position_or_len_is}
use Rattle.core.proofs.slice.Covered.{then}
use Rattle.recovery_script_syntax.proofs.blanks.word_len.Goals as goal

pub returns-then-spaces-ne0-clause-place : goal.returns-then-spaces-ne0-clause-place
returns-then-spaces-ne0-clause-place c =
    let first = c.spaces_at-spaces.ensures.lowest (omega (arith, c.if-spaces-ne0.true)) in
    let place = first.1 in
    let none = then (λ k. slice_index c.args.bytes.now k == 32) 0 _ _ c.loop-end.invariant.1 place.before in
    sym (position_or_len_is (λ b. b == 32) c.args.bytes.now _ 0 (omega (arith, place.high, c.loop-end-test.true))
    (λ k lt. none k (omega arith) lt) (λ lt. place.hit (omega (arith, first.0))))
