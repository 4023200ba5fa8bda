use Rattle.std.proofs.Common.{arith, refl}
use Rattle.recovery_script_syntax.proofs.NameLaws.{by_rest, eight_same}
use Rattle.recovery_script_syntax.proofs.words.are_same.Goals as goal

pub returns-then-word_at : goal.returns-then-word_at
returns-then-word_at c =
    let xs = c.args.bytes.now in
    let ys = c.args.others.now in
    let alike = eight_same xs ys c.word_at.ensures.bytes c.word_at-2.ensures.bytes
    (grind (arith, c.if-word_at.true, c.word_at.ensures.word, c.word_at-2.ensures.word)) in
    grind (
      arith,
      c.are_short_same-then-word_at.ensures,
      c.if-bytes-count.false,
      by_rest xs ys (omega (arith, c.if-bytes-count.false)) 8 alike _ refl,
    )
