use Rattle.std.proofs.Common.{◌≡◌, ◌^◌, lit≤, ◌∙◌, length, take_all, arith}
use Rattle.std.proofs.lemmas.Bool.Decides.{nat_tests}
use Rattle.recovery_script_syntax.specs.Reading.{AreDigits}
use Rattle.recovery_script_syntax.proofs.NumberWordLaws.{digits_more, digits_read, not_read, too_large}
use Rattle.recovery_script_syntax.proofs.words.long_number_in.Goals as goal
use Rattle.recovery_script_syntax.proofs.words.long_number_in.Goals.{then-is_empty-via-then-is_empty}
use Rattle.recovery_script_syntax.proofs.words.long_number_in.Goals.{then-is_empty-via-else-is_empty+then-digits-eq48}
use Rattle.recovery_script_syntax.proofs.words.long_number_in.Goals.{then-digits-gt1, else-digits-gt1}

pub returns-then-is_empty : goal.returns-then-is_empty
returns-then-is_empty c =
    elim c.then-is_empty.branch [
      | then-is_empty-via-then-is_empty w ↦ not_read _ (λ n less s. grind (arith, nat_tests, s))
      | then-is_empty-via-else-is_empty+then-digits-eq48 w ↦
          elim w.if-digits-gt1.branch [
            | then-digits-gt1 v ↦ not_read _ (λ n less s. grind (arith, nat_tests, s))
            | else-digits-gt1 v ↦ grind (arith, nat_tests)
          ]
    ]

pub returns-then-digit-gt9 : goal.returns-then-digit-gt9
returns-then-digit-gt9 c =
    not_read _ (λ n less s. let i = c.loop-byte.byte-index in omega (arith, s.digits i, c.type_inv.digits i))

pub returns-in_err-value : goal.returns-in_err-value
returns-in_err-value c =
    c.from_residual-in_err-value.ensures
    ∙ too_large _ _ _ c.loop-byte-test.true (omega (arith, c.type_inv.digits c.loop-byte.byte-index))
    c.if-digit-gt9.false c.loop-byte.invariant.0 c.loop-byte.invariant.1 (omega (arith, c.in_err-value.ensures))

pub returns-in_err-checked_mul : goal.returns-in_err-checked_mul
returns-in_err-checked_mul c =
    c.from_residual.ensures
    ∙ too_large _ _ _ c.loop-byte-test.true (omega (arith, c.type_inv.digits c.loop-byte.byte-index))
    c.if-digit-gt9.false c.loop-byte.invariant.0 c.loop-byte.invariant.1 (omega (arith, c.in_err-checked_mul.ensures))

pub returns : goal.returns
returns c =
    let word = c.args.digits.now in
    let i : c.loop-byte.byte-index ≡ length word = omega arith in
    let digits : AreDigits word (length word) = rw i at c.loop-byte.invariant.0 in
    digits_read (2 ^ 128) (lit≤ tt) word c.loop-byte.value digits
    (rw (take_all c.loop-byte.byte-index word c.loop-byte-test.false) at c.loop-byte.invariant.1)
    c.loop-byte.invariant.2 (grind (arith, nat_tests)) (λ first.
    elim c.if-digits-gt1.branch [
      | then-digits-gt1 v ↦ grind (arith, nat_tests)
      | else-digits-gt1 v ↦ v.if-digits-gt1.false
    ])

pub loop-byte-preserved : goal.loop-byte-preserved
loop-byte-preserved c =
    let more = digits_more _ _ _ c.loop-byte-test.true (omega (arith, c.type_inv.digits c.loop-byte.byte-index))
    c.if-digit-gt9.false c.loop-byte.invariant.0 c.loop-byte.invariant.1 in
    (more.0, omega (arith, more.1), omega arith)
