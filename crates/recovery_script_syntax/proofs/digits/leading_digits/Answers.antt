use Rattle.std.proofs.Common.{arith, refl, rules}
use Rattle.recovery_script_syntax.proofs.DigitLaws.{are_digits, value_read, none_read, eight_first, eight_more, one_more}
use Rattle.recovery_script_syntax.proofs.digits.leading_digits.Goals.{then-bytes-ge8+else-front-lt8+then-bytes-ge16+else-more-lt8, then-bytes-ge8+else-front-lt8+else-bytes-ge16, else-bytes-ge8}
use Rattle.recovery_script_syntax.proofs.digits.leading_digits.Goals as goal

pub returns-then-front-lt8 : goal.returns-then-front-lt8
returns-then-front-lt8 c =
    let u = c.up_to_eight-front in
    let r = eight_first c.args.bytes.now c.type_inv.bytes _ u.result.0 u.result.0 u.result.1 refl (omega arith)
    c.word_at.ensures.word u.ensures.most (omega arith) u.ensures.read in
    record { value = value_read _ _ _ r; digits = are_digits _ _ _ r; within = r.within; fits = search rules }

pub returns-then-more-lt8 : goal.returns-then-more-lt8
returns-then-more-lt8 c =
    let u = c.up_to_eight-front in
    let v = c.up_to_eight-more in
    let r = eight_more c.args.bytes.now c.type_inv.bytes 8 u.result.1 _ v.result.0 v.result.1
    (eight_first _ c.type_inv.bytes _ u.result.0 _ _ (omega arith) (omega arith) c.word_at.ensures.word u.ensures.most
    (omega arith) u.ensures.read) (omega arith) c.word_at-then-bytes-ge16.ensures.word v.ensures.most v.ensures.read in
    record {
      value = rw c.ten_to.ensures (value_read _ _ _ r);
      digits = are_digits _ _ _ r;
      within = r.within;
      fits = search rules;
    }

pub loop-count-init : goal.loop-count-init
loop-count-init c =
    elim c.if-bytes-ge8.branch [
      | then-bytes-ge8+else-front-lt8+then-bytes-ge16+else-more-lt8 w ↦
          let u = w.up_to_eight-front in
          let v = w.up_to_eight-more in
          rw (w.value-is, w.count-is, w.ten_to.ensures) (eight_more _ c.type_inv.bytes 8 u.result.1 _ _ _
          (eight_first _ c.type_inv.bytes _ u.result.0 _ _ (omega arith) w.if-bytes-ge8.true w.word_at.ensures.word
          u.ensures.most (omega arith) u.ensures.read) w.if-bytes-ge16.true w.word_at-then-bytes-ge16.ensures.word
          v.ensures.most v.ensures.read)
      | then-bytes-ge8+else-front-lt8+else-bytes-ge16 w ↦
          let u = w.up_to_eight-front in
          rw (w.value-is, w.count-is) (eight_first _ c.type_inv.bytes _ u.result.0 _ _ (omega arith)
          w.if-bytes-ge8.true w.word_at.ensures.word u.ensures.most (omega arith) u.ensures.read)
      | else-bytes-ge8 w ↦ rw (w.value-is, w.count-is) (none_read _)
    ]

pub loop-count-preserved : goal.loop-count-preserved
loop-count-preserved c =
    rw c.from-digit.ensures
    (one_more _ c.type_inv.bytes _ _ c.loop-count.invariant c.loop-count-test.true (omega arith))

pub returns-after-loop-count : goal.returns-after-loop-count
returns-after-loop-count c =
    let r = c.loop-count.invariant in
    record { value = value_read _ _ _ r; digits = are_digits _ _ _ r; within = r.within; fits = search rules }

pub returns-then-digit-gt9 : goal.returns-then-digit-gt9
returns-then-digit-gt9 c =
    let r = c.loop-count.invariant in
    record { value = value_read _ _ _ r; digits = are_digits _ _ _ r; within = r.within; fits = search rules }
