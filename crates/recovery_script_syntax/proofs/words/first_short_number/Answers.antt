use Rattle.std.proofs.Common.{◌≡◌, ◌==◌, ◌^◌, length-take-le, lit≤, sym, take, arith}
use Rattle.std.proofs.lemmas.Bool.Decides.{nat_tests}
use Rattle.std.proofs.lemmas.List.{get_or-take}
use Rattle.std.proofs.lemmas.List.Sums.{position_or_len_is}
use Rattle.std.specs.List.{position_or_len}
use Rattle.recovery_script_syntax.proofs.NumberWordLaws.{digits_read, taken_digits}
use Rattle.recovery_script_syntax.proofs.words.first_short_number.Goals as goal
use Rattle.recovery_script_syntax.proofs.words.first_short_number.Goals.{then-end-gt1, else-end-gt1, else-end-bytes-via-then-end-bytes+else-bytes-end-ne32, else-end-bytes-via-else-end-bytes}

pub returns : goal.returns
returns c =
    let bytes = c.args.bytes.now in
    let end = c.leading_digits-value.result.1 in
    let found = c.leading_digits-value.ensures in
    let place : position_or_len (λ b. b == 32) bytes ≡ end =
    position_or_len_is (λ b. b == 32) bytes end 0 found.within (λ k lt. grind (arith, nat_tests, found.digits k lt))
    (λ lt. elim c.else-end-bytes.branch [
      | else-end-bytes-via-then-end-bytes+else-bytes-end-ne32 w ↦ grind (arith, nat_tests, w.if-bytes-end-ne32.false)
      | else-end-bytes-via-else-end-bytes w ↦ absurd (omega (arith, lt, w.if-end-bytes.false))
    ]) in
    let long = length-take-le end bytes found.within in
    let read = digits_read (2 ^ 64) (lit≤ tt) (take end bytes) _ (taken_digits bytes end found.digits found.within)
    (found.value (omega (arith, c.if-end-gt19.false))) found.fits (omega (arith, long, c.if-end-eq0.false))
    (λ first. elim c.if-end-gt1.branch [
      | then-end-gt1 w ↦ grind (arith, nat_tests, first, get_or-take end bytes 0 0)
      | else-end-gt1 w ↦ omega (arith, long, w.if-end-gt1.false)
    ]) in
    (rw place (sym read), sym place)
