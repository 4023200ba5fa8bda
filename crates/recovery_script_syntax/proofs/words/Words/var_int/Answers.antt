use Rattle.std.proofs.Common.{arith}
use Rattle.std.proofs.lemmas.Bool.Decides.{nat_tests}
use Rattle.recovery_script_syntax.specs.Reading.{field, number_of}
use Rattle.recovery_script_syntax.proofs.words.Words.var_int.Goals as goal

pub returns : goal.returns
unfolding field number_of
returns c = grind (arith, nat_tests, c.in_ok-number.ensures, c.from_u64.ensures, c.ok.ensures.value)

pub returns-in_err-number : goal.returns-in_err-number
unfolding field number_of
returns-in_err-number c = grind (arith, nat_tests, c.in_err-number.ensures, c.from_residual.ensures)
