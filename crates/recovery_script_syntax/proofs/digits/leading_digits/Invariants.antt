use Rattle.std.proofs.Common.{◌-◌, length}
use Rattle.core.proofs.dec2flt.DigitsLemmas.{HasRead}
use Rattle.recovery_script_syntax.proofs.digits.leading_digits.Given as goal

abbrev pub invariant-loop-count : goal.invariant-loop-count
invariant-loop-count l = HasRead l.bytes 0 0 l.count l.value

abbrev pub decreases-loop-count : goal.decreases-loop-count
decreases-loop-count l = length l.bytes - l.count
