use Rattle.recovery_script_syntax.proofs.LineLaws.{one_line}
use Rattle.recovery_script_syntax.proofs.laws.one_line.Goals as goal

pub returns : goal.returns
returns c = one_line
