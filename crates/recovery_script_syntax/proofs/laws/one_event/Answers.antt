use Rattle.recovery_script_syntax.proofs.LineLaws.{one_event}
use Rattle.recovery_script_syntax.proofs.laws.one_event.Goals as goal

pub returns : goal.returns
returns c = one_event
