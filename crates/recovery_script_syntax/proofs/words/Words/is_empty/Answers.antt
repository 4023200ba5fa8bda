use Rattle.recovery_script_syntax.proofs.WordLaws.{none_left}
use Rattle.recovery_script_syntax.proofs.words.Words.is_empty.Goals as goal

pub returns : goal.returns
returns c = none_left (λ s. s.now) c.args.self.now.rest c.is_none.result c.is_none.ensures
