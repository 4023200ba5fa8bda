use Rattle.recovery_script_syntax.proofs.WordLaws.{last_word, next_word}
use Rattle.recovery_script_syntax.proofs.words.Words.pass.Goals as goal

pub returns-then-end-rest : goal.returns-then-end-rest
returns-then-end-rest c = next_word _ _ c.requires c.if-end-rest.true

pub returns-else-end-rest : goal.returns-else-end-rest
returns-else-end-rest c = last_word _ _ c.requires c.if-end-rest.false
