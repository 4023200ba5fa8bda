use Rattle.recovery_ids.proofs.RiseLaws.{Rise-bound}
use Rattle.recovery_ids.proofs.state.CidState.retire_prior_to.Goals as goal

pub returns-clause-bound : goal.returns-clause-bound
returns-clause-bound c = rw (← c.self.view_is) (Rise-bound _ _ _ c.self.invariant.deadlines)
