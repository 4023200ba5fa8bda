use Rattle.std.proofs.Common.{sym, subst}
use Rattle.recovery_paths.specs.Responses.{AreSoundResponses}
use Rattle.recovery_paths.proofs.ResponseLaws.{with_response_sound}
use Rattle.recovery_paths.proofs.responses.PathResponses.push.Goals as goal

pub invariant_of-self : goal.invariant_of-self
invariant_of-self c = subst AreSoundResponses (sym c.put.ensures) (with_response_sound _ _ c.self.invariant)

pub returns-clause-sound : goal.returns-clause-sound
returns-clause-sound c = subst AreSoundResponses (sym c.put.ensures) (with_response_sound _ _ c.self.invariant)
