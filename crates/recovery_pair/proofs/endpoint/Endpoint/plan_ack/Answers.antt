use Rattle.std.proofs.Common.{refl}
use Rattle.recovery_pair.proofs.QuietLaws.{same_quietly}
use Rattle.recovery_pair.proofs.endpoint.Endpoint.plan_ack.Goals as goal

pub returns-then-eq-clause-goes : goal.returns-then-eq-clause-goes
returns-then-eq-clause-goes g c = same_quietly c.args.self.now.sender c.args.self.now.sender refl

pub returns-else-arm-2-clause-goes : goal.returns-else-arm-2-clause-goes
returns-else-arm-2-clause-goes g c = same_quietly c.args.self.now.sender c.args.self.now.sender refl
