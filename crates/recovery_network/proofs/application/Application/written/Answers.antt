use Rattle.std.proofs.Common.{rules, arith}
use Rattle.recovery_network.proofs.WriteLaws.{chunked}
use Rattle.recovery_network.proofs.application.Application.written.Goals as goal

pub returns-in-Some : goal.returns-in-Some
returns-in-Some c = chunked c.args.self.now c.args.now c.in-Some.times c.saturating_add-chunks.result
    c.saturating_mul.result c.min.result (omega (arith, c.if-now-start.false)) (search rules) (search rules)
    (search rules) (search rules) (search rules) (search rules)
