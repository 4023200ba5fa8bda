use Rattle.std.proofs.Common.{rules}
use Rattle.quic_recovery.proofs.driver.Recovery.reset_path.Goals as goal

pub invariant_of-self-inside : goal.invariant_of-self-inside
invariant_of-self-inside g c = let after = c.reset.ensures c.args.self.now.allow_mtud in search rules

pub returns : goal.returns
returns g c = let after = c.reset.ensures c.args.self.now.allow_mtud in search rules
