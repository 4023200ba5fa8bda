use Rattle.recovery_congestion.proofs.RenoCounts.{counts-avoided}
use Rattle.recovery_congestion.proofs.congestion.new_reno.NewRenoController.on_ack.Goals as goal

pub returns-else-self-clause-exact : goal.returns-else-self-clause-exact
returns-else-self-clause-exact c = λ below.
    rw c.avoid_congestion.ensures (counts-avoided c.args.sent c.args.bytes c.args.app_limited c.args.self.now below)
