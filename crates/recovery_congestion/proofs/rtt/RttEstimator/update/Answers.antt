use Rattle.std.proofs.Common.{◌≡◌, rules, ◌∙◌}
use Rattle.std.specs.Prelude.{min}
use Rattle.recovery_congestion.specs.EstimatorView.{rtt_in}
use Rattle.recovery_congestion.proofs.RttLaws.{keeps_lesser}
use Rattle.recovery_congestion.proofs.rtt.RttEstimator.update.Goals as goal

pub returns-in-Some-clause-least : goal.returns-in-Some-clause-least
returns-in-Some-clause-least c initial earlier is =
    let lesser : c.min-self-inside.result ≡ min c.self.inside.min c.args.rtt = search rules in
    lesser ∙ keeps_lesser c.args.ack_delay c.args.rtt _ (rtt_in c.self.inside) initial earlier c.in-Some.is
    (c.self.view_is ∙ is)
