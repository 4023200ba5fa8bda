use Rattle.recovery_pair.proofs.UnprobedLaws.{probes_unprobed}
use Rattle.recovery_pair.proofs.laws.unprobed_items_are_sent.Goals as goal

pub returns : goal.returns
returns c = probes_unprobed
