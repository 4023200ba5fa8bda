use Rattle.std.proofs.Common.{rules}
use Rattle.recovery_ids.specs.CidQueue.{remote_ids}
use Rattle.recovery_ids.proofs.RemoteStepLaws.{replaces}
use Rattle.recovery_ids.proofs.queue.CidQueue.update_initial_cid.Goals as goal

pub returns-clause-step : goal.returns-clause-step
returns-clause-step c =
    record {
      same = replaces (remote_ids c.args.self.now) (remote_ids c.set.new.self) c.args.cid (search rules)
          (search rules) (search rules);
      window = search rules;
    }
