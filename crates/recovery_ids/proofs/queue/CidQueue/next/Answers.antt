use Rattle.std.proofs.Common.{rules}
use Rattle.recovery_ids.specs.CidQueue.{remote_ids}
use Rattle.recovery_ids.proofs.RemoteStepLaws.{uses, uses_none}
use Rattle.recovery_ids.proofs.queue.CidQueue.next.Goals as goal

pub returns-in_err-token-clause-step : goal.returns-in_err-token-clause-step
returns-in_err-token-clause-step c =
    record {
      same = uses_none (remote_ids c.args.self.now) (remote_ids c.advance.new.window) (search rules)
          (search rules);
      window = search rules;
    }

pub returns-clause-step : goal.returns-clause-step
returns-clause-step c =
    record {
      same = uses (remote_ids c.args.self.now) (remote_ids c.advance.new.window) c.in_ok-token.token
          record { start = c.start-retired.result; end = c.start.result } (search rules) (search rules);
      window = search rules;
    }
