use Rattle.std.proofs.Common.{None, rules}
use Rattle.recovery_ids.specs.CidQueue.{remote_ids}
use Rattle.recovery_ids.proofs.QueueLaws.{accepts_move, retires}
use Rattle.recovery_ids.proofs.RemoteStepLaws.{gives}
use Rattle.recovery_ids.proofs.queue.CidQueue.insert.Goals as goal

pub returns-then-low-active-clause-step : goal.returns-then-low-active-clause-step
returns-then-low-active-clause-step c =
    record {
      same =
          gives _ _ c.args.cid None c.requires.ordered
          (search rules) (search rules);
      window = search rules;
    }

pub returns-clause-reply : goal.returns-clause-reply
returns-clause-reply c =
    accepts_move c.args.self.now c.drop_below.new.self c.set.new.self c.advance.new.window c.args.cid
    c.in-Some.token c.max-low.result c.requires.ordered (search rules) (search rules) (search rules)
    (search rules) (search rules) (search rules) (search rules) (search rules)
    record { start = c.start-active.result; end = c.min-end.result } (search rules) (search rules)

pub returns-clause-range : goal.returns-clause-range
returns-clause-range c = retires c.args.self.now c.advance.new.window c.args.cid
    record { start = c.start-active.result; end = c.min-end.result } c.in-Some.token (returns-clause-reply c)
    (search rules) c.requires.ordered

pub returns-clause-step : goal.returns-clause-step
returns-clause-step c = record {
  same = gives (remote_ids c.args.self.now) (remote_ids c.advance.new.window) c.args.cid _ c.requires.ordered
      (returns-clause-reply c) (search rules);
  window = search rules;
}
