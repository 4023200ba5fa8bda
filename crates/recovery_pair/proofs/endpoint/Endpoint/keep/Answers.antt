use Rattle.std.proofs.Common.{refl}
use Rattle.recovery_pair.proofs.WaitLaws.{one_pushed}
use Rattle.recovery_pair.proofs.ItemMoves.{one_added}
use Rattle.recovery_pair.proofs.endpoint.Endpoint.keep.Goals as goal

pub returns-clause-waits : goal.returns-clause-waits
returns-clause-waits g c = one_pushed c.args.space c.args.self.now.waiting.items c.push_reserved.new.self.items
    (record { space = c.args.space; queue = c.args.queue }) refl c.push_reserved.ensures.items

pub returns-clause-items : goal.returns-clause-items
returns-clause-items g c = one_added c.args.space c.args.self.now.waiting.items c.push_reserved.new.self.items
    (record { space = c.args.space; queue = c.args.queue }) refl c.push_reserved.ensures.items
