use Rattle.recovery_pair.proofs.ItemMoves.{hands_move}
use Rattle.recovery_pair.proofs.endpoint.Endpoint.hand.Goals as goal

pub returns-clause-items : goal.returns-clause-items
returns-clause-items g c = hands_move c.args.space c.args.items.items c.args.self.now.sender c.keep.new.self.sender
    c.args.self.now.waiting.items c.keep.new.self.waiting.items c.keep.ensures.goes
    (rw (c.in-Ok.ensures.items, c.from_items-handed.ensures) at c.keep.ensures.items)
