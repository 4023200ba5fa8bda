use Rattle.std.proofs.Common.{rules}
use Rattle.recovery_network.proofs.WayLaws.{stays_in_order}
use Rattle.recovery_network.proofs.way.Way.send.Goals as goal

pub returns-clause-adds : goal.returns-clause-adds
returns-clause-adds g c = (c.place_of-place.result, c.place_of-place.ensures.bound, search rules, search rules)

pub returns-clause-order : goal.returns-clause-order
returns-clause-order g c up =
    let items = c.args.self.now.carried.items in
    let place = c.place_of-place.result in
    rw (c.in_ok-insert.ensures.items) (stays_in_order items place _ c.place_of-place.ensures.bound up
    (c.place_of-place.ensures.place up))
