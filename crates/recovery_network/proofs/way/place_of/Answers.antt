use Rattle.std.proofs.Common.{rules, leb}
use Rattle.std.proofs.lemmas.List.Sorted.{IsPartitionPoint-from_clause}
use Rattle.recovery_network.specs.declared.way.Carried.{Carried}
use Rattle.recovery_network.proofs.WayLaws.{parted, place_is}
use Rattle.recovery_network.proofs.way.place_of.Goals as goal

pub returns-in-Some-clause-place : goal.returns-in-Some-clause-place
returns-in-Some-clause-place g c up = place_is c.args.carried.now.items c.args.arrives c.partition_point.result
    (IsPartitionPoint-from_clause (λ (item : Carried g.row.T.Denot). leb item.arrives c.args.arrives)
    c.args.carried.now.items c.partition_point.result c.partition_point.ensures.partitioned
    (parted c.args.carried.now.items c.args.arrives up) (λ a r f' called. search rules))
