use Rattle.std.proofs.Common.{◌^◌}
use Rattle.recovery_queue.specs.Slots.{entries_in}
use Rattle.recovery_ids.proofs.SetLaws.{least_decides, none_decides}
use Rattle.recovery_ids.proofs.state.is_any_below.Goals as goal

pub returns-in-Some : goal.returns-in-Some
returns-in-Some c = least_decides 0 (2 ^ 62) c.args.end c.in-Some.least (entries_in c.args.numbers.now) c.requires
    c.in-Some.ensures.first

pub returns-in-None : goal.returns-in-None
returns-in-None c = none_decides c.args.end (entries_in c.args.numbers.now) c.in-None.ensures.first
