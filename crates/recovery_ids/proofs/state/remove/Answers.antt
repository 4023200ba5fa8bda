use Rattle.std.proofs.Common.{◌^◌, ◌∙◌, ap}
use Rattle.std.specs.Map.{keys_of}
use Rattle.recovery_queue.specs.Slots.{entries_in}
use Rattle.recovery_ids.specs.CidState.{numbers_in}
use Rattle.recovery_ids.proofs.SetLaws.{keys-removed, removes}
use Rattle.recovery_ids.proofs.state.remove.Goals as goal

pub returns : goal.returns
returns c =
    ap keys_of c.take-removed.ensures.entries
    ∙ keys-removed _ (entries_in c.args.numbers.now)
    ∙ removes 0 (2 ^ 62) c.args.number (numbers_in c.args.numbers.now) c.requires
