use Rattle.std.proofs.Common.{◌∙◌, ap, arith}
use Rattle.std.specs.Map.{keys_of}
use Rattle.std.specs.Ordering.{nat_cmp}
use Rattle.std.specs.BTreeMap.{is_at}
use Rattle.std.specs.Set.{remove_key}
use Rattle.recovery_queue.specs.Slots.{entries_in}
use Rattle.recovery_ids.proofs.SetLaws.{keys-removed, one_back}
use Rattle.recovery_ids.proofs.state.take_back.Goals as goal

pub loop-number-preserved : goal.loop-number-preserved
loop-number-preserved c = λ before rise held.
    let number = c.loop-number.number in
    ap keys_of c.take-taken.ensures.entries
    ∙ keys-removed (is_at (nat_cmp number)) (entries_in c.loop-number.numbers)
    ∙ ap (remove_key (is_at (nat_cmp number))) (c.loop-number.invariant before rise held)
    ∙ one_back before c.args.first number c.args.end (omega arith) (omega arith) rise
