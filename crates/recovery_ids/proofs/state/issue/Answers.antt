use Rattle.std.proofs.Common.{◌+◌, ◌-◌, ◌≡◌, ◌∙◌, ◌∷◌, [], append_assoc, suc, ap, arith}
use Rattle.std.specs.Map.{keys_of}
use Rattle.recovery_queue.specs.Slots.{entries_in}
use Rattle.recovery_ids.specs.CidState.{numbers_in}
use Rattle.recovery_ids.specs.LocalIds.{AreIncreasingWithin}
use Rattle.recovery_ids.proofs.RiseLaws.{range_more, Rise-append}
use Rattle.recovery_ids.proofs.SetLaws.{is_above, keys-append}
use Rattle.recovery_ids.proofs.state.issue.Goals as goal

pub push-requires : goal.push-requires
push-requires c =
    let number = c.loop-number.number in
    let rise : AreIncreasingWithin 0 number (numbers_in c.loop-number.numbers) = rw c.loop-number.invariant
    (Rise-append 0 c.args.first (number - c.args.first) number (numbers_in c.args.numbers.now) c.requires.above
    (omega arith)) in
    is_above 0 number (entries_in c.loop-number.numbers) rise

pub loop-number-preserved : goal.loop-number-preserved
loop-number-preserved c =
    let number = c.loop-number.number in
    let done = number - c.args.first in
    let one_more : number + 1 - c.args.first ≡ suc done = omega arith in
    let longer = range_more c.args.first done number (omega arith) in
    rw (one_more, longer, ← append_assoc, ← c.loop-number.invariant) (ap keys_of c.in-Ok.ensures.ok
    ∙ keys-append (entries_in c.loop-number.numbers) ((number, tt) ∷ []))
