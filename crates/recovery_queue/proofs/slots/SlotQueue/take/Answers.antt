use Rattle.std.proofs.Common.{sym, ◌∙◌, arith}
use Rattle.recovery_queue.proofs.SlotEntryLaws.{cleared, numbered_within, absent_removed}
use Rattle.recovery_queue.proofs.slots.SlotQueue.take.Goals as goal

pub replace-item-requires : goal.replace-item-requires
replace-item-requires g c = numbered_within c.in_ok-place.ensures.number

pub returns-in_err-place-clause-entries : goal.returns-in_err-place-clause-entries
returns-in_err-place-clause-entries g c = sym (absent_removed _ _ (grind (arith, c.place_of.ensures.number)))

pub returns-then-is_some-clause-value : goal.returns-then-is_some-clause-value
returns-then-is_some-clause-value g c =
    (cleared c.replace-item.ensures c.in_ok-place.ensures.rises c.in_ok-place.ensures.number).0

pub returns-then-is_some-clause-entries : goal.returns-then-is_some-clause-entries
returns-then-is_some-clause-entries g c =
    c.close_up.ensures.entries
    ∙ (cleared c.replace-item.ensures c.in_ok-place.ensures.rises c.in_ok-place.ensures.number).1

pub returns-else-is_some-clause-value : goal.returns-else-is_some-clause-value
returns-else-is_some-clause-value g c =
    (cleared c.replace-item.ensures c.in_ok-place.ensures.rises c.in_ok-place.ensures.number).0

pub returns-else-is_some-clause-entries : goal.returns-else-is_some-clause-entries
returns-else-is_some-clause-entries g c =
    (cleared c.replace-item.ensures c.in_ok-place.ensures.rises c.in_ok-place.ensures.number).1

pub returns-else-is_some-clause-none : goal.returns-else-is_some-clause-none
returns-else-is_some-clause-none g c =
    (cleared c.replace-item.ensures c.in_ok-place.ensures.rises c.in_ok-place.ensures.number).2
