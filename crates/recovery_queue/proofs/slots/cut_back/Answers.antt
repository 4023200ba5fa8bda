use Rattle.std.proofs.Common.{rules}
use Rattle.recovery_queue.proofs.SlotEntryLaws.{cut_kept, rises_to, not_both}
use Rattle.recovery_queue.proofs.slots.cut_back.Goals as goal

pub loop-slots-preserved-in-loop-slots : goal.loop-slots-preserved-in-loop-slots
loop-slots-preserved-in-loop-slots g c =
    search (
      rules,
      cut_kept c.pop_back.result c.loop-slots.invariant.kept c.pop_back.ensures.items c.requires
          (c.is_back_from.ensures.0 c.loop-slots-test.true),
    )

pub loop-slots-preserved-in-loop-slots-2 : goal.loop-slots-preserved-in-loop-slots-2
loop-slots-preserved-in-loop-slots-2 g c =
    search (
      rules,
      cut_kept c.pop_back.result c.loop-slots.invariant.kept c.pop_back.ensures.items c.requires
          (c.is_back_from.ensures.0 c.loop-slots-test.true),
    )

pub returns-clause-rising : goal.returns-clause-rising
returns-clause-rising g c = λ first end rising.
    rises_to _ first end _ (c.loop-slots.invariant.kept.rising first end rising)
    (λ back. not_both (c.is_back_from.ensures.1 back) c.loop-slots-test.false)

pub returns-clause-first : goal.returns-clause-first
returns-clause-first g c = c.loop-slots.invariant.kept.front
