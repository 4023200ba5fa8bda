use Rattle.std.proofs.Common.{arith, ◌∙◌}
use Rattle.recovery_queue.proofs.SlotEntryLaws.{entries_fit, kept, trimmed_kept, trimmed_sound, only_trimmed, filtered_sound, all_filled}
use Rattle.recovery_queue.proofs.slots.SlotQueue.close_up.Goals as goal

pub overflow_sub-len : goal.overflow_sub-len
overflow_sub-len g c = grind (
  arith,
  c.trim-self-inside.ensures.trimmed,
  entries_fit c.trim-self-inside.new.slots.items,
  (trimmed_kept c.self.inside.slots.items 0 0 0).0,
  c.self.invariant.count,
)

pub overflow_add-self-inside : goal.overflow_add-self-inside
overflow_add-self-inside g c = omega (arith, entries_fit c.self.inside.slots.items)

pub invariant_of-self : goal.invariant_of-self
invariant_of-self g c =
    filtered_sound (trimmed_sound c.self.invariant c.trim-self-inside.ensures.trimmed c.trim-self-inside.ensures.first)
    (rw c.trim-self-inside.ensures.trimmed (trimmed_kept c.self.inside.slots.items 0 0 0).3) c.keep_filled.ensures
    c.last_of-self-inside.ensures

pub invariant_of-self-else-len-self : goal.invariant_of-self-else-len-self
invariant_of-self-else-len-self g c =
    trimmed_sound c.self.invariant c.trim-self-inside.ensures.trimmed c.trim-self-inside.ensures.first

pub returns-then-len-self-clause-entries : goal.returns-then-len-self-clause-entries
returns-then-len-self-clause-entries g c = rw (← c.self.view_is, c.keep_filled.ensures)
    ((kept c.trim-self-inside.new.slots.items 0 0).0
    ∙ rw c.trim-self-inside.ensures.trimmed (trimmed_kept c.self.inside.slots.items 0 0 0).0)

pub returns-then-len-self-clause-closes : goal.returns-then-len-self-clause-closes
returns-then-len-self-clause-closes g c = rw (← c.self.view_is)
    (all_filled c.trim-self-inside.ensures.trimmed c.keep_filled.ensures (λ few. grind (
      arith,
      few,
      c.if-len-self.true,
      c.len.ensures,
      c.trim-self-inside.ensures.trimmed,
      (trimmed_kept c.self.inside.slots.items 0 0 0).0,
      c.self.invariant.count,
    )))

pub returns-else-len-self-clause-entries : goal.returns-else-len-self-clause-entries
returns-else-len-self-clause-entries g c =
    rw (← c.self.view_is, c.trim-self-inside.ensures.trimmed) (trimmed_kept c.self.inside.slots.items 0 0 0).0

pub returns-else-len-self-clause-closes : goal.returns-else-len-self-clause-closes
returns-else-len-self-clause-closes g c =
    rw (← c.self.view_is) (only_trimmed c.trim-self-inside.ensures.trimmed (grind (
      arith,
      c.if-len-self.false,
      c.len.ensures,
      c.trim-self-inside.ensures.trimmed,
      (trimmed_kept c.self.inside.slots.items 0 0 0).0,
      c.self.invariant.count,
    )))
