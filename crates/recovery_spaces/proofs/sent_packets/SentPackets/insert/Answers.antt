use Rattle.recovery_queue.specs.Slots.{entries_in}
use Rattle.std.proofs.Common.{ap, arith}
use Rattle.recovery_spaces.specs.Packets.{entry_at}
use Rattle.recovery_spaces.proofs.CountLaws.{IsForgotten, silent_bound, silent_few, forgotten_found}
use Rattle.recovery_spaces.proofs.PacketLaws.{eliciting_counted, sized_counted}
use Rattle.recovery_spaces.proofs.TrackedLaws.{tracked_eliciting, tracked_silent, tracked_forgetting}
use Rattle.recovery_spaces.proofs.sent_packets.SentPackets.insert.Goals as goal

pub overflow_add-self : goal.overflow_add-self
overflow_add-self g c =
    grind (
      arith,
      c.self.invariant.counted.sized_is,
      sized_counted (entries_in c.self.inside.packets),
      c.filled-filled.ensures.few,
      c.size_count-count.ensures,
    )

-- ---- a packet that elicits an ACK

pub overflow_add-self-then-is_eliciting : goal.overflow_add-self-then-is_eliciting
overflow_add-self-then-is_eliciting g c =
    grind (
      arith,
      c.self.invariant.counted.eliciting_is,
      eliciting_counted (entries_in c.self.inside.packets),
      c.filled-filled.ensures.few,
    )

pub invariant_of-self-then-is_eliciting : goal.invariant_of-self-then-is_eliciting
invariant_of-self-then-is_eliciting g c =
    rw (c.size_count-count.ensures, c.min-self-inside.ensures)
    (tracked_eliciting c.self.invariant _ _ _ c.ranges.number.fits
    (rw (← c.self.view_is) at c.requires.above) c.in_ok-push.ensures.ok c.in_ok-push.ensures.one_more
    c.packet.view_is c.if-is_eliciting.true)

pub returns-then-is_eliciting-clause-ok : goal.returns-then-is_eliciting-clause-ok
returns-then-is_eliciting-clause-ok g c =
    rw (← c.self.view_is, ← c.packet.view_is)
    (grind (arith, c.if-is_eliciting.true, c.in_ok-push.ensures.ok))

pub returns-then-is_eliciting-clause-bound : goal.returns-then-is_eliciting-clause-bound
returns-then-is_eliciting-clause-bound g c = silent_bound (invariant_of-self-then-is_eliciting g c).counted

-- ---- a silent one, and none is forgotten

pub invariant_of-self-in_default : goal.invariant_of-self-in_default
invariant_of-self-in_default g c =
    rw (c.size_count-count.ensures, c.min-self-inside.ensures, c.min-self-inside-in_default.ensures)
    (tracked_silent c.self.invariant _ _ _ c.ranges.number.fits
    (rw (← c.self.view_is) at c.requires.above) c.in_ok-push.ensures.ok c.in_ok-push.ensures.one_more
    c.packet.view_is c.if-is_eliciting.false (rw (← c.self.view_is) at c.requires.above_last)
    (silent_few c.self.invariant.counted c.self.view_is c.packet.view_is c.if-is_eliciting.false
    c.in_default.ensures.number))

pub returns-in_default-clause-ok : goal.returns-in_default-clause-ok
returns-in_default-clause-ok g c =
    rw (← c.self.view_is, ← c.packet.view_is)
    (grind (
      arith,
      c.if-is_eliciting.false,
      c.in_ok-push.ensures.ok,
      c.in_default.ensures.number,
    ))

pub returns-in_default-clause-forgotten : goal.returns-in_default-clause-forgotten
returns-in_default-clause-forgotten g c = ap (entry_at c.args.self.now.packets) c.in_default.ensures.number

pub returns-in_default-clause-bound : goal.returns-in_default-clause-bound
returns-in_default-clause-bound g c = silent_bound (invariant_of-self-in_default g c).counted

-- ---- a silent one, and the least is forgotten

pub unreachable-requires : goal.unreachable-requires
unreachable-requires g c =
    rw c.in_default-take.is at (forgotten_found c.self.invariant.counted c.self.view_is c.packet.view_is
    c.if-is_eliciting.false _ c.in-Some.ensures.number c.in_ok-push.ensures.ok c.take.ensures.value)

pub overflow_sub-self : goal.overflow_sub-self
overflow_sub-self g c =
    let gone = rw c.in-Some-take.is at (forgotten_found c.self.invariant.counted c.self.view_is c.packet.view_is
    c.if-is_eliciting.false _ c.in-Some.ensures.number c.in_ok-push.ensures.ok c.take.ensures.value) in
    omega (arith, gone.2)

found : (g : _) (c : goal.After-self-4-1 g) → IsForgotten (entries_in c.self.inside.packets)
    c.self.inside.last_eliciting c.self.inside.sized c.args.number c.args.packet c.in-Some.least
    (entries_in c.push.new.self) c.in-Some-take.gone
found g c =
    rw c.in-Some-take.is at (forgotten_found c.self.invariant.counted c.self.view_is c.packet.view_is
    c.if-is_eliciting.false _ c.in-Some.ensures.number c.in_ok-push.ensures.ok c.take.ensures.value)

pub invariant_of-self-2 : goal.invariant_of-self-2
invariant_of-self-2 g c =
    let gone = found g c in
    rw (c.size_count-count.ensures, c.min-self-inside.ensures, c.size_count.ensures)
    (tracked_forgetting c.self.invariant c.push.new.self _ _ c.ranges.number.fits
    (rw (← c.self.view_is) at c.requires.above) c.in_ok-push.ensures.ok _ _
    c.packet.view_is c.if-is_eliciting.false (rw (← c.self.view_is) at c.requires.above_last) gone.0 gone.1
    (rw (← c.self.view_is) at c.in-Some.ensures.least) c.take.ensures.entries c.in-Some-take.ensures.bound)

pub returns-clause-ok : goal.returns-clause-ok
returns-clause-ok g c =
    let gone = found g c in
    rw (← c.self.view_is, ← c.packet.view_is)
    (grind (
      arith,
      gone,
      c.if-is_eliciting.false,
      c.take.ensures.entries,
      c.in-Some.ensures.number,
    ))

pub returns-clause-forgotten : goal.returns-clause-forgotten
returns-clause-forgotten g c =
    let gone = found g c in
    rw (← c.self.view_is) (grind (arith, gone, c.in-Some.ensures.number))

pub returns-clause-bound : goal.returns-clause-bound
returns-clause-bound g c = silent_bound (invariant_of-self-2 g c).counted

pub returns-in_err-push-clause-bound : goal.returns-in_err-push-clause-bound
returns-in_err-push-clause-bound g c = rw c.in_err-push.ensures.err (silent_bound c.self.invariant.counted)
