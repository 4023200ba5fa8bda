use Rattle.std.proofs.Common.{◌≡◌, ◌+◌, get_or, ◌∙◌, ap, arith}
use Rattle.std.proofs.lemmas.List.Edits.{get_or-insert_below}
use Rattle.recovery_base.proofs.RangeLaws.{Ranges, same_read}
use Rattle.recovery_base.proofs.RangeCuts.{none_at_end, none_before, cut_at, splits}
use Rattle.recovery_base.proofs.below.ranges.remove.Goals as goal
use Rattle.recovery_base.proofs.below.ranges.remove.Goals.{else-first-start-via-then-first-start+else-end-last, else-first-start-via-else-first-start}

pub returns-then-at-len-clause-removes : goal.returns-then-at-len-clause-removes
returns-then-at-len-clause-removes c =
    none_at_end c.requires (omega arith) (rw c.deref.ensures.value at c.place-at.ensures) (omega arith)

pub returns-then-end-first-clause-removes : goal.returns-then-end-first-clause-removes
returns-then-end-first-clause-removes c = none_before c.requires (omega arith)
    (rw c.deref.ensures.value at c.place-at.ensures)
    (omega arith) c.index.ensures (omega arith)

pub returns-in_ok-insert-clause-removes : goal.returns-in_ok-insert-clause-removes
returns-in_ok-insert-clause-removes c =
    let bound = c.place-at.ensures.bound in
    let put = c.in_ok-insert.ensures.items in
    let items = c.args.ranges.now.items in
    let at = c.place-at.result in
    let seen = c.index_mut.result.now in
    let kept : seen ≡ get_or items at seen = c.index_mut.ensures.value
    ∙ ap (λ (rs : Ranges). get_or rs at seen) put
    ∙ get_or-insert_below items (at + 1) _ seen at (omega arith) (omega arith) in
    rw put (rw (same_read items _ (omega arith) kept c.index.ensures)
    (splits c.requires (omega arith) (rw c.deref.ensures.value at c.place-at.ensures) (omega arith) c.index.ensures
    c.index-2.ensures (omega arith) (omega arith)))

pub returns-else-first-start-clause-removes : goal.returns-else-first-start-clause-removes
returns-else-first-start-clause-removes c =
    rw c.cut.ensures (cut_at c.requires (omega arith) (rw c.deref.ensures.value at c.place-at.ensures) (omega arith)
    c.index.ensures c.index-2.ensures (omega arith) (λ lower. elim c.else-first-start.branch [
      | else-first-start-via-then-first-start+else-end-last w ↦ omega arith
      | else-first-start-via-else-first-start w ↦ absurd (omega arith)
    ]))
