use Rattle.std.proofs.Common.{◌≡◌, ℕ, ◌+◌, inl, inr, get_or, ◌∙◌, ap, arith}
use Rattle.std.specs.declared.ops.Range.{Range}
use Rattle.std.proofs.lemmas.List.Edits.{get_or-remove_below}
use Rattle.recovery_base.proofs.RangeLaws.{Ranges, inserts_last, inserts_known, inserts_between, inserts_below, inserts_above, inserts_joining, same_read}
use Rattle.recovery_base.proofs.below.ranges.insert.Goals as goal
use Rattle.recovery_base.proofs.below.ranges.insert.Goals.{else-at-len-2-via-then-at-len-2+else-index-x, else-at-len-2-via-else-at-len-2}

pub returns-in_err-push-clause-only_new_takes_memory : goal.returns-in_err-push-clause-only_new_takes_memory
returns-in_err-push-clause-only_new_takes_memory c = λ _.
    (inserts_last c.requires.apart (rw c.deref.ensures.value at c.place-at.ensures) (omega arith)).answer

pub returns-then-at-len-clause-inserts : goal.returns-then-at-len-clause-inserts
returns-then-at-len-clause-inserts c = rw c.in_ok-push.ensures.items
    (inserts_last c.requires.apart (rw c.deref.ensures.value at c.place-at.ensures) (omega arith))

pub returns-in_err-insert-clause-only_new_takes_memory : goal.returns-in_err-insert-clause-only_new_takes_memory
returns-in_err-insert-clause-only_new_takes_memory c = λ _.
    (inserts_between c.requires.apart (rw c.deref.ensures.value at c.place-at.ensures) (omega arith) c.index.ensures
    c.index.ensures c.if-x-start.true).answer

pub returns-in_ok-insert-clause-inserts : goal.returns-in_ok-insert-clause-inserts
returns-in_ok-insert-clause-inserts c = rw c.in_ok-insert.ensures.items
    (inserts_between c.requires.apart (rw c.deref.ensures.value at c.place-at.ensures) (omega arith) c.index.ensures
    c.index.ensures c.if-x-start.true)

pub returns-then-x-end-clause-inserts : goal.returns-then-x-end-clause-inserts
returns-then-x-end-clause-inserts c = inserts_known c.requires.apart (rw c.deref.ensures.value at c.place-at.ensures)
    (omega arith) c.index.ensures c.index-2.ensures (omega arith) (omega arith)

pub returns-then-x-start-2-clause-inserts : goal.returns-then-x-start-2-clause-inserts
returns-then-x-start-2-clause-inserts c = inserts_below c.requires.apart
    (rw c.deref.ensures.value at c.place-at.ensures)
    (omega arith) c.index_mut.ensures.value c.index.ensures (omega arith)

pub returns-then-index-x-clause-inserts : goal.returns-then-index-x-clause-inserts
returns-then-index-x-clause-inserts c =
    let items = c.args.ranges.now.items in
    let at = c.place-at.result in
    let seen = c.index_mut-then-index-x.result.now in
    let kept : seen ≡ get_or items at seen = c.index_mut-then-index-x.ensures.value
    ∙ ap (λ (rs : Ranges). get_or rs at seen) c.remove-next.ensures.items
    ∙ get_or-remove_below items (at + 1) seen at (omega arith) (omega arith) in
    rw c.remove-next.ensures.items (inserts_joining c.requires.apart (rw c.deref.ensures.value at c.place-at.ensures)
    (omega arith) kept c.index-2.ensures (omega arith) _ (omega arith) c.remove-next.ensures.value
    (ap (λ (r : Range ℕ). r.start) (same_read items _ (omega arith)
    c.remove-next.ensures.value c.index-then-at-len-2.ensures) ∙ c.if-index-x.true))

pub returns-else-at-len-2-clause-inserts : goal.returns-else-at-len-2-clause-inserts
returns-else-at-len-2-clause-inserts c = inserts_above c.requires.apart (rw c.deref.ensures.value at c.place-at.ensures)
    (omega arith) c.index_mut-else-at-len-2.ensures.value c.index-2.ensures (omega arith)
    (elim c.else-at-len-2.branch [
      | else-at-len-2-via-then-at-len-2+else-index-x w ↦ inr (
        w.index-then-at-len-2.result.now,
        omega arith,
        w.index-then-at-len-2.ensures,
        w.if-index-x.false,
      )
      | else-at-len-2-via-else-at-len-2 w ↦ inl (omega arith)
    ])
