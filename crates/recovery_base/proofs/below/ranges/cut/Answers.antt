use Rattle.std.proofs.Common.{◌≡◌, ℕ, vec_len, ◌<◌, nat_lt, ◌++◌, map, take, drop, get_or, length, ap, ◌∙◌, arith, rules}
use Rattle.std.specs.declared.ops.Range.{Range}
use Rattle.std.specs.List.{filter}
use Rattle.std.proofs.lemmas.Fn.{filter_same}
use Rattle.std.proofs.lemmas.List.{take_all, drop_all, append-nil, get_or_default}
use Rattle.std.proofs.lemmas.List.Edits.{map_over_more}
use Rattle.recovery_base.specs.Ranges.{clipped, is_some_range, span}
use Rattle.recovery_base.proofs.below.ranges.cut.Goals as goal

pub loop-range-preserved : goal.loop-range-preserved
loop-range-preserved c =
    let seen = c.deref_mut-range-items.result.now in
    let now = c.loop-range.range-items in
    let at = c.loop-range.range-index in
    let same : length now ≡ length seen = c.loop-range.auto.range-items in
    let inside : at < length seen = c.loop-range-test.true in
    let here : Range ℕ = get_or now at (span 0 0) in
    rw c.clip.ensures (map_over_more (clipped c.args.start c.args.end) seen now at here inside c.loop-range.invariant
    (get_or_default now at (span 0 0) here (omega arith)))

pub returns : goal.returns
returns c =
    let items = c.args.ranges.now.items in
    let now = c.loop-range.range-items in
    let at = c.loop-range.range-index in
    let seen = c.deref_mut-range-items.result.now in
    let size : length seen ≡ length items = ap length c.deref_mut-range-items.ensures.value in
    let whole : take (vec_len c.args.ranges.now) (now ++ drop (length now) items) ≡ now =
    rw (drop_all (length now) items (omega arith)) (rw (append-nil now) (take_all (vec_len c.args.ranges.now) now
    (omega arith))) in
    let all = rw (append-nil (map (clipped c.args.start c.args.end) (take at seen))) at
    (rw (drop_all at seen (omega arith)) at c.loop-range.invariant) in
    filter_same _ (λ (r : Range ℕ). nat_lt r.start r.end) _ (λ x b f h. search rules) _ _ c.retain.ensures.filtered
    ∙ ap (filter is_some_range) (whole ∙ rw (take_all at seen (omega arith)) at all
    ∙ ap (map (clipped c.args.start c.args.end)) c.deref_mut-range-items.ensures.value)
