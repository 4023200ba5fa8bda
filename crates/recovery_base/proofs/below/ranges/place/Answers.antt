use Rattle.std.proofs.Common.{ℕ, rules, nat_lt, sym, ap, ◌∙◌}
use Rattle.std.specs.Option.{option_copied}
use Rattle.std.specs.declared.ops.Range.{Range}
use Rattle.std.proofs.lemmas.List.Sorted.{IsPartitionPoint-from_clause}
use Rattle.recovery_base.proofs.RangeLaws.{place_is, ends_parted, place_of_none, place_behind, place_in_last}
use Rattle.recovery_base.proofs.below.ranges.place.Goals as goal

pub returns : goal.returns
returns c = place_is _ _ _ c.requires c.partition_point.ensures.bound
    (IsPartitionPoint-from_clause (λ (r : Range ℕ). nat_lt r.end c.args.x) c.args.ranges.now c.partition_point.result
    c.partition_point.ensures.partitioned (ends_parted _ _ c.requires)
    (λ a r f' called. search rules))

pub returns-in_default : goal.returns-in_default
returns-in_default c =
    place_of_none _ _ (sym c.last.ensures.value ∙ ap option_copied c.in_default.is)

pub returns-then-last-x : goal.returns-then-last-x
returns-then-last-x c =
    place_behind _ _ _ c.requires (sym c.in-Some.ensures.value)
    c.if-last-x.true

pub returns-then-last-x-2 : goal.returns-then-last-x-2
returns-then-last-x-2 c = place_in_last _ _ _ c.requires
    (sym c.in-Some.ensures.value) c.if-last-x-2.true c.if-last-x.false
