use Rattle.std.proofs.Common.{arith, ap, length, refl, sym}
use Rattle.std.proofs.lemmas.List.FromFn.{map-range_with_len_more}
use Rattle.recovery_script_syntax.specs.Lines.{zero_id}
use Rattle.recovery_script_syntax.proofs.IdLaws.{ids_count}
use Rattle.recovery_script_syntax.proofs.lines.zero_ids.Goals as goal

pub loop-index-preserved : goal.loop-index-preserved
loop-index-preserved c = record {
  items = rw (
    c.push_reserved.ensures.items,
    c.loop-index.invariant.items,
    c.id_of-id.ensures,
    c.token_of-reset_token.ensures,
  ) (sym (map-range_with_len_more zero_id c.args.first c.loop-index.index _ refl));
  room = omega (arith, c.push_reserved.ensures.capacity, c.loop-index.invariant.room);
}

pub push_reserved-requires : goal.push_reserved-requires
push_reserved-requires c =
    omega (
      arith,
      c.loop-index.invariant.room,
      ap length c.loop-index.invariant.items,
      ids_count c.args.first c.loop-index.index,
      c.loop-index.ids.ok.0,
    )
