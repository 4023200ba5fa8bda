use Rattle.std.proofs.Common.{◌≡◌, ◌≤◌, vec_capacity}
use Rattle.recovery_script_syntax.specs.Lines.{zero_ids}
use Rattle.recovery_script_syntax.proofs.lines.zero_ids.Given as goal

abbrev pub invariant-loop-index : goal.invariant-loop-index
invariant-loop-index l = record {
  items : l.ids.items ≡ zero_ids l.first l.index;
  room : l.count ≤ vec_capacity l.ids;
}
