use Rattle.std.proofs.Common.{◌≡◌, ◌≤◌, take, length}
use Rattle.std.specs.Prelude.{nat_lt, filter}
use Rattle.recovery_mtud.proofs.bursts.Bursts.retain_above.Given as goal

-- those above it among the sizes that were passed
abbrev pub invariant-loop-place : goal.invariant-loop-place
invariant-loop-place l = record {
  so_far : l.kept ≡ filter (λ least. nat_lt l.size least) (take l.place l.self-inside.sizes);
  few : length l.kept ≤ l.place;
}
