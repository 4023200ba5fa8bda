use Rattle.std.proofs.Common.{◌≡◌, ◌+◌, ◌<◌, ℕ, map, get_or}
use Rattle.quic_recovery.proofs.driver.ids.go_on.Given as goal

abbrev pub invariant-loop-id : goal.invariant-loop-id
invariant-loop-id l = record {
  next : l.next ≡ l.first + l.id-index;
  run : (i : ℕ) → i < l.id-index → get_or (map (λ id. id.sequence) l.ids) i 0 ≡ l.first + i;
}
