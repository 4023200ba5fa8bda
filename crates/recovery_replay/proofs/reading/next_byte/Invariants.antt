use Rattle.std.proofs.Common.{[], ◌≡◌, length}
use Rattle.std.specs.Io.KnownBytes.{Consumes}
use Rattle.recovery_replay.proofs.reading.next_byte.Given as goal

abbrev pub invariant-loop : goal.invariant-loop
invariant-loop g l = (length l.byte ≡ 1) × Consumes (g.R.Read.remaining l.fn.input) (g.R.Read.remaining l.input) []
