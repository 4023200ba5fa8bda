use Rattle.std.proofs.Common.{◌*◌}
use Rattle.recovery_base.specs.Received.{IsBitSetAt, AreBitsSet}
use Rattle.recovery_base.proofs.dedup.highest_clear.Given as goal

-- the places of the words that were read are set
abbrev pub invariant-loop-word : goal.invariant-loop-word
invariant-loop-word l = AreBitsSet (IsBitSetAt l.window) (32 * l.word) l.places
