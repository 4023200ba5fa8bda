use Rattle.std.proofs.Common.{◌≡◌, take, map}
use Rattle.recovery_stack.specs.Codes.{issued_of}
use Rattle.recovery_stack.proofs.codes.ids_of.Given as goal

abbrev pub invariant-loop-id : goal.invariant-loop-id
invariant-loop-id l = l.ids.items ≡ map issued_of (take l.id-index l.given)
