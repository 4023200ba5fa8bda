use Rattle.std.proofs.Common.{◌≡◌, ◌++◌, map, take, drop}
use Rattle.recovery_paths.specs.Responses.{renewed}
use Rattle.recovery_paths.proofs.responses.renew_among.Given as goal

abbrev pub invariant-loop-kept : goal.invariant-loop-kept
invariant-loop-kept l =
    l.responses ≡ map (renewed l.new) (take l.kept-index l.initial.responses) ++ drop l.kept-index l.initial.responses
