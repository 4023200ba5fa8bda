use Rattle.std.proofs.Common.{◌≡◌, ◌<◌, length, arith}
use Rattle.std.proofs.lemmas.List.{get_or_default}
use Rattle.std.proofs.lemmas.List.Edits.{map_over_more}
use Rattle.recovery_paths.specs.Responses.{renewed}
use Rattle.recovery_paths.proofs.responses.renew_among.Goals as goal

pub loop-kept-preserved : goal.loop-kept-preserved
loop-kept-preserved c =
    let new = c.args.new in
    let seen = c.args.responses.now in
    let now = c.loop-kept.responses in
    let at = c.loop-kept.kept-index in
    let same : length now ≡ length seen = c.loop-kept.auto.responses in
    let inside : at < length seen = c.loop-kept-test.true in
    rw c.renew.ensures (map_over_more (renewed new) seen now at _ inside c.loop-kept.invariant
    (get_or_default now at _ _ (omega arith)))
