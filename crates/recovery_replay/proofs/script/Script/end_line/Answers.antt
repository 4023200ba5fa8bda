use Rattle.std.proofs.Common.{rules, refl}
use Rattle.recovery_replay.proofs.YieldLaws.{one_given}
use Rattle.recovery_replay.proofs.script.Script.end_line.Goals as goal

pub returns-in_default-checked_add : goal.returns-in_default-checked_add
returns-in_default-checked_add g c =
    let put = rw c.in-Some.is at c.in_ok-asks_for_more.ensures.found in
    one_given g.S.Sink.takes _ _ _ put.0 put.2 tt

pub returns-then-not-asks_for_more : goal.returns-then-not-asks_for_more
returns-then-not-asks_for_more g c =
    let put = rw c.in-Some.is at c.in_ok-asks_for_more.ensures.found in
    one_given g.S.Sink.takes _ _ _ put.0 put.2 tt

pub returns : goal.returns
returns g c =
    let put = rw c.in-Some.is at c.in_ok-asks_for_more.ensures.found in
    one_given g.S.Sink.takes _ _ _ put.0 put.2 (record {
      event = put.0;
      spelled = put.1;
      given = refl;
      next = search rules;
      over = c.requires;
    })
