use Rattle.std.proofs.Common.{ap, ◌∙◌, max, rules}
use Rattle.recovery_trace.proofs.turn.answer.Goals as goal

pub returns-in-Ok : goal.returns-in-Ok
returns-in-Ok g c = record {
  event = c.in-Some.event;
  reply = c.apply-reply.result;
  spelled = search rules;
  goes = c.apply-reply.ensures.extends;
  timed = c.max.ensures ∙ ap (λ moment. max c.args.time.now moment) c.moment_of.ensures;
  written = search rules;
}
