use Rattle.recovery_ids.specs.CidState.{numbers_in}
use Rattle.std.proofs.Common.{sym, ◌^◌, arith}
use Rattle.recovery_ids.proofs.RiseLaws.{Rise-wider, list_any-nowhere}
use Rattle.recovery_ids.proofs.StateLaws.{asked, timed_sound, moves_answer}
use Rattle.recovery_ids.proofs.state.CidState.on_cid_timeout.Goals as goal

pub pop_mark-next-requires : goal.pop_mark-next-requires
pop_mark-next-requires c = Rise-wider _ _ 0 (2 ^ 62) _ c.self.invariant.deadlines (omega arith) c.self.invariant.small

pub is_any_below-requires : goal.is_any_below-requires
is_any_below-requires c = Rise-wider _ _ 0 (2 ^ 62) _ c.self.invariant.unretired (omega arith) c.self.invariant.small

pub invariant_of-self : goal.invariant_of-self
invariant_of-self c = grind (arith, asked c.self.invariant, timed_sound c.self.invariant)

pub returns-then-is_any_below-clause-after : goal.returns-then-is_any_below-clause-after
returns-then-is_any_below-clause-after c = grind (arith, asked c.self.invariant)

pub returns-then-is_any_below-clause-answer : goal.returns-then-is_any_below-clause-answer
returns-then-is_any_below-clause-answer c =
    rw (← c.self.view_is) (sym (list_any-nowhere c.self.inside.retire_seq (numbers_in c.self.inside.active_seq)))

pub returns-then-is_any_below-clause-sound : goal.returns-then-is_any_below-clause-sound
returns-then-is_any_below-clause-sound c = grind (arith, asked c.self.invariant, timed_sound c.self.invariant)

pub is_any_below-requires-2 : goal.is_any_below-requires-2
is_any_below-requires-2 c = Rise-wider _ _ 0 (2 ^ 62) _ c.self.invariant.unretired (omega arith) c.self.invariant.small

pub invariant_of-self-2 : goal.invariant_of-self-2
invariant_of-self-2 c = grind (arith, asked c.self.invariant, timed_sound c.self.invariant)

pub returns-clause-after : goal.returns-clause-after
returns-clause-after c = grind (arith, asked c.self.invariant)

pub returns-clause-answer : goal.returns-clause-answer
returns-clause-answer c = grind (arith, moves_answer c.self.invariant)

pub returns-clause-sound : goal.returns-clause-sound
returns-clause-sound c = grind (arith, asked c.self.invariant, timed_sound c.self.invariant)
