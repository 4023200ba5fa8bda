use Rattle.std.proofs.Common.{length, arith}
use Rattle.recovery_ids.proofs.RiseLaws.{Rise-wider}
use Rattle.std.proofs.lemmas.Grind.{common_steps}
use Rattle.recovery_ids.proofs.StateLaws.{issued_sound}
use Rattle.recovery_ids.proofs.state.CidState.new_cids.Goals as goal

pub issue-requires-clause-above : goal.issue-requires-clause-above
issue-requires-clause-above c =
    Rise-wider _ _ 0 c.self.inside.issued _ c.self.invariant.unretired (omega arith) (omega arith)

pub invariant_of-self-2 : goal.invariant_of-self-2
invariant_of-self-2 c = grind (
  arith,
  common_steps,
  issued_sound c.self.invariant (length c.args.ids.now) c.args.now (rw (← c.self.view_is) at c.requires.small),
)

pub returns-clause-sound : goal.returns-clause-sound
returns-clause-sound c = grind (
  arith,
  common_steps,
  issued_sound c.self.invariant (length c.args.ids.now) c.args.now (rw (← c.self.view_is) at c.requires.small),
)
