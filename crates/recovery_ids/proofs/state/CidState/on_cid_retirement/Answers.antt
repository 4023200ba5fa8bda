use Rattle.std.proofs.Common.{◌^◌, arith}
use Rattle.recovery_ids.proofs.RiseLaws.{Rise-wider}
use Rattle.recovery_ids.proofs.StateLaws.{retired_sound}
use Rattle.recovery_ids.proofs.state.CidState.on_cid_retirement.Goals as goal

pub remove-requires : goal.remove-requires
remove-requires c = Rise-wider _ _ 0 (2 ^ 62) _ c.self.invariant.unretired (omega arith) c.self.invariant.small

pub invariant_of-self : goal.invariant_of-self
invariant_of-self c = rw c.remove.ensures (retired_sound c.self.invariant c.args.sequence)

pub returns-clause-sound : goal.returns-clause-sound
returns-clause-sound c = rw c.remove.ensures (retired_sound c.self.invariant c.args.sequence)
