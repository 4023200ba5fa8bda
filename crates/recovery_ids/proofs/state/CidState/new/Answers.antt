use Rattle.std.proofs.Common.{arith}
use Rattle.recovery_ids.proofs.StateLaws.{first_issued}
use Rattle.recovery_ids.proofs.state.CidState.new.Goals as goal

pub returns-clause-ids : goal.returns-clause-ids
returns-clause-ids c =
    (first_issued c.args.now c.args.cid_len c.args.cid_lifetime _ _ _ (omega arith)
    (rw c.new-active_seq.ensures at c.in_ok-issue.ensures.ok)
    (rw c.in_ok-retire_timestamp.ensures.items at c.track_lifetime.ensures)).0

pub invariant_of-result : goal.invariant_of-result
invariant_of-result c =
    (first_issued c.args.now c.args.cid_len c.args.cid_lifetime _ _ _ (omega arith)
    (rw c.new-active_seq.ensures at c.in_ok-issue.ensures.ok)
    (rw c.in_ok-retire_timestamp.ensures.items at c.track_lifetime.ensures)).1

pub returns-clause-sound : goal.returns-clause-sound
returns-clause-sound c =
    (first_issued c.args.now c.args.cid_len c.args.cid_lifetime _ _ _ (omega arith)
    (rw c.new-active_seq.ensures at c.in_ok-issue.ensures.ok)
    (rw c.in_ok-retire_timestamp.ensures.items at c.track_lifetime.ensures)).1
