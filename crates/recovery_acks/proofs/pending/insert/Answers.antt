use Rattle.std.proofs.Common.{inl, refl, arith}
use Rattle.recovery_acks.proofs.HighestRunLaws.{inserted_kept, inserted_cut, some_after_cut}
use Rattle.recovery_acks.proofs.pending.insert.Goals as goal

pub returns-then-len-gt-MAX_ACK_BLOCKS-clause-pending : goal.returns-then-len-gt-MAX_ACK_BLOCKS-clause-pending
returns-then-len-gt-MAX_ACK_BLOCKS-clause-pending c = (
    inserted_cut c.in_ok-insert_one.ensures.inserts c.requires.count (omega arith) c.pop_min.result c.pop_min.new.self
    c.pop_min.ensures.lowest c.pop_min.ensures.none).0

pub returns-then-len-gt-MAX_ACK_BLOCKS-clause-kept : goal.returns-then-len-gt-MAX_ACK_BLOCKS-clause-kept
returns-then-len-gt-MAX_ACK_BLOCKS-clause-kept c =
    let done =
    inserted_cut c.in_ok-insert_one.ensures.inserts c.requires.count (omega arith) c.pop_min.result c.pop_min.new.self
    c.pop_min.ensures.lowest c.pop_min.ensures.none in
    (done.1, done.2)

pub returns-else-len-gt-MAX_ACK_BLOCKS-clause-pending : goal.returns-else-len-gt-MAX_ACK_BLOCKS-clause-pending
returns-else-len-gt-MAX_ACK_BLOCKS-clause-pending c =
    inserted_kept c.in_ok-insert_one.ensures.inserts (omega arith)

pub returns-then-len-gt-MAX_ACK_BLOCKS-clause-some : goal.returns-then-len-gt-MAX_ACK_BLOCKS-clause-some
returns-then-len-gt-MAX_ACK_BLOCKS-clause-some c =
    some_after_cut c.insert_one.new.self c.pop_min.new.self c.pop_min.result (omega arith) c.pop_min.ensures.lowest
    (returns-then-len-gt-MAX_ACK_BLOCKS-clause-kept c).1

pub returns-else-len-gt-MAX_ACK_BLOCKS-clause-some : goal.returns-else-len-gt-MAX_ACK_BLOCKS-clause-some
returns-else-len-gt-MAX_ACK_BLOCKS-clause-some c =
    (c.args.packet, (c.in_ok-insert_one.ensures.inserts.numbers c.args.packet).1 (inl refl))
