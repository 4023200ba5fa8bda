use Rattle.std.proofs.Common.{sym, ap}
use Rattle.recovery_spaces.specs.Spaces.{tracking_of, packets_of, next_number_of}
use Rattle.recovery_spaces.proofs.CoherentLaws.{coherent_emptied}
use Rattle.recovery_paths.proofs.BalanceLaws.{emptied}
use Rattle.recovery_history.proofs.PathStepLaws.{discard_changes}
use Rattle.quic_recovery.proofs.driver.Recovery.discard.Goals as goal

pub invariant_of-self-2 : goal.invariant_of-self-2
invariant_of-self-2 g c =
    let balanced = c.args.self.now.balanced in
    let there = c.index_mut-here.ensures.value in
    let empty = rw (c.forget_all.ensures.space, there) at c.take_pending.ensures.step in
    record {
      balanced = rw (c.forget_all.ensures.paths, there) (emptied _ _ balanced _ _ (ap packets_of empty)
          (coherent_emptied _ _ (balanced.coherent c.args.space)
          (rw empty (balanced.coherent c.args.space).received) (ap tracking_of empty) (ap next_number_of empty)));
      limited = c.args.self.now.limited;
    }

pub returns : goal.returns
returns g c =
    let there = c.index_mut-here.ensures.value in
    discard_changes _ _ _ _ _ _ (sym c.if-contains.ensures)
    (rw (c.forget_all.ensures.space, there) at c.take_pending.ensures.step) c.insert.ensures
    (rw there at c.forget_all.ensures.paths)
