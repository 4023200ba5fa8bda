use Rattle.std.proofs.Common.{inl, sym, ap}
use Rattle.recovery_history.specs.RecoveryState.{RecoveryState}
use Rattle.quic_recovery.specs.State.{state_of}
use Rattle.recovery_sender.specs.Senders.{state_in}
use Rattle.recovery_sender.proofs.BoundLaws.{marks_keep}
use Rattle.recovery_sender.proofs.SampleLaws.{mark_explained}
use Rattle.recovery_sender.proofs.sender.Sender.mark.Goals as goal

pub invariant_of-self-clause-bounded : goal.invariant_of-self-clause-bounded
invariant_of-self-clause-bounded g c =
    let words = g.F.Controller.Controller.words in
    let first = state_of c.set_marks.new.self.recovery in
    marks_keep words _ first (state_of c.set_marks-2.new.self.recovery) c.set_marks-2.ensures.after
    (marks_keep words _ (state_in c.args.self.now) first c.set_marks.ensures.after c.args.self.now.bounded)

pub invariant_of-self-clause-explained : goal.invariant_of-self-clause-explained
invariant_of-self-clause-explained g c =
    let first = state_of c.set_marks.new.self.recovery in
    let same = ap (λ (recovery : RecoveryState _ _ _). recovery.paths.current.marks.first_after_sample)
    c.set_marks.ensures.after in
    mark_explained first (state_of c.set_marks-2.new.self.recovery) _ c.set_marks-2.ensures.came
    c.set_marks-2.ensures.after (inl (sym same))
    (mark_explained (state_in c.args.self.now) first _ c.set_marks.ensures.came c.set_marks.ensures.after c.requires
    c.args.self.now.explained)
