use Rattle.std.proofs.Common.{ℕ, true, false, Option, sym, ap, ◌∙◌, arith}
use Rattle.std.specs.Option.{is_some}
use Rattle.recovery_sender.specs.Senders.{state_in}
use Rattle.recovery_sender.proofs.EcnLaws.{counts_one}
use Rattle.recovery_sender.proofs.sender.Sender.count_sent_on.Goals.{then-is_some, else-is_some}
use Rattle.recovery_sender.proofs.sender.Sender.count_sent_on.Goals as goal

pub loop-number-preserved : goal.loop-number-preserved
loop-number-preserved g c =
    let i = c.loop-number.invariant in
    let one = counts_one (state_in c.args.self.now) c.args.space c.args.numbers.now c.loop-number.number-index
    c.loop-number-test.true in
    let is = ap (λ (time : Option ℕ). is_some time) (sym c.sent_on.ensures) ∙ sym c.is_some.ensures in
    elim c.if-is_some.branch [
      | then-is_some w ↦ (
          let more = one true (is ∙ w.if-is_some.true) in
          record { counts = omega (arith, w.count-is, more, i.counts); within = omega (arith, w.count-is, i.within) }
          )
      | else-is_some w ↦ (
          let same = one false (is ∙ w.if-is_some.false) in
          record { counts = omega (arith, w.count-is, same, i.counts); within = omega (arith, w.count-is, i.within) }
          )
    ]
