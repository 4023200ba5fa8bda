use Rattle.std.proofs.Common.{◌≡◌, ◌+◌, ◌-◌, inr, arith, rules}
use Rattle.recovery_replay.proofs.FaultLaws.{counted_more}
use Rattle.recovery_replay.proofs.faults.fault_beside.Goals as goal

pub loop-start-preserved : goal.loop-start-preserved
loop-start-preserved g c =
    let end = c.word_end-end.result in
    let same : end + 1 - 1 ≡ end = omega arith in (
      omega (arith, c.word_end-end.ensures.within),
      λ le. counted_more c.args.line.now c.loop-start.start end c.loop-start.number c.word_end-end.ensures le
          (c.loop-start.invariant.1 (omega (arith, c.word_end-end.ensures.from, c.word_end-end.ensures.within))),
      omega (arith, c.loop-start.invariant.2, c.word_end-end.ensures.from),
      inr (rw same (λ le. c.word_end-end.ensures.ended (omega (arith, le)), search rules)),
    )
