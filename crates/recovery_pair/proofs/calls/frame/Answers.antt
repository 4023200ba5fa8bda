use Rattle.std.proofs.Common.{◌-◌, ap, ◌∙◌, arith}
use Rattle.recovery_acks.specs.Acks.{delay_at}
use Rattle.recovery_spaces.specs.Spaces.{acks_of}
use Rattle.recovery_sender.proofs.CheckLaws.{kept_here}
use Rattle.recovery_pair.proofs.FrameLaws.{frame_for, frame_step, some_end}
use Rattle.recovery_pair.proofs.calls.frame.Goals as goal

pub overflow_sub-end : goal.overflow_sub-end
overflow_sub-end g c =
    let some = c.loop-at-test.true in
    let within = c.loop-at.invariant.within in
    some_end 0 c.as_slice-all.result.now (c.loop-at.at - 1)
    (rw (c.as_slice-all.ensures.value ∙ c.iter.ensures.rest) c.iter.ensures.apart) (omega (arith, some, within))

pub loop-at-preserved : goal.loop-at-preserved
loop-at-preserved g c =
    let some = c.loop-at-test.true in
    let within = c.loop-at.invariant.within in
    record {
      listed = frame_step c.as_slice-all.result.now c.loop-at.at c.loop-at.ranges.items c.push.new.self.items some
          within
          c.loop-at.invariant.listed (grind (
            arith,
            c.push.ensures.items,
            c.is_err.ensures.value,
            c.if-is_err.ensures.value,
          ));
      within = omega (arith, within);
    }

pub returns : goal.returns
returns g c = frame_for c.args.space c.args.now c.args.sender.now c.as_slice-all.result.now c.loop-at.at
    c.loop-at.ranges.items c.ack_delay.result c.in-Some.here.now c.loop-at.invariant.listed c.loop-at-test.false
    (rw (c.as_slice-all.ensures.value ∙ c.iter.ensures.rest) c.iter.ensures.apart)
    (c.as_slice-all.ensures.value ∙ c.iter.ensures.rest ∙ c.ranges-2.ensures.value
    ∙ ap (λ space. (acks_of space).ranges) c.here.view_is)
    (kept_here _ _ _ (rw c.recovery.ensures at c.in-Some.ensures)).1
    (c.ack_delay.ensures ∙ ap (λ space. delay_at c.args.now (acks_of space).counts.largest) c.here.view_is)
