use Rattle.std.proofs.Common.{ℕ, None, Option, Ok, subst}
use Rattle.recovery_pair.specs.Permits.{AgreesWith, IsIdle, SaysOf, answer_of}
use Rattle.recovery_pair.proofs.FilledLaws.{fills_before}
use Rattle.recovery_pair.proofs.PermitLaws.{ack_agrees, packed_agrees}
use Rattle.recovery_pair.proofs.TurnLaws.{packed_turn}
use Rattle.recovery_pair.proofs.ItemMoves.{then_sends}
use Rattle.recovery_pair.proofs.endpoint.Endpoint.send.Goals as goal

-- ---- the datagram is permitted

pub returns-in-Ok-Whole-clause-goes : goal.returns-in-Ok-Whole-clause-goes
returns-in-Ok-Whole-clause-goes g c =
    let permits = rw c.in-Ok-Whole.field-0-is at c.in-Ok-Whole.ensures in
    packed_turn c.args.from c.args.space c.args.now c.args.size c.has_items-eliciting.result
    c.window_checked-window.result
    c.in-Ok.ack.ranges.items c.in-Ok.ack.delay c.args.self.now.sender c.permit.new.sender c.pack.new.self.sender
    c.pack.result
    c.in-Ok.ensures (rw c.window_checked-window.ensures permits.fits) permits.goes c.pack.ensures.goes

pub returns-in-Ok-Whole-clause-permits : goal.returns-in-Ok-Whole-clause-permits
returns-in-Ok-Whole-clause-permits g c =
    let permits = rw c.in-Ok-Whole.field-0-is at c.in-Ok-Whole.ensures in (
      c.has_items-eliciting.result,
      subst (λ (checked : Option ℕ). AgreesWith (IsIdle c.args.self.now.sender c.args.space)
          c.has_items-eliciting.result checked
          (SaysOf c.args.self.now.sender c.args.space c.args.now c.args.size c.has_items-eliciting.result)
          (answer_of (Ok c.pack.result))) c.window_checked-window.ensures
          (packed_agrees c.permit.new.sender c.pack.new.self.sender c.args.from c.args.space c.args.now
          c.args.size
          c.has_items-eliciting.result c.window_checked-window.result _ c.in-Ok.ack.ranges.items c.in-Ok.ack.delay
          (SaysOf c.args.self.now.sender c.args.space c.args.now c.args.size c.has_items-eliciting.result)
          c.reserve.new.self.items c.pack.new.self.waiting.items c.pack.result
          c.has_items-eliciting.ensures.idle permits.said c.pack.ensures.goes
          c.pack.ensures.waits),
    )

pub returns-in-Ok-Whole-clause-timer : goal.returns-in-Ok-Whole-clause-timer
returns-in-Ok-Whole-clause-timer g c = λ known has. c.pack.ensures.timer known (c.in-Ok-Whole.ensures.timer known has)

pub returns-in-Ok-Whole-clause-items : goal.returns-in-Ok-Whole-clause-items
returns-in-Ok-Whole-clause-items g c = then_sends c.args.space c.pack.result c.args.self.now.sender c.permit.new.sender
    c.pack.new.self.sender c.args.self.now.waiting.items c.reserve.new.self.items c.pack.new.self.waiting.items
    c.in-Ok-Whole.ensures.items c.in-Ok-reserve.ensures.items c.pack.ensures.items

pub returns-in-Ok-Whole-clause-filled : goal.returns-in-Ok-Whole-clause-filled
returns-in-Ok-Whole-clause-filled g c =
    let permits = rw c.in-Ok-Whole.field-0-is at c.in-Ok-Whole.ensures in
    fills_before c.args.space c.pack.result _ c.args.self.now.sender c.permit.new.sender c.args.self.now.waiting.items
    c.reserve.new.self.items permits.goes permits.spaces c.in-Ok-reserve.ensures.items c.pack.ensures.filled

-- ---- an ACK alone is

pub returns-in-Ok-AckAlone-clause-goes : goal.returns-in-Ok-AckAlone-clause-goes
returns-in-Ok-AckAlone-clause-goes g c =
    let permits = rw c.in-Ok-AckAlone.field-0-is at c.in-Ok-AckAlone.ensures in
    packed_turn c.args.from c.args.space c.args.now c.args.size _ None
    c.in-Ok.ack.ranges.items c.in-Ok.ack.delay c.args.self.now.sender c.permit.new.sender c.pack_ack.new.self.sender
    c.pack_ack.result c.in-Ok.ensures tt permits.goes c.pack_ack.ensures.goes

pub returns-in-Ok-AckAlone-clause-permits : goal.returns-in-Ok-AckAlone-clause-permits
returns-in-Ok-AckAlone-clause-permits g c =
    let permits = rw c.in-Ok-AckAlone.field-0-is at c.in-Ok-AckAlone.ensures in (
      c.has_items-eliciting.result,
      ack_agrees c.permit.new.sender c.pack_ack.new.self.sender c.args.from c.args.space c.args.now c.args.size
          c.has_items-eliciting.result _ (IsIdle c.args.self.now.sender c.args.space)
          c.in-Ok.ack.ranges.items c.in-Ok.ack.delay
          (SaysOf c.args.self.now.sender c.args.space c.args.now c.args.size c.has_items-eliciting.result)
          c.reserve.new.self.items c.pack_ack.new.self.waiting.items c.pack_ack.result permits.said
          c.pack_ack.ensures.goes c.pack_ack.ensures.waits,
    )

pub returns-in-Ok-AckAlone-clause-timer : goal.returns-in-Ok-AckAlone-clause-timer
returns-in-Ok-AckAlone-clause-timer g c = λ known has. c.pack_ack.ensures.timer known
    (c.in-Ok-AckAlone.ensures.timer known has)

pub returns-in-Ok-AckAlone-clause-items : goal.returns-in-Ok-AckAlone-clause-items
returns-in-Ok-AckAlone-clause-items g c = then_sends c.args.space c.pack_ack.result c.args.self.now.sender
    c.permit.new.sender c.pack_ack.new.self.sender c.args.self.now.waiting.items c.reserve.new.self.items
    c.pack_ack.new.self.waiting.items
    c.in-Ok-AckAlone.ensures.items c.in-Ok-reserve.ensures.items c.pack_ack.ensures.items

pub returns-in-Ok-AckAlone-clause-filled : goal.returns-in-Ok-AckAlone-clause-filled
returns-in-Ok-AckAlone-clause-filled g c =
    let permits = rw c.in-Ok-AckAlone.field-0-is at c.in-Ok-AckAlone.ensures in
    fills_before c.args.space c.pack_ack.result _ c.args.self.now.sender c.permit.new.sender
    c.args.self.now.waiting.items
    c.reserve.new.self.items permits.goes permits.spaces c.in-Ok-reserve.ensures.items c.pack_ack.ensures.filled
