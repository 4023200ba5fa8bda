use Rattle.std.proofs.Common.{refl, sym, ap, subst, arith}
use Rattle.recovery_base.proofs.MissingLaws.{has_greatest}
use Rattle.recovery_acks.specs.Acks.{AckCounts}
use Rattle.recovery_spaces.specs.Spaces.{Space, HasGreatestCome}
use Rattle.recovery_spaces.proofs.SpaceAckLaws.{hears, still_reached}
use Rattle.recovery_spaces.proofs.spaces.PacketSpace.receive.Goals as goal

pub packet_received-arm-requires-clause-earlier : goal.packet_received-arm-requires-clause-earlier
packet_received-arm-requires-clause-earlier g c =
    still_reached _ _ _ (has_greatest c.self.inside.dedup) (has_greatest c.insert.new.self)
    c.insert.ensures.inserts.numbers _ _
    (ap (λ (counts : AckCounts). counts.greatest) c.in-Ok.ensures.inserts.counts)
    (subst (λ (s : Space _ _). HasGreatestCome s) (sym c.self.view_is) c.requires.received)

pub returns-clause-step : goal.returns-clause-step
returns-clause-step g c = rw (← c.self.view_is) (record {
  numbers = c.insert.ensures.inserts.numbers;
  hears = (hears _ _ _ (has_greatest c.self.inside.dedup) c.insert.ensures.inserts.numbers _ _ _ _ _
      c.in-Ok.ensures.inserts _ c.packet_received-arm.ensures.receives).0;
  others = rw c.max-self-inside.ensures refl;
})

pub returns-clause-reply : goal.returns-clause-reply
returns-clause-reply g c = rw (← c.self.view_is) (
  omega arith,
  (
    c.if-insert.ensures.inserts.answer,
    (hears _ _ _ (has_greatest c.self.inside.dedup) c.insert.ensures.inserts.numbers _ _ _ _ _
        c.in-Ok.ensures.inserts _ c.packet_received-arm.ensures.receives).1,
  ),
)

pub returns-then-insert-clause-reply : goal.returns-then-insert-clause-reply
returns-then-insert-clause-reply g c =
    rw (← c.self.view_is) (c.if-number-ge-NUMBER_LIMIT.false, c.if-insert.ensures.inserts.answer)

pub returns-then-insert-clause-step : goal.returns-then-insert-clause-step
returns-then-insert-clause-step g c =
    rw (← c.self.view_is) (
      c.insert.ensures.inserts.numbers,
      rw (c.insert.ensures.duplicate_changes_nothing c.if-insert.true) refl,
    )
