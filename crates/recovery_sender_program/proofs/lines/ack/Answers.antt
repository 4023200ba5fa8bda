use Rattle.std.proofs.Common.{refl, arith, rules}
use Rattle.std.proofs.lemmas.Bool.Decides.{nat_tests}
use Rattle.recovery_sender_program.proofs.AckLaws.{empty_ranges, front_taken, no_front, no_ranges}
use Rattle.recovery_sender_program.proofs.lines.ack.Goals as goal

pub returns-in_default : goal.returns-in_default
returns-in_default c = no_front _ c.in_default.ensures

pub returns-in_default-2 : goal.returns-in_default-2
returns-in_default-2 c =
    no_ranges _ c.in-Some.space c.in-Some.now c.in-Some.delay c.in-Some.app_limited _ c.in-Some.ensures
    (rw (c.in_default-2.is) at c.in_ok-ecn.ensures)

pub returns-then-is_empty : goal.returns-then-is_empty
returns-then-is_empty c =
    empty_ranges _ c.in-Some.space c.in-Some.now c.in-Some.delay c.in-Some.app_limited _ c.in-Some.ensures
    _ c.read_ranges.new.ranges.items (rw (c.in-Some-2.is) at c.in_ok-ecn.ensures)
    (grind (arith, nat_tests, c.if-is_empty.true, c.is_empty.ensures, c.read_ranges.new.ranges.ok.0))

pub returns : goal.returns
returns c = (
  _,
  refl,
  front_taken _ c.in-Some.space c.in-Some.now c.in-Some.delay c.in-Some.app_limited _ c.in-Some.ensures _
      (grind (arith, c.in-Some.now-is, c.in-Some.delay-is, c.in-Some.app_limited-is))
      (rw (c.in-Some-2.is) at c.in_ok-ecn.ensures)
      (grind (arith, nat_tests, c.if-is_empty.false, c.is_empty.ensures, c.read_ranges.new.ranges.ok.0)),
)
