use Rattle.std.proofs.Common.{arith, ◌-◌, ◌/◌, ◌%◌}
use Rattle.recovery_base.proofs.PlaceLaws.{moved_words}
use Rattle.recovery_base.proofs.dedup.move_far.Goals as goal

pub returns : goal.returns
returns c =
    moved_words c.args.window.now (c.args.places % 32) (omega arith) (4 - c.args.places / 32) c.args.places
    (omega arith) (omega arith) (omega arith) _ _ _ _
    (c.moved.ensures.stays, c.moved.ensures.carries) (c.moved-2.ensures.stays, c.moved-2.ensures.carries)
    (c.moved-3.ensures.stays, c.moved-3.ensures.carries) (c.moved-4.ensures.stays, c.moved-4.ensures.carries)
