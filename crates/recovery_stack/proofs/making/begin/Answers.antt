use Rattle.recovery_stack.proofs.BeginLaws.{new_made}
use Rattle.recovery_stack.proofs.making.begin.Goals as goal

pub returns-then-make : goal.returns-then-make
returns-then-make c =
    new_made c.args.form c.args.settings.now c.args.remote.now c.args.initial_cid.now c.in-Some.id c.args.now
    c.fault-fault.result c.args.handle.now.slot.held c.make.new.handle.slot.held c.if-holds.ensures c.in-Some.ensures
    c.fault-fault.ensures.fault c.if-fault-ne-NEW_MADE.false c.if-make.ensures
