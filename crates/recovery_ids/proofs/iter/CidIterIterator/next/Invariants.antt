use Rattle.std.proofs.Common.{◌≡◌, ◌-◌, ◌<◌, ◌^◌}
use Rattle.recovery_ids.specs.declared.window.TheConstants.{LEN}
use Rattle.recovery_ids.specs.RemoteIds.{items_from}
use Rattle.recovery_ids.specs.Window.{ids_in}
use Rattle.recovery_ids.proofs.iter.CidIterIterator.next.Given as goal

-- only numbers without an entry were passed over
abbrev pub invariant-loop-self : goal.invariant-loop-self
invariant-loop-self l = record {
  small : l.self-inside.window.now.start < 2 ^ 62;
  same : items_from l.self-inside.step (ids_in l.self-inside.window.now) ≡ l.fn.self;
}

abbrev pub decreases-loop-self : goal.decreases-loop-self
decreases-loop-self l = LEN - l.self-inside.step
