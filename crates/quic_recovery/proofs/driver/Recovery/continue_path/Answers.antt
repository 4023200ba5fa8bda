use Rattle.std.proofs.Common.{rules, ◌≡◌, ◌+◌, ap, ◌∙◌}
use Rattle.recovery_spaces.specs.Paths.{fresh_ledger}
use Rattle.recovery_paths.proofs.BalanceLaws.{moved}
use Rattle.quic_recovery.proofs.driver.Recovery.continue_path.Goals as goal

pub invariant_of-self : goal.invariant_of-self
invariant_of-self g c =
    let now = c.args.self.now in
    let next : c.in-Some.generation ≡ now.paths.made + 1 = search (rules, c.in-Some.ensures) in
    record {
      balanced = rw c.move_to.ensures (moved now.spaces now.paths now.balanced c.from_previous-path.result
          (c.from_previous-path.ensures.ledger ∙ ap fresh_ledger next));
      limited = now.limited;
    }
