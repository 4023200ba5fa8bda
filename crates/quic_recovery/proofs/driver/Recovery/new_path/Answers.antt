use Rattle.std.proofs.Common.{rules, arith, ◌≡◌, ◌+◌, ◌<◌, ◌^◌, refl, ap, sym, ◌∙◌}
use Rattle.recovery_spaces.specs.Paths.{fresh_ledger}
use Rattle.recovery_paths.specs.PathLog.{paths_marks}
use Rattle.recovery_paths.specs.PathStates.{Path}
use Rattle.recovery_paths.proofs.BalanceLaws.{moved}
use Rattle.recovery_events.specs.declared.event.Event.{Event}
use Rattle.recovery_events.specs.declared.event.Event.TheVariants.{NewPath}
use Rattle.recovery_events.specs.declared.event.Refusal.TheVariants.{NoMemory}
use Rattle.quic_recovery.specs.State.{state_of}
use Rattle.recovery_history.proofs.CallerStateLaws.{marks_refused}
use Rattle.recovery_history.proofs.DriverLaws.{nothing_changes}
use Rattle.quic_recovery.proofs.driver.Recovery.new_path.Goals.{then-fresh, else-fresh+in-Ok}
use Rattle.quic_recovery.proofs.driver.Recovery.new_path.Goals as goal

-- the second controller could not be allocated
pub returns-in-Err : goal.returns-in-Err
returns-in-Err g c =
    let now = c.args.self.now in
    let room : now.paths.made + 1 < 2 ^ 64 = search (rules, c.in-Some.ensures) in
    let event : Event g.row.Q.Denot g.row.Q-Streams.Denot g.row.Q-Meta.Denot g.row.Q-Contents.Denot =
    NewPath c.args.now c.args.remote c.args.fresh in
    record {
      told = ((λ most. omega arith), search (rules, c.if-fresh.false));
      steps = nothing_changes g.Q.RetransmitQueue.words (state_of now) (state_of now) refl;
      plain = refl;
      marks = sym (marks_refused event NoMemory (paths_marks now.paths));
      refused = refl;
    }

pub invariant_of-self : goal.invariant_of-self
invariant_of-self g c =
    let now = c.args.self.now in
    let ledger : c.if-fresh.path.ledger ≡ fresh_ledger c.in-Some.generation = elim c.if-fresh.branch [
      | then-fresh w ↦ ap (λ (p : Path _). p.ledger) w.path-is ∙ w.new-path.ensures.ledger
      | else-fresh+in-Ok w ↦ ap (λ (p : Path _). p.ledger) w.path-is ∙ w.from_previous.ensures.ledger
    ] in
    let next : c.in-Some.generation ≡ now.paths.made + 1 = search (rules, c.in-Some.ensures) in
    record {
      balanced = rw c.move_to.ensures (moved now.spaces now.paths now.balanced c.if-fresh.path (ledger
          ∙ ap fresh_ledger next));
      limited = now.limited;
    }
