use Rattle.std.proofs.Common.{arith, sym, ap, subst, ◌∙◌}
use Rattle.recovery_spaces.specs.Packets.{AreBelow, forgotten_entry}
use Rattle.recovery_spaces.specs.Paths.{generation_of, counters_of}
use Rattle.recovery_spaces.specs.Spaces.{Space, packets_of, tracking_of}
use Rattle.recovery_paths.specs.PathStates.{Path}
use Rattle.recovery_paths.proofs.paths.PathData.sent.Goals as goal

pub insert-requires-clause-above : goal.insert-requires-clause-above
insert-requires-clause-above g c =
    subst (λ (s : Space _ _). AreBelow (packets_of s) c.args.number) (sym c.space.view_is) c.requires.above

pub remove_in_flight-requires : goal.remove_in_flight-requires
remove_in_flight-requires g c = λ own.
    let generation = ap (λ (path : Path _). generation_of path.ledger) c.self.view_is in
    let counters = ap (λ (path : Path _). counters_of path.ledger) c.self.view_is in
    let tracked = ap (λ (s : Space _ _). forgotten_entry c.args.packet (tracking_of s)) c.space.view_is in
    let counted = c.requires.counted (c.in-Some-forgotten.field-0-0, c.in-Some-forgotten.packet)
    (sym tracked ∙ sym c.in-Ok.ensures.forgotten ∙ c.in-Some-forgotten.is) (cc (own, generation)) in
    grind (arith, c.in-Some.ensures, counters, counted)
