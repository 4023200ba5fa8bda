use Rattle.std.proofs.Common.{sym, ap, ◌∙◌}
use Rattle.recovery_spaces.specs.Packets.{Packets}
use Rattle.recovery_spaces.specs.Spaces.{Space, tracking_of, with_tracking, packets_of}
use Rattle.recovery_paths.specs.PathPair.{paths_without}
use Rattle.recovery_paths.specs.PathLog.{PerPath}
use Rattle.recovery_paths.specs.PathStates.{Path}
use Rattle.recovery_paths.proofs.PathPairLaws.{counted_first, without_first}
use Rattle.recovery_paths.proofs.path_pair.PathPair.forget_all.Goals as goal

pub remove_in_flight-requires : goal.remove_in_flight-requires
remove_in_flight-requires g c =
    (counted_first (c.in-Some.field-0-0, c.in-Some.packet) (packets_of c.take_first.new.self) c.loop-packet.self
    (rw c.in-Some.ensures.first at c.loop-packet.invariant.counted)).0

pub loop-packet-preserved : goal.loop-packet-preserved
loop-packet-preserved g c =
    let i = c.loop-packet.invariant in
    let rest = packets_of c.take_first.new.self in
    let both = counted_first (c.in-Some.field-0-0, c.in-Some.packet) rest c.loop-packet.self
    (rw c.in-Some.ensures.first at i.counted) in
    record {
      others = c.in-Some.ensures.others ∙ ap (λ (s : Space _ _). with_tracking (tracking_of c.take_first.new.self) s)
          i.others;
      last = c.in-Some.ensures.last ∙ i.last;
      counted = rw c.remove_in_flight.ensures both.1;
      paths = ap (λ (p : PerPath (Path _)). paths_without rest p) c.remove_in_flight.ensures
          ∙ without_first (c.in-Some.field-0-0, c.in-Some.packet) rest c.loop-packet.self
          ∙ ap (λ (packets : Packets _ _). paths_without packets c.loop-packet.self) (sym c.in-Some.ensures.first)
          ∙ i.paths;
    }
