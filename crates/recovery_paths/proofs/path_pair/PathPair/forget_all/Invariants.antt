use Rattle.std.proofs.Common.{◌≡◌, length}
use Rattle.recovery_spaces.specs.Spaces.{tracking_of, with_tracking, packets_of}
use Rattle.recovery_paths.specs.PathPair.{AreCountedOnEach, paths_without}
use Rattle.recovery_paths.proofs.path_pair.PathPair.forget_all.Given as goal

abbrev pub invariant-loop-packet : goal.invariant-loop-packet
invariant-loop-packet g l = record {
  others : l.space ≡ with_tracking (tracking_of l.space) l.fn.space;
  last : (tracking_of l.space).last_eliciting ≡ (tracking_of l.fn.space).last_eliciting;
  counted : AreCountedOnEach l.self (packets_of l.space);
  paths : paths_without (packets_of l.space) l.self ≡ paths_without (packets_of l.fn.space) l.fn.self;
}

abbrev pub decreases-loop-packet : goal.decreases-loop-packet
decreases-loop-packet g l = length (packets_of l.space)
