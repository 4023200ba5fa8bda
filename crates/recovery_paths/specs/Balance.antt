-- How the paths follow from the tracked packets (RFC 9002, B.2).
use Rattle.std.specs.Prelude.{◌<◌, ◌≤◌}
use Rattle.std.specs.Option.{ForSome}
use Rattle.recovery_spaces.specs.Ledger.{IsBalancedOn, AreCoherent, AreUpTo}
use Rattle.recovery_spaces.specs.Paths.{generation_of}
use Rattle.recovery_spaces.specs.Spaces.{Spaces}
use Rattle.recovery_paths.specs.PathLog.{PerPath}
use Rattle.recovery_paths.specs.PathStates.{Path}

-- Each path's counters are sums over the packets that the spaces track. The previous path is older than the one in use.
-- No tracked packet is of a path that was not made. The parts of each space are consistent.
pub record AreBalanced {K P M : Type 0} (spaces : Spaces P M) (paths : PerPath (Path K)) : Type 0 where
  pub current : IsBalancedOn spaces paths.current.ledger
  pub previous : ForSome paths.previous (λ path. IsBalancedOn spaces path.ledger)
  pub older : ForSome paths.previous (λ path. generation_of path.ledger < generation_of paths.current.ledger)
  -- no path has a generation that was not yet assigned
  pub given : generation_of paths.current.ledger ≤ paths.made
  pub up_to : AreUpTo paths.made spaces
  pub coherent : AreCoherent spaces
