-- The size of a probe (RFC 8899, 5.1.2 and 5.3; RFC 9000, 14.3 and 18.2): at most what the peer accepts, and between
-- the MTU in use and the upper bound.
use Rattle.std.specs.Prelude.{ℕ, ◌<◌, ◌≤◌, max, true, IsSomeAnd, Ok, Err}
use Rattle.recovery_config.specs.Settings.{initial_mtu_of}
use Rattle.recovery_mtud.specs.Discovery.{limit_or_greatest}
use Rattle.recovery_events.specs.declared.event.Event.{Event}
use Rattle.recovery_events.specs.declared.event.Event.TheVariants.{PollMtu}
use Rattle.recovery_events.specs.declared.event.Answer.TheVariants as answer
use Rattle.recovery_events.specs.declared.event.Refusal.TheVariants.{Overflow}
use Rattle.recovery_history.specs.History.{Beginning, History, Reply}
use Rattle.recovery_history.specs.Table.{limit}
use Rattle.recovery_history.specs.Promises.Mtu.{mtu_in_use}
use Rattle.recovery_history.specs.Promises.Convergence.{start}
use Rattle.recovery_history.specs.Promises.Sends.{OverflowsInFlight}
use Rattle.recovery_history.specs.Search.{WhereSearched, discovery_settings}

module _ {F K Q S M P : Type 0} (beginning : Beginning F K Q S M P) where
  -- at most the configured bound or the MTU in use as the search began, whichever is larger. If the minimum change is 3
  -- or more, it is above the MTU in use, and at most the configured bound
  abbrev pub BoundsProbeSize : History Q S M P → Event Q S M P → Reply Q → Type 0
  BoundsProbeSize history (PollMtu now) (Ok (answer.Probe number size)) =
      let config = beginning.config.transport in
      let began = start (initial_mtu_of config) config.min_mtu history in
      (size ≤ limit_or_greatest (limit history))
      × IsSomeAnd (discovery_settings beginning) (λ settings. size ≤ max settings.upper_bound began)
      × WhereSearched beginning (λ settings. (mtu_in_use beginning history < size) × (size ≤ settings.upper_bound))
  -- only a probe that the peer accepts may overflow what is in flight
  BoundsProbeSize history (PollMtu now) (Err Overflow) =
      (size : ℕ) × (size ≤ limit_or_greatest (limit history)) × OverflowsInFlight history size true
  BoundsProbeSize history event reply = Unit {0}
