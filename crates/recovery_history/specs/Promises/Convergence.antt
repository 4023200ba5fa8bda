-- The end of an MTU search (RFC 8899, 5.3): over a link that carries all sizes up to one, it is near the best size.
use Rattle.std.specs.Prelude.{◌≡◌, ℕ, ◌+◌, ◌*◌, ◌<◌, ◌≤◌, min, max, All, true, false, not, ◌&&◌, ◌||◌, nat_le, [], ◌∷◌, Ok, if◌then◌else◌}
use Rattle.recovery_config.specs.Settings.{initial_mtu_of}
use Rattle.recovery_mtud.specs.declared.config.MtuDiscoveryConfig.{MtuDiscoveryConfig}
use Rattle.recovery_mtud.specs.Discovery.{limit_or_greatest}
use Rattle.recovery_mtud.specs.Search.{later}
use Rattle.recovery_events.specs.declared.event.Event.{Event}
use Rattle.recovery_events.specs.declared.event.Event.TheVariants.{PollMtu, LossesDone}
use Rattle.recovery_events.specs.declared.event.Answer.TheVariants as answer
use Rattle.recovery_history.specs.History.{Beginning, History, Reply}
use Rattle.recovery_history.specs.Promises.ProbeCount.{begins_anew, is_in_flight}
use Rattle.recovery_history.specs.Table.{limit}
use Rattle.recovery_history.specs.Promises.Mtu.{mtu}
use Rattle.recovery_history.specs.Promises.Probes.{acked_probes, lost_probes, runs}
use Rattle.recovery_history.specs.Search.{WhereSearched}

module _ {Q S M P : Type 0} where
  -- if no search runs, a poll from this time on begins one
  abbrev pub next : MtuDiscoveryConfig → History Q S M P → ℕ
  next settings [] = 0
  next settings ((PollMtu now, Ok answer.NoProbe) ∷ earlier) =
      let ends = not (is_in_flight earlier) && (runs earlier || nat_le (next settings earlier) now) in
      if ends then later now settings.interval else next settings earlier
  next settings ((LossesDone now, Ok (answer.BlackHole true)) ∷ earlier) = later now settings.black_hole_cooldown
  next settings (happened ∷ earlier) = if begins_anew happened then 0 else next settings earlier

  module _ (first least : ℕ) where
    -- the MTU in use before the first probe of the search that runs
    abbrev pub start : History Q S M P → ℕ
    start [] = first
    start (happened ∷ earlier) =
        if runs (happened ∷ earlier) then start earlier else mtu true first least (happened ∷ earlier)

    -- if the first MTU and each acknowledged probe fit the link, and no lost one does
    abbrev pub IsNear : MtuDiscoveryConfig → ℕ → History Q S M P → Type 0
    IsNear settings link history = start history ≤ link
        → All (λ size. size ≤ link) (acked_probes history) → All (λ size. link < size) (lost_probes history)
        → let best = min link (min (max settings.upper_bound (start history)) (limit_or_greatest (limit history))) in
        (mtu true first least history ≤ link) × (best < mtu true first least history + 2 * settings.minimum_change)

module _ {F K Q S M P : Type 0} (beginning : Beginning F K Q S M P) where
  -- for a poll that ends a search that runs or is due, if the minimum change is 3 or more
  abbrev pub ConvergesNearBest : History Q S M P → Event Q S M P → Reply Q → Type 0
  ConvergesNearBest history (PollMtu now) (Ok answer.NoProbe) =
      WhereSearched beginning (λ settings. is_in_flight history ≡ false
      → (runs history || nat_le (next settings history) now) ≡ true → (link : ℕ)
      → IsNear (initial_mtu_of beginning.config.transport) beginning.config.transport.min_mtu settings link history)
  ConvergesNearBest history event reply = Unit {0}
