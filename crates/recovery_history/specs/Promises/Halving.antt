-- The sizes of a search's probes (RFC 8899, 5.3): each is halfway between a size that passes and the largest that may.
-- A size is ruled out once it was lost three times (5.1.2, MAX_PROBES).
use Rattle.std.specs.Prelude.{◌≡◌, ℕ, ◌+◌, ◌-◌, ◌/◌, max, min, ◌==◌, nat_lt, nat_le, ◌&&◌, ◌||◌, true, false, List, [], ◌∷◌, Option, None, Some, Ok, if◌then◌else◌}
use Rattle.std.specs.Int.{abs_diff}
use Rattle.recovery_config.specs.Settings.{initial_mtu_of}
use Rattle.recovery_mtud.specs.declared.config.MtuDiscoveryConfig.{MtuDiscoveryConfig}
use Rattle.recovery_mtud.specs.Discovery.{limit_or_greatest}
use Rattle.recovery_mtud.specs.Search.{max_probes}
use Rattle.recovery_events.specs.declared.event.Event.{Event}
use Rattle.recovery_events.specs.declared.event.Event.TheVariants.{PollMtu}
use Rattle.recovery_events.specs.declared.event.Answer.TheVariants as answer
use Rattle.recovery_history.specs.History.{Beginning, History, Reply}
use Rattle.recovery_history.specs.Table.{limit}
use Rattle.recovery_history.specs.Promises.ProbeCount.{is_in_flight}
use Rattle.recovery_history.specs.Promises.Mtu.{mtu_in_use}
use Rattle.recovery_history.specs.Promises.Convergence.{next, start}
use Rattle.recovery_history.specs.Promises.Probes.{last_probe, lost_probes, runs}
use Rattle.recovery_history.specs.Promises.ProbesPerSize.{tries}
use Rattle.recovery_history.specs.Search.{WhereSearched}

-- the bound, or one below the smallest of these sizes that was lost three times
abbrev pub may_pass : ℕ → List ℕ → ℕ
may_pass bound [] = bound
may_pass bound (size ∷ lost) =
    let most = may_pass bound lost in if tries size (size ∷ lost) == max_probes then min (size - 1) most else most

-- the last size is tried again until it passes or was lost three times. Then the size is halfway between the one that
-- passes and the largest that may, or is that largest, whichever first differs enough from the last size
abbrev pub size_after : ℕ → ℕ → ℕ → ℕ → ℕ → Option ℕ
size_after change through most last losses =
    let middle = (through + most) / 2 in
    if nat_lt through last && nat_lt losses max_probes then Some last
    else if nat_le change (abs_diff middle last) then Some middle
    else if nat_le change (most - last) then Some most else None

module _ {F K Q S M P : Type 0} (beginning : Beginning F K Q S M P) where
  -- for the search that runs, or begins
  abbrev pub next_size : MtuDiscoveryConfig → History Q S M P → Option ℕ
  next_size settings history =
      let config = beginning.config.transport in let lost = lost_probes history in
      let limit = limit_or_greatest (limit history) in
      let through = min (mtu_in_use beginning history) limit in
      let bound = min (max settings.upper_bound (start (initial_mtu_of config) config.min_mtu history)) limit in
      let last = if runs history then (last_probe history).1 else through in
      size_after settings.minimum_change through (may_pass bound lost) last (tries last lost)

  -- a probe has that size; if a poll of a search that runs or is due, with none in flight, returns no probe, none is
  -- left. The minimum change is 3 or more
  abbrev pub HalvesSizes : History Q S M P → Event Q S M P → Reply Q → Type 0
  HalvesSizes history (PollMtu now) (Ok (answer.Probe number size)) =
      WhereSearched beginning (λ settings. next_size settings history ≡ Some size)
  HalvesSizes history (PollMtu now) (Ok answer.NoProbe) = WhereSearched beginning (λ settings. is_in_flight history
      ≡ false → (runs history || nat_le (next settings history) now) ≡ true → next_size settings history ≡ None)
  HalvesSizes history event reply = Unit {0}
