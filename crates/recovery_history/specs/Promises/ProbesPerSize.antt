-- Tries of the MTU search (RFC 8899, 5.1.2 and 5.1.3): a search probes each size at most three times (MAX_PROBES).
use Rattle.std.specs.Prelude.{ℕ, ◌≤◌, ◌==◌, List, [], ◌∷◌}
use Rattle.recovery_events.specs.declared.event.Event.{Event}
use Rattle.recovery_history.specs.History.{Beginning, History, Reply}
use Rattle.recovery_history.specs.Promises.Fates.{more_if}
use Rattle.recovery_history.specs.Promises.ProbeCount.{sizes_probed}
use Rattle.recovery_history.specs.Search.{WhereSearched}
use Rattle.recovery_mtud.specs.Search.{max_probes}

-- how often a size is among these
abbrev pub tries : ℕ → List ℕ → ℕ
tries size [] = 0
tries size (other ∷ sizes) = more_if (other == size) (tries size sizes)

module _ {F K Q S M P : Type 0} (beginning : Beginning F K Q S M P) where
  -- after an event, for the search that runs, if the minimum change is 3 or more
  abbrev pub ProbesSizeAtMostThrice : History Q S M P → Event Q S M P → Reply Q → Type 0
  ProbesSizeAtMostThrice history event reply =
      WhereSearched beginning (λ settings.
      (size : ℕ) → tries size (sizes_probed ((event, reply) ∷ history)) ≤ max_probes)
