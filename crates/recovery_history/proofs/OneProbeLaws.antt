-- By the history alone the MTU search is in order, as its entries say: the clause `one_probe` of `run`.
use Rattle.std.proofs.Common.{ℕ, ◌≡◌, ◌||◌, true, false, List, ◌∷◌, Option, None, Some, Ok, Err, refl, ap, ◌∙◌, is_some, arith}
use Rattle.std.specs.Prelude.{nat_le, IsSomeAnd}
use Rattle.std.proofs.lemmas.Bool.Decides.{nat_tests}
use Rattle.recovery_base.specs.declared.below.SpaceId.{SpaceId}
use Rattle.recovery_base.specs.declared.below.SpaceId.TheVariants as space
use Rattle.recovery_mtud.specs.declared.config.MtuDiscoveryConfig.{MtuDiscoveryConfig}
use Rattle.recovery_mtud.specs.MtuEntries.{MtuEntry, probed}
use Rattle.recovery_mtud.specs.SearchRuns.{ProbesInSearch}
use Rattle.recovery_events.specs.declared.event.Event.{Event}
use Rattle.recovery_events.specs.declared.event.Event.TheVariants.{PollMtu, Acked, Lost, PeerLimit, MtuFound}
use Rattle.recovery_events.specs.declared.event.Answer.TheVariants as answer
use Rattle.recovery_events.specs.declared.event.Refusal.TheVariants.{Searching}
use Rattle.recovery_history.specs.History.{Beginning, History, Reply}
use Rattle.recovery_history.specs.Search.{discovery_settings}
use Rattle.recovery_history.specs.Promises.ProbeCount.{is_in_flight as flies}
use Rattle.recovery_history.specs.Promises.Convergence.{next}
use Rattle.recovery_history.specs.Promises.Probes.{runs}
use Rattle.recovery_history.specs.Promises.OneProbe.{OneProbeAtATime, is_probe_in_flight}
use Rattle.recovery_history.proofs.SearchSaid.{entered_so_far, is_in_flight, IsSmall}
use Rattle.recovery_history.proofs.ConvergenceLaws.{Kept, kept_by, kept_first, runs_same}
use Rattle.recovery_history.proofs.SearchSteps.{Facts, throughout_facts}
use Rattle.recovery_history.proofs.Runs.{AllAlong}

module _ {F K Q S M P : Type 0} (beginning : Beginning F K Q S M P) where
  module _ (history : History Q S M P) (kept : Kept beginning history) where
    abbrev entries : List MtuEntry
    entries = entered_so_far beginning history

    probe_same : (there : SpaceId) (number : ℕ)
        → is_in_flight beginning history there number ≡ is_probe_in_flight there number history
    probe_same space.Data number = let few = kept.few in grind (arith, few)
    probe_same there number = refl

    turn_of : (now number size : ℕ) (by : Option MtuDiscoveryConfig) → discovery_settings beginning ≡ by
        → IsSomeAnd by (λ settings. ProbesInSearch settings (probed now number size ∷ entries))
        → (flies history ≡ false)
        × IsSomeAnd by (λ settings. (runs history || nat_le (next settings history) now) ≡ true)
    turn_of now number size None is inside = absurd inside
    turn_of now number size (Some settings) is inside = (
      kept.few.0 ∙ ap is_some inside.0,
      rw (runs_same history entries kept.few, (kept.searched settings is).tied.2) inside.1,
    )

    turns_one : (event : Event Q S M P) (reply : Reply Q) → Facts beginning history event reply
        → OneProbeAtATime beginning history event reply
    turns_one (PollMtu now) (Ok (answer.Probe number size)) known =
        turn_of now number size (discovery_settings beginning) refl known.turn
    turns_one (Acked there now number app_limited) (Ok given) known =
        known.tells ∙ ap answer.Acked (probe_same there number)
    turns_one (Lost there number) (Ok given) known =
        known.tells ∙ ap answer.Lost (probe_same there number)
    turns_one (PeerLimit size) (Err Searching) known =
        grind (arith, nat_tests, runs_same history entries kept.few, known.outside, known.told.0)
    turns_one (PeerLimit size) reply known =
        grind (arith, nat_tests, runs_same history entries kept.few, known.outside, known.told)
    turns_one (MtuFound mtu) (Err Searching) known = grind (arith, nat_tests, known.elsewhere, known.told.0)
    turns_one (MtuFound mtu) reply known = grind (arith, nat_tests, known.elsewhere, known.told)
    turns_one event reply known = tt

  -- throughout a run
  pub turns_told : IsSmall beginning → AllAlong beginning (OneProbeAtATime beginning)
  turns_told small =
      throughout_facts beginning (Kept beginning) (kept_by beginning) (kept_first beginning)
      (λ history event reply known kept. turns_one history kept event reply known)
