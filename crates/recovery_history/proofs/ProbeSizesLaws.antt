-- By the history alone the size of a probe is within the bounds of its search, as its entries say: the clause `sizes`
-- of `run`.
use Rattle.std.proofs.Common.{ℕ, ◌≡◌, ◌<◌, ◌≤◌, max, true, ◌∷◌, Option, None, Some, Ok, Err, arith, refl, sym, ◌∙◌}
use Rattle.std.proofs.lemmas.Option.{none-some}
use Rattle.std.specs.Prelude.{IsSomeAnd}
use Rattle.recovery_config.specs.Settings.{initial_mtu_of}
use Rattle.recovery_mtud.specs.declared.config.MtuDiscoveryConfig.{MtuDiscoveryConfig}
use Rattle.recovery_mtud.specs.Discovery.{limit_or_greatest, poll_of}
use Rattle.recovery_mtud.specs.DiscoveryLog.{polls}
use Rattle.recovery_mtud.specs.MtuEntries.{MtuProbe, poll_entry, probe_in_flight, probed, mtu_in_use as by_entries}
use Rattle.recovery_mtud.specs.SearchRuns.{ProbesInSearch, start_upper}
use Rattle.recovery_events.specs.declared.event.Event.TheVariants.{PollMtu}
use Rattle.recovery_events.specs.declared.event.Answer.TheVariants as answer
use Rattle.recovery_events.specs.declared.event.Refusal.TheVariants.{Overflow}
use Rattle.recovery_paths.specs.PathLog.{PathHistory}
use Rattle.recovery_history.specs.RepliesAfter.{pasts_of, inputs_after}
use Rattle.recovery_history.specs.ReplyInputs.{ReplyInputs}
use Rattle.recovery_history.specs.PartReplies.{MtuProbeReply}
use Rattle.recovery_history.specs.History.{Beginning, History}
use Rattle.recovery_history.specs.Table.{limit}
use Rattle.recovery_history.specs.Promises.Mtu.{mtu_in_use}
use Rattle.recovery_history.specs.Promises.Convergence.{start}
use Rattle.recovery_history.specs.Promises.ProbeSizes.{BoundsProbeSize}
use Rattle.recovery_history.specs.Search.{discovery_settings}
use Rattle.recovery_mtud.proofs.SearchRunLaws.{flight_within}
use Rattle.recovery_mtud.proofs.UnsearchedLaws.{unsearched}
use Rattle.recovery_history.proofs.CountedLaws as counted
use Rattle.recovery_history.proofs.MadeLaws.{is_made, made_in}
use Rattle.recovery_history.proofs.ConvergenceLaws.{Kept, kept_by, kept_first, upper_is}
use Rattle.recovery_history.proofs.SearchLaws.{AreSearched, searched_one}
use Rattle.recovery_history.proofs.SearchSaid.{entered_so_far, entries_on, Follows, IsSmall}
use Rattle.recovery_history.proofs.SkippedLaws.{same_cause}
use Rattle.recovery_history.proofs.SearchSteps.{Facts, throughout_facts}
use Rattle.recovery_history.proofs.Runs.{AllAlong}

module _ {F K Q S M P : Type 0} (beginning : Beginning F K Q S M P) where
  module _ (history : History Q S M P) (now number size : ℕ) (kept : Kept beginning history)
      (known : Facts beginning history (PollMtu now) (Ok (answer.Probe number size))) where
    -- the probe that is sent is the one in flight
    between : (settings : MtuDiscoveryConfig) → discovery_settings beginning ≡ Some settings
        → (size ≤ start_upper (made_in beginning history) settings (entered_so_far beginning history))
        × (3 ≤ settings.minimum_change
        → (by_entries (made_in beginning history) (entered_so_far beginning history) < size)
        × (size ≤ settings.upper_bound))
    between settings is =
        let past = (pasts_of beginning ((PollMtu now, Ok (answer.Probe number size)) ∷ history)).current in
        let after = searched_one beginning history (PollMtu now) (Ok (answer.Probe number size)) known.told
        known.searched in
        (rw (known.entered, is_made beginning history (PollMtu now) (Ok (answer.Probe number size)) 0 tt) at
        (flight_within past.kept.discovery settings after.0.untold (after.0.settings_are ∙ is) past.searched))
        (record { number = number; size = size }) refl

    upper_within : (by : Option MtuDiscoveryConfig) → discovery_settings beginning ≡ by
        → IsSomeAnd by (λ settings. ProbesInSearch settings
        (probed now number size ∷ entered_so_far beginning history))
        → (size ≤ limit_or_greatest (limit history))
        × IsSomeAnd by (λ settings. size ≤ max settings.upper_bound (start (initial_mtu_of beginning.config.transport)
        beginning.config.transport.min_mtu history))
    upper_within None is inside = absurd inside
    upper_within (Some settings) is inside =
        grind (arith, (between settings is).0, upper_is beginning settings is history (kept.searched settings is))

    above_in_use : (settings : MtuDiscoveryConfig) → discovery_settings beginning ≡ Some settings
        → 3 ≤ settings.minimum_change → (mtu_in_use beginning history < size) × (size ≤ settings.upper_bound)
    above_in_use settings is wide =
        let both = (between settings is).1 wide in
        (rw (is, (kept.searched settings is).tied.1) both.0, both.1)

  -- ---- a probe that is due, and would overflow what is in flight

  module _ (history : History Q S M P) (now : ℕ) (kept : Kept beginning history)
      (searched : AreSearched beginning history) where
    abbrev past : PathHistory K
    past = (pasts_of beginning history).current

    abbrev known_then : ReplyInputs K P M
    known_then = inputs_after beginning history

    due_within : (settings : MtuDiscoveryConfig) → discovery_settings beginning ≡ Some settings → (size : ℕ)
        (due : Option ℕ) → due ≡ Some size
        → ((probe : MtuProbe)
        → probe_in_flight (poll_entry now known_then.next_number due ∷ entries_on past) ≡ Some probe
        → probe.size ≤ start_upper past.kept.discovery settings
        (poll_entry now known_then.next_number due ∷ entries_on past))
        → size ≤ limit_or_greatest (limit history)
    due_within settings is size None e within = absurd (none-some size e)
    due_within settings is size (Some own) e within =
        let up = within (record { number = known_then.next_number; size = own }) refl in
        grind (arith, e, up, upper_is beginning settings is history (kept.searched settings is))

    due_small : (size : ℕ) → poll_of now known_then.paths.current.state.discovery ≡ Some size
        → size ≤ limit_or_greatest (limit history)
    due_small size is = go (discovery_settings beginning) refl
      where
        go : (by : Option MtuDiscoveryConfig) → discovery_settings beginning ≡ by
            → size ≤ limit_or_greatest (limit history)
        go None e =
            let none = unsearched past.kept.discovery (searched.0.settings_are ∙ e) now past.searched in
            absurd (none-some size (sym none ∙ is))
        go (Some settings) e =
            due_within settings e size (poll_of now known_then.paths.current.state.discovery) is (λ probe flies.
            (flight_within past.kept.discovery settings searched.0.untold (searched.0.settings_are ∙ e)
            (polls now known_then.next_number ∷ past.searched) probe flies).0)

    overflows : counted.Kept beginning history → (due : Option ℕ)
        → poll_of now known_then.paths.current.state.discovery ≡ due
        → MtuProbeReply beginning.queue known_then now due (Err Overflow)
        → BoundsProbeSize beginning history (PollMtu now) (Err Overflow)
    overflows counts None is told = absurd told
    overflows counts (Some size) is told =
        (size, due_small size is, (same_cause beginning history counts size true).1 told)

  -- ---- throughout a run

  abbrev Both : History Q S M P → Type 0
  Both history = Kept beginning history × counted.Kept beginning history

  sizes_one : Follows (Facts beginning) Both (BoundsProbeSize beginning)
  sizes_one history (PollMtu now) (Ok (answer.Probe number size)) known both =
      let upper = upper_within history now number size both.0 known (discovery_settings beginning) refl known.turn in
      (upper.0, upper.1, above_in_use history now number size both.0 known)
  sizes_one history (PollMtu now) (Err Overflow) known both =
      let told = known.told.1.1 in overflows history now both.0 known.searched both.1 _ refl told
  sizes_one history event reply known both = tt

  pub sizes_told : IsSmall beginning → AllAlong beginning (BoundsProbeSize beginning)
  sizes_told small =
      throughout_facts beginning Both
      (λ history event reply known both. (
        kept_by beginning history event reply known both.0,
        counted.keeps_counts beginning history event reply known.told both.1,
      ))
      (kept_first beginning, counted.none_counted beginning) sizes_one
