-- MTU searches send few probes and end near the best size, throughout a run. The promises on searches by events alone
-- (`ProbeCountLaws`, `ConvergenceLaws`, `MtuLaws`, `ProbeSizesLaws`, by `SearchSteps` the others) rest on it.
use Rattle.std.proofs.Common.{arith, ℕ, ◌≡◌, Bool, true, false, ◌&&◌, if◌then◌else◌, List, [], ◌∷◌, Option, None, Some, Ok, Err, refl, sym, ap, ◌∙◌}
use Rattle.std.specs.Prelude.{IsSomeAnd, is_some}
use Rattle.std.specs.Option.{ForSome}
use Rattle.recovery_base.specs.declared.below.SpaceId.{SpaceId}
use Rattle.recovery_base.specs.declared.below.SpaceId.TheVariants.{Data}
use Rattle.recovery_base.specs.Spaces.{same_space}
use Rattle.recovery_mtud.specs.declared.config.MtuDiscoveryConfig.{MtuDiscoveryConfig}
use Rattle.recovery_mtud.specs.Discovery.{is_enabled_of}
use Rattle.recovery_mtud.specs.DiscoveryLog.{polls}
use Rattle.recovery_mtud.specs.MtuEntries.{MtuEntry, poll_entry, probed, unprobed, mtu_in_use}
use Rattle.recovery_mtud.specs.SearchRuns.{EndsNearBest, ProbesInSearch, UsesFewProbes}
use Rattle.recovery_mtud.proofs.MtuEntryLaws.{is_probe_by}
use Rattle.recovery_mtud.proofs.SearchRunLaws.{search_takes_few, search_ends_near, probes_in_search, mtu_by, search_runs_by, limits_outside_after}
use Rattle.recovery_mtud.proofs.UnsearchedLaws.{settings_by, unsearched}
use Rattle.recovery_paths.specs.PathLog.{OnEachPath, PathHistory, pasts_by, path_state_of}
use Rattle.recovery_paths.specs.PathStates.{is_path_probe}
use Rattle.recovery_paths.proofs.SearchedLaws.{IsSearchedBy, IsPathSearchedBy, first_searched, searched_over, searched_at_first}
use Rattle.recovery_events.specs.declared.event.Event.TheVariants.{Acked, Lost, MtuFound, PeerLimit, PollMtu}
use Rattle.recovery_events.specs.declared.event.Answer.TheVariants.{Probe, NoProbe}
use Rattle.recovery_events.specs.declared.event.Answer.TheVariants as answer
use Rattle.recovery_events.specs.declared.event.Refusal.TheVariants.{Searching}
use Rattle.recovery_history.specs.RepliesAfter.{logs_of, pasts_of, inputs_after, first_path, settings_of, RepliesAfter}
use Rattle.recovery_history.specs.History.{Beginning, History, QueueModel}
use Rattle.recovery_history.specs.ReplyInputs.{ReplyInputs}
use Rattle.recovery_history.specs.Search.{WhereSearched, discovery_settings}
use Rattle.recovery_history.specs.PartReplies.{MtuProbeReply}
use Rattle.recovery_history.proofs.SearchSaid.{EndsNear, FoundElsewhere, LimitsOutside, ProbesInTurn, TellsProbes, entered_so_far, entries_on, is_in_flight, Follows, Keeps, IsSmall}
use Rattle.recovery_history.proofs.AllowedEntryLaws.{is_allowed}

-- what holds for the settings holds if they are used
pub where_allowed : {A : Type 0} (P : A → Type 0) (allowed : Bool) (o : Option A) → ForSome o P
    → ForSome (if allowed then o else None) P
where_allowed P true o holds = holds
where_allowed P false o holds = λ x is. absurd cc

module _ {K Q S M P : Type 0} (q : QueueModel Q S M P) (known : ReplyInputs K P M) (now : ℕ) where
  -- a poll that returns none is not answered by a probe
  unanswered : {A : Type 0} (answer : Option ℕ) (number size : ℕ) → answer ≡ None
      → MtuProbeReply q known now answer (Ok (Probe number size)) → A
  unanswered None number size none told = absurd cc
  unanswered (Some own) number size none told = absurd cc

module _ {K Q S M P : Type 0} (q : QueueModel Q S M P) (known : ReplyInputs K P M) (settings : MtuDiscoveryConfig)
    (now next : ℕ) (earlier : List MtuEntry) where
  -- a poll that is answered by a probe returns one
  probe_out : (answer : Option ℕ) (number size : ℕ) → MtuProbeReply q known now answer (Ok (Probe number size))
      → ProbesInSearch settings (poll_entry now next answer ∷ earlier)
      → ProbesInSearch settings (probed now number size ∷ earlier)
  probe_out None number size told inside = absurd cc
  probe_out (Some own) number size told inside = inside

  -- a poll that is answered by no probe returns none
  none_out : (made : _) (answer : Option ℕ) → MtuProbeReply q known now answer (Ok NoProbe)
      → EndsNearBest made settings (poll_entry now next answer ∷ earlier)
      → EndsNearBest made settings (unprobed now ∷ earlier)
  none_out made None told near = near
  none_out made (Some own) told near = let is = told.1 in absurd cc

module _ {F K Q S M P : Type 0} (beginning : Beginning F K Q S M P) where
  -- a path is searched by the settings of the run
  fresh_is : (limit : Option ℕ) → IsSearchedBy (discovery_settings beginning) ((settings_of beginning).discovery limit)
      []
  fresh_is limit = first_searched beginning.config.allow_mtud limit beginning.config.transport

  -- so is the first one
  pub first_is : OnEachPath (IsPathSearchedBy (discovery_settings beginning))
      (pasts_by (settings_of beginning) (first_path beginning) [])
  first_is = searched_at_first (settings_of beginning) (discovery_settings beginning) fresh_is (first_path beginning)
      (fresh_is None)

module _ {F K Q S M P : Type 0} (beginning : Beginning F K Q S M P) where
  abbrev past_in : History Q S M P → PathHistory K
  past_in history = (pasts_of beginning history).current

  -- so is each existing path
  abbrev pub AreSearched : History Q S M P → Type 0
  AreSearched history = OnEachPath (IsPathSearchedBy (discovery_settings beginning)) (pasts_of beginning history)

  -- an event preserves that
  pub searched_one : Keeps (RepliesAfter beginning) AreSearched
  searched_one before event reply told searched =
      searched_over (settings_of beginning) (discovery_settings beginning) (fresh_is beginning) (first_path beginning) _
      (logs_of beginning before).paths
      (is_allowed beginning.queue (settings_of beginning) _ (inputs_after beginning before) event reply told) searched

  -- the upper bound is a `u16`
  module _ (small : IsSmall beginning) where
    pub few_one : Follows (RepliesAfter beginning) AreSearched
        (λ before event reply. WhereSearched beginning (λ settings.
        UsesFewProbes (entered_so_far beginning ((event, reply) ∷ before))))
    few_one before event reply told searched = λ settings is change.
        let past = past_in ((event, reply) ∷ before) in
        let by = (searched_one before event reply told searched).0 in
        search_takes_few past.kept.discovery settings by.untold (by.settings_are ∙ is) change (small settings is)
        past.searched

    pub ends_one : Follows (RepliesAfter beginning) AreSearched (EndsNear beginning)
    ends_one before (PollMtu now) (Ok NoProbe) told searched = λ settings is change. (
        let past = past_in before in
        let made = past.kept.discovery in
        let by = searched.0 in
        let poll = polls now (inputs_after beginning before).next_number in
        none_out beginning.queue (inputs_after beginning before) settings now _ (entries_on past) made _ told.1.1
        (search_ends_near made settings by.untold (by.settings_are ∙ is) change (small settings is)
        (poll ∷ past.searched) (limits_outside_after made by.untold poll past.searched tt by.outside))
        )
    ends_one before event reply told searched = tt

  pub probes_one : Follows (RepliesAfter beginning) AreSearched (ProbesInTurn beginning)
  probes_one before (PollMtu now) (Ok (Probe number size)) told searched = go (discovery_settings beginning) refl
    where
      past : PathHistory K
      past = past_in before

      go : (by : Option MtuDiscoveryConfig) → discovery_settings beginning ≡ by
          → IsSomeAnd by (λ settings. ProbesInSearch settings (probed now number size ∷ entries_on past))
      go None is = unanswered beginning.queue (inputs_after beginning before) now _ number size
          (unsearched past.kept.discovery (searched.0.settings_are ∙ is) now past.searched) told.1.1
      go (Some settings) is =
          probe_out beginning.queue (inputs_after beginning before) settings now _
          (entries_on past) _ number size told.1.1
          (probes_in_search past.kept.discovery settings searched.0.untold (searched.0.settings_are ∙ is)
          (polls now (inputs_after beginning before).next_number ∷ past.searched))
  probes_one before event reply told searched = tt

  -- a search runs on the path in use exactly if its entries say so
  pub limits_one : Follows (RepliesAfter beginning) AreSearched (LimitsOutside beginning)
  limits_one before (PeerLimit size) (Err Searching) told searched =
      sym (search_runs_by _ searched.0.untold (past_in before).searched) ∙ told.1
  limits_one before (PeerLimit size) (Ok given) told searched =
      grind (arith, told.1.0, search_runs_by _ searched.0.untold (past_in before).searched)
  limits_one before event reply told searched = tt

  -- MTU discovery is enabled on the path in use exactly if the settings enable it
  enabled_same : (before : History Q S M P) → AreSearched before
      → is_enabled_of (path_state_of (past_in before)).discovery ≡ is_some (discovery_settings beginning)
  enabled_same before searched =
      let past = past_in before in
      grind (arith, settings_by past.kept.discovery past.searched, searched.0.settings_are)

  pub elsewhere_one : Follows (RepliesAfter beginning) AreSearched (FoundElsewhere beginning)
  elsewhere_one before (MtuFound mtu) (Err Searching) told searched = sym (enabled_same before searched) ∙ told.1
  elsewhere_one before (MtuFound mtu) (Ok given) told searched = grind (arith, told.1.0, enabled_same before searched)
  elsewhere_one before event reply told searched = tt

  -- the packet that is a probe by the state is the one in flight by the entries
  probe_same : (before : History Q S M P) → AreSearched before → (space : SpaceId) (number : ℕ)
      → is_path_probe space number (path_state_of (past_in before)) ≡ is_in_flight beginning before space number
  probe_same before searched space number =
      ap (λ probe. same_space space Data && probe)
      (is_probe_by _ searched.0.untold (past_in before).searched number)

  pub tells_one : Follows (RepliesAfter beginning) AreSearched (TellsProbes beginning)
  tells_one before (Acked space now number app_limited) (Ok given) told searched = told.1.1
      ∙ ap answer.Acked (probe_same before searched space number)
  tells_one before (Lost space number) (Ok given) told searched =
      told.1.1 ∙ ap answer.Lost (probe_same before searched space number)
  tells_one before event reply told searched = tt

  -- after an event, the MTU in use is the one that the entries say
  pub mtu_one : Follows (RepliesAfter beginning) AreSearched (λ before event reply.
      let past = (pasts_of beginning ((event, reply) ∷ before)).current in
      (path_state_of past).discovery.mtu ≡ mtu_in_use past.kept.discovery (entries_on past))
  mtu_one before event reply told searched =
      mtu_by _ (searched_one before event reply told searched).0.untold (past_in ((event, reply) ∷ before)).searched
