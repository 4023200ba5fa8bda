-- What the calls and answers of the search on the path in use state about each event: definitions, from which all
-- promises on searches and black holes are proved.
use Rattle.std.specs.Prelude.{◌≡◌, ℕ, ◌&&◌, Bool, true, false, List, [], ◌∷◌, ◌++◌, Option, Ok, Err, if◌then◌else◌, is_some, IsSomeAnd, option_to_list, option_map, ◌<◌, ◌^◌}
use Rattle.recovery_base.specs.declared.below.SpaceId.{SpaceId}
use Rattle.recovery_base.specs.Spaces.{same_space}
use Rattle.recovery_base.specs.declared.below.SpaceId.TheVariants.{Data}
use Rattle.recovery_spaces.specs.Packets.{Packet, packet_at}
use Rattle.recovery_mtud.specs.BurstRuns.{AreFourStanding, AreFourUnanswered}
use Rattle.recovery_mtud.specs.MtuEntries.{MtuEntry, probed, unprobed, limited, found, acked, probe_lost, lost, losses_over, reported, reset, entries_by, probe_in_flight, size_at}
use Rattle.recovery_mtud.specs.SearchRuns.{EndsNearBest, ProbesInSearch, search_runs}
use Rattle.recovery_paths.specs.PathLog.{PathHistory}
use Rattle.recovery_events.specs.declared.event.Event.{Event}
use Rattle.recovery_events.specs.declared.event.Event.TheVariants.{Acked, Lost, PollMtu, PeerLimit, MtuFound, LossesDone, NewPath, ResetPath, RevertPath}
use Rattle.recovery_events.specs.declared.event.Answer.TheVariants as answer
use Rattle.recovery_events.specs.declared.event.Answer.TheVariants.{Probe, NoProbe, BlackHole}
use Rattle.recovery_events.specs.declared.event.Refusal.TheVariants.{Searching}
use Rattle.recovery_history.specs.RepliesAfter.{pasts_of, inputs_after, settings_of}
use Rattle.recovery_history.specs.History.{Beginning, History, Reply}
use Rattle.recovery_history.specs.ReplyInputs.{tracked_known}
use Rattle.recovery_history.specs.Search.{WhereSearched, discovery_settings}
use Rattle.std.specs.Option.{ForSome}

module _ {Q S M C : Type 0} where
  -- what follows at each event from its reply and from an invariant before it
  abbrev pub Follows : (P : History Q S M C → Event Q S M C → Reply Q → Type 0) (Kept : History Q S M C → Type 0)
      (Holds : History Q S M C → Event Q S M C → Reply Q → Type 0) → Type 0
  Follows P Kept Holds = (before : History Q S M C) (event : Event Q S M C) (reply : Reply Q)
      → P before event reply → Kept before → Holds before event reply

  abbrev pub Keeps : (P : History Q S M C → Event Q S M C → Reply Q → Type 0) (Kept : History Q S M C → Type 0) → Type 0
  Keeps P Kept = Follows P Kept (λ before event reply. Kept ((event, reply) ∷ before))

-- the calls and answers of a path's discovery since it was made
abbrev pub entries_on : {K : Type 0} → PathHistory K → List MtuEntry
entries_on past = entries_by past.kept.discovery past.searched

-- the entries for the size of a packet, if there is one
abbrev pub of_packet : {P M : Type 0} → (ℕ → MtuEntry) → Option (Packet P M) → List MtuEntry
of_packet entry packet = option_to_list (option_map (λ packet. entry packet.size) packet)

module _ {F K Q S M P : Type 0} (beginning : Beginning F K Q S M P) where
  -- the 1-RTT packet that is tracked under a number
  abbrev pub data_packet : History Q S M P → ℕ → Option (Packet P M)
  data_packet history = packet_at (tracked_known (inputs_after beginning history) Data)

  -- the calls and answers of the search on the path in use before
  abbrev pub entered_so_far : History Q S M P → List MtuEntry
  entered_so_far history = entries_on (pasts_of beginning history).current

  -- and after an event, by its answer: the entries of the event in the search, and those before; a fresh path has none,
  -- and neither has one that is used again
  abbrev pub entered : History Q S M P → Event Q S M P → Reply Q → List MtuEntry
  entered history event (Err refusal) = entered_so_far history
  entered history (PollMtu now) (Ok (Probe number size)) = probed now number size ∷ entered_so_far history
  entered history (PollMtu now) (Ok NoProbe) = unprobed now ∷ entered_so_far history
  entered history (PeerLimit size) (Ok given) = limited size ∷ entered_so_far history
  entered history (MtuFound mtu) (Ok given) = found mtu ∷ entered_so_far history
  entered history (Acked Data now number app_limited) (Ok given) =
      of_packet (acked number) (data_packet history number) ++ entered_so_far history
  entered history (Lost Data number) (Ok (answer.Lost is_probe)) =
      of_packet (λ bytes. if is_probe then probe_lost else lost number bytes) (data_packet history number)
      ++ entered_so_far history
  entered history (LossesDone now) (Ok (BlackHole reports)) =
      (if reports then reported now else losses_over) ∷ entered_so_far history
  entered history (ResetPath now) (Ok given) =
      let settings = settings_of beginning in reset settings.mtu settings.min_mtu ∷ entered_so_far history
  entered history (NewPath now remote true) (Ok given) = []
  entered history RevertPath (Ok given) = []
  entered history event (Ok given) = entered_so_far history

  abbrev pub EntersAsTold : History Q S M P → Event Q S M P → Reply Q → Type 0
  EntersAsTold history event reply = entered_so_far ((event, reply) ∷ history) ≡ entered history event reply

  -- the upper bound of a search is a `u16`
  abbrev pub IsSmall : Type 0
  IsSmall = ForSome (discovery_settings beginning) (λ settings. settings.upper_bound < 2 ^ 16)

  -- a limit of the peer fails with `Searching` while a search runs, from its first probe until it ends, and is accepted
  -- while none does
  abbrev pub LimitsOutside : History Q S M P → Event Q S M P → Reply Q → Type 0
  LimitsOutside history (PeerLimit size) (Err Searching) = search_runs (entered_so_far history) ≡ true
  LimitsOutside history (PeerLimit size) (Ok given) = search_runs (entered_so_far history) ≡ false
  LimitsOutside history event reply = Unit {0}

  -- an MTU found elsewhere fails with `Searching` if MTU discovery is enabled, and is accepted if it is disabled
  abbrev pub FoundElsewhere : History Q S M P → Event Q S M P → Reply Q → Type 0
  FoundElsewhere history (MtuFound mtu) (Err Searching) = is_some (discovery_settings beginning) ≡ true
  FoundElsewhere history (MtuFound mtu) (Ok given) = is_some (discovery_settings beginning) ≡ false
  FoundElsewhere history event reply = Unit {0}

  -- the 1-RTT packet of this number is the probe in flight: one from the poll that returned it until it is acknowledged
  -- or lost, or until a report or a reset
  abbrev pub is_in_flight : History Q S M P → SpaceId → ℕ → Bool
  is_in_flight history space number =
      same_space space Data && is_some (size_at number (probe_in_flight (entered_so_far history)))

  -- a packet that is acknowledged or lost is reported as a probe exactly if it is the one in flight
  abbrev pub TellsProbes : History Q S M P → Event Q S M P → Reply Q → Type 0
  TellsProbes history (Acked space now number app_limited) (Ok given) =
      given ≡ answer.Acked (is_in_flight history space number)
  TellsProbes history (Lost space number) (Ok given) = given ≡ answer.Lost (is_in_flight history space number)
  TellsProbes history event reply = Unit {0}

  -- a poll is answered by a probe only if MTU discovery is enabled; it continues a search that runs, or begins one that
  -- is due, and no probe is in flight
  abbrev pub ProbesInTurn : History Q S M P → Event Q S M P → Reply Q → Type 0
  ProbesInTurn history (PollMtu now) (Ok (Probe number size)) =
      IsSomeAnd (discovery_settings beginning) (λ settings.
      ProbesInSearch settings (probed now number size ∷ entered_so_far history))
  ProbesInTurn history event reply = Unit {0}

  -- a search that ends by a poll without a probe ends near the best size of such a link
  abbrev pub EndsNear : History Q S M P → Event Q S M P → Reply Q → Type 0
  EndsNear history (PollMtu now) (Ok NoProbe) =
      let past = (pasts_of beginning history).current in
      WhereSearched beginning (λ settings. EndsNearBest past.kept.discovery settings (unprobed now ∷ entries_on past))
  EndsNear history event reply = Unit {0}

  -- if the end of losses reports a black hole, there are four bursts of packets above the minimum MTU: closed since the
  -- last report, reset or fresh path, and not refuted
  abbrev pub NeedsFourBursts : History Q S M P → Event Q S M P → Reply Q → Type 0
  NeedsFourBursts history (LossesDone now) (Ok (BlackHole true)) =
      let past = (pasts_of beginning history).current in AreFourStanding past.kept.discovery (entries_on past)
  NeedsFourBursts history event reply = Unit {0}

  -- if four such bursts have closed since then, the first of them above every acknowledged packet that is larger than
  -- the minimum MTU, and neither a probe nor such a packet was acknowledged since it closed, the end of losses reports
  -- a black hole
  abbrev pub ComesAtFourBursts : History Q S M P → Event Q S M P → Reply Q → Type 0
  ComesAtFourBursts history (LossesDone now) reply =
      let past = (pasts_of beginning history).current in
      AreFourUnanswered past.kept.discovery (entries_on past) → reply ≡ Ok (BlackHole true)
  ComesAtFourBursts history event reply = Unit {0}
