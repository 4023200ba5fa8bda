-- Worked rows of the table of replies, computed: MTU searches, and black holes. Nothing rests on them.
use Rattle.std.proofs.Common.{◌≡◌, ◌-◌, ◌^◌, inl, true, false, [], ◌∷◌, drop, None, Ok, Err, refl, arith}
use Rattle.std.specs.declared.net.socket_addr.SocketAddr.{SocketAddr}
use Rattle.rand_core.specs.Stream.{Stream}
use Rattle.recovery_base.specs.declared.below.SpaceId.TheVariants.{Initial, Data}
use Rattle.recovery_packet_numbers.specs.declared.filter.Skips.TheVariants.{Disabled}
use Rattle.recovery_events.specs.declared.event.Event.TheVariants as event
use Rattle.recovery_events.specs.declared.event.Answer.TheVariants as answer
use Rattle.recovery_events.specs.declared.event.Refusal.TheVariants as refusal
use Rattle.recovery_congestion.specs.NewReno.{reno_made, reno_words}
use Rattle.recovery_history.specs.History.{begins}
use Rattle.recovery_history.specs.RepliesAfter.{RepliesAfter, inputs_after}
use Rattle.quic_recovery_rows.proofs.RowStart.{RowEvent, RowReply, RowHistory, RowStart, row_config, row_start, items, AllTold, ◌⊳◌}
use Rattle.quic_recovery_rows.proofs.RowLaws.{unrefused, small, fits, unlike, uneven, some_is_none}

module _ (remote : SocketAddr) (random : Stream) where
  abbrev RowTold : RowHistory → RowEvent → RowReply → Type 0
  RowTold = RepliesAfter (row_start remote random 8 Disabled)

  abbrev TellsAll : RowHistory → Type 0
  TellsAll = AllTold (row_start remote random 8 Disabled)

  -- ---- a search within a limit of the peer

  abbrev searches : RowHistory
  searches =
      (event.PollMtu 0, Ok (answer.Probe 2 1275))
      ∷ (event.Lost Data 1, Ok (answer.Lost true))
      ∷ (event.PeerLimit 0, Err refusal.ZeroMtu)
      ∷ (event.PeerLimit 1400, Err refusal.Searching)
      ∷ (event.PollMtu 0, Ok (answer.Probe 1 1275))
      ∷ (event.Acked Data 0 0 false, Ok (answer.Acked true))
      ∷ (event.PollMtu 0, Ok answer.NoProbe)
      ∷ (event.PollMtu 0, Ok (answer.Probe 0 1250))
      ∷ (event.PeerLimit 1300, Ok answer.Done)
      ∷ []

  searches_told : TellsAll searches
  searches_told =
      tt
      ⊳ (λ h. omega (arith, h), (unrefused, refl))
      ⊳ (unrefused, (small refl, (fits refl refl, refl)))
      ⊳ (unrefused, (small refl, refl))
      ⊳ (unrefused, (some_is_none, refl))
      ⊳ (unrefused, (small refl, (fits refl refl, refl)))
      ⊳ (λ h. omega (arith, h), refl)
      ⊳ refl
      ⊳ (unrefused, (some_is_none, refl))
      ⊳ (unrefused, (small refl, (fits refl refl, refl)))

  probe_is_no_probe_is_wrong : ¬ RowTold (drop 6 searches) (event.Acked Data 0 0 false) (Ok (answer.Acked false))
  probe_is_no_probe_is_wrong = λ told. unlike told.1.1 refl

  second_in_flight_is_wrong : ¬ RowTold (drop 7 searches) (event.PollMtu 0) (Ok (answer.Probe 1 1250))
  second_in_flight_is_wrong = λ told. unlike told.1.1 refl

  lost_once_is_too_large_is_wrong : ¬ RowTold (drop 1 searches) (event.PollMtu 0) (Ok (answer.Probe 2 1262))
  lost_once_is_too_large_is_wrong = λ told. uneven told.1.1.1 refl

  limit_in_search_is_wrong : ¬ RowTold (drop 4 searches) (event.PeerLimit 1400) (Ok answer.Done)
  limit_in_search_is_wrong = λ told. told.1.0 refl

  limit_of_none_is_wrong : ¬ RowTold (drop 3 searches) (event.PeerLimit 0) (Err refusal.Searching)
  limit_of_none_is_wrong = λ told. told.0 refl

  -- ---- a search whose probe was discarded continues until the path is reset

  abbrev abandoned : RowHistory
  abandoned =
      (event.PollMtu 0, Err refusal.SpaceDiscarded)
      ∷ (event.PeerLimit 1300, Ok answer.Done)
      ∷ (event.ResetPath 0, Ok answer.Done)
      ∷ (event.LossesDone 0, Ok (answer.BlackHole false))
      ∷ (event.PollMtu 0, Err refusal.SpaceDiscarded)
      ∷ (event.PeerLimit 1300, Err refusal.Searching)
      ∷ (event.DiscardSpace Data, Ok answer.Done)
      ∷ (event.PollMtu 0, Ok (answer.Probe 0 1326))
      ∷ []

  abandoned_told : TellsAll abandoned
  abandoned_told =
      tt
      ⊳ (unrefused, (small refl, (fits refl refl, refl)))
      ⊳ (unrefused, refl)
      ⊳ (λ h. omega (arith, h), refl)
      ⊳ refl
      ⊳ refl
      ⊳ refl
      ⊳ (λ h. omega (arith, h), (unrefused, refl))
      ⊳ refl

  discard_ends_search_is_wrong : ¬ RowTold (drop 6 abandoned) (event.PeerLimit 1300) (Ok answer.Done)
  discard_ends_search_is_wrong = λ told. told.1.0 refl

  reset_is_done : ¬ RowTold [] (event.ResetPath 0) (Ok (answer.Flag true))
  reset_is_done = λ told. unlike told refl

  -- ---- four bursts of lost packets are a black hole, and the next search waits for a minute

  abbrev black_hole : RowHistory
  black_hole =
      (event.PollMtu 60000000000, Ok (answer.Probe 7 1326))
      ∷ (event.PollMtu 0, Ok answer.NoProbe)
      ∷ (event.LossesDone 0, Ok (answer.BlackHole true))
      ∷ (event.Lost Data 6, Ok (answer.Lost false))
      ∷ (event.Lost Data 4, Ok (answer.Lost false))
      ∷ (event.Lost Data 2, Ok (answer.Lost false))
      ∷ (event.Lost Data 0, Ok (answer.Lost false))
      ∷ (event.Send Data 0 1300 true None [] tt, Ok (answer.Sent 6 None))
      ∷ (event.Send Data 0 1300 true None [] tt, Ok (answer.Sent 5 None))
      ∷ (event.Send Data 0 1300 true None [] tt, Ok (answer.Sent 4 None))
      ∷ (event.Send Data 0 1300 true None [] tt, Ok (answer.Sent 3 None))
      ∷ (event.Send Data 0 1300 true None [] tt, Ok (answer.Sent 2 None))
      ∷ (event.Send Data 0 1300 true None [] tt, Ok (answer.Sent 1 None))
      ∷ (event.Send Data 0 1300 true None [] tt, Ok (answer.Sent 0 None))
      ∷ []

  black_hole_told : TellsAll black_hole
  black_hole_told =
      tt
      ⊳ (unrefused, (λ h. h, (small refl, (fits refl refl, refl))))
      ⊳ (unrefused, (λ h. h, (small refl, (fits refl refl, refl))))
      ⊳ (unrefused, (λ h. h, (small refl, (fits refl refl, refl))))
      ⊳ (unrefused, (λ h. h, (small refl, (fits refl refl, refl))))
      ⊳ (unrefused, (λ h. h, (small refl, (fits refl refl, refl))))
      ⊳ (unrefused, (λ h. h, (small refl, (fits refl refl, refl))))
      ⊳ (unrefused, (λ h. h, (small refl, (fits refl refl, refl))))
      ⊳ (unrefused, (some_is_none, refl))
      ⊳ (unrefused, (some_is_none, refl))
      ⊳ (unrefused, (some_is_none, refl))
      ⊳ (unrefused, (some_is_none, refl))
      ⊳ refl
      ⊳ (unrefused, (small refl, refl))
      ⊳ (unrefused, (small refl, (fits refl refl, refl)))

  four_bursts_are_none_is_wrong : ¬ RowTold (drop 3 black_hole) (event.LossesDone 0) (Ok (answer.BlackHole false))
  four_bursts_are_none_is_wrong = λ told. unlike told refl

  three_bursts_are_one_is_wrong : ¬ RowTold (drop 4 black_hole) (event.LossesDone 0) (Ok (answer.BlackHole true))
  three_bursts_are_one_is_wrong = λ told. unlike told refl

  probe_at_once_is_wrong : ¬ RowTold (drop 2 black_hole) (event.PollMtu 59999999999) (Ok (answer.Probe 7 1326))
  probe_at_once_is_wrong = λ told. unlike told.1.1 refl

  -- ---- a packet that is acknowledged refutes three bursts

  abbrev refuted : RowHistory
  refuted =
      (event.LossesDone 0, Ok (answer.BlackHole false))
      ∷ (event.Lost Data 6, Ok (answer.Lost false))
      ∷ (event.Acked Data 0 5 false, Ok (answer.Acked false))
      ∷ (event.LossesDone 0, Ok (answer.BlackHole false))
      ∷ (event.Lost Data 4, Ok (answer.Lost false))
      ∷ (event.Lost Data 2, Ok (answer.Lost false))
      ∷ (event.Lost Data 0, Ok (answer.Lost false))
      ∷ (event.Send Data 0 1300 true None [] tt, Ok (answer.Sent 6 None))
      ∷ (event.Send Data 0 1300 true None [] tt, Ok (answer.Sent 5 None))
      ∷ (event.Send Data 0 1300 true None [] tt, Ok (answer.Sent 4 None))
      ∷ (event.Send Data 0 1300 true None [] tt, Ok (answer.Sent 3 None))
      ∷ (event.Send Data 0 1300 true None [] tt, Ok (answer.Sent 2 None))
      ∷ (event.Send Data 0 1300 true None [] tt, Ok (answer.Sent 1 None))
      ∷ (event.Send Data 0 1300 true None [] tt, Ok (answer.Sent 0 None))
      ∷ []

  refuted_told : TellsAll refuted
  refuted_told =
      tt
      ⊳ (unrefused, (λ h. h, (small refl, (fits refl refl, refl))))
      ⊳ (unrefused, (λ h. h, (small refl, (fits refl refl, refl))))
      ⊳ (unrefused, (λ h. h, (small refl, (fits refl refl, refl))))
      ⊳ (unrefused, (λ h. h, (small refl, (fits refl refl, refl))))
      ⊳ (unrefused, (λ h. h, (small refl, (fits refl refl, refl))))
      ⊳ (unrefused, (λ h. h, (small refl, (fits refl refl, refl))))
      ⊳ (unrefused, (λ h. h, (small refl, (fits refl refl, refl))))
      ⊳ (unrefused, (some_is_none, refl))
      ⊳ (unrefused, (some_is_none, refl))
      ⊳ (unrefused, (some_is_none, refl))
      ⊳ refl
      ⊳ (unrefused, (some_is_none, refl))
      ⊳ (unrefused, (some_is_none, refl))
      ⊳ refl

  refuted_is_reported_is_wrong : ¬ RowTold (drop 1 refuted) (event.LossesDone 0) (Ok (answer.BlackHole true))
  refuted_is_reported_is_wrong = λ told. unlike told refl

  -- ---- a path that is not fresh inherits the search, and a fresh one does not

  abbrev moved : RowHistory
  moved =
      (event.PollMtu 0, Ok (answer.Probe 2 1326))
      ∷ (event.Acked Data 0 1 false, Ok (answer.Acked false))
      ∷ (event.NewPath 0 remote true, Ok answer.Done)
      ∷ (event.PollMtu 0, Ok (answer.Probe 1 1389))
      ∷ (event.Acked Data 0 0 false, Ok (answer.Acked true))
      ∷ (event.NewPath 0 remote false, Ok answer.Done)
      ∷ (event.PollMtu 0, Ok (answer.Probe 0 1326))
      ∷ []

  moved_told : TellsAll moved
  moved_told =
      tt
      ⊳ (unrefused, (small refl, (fits refl refl, refl)))
      ⊳ (small refl, refl)
      ⊳ (unrefused, (some_is_none, refl))
      ⊳ (unrefused, (small refl, (fits refl refl, refl)))
      ⊳ (small refl, refl)
      ⊳ (unrefused, (some_is_none, refl))
      ⊳ (unrefused, (small refl, (fits refl refl, refl)))

  probe_of_another_path_is_wrong : ¬ RowTold (drop 2 moved) (event.Acked Data 0 1 false) (Ok (answer.Acked true))
  probe_of_another_path_is_wrong = λ told. unlike told.1.1 refl

  fresh_path_goes_on_is_wrong : ¬ RowTold (drop 1 moved) (event.PollMtu 0) (Ok (answer.Probe 2 1389))
  fresh_path_goes_on_is_wrong = λ told. uneven told.1.1.1 refl

  -- ---- a poll may begin and end a search at once, and the next begins after the interval

  abbrev at_once : RowHistory
  at_once =
      (event.PollMtu 600000000000, Ok (answer.Probe 0 1250))
      ∷ (event.PollMtu 599999999999, Ok answer.NoProbe)
      ∷ (event.PeerLimit 1300, Ok answer.Done)
      ∷ (event.PollMtu 0, Ok answer.NoProbe)
      ∷ (event.PeerLimit 1200, Ok answer.Done)
      ∷ []

  at_once_told : TellsAll at_once
  at_once_told =
      tt
      ⊳ (λ h. omega (arith, h), (unrefused, refl))
      ⊳ (unrefused, (small refl, refl))
      ⊳ (λ h. omega (arith, h), (unrefused, refl))
      ⊳ (unrefused, (small refl, refl))
      ⊳ (unrefused, (small refl, (fits refl refl, refl)))

  ended_runs_is_wrong : ¬ RowTold (drop 3 at_once) (event.PeerLimit 1300) (Err refusal.Searching)
  ended_runs_is_wrong = λ told. unrefused told.1

  -- ---- bytes in flight overflow only if a probe is due

  abbrev full : RowHistory
  full = (event.Send Data 0 (2 ^ 64 - 1) true None [] tt, Ok (answer.Sent 0 None)) ∷ []

  probe_overflows : RowTold full (event.PollMtu 0) (Err refusal.Overflow)
  probe_overflows = (unrefused, (small refl, inl (omega arith)))

  no_probe_overflows_not : RowTold ((event.PeerLimit 1200, Ok answer.Done) ∷ full) (event.PollMtu 0) (Ok answer.NoProbe)
  no_probe_overflows_not = (unrefused, (small refl, refl))

  no_probe_is_wrong : ¬ RowTold ((event.PeerLimit 1200, Ok answer.Done) ∷ full) (event.PollMtu 0) (Err refusal.Overflow)
  no_probe_is_wrong = λ told. told.1.1

  -- ---- a packet of the same number in another space is no probe

  abbrev other_space : RowHistory
  other_space =
      (event.PollMtu 0, Ok (answer.Probe 1 1389))
      ∷ (event.Acked Data 0 0 false, Ok (answer.Acked true))
      ∷ (event.PollMtu 0, Ok answer.NoProbe)
      ∷ (event.Acked Initial 0 0 false, Ok (answer.Acked false))
      ∷ (event.PollMtu 0, Ok (answer.Probe 0 1326))
      ∷ (event.Send Initial 0 1 true None [] tt, Ok (answer.Sent 0 None))
      ∷ []

  other_space_told : TellsAll other_space
  other_space_told =
      tt
      ⊳ (unrefused, (λ h. h, (small refl, (fits refl refl, refl))))
      ⊳ (unrefused, (small refl, (fits refl refl, refl)))
      ⊳ (unrefused, (some_is_none, refl))
      ⊳ (unrefused, (small refl, refl))
      ⊳ (unrefused, (some_is_none, refl))
      ⊳ (unrefused, (small refl, (fits refl refl, refl)))

  -- ---- an MTU found elsewhere is rejected if discovery is enabled, also before a search

  found_in_discovery : RowTold [] (event.MtuFound 1400) (Err refusal.Searching)
  found_in_discovery = (λ h. omega (arith, h), refl)

  found_in_discovery_is_wrong : ¬ RowTold [] (event.MtuFound 1400) (Ok answer.Done)
  found_in_discovery_is_wrong = λ told. told.1.0 refl

  -- and accepted if it is disabled

  abbrev unsearched : RowStart
  unsearched = begins reno_made reno_words items (record (row_config remote 8 Disabled) { allow_mtud = false }) 0 random

  abbrev found : RowHistory
  found =
      (event.PollMtu 0, Ok answer.NoProbe)
      ∷ (event.MtuFound 0, Err refusal.ZeroMtu)
      ∷ (event.MtuFound 1400, Ok answer.Done)
      ∷ []

  found_told : AllTold unsearched found
  found_told =
      tt
      ⊳ (λ h. omega (arith, h), (unrefused, refl))
      ⊳ refl
      ⊳ (unrefused, (small refl, refl))

  found_searching_is_wrong : ¬ RepliesAfter unsearched [] (event.MtuFound 1400) (Err refusal.Searching)
  found_searching_is_wrong = λ told. unrefused told.1

  found_zero_is_wrong : ¬ RepliesAfter unsearched [] (event.MtuFound 0) (Ok answer.Done)
  found_zero_is_wrong = λ told. told.0 refl

  in_use_then : (inputs_after unsearched (drop 1 found)).paths.current.state.discovery.mtu ≡ 1400
  in_use_then = refl

  -- its minimum window is two datagrams (RFC 9002, 7.2)
  window_then : reno_words.window
      (inputs_after unsearched ((event.MtuFound 9000, Ok answer.Done) ∷ [])).paths.current.state.controller ≡ 18000
  window_then = refl
