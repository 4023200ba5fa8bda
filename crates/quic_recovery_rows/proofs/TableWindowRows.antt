-- Worked rows of the table of replies, computed: windows and RTTs, as the pacer shows them. Nothing rests on them.
use Rattle.std.proofs.Common.{true, false, [], ◌∷◌, drop, None, Ok, Err, refl}
use Rattle.std.specs.declared.net.socket_addr.SocketAddr.{SocketAddr}
use Rattle.rand_core.specs.Stream.{Stream}
use Rattle.recovery_base.specs.declared.below.SpaceId.TheVariants.{Data}
use Rattle.recovery_packet_numbers.specs.declared.filter.Skips.TheVariants.{Disabled}
use Rattle.recovery_events.specs.declared.event.Event.TheVariants as event
use Rattle.recovery_events.specs.declared.event.Answer.TheVariants as answer
use Rattle.recovery_events.specs.declared.event.Refusal.TheVariants as refusal
use Rattle.recovery_history.specs.RepliesAfter.{RepliesAfter}
use Rattle.quic_recovery_rows.proofs.RowStart.{RowEvent, RowReply, RowHistory, row_start, AllTold, ◌⊳◌}
use Rattle.quic_recovery_rows.proofs.RowLaws.{unrefused, small, fits, unlike, uneven, some_is_none}

module _ (remote : SocketAddr) (random : Stream) where
  abbrev RowTold : RowHistory → RowEvent → RowReply → Type 0
  RowTold = RepliesAfter (row_start remote random 8 Disabled)

  abbrev TellsAll : RowHistory → Type 0
  TellsAll = AllTold (row_start remote random 8 Disabled)

  -- ---- half a window takes twice the time

  abbrev halved : RowHistory
  halved =
      (event.PacerCheck 0 12001, Ok (answer.Delayed 44400))
      ∷ (event.Congestion 2 1 false 1200, Ok answer.Done)
      ∷ (event.PacerCheck 0 12001, Ok (answer.Delayed 22200))
      ∷ []

  halved_told : TellsAll halved
  halved_told =
      tt
      ⊳ refl
      ⊳ refl
      ⊳ refl

  whole_window_is_wrong : ¬ RowTold (drop 1 halved) (event.PacerCheck 0 12001) (Ok (answer.Delayed 22200))
  whole_window_is_wrong = λ told. uneven told refl

  congestion_is_done : ¬ RowTold [] (event.Congestion 2 1 false 1200) (Ok answer.Ready)
  congestion_is_done = λ told. unlike told refl

  -- ---- a sample of 1 ms

  abbrev sampled : RowHistory
  sampled =
      (event.PacerCheck 0 12001, Ok (answer.Delayed 132))
      ∷ (event.Congestion 2 1 false 0, Ok answer.Done)
      ∷ (event.PacerCheck 0 12001, Ok (answer.Delayed 64))
      ∷ (event.Sample 0 1000000, Ok answer.Done)
      ∷ []

  sampled_told : TellsAll sampled
  sampled_told =
      tt
      ⊳ refl
      ⊳ refl
      ⊳ refl
      ⊳ refl

  initial_rtt_is_wrong : ¬ RowTold (drop 3 sampled) (event.PacerCheck 0 12001) (Ok (answer.Delayed 22200))
  initial_rtt_is_wrong = λ told. uneven told refl

  abbrev unpaced : RowHistory
  unpaced =
      (event.EndAcks 0 false None, Ok answer.Done)
      ∷ (event.PacerCheck 0 12001, Ok answer.Ready)
      ∷ (event.Sample 0 0, Ok answer.Done)
      ∷ []

  unpaced_told : TellsAll unpaced
  unpaced_told =
      tt
      ⊳ refl
      ⊳ refl
      ⊳ refl

  zero_rtt_delays_is_wrong : ¬ RowTold (drop 2 unpaced) (event.PacerCheck 0 12001) (Ok (answer.Delayed 0))
  zero_rtt_delays_is_wrong = λ told. unlike told refl

  ends_are_done : ¬ RowTold [] (event.EndAcks 0 false None) (Err refusal.NoMemory)
  ends_are_done = λ told. told

  -- ---- a probe that is acknowledged increases the window too

  abbrev grown : RowHistory
  grown =
      (event.PacerCheck 0 13261, Ok (answer.Delayed 23126144))
      ∷ (event.Acked Data 3 0 false, Ok (answer.Acked false))
      ∷ (event.Acked Data 3 1 false, Ok (answer.Acked true))
      ∷ (event.PollMtu 2, Ok (answer.Probe 1 1326))
      ∷ (event.Send Data 1 1200 true None [] tt, Ok (answer.Sent 0 None))
      ∷ []

  grown_told : TellsAll grown
  grown_told =
      tt
      ⊳ (unrefused, (λ h. h, (small refl, (fits refl refl, refl))))
      ⊳ (unrefused, (small refl, (fits refl refl, refl)))
      ⊳ (unrefused, (some_is_none, refl))
      ⊳ (unrefused, (some_is_none, refl))
      ⊳ refl

  probe_grows_nothing_is_wrong : ¬ RowTold (drop 1 grown) (event.PacerCheck 0 13261) (Ok answer.Ready)
  probe_grows_nothing_is_wrong = λ told. unlike told refl

  -- ---- one reduction in a recovery, whose start may move back

  abbrev recoveries : RowHistory
  recoveries =
      (event.PacerCheck 0 12001, Ok (answer.Delayed 111000))
      ∷ (event.Congestion 9 1 false 0, Ok answer.Done)
      ∷ (event.PacerCheck 0 12001, Ok (answer.Delayed 88800))
      ∷ (event.Congestion 0 6 false 0, Ok answer.Done)
      ∷ (event.PacerCheck 0 12001, Ok (answer.Delayed 44400))
      ∷ (event.Congestion 0 5 false 0, Ok answer.Done)
      ∷ (event.PacerCheck 0 12001, Ok (answer.Delayed 44400))
      ∷ (event.Congestion 5 1 false 0, Ok answer.Done)
      ∷ (event.PacerCheck 0 12001, Ok (answer.Delayed 22200))
      ∷ []

  recoveries_told : TellsAll recoveries
  recoveries_told =
      tt
      ⊳ refl
      ⊳ refl
      ⊳ refl
      ⊳ refl
      ⊳ refl
      ⊳ refl
      ⊳ refl
      ⊳ refl
      ⊳ refl

  twice_in_a_recovery_is_wrong : ¬ RowTold (drop 5 recoveries) (event.PacerCheck 0 12001) (Ok (answer.Delayed 88800))
  twice_in_a_recovery_is_wrong = λ told. uneven told refl

  sample_is_done : ¬ RowTold [] (event.Sample 0 1000000) (Ok answer.Ready)
  sample_is_done = λ told. unlike told refl

  -- ---- a packet of another path, or a non-ack-eliciting one, does not increase the window

  abbrev another_path : RowHistory
  another_path =
      (event.PacerCheck 0 12001, Ok (answer.Delayed 22200))
      ∷ (event.Acked Data 3 0 false, Ok (answer.Acked false))
      ∷ (event.NewPath 0 remote false, Ok answer.Done)
      ∷ (event.Send Data 1 1200 true None [] tt, Ok (answer.Sent 0 None))
      ∷ []

  another_path_told : TellsAll another_path
  another_path_told =
      tt
      ⊳ (unrefused, (λ h. h, (small refl, (fits refl refl, refl))))
      ⊳ (small refl, refl)
      ⊳ (unrefused, (some_is_none, refl))
      ⊳ refl

  abbrev silent : RowHistory
  silent =
      (event.PacerCheck 0 12001, Ok (answer.Delayed 22200))
      ∷ (event.Acked Data 3 0 false, Ok (answer.Acked false))
      ∷ (event.Send Data 1 1200 false None [] tt, Ok (answer.Sent 0 None))
      ∷ []

  silent_told : TellsAll silent
  silent_told =
      tt
      ⊳ (unrefused, (λ h. h, (small refl, (fits refl refl, refl))))
      ⊳ (unrefused, (some_is_none, refl))
      ⊳ refl

  -- ---- persistent congestion leaves a window of two packets, of the size that a probe found

  abbrev two_packets_left : RowHistory
  two_packets_left =
      (event.PacerCheck 0 13261, Ok (answer.Delayed 126670588))
      ∷ (event.Congestion 2 1 true 0, Ok answer.Done)
      ∷ (event.Acked Data 0 0 false, Ok (answer.Acked true))
      ∷ (event.PollMtu 0, Ok (answer.Probe 0 1326))
      ∷ []

  two_packets_left_told : TellsAll two_packets_left
  two_packets_left_told =
      tt
      ⊳ (unrefused, (small refl, (fits refl refl, refl)))
      ⊳ (unrefused, (some_is_none, refl))
      ⊳ refl
      ⊳ refl
