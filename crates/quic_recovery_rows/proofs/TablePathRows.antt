-- Worked rows of the table of replies, computed: datagrams, and paths. Nothing rests on them.
use Rattle.std.proofs.Common.{◌-◌, ◌^◌, true, false, [], ◌∷◌, drop, None, Ok, Err, refl, arith}
use Rattle.std.specs.declared.net.socket_addr.SocketAddr.{SocketAddr}
use Rattle.rand_core.specs.Stream.{Stream}
use Rattle.recovery_base.specs.declared.below.SpaceId.TheVariants.{Data}
use Rattle.recovery_paths.specs.declared.path_pair.PathName.TheVariants.{Current, Previous}
use Rattle.recovery_packet_numbers.specs.declared.filter.Skips.TheVariants.{Disabled}
use Rattle.recovery_events.specs.declared.event.Event.TheVariants as event
use Rattle.recovery_events.specs.declared.event.Answer.TheVariants as answer
use Rattle.recovery_events.specs.declared.event.Refusal.TheVariants as refusal
use Rattle.recovery_history.specs.RepliesAfter.{RepliesAfter}
use Rattle.quic_recovery_rows.proofs.RowStart.{RowEvent, RowReply, RowHistory, row_start, AllTold, ◌⊳◌}
use Rattle.quic_recovery_rows.proofs.RowLaws.{unrefused, small, fits, unlike, uneven, some_is_none}

module _ (remote : SocketAddr) (random : Stream) where
  abbrev RowTold : RowHistory → RowEvent → RowReply → Type 0
  RowTold = RepliesAfter (row_start remote random 8 Disabled)

  abbrev TellsAll : RowHistory → Type 0
  TellsAll = AllTold (row_start remote random 8 Disabled)

  -- ---- the anti-amplification limit: three times the bytes received

  abbrev amplified : RowHistory
  amplified =
      (event.Transmit 0 1200 true, Ok answer.Blocked)
      ∷ (event.Transmit 0 1200 true, Ok answer.Transmitted)
      ∷ (event.Transmit 0 1200 true, Ok answer.Transmitted)
      ∷ (event.Transmit 0 1200 true, Ok answer.Transmitted)
      ∷ (event.DatagramIn Current 1200, Ok answer.Done)
      ∷ []

  amplified_told : TellsAll amplified
  amplified_told =
      tt
      ⊳ (small refl, refl)
      ⊳ (small refl, refl)
      ⊳ (small refl, refl)
      ⊳ (small refl, refl)
      ⊳ (small refl, refl)

  fourth_passes_is_wrong : ¬ RowTold (drop 1 amplified) (event.Transmit 0 1200 true) (Ok answer.Transmitted)
  fourth_passes_is_wrong = λ told. unlike told.1 refl

  third_is_blocked_is_wrong : ¬ RowTold (drop 2 amplified) (event.Transmit 0 1200 true) (Ok answer.Blocked)
  third_is_blocked_is_wrong = λ told. unlike told.1 refl

  unchecked_passes : RowTold (drop 1 amplified) (event.Transmit 0 1200 false) (Ok answer.Transmitted)
  unchecked_passes = (small refl, refl)

  -- ---- a datagram that overflows the total does not count

  abbrev many_bytes : RowHistory
  many_bytes =
      (event.Transmit 0 1200 true, Ok answer.Transmitted)
      ∷ (event.DatagramIn Current 1, Err refusal.Overflow)
      ∷ (event.DatagramIn Current (2 ^ 64 - 1), Ok answer.Done)
      ∷ []

  many_bytes_told : TellsAll many_bytes
  many_bytes_told =
      tt
      ⊳ (small refl, refl)
      ⊳ omega arith
      ⊳ (small refl, refl)

  overflow_counts_is_wrong : ¬ RowTold (drop 2 many_bytes) (event.DatagramIn Current 1) (Ok answer.Done)
  overflow_counts_is_wrong = λ told. told.0 (omega arith)

  no_datagram_there : ¬ RowTold [] (event.DatagramIn Previous 1) (Ok answer.Done)
  no_datagram_there = λ told. told.0 tt

  sent_overflows : RowTold ((event.Transmit 0 (2 ^ 64 - 1) false, Ok answer.Transmitted) ∷ []) (event.Transmit 0 1 true)
      (Err refusal.Overflow)
  sent_overflows = omega arith

  -- ---- each packet counts on the path on which it was sent

  abbrev two_paths : RowHistory
  two_paths =
      (event.InFlight Current, Ok (answer.InFlight 700 1))
      ∷ (event.InFlight Previous, Ok (answer.InFlight 0 0))
      ∷ (event.Acked Data 2 0 false, Ok (answer.Acked false))
      ∷ (event.InFlight Current, Ok (answer.InFlight 700 1))
      ∷ (event.InFlight Previous, Ok (answer.InFlight 500 1))
      ∷ (event.Send Data 1 700 true None [] tt, Ok (answer.Sent 1 None))
      ∷ (event.NewPath 0 remote true, Ok answer.Done)
      ∷ (event.Send Data 0 500 true None [] tt, Ok (answer.Sent 0 None))
      ∷ []

  two_paths_told : TellsAll two_paths
  two_paths_told =
      tt
      ⊳ (unrefused, (λ h. h, (small refl, (fits refl refl, refl))))
      ⊳ (small refl, refl)
      ⊳ (unrefused, (λ h. h, (small refl, (fits refl refl, refl))))
      ⊳ refl
      ⊳ refl
      ⊳ (unrefused, (some_is_none, refl))
      ⊳ refl
      ⊳ refl

  counts_on_the_other_is_wrong : ¬ RowTold (drop 5 two_paths) (event.InFlight Current) (Ok (answer.InFlight 1200 2))
  counts_on_the_other_is_wrong = λ told. uneven told refl

  -- ---- an older path is dropped, and its packets stay tracked

  abbrev dropped : RowHistory
  dropped =
      (event.DropPrevious, Err refusal.NoSuchPath)
      ∷ (event.DropPrevious, Ok answer.Done)
      ∷ (event.InFlight Previous, Ok (answer.InFlight 0 0))
      ∷ (event.Acked Data 2 0 false, Ok (answer.Acked false))
      ∷ (event.InFlight Previous, Ok (answer.InFlight 0 0))
      ∷ (event.NewPath 0 remote false, Ok answer.Done)
      ∷ (event.NewPath 0 remote true, Ok answer.Done)
      ∷ (event.Send Data 0 500 true None [] tt, Ok (answer.Sent 0 None))
      ∷ []

  dropped_told : TellsAll dropped
  dropped_told =
      tt
      ⊳ (unrefused, (λ h. h, (small refl, (fits refl refl, refl))))
      ⊳ (small refl, refl)
      ⊳ (small refl, refl)
      ⊳ refl
      ⊳ (unrefused, (some_is_none, refl))
      ⊳ refl
      ⊳ refl
      ⊳ tt

  older_path_stays_is_wrong : ¬ RowTold (drop 5 dropped) (event.InFlight Previous) (Ok (answer.InFlight 500 1))
  older_path_stays_is_wrong = λ told. uneven told refl

  drops_twice_is_wrong : ¬ RowTold (drop 1 dropped) (event.DropPrevious) (Ok answer.Done)
  drops_twice_is_wrong = λ told. told.0 tt

  drops_not_is_wrong : ¬ RowTold (drop 2 dropped) (event.DropPrevious) (Err refusal.NoSuchPath)
  drops_not_is_wrong = λ told. told

  -- ---- the previous path is used again, and the packets of the other one stay tracked

  abbrev used_again : RowHistory
  used_again =
      (event.RevertPath, Err refusal.NoSuchPath)
      ∷ (event.Acked Data 2 1 false, Ok (answer.Acked false))
      ∷ (event.InFlight Current, Ok (answer.InFlight 500 1))
      ∷ (event.RevertPath, Ok answer.Done)
      ∷ (event.Send Data 1 700 true None [] tt, Ok (answer.Sent 1 None))
      ∷ (event.NewPath 0 remote true, Ok answer.Done)
      ∷ (event.Send Data 0 500 true None [] tt, Ok (answer.Sent 0 None))
      ∷ []

  used_again_told : TellsAll used_again
  used_again_told =
      tt
      ⊳ (unrefused, (λ h. h, (small refl, (fits refl refl, refl))))
      ⊳ (small refl, refl)
      ⊳ (unrefused, (λ h. h, (small refl, (fits refl refl, refl))))
      ⊳ refl
      ⊳ refl
      ⊳ (unrefused, (some_is_none, refl))
      ⊳ tt

  made_anew_is_wrong : ¬ RowTold (drop 3 used_again) (event.InFlight Current) (Ok (answer.InFlight 0 0))
  made_anew_is_wrong = λ told. uneven told refl

  used_again_not_is_wrong : ¬ RowTold (drop 4 used_again) (event.RevertPath) (Err refusal.NoSuchPath)
  used_again_not_is_wrong = λ told. told

  going_on_takes_memory : RowTold [] (event.NewPath 0 remote false) (Err refusal.NoMemory)
  going_on_takes_memory = (small refl, refl)

  fresh_takes_none : ¬ RowTold [] (event.NewPath 0 remote true) (Err refusal.NoMemory)
  fresh_takes_none = λ told. unrefused told.1

  current_is_there : ¬ RowTold [] (event.Validated Current) (Err refusal.NoSuchPath)
  current_is_there = λ told. told

  -- ---- what is not checked counts too

  abbrev unchecked : RowHistory
  unchecked =
      (event.Transmit 0 0 true, Ok answer.Blocked)
      ∷ (event.Transmit 0 1 false, Ok answer.Transmitted)
      ∷ (event.PacerCheck 0 0, Ok answer.Ready)
      ∷ (event.Transmit 0 1 true, Ok answer.Blocked)
      ∷ (event.Transmit 0 0 true, Ok answer.Transmitted)
      ∷ []

  unchecked_told : TellsAll unchecked
  unchecked_told =
      tt
      ⊳ (small refl, refl)
      ⊳ (small refl, refl)
      ⊳ refl
      ⊳ (small refl, refl)
      ⊳ (small refl, refl)
