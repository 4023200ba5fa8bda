-- Worked rows of the table of replies, computed: packets that are sent, and what they carry. Nothing rests on them.
use Rattle.std.proofs.Common.{◌-◌, ◌^◌, true, false, [], ◌∷◌, drop, None, Some, Ok, Err, refl, arith, inl}
use Rattle.std.specs.declared.net.socket_addr.SocketAddr.{SocketAddr}
use Rattle.rand_core.specs.Stream.{Stream}
use Rattle.recovery_base.specs.declared.below.SpaceId.TheVariants.{Initial, Data}
use Rattle.recovery_paths.specs.declared.path_pair.PathName.TheVariants.{Current, Previous}
use Rattle.recovery_packet_numbers.specs.declared.filter.Skips.TheVariants.{Disabled}
use Rattle.recovery_events.specs.declared.event.Event.TheVariants as event
use Rattle.recovery_events.specs.declared.event.Answer.TheVariants as answer
use Rattle.recovery_events.specs.declared.event.Refusal.TheVariants as refusal
use Rattle.recovery_history.specs.RepliesAfter.{RepliesAfter}
use Rattle.quic_recovery_rows.proofs.RowStart.{RowEvent, RowReply, RowHistory, row_start, AllTold, ◌⊳◌}
use Rattle.quic_recovery_rows.proofs.RowLaws.{unrefused, small, fits, stays, unlike, uneven, differ, some_is_none}

module _ (remote : SocketAddr) (random : Stream) where
  abbrev RowTold : RowHistory → RowEvent → RowReply → Type 0
  RowTold = RepliesAfter (row_start remote random 8 Disabled)

  abbrev TellsAll : RowHistory → Type 0
  TellsAll = AllTold (row_start remote random 8 Disabled)

  -- ---- packets that are sent and discarded

  abbrev packets : RowHistory
  packets =
      (event.InFlight Previous, Err refusal.NoSuchPath)
      ∷ (event.Acked Data 0 9 false, Err refusal.NotTracked)
      ∷ (event.Send Initial 0 500 true None [] tt, Err refusal.SpaceDiscarded)
      ∷ (event.InFlight Current, Ok (answer.InFlight 0 0))
      ∷ (event.DiscardSpace Initial, Ok answer.Done)
      ∷ (event.InFlight Current, Ok (answer.InFlight 500 1))
      ∷ (event.Send Data 0 0 false None [] tt, Ok (answer.Sent 0 None))
      ∷ (event.Send Initial 0 500 true None [] tt, Ok (answer.Sent 0 None))
      ∷ []

  packets_told : TellsAll packets
  packets_told =
      tt
      ⊳ (unrefused, (λ h. h, (small refl, (fits refl refl, refl))))
      ⊳ (unrefused, (λ h. h, (small refl, (fits refl refl, refl))))
      ⊳ refl
      ⊳ (unrefused, refl)
      ⊳ refl
      ⊳ refl
      ⊳ (unrefused, refl)
      ⊳ tt

  silent_first_is_wrong : ¬ RowTold [] (event.Send Initial 0 500 true None [] tt) (Ok (answer.Sent 1 None))
  silent_first_is_wrong = λ told. uneven told.1.1.1.1 refl

  small_overflow_is_wrong : ¬ RowTold [] (event.Send Initial 0 500 true None [] tt) (Err refusal.Overflow)
  small_overflow_is_wrong = λ told. grind (arith, told.1.1.1)

  large_overflow : RowTold ((event.Send Data 0 (2 ^ 64 - 1) true None [] tt, Ok (answer.Sent 0 None)) ∷ [])
      (event.Send Initial 0 1 true None [] tt)
      (Err refusal.Overflow)
  large_overflow = (unrefused, (λ h. h, (small refl, inl (omega arith))))

  large_number : RowTold [] (event.Send Initial 0 1 true (Some (2 ^ 62)) [] tt) (Err refusal.NumberTooLarge)
  large_number = (unrefused, omega arith)

  discarded_again_is_wrong : ¬ RowTold (drop 4 packets) (event.DiscardSpace Initial) (Ok answer.Done)
  discarded_again_is_wrong = λ told. told.0 refl

  still_in_flight_is_wrong : ¬ RowTold (drop 4 packets) (event.InFlight Current) (Ok (answer.InFlight 500 1))
  still_in_flight_is_wrong = λ told. uneven told refl

  untracked_is_wrong : ¬ RowTold (drop 1 packets) (event.Acked Data 0 9 false) (Ok (answer.Acked false))
  untracked_is_wrong = λ told. told.1.0 refl

  no_path_is_wrong : ¬ RowTold packets (event.InFlight Previous) (Ok (answer.InFlight 0 0))
  no_path_is_wrong = λ told. told.0 tt

  -- ---- queues

  abbrev queues : RowHistory
  queues =
      (event.TakePending Data, Ok (answer.Queue []))
      ∷ (event.Lost Data 0, Ok (answer.Lost false))
      ∷ (event.TakePending Data, Ok (answer.Queue (7 ∷ 8 ∷ [])))
      ∷ (event.QueueProbe Data false tt, Ok (answer.Sendable (record { acks = false; other = true })))
      ∷ (event.Send Data 0 100 true None (7 ∷ 8 ∷ []) tt, Ok (answer.Sent 0 None))
      ∷ []

  queues_told : TellsAll queues
  queues_told =
      tt
      ⊳ (unrefused, (λ h. h, (small refl, (fits refl refl, refl))))
      ⊳ (unrefused, (stays (λ all. all.0), refl))
      ⊳ (unrefused, refl)
      ⊳ (unrefused, (some_is_none, refl))
      ⊳ (unrefused, refl)

  moved_is_lost_is_wrong : ¬ RowTold (drop 1 queues) (event.TakePending Data) (Ok (answer.Queue (7 ∷ 8 ∷ [])))
  moved_is_lost_is_wrong = λ told. differ refl told.1

  moved_takes_memory : RowTold (drop 4 queues) (event.QueueProbe Data false tt) (Err refusal.NoMemory)
  moved_takes_memory = (unrefused, refl)

  standing_takes_none : ¬ RowTold (drop 3 queues) (event.QueueProbe Data false tt) (Err refusal.NoMemory)
  standing_takes_none = λ told. unrefused told.1

  ping_is_other : ¬ RowTold [] (event.QueueProbe Data false tt)
      (Ok (answer.Sendable (record { acks = false; other = false })))
  ping_is_other = λ told. unrefused told.1.1

  joins_take_memory : RowTold (drop 2 queues) (event.Lost Data 0) (Err refusal.NoMemory)
  joins_take_memory = (unrefused, (some_is_none, tt))

  acks_take_none : ¬ RowTold (drop 2 queues) (event.Acked Data 9 0 false) (Err refusal.NoMemory)
  acks_take_none = λ told. told.1.1

  no_probe_is_acked : ¬ RowTold (drop 2 queues) (event.Acked Data 9 0 false) (Ok (answer.Acked true))
  no_probe_is_acked = λ told. unlike told.1.1 refl

  tracked_is_refused_is_wrong : ¬ RowTold (drop 2 queues) (event.Lost Data 0) (Err refusal.NotTracked)
  tracked_is_refused_is_wrong = λ told. some_is_none told.1

  -- what is lost is appended to what was lost before

  abbrev joined : RowHistory
  joined =
      (event.TakePending Data, Ok (answer.Queue (2 ∷ 3 ∷ 1 ∷ [])))
      ∷ (event.QueueProbe Data false tt, Ok (answer.Sendable (record { acks = false; other = true })))
      ∷ (event.Lost Data 0, Ok (answer.Lost false))
      ∷ (event.Lost Data 1, Ok (answer.Lost false))
      ∷ (event.Send Data 0 1 true None (4 ∷ []) tt, Ok (answer.Sent 2 None))
      ∷ (event.Send Data 0 1 true None (2 ∷ 3 ∷ []) tt, Ok (answer.Sent 1 None))
      ∷ (event.Send Data 0 1 true None (1 ∷ []) tt, Ok (answer.Sent 0 None))
      ∷ []

  joined_told : TellsAll joined
  joined_told =
      tt
      ⊳ (unrefused, (λ h. h, (small refl, (fits refl refl, refl))))
      ⊳ (unrefused, (λ h. h, (small refl, (fits refl refl, refl))))
      ⊳ (unrefused, (λ h. h, (small refl, (fits refl refl, refl))))
      ⊳ (unrefused, (some_is_none, refl))
      ⊳ (unrefused, (some_is_none, refl))
      ⊳ (unrefused, (stays (λ all. all.0), refl))
      ⊳ (unrefused, refl)

  in_front_is_wrong : ¬ RowTold (drop 1 joined) (event.TakePending Data) (Ok (answer.Queue (1 ∷ 2 ∷ 3 ∷ [])))
  in_front_is_wrong = λ told. differ refl told.1

  -- ---- a PING stays requested

  abbrev marked : RowHistory
  marked =
      (event.QueueProbe Data false tt, Ok (answer.Sendable (record { acks = false; other = true })))
      ∷ (event.TakePending Data, Ok (answer.Queue []))
      ∷ (event.QueueProbe Data false tt, Ok (answer.Sendable (record { acks = false; other = true })))
      ∷ []

  marked_told : TellsAll marked
  marked_told =
      tt
      ⊳ (unrefused, (stays (λ all. all.0), refl))
      ⊳ (unrefused, refl)
      ⊳ (unrefused, (stays (λ all. all.0), refl))

  -- ---- and an immediate ACK is requested

  abbrev at_once : RowHistory
  at_once =
      (event.QueueProbe Data true tt, Ok (answer.Sendable (record { acks = false; other = true })))
      ∷ []

  at_once_told : TellsAll at_once
  at_once_told =
      tt
      ⊳ (unrefused, (stays (λ all. all.0), refl))
