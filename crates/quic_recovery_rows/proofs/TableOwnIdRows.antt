-- Worked rows of the table of replies, computed: local IDs, and timers. Nothing rests on them.
use Rattle.std.proofs.Common.{ℕ, ◌<◌, ◌^◌, true, false, List, [], ◌∷◌, drop, map, length, replicate, None, Some, Ok, Err, refl, arith}
use Rattle.std.specs.declared.net.socket_addr.SocketAddr.{SocketAddr}
use Rattle.std.specs.Global.{Vec}
use Rattle.rand_core.specs.Stream.{Stream}
use Rattle.recovery_base.specs.declared.below.ids.IssuedCid.{IssuedCid}
use Rattle.recovery_base.specs.declared.timer.Timer.TheVariants.{Idle, Pacing}
use Rattle.recovery_packet_numbers.specs.declared.filter.Skips.TheVariants.{Disabled}
use Rattle.recovery_events.specs.declared.event.Event.TheVariants as event
use Rattle.recovery_events.specs.declared.event.Answer.TheVariants as answer
use Rattle.recovery_events.specs.declared.event.Refusal.TheVariants as refusal
use Rattle.recovery_history.specs.Promises.Lifetimes.{AsksToRetire}
use Rattle.recovery_history.specs.RepliesAfter.{RepliesAfter}
use Rattle.quic_recovery_rows.proofs.RowStart.{RowEvent, RowReply, RowHistory, row_start, AllTold, ◌⊳◌}
use Rattle.quic_recovery_rows.proofs.RowLaws.{small, starts, stays, differ, unlike}

module _ (remote : SocketAddr) (random : Stream) (given : Vec IssuedCid) where
  abbrev RowTold : RowHistory → RowEvent → RowReply → Type 0
  RowTold = RepliesAfter (row_start remote random 8 Disabled)

  abbrev TellsAll : RowHistory → Type 0
  TellsAll = AllTold (row_start remote random 8 Disabled)

  -- ---- local IDs, wherever they are in memory

  abbrev numbered : List ℕ → List IssuedCid
  numbered numbers = map (λ n. record { sequence = n; id = replicate 8 0; reset_token = replicate 16 0 }) numbers

  abbrev issued : ℕ → (numbers : List ℕ) → length (numbered numbers) < 2 ^ 63 → RowEvent
  issued now numbers few = event.IssueIds now (record given {
    len = length (numbered numbers);
    cap = length (numbered numbers);
    items = numbered numbers;
    ok = (refl, omega arith);
    small = few;
  })

  abbrev own : RowHistory
  own =
      (issued 5 (4 ∷ []) (omega arith), Err refusal.BadRange)
      ∷ (event.IdTimeout, Ok (answer.Flag false))
      ∷ (event.PeerRetired 3 5, Err refusal.UnissuedCid)
      ∷ (event.PeerRetired 0 5, Ok (answer.Flag true))
      ∷ (event.IdTimeout, Ok (answer.Flag true))
      ∷ (issued 0 (1 ∷ 2 ∷ []) (omega arith), Ok answer.Done)
      ∷ []

  own_told : TellsAll own
  own_told =
      tt
      ⊳ (small refl, (λ other. other refl, refl))
      ⊳ refl
      ⊳ (λ h. omega (arith, h), (small refl, starts (omega arith)))
      ⊳ (λ h. omega (arith, h), omega arith)
      ⊳ refl
      ⊳ (small refl, differ refl)

  unretired_is_asked_for : ¬ RowTold (drop 5 own) (event.IdTimeout) (Ok (answer.Flag false))
  unretired_is_asked_for = λ told. unlike told refl

  asked_again_is_wrong : ¬ RowTold (drop 2 own) (event.IdTimeout) (Ok (answer.Flag true))
  asked_again_is_wrong = λ told. unlike told refl

  room_for_one_is_wrong : ¬ RowTold (drop 4 own) (event.PeerRetired 0 2) (Ok (answer.Flag true))
  room_for_one_is_wrong = λ told. omega (arith, told.1.1.0 refl)

  unissued_is_retired_is_wrong : ¬ RowTold (drop 3 own) (event.PeerRetired 3 5) (Ok (answer.Flag true))
  unissued_is_retired_is_wrong = λ told. told.1.0 (omega arith)

  ids_are_in_use : ¬ RowTold [] (event.PeerRetired 0 5) (Err refusal.CidsNotInUse)
  ids_are_in_use = λ told. omega (arith, told)

  in_order_is_refused_is_wrong : ¬ RowTold (drop 1 own) (issued 5 (3 ∷ []) (omega arith)) (Err refusal.BadRange)
  in_order_is_refused_is_wrong = λ told. told.1 refl

  ids_take_memory : RowTold [] (issued 0 (1 ∷ []) (omega arith)) (Err refusal.NoMemory)
  ids_take_memory = (small refl, (λ other. other refl, λ none. cc))

  no_ids_take_none : ¬ RowTold [] (issued 0 [] (omega arith)) (Err refusal.NoMemory)
  no_ids_take_none = λ told. told.1.1 refl

  no_ids_are_issued : RowTold [] (issued 0 [] (omega arith)) (Ok answer.Done)
  no_ids_are_issued = (small refl, (λ other. other refl, refl))

  -- if IDs have zero length none is retired
  none_in_use : RepliesAfter (row_start remote random 0 Disabled) [] (event.PeerRetired 9 5) (Err refusal.CidsNotInUse)
  none_in_use = refl

  -- ---- IDs of one time have one deadline

  abbrev deadlines : RowHistory
  deadlines =
      (event.IdTimeout, Ok (answer.Flag false))
      ∷ (event.IdTimeout, Ok (answer.Flag true))
      ∷ (issued 0 (3 ∷ []) (omega arith), Ok answer.Done)
      ∷ (issued 0 (1 ∷ 2 ∷ []) (omega arith), Ok answer.Done)
      ∷ []

  deadlines_told : TellsAll deadlines
  deadlines_told =
      tt
      ⊳ (small refl, (λ other. other refl, refl))
      ⊳ (small refl, (λ other. other refl, refl))
      ⊳ refl
      ⊳ refl

  -- ---- when the peer is to be asked, by the lifetimes alone

  abbrev RowAsks : RowHistory → RowReply → Type 0
  RowAsks before reply = AsksToRetire (row_start remote random 8 Disabled) before event.IdTimeout reply

  asked_for_all : RowAsks (drop 5 own) (Ok (answer.Flag true))
  asked_for_all = refl

  not_asked_is_wrong : ¬ RowAsks (drop 5 own) (Ok (answer.Flag false))
  not_asked_is_wrong = λ e. cc

  none_is_over : RowAsks (drop 2 own) (Ok (answer.Flag false))
  none_is_over = refl

  asked_twice_is_wrong : ¬ RowAsks (drop 2 own) (Ok (answer.Flag true))
  asked_twice_is_wrong = λ e. cc

  -- two more IDs had lifetimes from 7 on; the peer was asked to retire number 0
  abbrev second : RowHistory
  second = (event.IdTimeout, Ok (answer.Flag true)) ∷ (issued 7 (1 ∷ 2 ∷ []) (omega arith), Ok answer.Done) ∷ []

  asked_and_not_done : RowAsks second (Ok (answer.Flag false))
  asked_and_not_done = refl

  asked_on_is_wrong : ¬ RowAsks second (Ok (answer.Flag true))
  asked_on_is_wrong = λ e. cc

  abbrev done : RowHistory
  done = (event.PeerRetired 0 5, Ok (answer.Flag true)) ∷ second

  asked_for_the_next : RowAsks done (Ok (answer.Flag true))
  asked_for_the_next = refl

  all_are_retired : RowAsks
      ((event.PeerRetired 2 5, Ok (answer.Flag true)) ∷ (event.PeerRetired 1 5, Ok (answer.Flag true)) ∷ done)
      (Ok (answer.Flag false))
  all_are_retired = refl

  -- ---- a number may be retired again

  abbrev retired_twice : RowHistory
  retired_twice =
      (event.PeerRetired 0 0, Ok (answer.Flag false))
      ∷ (event.PeerRetired 0 1, Ok (answer.Flag true))
      ∷ []

  retired_twice_told : TellsAll retired_twice
  retired_twice_told =
      tt
      ⊳ (λ h. omega (arith, h), (small refl, starts (omega arith)))
      ⊳ (λ h. omega (arith, h), (small refl, stays (small refl)))

  -- ---- timers: Pacing is set to 20 and Idle to 50, and then Pacing is stopped

  abbrev timers : RowHistory
  timers =
      (event.NextTimeout, Ok (answer.Timeout (Some 50)))
      ∷ (event.StopTimer Pacing, Ok answer.Done)
      ∷ (event.NextTimeout, Ok (answer.Timeout (Some 20)))
      ∷ (event.SetTimer Pacing 20, Ok answer.Done)
      ∷ (event.SetTimer Idle 50, Ok answer.Done)
      ∷ (event.NextTimeout, Ok (answer.Timeout None))
      ∷ []

  timers_told : TellsAll timers
  timers_told = tt ⊳ refl ⊳ refl ⊳ refl ⊳ refl ⊳ refl ⊳ refl

  later_is_wrong : ¬ RowTold (drop 3 timers) (event.NextTimeout) (Ok (answer.Timeout (Some 50)))
  later_is_wrong = λ told. cc

  stopped_is_wrong : ¬ RowTold (drop 1 timers) (event.NextTimeout) (Ok (answer.Timeout (Some 20)))
  stopped_is_wrong = λ told. cc

  none_is_wrong : ¬ RowTold (drop 1 timers) (event.NextTimeout) (Ok (answer.Timeout None))
  none_is_wrong = λ told. cc

  set_is_done : ¬ RowTold [] (event.SetTimer Idle 50) (Ok (answer.Timeout (Some 50)))
  set_is_done = λ told. unlike told refl

  stop_is_done : ¬ RowTold [] (event.StopTimer Idle) (Err refusal.NoMemory)
  stop_is_done = λ told. told
