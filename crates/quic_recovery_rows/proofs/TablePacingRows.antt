-- Worked rows of the table of replies, computed: pacing, and the bytes paid for. Nothing rests on them.
use Rattle.std.proofs.Common.{ℕ, ◌-◌, ◌^◌, true, false, [], ◌∷◌, drop, Ok, refl, arith, ltb-true}
use Rattle.std.proofs.lemmas.Bool.{eqb-false}
use Rattle.std.proofs.lemmas.Option.{none-some}
use Rattle.std.specs.declared.net.socket_addr.SocketAddr.{SocketAddr}
use Rattle.rand_core.specs.Stream.{Stream}
use Rattle.recovery_congestion.specs.declared.congestion.new_reno.NewReno.{NewReno}
use Rattle.recovery_congestion.specs.NewReno.{reno_words}
use Rattle.recovery_congestion.specs.PacerLog.{balance_in}
use Rattle.recovery_congestion.specs.Pacing.{PacerCall}
use Rattle.recovery_congestion.proofs.PaidLogLaws.{delays_uncovered, pays_in_full, pays_rate}
use Rattle.recovery_paths.specs.PathLog.{PathHistory, path_state_of}
use Rattle.recovery_paths.specs.PathStates.{pacer_call}
use Rattle.recovery_paths.specs.declared.path_pair.PathName.TheVariants.{Current, Previous}
use Rattle.recovery_packet_numbers.specs.declared.filter.Skips.TheVariants.{Disabled}
use Rattle.recovery_events.specs.declared.event.Event.TheVariants as event
use Rattle.recovery_events.specs.declared.event.Answer.TheVariants as answer
use Rattle.recovery_history.specs.Pacing.{DelaysExactly, BoundsPaidRate}
use Rattle.recovery_history.specs.RepliesAfter.{RepliesAfter, pasts_of}
use Rattle.quic_recovery_rows.proofs.RowStart.{RowEvent, RowReply, RowHistory, row_start, AllTold, ◌⊳◌}
use Rattle.quic_recovery_rows.proofs.RowLaws.{unrefused, small, unlike, uneven}

module _ (remote : SocketAddr) (random : Stream) where
  abbrev RowTold : RowHistory → RowEvent → RowReply → Type 0
  RowTold = RepliesAfter (row_start remote random 8 Disabled)

  abbrev TellsAll : RowHistory → Type 0
  TellsAll = AllTold (row_start remote random 8 Disabled)

  -- ---- pacing: ten packets at once, and the next at the reported time

  abbrev paced : RowHistory
  paced =
      (event.Transmit 0 1200 true, Ok (answer.Delayed 266400000))
      ∷ (event.Transmit 0 1200 true, Ok answer.Transmitted)
      ∷ (event.Transmit 0 1200 true, Ok answer.Transmitted)
      ∷ (event.Transmit 0 1200 true, Ok answer.Transmitted)
      ∷ (event.Transmit 0 1200 true, Ok answer.Transmitted)
      ∷ (event.Transmit 0 1200 true, Ok answer.Transmitted)
      ∷ (event.Transmit 0 1200 true, Ok answer.Transmitted)
      ∷ (event.Transmit 0 1200 true, Ok answer.Transmitted)
      ∷ (event.Transmit 0 1200 true, Ok answer.Transmitted)
      ∷ (event.Transmit 0 1200 true, Ok answer.Transmitted)
      ∷ (event.Transmit 0 1200 true, Ok answer.Transmitted)
      ∷ (event.Validated Current, Ok answer.Done)
      ∷ []

  paced_told : TellsAll paced
  paced_told =
      tt
      ⊳ refl
      ⊳ (small refl, refl)
      ⊳ (small refl, refl)
      ⊳ (small refl, refl)
      ⊳ (small refl, refl)
      ⊳ (small refl, refl)
      ⊳ (small refl, refl)
      ⊳ (small refl, refl)
      ⊳ (small refl, refl)
      ⊳ (small refl, refl)
      ⊳ (small refl, refl)
      ⊳ (small refl, refl)

  eleventh_passes_is_wrong : ¬ RowTold (drop 1 paced) (event.Transmit 0 1200 true) (Ok answer.Transmitted)
  eleventh_passes_is_wrong = λ told. unlike told.1 refl

  another_moment_is_wrong : ¬ RowTold (drop 1 paced) (event.Transmit 0 1200 true) (Ok (answer.Delayed 266400001))
  another_moment_is_wrong = λ told. uneven told.1 refl

  not_validated_there : ¬ RowTold [] (event.Validated Previous) (Ok answer.Done)
  not_validated_there = λ told. told.0 tt

  -- ---- no time counts twice

  abbrev checks : RowHistory
  checks =
      (event.PacerCheck 0 12001, Ok (answer.Delayed 333022200))
      ∷ (event.PacerCheck 333000000 12001, Ok (answer.Delayed 333022200))
      ∷ (event.PacerCheck 0 12001, Ok (answer.Delayed 22200))
      ∷ []

  checks_told : TellsAll checks
  checks_told =
      tt
      ⊳ refl
      ⊳ refl
      ⊳ refl

  earlier_is_wrong : ¬ RowTold (drop 1 checks) (event.PacerCheck 0 12001) (Ok (answer.Delayed 22200))
  earlier_is_wrong = λ told. uneven told refl

  -- ---- the clock steps back, and the bucket is refilled from the time when it was made

  abbrev backwards : RowHistory
  backwards =
      (event.Transmit 1266400000 12000 true, Ok (answer.Delayed 1293040000))
      ∷ (event.Transmit 1266399999 1200 true, Ok answer.Transmitted)
      ∷ (event.Transmit 0 1200 true, Ok (answer.Delayed 266400000))
      ∷ (event.Transmit 1000000000 1200 true, Ok answer.Transmitted)
      ∷ (event.Transmit 1000000000 1200 true, Ok answer.Transmitted)
      ∷ (event.Transmit 1000000000 1200 true, Ok answer.Transmitted)
      ∷ (event.Transmit 1000000000 1200 true, Ok answer.Transmitted)
      ∷ (event.Transmit 1000000000 1200 true, Ok answer.Transmitted)
      ∷ (event.Transmit 1000000000 1200 true, Ok answer.Transmitted)
      ∷ (event.Transmit 1000000000 1200 true, Ok answer.Transmitted)
      ∷ (event.Transmit 1000000000 1200 true, Ok answer.Transmitted)
      ∷ (event.Transmit 1000000000 1200 true, Ok answer.Transmitted)
      ∷ (event.Transmit 1000000000 1200 true, Ok answer.Transmitted)
      ∷ (event.Validated Current, Ok answer.Done)
      ∷ []

  backwards_told : TellsAll backwards
  backwards_told =
      tt
      ⊳ refl
      ⊳ (small refl, refl)
      ⊳ (small refl, refl)
      ⊳ (small refl, refl)
      ⊳ (small refl, refl)
      ⊳ (small refl, refl)
      ⊳ (small refl, refl)
      ⊳ (small refl, refl)
      ⊳ (small refl, refl)
      ⊳ (small refl, refl)
      ⊳ (small refl, refl)
      ⊳ (small refl, refl)
      ⊳ (small refl, refl)
      ⊳ (small refl, refl)

  -- ---- a fresh path; the peer accepts datagrams of 600 bytes

  abbrev small_path : RowHistory
  small_path =
      (event.PacerCheck 0 6001, Ok (answer.Delayed 22200))
      ∷ (event.PacerCheck 0 6000, Ok answer.Ready)
      ∷ (event.NewPath 0 remote true, Ok answer.Done)
      ∷ (event.PeerLimit 600, Ok answer.Done)
      ∷ []

  small_path_told : TellsAll small_path
  small_path_told =
      tt
      ⊳ (λ h. omega (arith, h), (unrefused, refl))
      ⊳ (small refl, refl)
      ⊳ refl
      ⊳ refl

  -- ---- no time after the last one is reported

  abbrev last_moment : RowHistory
  last_moment =
      (event.PacerCheck 0 12001, Ok (answer.Delayed (2 ^ 64 - 1)))
      ∷ (event.PacerCheck (2 ^ 64 - 1) 12001, Ok (answer.Delayed (2 ^ 64 - 1)))
      ∷ []

  last_moment_told : TellsAll last_moment
  last_moment_told =
      tt
      ⊳ refl
      ⊳ refl

  -- ---- a delayed call refills the pacer for half an RTT

  abbrev brings_tokens : RowHistory
  brings_tokens =
      (event.PacerCheck 0 1200, Ok answer.Ready)
      ∷ (event.Transmit 133200000 12000 true, Ok (answer.Delayed 266400000))
      ∷ (event.Transmit 0 1200 true, Ok answer.Transmitted)
      ∷ (event.Transmit 0 1200 true, Ok answer.Transmitted)
      ∷ (event.Transmit 0 1200 true, Ok answer.Transmitted)
      ∷ (event.Transmit 0 1200 true, Ok answer.Transmitted)
      ∷ (event.Transmit 0 1200 true, Ok answer.Transmitted)
      ∷ (event.Transmit 0 1200 true, Ok answer.Transmitted)
      ∷ (event.Transmit 0 1200 true, Ok answer.Transmitted)
      ∷ (event.Transmit 0 1200 true, Ok answer.Transmitted)
      ∷ (event.Transmit 0 1200 true, Ok answer.Transmitted)
      ∷ (event.Transmit 0 1200 true, Ok answer.Transmitted)
      ∷ (event.Validated Current, Ok answer.Done)
      ∷ []

  brings_tokens_told : TellsAll brings_tokens
  brings_tokens_told =
      tt
      ⊳ refl
      ⊳ (small refl, refl)
      ⊳ (small refl, refl)
      ⊳ (small refl, refl)
      ⊳ (small refl, refl)
      ⊳ (small refl, refl)
      ⊳ (small refl, refl)
      ⊳ (small refl, refl)
      ⊳ (small refl, refl)
      ⊳ (small refl, refl)
      ⊳ (small refl, refl)
      ⊳ (small refl, refl)
      ⊳ refl

  -- ---- a probe is sent unchecked, and there are tokens for half of it: no debt is stored

  abbrev overdrawn : RowHistory
  overdrawn =
      (event.Transmit 26640000 1200 true, Ok answer.Transmitted)
      ∷ (event.Transmit 0 1200 true, Ok (answer.Delayed 266400000))
      ∷ (event.Transmit 0 2400 false, Ok answer.Transmitted)
      ∷ (event.Transmit 0 10800 true, Ok answer.Transmitted)
      ∷ (event.Validated Current, Ok answer.Done)
      ∷ []

  overdrawn_told : TellsAll overdrawn
  overdrawn_told =
      tt
      ⊳ refl
      ⊳ (small refl, refl)
      ⊳ (small refl, refl)
      ⊳ (small refl, refl)
      ⊳ (small refl, refl)

  debt_is_wrong : ¬ RowTold (drop 2 overdrawn) (event.Transmit 0 1200 true) (Ok (answer.Delayed 293040000))
  debt_is_wrong = λ told. uneven told.1 refl

  -- the promises say the same about the path in use and the call of its pacer
  abbrev path : RowHistory → PathHistory NewReno
  path history = (pasts_of (row_start remote random 8 Disabled) history).current

  abbrev asks : RowHistory → ℕ → PacerCall
  asks history now = pacer_call reno_words (path_state_of (path history)) now 1200

  abbrev probed : RowHistory
  probed = drop 2 overdrawn

  abbrev waited : RowHistory
  waited = drop 1 overdrawn

  abbrev RowDelays : RowHistory → RowEvent → RowReply → Type 0
  RowDelays = DelaysExactly (row_start remote random 8 Disabled)

  abbrev RowPays : RowHistory → RowEvent → RowReply → Type 0
  RowPays = BoundsPaidRate (row_start remote random 8 Disabled)

  waits : RowDelays probed (event.Transmit 0 1200 true) (Ok (answer.Delayed 266400000))
  waits = delays_uncovered _ (path probed).pacing (asks probed 0) refl

  debt_breaks : ¬ RowDelays probed (event.Transmit 0 1200 true) (Ok (answer.Delayed 293040000))
  unfolding balance_in
  debt_breaks = λ delays. eqb-false _ _ refl delays.1.1

  passing_breaks : ¬ RowDelays probed (event.Transmit 0 1200 true) (Ok answer.Transmitted)
  unfolding balance_in
  passing_breaks = λ delays. delays.1 ((ltb-true _ _ refl, ltb-true _ _ refl), ltb-true _ _ refl)

  unpaid : ¬ RowPays probed (event.Transmit 0 1200 true) (Ok answer.Transmitted)
  unfolding balance_in
  unpaid = λ pays. eqb-false _ _ refl (pays.0 refl (ltb-true _ _ refl, ltb-true _ _ refl))

  passes : RowDelays waited (event.Transmit 26640000 1200 true) (Ok answer.Transmitted)
  passes = delays_uncovered _ (path waited).pacing (asks waited 26640000) refl

  waiting_on_breaks : ¬ RowDelays waited (event.Transmit 26640000 1200 true) (Ok (answer.Delayed 266400000))
  unfolding balance_in
  waiting_on_breaks = λ delays. small refl delays.1.0.1

  pays : RowPays waited (event.Transmit 26640000 1200 true) (Ok answer.Transmitted)
  pays =
      let after = path ((event.Transmit 26640000 1200 true, Ok answer.Transmitted) ∷ waited) in (
        pays_in_full _ (path waited).pacing (asks waited 26640000) refl,
        (pays_rate after.kept.pacer after.pacing refl, λ past is. absurd (none-some _ is)),
      )
