-- Worked rows of the promises on ECN counts, on ACK_FREQUENCY frames, on full counters and on memory, computed: with
-- the right answer each holds, and with a wrong one it does not. Nothing rests on them.
use Rattle.std.proofs.Common.{◌^◌, ◌-◌, ℕ, true, false, [], ◌∷◌, Ok, Err, refl, arith}
use Rattle.std.specs.declared.net.socket_addr.SocketAddr.{SocketAddr}
use Rattle.recovery_base.specs.declared.below.SpaceId.TheVariants.{Initial, Data}
use Rattle.recovery_base.specs.declared.below.frames.EcnCounts.{EcnCounts}
use Rattle.recovery_paths.specs.declared.path_pair.PathName.TheVariants.{Current, Previous}
use Rattle.recovery_events.specs.declared.event.Event.{Event}
use Rattle.recovery_events.specs.declared.event.Event.TheVariants as event
use Rattle.recovery_events.specs.declared.event.Answer.TheVariants as answer
use Rattle.recovery_events.specs.declared.event.Refusal.TheVariants as refusal
use Rattle.recovery_history.specs.History.{History}
use Rattle.recovery_history.specs.Promises.Ecn.{ChecksEcn}
use Rattle.recovery_history.specs.Promises.Frequency.{AppliesNewestFrequency}
use Rattle.recovery_history.specs.Promises.Overflow.{OverflowsExactly}
use Rattle.recovery_history.specs.Promises.Memory.{AllocatesOnlyToGrow}
use Rattle.quic_recovery_rows.proofs.RowStart.{ack_frame}

module _ (Q S M P : Type 0) (remote : SocketAddr) where
  -- ---- ECN: of 1-RTT packets two were counted as ECT(0), and then three, of which one is CE

  abbrev ecn : ℕ → ℕ → EcnCounts
  ecn ect0 ce = record { ect0 = ect0; ect1 = 0; ce = ce }

  abbrev counted : History Q S M P
  counted =
      (event.Ecn Data 1 (ecn 2 1), Ok (answer.Flag true))
      ∷ (event.Ecn Data 2 (ecn 2 0), Ok (answer.Flag false))
      ∷ []

  one_more : ChecksEcn counted (event.Ecn Data 1 (ecn 3 1)) (Ok (answer.Flag false))
  one_more = (refl, refl)

  more_congested : ChecksEcn counted (event.Ecn Data 1 (ecn 2 2)) (Ok (answer.Flag true))
  more_congested = (refl, refl)

  congested_is_told : ¬ ChecksEcn counted (event.Ecn Data 1 (ecn 2 2)) (Ok (answer.Flag false))
  congested_is_told = λ told. let is = told.1 in cc

  falling_is_refused : ¬ ChecksEcn counted (event.Ecn Data 0 (ecn 2 0)) (Ok (answer.Flag false))
  falling_is_refused = λ told. let fine = told.0 in cc

  bleached_is_refused : ¬ ChecksEcn counted (event.Ecn Data 2 (ecn 3 1)) (Ok (answer.Flag false))
  bleached_is_refused = λ told. let fine = told.0 in cc

  another_space : ChecksEcn counted (event.Ecn Initial 0 (ecn 1 0)) (Ok (answer.Flag false))
  another_space = (refl, refl)

  no_other_cause : ¬ ChecksEcn counted (event.Ecn Data 1 (ecn 3 1)) (Err refusal.Overflow)
  no_other_cause = λ told. told

  -- ---- ACK_FREQUENCY frames: 5 was accepted, and 7 asked for too little

  abbrev asked : History Q S M P
  asked =
      (event.AckFrequencyIn (ack_frame 7 999), Err refusal.DelayTooSmall)
      ∷ (event.AckFrequencyIn (ack_frame 5 1000), Ok (answer.Flag true))
      ∷ []

  newer : AppliesNewestFrequency asked (event.AckFrequencyIn (ack_frame 8 1000)) (Ok (answer.Flag true))
  newer = refl

  too_small : AppliesNewestFrequency asked (event.AckFrequencyIn (ack_frame 8 999)) (Err refusal.DelayTooSmall)
  too_small = refl

  refused_counts : AppliesNewestFrequency asked (event.AckFrequencyIn (ack_frame 6 1000)) (Ok (answer.Flag false))
  refused_counts = refl

  older_is_not_refused : ¬ AppliesNewestFrequency asked (event.AckFrequencyIn (ack_frame 7 1))
      (Err refusal.DelayTooSmall)
  older_is_not_refused = λ told. cc

  older_is_not_taken : ¬ AppliesNewestFrequency asked (event.AckFrequencyIn (ack_frame 7 1000)) (Ok (answer.Flag true))
  older_is_not_taken = λ told. cc

  discarded : AppliesNewestFrequency ((event.DiscardSpace Data, Ok answer.Done) ∷ asked)
      (event.AckFrequencyIn (ack_frame 9 1))
      (Err refusal.SpaceDiscarded)
  discarded = refl

  -- ---- counters: 10 bytes were received on the first path, and another one was made

  abbrev moved : History Q S M P
  moved = (event.NewPath 5 remote true, Ok answer.Done) ∷ (event.DatagramIn Current 10, Ok answer.Done) ∷ []

  full : OverflowsExactly moved (event.DatagramIn Previous (2 ^ 64 - 10)) (Err refusal.Overflow)
  full = omega arith

  has_room : OverflowsExactly moved (event.DatagramIn Current (2 ^ 64 - 10)) (Ok answer.Done)
  has_room = omega arith

  room_is_not_refused : ¬ OverflowsExactly moved (event.DatagramIn Previous 1200) (Err refusal.Overflow)
  room_is_not_refused = λ many. omega (arith, many)

  full_is_not_taken : ¬ OverflowsExactly moved (event.DatagramIn Previous (2 ^ 64 - 10)) (Ok answer.Done)
  full_is_not_taken = λ few. omega (arith, few)

  two_paths_are_few : ¬ OverflowsExactly moved (event.NewPath 6 remote true) (Err refusal.Overflow)
  two_paths_are_few = λ many. omega (arith, many)

-- ---- memory: losing a packet may allocate, for the retransmission queue grows; returning that queue does not

module _ (Q S M P : Type 0) (remote : SocketAddr) where
  abbrev Spares : Event Q S M P → Type 0
  Spares event = AllocatesOnlyToGrow event (Err refusal.NoMemory)

  lost_may_grow : Spares (event.Lost Data 1)
  lost_may_grow = refl

  taken_is_wrong : ¬ Spares (event.TakePending Data)
  taken_is_wrong = λ e. cc

  acked_is_wrong : ¬ Spares (event.Acked Data 5 1 false)
  acked_is_wrong = λ e. cc

  -- a path that is not fresh has a second controller, a fresh one a new one
  path_may_grow : Spares (event.NewPath 5 remote false)
  path_may_grow = refl

  fresh_path_is_wrong : ¬ Spares (event.NewPath 5 remote true)
  fresh_path_is_wrong = λ e. cc
