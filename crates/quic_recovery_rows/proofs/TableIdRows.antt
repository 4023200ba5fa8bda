-- Worked rows of the table of replies, computed: the peer's IDs. Nothing rests on them.
use Rattle.std.proofs.Common.{ℕ, ◌-◌, ◌^◌, List, [], ◌∷◌, drop, replicate, None, Some, Ok, Err, refl, arith}
use Rattle.std.proofs.lemmas.Bool.Decides.{nat_tests}
use Rattle.std.specs.declared.net.socket_addr.SocketAddr.{SocketAddr}
use Rattle.rand_core.specs.Stream.{Stream}
use Rattle.recovery_base.specs.declared.below.ids.NewConnectionId.{NewConnectionId}
use Rattle.recovery_packet_numbers.specs.declared.filter.Skips.TheVariants.{Disabled}
use Rattle.recovery_events.specs.declared.event.Event.TheVariants as event
use Rattle.recovery_events.specs.declared.event.Answer.{Answer}
use Rattle.recovery_events.specs.declared.event.Answer.TheVariants as answer
use Rattle.recovery_events.specs.declared.event.Refusal.TheVariants as refusal
use Rattle.recovery_history.specs.RepliesAfter.{RepliesAfter}
use Rattle.quic_recovery_rows.proofs.RowStart.{RowEvent, RowReply, RowHistory, row_start, AllTold, ◌⊳◌}
use Rattle.quic_recovery_rows.proofs.RowLaws.{unrefused, small, some_is_none, differ, taken, moves}

module _ (remote : SocketAddr) (random : Stream) where
  abbrev RowTold : RowHistory → RowEvent → RowReply → Type 0
  RowTold = RepliesAfter (row_start remote random 8 Disabled)

  abbrev TellsAll : RowHistory → Type 0
  TellsAll = AllTold (row_start remote random 8 Disabled)

  abbrev frame : ℕ → ℕ → ℕ → NewConnectionId
  frame n low byte = record {
    sequence = n;
    retire_prior_to = low;
    id = replicate 8 byte;
    reset_token = replicate 16 byte;
  }

  -- these numbers are to be retired, and the token of the active ID is then of this byte
  abbrev retires : ℕ → ℕ → ℕ → Answer (List ℕ)
  retires start end byte = answer.Retire (Some (record { start = start; end = end }, replicate 16 byte))

  -- ---- the peer's IDs

  abbrev peers : RowHistory
  peers =
      (event.NewId (frame 3 4 1), Err refusal.BadRetirePriorTo)
      ∷ (event.InitialId (replicate 8 1), Err refusal.NotInitialId)
      ∷ (event.NewId (frame 1000000 1000000 9), Ok (retires 3 11 9))
      ∷ (event.NextId, Ok (answer.Retire None))
      ∷ (event.NextId, Ok (retires 2 3 8))
      ∷ (event.NewId (frame 3 1 8), Ok (retires 0 2 7))
      ∷ (event.NewId (frame 2 0 7), Ok (answer.Retire None))
      ∷ []

  peers_told : TellsAll peers
  peers_told =
      tt
      ⊳ taken refl refl refl refl (λ not. not tt, omega arith)
      ⊳ taken refl refl refl refl (
        λ not. not tt,
        moves 2 (replicate 8 7) refl refl refl refl (λ m less. grind (arith, nat_tests, less)),
      )
      ⊳ (
        refl,
        record { bound = omega arith; is_held = refl; least = λ m low less. absurd (omega (arith, low, less)) },
        (replicate 8 8, refl),
      )
      ⊳ (λ n above. grind (arith, nat_tests, above))
      ⊳ taken refl refl refl refl (
        λ not. not tt,
        moves 1000000 (replicate 8 9) refl refl refl refl (λ m less. grind (arith, nat_tests, less)),
      )
      ⊳ (λ e. omega (arith, e))
      ⊳ (small refl, omega arith)

  ends_late_is_wrong : ¬ RowTold (drop 6 peers) (event.NewId (frame 3 1 8)) (Ok (retires 0 3 8))
  ends_late_is_wrong = λ told. let given =
      told.1.1.1.1.1 in some_is_none (given.3.least 2 (omega arith) (omega (arith, given.4)))

  retired_stays_is_wrong : ¬ RowTold (drop 6 peers) (event.NewId (frame 3 1 8)) (Ok (answer.Retire None))
  retired_stays_is_wrong = λ told. omega (arith, told.1.1.1.1.1)

  uncut_is_wrong : ¬ RowTold (drop 3 peers) (event.NewId (frame 1000000 1000000 9)) (Ok (retires 3 1000000 9))
  uncut_is_wrong = λ told. omega (arith, told.1.1.1.1.1.4)

  last_is_left_is_wrong : ¬ RowTold (drop 4 peers) (event.NextId) (Ok (retires 3 4 8))
  last_is_left_is_wrong = λ told. unrefused told.1.is_held

  next_is_held_is_wrong : ¬ RowTold (drop 5 peers) (event.NextId) (Ok (answer.Retire None))
  next_is_held_is_wrong = λ told. some_is_none (told 3 (omega arith))

  initial_is_gone_is_wrong : ¬ RowTold (drop 2 peers) (event.InitialId (replicate 8 1)) (Ok answer.Done)
  initial_is_gone_is_wrong = λ told. told.0 (λ e. omega (arith, e))

  bad_frame_is_taken_is_wrong : ¬ RowTold (drop 1 peers) (event.NewId (frame 3 4 1)) (Ok (answer.Retire None))
  bad_frame_is_taken_is_wrong = λ told. told.1.0 (omega arith)

  -- ---- a frame for a number that is held repeats it, and at most eight numbers are held

  abbrev conflicts : RowHistory
  conflicts =
      (event.NewId (frame 2000 2000 3), Ok (retires 7 15 3))
      ∷ (event.NewId (frame 7 1 1), Ok (retires 0 7 1))
      ∷ (event.NewId (frame 7 1 2), Err refusal.Conflict)
      ∷ (event.NewId (frame 8 0 1), Err refusal.ExceedsLimit)
      ∷ (event.NewId (frame 7 0 1), Ok (answer.Retire None))
      ∷ (event.NewId (frame 0 0 7), Err refusal.Conflict)
      ∷ (event.NewId (frame 0 0 255), Ok (answer.Retire None))
      ∷ []

  conflicts_told : TellsAll conflicts
  conflicts_told =
      tt
      ⊳ taken refl refl refl refl ((λ not. not (refl, tt)), omega arith)
      ⊳ taken refl refl refl refl (λ same. differ refl same.0)
      ⊳ taken refl refl refl refl (λ not. not tt, omega arith)
      ⊳ (small refl, (small refl, (small refl, omega arith)))
      ⊳ taken refl refl refl refl (λ same. differ refl same.0)
      ⊳ taken refl refl refl refl (
        λ not. not (refl, refl),
        moves 7 (replicate 8 1) refl refl refl refl (λ m less. grind (arith, nat_tests, less)),
      )
      ⊳ taken refl refl refl refl (
        λ not. not tt,
        moves 2000 (replicate 8 3) refl refl refl refl (λ m less. grind (arith, nat_tests, less)),
      )

  other_id_is_taken_is_wrong : ¬ RowTold (drop 6 conflicts) (event.NewId (frame 0 0 7)) (Ok (answer.Retire None))
  other_id_is_taken_is_wrong = λ told. told.1.1.1.1.0 (λ same. differ refl same.0)

  ninth_is_taken_is_wrong : ¬ RowTold (drop 4 conflicts) (event.NewId (frame 8 0 1)) (Ok (answer.Retire None))
  ninth_is_taken_is_wrong = λ told. told.1.1.1.0 (omega arith)

  eighth_is_past_is_wrong : ¬ RowTold (drop 5 conflicts) (event.NewId (frame 7 0 1)) (Err refusal.ExceedsLimit)
  eighth_is_past_is_wrong = λ told. omega (arith, told.1.1.1)

  -- ---- a peer that skips numbers

  abbrev far : RowHistory
  far =
      (event.NextId, Ok (answer.Retire None))
      ∷ (event.NewId (frame 5 0 1), Err refusal.Retired)
      ∷ (event.NewId (frame (2 ^ 62) 0 1), Err refusal.NumberTooLarge)
      ∷ (event.NewId (frame (2 ^ 62 - 1) (2 ^ 62 - 1) 9), Ok (retires 1000000 1000008 9))
      ∷ (event.NewId (frame 1000000 1000000 9), Ok (retires 0 8 9))
      ∷ []

  far_told : TellsAll far
  far_told =
      tt
      ⊳ taken refl refl refl refl (
        λ not. not tt,
        moves 1000000 (replicate 8 9) refl refl refl refl (λ m less. grind (arith, nat_tests, less)),
      )
      ⊳ taken refl refl refl refl (
        λ not. not tt,
        moves (2 ^ 62 - 1) (replicate 8 9) refl refl refl refl
            (λ m less. grind (arith, nat_tests, less)),
      )
      ⊳ omega arith
      ⊳ (small refl, (small refl, omega arith))
      ⊳ (λ n above. grind (arith, nat_tests, above))

  retired_is_taken_is_wrong : ¬ RowTold (drop 2 far) (event.NewId (frame 5 0 1)) (Ok (answer.Retire None))
  retired_is_taken_is_wrong = λ told. told.1.1.0 (omega arith)

  -- ---- the initial ID is replaced, and a frame that repeats the new one brings its token

  abbrev initial : RowHistory
  initial =
      (event.NewId (frame 0 0 7), Ok (answer.Retire None))
      ∷ (event.NewId (frame 0 0 255), Err refusal.Conflict)
      ∷ (event.InitialId (replicate 8 7), Ok answer.Done)
      ∷ []

  initial_told : TellsAll initial
  initial_told =
      tt
      ⊳ (λ not. not refl, refl)
      ⊳ taken refl refl refl refl (λ same. differ refl same.0)
      ⊳ taken refl refl refl refl ((λ not. not (refl, tt)), omega arith)

  first_is_initial : ¬ RowTold [] (event.InitialId (replicate 8 7)) (Err refusal.NotInitialId)
  first_is_initial = λ told. told refl
