-- Worked rows of the table of replies, computed: received packets, right answers and wrong ones. Nothing rests on them.
use Rattle.std.proofs.Common.{◌-◌, ◌^◌, true, false, [], ◌∷◌, drop, None, Ok, Err, refl, arith, inl, inr, eq-or-lt_of_le, sym}
use Rattle.std.specs.declared.net.socket_addr.SocketAddr.{SocketAddr}
use Rattle.rand_core.specs.Stream.{Stream}
use Rattle.recovery_base.specs.declared.below.SpaceId.TheVariants.{Initial, Handshake, Data}
use Rattle.recovery_packet_numbers.specs.declared.filter.Skips.TheVariants.{Disabled}
use Rattle.recovery_events.specs.declared.event.Event.TheVariants as event
use Rattle.recovery_events.specs.declared.event.Answer.TheVariants as answer
use Rattle.recovery_events.specs.declared.event.Refusal.TheVariants as refusal
use Rattle.recovery_history.specs.RepliesAfter.{RepliesAfter}
use Rattle.quic_recovery_rows.proofs.RowStart.{ack_frame, RowEvent, RowReply, RowHistory, row_start, AllTold, ◌⊳◌}
use Rattle.quic_recovery_rows.proofs.RowLaws.{unrefused, small, calm, at_first, starts, stays, in_turn, leaves_a_gap, patient, not_far, came_again, too_old, unlike}

module _ (remote : SocketAddr) (random : Stream) where
  abbrev RowTold : RowHistory → RowEvent → RowReply → Type 0
  RowTold = RepliesAfter (row_start remote random 8 Disabled)

  abbrev TellsAll : RowHistory → Type 0
  TellsAll = AllTold (row_start remote random 8 Disabled)

  -- ---- received packets: a duplicate, an ACK, and a number too large

  abbrev arrivals : RowHistory
  arrivals =
      (event.Received Data 7 (2 ^ 62) true, Err refusal.NumberTooLarge)
      ∷ (event.AcksSent Data, Ok answer.Done)
      ∷ (event.Received Data 6 1 true, Ok (answer.New false))
      ∷ (event.Received Data 5 0 true, Ok answer.Duplicate)
      ∷ (event.Received Data 0 0 true, Ok (answer.New true))
      ∷ []

  arrivals_told : TellsAll arrivals
  arrivals_told =
      tt
      ⊳ (unrefused, (small refl, (inl (λ m came. absurd came), starts (at_first (in_turn 0 0 None (omega arith))))))
      ⊳ (unrefused, (small refl, came_again 0 (inl refl)))
      ⊳ (
        unrefused,
        (
          small refl,
          (
            inl (λ m came. grind (arith, came)),
            stays (λ all. all.1 (0, inr (refl, at_first (in_turn 0 0 None (omega arith))))),
          ),
        ),
      )
      ⊳ (unrefused, refl)
      ⊳ (unrefused, omega arith)

  -- ---- each space has numbers of its own; one that leaves a gap requires an ACK at once

  abbrev in_spaces : RowHistory
  in_spaces =
      (event.Received Handshake 0 4 true, Ok (answer.New false))
      ∷ (event.Received Handshake 0 3 false, Ok (answer.New false))
      ∷ (event.Received Initial 0 1 true, Ok (answer.New true))
      ∷ (event.Received Data 0 7 true, Ok (answer.New false))
      ∷ []

  in_spaces_told : TellsAll in_spaces
  in_spaces_told =
      tt
      ⊳ (
        unrefused,
        (
          small refl,
          (inl (λ m came. absurd came), leaves_a_gap (omega arith) (λ c. grind (arith, c)) (λ m c. grind (arith, c))),
        ),
      )
      ⊳ (unrefused, (small refl, (inl (λ m came. absurd came), starts (at_first (in_turn 0 1 None (omega arith))))))
      ⊳ (unrefused, (small refl, (inl (λ m came. absurd came), stays (λ all. unrefused all.0))))
      ⊳ (
        unrefused,
        (
          small refl,
          (
            inl (λ m c. grind (arith, c)),
            leaves_a_gap (omega arith) (λ c. grind (arith, c)) (λ m c. grind (arith, c)),
          ),
        ),
      )

  -- ---- the window ends 128 below the largest number

  abbrev window : RowHistory
  window =
      (event.Received Data 0 172 false, Ok answer.Duplicate)
      ∷ (event.Received Data 0 172 false, Ok (answer.New false))
      ∷ (event.Received Data 0 171 false, Ok answer.Duplicate)
      ∷ (event.Received Data 0 300 false, Ok (answer.New false))
      ∷ []

  window_told : TellsAll window
  window_told =
      tt
      ⊳ (unrefused, (small refl, (inl (λ m came. absurd came), stays (λ all. unrefused all.0))))
      ⊳ (unrefused, (small refl, too_old 300 (inl refl) (omega arith)))
      ⊳ (
        unrefused,
        (
          small refl,
          (inr (λ c. grind (arith, c), λ m c. grind (arith, c)), stays (λ all. unrefused all.0)),
        ),
      )
      ⊳ (unrefused, (small refl, came_again 172 (inl refl)))

  -- ---- ACK_FREQUENCY: an ACK for four packets, and a reordering threshold of 2

  abbrev asked : RowHistory
  asked =
      (event.AcksSent Data, Ok answer.Done)
      ∷ (event.Received Data 2 2 true, Ok (answer.New false))
      ∷ (event.Received Data 1 1 true, Ok (answer.New false))
      ∷ (event.Received Data 0 0 true, Ok (answer.New true))
      ∷ (event.AckFrequencyIn (ack_frame 0 1000), Ok (answer.Flag true))
      ∷ []

  asked_told : TellsAll asked
  asked_told =
      tt
      ⊳ (unrefused, (λ h. omega (arith, h.1), (λ on s. s, λ n. refl)))
      ⊳ (unrefused, (small refl, (inl (λ m came. absurd came), starts (at_first (patient 0)))))
      ⊳ (
        unrefused,
        (
          small refl,
          (inl (λ m c. grind (arith, c)), stays (λ all. all.1 (0, inr (refl, at_first (patient 0))))),
        ),
      )
      ⊳ (
        unrefused,
        (
          small refl,
          (inl (λ m c. grind (arith, c)), stays (λ all. all.1 (0, inl (inr (refl, at_first (patient 0)))))),
        ),
      )
      ⊳ (unrefused, refl)

  -- 3 is missing, two below 5 but one below 4
  reordered : RowTold asked (event.Received Data 3 5 true) (Ok (answer.New false))
  reordered = (
    unrefused,
    (
      small refl,
      (
        inl (λ m came. grind (arith, came)),
        stays (λ all. all.2 (inr (inr (inr (
          omega arith,
          (
            omega arith,
            (
              3,
              (
                omega arith,
                omega arith,
                (λ c. grind (arith, c), λ m c. grind (arith, c)),
                λ m low high missing.
                    elim (eq-or-lt_of_le low) [ inl two ↦ absurd (missing.0 (inr (inl (sym two)))) | inr more ↦ more ],
              ),
              omega arith,
            ),
          ),
        ))))),
      ),
    ),
  )

  near_enough : RowTold asked (event.Received Data 3 4 true) (Ok (answer.New true))
  near_enough = (
    unrefused,
    (
      small refl,
      (inl (λ m c. grind (arith, c)), starts (calm (λ s. s.1) (λ r. r) (not_far (inr (inl refl))))),
    ),
  )

  -- ---- wrong answers

  one_too_large_is_wrong : ¬ RowTold (drop 1 arrivals) (event.Received Data 7 (2 ^ 62) true) (Ok (answer.New true))
  one_too_large_is_wrong = λ told. told.1.0 (omega arith)

  largest_is_refused_is_wrong : ¬ RowTold (drop 1 arrivals) (event.Received Data 7 (2 ^ 62 - 1) true)
      (Err refusal.NumberTooLarge)
  largest_is_refused_is_wrong = λ told. omega (arith, told.1)

  first_is_no_duplicate : ¬ RowTold [] (event.Received Data 0 0 true) (Ok answer.Duplicate)
  first_is_no_duplicate = λ told. told.1.1 (inl (λ m came. absurd came))

  first_starts_the_timer : ¬ RowTold [] (event.Received Data 0 0 true) (Ok (answer.New false))
  first_starts_the_timer = λ told. unrefused (told.1.1.1.1 (at_first (in_turn 0 0 None (omega arith))))

  second_does_not : ¬ RowTold (drop 3 arrivals) (event.Received Data 6 1 true) (Ok (answer.New true))
  second_does_not = λ told. (told.1.1.1.0 refl).1 (0, inr (refl, at_first (in_turn 0 0 None (omega arith))))

  again_is_not_new : ¬ RowTold (drop 4 arrivals) (event.Received Data 5 0 true) (Ok (answer.New false))
  again_is_not_new = λ told. came_again 0 (inl refl) told.1.1.0

  too_old_is_not_new : ¬ RowTold (drop 3 window) (event.Received Data 0 171 false) (Ok (answer.New false))
  too_old_is_not_new = λ told. too_old 300 (inl refl) (omega arith) told.1.1.0

  -- an allocation may fail for a new number, and a duplicate allocates nothing
  new_takes_memory : RowTold [] (event.Received Data 0 0 true) (Err refusal.NoMemory)
  new_takes_memory = (unrefused, (small refl, inl (λ m came. absurd came)))

  duplicate_takes_none : ¬ RowTold (drop 4 arrivals) (event.Received Data 5 0 true) (Err refusal.NoMemory)
  duplicate_takes_none = λ told. came_again 0 (inl refl) told.1.1

  acks_sent_is_done : ¬ RowTold [] (event.AcksSent Data) (Ok (answer.Flag true))
  acks_sent_is_done = λ told. unlike told.1 refl

  open_space_is_refused_is_wrong : ¬ RowTold [] (event.AcksSent Data) (Err refusal.SpaceDiscarded)
  open_space_is_refused_is_wrong = unrefused
