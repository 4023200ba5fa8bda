-- Worked rows of the table of replies, computed: required ACKs, delayed ACKs, ECN, and acknowledged ranges. Nothing
-- rests on them.
use Rattle.std.proofs.Common.{ltb-true, ◌≡◌, ℕ, ◌≤◌, ◌^◌, true, false, List, [], ◌∷◌, drop, None, Some, Ok, Err, IsSomeAnd, refl, arith, inl, inr, sym, subst, ap, codes, length, unwrap_or, Bor, if◌then◌else◌}
use Rattle.std.specs.declared.net.socket_addr.SocketAddr.{SocketAddr}
use Rattle.rand_core.specs.Stream.{Stream}
use Rattle.recovery_base.specs.declared.below.SpaceId.TheVariants.{Initial, Data}
use Rattle.recovery_packet_numbers.specs.declared.filter.Skips.TheVariants.{Disabled, Starting}
use Rattle.recovery_packet_numbers.specs.Skips.{skip_before}
use Rattle.recovery_packet_numbers.proofs.SkipLaws.{behind_not_skipped}
use Rattle.recovery_events.specs.declared.event.Event.TheVariants as event
use Rattle.recovery_events.specs.declared.event.Answer.TheVariants as answer
use Rattle.recovery_events.specs.declared.event.Refusal.TheVariants as refusal
use Rattle.recovery_history.specs.RepliesAfter.{RepliesAfter}
use Rattle.quic_recovery_rows.proofs.RowStart.{ack_frame, RowEvent, RowReply, RowHistory, row_start, AllTold, ◌⊳◌}
use Rattle.quic_recovery_rows.proofs.RowLaws.{unrefused, small, fits, calm, at_first, starts, stays, in_turn, one_run, unlike, uneven, some_is_none}

module _ (remote : SocketAddr) (random : Stream) where
  abbrev RowTold : RowHistory → RowEvent → RowReply → Type 0
  RowTold = RepliesAfter (row_start remote random 8 Disabled)

  abbrev TellsAll : RowHistory → Type 0
  TellsAll = AllTold (row_start remote random 8 Disabled)

  -- ---- a request for less than a millisecond fails, and its number is stored

  abbrev requests : RowHistory
  requests =
      (event.AckFrequencyIn (ack_frame 6 2000), Ok (answer.Flag true))
      ∷ (event.AckFrequencyIn (ack_frame 5 2000), Ok (answer.Flag false))
      ∷ (event.AckFrequencyIn (ack_frame 5 500), Err refusal.DelayTooSmall)
      ∷ []

  requests_told : TellsAll requests
  requests_told =
      tt
      ⊳ (unrefused, (λ s. s, omega arith))
      ⊳ (unrefused, (λ h. h.0 (omega arith), stays (λ n. n (omega arith))))
      ⊳ (unrefused, (λ h. omega (arith, h.1), starts (λ s. omega (arith, s))))

  refused_number_is_kept : ¬ RowTold (drop 2 requests) (event.AckFrequencyIn (ack_frame 5 2000)) (Ok (answer.Flag true))
  refused_number_is_kept = λ told. told.1.1.0 refl (omega arith)

  half_a_millisecond_is_not_taken : ¬ RowTold [] (event.AckFrequencyIn (ack_frame 5 500)) (Ok (answer.Flag true))
  half_a_millisecond_is_not_taken = λ told. told.1.0 (λ s. s, omega arith)

  stale_is_not_refused : ¬ RowTold (drop 2 requests) (event.AckFrequencyIn (ack_frame 5 500))
      (Err refusal.DelayTooSmall)
  stale_is_not_refused = λ told. told.1.0 (omega arith)

  -- ---- a delayed ACK: its timer expires, and a probe may be sent with it

  abbrev late : RowHistory
  late =
      (event.QueueProbe Data false tt, Ok (answer.Sendable (record { acks = false; other = true })))
      ∷ (event.Received Data 0 2 true, Ok (answer.New true))
      ∷ (event.AckDelayTimeout Data, Ok answer.Done)
      ∷ (event.AcksSent Data, Ok answer.Done)
      ∷ (event.QueueProbe Data false tt, Ok (answer.Sendable (record { acks = true; other = true })))
      ∷ (event.Received Data 0 1 true, Ok (answer.New false))
      ∷ (event.AckDelayTimeout Data, Ok answer.Done)
      ∷ (event.Received Data 0 0 true, Ok (answer.New true))
      ∷ []

  late_told : TellsAll late
  late_told =
      tt
      ⊳ (unrefused, (small refl, (inl (λ m came. absurd came), starts (at_first (in_turn 0 0 None (omega arith))))))
      ⊳ (unrefused, refl)
      ⊳ (unrefused, (small refl, (inl (λ m came. grind (arith, came)), stays (λ all. all.2 (inl (omega arith))))))
      ⊳ (
        unrefused,
        (
          starts (
            inl (omega arith),
            (
              1,
              (
                inl refl,
                one_run _ 1 (λ m end.
                    elim end.1.0 [ inl one ↦ one | inr old ↦ absurd (grind (arith, old.0, end.0)) ]),
              ),
            ),
          ),
          refl,
        ),
      )
      ⊳ (unrefused, refl)
      ⊳ (unrefused, refl)
      ⊳ (
        unrefused,
        (
          small refl,
          (
            inl (λ m came. grind (arith, came)),
            starts (calm (λ s. s.1) (λ r. omega (arith, r)) (in_turn 1 1 (Some 1) (omega arith))),
          ),
        ),
      )
      ⊳ (
        unrefused,
        (
          stays (λ all. elim all.0 [ inl r ↦ omega (arith, r) | inr a ↦ in_turn 1 1 (Some 1) (omega arith) a.1 ]),
          refl,
        ),
      )

  late_is_done : ¬ RowTold [] (event.AckDelayTimeout Data) (Ok (answer.Flag true))
  late_is_done = λ told. unlike told.1 refl

  no_ack_is_wrong : ¬ RowTold (drop 4 late) (event.QueueProbe Data false tt)
      (Ok (answer.Sendable (record { acks = false; other = true })))
  no_ack_is_wrong = λ told. unrefused (told.1.0.1 (
    inl (omega arith),
    (
      1,
      (
        inl refl,
        one_run _ 1 (λ m end.
            elim end.1.0 [ inl one ↦ one | inr old ↦ absurd (grind (arith, old.0, end.0)) ]),
      ),
    ),
  ))

  -- ---- if the peer knows the ACK, none waits

  abbrev known : RowHistory
  known =
      (event.QueueProbe Data false tt, Ok (answer.Sendable (record { acks = false; other = true })))
      ∷ (event.Acked Data 0 0 false, Ok (answer.Acked false))
      ∷ (event.Send Data 0 1 true (Some 0) [] tt, Ok (answer.Sent 0 None))
      ∷ (event.AckDelayTimeout Data, Ok answer.Done)
      ∷ (event.Received Data 0 0 true, Ok (answer.New true))
      ∷ []

  known_told : TellsAll known
  known_told =
      tt
      ⊳ (unrefused, (small refl, (inl (λ m came. absurd came), starts (at_first (in_turn 0 0 None (omega arith))))))
      ⊳ (unrefused, refl)
      ⊳ (unrefused, (small refl, (small refl, (fits refl refl, refl))))
      ⊳ (unrefused, (some_is_none, refl))
      ⊳ (
        unrefused,
        (
          stays (λ all.
              elim all.1.1.0.0 [
                | inl zero ↦ (let above = ltb-true 0 all.1.0 all.1.1.1 in omega (arith, zero, above))
                | inr none ↦ none
              ]),
          refl,
        ),
      )

  -- ---- the second ack-eliciting packet requires one at once

  abbrev twice : RowHistory
  twice =
      (event.QueueProbe Data false tt, Ok (answer.Sendable (record { acks = true; other = true })))
      ∷ (event.Received Data 1 1 true, Ok (answer.New false))
      ∷ (event.Received Data 0 0 true, Ok (answer.New true))
      ∷ []

  twice_told : TellsAll twice
  twice_told =
      tt
      ⊳ (unrefused, (small refl, (inl (λ m came. absurd came), starts (at_first (in_turn 0 0 None (omega arith))))))
      ⊳ (
        unrefused,
        (
          small refl,
          (
            inl (λ m c. grind (arith, c)),
            stays (λ all. all.1 (0, inr (refl, at_first (in_turn 0 0 None (omega arith))))),
          ),
        ),
      )
      ⊳ (
        unrefused,
        (
          starts (
            inr (refl, inl (omega arith)),
            (
              1,
              (
                inl refl,
                one_run _ 1 (λ m end.
                    elim end.1.0 [ inl one ↦ one | inr old ↦ absurd (grind (arith, old.0, end.0)) ]),
              ),
            ),
          ),
          refl,
        ),
      )

  -- ---- ECN counts

  abbrev ecn : ℕ → ℕ → ℕ → ℕ → RowEvent
  ecn newly ect0 ect1 ce = event.Ecn Data newly (record { ect0 = ect0; ect1 = ect1; ce = ce })

  abbrev text : List ℕ → Bor (List ℕ)
  text words = record { ref_ptr = (0, 0); now = words }

  abbrev marked : RowHistory
  marked =
      (ecn 1 2 0 1, Ok (answer.Flag true))
      ∷ (ecn 1 2 1 0, Err (refusal.Ecn (text (codes "ECN corruption"))))
      ∷ (ecn 3 4 0 0, Err (refusal.Ecn (text (codes "ECN bleaching"))))
      ∷ (ecn 1 1 0 0, Err (refusal.Ecn (text (codes "peer ECT(0) count regression"))))
      ∷ (ecn 2 2 0 0, Ok (answer.Flag false))
      ∷ []

  marked_told : TellsAll marked
  marked_told =
      tt
      ⊳ (unrefused, (refl, refl))
      ⊳ (unrefused, refl)
      ⊳ (unrefused, refl)
      ⊳ (unrefused, refl)
      ⊳ (unrefused, (refl, refl))

  corrupted_is_kept_is_wrong : ¬ RowTold (drop 2 marked) (ecn 1 2 1 0) (Ok (answer.Flag false))
  corrupted_is_kept_is_wrong = λ told. some_is_none told.1.0

  bleached_is_wrong : ¬ RowTold (drop 2 marked) (ecn 1 2 1 0) (Err (refusal.Ecn (text (codes "ECN bleaching"))))
  bleached_is_wrong = λ told. let same : 14 ≡ 13 =
      ap (λ words. length (unwrap_or words [])) told.1 in omega (arith, same)

  more_marks_is_no_is_wrong : ¬ RowTold (drop 1 marked) (ecn 1 2 0 1) (Ok (answer.Flag false))
  more_marks_is_no_is_wrong = λ told. unlike told.1.1 refl

  -- ---- ranges of acknowledged numbers, first with no skips

  abbrev ranges : RowHistory
  ranges =
      (event.CheckAck Data 0 (2 ^ 62), Err refusal.NumberTooLarge)
      ∷ (event.CheckAck Data 9 8, Err refusal.BadRange)
      ∷ (event.CheckAck Data 0 9, Ok answer.Done)
      ∷ []

  ranges_told : TellsAll ranges
  ranges_told =
      tt
      ⊳ (unrefused, (small refl, (small refl, (λ h. h, refl))))
      ⊳ (unrefused, (small refl, omega arith))
      ⊳ (unrefused, omega arith)

  backwards_is_wrong : ¬ RowTold [] (event.CheckAck Data 9 8) (Ok answer.Done)
  backwards_is_wrong = λ told. told.1.1.0 (omega arith)

  none_is_skipped : ¬ RowTold [] (event.CheckAck Data 0 0) (Err refusal.SkippedAcked)
  none_is_skipped = λ told. told.1.1.1

  -- the first number is skipped: that shows after the number following it was assigned

  abbrev SkipsTells : RowHistory → RowEvent → RowReply → Type 0
  SkipsTells = RepliesAfter (row_start remote random 8 (Starting 0))

  zero_was_skipped : skip_before (Starting 0) random 2 ≡ Some 0
  zero_was_skipped = ap (λ b. if b then Some 1 else Some 0) (behind_not_skipped (Starting 0) random 0 refl)

  -- the reply if it is the last skip
  holds_zero : IsSomeAnd (skip_before (Starting 0) random 2) (λ s. (0 ≤ s) × (s ≤ 0))
  holds_zero = subst (λ last. IsSomeAnd last (λ s. (0 ≤ s) × (s ≤ 0))) (sym zero_was_skipped) (omega arith, omega arith)

  abbrev skipped : RowHistory
  skipped =
      (event.CheckAck Initial 0 0, Ok answer.Done)
      ∷ (event.CheckAck Data 0 0, Err refusal.SkippedAcked)
      ∷ (event.Send Data 0 1 true None [] tt, Ok (answer.Sent 1 None))
      ∷ (event.CheckAck Data 0 0, Ok answer.Done)
      ∷ []

  skipped_told : AllTold (row_start remote random 8 (Starting 0)) skipped
  skipped_told =
      tt
      ⊳ (unrefused, (small refl, (small refl, (λ h. h, refl))))
      ⊳ (unrefused, (λ h. h, (small refl, (fits refl refl, refl))))
      ⊳ (unrefused, (small refl, (small refl, holds_zero)))
      ⊳ (unrefused, (small refl, (small refl, (λ h. h, refl))))

  skipped_is_given_is_wrong : ¬ SkipsTells [] (event.Send Data 0 1 true None [] tt) (Ok (answer.Sent 0 None))
  skipped_is_given_is_wrong = λ told. uneven told.1.1.1.1 refl

  skipped_passes_is_wrong : ¬ SkipsTells (drop 2 skipped) (event.CheckAck Data 0 0) (Ok answer.Done)
  skipped_passes_is_wrong = λ told. told.1.1.1.0 holds_zero
