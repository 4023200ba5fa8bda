-- Worked rows of the promises on skipped numbers, on packets that are rejected, and on non-ack-eliciting ones that are
-- forgotten, computed: with the right answer each holds, and with a wrong one it does not. Nothing rests on them.
use Rattle.std.proofs.lemmas.Bool.Decides.{nat_tests}
use Rattle.std.proofs.lemmas.List.{length-append}
use Rattle.std.proofs.Common.{◌≡◌, ◌≤◌, ◌+◌, ◌-◌, ◌^◌, ℕ, zero, suc, Bool, true, false, List, [], ◌∷◌, ◌++◌, length, None, Some, Ok, Err, inl, inr, refl, ap, ◌∙◌, arith, add-one}
use Rattle.recovery_base.specs.declared.below.SpaceId.TheVariants.{Initial, Data}
use Rattle.recovery_packet_numbers.specs.declared.filter.Skips.TheVariants.{Disabled}
use Rattle.recovery_events.specs.declared.event.Event.{Event}
use Rattle.recovery_events.specs.declared.event.Event.TheVariants as event
use Rattle.recovery_events.specs.declared.event.Answer.TheVariants as answer
use Rattle.recovery_events.specs.declared.event.Refusal.TheVariants as refusal
use Rattle.recovery_history.specs.History.{Beginning, History, Reply}
use Rattle.recovery_history.specs.Promises.Fates.{times, is_given}
use Rattle.recovery_history.specs.Promises.Forgotten.{oldest, silent_since, ForgetsOldestNonEliciting}
use Rattle.recovery_history.specs.Promises.Sends.{SendsOrRejects}
use Rattle.recovery_history.specs.Promises.Skipped.{IsNextNumber, WasSkipped, RejectsSkippedAcks}
use Rattle.recovery_history.specs.Promises.Unskipped.{SkipsNoNumbers}

module _ (Q S M P : Type 0) (queue : Q) (frames : M) where
  abbrev send : ℕ → Bool → Event Q S M P
  send size eliciting = event.Send Data 4 size eliciting None queue frames

  abbrev sent : ℕ → Event Q S M P × Reply Q
  sent n = (send 1200 true, Ok (answer.Sent n None))

  -- ---- of 1-RTT packets 0, 2, 3 and 5 were assigned: 1 and 4 were skipped

  abbrev past : History Q S M P
  past = sent 5 ∷ (event.PollMtu 3, Ok (answer.Probe 3 1400)) ∷ sent 2 ∷ sent 0 ∷ []

  none_behind : (n : ℕ) → 6 ≤ n → times (is_given Data n) past ≡ 0
  none_behind = λ n above. grind (arith, nat_tests, above)

  one_skipped : WasSkipped Data 1 past
  one_skipped = (refl, (5, omega arith, omega arith))

  four_skipped : WasSkipped Data 4 past
  four_skipped = (refl, (5, omega arith, omega arith))

  four_is_last : (m : ℕ) → WasSkipped Data m past → m ≤ 4
  four_is_last m was =
      let later = was.1.0 in
      let none = none_behind later in
      let below = was.1.1 in
      let some = was.1.2 in
      grind (arith, none, below, some)

  it_is_refused : RejectsSkippedAcks past (event.CheckAck Data 3 5) (Err refusal.SkippedAcked)
  it_is_refused = (omega arith, (4, four_skipped, four_is_last, omega arith, omega arith))

  it_is_not_taken : ¬ RejectsSkippedAcks past (event.CheckAck Data 3 5) (Ok answer.Done)
  it_is_not_taken = λ told. told.3 (4, four_skipped, four_is_last, omega arith, omega arith)

  -- 1 is before the last one
  one_is_taken : RejectsSkippedAcks past (event.CheckAck Data 0 3) (Ok answer.Done)
  one_is_taken = (
    refl,
    omega arith,
    omega arith,
    λ holds. (let up = holds.2 4 four_skipped in let to = holds.4 in omega (arith, up, to)),
  )

  behind_it_is_not_refused : ¬ RejectsSkippedAcks past (event.CheckAck Data 5 9) (Err refusal.SkippedAcked)
  behind_it_is_not_refused = λ told.
      let down = four_is_last told.1.0 told.1.1 in let from = told.1.3 in omega (arith, down, from)

  no_other_space_is_refused : ¬ RejectsSkippedAcks past (event.CheckAck Initial 0 9) (Err refusal.SkippedAcked)
  no_other_space_is_refused = λ told. let was = told.1.1 in let some = was.1.2 in omega (arith, some)

  no_range : RejectsSkippedAcks past (event.CheckAck Data 5 4) (Err refusal.BadRange)
  no_range = (omega arith, omega arith)

  large_is_not_a_bad_range : ¬ RejectsSkippedAcks past (event.CheckAck Data (2 ^ 62 + 1) (2 ^ 62))
      (Err refusal.BadRange)
  large_is_not_a_bad_range = λ told. let small = told.0 in omega (arith, small)

  -- ---- 6 is sent next, or 7, and then 6 is skipped

  not_five : (m : ℕ) → ((n : ℕ) → m ≤ n → times (is_given Data n) past ≡ 0) → 6 ≤ m
  not_five m above = let five = above 5 in grind (arith, nat_tests, five)

  six_is_next : IsNextNumber Data 6 past
  six_is_next = (none_behind, λ m above less. (let up = not_five m above in absurd (omega (arith, up, less))))

  seven_skips_six : IsNextNumber Data 7 past
  seven_skips_six = (
    λ n above. none_behind n (omega (arith, above)),
    λ m above less. (let up = not_five m above in (refl, omega (arith, up, less))),
  )

  eight_skips_two : ¬ IsNextNumber Data 8 past
  eight_skips_two = λ next. let is = (next.1 6 none_behind (omega arith)).1 in omega (arith, is)

  five_again : ¬ IsNextNumber Data 5 past
  five_again = λ next. let none = next.0 5 (omega arith) in omega (arith, none)

  none_skipped_elsewhere : ¬ IsNextNumber Initial 1 past
  none_skipped_elsewhere = λ next. let is = (next.1 0 (λ m above. refl) (omega arith)).0 in cc

  -- ---- packets that are rejected: 1200, 1400, 1200 and 1200 bytes are in flight, and four ack-eliciting packets

  numbers_are_left : ¬ SendsOrRejects past (send 1200 true) (Err refusal.NumbersExhausted)
  numbers_are_left = λ told.
      let none = told.1 in
      let many = none.2 in
      let is = (none.1.1 6 none_behind (omega (arith, many))).1 in omega (arith, is, many)

  polls_too : ¬ SendsOrRejects past (event.PollMtu 9) (Err refusal.NumbersExhausted)
  polls_too = λ none.
      let many = none.2 in
      let is = (none.1.1 6 none_behind (omega (arith, many))).1 in omega (arith, is, many)

  it_overflows : SendsOrRejects past (send (2 ^ 64 - 5000) true) (Err refusal.Overflow)
  it_overflows = (λ large. large, inl (omega arith))

  it_fits : SendsOrRejects past (send (2 ^ 64 - 5001) true) (Ok (answer.Sent 6 None))
  it_fits = (λ large. large, λ over. elim over [ inl many ↦ omega (arith, many) | inr often ↦ omega (arith, often) ])

  it_does_not_overflow : ¬ SendsOrRejects past (send 1200 true) (Err refusal.Overflow)
  it_does_not_overflow = λ told. elim told.1 [ inl many ↦ omega (arith, many) | inr often ↦ omega (arith, often) ]

  too_large : SendsOrRejects past (event.Send Data 4 9 true (Some (2 ^ 62)) queue frames) (Err refusal.NumberTooLarge)
  too_large = omega arith

  no_other_cause : ¬ SendsOrRejects past (send 1200 true) (Err refusal.NotTracked)
  no_other_cause = λ told. told

  -- ---- non-ack-eliciting packets: the first of them, up to a count; no abbreviation, so that 1001 of them are not
  -- written out

  silents : ℕ → History Q S M P
  silents zero = []
  silents (suc n) = (send 40 false, Ok (answer.Sent n None)) ∷ silents n

  abbrev since : ℕ → List ℕ
  since n = silent_since Data (λ m. false) (silents n)

  as_many : (n : ℕ) → length (since n) ≡ n
  unfolding silents
  as_many zero = refl
  as_many (suc n) = length-append (since n) (n ∷ []) ∙ (ap (λ k. k + 1) (as_many n) ∙ add-one n)

  behind_one : (n : ℕ) (earlier : List ℕ) → oldest earlier ≡ Some 0 → oldest (earlier ++ n ∷ []) ≡ Some 0
  behind_one n [] is = cc
  behind_one n (m ∷ earlier) is = is

  zero_first : (n : ℕ) → oldest (since (suc n)) ≡ Some 0
  unfolding silents
  zero_first zero = refl
  zero_first (suc n) = behind_one (suc n) (since (suc n)) (zero_first n)

  zero_is_forgotten : ForgetsOldestNonEliciting (silents 1001) (send 40 false) (Ok (answer.Sent 1001 (Some 0)))
  zero_is_forgotten = rw (as_many 1001, zero_first 1000) refl

  one_is_not_forgotten : ¬ ForgetsOldestNonEliciting (silents 1001) (send 40 false) (Ok (answer.Sent 1001 (Some 1)))
  one_is_not_forgotten = λ told. let is = rw (as_many 1001, zero_first 1000) at told in cc

  none_of_a_thousand : ForgetsOldestNonEliciting (silents 1000) (send 40 false) (Ok (answer.Sent 1000 None))
  none_of_a_thousand = rw (as_many 1000) refl

  -- for an ack-eliciting packet none is forgotten, and none that is ack-eliciting is
  none_for_it : ForgetsOldestNonEliciting (silents 1001) (send 40 true) (Ok (answer.Sent 1001 None))
  none_for_it = refl

  eliciting_is_not_forgotten : ¬ ForgetsOldestNonEliciting (sent 0 ∷ []) (send 40 false) (Ok (answer.Sent 1 (Some 0)))
  eliciting_is_not_forgotten = λ told. cc

-- ---- if skipping is disabled: 0 was sent

module _ {F K Q S M P : Type 0} (beginning : Beginning F K Q S M P) (queue : Q) (frames : M) where
  abbrev zero_sent : History Q S M P
  zero_sent = sent Q S M P queue frames 0 ∷ []

  above_zero : (n : ℕ) → 1 ≤ n → times (is_given Data n) zero_sent ≡ 0
  above_zero = λ n above. grind (arith, nat_tests, above)

  one_goes : SkipsNoNumbers beginning zero_sent (send Q S M P queue frames 1200 true) (Ok (answer.Sent 1 None))
  one_goes = λ none space number goes m above. (let zero = above 0 in grind (arith, nat_tests, goes, zero))

  two_skips_one : beginning.config.skips ≡ Disabled
      → ¬ SkipsNoNumbers beginning zero_sent (send Q S M P queue frames 1200 true) (Ok (answer.Sent 2 None))
  two_skips_one = λ none skips. let small = skips none Data 2 refl 1 above_zero in omega (arith, small)
