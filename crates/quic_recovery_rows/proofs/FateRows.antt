-- Worked rows of the promises that each number has one outcome and that numbers increase, computed: in a right history
-- each number has one, and in a wrong one some does not. Nothing rests on them.
use Rattle.std.proofs.Common.{◌≡◌, ◌^◌, ◌≤◌, ℕ, true, false, [], ◌∷◌, None, Some, Ok, Err, refl, arith}
use Rattle.std.proofs.lemmas.Bool.Decides.{nat_tests}
use Rattle.recovery_base.specs.declared.below.SpaceId.TheVariants.{Initial, Data}
use Rattle.recovery_events.specs.declared.event.Event.TheVariants as event
use Rattle.recovery_events.specs.declared.event.Answer.TheVariants as answer
use Rattle.recovery_events.specs.declared.event.Refusal.TheVariants as refusal
use Rattle.recovery_history.specs.History.{History}
use Rattle.recovery_history.specs.Promises.Fates.{times, fates, is_given, HaveOneOutcome}
use Rattle.recovery_history.specs.Promises.Increasing.{NumbersIncrease}

module _ (Q S M P : Type 0) (queue : Q) (frames : M) where
  -- of 1-RTT packets 0 was forgotten, 1 lost, 2 is an MTU probe; 0 of Initial ones was discarded with its space
  abbrev past : History Q S M P
  past =
      (event.DiscardSpace Initial, Ok answer.Done)
      ∷ (event.Send Initial 9 1200 true None queue frames, Ok (answer.Sent 0 None))
      ∷ (event.Send Data 8 100 false None queue frames, Ok (answer.Sent 3 (Some 0)))
      ∷ (event.Acked Data 7 1 false, Err refusal.NotTracked)
      ∷ (event.Lost Data 1, Ok (answer.Lost false))
      ∷ (event.PollMtu 6, Ok (answer.Probe 2 1400))
      ∷ (event.Send Data 5 1200 true None queue frames, Ok (answer.Sent 1 None))
      ∷ (event.Send Data 4 100 false None queue frames, Ok (answer.Sent 0 None))
      ∷ []

  forgotten : fates Data 0 past ≡ 1
  forgotten = refl

  lost : fates Data 1 past ≡ 1
  lost = refl

  tracked : fates Data 2 past ≡ 1
  tracked = refl

  discarded : fates Initial 0 past ≡ 1
  discarded = refl

  given : times (is_given Data 2) past ≡ 1
  given = refl

  not_yet : fates Data 4 past ≡ 0
  not_yet = refl

  not_given_yet : times (is_given Data 4) past ≡ 0
  not_given_yet = refl

  -- no number twice, and no other outcome
  given_again : ¬ HaveOneOutcome ((event.PollMtu 10, Ok (answer.Probe 3 1400)) ∷ past)
  given_again = λ e. let twice = (e Data 3).0 in omega (arith, twice)

  lost_and_acked : ¬ HaveOneOutcome ((event.Acked Data 10 1 false, Ok (answer.Acked false)) ∷ past)
  lost_and_acked = λ e. let two = (e Data 1).1 in omega (arith, two)

  forgotten_and_lost : ¬ HaveOneOutcome ((event.Lost Data 0, Ok (answer.Lost false)) ∷ past)
  forgotten_and_lost = λ e. let two = (e Data 0).1 in omega (arith, two)

  never_given : ¬ HaveOneOutcome ((event.Lost Data 4, Ok (answer.Lost false)) ∷ past)
  never_given = λ e. let one = (e Data 4).1 in omega (arith, one)

  discarded_and_lost : ¬ HaveOneOutcome ((event.Lost Initial 0, Ok (answer.Lost false)) ∷ past)
  discarded_and_lost = λ e. let two = (e Initial 0).1 in omega (arith, two)

  forgets_itself : ¬ HaveOneOutcome ((event.Send Data 10 100 false None queue frames, Ok (answer.Sent 4 (Some 4))) ∷
      past)
  forgets_itself = λ e. let two = (e Data 4).1 in omega (arith, two)

  -- ---- numbers increase: 0 to 3 were assigned, of Initial ones only 0

  behind_its_own : (n : ℕ) → 1 ≤ n → times (is_given Initial n) past ≡ 0
  behind_its_own = λ n above. grind (arith, nat_tests, above)

  behind_the_last : (n : ℕ) → 4 ≤ n → times (is_given Data n) past ≡ 0
  behind_the_last = λ n above. grind (arith, nat_tests, above)

  the_last_again : ¬ NumbersIncrease past (event.PollMtu 10) (Ok (answer.Probe 3 1400))
  the_last_again = λ rises. let none = (rises Data 3 refl).1 3 (omega arith) in omega (arith, none)

  falling : ¬ NumbersIncrease past (event.Send Data 10 9 true None queue frames) (Ok (answer.Sent 2 None))
  falling = λ rises. let none = (rises Data 2 refl).1 3 (omega arith) in omega (arith, none)

  too_large : ¬ NumbersIncrease past (event.PollMtu 10) (Ok (answer.Probe (2 ^ 62) 1400))
  too_large = λ rises. let small = (rises Data (2 ^ 62) refl).0 in omega (arith, small)

  -- a rejected packet has no number
  refused_one : NumbersIncrease past (event.PollMtu 10) (Err refusal.NumbersExhausted)
  refused_one = λ space number goes. cc
