-- Worked rows of what is in flight, of ACK delays and of what is sent, computed: with the right log each promise holds,
-- and with a wrong one it does not. Nothing rests on them.
use Rattle.std.proofs.Common.{◌≡◌, ℕ, true, false, [], ◌∷◌, Option, None, Some, Ok, refl, arith}
use Rattle.std.specs.Prelude.{if◌then◌else◌, nat_eq}
use Rattle.std.specs.Set.{is_member}
use Rattle.std.specs.Global.{Vec}
use Rattle.recovery_base.specs.declared.below.SpaceId.TheVariants.{Data, Initial}
use Rattle.recovery_sender.specs.declared.sender.acks.Acknowledged.{Acknowledged}
use Rattle.recovery_sender.specs.declared.sender.losses.Losses.{Losses}
use Rattle.recovery_sender.specs.declared.sender.probes.Timeout.TheVariants.{Lost}
use Rattle.recovery_pair.specs.declared.steps.AckOutcome.{AckOutcome}
use Rattle.recovery_pair.specs.declared.steps.AckOutcome.TheVariants.{Taken}
use Rattle.recovery_pair.specs.declared.steps.End.TheVariants.{Client, Server}
use Rattle.recovery_pair.specs.declared.steps.Fate.TheVariants.{New}
use Rattle.recovery_pair.specs.declared.steps.LocalStep.TheVariants.{Discard, Expire, Hand}
use Rattle.recovery_pair.specs.declared.steps.PairAnswer.TheVariants.{Arrived, Done, Expired, Nothing, Sent}
use Rattle.recovery_pair.specs.declared.steps.PairStep.TheVariants.{Arrive, Local, Send}
use Rattle.recovery_pair.specs.declared.steps.SentAck.{SentAck}
use Rattle.recovery_pair.specs.Flights.{flight}
use Rattle.recovery_pair.specs.Logs.{PairEvent, PairLog}
use Rattle.recovery_pair.specs.Promises.Delays.{ReportsDelay}
use Rattle.recovery_pair.specs.Promises.Excess.{ExceedsByProbes}
use Rattle.recovery_pair.specs.Promises.LargestAcked.{AcksLargest}
use Rattle.recovery_pair.specs.Promises.Sends.{SendsWhatWaits}
use Rattle.recovery_pair.specs.Promises.Window.{SendsWithinWindow}

-- a packet without an ACK frame, and one with a frame up to this number
abbrev pub no_frame : SentAck
no_frame = record { largest = None; delay = 0 }

abbrev frame : ℕ → ℕ → SentAck
frame largest delay = record { largest = Some largest; delay = delay }

module _ (items : Vec ℕ) where
  -- the client sends 1000 bytes
  abbrev sent : ℕ → Option ℕ → PairEvent
  sent n window = (Send Client Data 5 1000, Ok (Sent n items true window no_frame))

  -- an ACK alone does not count
  abbrev acks_alone : PairEvent
  acks_alone = (Send Client Data 5 60, Ok (Sent 2 items false None no_frame))

  -- one for a window of 1500 bytes, then a probe
  abbrev two : PairLog
  two = acks_alone ∷ sent 1 None ∷ sent 0 (Some 1500) ∷ []

  both_are_in_flight : flight Client two ≡ 2000
  both_are_in_flight = refl

  the_server_has_none : flight Server two ≡ 0
  the_server_has_none = refl

  discarded_with_their_space : flight Client ((Local Client (Discard Data 6), Ok Done) ∷ two) ≡ 0
  discarded_with_their_space = refl

  not_with_another_space : flight Client ((Local Client (Discard Initial 6), Ok Done) ∷ two) ≡ 2000
  not_with_another_space = refl

  not_at_the_other_end : flight Client ((Local Server (Discard Data 6), Ok Done) ∷ two) ≡ 2000
  not_at_the_other_end = refl

  -- number 0 is declared lost, or acknowledged
  module _ (losses : Losses) (lost : losses.numbers.items ≡ 0 ∷ []) (none : losses.probe ≡ None) where
    lost_ends : flight Client ((Local Client (Expire 9), Ok (Expired (Lost Data losses))) ∷ two) ≡ 1000
    lost_ends = rw (lost, none) refl

    not_at_the_server : flight Client ((Local Server (Expire 9), Ok (Expired (Lost Data losses))) ∷ two) ≡ 2000
    not_at_the_server = refl

  module _ (acked : Acknowledged) (numbers : acked.numbers.items ≡ 1 ∷ []) (lost : acked.losses.numbers.items ≡ [])
      (none : acked.losses.probe ≡ None) where
    acked_ends : flight Client ((Arrive 3 9, Ok (Arrived Client Data 0 60 (New items (Taken acked)))) ∷ two) ≡ 1000
    acked_ends = rw (numbers, lost, none) refl

  -- ---- the promises

  first_fits : SendsWithinWindow [] (sent 0 (Some 1500))
  first_fits = omega arith

  second_exceeds : ¬ SendsWithinWindow (sent 0 (Some 1500) ∷ []) (sent 1 (Some 1500))
  second_exceeds fits = absurd (omega (arith, fits))

  probe_may_exceed : SendsWithinWindow (sent 0 (Some 1500) ∷ []) (sent 1 None)
  probe_may_exceed = tt

  exceeds_by_a_probe : ExceedsByProbes two
  exceeds_by_a_probe Client = omega arith
  exceeds_by_a_probe Server = omega arith

  exceeds_without_one : ¬ ExceedsByProbes (sent 1 (Some 1500) ∷ sent 0 (Some 1500) ∷ [])
  exceeds_without_one within = let most = within Client in absurd (omega (arith, most))

-- ---- ACK delays, and what is sent

module _ (items other : Vec ℕ) (outcome : AckOutcome) where
  -- number 4 arrives at time 10, and number 3 at time 20
  abbrev arrived : PairLog
  arrived = (Arrive 1 20, Ok (Arrived Client Data 3 60 (New items outcome)))
      ∷ (Arrive 0 10, Ok (Arrived Client Data 4 60 (New items outcome))) ∷ []

  since_the_largest : ReportsDelay arrived (Send Client Data 25 60, Ok (Sent 0 items false None (frame 4 15)))
  since_the_largest = refl

  not_since_the_last : ¬ ReportsDelay arrived (Send Client Data 25 60, Ok (Sent 0 items false None (frame 4 5)))
  not_since_the_last is = cc

  a_nanosecond_longer : ¬ ReportsDelay arrived (Send Client Data 25 60, Ok (Sent 0 items false None (frame 4 16)))
  a_nanosecond_longer is = cc

  none_in_another_space : ReportsDelay arrived (Send Client Initial 25 60, Ok (Sent 0 items false None no_frame))
  none_in_another_space = refl

  goes_up_to_the_largest : AcksLargest arrived (Send Client Data 25 60, Ok (Sent 0 items false None (frame 4 15)))
  goes_up_to_the_largest = refl

  not_up_to_the_last : ¬ AcksLargest arrived (Send Client Data 25 60, Ok (Sent 0 items false None (frame 3 15)))
  not_up_to_the_last is = cc

  not_up_to_more : ¬ AcksLargest arrived (Send Client Data 25 60, Ok (Sent 0 items false None (frame 5 15)))
  not_up_to_more is = cc

  none_was_received_there : ¬ AcksLargest arrived (Send Client Initial 25 60, Ok (Sent 0 items false None (frame 4 0)))
  none_was_received_there is = cc

  -- a packet is handed over, and one is sent
  abbrev one_sent : Vec ℕ → PairLog
  one_sent these = (Send Client Data 5 60, Ok (Sent 0 these true None no_frame))
      ∷ (Local Client (Hand Data items), Ok Done) ∷ []

  all_is_sent : SendsWhatWaits (one_sent items) (Send Client Data 6 60, Ok Nothing)
  all_is_sent measure = omega arith

  one_more_waits :
      ¬ SendsWhatWaits ((Local Client (Hand Data items), Ok Done) ∷ one_sent items) (Send Client Data 6 60, Ok Nothing)
  one_more_waits sends = let most = sends (λ list. 1) in absurd (omega (arith, most))

  other_items_are_not_enough : items.items ≡ 7 ∷ [] → other.items ≡ 8 ∷ []
      → ¬ SendsWhatWaits (one_sent other) (Send Client Data 6 60, Ok Nothing)
  other_items_are_not_enough these those sends =
      let most = rw (these, those) at (sends (λ list. if is_member nat_eq list 7 then 1 else 0)) in
      absurd (omega (arith, most))
