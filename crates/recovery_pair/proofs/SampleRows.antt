-- Worked rows of RTT samples and of ACK frames, computed: with the right log each promise holds, and with a wrong one
-- it does not. Nothing rests on them.
use Rattle.std.proofs.Common.{◌≡◌, ℕ, true, false, [], ◌∷◌, Option, None, Some, Ok, inl, refl, sym, ap, arith}
use Rattle.std.specs.Global.{Vec}
use Rattle.recovery_base.specs.declared.below.SpaceId.TheVariants.{Data, Initial}
use Rattle.recovery_sender.specs.declared.sender.acks.Acknowledged.{Acknowledged}
use Rattle.recovery_pair.specs.declared.steps.AckOutcome.{AckOutcome}
use Rattle.recovery_pair.specs.declared.steps.AckOutcome.TheVariants.{NoFrame, Taken}
use Rattle.recovery_pair.specs.declared.steps.End.TheVariants.{Client, Server}
use Rattle.recovery_pair.specs.declared.steps.Fate.TheVariants.{New}
use Rattle.recovery_pair.specs.declared.steps.PairAnswer.TheVariants.{Arrived, Sent}
use Rattle.recovery_pair.specs.declared.steps.PairStep.TheVariants.{Arrive, Send}
use Rattle.recovery_pair.specs.declared.steps.SentAck.{SentAck}
use Rattle.recovery_pair.specs.Logs.{LoggedPacket, PairEvent, PairLog}
use Rattle.recovery_pair.specs.Promises.Framed.{ArrivesFramed}
use Rattle.recovery_pair.specs.Promises.LargestAcked.{AcksLargest}
use Rattle.recovery_pair.specs.Promises.Newly.{AcksInFlight}
use Rattle.recovery_pair.specs.Promises.RttSamples.{SamplesRoundTrips}

module _ (items : Vec ℕ) where
  abbrev up_to : Option ℕ → SentAck
  up_to largest = record { largest = largest; delay = 3 }

  -- The client sends number 0 at time 5, and at time 7 number 1, which is not ack-eliciting. The server sends a packet
  -- with an ACK frame up to a number, or without one.
  abbrev log : Option ℕ → PairLog
  log largest = (Send Server Data 20 60, Ok (Sent 0 items false None (up_to largest)))
      ∷ (Send Client Data 7 60, Ok (Sent 1 items false None (up_to None)))
      ∷ (Send Client Data 5 1000, Ok (Sent 0 items true None (up_to None))) ∷ []

  -- the packet of the server, at position 2
  abbrev third : Option ℕ → LoggedPacket
  third largest = record {
    from = Server;
    space = Data;
    number = 0;
    size = 60;
    items = items.items;
    largest = largest;
  }

  -- it arrives at time 40
  abbrev arrives : AckOutcome → PairEvent
  arrives outcome = (Arrive 2 40, Ok (Arrived Client Data 0 60 (New items outcome)))

  -- ---- samples

  module _ (acked : Acknowledged) where
    since_the_largest : acked.numbers.items ≡ 0 ∷ 1 ∷ [] → acked.rtt ≡ Some 33
        → SamplesRoundTrips (log (Some 1)) (arrives (Taken acked))
    since_the_largest numbers is =
        record { packet = third (Some 1); sent = (omega arith, refl); rtt = rw numbers is }

    none_is_reported : acked.numbers.items ≡ 0 ∷ 1 ∷ [] → acked.rtt ≡ None
        → ¬ SamplesRoundTrips (log (Some 1)) (arrives (Taken acked))
    none_is_reported numbers is samples =
        let up = ap (λ (one : LoggedPacket). one.largest) samples.sent.1 in
        let some = rw (numbers, is, ← up) at samples.rtt in
        cc

    the_other_one_is_not_eliciting : acked.numbers.items ≡ 1 ∷ [] → acked.rtt ≡ None
        → SamplesRoundTrips (log (Some 1)) (arrives (Taken acked))
    the_other_one_is_not_eliciting numbers is =
        record { packet = third (Some 1); sent = (omega arith, refl); rtt = rw numbers is }

    nor_is_it_a_sample : acked.numbers.items ≡ 1 ∷ [] → acked.rtt ≡ Some 33
        → ¬ SamplesRoundTrips (log (Some 1)) (arrives (Taken acked))
    nor_is_it_a_sample numbers is samples =
        let up = ap (λ (one : LoggedPacket). one.largest) samples.sent.1 in
        let some = rw (numbers, is, ← up) at samples.rtt in
        cc

    the_largest_was_acknowledged_before : acked.numbers.items ≡ 0 ∷ [] → acked.rtt ≡ None
        → SamplesRoundTrips (log (Some 1)) (arrives (Taken acked))
    the_largest_was_acknowledged_before numbers is =
        record { packet = third (Some 1); sent = (omega arith, refl); rtt = rw numbers is }

    of_an_eliciting_one : acked.numbers.items ≡ 0 ∷ [] → acked.rtt ≡ Some 35
        → SamplesRoundTrips (log (Some 0)) (arrives (Taken acked))
    of_an_eliciting_one numbers is =
        record { packet = third (Some 0); sent = (omega arith, refl); rtt = rw numbers is }

    -- ---- what is newly acknowledged: number 0 is in flight

    the_largest_is_newly_acknowledged : acked.numbers.items ≡ 0 ∷ []
        → AcksInFlight (log (Some 0)) (arrives (Taken acked))
    the_largest_is_newly_acknowledged numbers = record {
      packet = third (Some 0);
      sent = (omega arith, refl);
      newly = λ l is some. (let same : ◌≡◌ {A = Option ℕ} (Some 0) (Some l) = is in rw numbers (inl cc));
    }

    not_that_none_is : acked.numbers.items ≡ [] → ¬ AcksInFlight (log (Some 0)) (arrives (Taken acked))
    not_that_none_is numbers acks =
        let up = ap (λ (one : LoggedPacket). one.largest) acks.sent.1 in
        rw numbers at (acks.newly 0 (sym up) (omega arith))

    -- ---- frames

    its_frame_arrives : ArrivesFramed (log (Some 1)) (arrives (Taken acked))
    its_frame_arrives = record { packet = third (Some 1); sent = (omega arith, refl); framed = refl }

    none_was_sent : ¬ ArrivesFramed (log None) (arrives (Taken acked))
    none_was_sent has =
        let up = ap (λ (one : LoggedPacket). one.largest) has.sent.1 in
        let some = rw (← up) at has.framed in
        cc

  it_has_none : ArrivesFramed (log None) (arrives NoFrame)
  it_has_none = record { packet = third None; sent = (omega arith, refl); framed = refl }

  it_is_ignored : ¬ ArrivesFramed (log (Some 1)) (arrives NoFrame)
  it_is_ignored has =
      let up = ap (λ (one : LoggedPacket). one.largest) has.sent.1 in
      let none = has.framed in
      cc

  -- ---- a packet that is sent once number 0 arrived as new

  abbrev replies : Option ℕ → PairEvent
  replies largest = (Send Client Data 43 60, Ok (Sent 2 items true None (up_to largest)))

  module _ (outcome : AckOutcome) where
    acknowledges_it : AcksLargest (arrives outcome ∷ log None) (replies (Some 0))
    acknowledges_it = refl

    acknowledges_none : ¬ AcksLargest (arrives outcome ∷ log None) (replies None)
    acknowledges_none is = cc

    there_was_none_before : AcksLargest (log None) (replies None)
    there_was_none_before = refl

    there_is_none_in_another_space : AcksLargest (arrives outcome ∷ log None)
        (Send Client Initial 43 60, Ok (Sent 2 items true None (up_to None)))
    there_is_none_in_another_space = refl
