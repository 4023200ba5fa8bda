-- Worked rows of the promises on datagrams and on bytes in flight, computed: with the right answer each holds, and with
-- a wrong one it does not. Nothing rests on them.
use Rattle.std.proofs.Common.{true, false, [], ◌∷◌, None, Some, Ok, refl, arith}
use Rattle.std.specs.declared.net.socket_addr.SocketAddr.{SocketAddr}
use Rattle.recovery_base.specs.declared.below.SpaceId.TheVariants.{Data}
use Rattle.recovery_paths.specs.declared.path_pair.PathName.TheVariants.{Current, Previous}
use Rattle.recovery_events.specs.declared.event.Event.TheVariants as event
use Rattle.recovery_events.specs.declared.event.Answer.TheVariants as answer
use Rattle.recovery_history.specs.History.{History}
use Rattle.recovery_history.specs.Promises.Blocked.{BlocksExactly}
use Rattle.recovery_history.specs.Promises.Counted.{CountsInFlight}
use Rattle.recovery_history.specs.Promises.Amplification.{IsWithinAmplificationLimit}

module _ (Q S M P : Type 0) (remote : SocketAddr) where
  -- ---- amplification: 10 bytes were received, and 25 sent

  abbrev little : History Q S M P
  little = (event.Transmit 6 25 true, Ok answer.Transmitted) ∷ (event.DatagramIn Current 10, Ok answer.Done) ∷ []

  within : IsWithinAmplificationLimit false little
  within Current = λ unproved checked. omega arith
  within Previous = λ unproved checked. omega arith

  -- 30 bytes are three times 10: 6 more than 25 exceed that
  too_much : ¬ IsWithinAmplificationLimit false ((event.Transmit 7 6 true, Ok answer.Transmitted) ∷ little)
  too_much = λ e. let over = e Current refl refl in omega (arith, over)

  -- but not what is sent to a validated address, nor what was not checked
  proved_address : IsWithinAmplificationLimit true ((event.Transmit 7 6 true, Ok answer.Transmitted) ∷ little)
  proved_address Current = λ unproved. cc
  proved_address Previous = λ unproved checked. omega arith

  unchecked : IsWithinAmplificationLimit false ((event.Transmit 7 6 false, Ok answer.Transmitted) ∷ little)
  unchecked Current = λ unproved checked. cc
  unchecked Previous = λ unproved checked. omega arith

  blocked : BlocksExactly false little (event.Transmit 7 6 true) (Ok answer.Blocked)
  blocked = refl

  passing_is_wrong : ¬ BlocksExactly false little (event.Transmit 7 6 true) (Ok answer.Transmitted)
  passing_is_wrong = λ e. cc

  allowed : BlocksExactly false little (event.Transmit 7 5 true) (Ok answer.Transmitted)
  allowed = tt

  blocking_is_wrong : ¬ BlocksExactly false little (event.Transmit 7 5 true) (Ok answer.Blocked)
  blocking_is_wrong = λ e. e

  never_unchecked : ¬ BlocksExactly false little (event.Transmit 7 6 false) (Ok answer.Blocked)
  never_unchecked = λ e. cc

  -- a fresh path begins with nothing
  fresh_path : BlocksExactly true ((event.NewPath 8 remote true, Ok answer.Done) ∷ little) (event.Transmit 9 1 true)
      (Ok answer.Blocked)
  fresh_path = refl

  -- one that is used again has what it had
  abbrev used_again : History Q S M P
  used_again = (event.RevertPath, Ok answer.Done) ∷ (event.NewPath 8 remote true, Ok answer.Done) ∷ little

  again_allowed : BlocksExactly false used_again (event.Transmit 9 5 true) (Ok answer.Transmitted)
  again_allowed = tt

  again_blocked : BlocksExactly false used_again (event.Transmit 9 6 true) (Ok answer.Blocked)
  again_blocked = refl

  begins_with_nothing_is_wrong : ¬ BlocksExactly false used_again (event.Transmit 9 5 true) (Ok answer.Blocked)
  begins_with_nothing_is_wrong = λ e. e

module _ (Q S M P : Type 0) (queue : Q) (frames : M) (remote : SocketAddr) where
  -- ---- bytes in flight: two packets, of which one is ack-eliciting

  abbrev two_sent : History Q S M P
  two_sent =
      (event.Send Data 5 1200 true None queue frames, Ok (answer.Sent 1 None))
      ∷ (event.Send Data 4 100 false None queue frames, Ok (answer.Sent 0 None))
      ∷ []

  both_count : CountsInFlight two_sent (event.InFlight Current) (Ok (answer.InFlight 1300 1))
  both_count = refl

  two_elicit_is_wrong : ¬ CountsInFlight two_sent (event.InFlight Current) (Ok (answer.InFlight 1300 2))
  two_elicit_is_wrong = λ e. cc

  abbrev one_acked : History Q S M P
  one_acked = (event.Acked Data 6 1 false, Ok (answer.Acked false)) ∷ two_sent

  one_left : CountsInFlight one_acked (event.InFlight Current) (Ok (answer.InFlight 100 0))
  one_left = refl

  still_there_is_wrong : ¬ CountsInFlight one_acked (event.InFlight Current) (Ok (answer.InFlight 1300 1))
  still_there_is_wrong = λ e. cc

  -- a packet counts on the path on which it was sent
  abbrev another_path : History Q S M P
  another_path = (event.NewPath 7 remote false, Ok answer.Done) ∷ two_sent

  none_here : CountsInFlight another_path (event.InFlight Current) (Ok (answer.InFlight 0 0))
  none_here = refl

  there : CountsInFlight another_path (event.InFlight Previous) (Ok (answer.InFlight 1300 1))
  there = refl

  -- what was sent on it counts on a path that is used again, and what was sent on the other one counts nowhere
  abbrev back_again : History Q S M P
  back_again =
      (event.RevertPath, Ok answer.Done)
      ∷ (event.Send Data 8 700 true None queue frames, Ok (answer.Sent 2 None))
      ∷ another_path

  here_again : CountsInFlight back_again (event.InFlight Current) (Ok (answer.InFlight 1300 1))
  here_again = refl

  counts_nowhere : CountsInFlight ((event.NewPath 9 remote true, Ok answer.Done) ∷ back_again) (event.InFlight Current)
      (Ok (answer.InFlight 0 0))
  counts_nowhere = refl

  counts_on_the_third_is_wrong : ¬ CountsInFlight ((event.NewPath 9 remote true, Ok answer.Done) ∷ back_again)
      (event.InFlight Current) (Ok (answer.InFlight 700 1))
  counts_on_the_third_is_wrong = λ e. cc

  no_such_path : ¬ CountsInFlight two_sent (event.InFlight Previous) (Ok (answer.InFlight 0 0))
  no_such_path = λ e. cc

  -- a packet that is forgotten or in a space that was discarded no longer counts
  forgotten : CountsInFlight ((event.Send Data 6 7 false None queue frames, Ok (answer.Sent 2 (Some 0))) ∷ two_sent)
      (event.InFlight Current)
      (Ok (answer.InFlight 1207 1))
  forgotten = refl

  discarded : CountsInFlight ((event.DiscardSpace Data, Ok answer.Done) ∷ two_sent) (event.InFlight Current)
      (Ok (answer.InFlight 0 0))
  discarded = refl
