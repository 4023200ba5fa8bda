-- Worked rows: packets before and after an RTT sample, and what a mark may say of them. Nothing rests on them.
use Rattle.std.proofs.Common.{◌≡◌, ◌≤◌, ℕ, true, false, true≢false, [], ◌∷◌, None, Some, Ok, refl, sym, arith}
use Rattle.std.specs.declared.net.socket_addr.SocketAddr.{SocketAddr}
use Rattle.recovery_base.specs.declared.below.SpaceId.TheVariants.{Handshake, Data}
use Rattle.recovery_events.specs.declared.event.Answer.TheVariants.{Done, Probe, Sent}
use Rattle.recovery_events.specs.declared.event.Event.TheVariants.{NewPath, PollMtu, Sample, Send}
use Rattle.recovery_history.specs.History.{History}
use Rattle.recovery_sender.specs.Promises.Liveness.{last_sent_at}
use Rattle.recovery_sender.specs.Promises.Samples.{IsMarkOf, has_sample, is_sent_on, is_sent_sampled}

module _ (Q S M P : Type 0) (queue : Q) (frames : M) (remote : SocketAddr) where
  -- number 0, a sample of 10 ns, number 1
  abbrev past : History Q S M P
  past = (Send Data 20 1200 true None queue frames, Ok (Sent 1 None)) ∷ (Sample 0 10, Ok Done)
      ∷ (Send Data 5 1200 true None queue frames, Ok (Sent 0 None)) ∷ []

  both_on_the_path : is_sent_on 0 Data past 0 ≡ true
  both_on_the_path = refl

  before_the_sample : is_sent_sampled 0 Data past 0 ≡ false
  before_the_sample = refl

  after_the_sample : is_sent_sampled 0 Data past 1 ≡ true
  after_the_sample = refl

  no_handshake_packet : is_sent_on 0 Handshake past 1 ≡ false
  no_handshake_packet = refl

  -- a mark at number 0 would count a packet from before the sample
  from_number_0_is_wrong : ¬ IsMarkOf 0 past (Data, 0)
  from_number_0_is_wrong mark = true≢false (sym (mark.after 0 (omega arith) refl))

  -- a path that is fresh has no sample, and one that is not inherits that of the path before it
  fresh_has_none : has_sample 1 ((NewPath 30 remote true, Ok Done) ∷ past) ≡ false
  fresh_has_none = refl

  other_inherits : has_sample 1 ((NewPath 30 remote false, Ok Done) ∷ past) ≡ true
  other_inherits = refl

  -- a probe timeout counts from the last ack-eliciting packet of the space
  last_counts : last_sent_at Data past ≡ Some 20
  last_counts = refl

  ack_alone_does_not : last_sent_at Data ((Send Data 40 40 false None queue frames, Ok (Sent 2 None)) ∷ past) ≡ Some 20
  ack_alone_does_not = refl

  mtu_probe_does : last_sent_at Data ((PollMtu 50, Ok (Probe 2 1400)) ∷ past) ≡ Some 50
  mtu_probe_does = refl

  not_for_another_space : last_sent_at Handshake past ≡ None
  not_for_another_space = refl
