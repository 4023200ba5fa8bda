-- An RTT sample by the events before an ACK frame.
use Rattle.std.proofs.Common.{◌≡◌, ℕ, ◌-◌, ◌==◌, ◌&&◌, nat_le, inl, inr, Bool, true, false, true≢false, List, [], ◌∷◌, Option, None, Some, refl, sym, ap, ◌∙◌, leb-true, arith}
use Rattle.std.specs.Prelude.{option_map, if◌then◌else◌}
use Rattle.std.specs.Option.{option_and_then}
use Rattle.std.proofs.lemmas.Option.{none-some, same_Some}
use Rattle.rand_core.specs.Stream.{Stream}
use Rattle.recovery_base.specs.declared.below.SpaceId.{SpaceId}
use Rattle.recovery_spaces.specs.Discarded.{is_discarded}
use Rattle.recovery_spaces.specs.Packets.{Packet, packet_at}
use Rattle.recovery_losses.specs.Frames.{are_apart, are_ranges, IsInAckRanges, largest_of}
use Rattle.recovery_losses.specs.Losses.{IsOneOf}
use Rattle.recovery_history.specs.declared.config.RecoveryConfig.{RecoveryConfig}
use Rattle.recovery_history.specs.History.{History, begins, queue_model}
use Rattle.recovery_history.specs.Reachability.{ReachedBy}
use Rattle.recovery_sender.specs.Acking.{rtt_of, sent_here, sent_on}
use Rattle.recovery_sender.specs.Acks.{AreNewlyAcked, HasAckEliciting}
use Rattle.recovery_sender.specs.Promises.Lost.{elicits_by}
use Rattle.recovery_sender.specs.Promises.RttSampled.{SamplesByPast}
use Rattle.recovery_sender.specs.Senders.{state_in}
use Rattle.recovery_sender.specs.Spaces.{packets_in}
use Rattle.recovery_sender.specs.declared.sender.Sender.{Sender}
use Rattle.recovery_sender.proofs.PastLaws.{elicits_by_past, sent_by_past}

-- ---- the largest number of valid ranges is in them

first_holds : (one other : Bool) → (one && other) ≡ true → one ≡ true
first_holds true other is = refl
first_holds false other is = absurd (true≢false (sym is))

has_largest : (ranges : List (ℕ × ℕ)) → are_ranges ranges ≡ true → (l : ℕ) → largest_of ranges ≡ Some l
    → IsInAckRanges l ranges
has_largest [] fine l is = absurd (none-some l is)
has_largest (range ∷ ranges) fine l is =
    let whole = leb-true range.0 range.1 (first_holds (nat_le range.0 range.1) true
    (first_holds (nat_le range.0 range.1 && true) (are_apart (Some range.0) ranges) fine)) in
    let last = same_Some range.1 l is in
    inl (omega (arith, whole, last), omega (arith, last))

module _ {F Q R C K S M P : Type 0} {f : _} {c : _} {q : _} {m : _} {r : _} (sender : Sender F Q R C K S M P f c q m r)
    (config : RecoveryConfig F) (start : ℕ) (random : Stream) (past : History Q S M P)
    (came : ReachedBy (begins f.built c.words (queue_model q.contents q.words q.blank) config start random) past
    (state_in sender)) (space : SpaceId) (kept : is_discarded space (state_in sender).discarded ≡ false) where
  -- an ack-eliciting one of these numbers
  record SomeElicits (numbers : List ℕ) : Type 0 where
    pub number : ℕ
    pub elicits : elicits_by space past number ≡ true
    pub among : IsOneOf number numbers

  some_elicits : (numbers : List ℕ) → HasAckEliciting (packets_in (state_in sender) space) numbers
      → SomeElicits numbers
  some_elicits [] has = absurd has
  some_elicits (number ∷ numbers) (inl here) = record {
    number = number;
    elicits = sym (elicits_by_past sender config start random past came space kept number here.0 here.1) ∙ here.2;
    among = inl refl;
  }
  some_elicits (number ∷ numbers) (inr more) =
      let one = some_elicits numbers more in
      record { number = one.number; elicits = one.elicits; among = inr one.among }

  module _ (received : ℕ) (ranges : List (ℕ × ℕ)) (fine : are_ranges ranges ≡ true) (numbers : List ℕ) (elicits : Bool)
      (newly : AreNewlyAcked (packets_in (state_in sender) space) ranges 0 numbers elicits) where
    abbrev Sampled : Option ℕ → Type 0
    Sampled rtt = SamplesByPast space received ranges numbers rtt past

    sampled_on : (l : ℕ) (packet : Packet P M) → largest_of ranges ≡ Some l
        → packet_at (packets_in (state_in sender) space) l ≡ Some packet
        → HasAckEliciting (packets_in (state_in sender) space) numbers → Sampled (Some (received - packet.time_sent))
    sampled_on l packet is found has =
        let one = some_elicits numbers has in record {
          largest = l;
          is_largest = is;
          newly = (newly.each l).1
              (has_largest ranges fine l is, λ none. none-some packet (sym none ∙ found));
          since = ap (λ (at : ℕ). received - at)
              (sent_by_past sender config start random past came space kept l packet found);
          eliciting = one.number;
          elicits = one.elicits;
          also_newly = one.among;
        }

    -- the packet of the largest number
    by_packet : (l : ℕ) (found : Option (Packet P M)) → largest_of ranges ≡ Some l
        → packet_at (packets_in (state_in sender) space) l ≡ found
        → HasAckEliciting (packets_in (state_in sender) space) numbers
        → Sampled (option_map (λ sent. received - sent) (sent_here (state_in sender) found))
    by_packet l None is found has = tt
    by_packet l (Some packet) is found has =
        here (packet.path_generation == (state_in sender).paths.current.ledger.generation)
      where
        here : (same : Bool)
            → Sampled (option_map (λ sent. received - sent) (if same then Some packet.time_sent else None))
        here true = sampled_on l packet is found has
        here false = tt

    by_frame : (frame : Option ℕ) → largest_of ranges ≡ frame
        → HasAckEliciting (packets_in (state_in sender) space) numbers → Sampled (option_map (λ sent. received - sent)
        (option_and_then (λ largest. sent_on (state_in sender) space largest) frame))
    by_frame None is has = tt
    by_frame (Some l) is has = by_packet l (packet_at (packets_in (state_in sender) space) l) is refl has

    by_elicits : (found : Bool) → elicits ≡ found → Sampled (rtt_of (state_in sender) space received ranges found)
    by_elicits false is = tt
    by_elicits true is = by_frame (largest_of ranges) refl (newly.elicits.0 is)

    pub sampled_by_past : Sampled (rtt_of (state_in sender) space received ranges elicits)
    sampled_by_past = by_elicits elicits refl
