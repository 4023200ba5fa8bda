-- When the first of the packets below the largest acknowledged was sent, as a pass scans them.
use Rattle.std.proofs.Common.{◌≡◌, ℕ, ◌+◌, ◌≤◌, ◌<◌, Option, None, Some, sym, ap, ◌∙◌, inl, inr, arith}
use Rattle.std.proofs.lemmas.Option.{none-some, same_Some}
use Rattle.std.proofs.lemmas.Bool.Decides.{leb_tells}
use Rattle.std.specs.Option.{ForSome}
use Rattle.recovery_base.specs.Timers.{earlier_of}
use Rattle.recovery_spaces.specs.Packets.{Packet, Packets, packet_at}
use Rattle.recovery_losses.specs.declared.looks.Candidate.{Candidate}
use Rattle.recovery_losses.specs.declared.looks.LossPass.{LossPass}
use Rattle.recovery_losses.specs.Losses.{IsEarliestSent, IsNextLossCandidate, NoneFrom}
use Rattle.recovery_losses.proofs.DetectionPassLaws.{earlier_from, earlier_is}

module _ {P M : Type 0} (look : LossPass) (packets : Packets P M) where
  pub none_sent : IsEarliestSent packets 0 None
  none_sent = record {
    one = λ least none. absurd (none-some least none);
    least = λ number packet is small. absurd (omega (arith, small));
  }

  -- no packet is left
  pub sent_end : (from : ℕ) (time : Option ℕ) → IsEarliestSent packets from time → from ≤ look.largest
      → NoneFrom look packets from → IsEarliestSent packets look.largest time
  sent_end from time sent above none = record {
    one = λ least is. (let was = sent.one least is in (was.0, was.1, was.2, omega (arith, was.3, above), was.4));
    least = λ number packet is small. elim (leb_tells from number) [
      | inl on ↦ absurd (none number packet (is, small) on.1)
      | inr under ↦ sent.least number packet is under.1
    ];
  }

  -- the next packet is this one
  pub sent_next : (from : ℕ) (next : Candidate) (time : Option ℕ) → IsEarliestSent packets from time
      → IsNextLossCandidate look packets from next
      → IsEarliestSent packets (next.number + 1) (earlier_of time (Some next.time_sent))
  sent_next from next time sent is = record { one = one; least = least }
    where
      one : ForSome (earlier_of time (Some next.time_sent)) (λ least. (n : ℕ) × (other : Packet P M)
          × (packet_at packets n ≡ Some other) × (n < next.number + 1) × (other.time_sent ≡ least))
      one least told = elim (earlier_from time next.time_sent least told) [
        | inl now ↦ (next.number, is.packet, is.below.0, omega arith, sym is.is.time_sent ∙ sym now)
        | inr before ↦ (
            let was = sent.one least before in
            (was.0, was.1, was.2, omega (arith, was.3, is.from_on), was.4)
            )
      ]

      least : (n : ℕ) (other : Packet P M) → packet_at packets n ≡ Some other → n < next.number + 1
          → (t : ℕ) × (earlier_of time (Some next.time_sent) ≡ Some t) × (t ≤ other.time_sent)
      least n other there small =
          let earlier = earlier_is time next.time_sent in elim (leb_tells from n) [
            | inl on ↦ (
                let at_least = is.first n other there on.1 in
                let same : n ≡ next.number = omega (arith, at_least, small) in
                let sent_then : other.time_sent ≡ is.packet.time_sent = ap (λ (p : Packet P M). p.time_sent)
                (same_Some other is.packet (sym there ∙ ap (λ m. packet_at packets m) same ∙ is.below.0)) in
                (earlier.0, earlier.1, omega (arith, earlier.2, sent_then, is.is.time_sent))
                )
            | inr under ↦ (
                let was = sent.least n other there under.1 in
                (earlier.0, earlier.1, omega (arith, earlier.3 was.0 was.1, was.2))
                )
          ]
