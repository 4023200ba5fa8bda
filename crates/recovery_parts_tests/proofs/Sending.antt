-- Tracked packets stay below the next number when one is sent: the helper `tracked` of the tests rests on it.
use Rattle.std.proofs.Common.{◌≡◌, ℕ, ◌+◌, ◌<◌, Bool, true, false, cond, [], Option, Some, sym, subst, arith}
use Rattle.std.proofs.lemmas.Option.{none-some}
use Rattle.recovery_spaces.specs.Packets.{Packet, Tracking, no_packets, AreBelow, IsAboveLast, forgotten_number, after_sending, without_some}
use Rattle.recovery_spaces.proofs.PacketLaws.{all_below, are_below, AllBelow-push, AllBelow-without_some}

pub record IsBelow {P M : Type 0} (tracking : Tracking P M) (number : ℕ) : Type 0 where
  pub packets : AreBelow tracking.packets number
  pub last : IsAboveLast tracking.last_eliciting number

one_number : (m n : ℕ) → Some m ≡ Some n → m ≡ n
one_number m n e = cc

pub sent_below : {P M : Type 0} (old new : Tracking P M) (number : ℕ) (packet : Packet P M) → IsBelow old number
    → new ≡ after_sending number packet old → IsBelow new (number + 1)
sent_below {P} {M} old new number packet below is =
    subst (λ (t : Tracking P M). IsBelow t (number + 1)) (sym is) (record {
      packets = are_below _ _ (AllBelow-push (without_some old.packets forgotten) number packet
          (AllBelow-without_some old.packets forgotten number (all_below old.packets number below.packets)));
      last = go packet.ack_eliciting;
    })
  where
    forgotten : Option ℕ
    forgotten = forgotten_number old.last_eliciting packet old.packets

    go : (b : Bool) (m : ℕ) → cond b (Some number) old.last_eliciting ≡ Some m → m < number + 1
    go true m e = let h : number ≡ m = one_number number m e in omega (arith, h)
    go false m e = let h : m < number = below.last m e in omega (arith, h)

-- nothing was sent
pub none_below : {P M : Type 0} (tracking : Tracking P M) → tracking ≡ no_packets → IsBelow tracking 0
none_below {P} {M} tracking none = record {
  packets = subst (λ (t : Tracking P M). AreBelow t.packets 0) (sym none) (are_below [] 0 tt);
  last = subst (λ (t : Tracking P M). IsAboveLast t.last_eliciting 0) (sym none) (λ m e. absurd (none-some m e));
}
