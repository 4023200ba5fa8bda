-- No ACK of an ACK drops the largest number that an endpoint received, step by step.
use Rattle.std.proofs.Common.{◌≡◌, ℕ, ◌+◌, ◌<◌, ◌≤◌, ◌⊎◌, inl, inr, ◌==◌, ◌&&◌, nat_eq, nat_le, nat_lt, Bool, true, false, true≢false, cond, List, [], ◌∷◌, ◌++◌, Option, None, Some, Ok, IfSome, IsSomeAnd, refl, sym, ap, subst, ◌∙◌, arith}
use Rattle.std.specs.Prelude.{if◌then◌else◌, option_map}
use Rattle.std.specs.List.{AllByRecursion}
use Rattle.std.specs.Set.{is_member}
use Rattle.std.proofs.lemmas.Bool.Decides.{nat_tests}
use Rattle.recovery_acks.specs.Acks.{largest_with}
use Rattle.recovery_base.specs.declared.below.SpaceId.{SpaceId}
use Rattle.recovery_base.specs.Spaces.{same_space}
use Rattle.recovery_events.specs.declared.event.Answer.TheVariants.{New}
use Rattle.recovery_events.specs.declared.event.Event.TheVariants.{Received}
use Rattle.recovery_losses.specs.Frames.{are_apart, are_ranges, is_apart, IsInAckRanges, largest_of}
use Rattle.recovery_losses.specs.Losses.{IsOneOf}
use Rattle.recovery_history.specs.History.{History}
use Rattle.recovery_history.specs.Promises.Acknowledged.{WasDropped, WasReceived, largest_in}
use Rattle.recovery_history.proofs.TrackedLaws.{one_space}
use Rattle.recovery_pair.specs.declared.steps.AckOutcome.{AckOutcome}
use Rattle.recovery_pair.specs.declared.steps.AckOutcome.TheVariants.{Taken}
use Rattle.recovery_pair.specs.declared.steps.End.{End}
use Rattle.recovery_pair.specs.declared.steps.End.TheVariants.{Client, Server}
use Rattle.recovery_pair.specs.declared.steps.WirePacket.{WirePacket}
use Rattle.recovery_pair.specs.Flights.{acked_by}
use Rattle.recovery_pair.specs.Frames.{IsSoundFrame}
use Rattle.recovery_pair.specs.Logs.{PairLog, deliveries_of, other_end}
use Rattle.recovery_pair.specs.Pasts.{AcksBelow, AcksWithin, EndTurn, GoesOn, GoesOnQuietly, HearsNumber, KeepsLargest, SendsWithAck, WasSentUnder, endings_by_ack, largest_came}
use Rattle.recovery_pair.specs.Rising.{AcksRise, RisesAbove}
use Rattle.recovery_pair.specs.Tied.{Flows, IsOnWire}
use Rattle.recovery_pair.proofs.GoingLaws.{all_map, no_acks, same_itself, uncarried_same}
use Rattle.recovery_pair.proofs.TieLaws.{all_push, delivered_known, received_delivered}
use Rattle.recovery_pair.proofs.TopLaws.{IsWithin, received_within, within_here}

-- ---- the largest number of a frame

first_of : (one other : Bool) → (one && other) ≡ true → (one ≡ true) × (other ≡ true)
first_of true other is = (refl, is)
first_of false other is = absurd (true≢false (sym is))

below_first_by : (low : ℕ) (ranges : List (ℕ × ℕ)) → are_apart (Some low) ranges ≡ true → (n : ℕ)
    → IsInAckRanges n ranges → n ≤ low
below_first_by low [] fine n is = absurd is
below_first_by low (range ∷ ranges) fine n is =
    let one = first_of (nat_le range.0 range.1 && is_apart range.1 (Some low)) (are_apart (Some range.0) ranges) fine in
    let two = first_of (nat_le range.0 range.1) (is_apart range.1 (Some low)) one.0 in
    by is two.0 two.1 (below_first_by range.0 ranges one.1 n)
  where
    by : (range.0 ≤ n) × (n ≤ range.1) ⊎ IsInAckRanges n ranges → nat_le range.0 range.1 ≡ true
        → nat_le (range.1 + 2) low ≡ true → (IsInAckRanges n ranges → n ≤ range.0) → n ≤ low
    by (inl here) whole apart rest = let high = here.1 in grind (arith, nat_tests, high, apart)
    by (inr there) whole apart rest = let less = rest there in grind (arith, nat_tests, less, whole, apart)

pub in_below : (ranges : List (ℕ × ℕ)) → are_ranges ranges ≡ true → (n l : ℕ) → largest_of ranges ≡ Some l
    → IsInAckRanges n ranges → n ≤ l
in_below [] fine n l is there = absurd there
in_below (range ∷ ranges) fine n l is there =
    let one = first_of (nat_le range.0 range.1 && true) (are_apart (Some range.0) ranges) fine in
    let two = first_of (nat_le range.0 range.1) true one.0 in
    let last : range.1 ≡ l = cc in
    by there two.0 one.1 last
  where
    by : (range.0 ≤ n) × (n ≤ range.1) ⊎ IsInAckRanges n ranges → nat_le range.0 range.1 ≡ true
        → are_apart (Some range.0) ranges ≡ true → range.1 ≡ l → n ≤ l
    by (inl here) whole rest last = let high = here.1 in omega (arith, high, last)
    by (inr more) whole rest last =
        let less = below_first_by range.0 ranges rest n more in grind (arith, nat_tests, less, whole, last)

pub largest_in_frame : (ranges : List (ℕ × ℕ)) → are_ranges ranges ≡ true → (l : ℕ) → largest_of ranges ≡ Some l
    → IsInAckRanges l ranges
largest_in_frame [] fine l is = absurd cc
largest_in_frame (range ∷ ranges) fine l is =
    let one = first_of (nat_le range.0 range.1 && true) (are_apart (Some range.0) ranges) fine in
    let two = first_of (nat_le range.0 range.1) true one.0 in
    let last : range.1 ≡ l = cc in
    inl (grind (arith, nat_tests, two.0, last), omega (arith, last))

pub some_frame : (ranges : List (ℕ × ℕ)) (l : ℕ) → IsSoundFrame ranges → largest_of ranges ≡ Some l
    → are_ranges ranges ≡ true
some_frame ranges l (inr fine) is = fine
some_frame [] l (inl none) is = absurd cc
some_frame (range ∷ ranges) l (inl none) is = absurd cc

none_in : (ranges : List (ℕ × ℕ)) (n : ℕ) → largest_of ranges ≡ None → IsInAckRanges n ranges → ⊥
none_in [] n is there = there
none_in (range ∷ ranges) n is there = absurd cc

-- ---- the largest number received was received

received_or : (here : Bool) (before : Option (ℕ × ℕ)) (m now : ℕ) (largest : ℕ × ℕ)
    → (if here then largest_with before m now else before) ≡ Some largest
    → ((here && m == largest.0) ≡ true) ⊎ (before ≡ Some largest)
received_or false before m now largest is = inr is
received_or true None m now largest is =
    let same : ◌≡◌ {A = ℕ × ℕ} (m, now) largest = cc in
    let equal : m ≡ largest.0 = ap (λ (it : ℕ × ℕ). it.0) same in inl (grind (arith, nat_tests, equal))
received_or true (Some before) m now largest is = by (nat_lt before.0 m) is
  where
    by : (test : Bool) → cond test (Some (m, now)) (Some before) ≡ Some largest
        → ((true && m == largest.0) ≡ true) ⊎ (◌≡◌ {A = Option (ℕ × ℕ)} (Some before) (Some largest))
    by true is =
        let same : ◌≡◌ {A = ℕ × ℕ} (m, now) largest = cc in
        let equal : m ≡ largest.0 = ap (λ (it : ℕ × ℕ). it.0) same in inl (grind (arith, nat_tests, equal))
    by false is = inr is

or_before : (A B C : Type 0) → (B → C) → A ⊎ B → A ⊎ C
or_before A B C to (inl here) = inl here
or_before A B C to (inr before) = inr (to before)

largest_received : {Q S M P : Type 0} (space : SpaceId) (past : History Q S M P) (largest : ℕ × ℕ)
    → largest_came space past ≡ Some largest → WasReceived space largest.0 past
largest_received space [] largest is = absurd cc
largest_received space ((Received there now m eliciting, Ok (New arm)) ∷ earlier) largest is =
    or_before _ _ _ (largest_received space earlier largest)
    (received_or (same_space there space) (largest_came space earlier) m now largest is)
largest_received space (happened ∷ earlier) largest is = largest_received space earlier largest is

-- ---- a frame of all numbers that are to be acknowledged goes up to the largest received

module _ {Q S M P : Type 0} (space : SpaceId) (past : History Q S M P) (ranges : List (ℕ × ℕ))
    (sound : IsSoundFrame ranges) (acks : (k : ℕ) → IsInAckRanges k ranges → WasReceived space k past)
    (whole : (k : ℕ) → WasReceived space k past → ¬ WasDropped space k past → IsInAckRanges k ranges)
    (keeps : KeepsLargest space past) where
  pub frame_largest : largest_of ranges ≡ option_map (λ received. received.0) (largest_came space past)
  frame_largest = by (largest_of ranges) (largest_came space past) refl refl
    where
      -- the largest number received is in the frame
      top_in : (largest : ℕ × ℕ) → largest_came space past ≡ Some largest → IsInAckRanges largest.0 ranges
      top_in largest here =
          let kept = subst (λ (o : Option (ℕ × ℕ)). IfSome o (λ it. ¬ WasDropped space it.0 past)) here keeps in
          whole largest.0 (largest_received space past largest here) kept

      by : (frame : Option ℕ) (came : Option (ℕ × ℕ)) → largest_of ranges ≡ frame → largest_came space past ≡ came
          → ◌≡◌ {A = Option ℕ} frame (option_map (λ received. received.0) came)
      by None None is here = refl
      by None (Some largest) is here = absurd (none_in ranges largest.0 is (top_in largest here))
      by (Some n) None is here =
          let in_it = largest_in_frame ranges (some_frame ranges n sound is) n is in
          absurd (subst (IsWithin n) here (received_within space past n (acks n in_it)))
      by (Some n) (Some largest) is here =
          let fine = some_frame ranges n sound is in
          let low = subst (IsWithin n) here
          (received_within space past n (acks n (largest_in_frame ranges fine n is))) in
          let high = in_below ranges fine largest.0 n is (top_in largest here) in
          let same : n ≡ largest.0 = omega (arith, low, high) in
          ap (λ (k : ℕ). Some k) same

-- ---- a step by which nothing is sent or acknowledged

all_two : {T : Type 0} (P Q : T → Type 0) (all : List T) → AllByRecursion P all → AllByRecursion Q all
    → AllByRecursion (λ one. P one × Q one) all
all_two P Q [] first second = tt
all_two P Q (one ∷ all) first second = ((first.0, second.0), all_two P Q all first.1 second.1)

pub rises_new : {Q S M P : Type 0} (end : End) (past peer : History Q S M P) → GoesOnQuietly [] past
    → AcksRise end past peer []
rises_new end past peer goes = record {
  carried = λ space n l is. (let none = sym (goes.carried space n) ∙ is in absurd cc);
  above = tt;
  keeps = λ space. goes.topped space (λ n l acked. no_acks acked) tt;
}

module _ {Q S M P : Type 0} (end : End) (turn : EndTurn) (past after peer : History Q S M P) (wire : List WirePacket)
    (goes : GoesOn turn past after) (none : turn.carries ≡ None) (rises : AcksRise end past peer wire) where
  carried_same : (space : SpaceId) (n : ℕ) → largest_in space n after ≡ largest_in space n past
  carried_same space n = goes.carried space n ∙ uncarried_same space n turn.carries (largest_in space n past) none

  pub rises_by : ((space : SpaceId) → KeepsLargest space after) → AcksRise end after peer wire
  rises_by keeps = record {
    carried = λ space n l is. rises.carried space n l (sym (carried_same space n) ∙ is);
    above = all_map (RisesAbove (other_end end) past) (RisesAbove (other_end end) after)
        (λ packet up from n l there is. up from n l there (sym (carried_same packet.space n) ∙ is)) wire rises.above;
    keeps = keeps;
  }

  pub rises_on : ((space : SpaceId) (n : ℕ) → turn.acks space n ≡ true → ⊥) → AcksRise end after peer wire
  rises_on unacked =
      rises_by (λ space. goes.topped space (λ n l acked. absurd (unacked space n acked)) (rises.keeps space))

-- the peer goes on
pub rises_still : {Q S M P : Type 0} (end : End) (past peer after : History Q S M P) (wire : List WirePacket)
    → ((space : SpaceId) (n : ℕ) → WasSentUnder space n peer → WasSentUnder space n after)
    → AcksRise end past peer wire → AcksRise end past after wire
rises_still end past peer after wire given rises = record {
  carried = λ space n l is. given space l (rises.carried space n l is);
  above = rises.above;
  keeps = rises.keeps;
}

-- ---- a packet is sent

never_other : (end from : End) → from ≡ end → from ≡ other_end end → ⊥
never_other Client Client one two = absurd cc
never_other Client Server one two = absurd cc
never_other Server Client one two = absurd cc
never_other Server Server one two = absurd cc

module _ {Q S M P : Type 0} (log : PairLog) (size counted now : ℕ) (end : End) (past after peer : History Q S M P)
    (packet : WirePacket) (wire : List WirePacket) (sender : packet.from ≡ end)
    (sound : IsSoundFrame packet.ranges.items)
    (sends : SendsWithAck size counted packet.eliciting packet.space packet.number packet.ranges.items now past after)
    (flows : Flows log end past peer) (back : Flows log (other_end end) peer past)
    (wired : AllByRecursion (IsOnWire log) wire) (rises : AcksRise end past peer wire)
    (others : AcksRise (other_end end) peer past wire) where
  -- what its ACK goes up to was received, so the peer sent it
  sent_by_peer : (l : ℕ) → largest_of packet.ranges.items ≡ Some l → WasSentUnder packet.space l peer
  sent_by_peer l is =
      let fine = some_frame packet.ranges.items l sound is in
      let was = received_delivered log (other_end end) peer past back packet.space l
      (sends.acks l (largest_in_frame packet.ranges.items fine l is)) in
      (delivered_known log (other_end end) peer past back packet.space l was.0 was.1).1

  carried_sent : (space : SpaceId) (n l : ℕ) → largest_in space n after ≡ Some l → WasSentUnder space l peer
  carried_sent space n l is = by (same_space packet.space space && packet.number == n) refl
      (sym (sends.sends.goes.carried space n) ∙ is)
    where
      by : (test : Bool) → (same_space packet.space space && packet.number == n) ≡ test
          → (if test then largest_of packet.ranges.items else largest_in space n past) ≡ Some l
          → WasSentUnder space l peer
      by true same here =
          let there = one_space packet.space space (first_of (same_space packet.space space) (packet.number == n)
          same).0 in
          rw (← there) (sent_by_peer l here)
      by false other here = rises.carried space n l here

  -- what a packet of the peer acknowledges was sent before
  above_sent : (one : WirePacket) → RisesAbove (other_end end) past one × IsOnWire log one
      → RisesAbove (other_end end) after one
  above_sent one on from n l there is = by (same_space packet.space one.space && packet.number == n) refl
      (sym (sends.sends.goes.carried one.space n) ∙ is)
    where
      was_given : WasSentUnder one.space n past
      was_given = (let was = on.1.acks n there in (delivered_known log end past peer flows one.space n was.0
          (subst (λ (e : End). deliveries_of e one.space n log ≡ was.0 ∷ []) from was.1)).1)

      by : (test : Bool) → (same_space packet.space one.space && packet.number == n) ≡ test
          → (if test then largest_of packet.ranges.items else largest_in one.space n past) ≡ Some l
          → l < one.number
      by true same here =
          let two = first_of (same_space packet.space one.space) (packet.number == n) same in
          let space : packet.space ≡ one.space = one_space packet.space one.space two.0 in
          let number : packet.number ≡ n = grind (arith, nat_tests, two.1) in
          absurd (sends.sends.unused (rw (space, number) was_given))
      by false other here = on.0 from n l there here

  pub rises_sent : AcksRise end after peer (wire ++ packet ∷ [])
  rises_sent = record {
    carried = carried_sent;
    above = all_push (RisesAbove (other_end end) after) wire packet
        (all_map (λ one. RisesAbove (other_end end) past one × IsOnWire log one) (RisesAbove (other_end end) after)
        above_sent wire (all_two (RisesAbove (other_end end) past) (IsOnWire log) wire rises.above wired))
        (λ from n l there is. absurd (never_other end packet.from sender from));
    keeps = λ space. sends.sends.goes.topped space (λ n l acked. no_acks acked) (rises.keeps space);
  }

  pub rises_there : AcksRise (other_end end) peer after (wire ++ packet ∷ [])
  rises_there = record {
    carried = λ space n l is. sends.sends.goes.given space l (others.carried space n l is);
    above = all_push (RisesAbove (other_end (other_end end)) peer) wire packet others.above
        (λ from n l there is. sends.sends.above l (others.carried packet.space n l is));
    keeps = others.keeps;
  }

-- ---- a packet is new

pub member_one : (n : ℕ) (numbers : List ℕ) → is_member nat_eq numbers n ≡ true → IsOneOf n numbers
member_one n [] is = absurd (true≢false (sym is))
member_one n (first ∷ numbers) is = by (first == n) refl (member_one n numbers)
  where
    by : (test : Bool) → (first == n) ≡ test → (is_member nat_eq numbers n ≡ true → IsOneOf n numbers)
        → IsOneOf n (first ∷ numbers)
    by true same more = inl (grind (arith, nat_tests, same))
    by false other more = inr (more (grind (arith, nat_tests, is, other)))

module _ {Q S M P : Type 0} (now : ℕ) (packet : WirePacket) (acked : AckOutcome) (past after : History Q S M P)
    (hears : HearsNumber now packet.size packet.space packet.number (Ok true) (endings_by_ack packet.space acked) past
    after) (within : AcksWithin packet.ranges.items acked) where
  acked_within : (outcome : AckOutcome) → AcksWithin packet.ranges.items outcome → (space : SpaceId) (n : ℕ)
      → acked_by packet.space outcome space n ≡ true
      → (packet.space ≡ space) × IsInAckRanges n packet.ranges.items
  acked_within (Taken all) in_it space n is =
      let two = first_of (same_space packet.space space) (is_member nat_eq all.numbers.items n) is in
      (one_space packet.space space two.0, in_it n (member_one n all.numbers.items two.1))
  acked_within outcome in_it space n is = no_acks is

  heard_within : (space : SpaceId) → packet.space ≡ space → IsWithin packet.number (largest_came space after)
  heard_within space there = subst (IsWithin packet.number) (sym (hears.goes.largest space))
      (within_here (same_space packet.space space) (largest_came space past) packet.number now packet.number
      (inl (rw there (itself space))))
    where
      itself : (at : SpaceId) → (same_space at at && packet.number == packet.number) ≡ true
      itself at = let same = same_itself at in grind (arith, nat_tests, same)

  pub heard_top : ((n l : ℕ) → IsInAckRanges n packet.ranges.items → largest_in packet.space n past ≡ Some l
      → l < packet.number) → (space : SpaceId) → KeepsLargest space past → KeepsLargest space after
  heard_top up space = hears.goes.topped space below
    where
      less : (l : ℕ) (largest : Option (ℕ × ℕ)) → IsWithin packet.number largest → l < packet.number
          → IsSomeAnd largest (λ it. l < it.0)
      less l None none under = absurd none
      less l (Some it) most under = omega (arith, most, under)

      below : AcksBelow (acked_by packet.space acked) space past after
      below n l is carried =
          let two = acked_within acked within space n is in
          less l (largest_came space after) (heard_within space two.0)
          (up n l two.1 (subst (λ (there : SpaceId). largest_in there n past ≡ Some l) (sym two.0) carried))
