-- Tracked packets in their slots: what is preserved when one is sent, removed or forgotten. The calls of `SentPackets`
-- rest on it.
use Rattle.std.proofs.lemmas.Bool.Decides.{nat_tests}
use Rattle.std.proofs.Common.{◌≡◌, Bool, MatchOption, ℕ, ◌+◌, ◌-◌, ◌^◌, ◌<◌, ◌≤◌, min, max, true, false, [], ◌∷◌, ◌++◌, length, filter, Option, None, Some, refl, arith, length-append, IfSome}
use Rattle.recovery_queue.specs.Queues.{QueueSemantics, IsVoid}
use Rattle.recovery_queue.specs.Slots.{Divides, entries_in, item_at, FindsSlot, IsHeldAt, first_number, is_from, AreFrom, IsClosedUp, ExchangesAt, Rewrites}
use Rattle.recovery_queue.proofs.SlotEntryLaws.{entries_fit, item_held, filed}
use Rattle.recovery_queue.proofs.SlotLaws.{Slots, slot_within}
use Rattle.recovery_spaces.specs.Probes.{first_filled}
use Rattle.recovery_spaces.specs.Places.{HasSlots, IsPlaceOf, FindsPacket}
use Rattle.recovery_spaces.specs.Packets.{Packet, Packets, AreBelow, packet_at, without, replaced, with_contents, is_above, least_number, IsAboveLast, ExchangesContents}
use Rattle.recovery_spaces.specs.Counts.{silent_count, eliciting_count, size_count, elicits_count, AreCounted, AreAboveFrom, AreTracked, AreVoidBelow}
use Rattle.recovery_spaces.proofs.PacketLaws.{AllBelow-push, sum-without, sum-replaced, number_at, AllBelow, all_below, are_below, found-append}
use Rattle.std.specs.Option.{is_some}
use Rattle.std.proofs.lemmas.List.Sums.{sum_by_push}
use Rattle.recovery_spaces.proofs.CountLaws.{none_above, counted_taken}

-- from which number on those above another are sought
abbrev from_on : Option ℕ → ℕ → ℕ
from_on None from = from
from_on (Some last) from = max (last + 1) from

-- ---- the smallest number above another

module _ {P M : Type 0} (last : Option ℕ) (from : ℕ) where
  abbrev later : Packets P M → Packets P M
  later = filter (is_from (from_on last from))

  pub first_above : (least : ℕ) (packets : Packets P M) → AreAboveFrom last from packets
      → (first_number (later packets) ≡ least_number (filter (λ entry. is_above last entry.0) packets))
      × (AreFrom least (later packets) → AreAboveFrom last least packets)
  first_above least [] found = grind arith
  first_above least (entry ∷ packets) found = grind (arith, nat_tests, first_above least packets)

  pub least_above : (found : Option ℕ) (packets : Packets P M) → AreAboveFrom last from packets
      → IfSome found (λ least. AreFrom least (later packets)) → IfSome found (λ least. AreAboveFrom last least packets)
  least_above None packets above lowest = tt
  least_above (Some least) packets above lowest = (first_above least packets above).1 lowest

-- no number is above the largest one
pub all_above : {P M : Type 0} (last : ℕ) → (last + 1 < 2 ^ 64 → ⊥) → (packets : Packets P M)
    → AllBelow packets (2 ^ 64) → None ≡ least_number (filter (λ entry. is_above (Some last) entry.0) packets)
all_above last high [] below = refl
all_above last high (entry ∷ packets) below = grind (arith, nat_tests, high, all_above last high packets)

-- ---- a packet is removed, sent, or gets other contents

module _ {P M S : Type 0} (words : QueueSemantics P S) (last : Option ℕ) (from filled : ℕ) where
  -- the invariant of each packet
  abbrev AreKept : Packets P M → ℕ → Type 0
  AreKept packets limit = AreAboveFrom last from packets × AreVoidBelow words filled packets × AllBelow packets limit

  kept_without : (packets : Packets P M) (limit number : ℕ) → AreKept packets limit
      → AreKept (without packets number) limit
  kept_without [] limit number kept = kept
  kept_without (entry ∷ packets) limit number kept = grind (arith, kept_without packets limit number)

module _ {P M S : Type 0} (words : QueueSemantics P S) (last : Option ℕ) (from filled number : ℕ) (packet : Packet P M)
  where
    kept_pushed : (packets : Packets P M) (next : Option ℕ) (lower : ℕ) → number < 2 ^ 64
        → ((n : ℕ) → n ≤ number → (n < number → is_above last n ≡ true → from ≤ n) → is_above next n ≡ true → lower ≤ n)
        → AreKept words last from filled packets number
        → AreKept words next lower (min filled number) (packets ++ (number, packet) ∷ []) (2 ^ 64)
    kept_pushed [] next lower fits le kept = grind (arith, le number)
    kept_pushed (entry ∷ packets) next lower fits le kept =
        grind (arith, le entry.0, kept_pushed packets next lower fits le)

    kept_replaced : (packets : Packets P M) (lower limit : ℕ) → lower ≤ filled
        → (number < lower → IsVoid words packet.retransmits) → AreKept words last from filled packets limit
        → AreKept words last from lower packets limit
        × AreKept words last from lower (replaced number (Some packet) packets) limit
        × (length (replaced number (Some packet) packets) ≡ length packets)
    kept_replaced [] lower limit less void kept = (kept, kept, refl)
    kept_replaced (entry ∷ packets) lower limit less void kept =
        grind (arith, number_at number entry.0, kept_replaced packets lower limit less void)

module _ {P M S : Type 0} {words : QueueSemantics P S} {slots : Slots (Packet P M)} {last : Option ℕ}
    {silent sized eliciting from filled : ℕ}
    (tracked : AreTracked words slots last silent sized eliciting from filled) where
  abbrev old : Packets P M
  old = entries_in slots

  kept_all : AreKept words last from filled old (2 ^ 64)
  kept_all = (tracked.found, tracked.void, all_below old (2 ^ 64) tracked.small)

  -- what is tracked once each packet satisfies the invariant
  tracked_by : {new : Slots (Packet P M)} {next : Option ℕ} {fewer less some lower empty : ℕ} {packets : Packets P M}
      → entries_in new ≡ packets → AreCounted packets next fewer less some → IsClosedUp new
      → AreKept words next lower empty packets (2 ^ 64) → AreTracked words new next fewer less some lower empty
  tracked_by {packets = packets} is counted closed kept =
      grind (arith, is, counted, closed, kept, are_below packets (2 ^ 64))

  module _ {new : Slots (Packet P M)} (number : ℕ) (packet : Packet P M) where
    pub tracked_taken : packet_at old number ≡ Some packet → entries_in new ≡ without old number → IsClosedUp new
        → AreTracked words new last (silent - silent_count last (number, packet)) (sized - size_count packet)
        (eliciting - elicits_count packet) from filled
    tracked_taken found is closed =
        tracked_by is (counted_taken tracked.counted number packet found).0 closed
        (kept_without words last from filled old (2 ^ 64) number kept_all)

    pub tracked_carrying : {lower : ℕ} (contents : P) → packet_at old number ≡ Some packet
        → entries_in new ≡ replaced number (Some (with_contents contents packet)) old
        → length new ≡ length slots → lower ≤ filled → (number < lower → IsVoid words contents)
        → AreTracked words new last silent sized eliciting from lower
    tracked_carrying {lower} contents found is same less nothing =
        let kept = kept_replaced words last from filled number (with_contents contents packet) old lower (2 ^ 64) less
        nothing kept_all in
        tracked_by is (grind (
          arith,
          tracked.counted,
          λ (f : ℕ × Packet P M → ℕ). sum-replaced f old number packet (with_contents contents packet) found,
        ))
        (grind (arith, tracked.closed, same, kept.2, is)) kept.1

  module _ (new : Slots (Packet P M)) (number : ℕ) (packet : Packet P M) (fits : number < 2 ^ 64)
      (below : AreBelow old number) (is : entries_in new ≡ old ++ (number, packet) ∷ []) where
    kept_below : AreKept words last from filled old number
    kept_below = (tracked.found, tracked.void, all_below old number below)

    module _ (one : length new ≤ length slots + 1) where
      -- one more slot for one more packet
      closed_pushed : IsClosedUp new
      closed_pushed = grind (arith, is, one, length-append old ((number, packet) ∷ []), tracked.closed)

      pub tracked_eliciting : {inside : Packet P M} → inside ≡ packet → inside.ack_eliciting ≡ true
          → AreTracked words new (Some number) 0 (sized + size_count packet) (eliciting + 1) from (min filled number)
      tracked_eliciting view elicits =
          tracked_by is (grind (
            arith,
            tracked.counted,
            sum_by_push (λ (entry : ℕ × Packet P M). size_count entry.1) old (number, packet),
            sum_by_push (λ (entry : ℕ × Packet P M). elicits_count entry.1) old (number, packet),
            view,
            elicits,
            none_above number (old ++ (number, packet) ∷ []) (AllBelow-push old number packet kept_below.2),
          )) closed_pushed
          (kept_pushed words last from filled number packet old (Some number) from fits
          (λ n le low up. grind (arith, nat_tests)) kept_below)

      pub tracked_silent : {inside : Packet P M} → inside ≡ packet → inside.ack_eliciting ≡ false
          → IsAboveLast last number → silent ≤ 1000
          → AreTracked words new last (silent + 1) (sized + size_count packet) eliciting (min from number)
          (min filled number)
      tracked_silent view is_silent above room =
          tracked_by is (grind (arith, nat_tests, tracked.counted, view, sum_by_push, above)) closed_pushed
          (kept_pushed words last from filled number packet old last (min from number) fits
          (λ n le low up. grind arith) kept_below)

    -- one more non-ack-eliciting packet, for one that is forgotten
    pub tracked_forgetting : {left : Slots (Packet P M)} (least : ℕ) (gone : Packet P M)
        {inside : Packet P M} → inside ≡ packet → inside.ack_eliciting ≡ false → IsAboveLast last number
        → packet_at old least ≡ Some gone → is_above last least ≡ true
        → AreAboveFrom last least old → entries_in left ≡ without (entries_in new) least → IsClosedUp left
        → AreTracked words left last silent (sized + size_count packet - size_count gone) eliciting least
        (min filled number)
    tracked_forgetting least gone view is_silent above found up lowest taken closed =
        tracked_by (grind (arith, taken, is, (found-append old ((number, packet) ∷ []) least gone found).1))
        (grind (
          arith,
          nat_tests,
          tracked.counted,
          sum_by_push,
          above,
          view,
          counted_taken tracked.counted least gone found,
          sum-without (eliciting_count last) old least gone found,
        )) closed
        (kept_pushed words last least filled number packet (without old least) last least fits
        (λ n le low over. grind (arith, below least gone found))
        (kept_without words last least filled old number least (lowest, kept_below.1, kept_below.2)))

  -- ---- their positions

  pub has_slots : HasSlots old (length slots)
  has_slots = record { enough = entries_fit slots; bound = tracked.closed }

  pub finds_packet : {number : ℕ} {found : Option ℕ × ℕ} → FindsSlot slots number found → FindsPacket old number found
  finds_packet {number} {found} finds = record {
    slots = length slots;
    has = has_slots;
    place = go _ found.0 finds.place finds.divides finds.seen;
    looks = finds.looks;
  }
    where
      go : (Seen : Type 0) (place : Option ℕ)
          → MatchOption place (item_at slots number ≡ None) (λ p. (item : Packet P M) × IsHeldAt slots number p item)
          → IfSome place (Divides slots number) → IfSome place (λ _. Seen)
          → MatchOption place (packet_at old number ≡ None) (λ p. IsPlaceOf old number p (length slots) × Seen)
      go Seen None none divides seen = none
      go Seen (Some p) held divides seen = grind (
        arith,
        seen,
        item_held held.1,
        filed divides,
        slot_within slots p _ (item_held held.1).1,
      )

-- ---- the search for a packet with contents

module _ {P M S : Type 0} (words : QueueSemantics P S) where
  -- the properties of all packets depend on the rest: those before it have nothing to send, and no contents if that is
  -- stated
  pub record Passes (streams : S) (from : ℕ) (all rest : Packets P M) (AreVoid : Type 0) : Type 0 where
    pub left : first_filled words streams rest ≡ first_filled words streams all
    pub below : AreVoidBelow words from all
    pub before : AreVoid → (n : ℕ) → AreVoidBelow words n rest → AreVoidBelow words n all

  -- those below a number are passed over, and none of the others is below it
  pub passes_below : (streams : S) (from : ℕ) (AreVoid : Type 0) (packets : Packets P M)
      → AreVoidBelow words from packets → Passes streams from packets (filter (is_from from) packets) AreVoid
  passes_below streams from AreVoid [] void = grind arith
  passes_below streams from AreVoid (entry ∷ packets) void =
      let nothing : entry.0 < from → words.is_empty entry.1.retransmits streams ≡ true = λ low. void.0 low streams in
      grind (arith, nat_tests, passes_below streams from AreVoid packets)

  none_below : (number : ℕ) (packets : Packets P M) → AreVoidBelow words number (filter (is_from number) packets)
  none_below number [] = tt
  none_below number (entry ∷ packets) = grind (arith, nat_tests, none_below number packets)

  module _ {streams : S} {from : ℕ} {all rest : Packets P M} {AreVoid : Type 0}
      (old : Passes streams from all rest AreVoid) where
    -- if those before it have no contents, nothing below the first of the rest has
    pub void_here : (number : ℕ) → rest ≡ filter (is_from number) all → AreVoid → AreVoidBelow words number all
    void_here number is void = old.before void number (rw is (none_below number all))

    -- the first of the rest has something to send, or is passed over
    pub passes_next : {number : ℕ} {inside packet : Packet P M} {later : Packets P M} (empty : Bool)
        → rest ≡ (number, packet) ∷ later → inside ≡ packet → empty ≡ words.is_empty inside.retransmits streams
        → (empty ≡ false → Some number ≡ first_filled words streams all)
        × (empty ≡ true → (next : ℕ) (AreStill : Type 0) → AreVoidBelow words next all
        → (AreStill → AreVoid × IsVoid words packet.retransmits) → Passes streams next all later AreStill)
    passes_next {packet = packet} empty is view read = (
      λ some. grind (arith, old.left, is, view, read),
      λ none next AreStill below still. record {
        left = grind (arith, old.left, is, view, read);
        below = below;
        before = λ void n later. old.before (still void).0 n (rw is (λ low. (still void).1, later));
      },
    )

-- ---- a packet's contents are exchanged

-- a packet has other contents, in the same slot
pub record Exchanges {P M : Type 0} (slots : Slots (Packet P M)) (number : ℕ) (contents : P)
    (new : Slots (Packet P M)) : Type 0 where
  pub packet : Packet P M
  pub found : packet_at (entries_in slots) number ≡ Some packet
  pub entries : entries_in new ≡ replaced number (Some (with_contents contents packet)) (entries_in slots)
  pub kept : length new ≡ length slots

module _ {Q P M : Type 0} (contents : Q → P) (slots new : Slots (Packet P M)) (number : ℕ) (queue left : Q) where
  exchanged_with : (item : Option (Packet P M)) → item_at slots number ≡ item → is_some item ≡ true
      → MatchOption item ((new ≡ slots) × (left ≡ queue)) (λ packet. (other : Packet P M)
      × ExchangesContents contents packet queue other left × Rewrites slots number other new)
      → Exchanges slots number (contents queue) new
  exchanged_with (Some packet) is some (other, changes, rewrites) = record {
    packet = packet;
    found = is;
    entries = grind (arith, rewrites.entries, changes.0);
    kept = rewrites.kept;
  }
  exchanged_with None is some changes = grind (arith, some)

  pub exchanged : is_some (item_at slots number) ≡ true
      → ExchangesAt (ExchangesContents contents) slots number queue new left
      → Exchanges slots number (contents queue) new
  exchanged some changes = exchanged_with (item_at slots number) refl some changes
