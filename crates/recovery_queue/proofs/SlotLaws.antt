-- Slots by their positions: what is at one, what is stored there, and what is before and after it. `SlotEntryLaws` and
-- the look-ups of `SlotQueue` rest on it.
use Rattle.std.proofs.Common.{◌≡◌, ℕ, zero, suc, ◌+◌, ◌-◌, ◌/◌, ◌^◌, ◌<◌, ◌≤◌, true, List, [], ◌∷◌, length, Option, None, Some, MatchOption, refl, sym, ap, arith, get_or}
use Rattle.std.specs.Ordering.{nat_cmp, is_eq}
use Rattle.std.specs.Cmp.{nat_cmp_total, tied_itself}
use Rattle.std.specs.BTreeMap.{is_at}
use Rattle.std.proofs.lemmas.Bool.Decides.{nat_tests}
use Rattle.std.proofs.Math.Nat.{pow-suc}
use Rattle.recovery_queue.specs.declared.slots.Slot.{Slot}
use Rattle.recovery_queue.specs.Slots.{item_at, AreSlotsIncreasing, IsSlotAt, IsNumberAt, Divides, Encloses, IsHeldAt, IsIncreasing, AreConsecutive, IsFirst, IsLast}

pub at_itself : (number : ℕ) → is_at (nat_cmp number) number ≡ true
at_itself number = ap is_eq (tied_itself nat_cmp_total number)

-- ---- binary search

-- with a range that is left, and the slots read for it: what is left of the digits covers the range
abbrev Halves : ℕ → ℕ → ℕ → Type 0
Halves looks range slots = (digits : ℕ) → slots < 2 ^ digits → (left : ℕ) × (looks + left ≡ digits) × (range < 2 ^ left)

-- reading the middle halves the range, whichever half is left
halved : (looks after range next slots : ℕ) → Halves looks range slots → 0 < range → after ≡ looks + 1
    → next + next ≤ range → Halves after next slots
halved looks after range next slots halves some is half digits fits = go (halves digits fits)
  where
    go : (left : ℕ) × (looks + left ≡ digits) × (range < 2 ^ left)
        → (left : ℕ) × (after + left ≡ digits) × (next < 2 ^ left)
    go (zero, total, small) = let h : range < 2 ^ 0 = small in absurd (omega arith)
    go (suc left, total, small) = (left, omega arith, omega (arith, pow-suc 2 left))

abbrev pub Slots : Type 0 → Type 0
Slots T = List (Slot T)

module _ {T : Type 0} where
  -- ---- what is at a position

  pub slot_at : (slots : Slots T) (place : ℕ) (slot : Slot T) → place < length slots
      → slot ≡ get_or slots place slot → IsSlotAt slots place slot
  slot_at [] place slot within is = absurd (omega arith)
  slot_at (first ∷ slots) zero slot within is = sym is
  slot_at (first ∷ slots) (suc place) slot within is = slot_at slots place slot (omega arith) is

  -- what is read after the end of a queue
  pub slot_read : {items slots : Slots T} {place : ℕ} {slot : Slot T} → items ≡ slots → place < length slots
      → slot ≡ get_or items place slot → IsSlotAt slots place slot
  slot_read is within read = slot_at _ _ _ within (rw is at read)

  pub slot_within : (slots : Slots T) (place : ℕ) (slot : Slot T) → IsSlotAt slots place slot
      → place < length slots
  slot_within (first ∷ slots) (suc place) slot at = omega (arith, slot_within slots place slot at)
  slot_within slots place slot at = grind (arith, at)

  pub one_slot : (slots : Slots T) (place : ℕ) (slot other : Slot T) → IsSlotAt slots place slot
      → IsSlotAt slots place other → slot ≡ other
  one_slot (first ∷ slots) (suc place) slot other at at2 = one_slot slots place slot other at at2
  one_slot slots place slot other at at2 = grind (arith, at, at2)

  -- ---- numbers that increase

  -- there is room for them
  pub rises_room : (slots : Slots T) (first end : ℕ) → AreSlotsIncreasing first slots end → 0 < length slots
      → first + length slots ≤ end
  rises_room [] first end rising some = absurd (omega arith)
  rises_room (slot ∷ slots) first end rising some = grind (arith, rises_room slots (slot.number + 1) end)

  -- a number is no nearer to the first than its position, and to the end than the positions after it
  pub stands : (slots : Slots T) (first end place : ℕ) (slot : Slot T) → AreSlotsIncreasing first slots end
      → IsSlotAt slots place slot → (first + place ≤ slot.number) × (slot.number + length slots ≤ end + place)
  stands (head ∷ slots) first end (suc place) slot rising at =
      grind (arith, stands slots (head.number + 1) end place slot rising.2 at)
  stands slots first end place slot rising at = grind (arith, at, rises_room)

  pub slot_there : (slots : Slots T) (place : ℕ) → place < length slots → (slot : Slot T) × IsSlotAt slots place slot
  slot_there [] place within = absurd (omega arith)
  slot_there (first ∷ slots) zero within = (first, refl)
  slot_there (first ∷ slots) (suc place) within = slot_there slots place (omega arith)

  -- if there are as many slots as numbers, a number is as far from the first as its position
  pub gapless : (slots : Slots T) (first last number : ℕ) → AreSlotsIncreasing first slots (last + 1)
      → first ≤ number → number ≤ last → last - first < length slots → IsNumberAt slots number (number - first)
  gapless slots first last number rising low high full =
      let there = slot_there slots (number - first) (omega arith) in record {
        slot = there.0;
        at = there.1;
        number_is = omega (arith, stands slots first (last + 1) (number - first) there.0 rising there.1);
      }

  -- numbers are no nearer to one another than their positions
  pub apart : (slots : Slots T) (place other : ℕ) (slot later : Slot T) → IsIncreasing slots → IsSlotAt slots place slot
      → IsSlotAt slots other later → place ≤ other → slot.number + other ≤ later.number + place
  apart (head ∷ slots) zero zero slot later rises at there upto = grind (arith, at, there)
  apart (head ∷ slots) zero (suc other) slot later rises at there upto =
      grind (arith, at, stands slots (head.number + 1) rises.1 other later rises.2.2 there)
  apart (head ∷ slots) (suc place) (suc other) slot later rises at there upto =
      omega (arith, apart slots place other slot later (head.number + 1, rises.1, rises.2.2) at there)
  apart slots place other slot later rises at there upto = grind (arith, at)

  -- ---- what is stored

  -- nothing is stored under a number that no filled slot has
  pub none_filed : (slots : Slots T) (number : ℕ) → ((place : ℕ) (slot : Slot T) → IsSlotAt slots place slot
      → slot.number ≡ number → slot.item ≡ None) → item_at slots number ≡ None
  none_filed [] number none = refl
  none_filed (slot ∷ slots) number none =
      grind (arith, nat_tests, none zero slot refl, none_filed slots number (λ place s at. none (suc place) s at))

  -- the slot of a number has what is stored under it
  pub held_at : (slots : Slots T) (place number : ℕ) (item : Option T) → IsIncreasing slots
      → IsSlotAt slots place (record { number = number; item = item })
      → MatchOption item (item_at slots number ≡ None) (IsHeldAt slots number place)
  held_at slots place number None rises at = none_filed slots number (λ p slot there same.
      let here : p ≡ place = grind (
        arith,
        same,
        apart slots p place slot _ rises there at,
        apart slots place p _ slot rises at there,
      ) in
      ap (λ (s : Slot T). s.item) (one_slot slots place slot _ (rw here at there) at))
  held_at [] place number (Some item) rises at = absurd at
  held_at (head ∷ slots) zero number (Some item) rises at = record {
    before = [];
    after = slots;
    is = ap (λ (s : Slot T). s ∷ slots) at;
    place_is = refl;
    none = refl;
  }
  held_at (head ∷ slots) (suc place) number (Some item) rises at =
      let later = held_at slots place number (Some item) (head.number + 1, rises.1, rises.2.2) at in record {
        before = head ∷ later.before;
        after = later.after;
        is = ap (λ (ss : Slots T). head ∷ ss) later.is;
        place_is = ap suc later.place_is;
        none = grind (
          arith,
          nat_tests,
          later.none,
          stands slots (head.number + 1) rises.1 place (record { number = number; item = Some item }) rises.2.2 at,
        );
      }

  -- ---- the positions that enclose a number

  -- slots before one position are this near to the end, and those from another on this far from the first
  pub enclosed : (slots : Slots T) (first end number low high : ℕ) → AreSlotsIncreasing first slots end
      → high ≤ length slots → (0 < low → end + low ≤ number + length slots)
      → (high < length slots → number < first + high) → Encloses slots number low high
  enclosed slots first end number low high rising within lower upper = record {
    within = within;
    below = λ p slot at under. grind (arith, under, lower, stands slots first end p slot rising at);
    above = λ p slot at over.
        grind (arith, over, upper, stands slots first end p slot rising at, slot_within slots p slot at);
  }

  -- if every number follows the one before it, the first and the last determine how many there are
  pub follow_to : (slots : Slots T) (from first last : ℕ) → AreConsecutive from slots → IsFirst first slots
      → IsLast last slots → 0 < length slots → (first ≡ from) × (last + 1 ≡ from + length slots)
  follow_to [] from first last follow is_first is_last some = absurd (omega arith)
  follow_to (slot ∷ []) from first last follow is_first is_last some = grind (arith, follow, is_first, is_last)
  follow_to (slot ∷ next ∷ slots) from first last follow is_first is_last some = grind (
    arith,
    follow,
    is_first,
    follow_to (next ∷ slots) (from + 1) next.number last follow.1 refl is_last (omega arith),
  )

  -- ---- a search

  -- a slot of the number divides the others
  pub divides_at : (slots : Slots T) (number place : ℕ) (slot : Slot T) → IsIncreasing slots
      → IsSlotAt slots place slot → slot.number ≡ number → Divides slots number place
  divides_at slots number place slot rises at same = record {
    below = λ p other there under. omega (arith, apart slots p place other slot rises there at);
    above = λ p other there over. omega (arith, apart slots place p slot other rises at there);
  }

  -- a number is sought between two positions of a range, after this many slots were read
  pub record Seeks (range : ℕ) (slots : Slots T) (number low high looks : ℕ) : Type 0 where
    pub rises : IsIncreasing slots
    pub encloses : Encloses slots number low high
    pub halves : Halves looks (high - low) range

  -- reading the middle: an end of the range moves there, or it is the slot of the number
  pub looked : {range : ℕ} {slots : Slots T} {number low high looks after : ℕ} {slot : Slot T}
      → Seeks range slots number low high looks → low < high → (let middle = low + (high - low) / 2 in
      slot ≡ get_or slots middle slot → after ≡ looks + 1
      → (slot.number < number → Seeks range slots number (middle + 1) high after)
      × (number < slot.number → Seeks range slots number low middle after)
      × (slot.number ≡ number → Divides slots number middle
      × MatchOption slot.item (item_at slots number ≡ None) (IsHeldAt slots number middle)))
  looked {slots = slots} {number} {low} {high} {slot = slot} old some read counted = (
    λ less. record {
      rises = old.rises;
      encloses = record {
        within = old.encloses.within;
        below = λ p other there under. omega (arith, apart slots p _ other slot old.rises there middle);
        above = old.encloses.above;
      };
      halves = halved _ _ _ _ _ old.halves (omega arith) counted (omega arith);
    },
    λ more. record {
      rises = old.rises;
      encloses = record {
        within = omega (arith, old.encloses.within);
        below = old.encloses.below;
        above = λ p other there over. omega (arith, apart slots _ p slot other old.rises middle there);
      };
      halves = halved _ _ _ _ _ old.halves (omega arith) counted (omega arith);
    },
    λ same. (
      divides_at slots number _ slot old.rises middle same,
      rw same at (held_at slots _ slot.number slot.item old.rises middle),
    ),
  )
    where
      middle : IsSlotAt slots (low + (high - low) / 2) slot
      middle = slot_at slots _ slot (omega (arith, old.encloses.within)) read

  -- a range of fewer than 2^63 slots needs fewer than 64 reads
  pub few_looks : {range : ℕ} {slots : Slots T} {number low high looks : ℕ} → Seeks range slots number low high looks
      → range < 2 ^ 63 → looks < 64
  few_looks old few = let h = old.halves 63 few in grind (arith, h)

  -- if a range is empty no slot has the number
  pub closed : {slots : Slots T} {number low high : ℕ} → Encloses slots number low high → high ≤ low
      → Divides slots number low × (item_at slots number ≡ None)
  closed {slots} {number} old over = (
    record { below = old.below; above = λ p slot at behind. omega (arith, old.above p slot at) },
    none_filed slots number (λ p slot at same. grind (arith, same, old.below p slot at, old.above p slot at)),
  )
