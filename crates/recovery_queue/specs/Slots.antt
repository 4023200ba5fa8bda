-- A queue of slots in the order of their numbers: what is stored in it, and what is found in it.
use Rattle.std.specs.Prelude.{◌≡◌, ℕ, ◌+◌, ◌-◌, ◌*◌, ◌^◌, ◌<◌, ◌≤◌, zero, suc, List, [], ◌∷◌, ◌++◌, length, Option, None, Some, MatchOption, IfSome, filter, set, Bool, not, nat_lt, if◌then◌else◌}
use Rattle.std.specs.Ordering.{nat_cmp}
use Rattle.std.specs.BTreeMap.{is_at}
use Rattle.std.specs.Map.{lookup, set_value}
use Rattle.std.specs.Option.{is_some}
use Rattle.recovery_queue.specs.declared.slots.Slot.{Slot}

-- a slot adds the item stored in it, under its number
abbrev pub filed : {T : Type 0} → ℕ → Option T → List (ℕ × T) → List (ℕ × T)
filed number None entries = entries
filed number (Some item) entries = (number, item) ∷ entries

-- the items, in the order of the numbers
abbrev pub entries_in : {T : Type 0} → List (Slot T) → List (ℕ × T)
entries_in [] = []
entries_in (slot ∷ slots) = filed slot.number slot.item (entries_in slots)

-- the item stored under a number
abbrev pub item_at : {T : Type 0} → List (Slot T) → ℕ → Option T
item_at slots number = lookup (is_at (nat_cmp number)) (entries_in slots)

-- the numbers increase, from the first on and below the end
abbrev pub AreSlotsIncreasing : {T : Type 0} → ℕ → List (Slot T) → ℕ → Type 0
AreSlotsIncreasing first [] end = Unit {0}
AreSlotsIncreasing first (slot ∷ slots) end =
    (first ≤ slot.number) × (slot.number < end) × AreSlotsIncreasing (slot.number + 1) slots end

abbrev pub IsIncreasing : {T : Type 0} → List (Slot T) → Type 0
IsIncreasing slots = (first : ℕ) × (end : ℕ) × AreSlotsIncreasing first slots end

-- every number follows the one before it
abbrev pub AreConsecutive : {T : Type 0} → ℕ → List (Slot T) → Type 0
AreConsecutive first [] = Unit {0}
AreConsecutive first (slot ∷ slots) = (slot.number ≡ first) × AreConsecutive (first + 1) slots

abbrev pub LeavesNoneOut : {T : Type 0} → List (Slot T) → Type 0
LeavesNoneOut slots = (first : ℕ) × AreConsecutive first slots

-- the number of the first slot, if there is one
abbrev pub IsFirst : {T : Type 0} → ℕ → List (Slot T) → Type 0
IsFirst first [] = Unit {0}
IsFirst first (slot ∷ slots) = slot.number ≡ first

-- the number of the first slot, after one more slot with a number is appended
abbrev pub IsFirstWith : {T : Type 0} → ℕ → List (Slot T) → ℕ → Type 0
IsFirstWith first [] number = number ≡ first
IsFirstWith first (slot ∷ slots) number = slot.number ≡ first

-- the number of the last slot, if there is one
abbrev pub IsLast : {T : Type 0} → ℕ → List (Slot T) → Type 0
IsLast last [] = Unit {0}
IsLast last (slot ∷ []) = slot.number ≡ last
IsLast last (slot ∷ next ∷ slots) = IsLast last (next ∷ slots)

-- this many slots are filled, and the numbers increase from the first to the last
pub record IsSlotQueueSound {T : Type 0} (slots : List (Slot T)) (filled first last : ℕ) : Type 0 where
  pub count : filled ≡ length (entries_in slots)
  pub rising : AreSlotsIncreasing first slots (last + 1)
  pub first_is : IsFirst first slots
  pub last_is : IsLast last slots

-- the slot at a position
abbrev pub IsSlotAt : {T : Type 0} → List (Slot T) → ℕ → Slot T → Type 0
IsSlotAt [] place slot = ⊥
IsSlotAt (first ∷ slots) zero slot = first ≡ slot
IsSlotAt (first ∷ slots) (suc place) slot = IsSlotAt slots place slot

-- an item is stored under a number in the slot at a position
abbrev pub IsFiledAt : {T : Type 0} → List (Slot T) → ℕ → ℕ → T → Type 0
IsFiledAt slots number place item =
    IsSlotAt slots place (record { number = number; item = Some item })

-- the slot at a position has this number
pub record IsNumberAt {T : Type 0} (slots : List (Slot T)) (number place : ℕ) : Type 0 where
  pub slot : Slot T
  pub at : IsSlotAt slots place slot
  pub number_is : slot.number ≡ number

-- numbers below another are before a position, and the others from it on
pub record Divides {T : Type 0} (slots : List (Slot T)) (number place : ℕ) : Type 0 where
  pub below : (p : ℕ) (slot : Slot T) → IsSlotAt slots p slot → p < place → slot.number < number
  pub above : (p : ℕ) (slot : Slot T) → IsSlotAt slots p slot → place ≤ p → number ≤ slot.number

-- slots before a position have lower numbers, and from another on higher ones
pub record Encloses {T : Type 0} (slots : List (Slot T)) (number low high : ℕ) : Type 0 where
  pub within : high ≤ length slots
  pub below : (p : ℕ) (slot : Slot T) → IsSlotAt slots p slot → p < low → slot.number < number
  pub above : (p : ℕ) (slot : Slot T) → IsSlotAt slots p slot → high ≤ p → number < slot.number

-- an item is stored under a number at a position, and nothing is stored under the number before it
pub record IsHeldAt {T : Type 0} (slots : List (Slot T)) (number place : ℕ) (item : T) : Type 0 where
  pub before : List (Slot T)
  pub after : List (Slot T)
  pub is : slots ≡ before ++ record { number = number; item = Some item } ∷ after
  pub place_is : length before ≡ place
  pub none : item_at before number ≡ None

-- the slots read are at most as many as their count has binary digits
abbrev pub IsWithinDigits : ℕ → ℕ → Type 0
IsWithinDigits looks slots = (digits : ℕ) → slots < 2 ^ digits → looks ≤ digits

-- the slots read are at most those that it takes to find a number, plus one for each slot from its position up to that
-- of another number, inclusive
abbrev pub IsWithinWalk : {T : Type 0} → List (Slot T) → ℕ → ℕ → ℕ → Type 0
IsWithinWalk slots from until looks = (digits start stop : ℕ) → length slots < 2 ^ digits → Divides slots from start
    → Divides slots until stop → looks ≤ digits + (stop - start) + 1

-- a number's position among the slots, and how many were read: one or more if it was found, and at most one if the
-- numbers have no gaps
pub record FindsSlot {T : Type 0} (slots : List (Slot T)) (number : ℕ) (found : Option ℕ × ℕ) : Type 0 where
  pub place : MatchOption found.0 (item_at slots number ≡ None)
      (λ place. (item : T) × IsHeldAt slots number place item)
  pub divides : IfSome found.0 (Divides slots number)
  pub looks : IsWithinDigits found.1 (length slots)
  pub one : LeavesNoneOut slots → found.1 ≤ 1
  pub seen : IfSome found.0 (λ _. 0 < found.1)

-- the slot at a position is empty
abbrev pub IsEmptyAt : {T : Type 0} → List (Slot T) → ℕ → Type 0
IsEmptyAt {T} slots place = (slot : Slot T) × IsSlotAt slots place slot × (slot.item ≡ None)

-- ---- what changes

-- another item, or none, is put into the slot at a position
pub record Replaces {T : Type 0} (old : List (Slot T)) (place : ℕ) (item found : Option T)
    (new : List (Slot T)) : Type 0 where
  pub slot : Slot T
  pub at : IsSlotAt old place slot
  pub found_is : found ≡ slot.item
  pub left : new ≡ set old place (record { number = slot.number; item = item })

-- a part of an item, if there is one, is exchanged
abbrev pub ExchangesPart : {T P : Type 0} → (T → P → T → P → Type 0) → Option T → P → Option T → P → Type 0
ExchangesPart exchanged None part new left = (new ≡ None) × (left ≡ part)
ExchangesPart {T} exchanged (Some item) part new left =
    (other : T) × (new ≡ Some other) × exchanged item part other left

-- another item is stored under a number, in the same slot
pub record Rewrites {T : Type 0} (old : List (Slot T)) (number : ℕ) (other : T) (new : List (Slot T)) : Type 0 where
  pub entries : entries_in new ≡ set_value (is_at (nat_cmp number)) (entries_in old) other
  pub kept : length new ≡ length old

-- a part of the item stored under a number, if there is one, is exchanged
abbrev pub ExchangesAt : {T P : Type 0} → (T → P → T → P → Type 0) → List (Slot T) → ℕ → P → List (Slot T) → P
    → Type 0
ExchangesAt {T} exchanged old number part new left = MatchOption (item_at old number)
    ((new ≡ old) × (left ≡ part))
    (λ item. (other : T) × exchanged item part other left × Rewrites old number other new)

-- every number is below this one
abbrev pub IsAboveAll : {T : Type 0} → List (ℕ × T) → ℕ → Type 0
IsAboveAll {T} entries number =
    (other : ℕ) (item : T) → lookup (is_at (nat_cmp other)) entries ≡ Some item → other < number

-- at most 64 slots are empty in addition to as many as are filled
abbrev pub IsClosedUp : {T : Type 0} → List (Slot T) → Type 0
IsClosedUp slots = length slots ≤ 2 * length (entries_in slots) + 64

abbrev pub IsFrontEmpty : {T : Type 0} → List (Slot T) → Type 0
IsFrontEmpty [] = ⊥
IsFrontEmpty (slot ∷ slots) = slot.item ≡ None

-- the slots from the first filled one on
abbrev pub trimmed : {T : Type 0} → List (Slot T) → List (Slot T)
trimmed [] = []
trimmed (slot ∷ slots) = if is_some slot.item then slot ∷ slots else trimmed slots

-- there are no empty slots in front, and few others; if those were few, no other slot is moved
pub record CompactsSlots {T : Type 0} (old new : List (Slot T)) : Type 0 where
  pub front : ¬ IsFrontEmpty new
  pub few : IsClosedUp new
  pub others : IsClosedUp (trimmed old) → new ≡ trimmed old

-- an item is removed from its slot, and slots are closed up
pub record RemovesSlot {T : Type 0} (old : List (Slot T)) (item : T) (new : List (Slot T)) : Type 0 where
  pub place : ℕ
  pub emptied : List (Slot T)
  pub empties : Replaces old place None (Some item) emptied
  pub closes : CompactsSlots emptied new

-- the last slot has this number or a higher one
abbrev pub IsBackFrom : {T : Type 0} → ℕ → List (Slot T) → Type 0
IsBackFrom {T} number slots =
    (before : List (Slot T)) × (slot : Slot T) × (slots ≡ before ++ slot ∷ [])
    × (number ≤ slot.number)

abbrev pub is_filled : {T : Type 0} → Slot T → Bool
is_filled slot = is_some slot.item

-- ---- from a number on

-- the number is below another
abbrev pub is_below : {T : Type 0} → ℕ → ℕ × T → Bool
is_below number entry = nat_lt entry.0 number

-- the number is not below another
abbrev pub is_from : {T : Type 0} → ℕ → ℕ × T → Bool
is_from number entry = not (nat_lt entry.0 number)

-- the items from a number on
abbrev pub entries_from : {T : Type 0} → ℕ → List (Slot T) → List (ℕ × T)
entries_from number slots = filter (is_from number) (entries_in slots)

abbrev pub first_entry : {T : Type 0} → List (ℕ × T) → Option (ℕ × T)
first_entry [] = None
first_entry (entry ∷ entries) = Some entry

abbrev pub first_number : {T : Type 0} → List (ℕ × T) → Option ℕ
first_number [] = None
first_number (entry ∷ entries) = Some entry.0

-- no number is below another
abbrev pub AreFrom : {T : Type 0} → ℕ → List (ℕ × T) → Type 0
AreFrom limit [] = Unit {0}
AreFrom limit (entry ∷ entries) = (limit ≤ entry.0) × AreFrom limit entries
