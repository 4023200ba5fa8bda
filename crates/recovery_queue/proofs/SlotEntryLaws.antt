-- What is stored, as slots are replaced, dropped and closed up, and from a number on. The calls of `SlotQueue` rest on
-- it, and the tracked packets above it.
use Rattle.std.proofs.Common.{◌≡◌, ℕ, zero, suc, ◌+◌, ◌-◌, ◌<◌, ◌≤◌, Bool, true, false, List, [], ◌∷◌, ◌++◌, length, set, drop, filter, Option, None, Some, MatchOption, IfSome, IfNone, refl, sym, ap, subst, ◌∙◌, arith, append-nil, length-append, get_or}
use Rattle.std.specs.Option.{is_some, option_to_list}
use Rattle.std.specs.Ordering.{nat_cmp}
use Rattle.std.specs.BTreeMap.{is_at}
use Rattle.std.specs.Map.{lookup, remove_entry, set_value}
use Rattle.std.proofs.lemmas.Bool.Decides.{nat_tests}
use Rattle.std.proofs.lemmas.List.{length-drop, same_from_push}
use Rattle.std.proofs.Math.Seq.{set-append_seam}
use Rattle.std.proofs.lemmas.List.Filters.{length-filter_both}
use Rattle.recovery_queue.specs.declared.slots.Slot.{Slot}
use Rattle.recovery_queue.specs.Slots.{entries_in, item_at, AreSlotsIncreasing, IsSlotAt, IsNumberAt, IsIncreasing, Divides, IsHeldAt, IsAboveAll, IsFirst, IsFirstWith, IsLast, IsSlotQueueSound, IsClosedUp, IsFrontEmpty, IsBackFrom, Replaces, ExchangesPart, ExchangesAt, FindsSlot, CompactsSlots, RemovesSlot, trimmed, is_filled, is_below, is_from, first_number, AreFrom}
use Rattle.recovery_queue.proofs.SlotLaws.{Slots, at_itself, one_slot, slot_within, held_at, divides_at}

pub not_both : {b : Bool} → b ≡ true → b ≡ false → ⊥
not_both {b} e f = cc

abbrev pub one_if : Bool → ℕ
one_if true = 1
one_if false = 0

module _ {T : Type 0} where
  abbrev slot_of : ℕ → Option T → Slot T
  slot_of number item = record { number = number; item = item }

  pub entries-append : (before after : Slots T)
      → entries_in (before ++ after) ≡ entries_in before ++ entries_in after
  entries-append [] after = refl
  entries-append (slot ∷ before) after = grind (arith, entries-append before after)

  -- at most as many items are stored as there are slots
  pub entries_fit : (slots : Slots T) → length (entries_in slots) ≤ length slots
  entries_fit [] = omega arith
  entries_fit (slot ∷ slots) = grind (arith, entries_fit slots)

  -- ---- one slot replaced

  pub replaced_sound : (slots : Slots T) (first end place : ℕ) (slot : Slot T) (item : Option T)
      → AreSlotsIncreasing first slots end → IsSlotAt slots place slot
      → (let new = set slots place (slot_of slot.number item) in
      (length (entries_in new) + one_if (is_some slot.item) ≡ length (entries_in slots) + one_if (is_some item))
      × AreSlotsIncreasing first new end)
  replaced_sound (head ∷ slots) first end (suc place) slot item rising at =
      grind (arith, replaced_sound slots (head.number + 1) end place slot item rising.2 at)
  replaced_sound slots first end place slot item rising at = grind (arith, at)

  -- the first number and the last are unchanged
  pub replaced_ends : (slots : Slots T) (first last place : ℕ) (slot : Slot T) (item : Option T)
      → IsFirst first slots → IsLast last slots → IsSlotAt slots place slot
      → (let new = set slots place (slot_of slot.number item) in IsFirst first new × IsLast last new)
  replaced_ends [] first last place slot item is_first is_last at = absurd at
  replaced_ends (head ∷ []) first last (suc place) slot item is_first is_last at = absurd at
  replaced_ends (head ∷ next ∷ slots) first last (suc zero) slot item is_first is_last at =
      (is_first, (replaced_ends (next ∷ slots) next.number last zero slot item refl is_last at).1)
  replaced_ends (head ∷ next ∷ slots) first last (suc (suc place)) slot item is_first is_last at =
      (is_first, (replaced_ends (next ∷ slots) next.number last (suc place) slot item refl is_last at).1)
  replaced_ends (head ∷ []) first last zero slot item is_first is_last at = grind (arith, at, is_first, is_last)
  replaced_ends (head ∷ next ∷ slots) first last zero slot item is_first is_last at =
      grind (arith, at, is_first, is_last)

  -- ---- what is held at a position

  behind : (before after : Slots T) (slot other : Slot T) → IsSlotAt (before ++ slot ∷ after) (length before) other
      → slot ≡ other
  behind [] after slot other at = at
  behind (first ∷ before) after slot other at = behind before after slot other at

  -- another item, or none, replaces one
  replaced : {slots new : Slots T} {place : ℕ} {item other found : Option T} (before after : Slots T)
      (number : ℕ) → slots ≡ before ++ slot_of number item ∷ after → length before ≡ place
      → Replaces slots place other found new → (found ≡ item) × (new ≡ before ++ slot_of number other ∷ after)
  replaced {item = item} {other} before after number is there replaces =
      grind (
        arith,
        is,
        there,
        replaces,
        behind before after (slot_of number item) replaces.slot (rw (there, ← is) replaces.at),
        set-append_seam before (slot_of number item) after (slot_of number other),
      )

  module _ (number : ℕ) (item other : T) (after : Slots T) where
    abbrev holding : Slots T → Option T → Slots T
    holding before held = before ++ slot_of number held ∷ after

    -- what is stored under a number that no slot before it has
    here : (before : Slots T) → item_at before number ≡ None
        → (let entries = entries_in (holding before (Some item)) in
        (item_at (holding before (Some item)) number ≡ Some item)
        × (entries_in (holding before None) ≡ remove_entry (is_at (nat_cmp number)) entries)
        × (entries_in (holding before (Some other)) ≡ set_value (is_at (nat_cmp number)) entries other)
        × IsSlotAt (holding before (Some item)) (length before) (slot_of number (Some item)))
    here [] none = grind (arith, at_itself number)
    here (slot ∷ before) none = grind (arith, here before)

  pub item_held : {slots : Slots T} {number place : ℕ} {item : T} → IsHeldAt slots number place item
      → (item_at slots number ≡ Some item) × IsSlotAt slots place (record { number = number; item = Some item })
  item_held {number = number} {item = item} held =
      let its = here number item item held.after held.before held.none in
      rw (held.is, ← held.place_is) (its.0, its.3)

  -- if nothing is stored under a number, nothing is removed
  pub absent_removed : (entries : List (ℕ × T)) (number : ℕ) → lookup (is_at (nat_cmp number)) entries ≡ None
      → remove_entry (is_at (nat_cmp number)) entries ≡ entries
  absent_removed [] number none = refl
  absent_removed (entry ∷ entries) number none = grind (arith, absent_removed entries number)

  -- ---- the slot of a number

  pub numbered_within : {slots : Slots T} {number place : ℕ} → IsNumberAt slots number place → place < length slots
  numbered_within its = slot_within _ _ its.slot its.at

  pub held_numbered : {slots : Slots T} {number place : ℕ} → ((item : T) × IsHeldAt slots number place item)
      → IsNumberAt slots number place
  held_numbered {number = number} its = record {
    slot = slot_of number (Some its.0);
    at = (item_held its.1).1;
    number_is = refl;
  }

  -- the number is this slot's, and what is stored under it is in this slot
  pub numbered : {slots : Slots T} {number place : ℕ} (slot : Slot T) → IsIncreasing slots
      → IsNumberAt slots number place → IsSlotAt slots place slot → (slot.number ≡ number)
      × MatchOption slot.item (item_at slots number ≡ None) (IsHeldAt slots number place)
  numbered {slots} {number} {place} slot rises its at =
      let same : slot.number ≡ number =
      ap (λ (s : Slot T). s.number) (one_slot slots place slot its.slot at its.at) ∙ its.number_is in
      (same, rw same at (held_at slots place slot.number slot.item rises at))

  read_held : (slots : Slots T) (number place : ℕ) (item : Option T)
      → MatchOption item (item_at slots number ≡ None) (IsHeldAt slots number place) → item ≡ item_at slots number
  read_held slots number place None none = sym none
  read_held slots number place (Some item) its = sym (item_held its).0

  pub numbered_read : {slots : Slots T} {number place : ℕ} (slot : Slot T) → IsIncreasing slots
      → IsNumberAt slots number place → IsSlotAt slots place slot → slot.item ≡ item_at slots number
  numbered_read {slots} {number} {place} slot rises its at =
      read_held slots number place slot.item (numbered slot rises its at).1

  abbrev found_by : ℕ → Option T → Option ℕ
  found_by place None = None
  found_by place (Some item) = Some place

  -- one slot is read for a position that is known
  pub found_there : {slots : Slots T} {number place : ℕ} (slot : Slot T) (item : Option T) (looks : ℕ)
      → IsIncreasing slots → IsNumberAt slots number place → IsSlotAt slots place slot → slot.item ≡ item → looks ≡ 1
      → FindsSlot slots number (found_by place item, looks)
  found_there {slots} {number} {place} slot item looks rises its at is one = record {
    place = held_there item (rw is at (numbered slot rises its at).1);
    divides = divides_there item (divides_at slots number place slot rises at (numbered slot rises its at).0);
    looks = λ digits room. grind (arith, numbered_within its, room, one);
    one = λ _. omega arith;
    seen = seen_there item;
  }
    where
      held_there : (item : Option T) → MatchOption item (item_at slots number ≡ None) (IsHeldAt slots number place)
          → MatchOption (found_by place item) (item_at slots number ≡ None)
          (λ p. (held : T) × IsHeldAt slots number p held)
      held_there None none = none
      held_there (Some item) its = (item, its)

      divides_there : (item : Option T) → Divides slots number place
          → IfSome (found_by place item) (Divides slots number)
      divides_there None its = tt
      divides_there (Some item) its = its

      seen_there : (item : Option T) → IfSome (found_by place item) (λ _. 0 < looks)
      seen_there None = tt
      seen_there (Some item) = omega arith

  set_same : (slots : Slots T) (place : ℕ) (slot : Slot T) → IsSlotAt slots place slot → set slots place slot ≡ slots
  set_same (first ∷ slots) (suc place) slot at = grind (arith, set_same slots place slot at)
  set_same slots place slot at = grind (arith, at)

  module _ {old mid : Slots T} {place : ℕ} {found : Option T} (empties : Replaces old place None found mid) where
    emptied : (number : ℕ) (item : Option T) → MatchOption item (item_at old number ≡ None) (IsHeldAt old number place)
        → IsSlotAt old place (slot_of number item) → mid ≡ set old place (slot_of number None)
        → (entries_in mid ≡ remove_entry (is_at (nat_cmp number)) (entries_in old)) × (item ≡ None → mid ≡ old)
    emptied number None none at is =
        let same = is ∙ set_same old place (slot_of number None) at in
        (ap entries_in same ∙ sym (absent_removed (entries_in old) number none), λ _. same)
    emptied number (Some item) its at is = grind (
      arith,
      its.is,
      replaced its.before its.after number its.is its.place_is empties,
      here number item item its.after its.before its.none,
    )

    -- what is stored under a number is removed from its slot
    pub cleared : {number : ℕ} → IsIncreasing old → IsNumberAt old number place → (found ≡ item_at old number)
        × (entries_in mid ≡ remove_entry (is_at (nat_cmp number)) (entries_in old)) × IfNone found (mid ≡ old)
    cleared {number} rises at =
        let its = numbered empties.slot rises at empties.at in
        let rest = emptied number empties.slot.item its.1 (rw its.0 at empties.at) (rw its.0 at empties.left) in (
          empties.found_is ∙ numbered_read empties.slot rises at empties.at,
          rest.0,
          grind (arith, rest.1, empties.found_is),
        )

  -- a part of what is stored under a number is exchanged in its slot
  module _ {P : Type 0} (exchanged : T → P → T → P → Type 0) {old : Slots T} {number place : ℕ} (slot : Slot T)
      (rises : IsIncreasing old) (its : IsNumberAt old number place) (at : IsSlotAt old place slot) where
    exchanged_with : (part left : P) (item other : Option T) → slot.item ≡ item
        → MatchOption item (item_at old number ≡ None) (IsHeldAt old number place)
        → ExchangesPart exchanged item part other left
        → ExchangesAt exchanged old number part (set old place (slot_of slot.number other)) left
    exchanged_with part left None other is none same = grind (arith, is, none, same, set_same old place slot at)
    exchanged_with part left (Some item) other is there changes =
        let same = (numbered slot rises its at).0 in
        let replaces : Replaces old place other (Some item) (set old place (slot_of number other)) =
        record { slot = slot; at = at; found_is = sym is; left = grind (arith, same) } in
        let put = replaced there.before there.after number there.is there.place_is replaces in
        grind (
          arith,
          same,
          changes,
          there.is,
          put,
          item_held there,
          here number item changes.0 there.after there.before there.none,
          length-append {A = Slot T},
        )

    pub exchanged_at : (part left : P) (other : Option T) → ExchangesPart exchanged slot.item part other left
        → ExchangesAt exchanged old number part (set old place (slot_of slot.number other)) left
    exchanged_at part left other = exchanged_with part left slot.item other refl (numbered slot rises its at).1

  -- ---- slots closed up

  pub rises_within : (slots : Slots T) (first lower end upper : ℕ) → lower ≤ first → end ≤ upper
      → AreSlotsIncreasing first slots end → AreSlotsIncreasing lower slots upper
  rises_within [] first lower end upper low high rising = tt
  rises_within (slot ∷ slots) first lower end upper low high rising =
      grind (arith, rises_within slots (slot.number + 1) (slot.number + 1) end upper)

  pub kept : (slots : Slots T) (first end : ℕ) → (entries_in (filter is_filled slots) ≡ entries_in slots)
      × (length (filter is_filled slots) ≡ length (entries_in slots))
      × (AreSlotsIncreasing first slots end → AreSlotsIncreasing first (filter is_filled slots) end)
  kept [] first end = grind arith
  kept (slot ∷ slots) first end = grind (arith, kept slots (slot.number + 1) end, rises_within)

  -- the first number and the last bound the others
  pub from_first : (slots : Slots T) (first front end : ℕ) → IsFirst front slots → AreSlotsIncreasing first slots end
      → AreSlotsIncreasing front slots end
  from_first [] first front end is rising = tt
  from_first (slot ∷ slots) first front end is rising = grind (arith, is, rising)

  pub first_alone : (slots : Slots T) (number : ℕ) → length slots ≡ 0 → IsFirstWith number slots number
  first_alone [] number none = refl
  first_alone (slot ∷ slots) number none = absurd (omega arith)

  pub first_stays : (slots : Slots T) (first number : ℕ) → 0 < length slots → IsFirst first slots
      → IsFirstWith first slots number
  first_stays [] first number some is = absurd (omega arith)
  first_stays (slot ∷ slots) first number some is = is

  pub last_at : (before : Slots T) (slot : Slot T) → IsLast slot.number (before ++ slot ∷ [])
  last_at [] slot = refl
  last_at (first ∷ []) slot = refl
  last_at (first ∷ next ∷ before) slot = last_at (next ∷ before) slot

  pub last_read : (slots : Slots T) (slot : Slot T) (count : ℕ) → count ≡ length slots → 0 < count
      → slot ≡ get_or slots (count - 1) slot → IsLast slot.number slots
  last_read [] slot count all some is = absurd (omega arith)
  last_read (first ∷ []) slot count all some is = grind (arith, all, is)
  last_read (first ∷ next ∷ slots) slot count all some is =
      last_read (next ∷ slots) slot (count - 1) (omega arith) (omega arith) (grind (arith, all, is))

  pub to_last : (slots : Slots T) (first last end : ℕ) → IsLast last slots → AreSlotsIncreasing first slots end
      → AreSlotsIncreasing first slots (last + 1)
  to_last [] first last end is rising = tt
  to_last (slot ∷ []) first last end is rising = grind (arith, is, rising)
  to_last (slot ∷ next ∷ slots) first last end is rising =
      let behind = to_last (next ∷ slots) (slot.number + 1) last end is rising.2 in
      (rising.0, omega (arith, behind.0, behind.1), behind)

  last_behind : (slot : Slot T) (slots : Slots T) (last : ℕ) → IsLast last (slot ∷ slots) → IsLast last slots
  last_behind slot [] last is = tt
  last_behind slot (next ∷ slots) last is = is

  -- without the empty slots in front
  pub trimmed_kept : (slots : Slots T) (first end last : ℕ) → (entries_in (trimmed slots) ≡ entries_in slots)
      × (AreSlotsIncreasing first slots end → AreSlotsIncreasing first (trimmed slots) end)
      × (IsLast last slots → IsLast last (trimmed slots))
      × ¬ IsFrontEmpty (trimmed slots)
  trimmed_kept [] first end last = (refl, λ rising. tt, λ is. tt, λ empty. empty)
  trimmed_kept (slot ∷ slots) first end last =
      grind (
        arith,
        trimmed_kept slots (slot.number + 1) end last,
        rises_within (trimmed slots) (slot.number + 1) first end end,
        last_behind slot slots last,
      )

  -- if the first slot is filled, it is the first filled one
  pub filled_first : (slots : Slots T) (first : ℕ) → ¬ IsFrontEmpty slots
      → (IsFirst first slots → IsFirst first (filter is_filled slots)) × ¬ IsFrontEmpty (filter is_filled slots)
  filled_first [] first filled = (λ is. tt, λ empty. empty)
  filled_first (slot ∷ slots) first filled = grind (arith, filled)

  -- empty slots in front are gone
  pub trimmed_sound : {old new : Slots T} {filled first last front : ℕ} → IsSlotQueueSound old filled first last
      → new ≡ trimmed old → IsFirst front new → IsSlotQueueSound new filled front last
  trimmed_sound {old} {new} {filled} {first} {last} {front} sound is front_is =
      let its = trimmed_kept old first (last + 1) last in record {
        count = grind (arith, sound.count, is, its.0);
        rising = from_first new first front (last + 1) front_is (rw is (its.1 sound.rising));
        first_is = front_is;
        last_is = rw is (its.2 sound.last_is);
      }

  pub only_trimmed : {old new : Slots T} → new ≡ trimmed old → IsClosedUp new → CompactsSlots old new
  only_trimmed {old} is few = record {
    front = rw is (trimmed_kept old 0 0 0).3;
    few = few;
    others = λ _. is;
  }

  -- and the others too
  pub filtered_sound : {old new : Slots T} {filled first last back : ℕ} → IsSlotQueueSound old filled first last
      → ¬ IsFrontEmpty old → new ≡ filter is_filled old → IsLast back new → IsSlotQueueSound new filled first back
  filtered_sound {old} {new} {filled} {first} {last} {back} sound full is back_is =
      let its = kept old first (last + 1) in record {
        count = grind (arith, sound.count, is, its.0);
        rising = to_last new first back (last + 1) back_is (rw is (its.2 sound.rising));
        first_is = rw is ((filled_first old first full).0 sound.first_is);
        last_is = back_is;
      }

  pub all_filled : {old mid new : Slots T} → mid ≡ trimmed old → new ≡ filter is_filled mid → ¬ IsClosedUp mid
      → CompactsSlots old new
  all_filled {old} {mid} {new} trim is many = record {
    front = rw is (filled_first mid 0 (rw trim (trimmed_kept old 0 0 0).3)).1;
    few = grind (arith, is, kept mid 0 0);
    others = λ few. absurd (many (rw trim few));
  }

  pub takes_out : {old emptied new : Slots T} {place : ℕ} {found : Option T} → Replaces old place None found emptied
      → CompactsSlots emptied new → IfSome found (λ item. RemovesSlot old item new)
  takes_out {found = None} empties closes = tt
  takes_out {found = Some item} empties closes = record {
    place = _;
    emptied = _;
    empties = empties;
    closes = closes;
  }

  -- slots at the end are dropped, none of which was filled
  pub record Keeps (start slots : Slots T) : Type 0 where
    pub entries : entries_in slots ≡ entries_in start
    pub rising : (first end : ℕ) → AreSlotsIncreasing first start end → AreSlotsIncreasing first slots end
    pub front : (first : ℕ) → IsFirst first start → IsFirst first slots

  -- ---- one more slot at the end

  abbrev pub AllBelow : List (ℕ × T) → ℕ → Type 0
  AllBelow [] limit = Unit {0}
  AllBelow (entry ∷ entries) limit = (entry.0 < limit) × AllBelow entries limit

  pub all_below : (entries : List (ℕ × T)) (limit : ℕ) → IsAboveAll entries limit → AllBelow entries limit
  all_below [] limit above = tt
  all_below (entry ∷ entries) limit above = (
    above entry.0 entry.1 (grind (arith, nat_tests)),
    all_below entries limit (λ number item found. grind (arith, nat_tests, above number, above entry.0 entry.1)),
  )

  -- a slot at the end with too high a number is empty
  cut_last : (before : Slots T) (slot : Slot T) (first end number : ℕ)
      → (AreSlotsIncreasing first (before ++ slot ∷ []) end → AreSlotsIncreasing first before end)
      × (AllBelow (entries_in (before ++ slot ∷ [])) number → number ≤ slot.number
      → entries_in before ≡ entries_in (before ++ slot ∷ []))
      × (IsFirst first (before ++ slot ∷ []) → IsFirst first before)
  cut_last [] slot first end number = grind arith
  cut_last (head ∷ before) slot first end number = grind (arith, cut_last before slot (head.number + 1) end number)

  pub cut_kept : {start old new : Slots T} {number : ℕ} (popped : Option (Slot T)) → Keeps start old
      → old ≡ new ++ option_to_list popped → IsAboveAll (entries_in start) number → IsBackFrom number old
      → Keeps start new
  cut_kept {new = new} None kept is above back = subst (Keeps _) (is ∙ append-nil new) kept
  cut_kept {start} {new = new} {number} (Some slot) kept is above back =
      let last = same_from_push back.0 new back.1 slot (sym back.2 ∙ is) in
      let under : AllBelow (entries_in (new ++ slot ∷ [])) number =
      rw (← is, kept.entries) (all_below (entries_in start) number above) in record {
        entries = grind (arith, is, last, under, cut_last new slot 0 0 number, kept.entries);
        rising = λ first end rising. (cut_last new slot first end 0).0 (rw is at (kept.rising first end rising));
        front = λ first front. (cut_last new slot first 0 0).2 (rw is at (kept.front first front));
      }

  -- if the last number is below another, all are
  pub rises_to : (slots : Slots T) (first end number : ℕ) → AreSlotsIncreasing first slots end
      → ¬ IsBackFrom number slots → AreSlotsIncreasing first slots number
  rises_to [] first end number rising below = tt
  rises_to (slot ∷ []) first end number rising below =
      grind (arith, λ (high : number ≤ slot.number). below ([], slot, refl, high))
  rises_to (slot ∷ next ∷ slots) first end number rising below =
      grind (
        arith,
        rises_to (next ∷ slots) (slot.number + 1) end number rising.2
            (λ back. below (slot ∷ back.0, back.1, ap (λ (ss : Slots T). slot ∷ ss) back.2, back.3)),
      )

  pub rises_pushed : (slots : Slots T) (first number : ℕ) (item : Option T) → first ≤ number
      → AreSlotsIncreasing first slots number → AreSlotsIncreasing first (slots ++ slot_of number item ∷ [])
      (number + 1)
  rises_pushed [] first number item low rising = (low, omega arith, tt)
  rises_pushed (slot ∷ slots) first number item low rising =
      grind (arith, rises_pushed slots (slot.number + 1) number item)

  -- it is the last, and the first if there is no other
  pub ends_pushed : (slots : Slots T) (first number : ℕ) (item : Option T) → IsFirstWith first slots number
      → (let new = slots ++ slot_of number item ∷ [] in IsFirst first new × IsLast number new)
  ends_pushed [] first number item is = (is, refl)
  ends_pushed (slot ∷ slots) first number item is = (is, last_at (slot ∷ slots) (slot_of number item))

  -- ---- from a number on

  -- what divides slots divides those after the first
  behind_first : {slot : Slot T} {slots : Slots T} {number place : ℕ} → Divides (slot ∷ slots) number place
      → (next : ℕ) → (0 < next → next < place) → place ≤ next + 1 → Divides slots number next
  behind_first divides next less more = record {
    below = λ p s at under. divides.below (suc p) s at (omega arith);
    above = λ p s at over. divides.above (suc p) s at (omega arith);
  }

  pub divided : (slots : Slots T) (number place : ℕ) → Divides slots number place
      → entries_in (drop place slots) ≡ filter (is_from number) (entries_in slots)
  divided [] number zero divides = refl
  divided [] number (suc place) divides = refl
  divided (slot ∷ slots) number zero divides = grind (
    arith,
    nat_tests,
    divides.above zero slot refl,
    divided slots number zero (behind_first divides 0 (omega arith) (omega arith)),
  )
  divided (slot ∷ slots) number (suc place) divides = grind (
    arith,
    nat_tests,
    divides.below zero slot refl,
    divided slots number place (behind_first divides place (omega arith) (omega arith)),
  )

  pub all_from : (entries : List (ℕ × T)) (number : ℕ) → AreFrom number (filter (is_from number) entries)
  all_from [] number = tt
  all_from (entry ∷ entries) number = grind (arith, nat_tests, all_from entries number)

  pub drop_slot : (slots : Slots T) (place : ℕ) (slot : Slot T) → IsSlotAt slots place slot
      → drop place slots ≡ slot ∷ drop (place + 1) slots
  drop_slot (first ∷ slots) (suc place) slot at = grind (arith, drop_slot slots place slot at)
  drop_slot slots place slot at = grind (arith, at)

  pub entries_dropped : (slots : Slots T) (place : ℕ) (slot : Slot T) → IsSlotAt slots place slot
      → slot.item ≡ None → entries_in (drop place slots) ≡ entries_in (drop (place + 1) slots)
  entries_dropped slots place slot at empty = grind (arith, drop_slot slots place slot at)

  -- the first stored item, if any, is the first to be removed
  pub first_filed : (old : List (ℕ × T)) (first : Option ℕ) → first ≡ first_number (filter (is_from 0) old)
      → MatchOption first (old ≡ []) (λ number. MatchOption (lookup (is_at (nat_cmp number)) old) ⊥
      (λ item. old ≡ (number, item) ∷ remove_entry (is_at (nat_cmp number)) old))
  first_filed [] first is = grind (arith, is)
  first_filed (entry ∷ old) first is = grind (arith, nat_tests, is)

  -- ---- how many are stored before a number's position, and from it on

  -- at most as many are stored before a position as there are slots
  entries_to : (slots : Slots T) (place : ℕ)
      → length (entries_in slots) ≤ place + length (entries_in (drop place slots))
  entries_to (slot ∷ slots) (suc place) = grind (arith, entries_to slots place)
  entries_to slots place = omega arith

  -- whatever position divides the slots, at most this many are stored below the number
  pub filed_before : {slots : Slots T} {number place : ℕ} → Divides slots number place
      → (length (filter (is_below number) (entries_in slots)) ≤ place)
      × (length (filter (is_below number) (entries_in slots)) ≤ length (entries_in slots))
  filed_before {slots} {number} {place} divides = grind (
    arith,
    divided slots number place divides,
    length-filter_both (is_below number) (is_from number) (λ _. refl) (entries_in slots),
    entries_to slots place,
  )

  pub filed : {slots : Slots T} {number place : ℕ} → Divides slots number place → place ≤ length slots
      → (length (filter (is_below number) (entries_in slots)) ≤ place)
      × (place + length (filter (is_from number) (entries_in slots)) ≤ length slots)
  filed {slots} {number} {place} divides within = grind (
    arith,
    divided slots number place divides,
    filed_before divides,
    entries_fit (drop place slots),
    length-drop place slots,
  )
