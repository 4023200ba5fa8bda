-- A walk over the slots from one number on and up to another: what it passes, what it finds, and how long it is.
-- `SlotQueue::entry_between` rests on it.
use Rattle.std.proofs.Common.{◌≡◌, ℕ, zero, suc, ◌+◌, ◌-◌, ◌<◌, ◌≤◌, List, [], ◌∷◌, length, drop, None, Some, refl, sym, subst, ◌∙◌, arith}
use Rattle.std.proofs.lemmas.Bool.Decides.{nat_tests}
use Rattle.std.proofs.lemmas.List.{drop_all}
use Rattle.recovery_queue.specs.declared.slots.Slot.{Slot}
use Rattle.recovery_queue.specs.Slots.{entries_in, AreSlotsIncreasing, IsSlotAt, Divides, IsIncreasing, IsWithinDigits, IsWithinWalk, AreFrom, entries_from, first_entry}
use Rattle.recovery_queue.proofs.SlotLaws.{Slots, slot_there, stands, apart, divides_at}
use Rattle.recovery_queue.proofs.SlotEntryLaws.{divided, all_from, drop_slot, entries_dropped}

module _ {T : Type 0} where
  -- the slots between two positions have numbers below this one
  abbrev ArePassed : Slots T → ℕ → ℕ → ℕ → Type 0
  ArePassed slots until start place =
      (p : ℕ) (slot : Slot T) → IsSlotAt slots p slot → start ≤ p → p < place → slot.number < until

  -- ---- how long it is

  -- a number's first position is not after any other of its positions
  no_later : (slots : Slots T) (from start low : ℕ) → Divides slots from start → Divides slots from low
      → start < length slots → low ≤ start
  no_later slots from start low divides first within =
      let its = slot_there slots start within in
      grind (arith, first.below start its.0 its.1, divides.above start its.0 its.1)

  -- a slot with a number below another is before the position of that one
  before_it : (slots : Slots T) (until start last high : ℕ) → ArePassed slots until start (suc last)
      → Divides slots until high → start ≤ last → last < length slots → last < high
  before_it slots until start last high passed divides over within =
      let its = slot_there slots last within in
      grind (arith, passed last its.0 its.1, divides.above last its.0 its.1)

  -- at most as many slots are passed as there are positions between those of the two numbers
  stretch : (slots : Slots T) (from until start place low high : ℕ) → Divides slots from start
      → ArePassed slots until start place → place ≤ length slots → Divides slots from low → Divides slots until high
      → place - start ≤ high - low
  stretch slots from until start zero low high divides passed within first last = omega arith
  stretch slots from until start (suc place) low high divides passed within first last = grind (
    arith,
    within,
    no_later slots from start low divides first,
    before_it slots until start place high passed last,
  )

  -- ---- what it passes and finds

  -- a walk has reached a position: the slots that it passed are empty, and their numbers are below the end
  pub record Walks (slots : Slots T) (from end start place : ℕ) : Type 0 where
    pub rises : IsIncreasing slots
    pub divides : Divides slots from start
    pub entries : entries_from from slots ≡ entries_in (drop place slots)
    pub passed : ArePassed slots end start place

  pub walk_begun : {slots : Slots T} {from end start : ℕ} → IsIncreasing slots → Divides slots from start
      → Walks slots from end start start
  walk_begun {slots} rises divides = record {
    rises = rises;
    divides = divides;
    entries = sym (divided slots _ _ divides);
    passed = λ p slot at over under. absurd (omega (arith, over, under));
  }

  pub lower : (entries : List (ℕ × T)) (low high : ℕ) → low ≤ high → AreFrom high entries → AreFrom low entries
  lower [] low high over from = tt
  lower (entry ∷ entries) low high over from = (omega (arith, over, from.0), lower entries low high over from.1)

  -- no number is below the first
  pub none_before : (slots : Slots T) (first end number : ℕ) → AreSlotsIncreasing first slots end
      → AreFrom first (entries_from number slots)
  none_before [] first end number rising = tt
  none_before (slot ∷ slots) first end number rising = grind (
    arith,
    nat_tests,
    none_before slots (slot.number + 1) end number,
    lower (entries_from number slots) first (slot.number + 1),
  )

  pub divides_first : (slots : Slots T) (first end number : ℕ) → AreSlotsIncreasing first slots end → number < first
      → Divides slots number 0
  divides_first slots first end number rising below = record {
    below = λ p slot at under. absurd (omega (arith, under));
    above = λ p slot at over. omega (arith, stands slots first end p slot rising at);
  }

  -- it reaches a slot
  module _ {slots : Slots T} {from end start place : ℕ} (slot : Slot T) (walk : Walks slots from end start place)
      (at : IsSlotAt slots place slot) where
    -- which is empty, and is passed
    pub walk_on : slot.item ≡ None → slot.number < end → Walks slots from end start (place + 1)
    walk_on empty below = record {
      rises = walk.rises;
      divides = walk.divides;
      entries = walk.entries ∙ entries_dropped slots place slot at empty;
      passed = λ p other there over under.
          omega (arith, below, apart slots p place other slot walk.rises there at (omega (arith, under)));
    }

    -- nothing is stored below its number
    pub walk_to : {limit : ℕ} → limit ≤ slot.number → AreFrom limit (entries_from from slots)
    walk_to over =
        let here = divided slots slot.number place (divides_at slots slot.number place slot walk.rises at refl) in
        lower _ _ slot.number over
        (subst (AreFrom slot.number) (sym here ∙ sym walk.entries) (all_from (entries_in slots) slot.number))

    -- what is stored there is first
    pub walk_found : {item : T} → slot.item ≡ Some item
        → first_entry (entries_from from slots) ≡ Some (slot.number, item)
    walk_found is = grind (arith, walk.entries, drop_slot slots place slot at, is)

    -- this many slots were read
    pub walk_looks : {looks : ℕ} → place < length slots → IsWithinDigits looks (length slots)
        → IsWithinWalk slots from end (looks + (place - start) + 1)
        × IsWithinWalk slots from slot.number (looks + (place - start) + 1)
    walk_looks within few = (
      λ digits low high fits first last. omega (
        arith,
        few digits fits,
        stretch slots from end start place low high walk.divides walk.passed (omega (arith, within)) first last,
      ),
      λ digits low high fits first last. omega (
        arith,
        few digits fits,
        stretch slots from slot.number start place low high walk.divides
            (λ p other there over. (divides_at slots slot.number place slot walk.rises at refl).below p other there)
            (omega (arith, within)) first last,
      ),
    )

  -- it reaches the end of the slots
  module _ {slots : Slots T} {from end start place : ℕ} (walk : Walks slots from end start place)
      (over : length slots ≤ place) where
    pub walk_out : AreFrom end (entries_from from slots)
    walk_out = rw (walk.entries, drop_all place slots over) tt

    pub all_looks : {looks left : ℕ} → IsWithinDigits looks (length slots) → left ≡ length slots - start
        → IsWithinWalk slots from end (looks + left)
    all_looks few is = λ digits low high fits first last. omega (
      arith,
      is,
      few digits fits,
      stretch slots from end start (length slots) low high walk.divides
          (λ p slot at from_start under. walk.passed p slot at from_start (omega (arith, over, under)))
          (omega arith) first last,
    )
