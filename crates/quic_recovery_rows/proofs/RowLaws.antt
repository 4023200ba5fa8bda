-- What the proofs of worked rows cite: when the ACK delay timer starts, and which numbers are new. The rows of the
-- table of replies rest on it.
use Rattle.std.proofs.Common.{◌≡◌, ◌∙◌, ℕ, Bool, not, true≢false, ◌+◌, ◌<◌, ◌≤◌, ◌^◌, ◌↔◌, ◌⊎◌, true, false, List, IsTrue, IsSome, min, nat_lt, ltb-true, [], ◌∷◌, Option, None, Some, refl, arith, inl, inr, lt_irrefl, get_or, nat_eq, ap, sym, subst}
use Rattle.std.proofs.lemmas.Bool.{eqb-false}
use Rattle.recovery_acks.specs.Acks.{IsOutOfOrder}
use Rattle.recovery_acks.specs.Runs.{Ascend, AtMost}
use Rattle.recovery_base.specs.Numbers.{IsNewNumber}
use Rattle.recovery_ids.specs.RemoteIds.{IdTable, IsLeastHeld}
use Rattle.recovery_events.specs.declared.event.Answer.{Answer}
use Rattle.recovery_events.specs.declared.event.Answer.TheVariants as answer

-- a space that was not discarded rejects nothing for that
pub unrefused : ¬ IsTrue false
unrefused = λ h. cc

-- a number below a limit does not reach it
pub small : {limit n : ℕ} → nat_lt n limit ≡ true → ¬ (limit ≤ n)
small {limit} {n} below above = let less = ltb-true n limit below in omega (arith, less, above)

-- nor do the counters of a path
pub fits : {bytes eliciting : ℕ} → nat_lt bytes (2 ^ 64) ≡ true → nat_lt eliciting (2 ^ 64) ≡ true
    → ¬ ((2 ^ 64 ≤ bytes) ⊎ (2 ^ 64 ≤ eliciting))
fits few rare (inl many) = small few many
fits few rare (inr often) = small rare often

-- a value of a time, of a size, of bytes in flight or of a number
abbrev pub said : {Q : Type 0} → Answer Q → ℕ
said (answer.Delayed until) = until
said (answer.Probe number size) = size
said (answer.InFlight bytes eliciting) = bytes
said (answer.Sent number forgotten) = number
said other = 0

-- an answer of two
abbrev pub says_yes : {Q : Type 0} → Answer Q → Bool
says_yes (answer.Acked probe) = probe
says_yes (answer.Lost probe) = probe
says_yes (answer.BlackHole found) = found
says_yes (answer.Flag holds) = holds
says_yes (answer.Probe number size) = true
says_yes (answer.Timeout moment) = true
says_yes answer.Transmitted = true
says_yes answer.Ready = true
says_yes other = false

not_opposite : (b : Bool) → ¬ (b ≡ not b)
not_opposite true same = true≢false same
not_opposite false same = true≢false (sym same)

-- answers are different if they are opposite flags, or have other numbers
pub unlike : {Q : Type 0} {one other : Answer Q} → one ≡ other → ¬ (says_yes one ≡ not (says_yes other))
unlike {one = one} {other = other} same opposite = not_opposite (says_yes other) (sym (ap says_yes same) ∙ opposite)

pub uneven : {Q : Type 0} {one other : Answer Q} → one ≡ other → ¬ (nat_eq (said one) (said other) ≡ false)
uneven same apart = eqb-false _ _ apart (ap said same)

pub some_is_none : {A : Type 0} {x : A} → ¬ (Some x ≡ None)
some_is_none h = cc

-- lists that begin with other numbers are different
pub differ : {one other : List ℕ} → nat_eq (get_or one 0 0) (get_or other 0 0) ≡ false → ¬ (one ≡ other)
differ apart same = eqb-false _ _ apart (ap (λ id. get_or id 0 0) same)

-- the ACK delay timer is started: it was not, and no ACK is required at once
pub calm : {Started Required Asks : Type 0} → ¬ Started → ¬ Required → ¬ Asks
    → IsTrue true × (¬ Started) × ¬ (Required ⊎ Asks)
calm started required asks = (refl, started, λ h. elim h [ inl r ↦ required r | inr a ↦ asks a ])

pub at_first : {Asks : Type 0} → ¬ Asks → IsTrue true × (¬ (ℕ × ⊥)) × ¬ (⊥ ⊎ Asks)
at_first asks = calm (λ s. s.1) (λ r. r) asks

pub starts : {Arms : Type 0} → Arms → IsTrue true ↔ Arms
starts all = (λ on. all, λ h. refl)

-- and it is not
pub stays : {Arms : Type 0} → ¬ Arms → IsTrue false ↔ Arms
stays not = (λ on. absurd (unrefused on), λ all. absurd (not all))

-- the first packet since an ACK requires none at once, if its number is the largest or the one after it
pub in_turn : {Numbers : ℕ → Type 0} (before step : ℕ) (acknowledged : Option ℕ) → step ≤ 1
    → ¬ ((1 < 1) ⊎ IsOutOfOrder Numbers 1 acknowledged before (before + step) (before + step))
in_turn before step acknowledged near (inl many) = omega (arith, many)
in_turn before step acknowledged near (inr (inl (one, inl below))) = omega (arith, below)
in_turn before step acknowledged near (inr (inl (one, inr (m, missing)))) = omega (arith, near, missing.0, missing.1)
in_turn before step acknowledged near (inr (inr many)) = omega (arith, many.0)

-- 1 is missing below a number: so an ACK is required at once, and no timer is started
pub leaves_a_gap : {Started Required : Type 0} {Numbers : ℕ → Type 0} {high : ℕ} → 1 < high → ¬ Numbers 1
    → ((m : ℕ) → Numbers m → m ≤ 129)
    → IsTrue false ↔ (IsTrue true × (¬ Started) × ¬ (Required ⊎ ((1 < 1) ⊎ IsOutOfOrder Numbers 1 None 0 high high)))
leaves_a_gap below lacks window =
    stays (λ all. all.2 (inr
    (inr (inl (refl, inr (1, (omega arith, below, (lacks, window), λ m low less missing. low)))))))

-- three may be received without an ACK, and nothing was acknowledged yet
pub patient : {Numbers : ℕ → Type 0} (number : ℕ) → ¬ ((3 < 1) ⊎ IsOutOfOrder Numbers 2 None 0 number number)
patient number (inl many) = omega (arith, many)
patient number (inr (inl one)) = omega (arith, one.0)
patient number (inr (inr more)) = more.1

-- 3 is missing, one below 4, after 2 was acknowledged
pub not_far : {Numbers : ℕ → Type 0} → Numbers 2 → ¬ ((3 < 1) ⊎ IsOutOfOrder Numbers 2 (Some 2) 2 4 4)
not_far two (inl many) = omega (arith, many)
not_far two (inr (inl one)) = omega (arith, one.0)
not_far {Numbers} two (inr (inr (more, (enough, (m, missing, far))))) =
    let is : m ≡ 2 = omega (arith, missing.0, far) in missing.2.0 (subst Numbers (sym is) two)

-- a number that was received before is not new, nor is one that is too far below it
pub came_again : {Numbers : ℕ → Type 0} (n : ℕ) → Numbers n → ¬ IsNewNumber Numbers n
came_again n came (inl above) = lt_irrefl n (above n came)
came_again n came (inr missing) = missing.0 came

pub too_old : {Numbers : ℕ → Type 0} {n : ℕ} (m : ℕ) → Numbers m → n + 128 < m → ¬ IsNewNumber Numbers n
too_old m came far (inl above) = let below = above m came in omega (arith, far, below)
too_old m came far (inr missing) = let within = missing.1 m came in omega (arith, far, within)

-- one number ends at most one run
pub one_run : (P : ℕ → Type 0) (k : ℕ) → ((m : ℕ) → P m → m ≡ k) → AtMost 64 P
unfolding Ascend
one_run P k only [] rise = omega arith
one_run P k only (n ∷ []) rise = omega arith
one_run P k only (n ∷ m ∷ rest) rise =
    let first = only n rise.1 in
    let next = only m rise.2.1 in
    absurd (omega (arith, rise.2.0, first, next))

-- four causes of errors that do not hold
pub taken : {a b c d limit low least most : ℕ} {Told : Type 0} → nat_lt a limit ≡ true → nat_lt b low ≡ true
    → nat_lt c least ≡ true → nat_lt d most ≡ true → Told
    → (¬ (limit ≤ a)) × ((¬ (low ≤ b)) × ((¬ (least ≤ c)) × ((¬ (most ≤ d)) × Told)))
taken first second third fourth told = (small first, (small second, (small third, (small fourth, told))))

-- a frame moves the active number to the smallest one that is held
pub moves : {held : IdTable} {active low start end : ℕ} {token : List ℕ} (next : ℕ) (id : List ℕ)
    → nat_lt active low ≡ true
    → start ≡ active → end ≡ min next (active + 8) → held next ≡ Some (id, Some token)
    → ((m : ℕ) → m < next → held m ≡ None)
    → (active < low) × (start ≡ active) × (n : ℕ) × IsLeastHeld held 0 n × (end ≡ min n (active + 8))
    × ((given : List ℕ) × (held n ≡ Some (given, Some token)))
moves {held} {active} {low} next id above starts ends is gone = (
  ltb-true active low above,
  starts,
  next,
  record {
    bound = omega arith;
    is_held = subst (λ h. IsSome h) (sym is) refl;
    least = λ m bound less. gone m less;
  },
  ends,
  (id, is),
)
