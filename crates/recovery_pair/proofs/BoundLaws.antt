-- What is in flight by the log exceeds the largest window by probes at most.
use Rattle.std.proofs.Common.{◌≡◌, ℕ, ◌+◌, ◌≤◌, ◌&&◌, ◌||◌, Bool, true, false, [], ◌∷◌, Option, None, Some, Ok, refl, arith}
use Rattle.std.specs.Prelude.{if◌then◌else◌, is_some, max, not}
use Rattle.recovery_base.specs.declared.below.SpaceId.{SpaceId}
use Rattle.recovery_pair.specs.declared.steps.End.{End}
use Rattle.recovery_pair.specs.declared.steps.End.TheVariants.{Client, Server}
use Rattle.recovery_pair.specs.declared.steps.PairAnswer.TheVariants.{Sent}
use Rattle.recovery_pair.specs.declared.steps.PairStep.TheVariants.{Send}
use Rattle.recovery_pair.specs.Flights.{Numbers, counted_if, ends_at, flight, flight_of, largest_window, no_numbers}
use Rattle.recovery_pair.specs.Logs.{PairEvent, PairLog, same_end}
use Rattle.recovery_pair.specs.Promises.Excess.{ExceedsByProbes}
use Rattle.recovery_pair.specs.Promises.Window.{SendsWithinWindow}
use Rattle.recovery_pair.proofs.FlightLaws.{sums}

-- ---- what is in flight was sent for a checked window, or as a probe

parts_head : (here checked is_gone eliciting : Bool) (size all some none : ℕ) → all ≡ some + none
    → (if here && true then (if is_gone then 0 else counted_if eliciting size) else 0) + all
    ≡ ((if here && checked then (if is_gone then 0 else counted_if eliciting size) else 0) + some)
    + ((if here && not checked then (if is_gone then 0 else counted_if eliciting size) else 0) + none)
parts_head true true is_gone eliciting size all some none same = omega (arith, same)
parts_head true false is_gone eliciting size all some none same = omega (arith, same)
parts_head false checked is_gone eliciting size all some none same = omega (arith, same)

module _ (end : End) where
  parts : (gone : Numbers) (log : PairLog) → flight_of end (λ window. true) gone log
      ≡ flight_of end is_some gone log + flight_of end (λ window. not (is_some window)) gone log
  parts gone [] = refl
  parts gone ((Send from there now size, Ok (Sent number items eliciting window delay)) ∷ earlier) =
      parts_head (same_end from end) (is_some window) (gone there number) eliciting size
      (flight_of end (λ window. true) gone earlier) (flight_of end is_some gone earlier)
      (flight_of end (λ window. not (is_some window)) gone earlier) (parts gone earlier)
  parts gone (event ∷ earlier) = parts (λ space n. ends_at end event space n || gone space n) earlier

  -- ---- fewer numbers are gone

  left_gone : (left gone fewer : Bool) → (fewer ≡ true → gone ≡ true) → (left || fewer) ≡ true
      → (left || gone) ≡ true
  left_gone true gone fewer by is = refl
  left_gone false gone fewer by is = by is

  less_head : (here is_gone fewer eliciting : Bool) (size : ℕ) → (fewer ≡ true → is_gone ≡ true)
      → (if here then (if is_gone then 0 else counted_if eliciting size) else 0)
      ≤ (if here then (if fewer then 0 else counted_if eliciting size) else 0)
  less_head false is_gone fewer eliciting size by = omega arith
  less_head true true fewer eliciting size by = omega arith
  less_head true false false eliciting size by = omega arith
  less_head true false true eliciting size by = absurd (let never = by refl in cc)

  less : (is_such : Option ℕ → Bool) (gone fewer : Numbers) (log : PairLog)
      → ((space : SpaceId) (n : ℕ) → fewer space n ≡ true → gone space n ≡ true)
      → flight_of end is_such gone log ≤ flight_of end is_such fewer log
  less is_such gone fewer [] by = omega arith
  less is_such gone fewer ((Send from there now size, Ok (Sent number items eliciting window delay)) ∷ earlier) by =
      sums _ _ _ _ (less_head (same_end from end && is_such window) (gone there number) (fewer there number) eliciting
      size (by there number)) (less is_such gone fewer earlier by)
  less is_such gone fewer (event ∷ earlier) by =
      less is_such (λ space n. ends_at end event space n || gone space n)
      (λ space n. ends_at end event space n || fewer space n) earlier
      (λ space n. left_gone (ends_at end event space n) (gone space n) (fewer space n) (by space n))

  -- what was sent for a checked window
  abbrev pub checked_flight : PairLog → ℕ
  checked_flight = flight_of end is_some no_numbers

  not_more : (event : PairEvent) (log : PairLog)
      → flight_of end is_some (λ space n. ends_at end event space n || no_numbers space n) log ≤ checked_flight log
  not_more event log = less is_some (λ space n. ends_at end event space n || no_numbers space n) no_numbers log
      (λ space n never. absurd cc)

  checked_all : (log : PairLog) → checked_flight log ≤ flight end log
  checked_all log = let both = parts no_numbers log in omega (arith, both)

-- ---- step by step

most : (a b : ℕ) → a ≤ max a b
most a b = grind arith

sent_within : (eliciting : Bool) (size window checked all largest : ℕ) → all + size ≤ window → checked ≤ all
    → (if true then counted_if eliciting size else 0) + checked ≤ max window largest
sent_within true size window checked all largest fits less =
    let most_is = most window largest in omega (arith, fits, less, most_is)
sent_within false size window checked all largest fits less =
    let most_is = most window largest in omega (arith, fits, less, most_is)

none_more : (checked largest : ℕ) → checked ≤ largest → 0 + checked ≤ largest
none_more checked largest less = omega (arith, less)

pub within_on : (log : PairLog) (event : PairEvent) → SendsWithinWindow log event
    → ((end : End) → flight_of end is_some no_numbers log ≤ largest_window end log)
    → (end : End) → flight_of end is_some no_numbers (event ∷ log) ≤ largest_window end (event ∷ log)
within_on log (Send Client there now size, Ok (Sent number items eliciting (Some window) delay)) fits before Client =
    sent_within eliciting size window (checked_flight Client log) (flight Client log) (largest_window Client log) fits
    (checked_all Client log)
within_on log (Send Server there now size, Ok (Sent number items eliciting (Some window) delay)) fits before Server =
    sent_within eliciting size window (checked_flight Server log) (flight Server log) (largest_window Server log) fits
    (checked_all Server log)
within_on log (Send Client there now size, Ok (Sent number items eliciting (Some window) delay)) fits before Server =
    none_more (checked_flight Server log) (largest_window Server log) (before Server)
within_on log (Send Server there now size, Ok (Sent number items eliciting (Some window) delay)) fits before Client =
    none_more (checked_flight Client log) (largest_window Client log) (before Client)
within_on log (Send Client there now size, Ok (Sent number items eliciting None delay)) fits before Client =
    none_more (checked_flight Client log) (largest_window Client log) (before Client)
within_on log (Send Server there now size, Ok (Sent number items eliciting None delay)) fits before Server =
    none_more (checked_flight Server log) (largest_window Server log) (before Server)
within_on log (Send Client there now size, Ok (Sent number items eliciting None delay)) fits before Server =
    none_more (checked_flight Server log) (largest_window Server log) (before Server)
within_on log (Send Server there now size, Ok (Sent number items eliciting None delay)) fits before Client =
    none_more (checked_flight Client log) (largest_window Client log) (before Client)
within_on log event fits before end = both _ _ _ (not_more end event log) (before end)
  where
    both : (a b c : ℕ) → a ≤ b → b ≤ c → a ≤ c
    both a b c one two = omega (arith, one, two)

pub exceeds_by : (log : PairLog) → ((end : End) → flight_of end is_some no_numbers log ≤ largest_window end log)
    → ExceedsByProbes log
exceeds_by log within end = let both = parts end no_numbers log in let less = within end in omega (arith, both, less)
