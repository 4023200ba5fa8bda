-- Deadlines with equal times. `StateLaws` rest on it.
use Rattle.std.proofs.Common.{◌≡◌, ℕ, zero, suc, ◌+◌, nat_eq, cond, List, [], ◌∷◌, length, map, take, get_or, Option, None, Some, refl, arith}
use Rattle.std.proofs.lemmas.Bool.Decides.{nat_tests}
use Rattle.recovery_ids.specs.LocalIds.{without_last_at, with_deadline, deadlines_with, AreIncreasingWithin}
use Rattle.recovery_ids.specs.declared.state.CidTimestamp.{CidTimestamp}
use Rattle.recovery_ids.proofs.RiseLaws.{Rise-wider}

abbrev made : ℕ → ℕ → CidTimestamp
made number moment = record { sequence = number; timestamp = moment }

-- ---- the numbers of the deadlines increase

abbrev numbers_of : List CidTimestamp → List ℕ
numbers_of deadlines = map (λ deadline. deadline.sequence) deadlines

with_deadline-rise : (low number moment : ℕ) (deadlines : List CidTimestamp) → AreIncreasingWithin low number
    (numbers_of deadlines)
    → AreIncreasingWithin low (number + 1) (numbers_of (with_deadline (made number moment) deadlines))
with_deadline-rise _ _ _ [] rise = grind arith
with_deadline-rise _ _ _ (_ ∷ []) rise = grind arith
with_deadline-rise _ number moment (first ∷ next ∷ later) rise =
    (rise.0, with_deadline-rise (first.sequence + 1) number moment (next ∷ later) rise.1)

-- a number above all others keeps them increasing
pub deadlines_with-rise : (lifetime : Option ℕ) (now low number : ℕ) (deadlines : List CidTimestamp)
    → AreIncreasingWithin low number (numbers_of deadlines)
    → AreIncreasingWithin low (number + 1) (numbers_of (deadlines_with lifetime now number deadlines))
deadlines_with-rise None _ _ _ _ rise =
    Rise-wider _ _ _ _ _ rise (omega arith) (omega arith)
deadlines_with-rise (Some lifetime) now low number deadlines rise = grind (
  arith,
  nat_tests,
  Rise-wider low _ low (number + 1) (numbers_of deadlines) rise,
  with_deadline-rise low _ (now + lifetime) deadlines rise,
)

-- ---- the last deadline by its position

pub last_at : (moment : ℕ) (deadlines : List CidTimestamp) (place : ℕ) (last : CidTimestamp)
    → place + 1 ≡ length deadlines → last ≡ get_or deadlines place last →
    without_last_at moment deadlines ≡ cond (nat_eq last.timestamp moment) (take place deadlines) deadlines
last_at _ [] _ last ends there = absurd (omega arith)
last_at _ (_ ∷ []) zero _ _ there = rw there refl
last_at moment (only ∷ []) (suc place) last ends there = absurd (omega arith)
last_at moment (first ∷ next ∷ later) zero last ends there = absurd (omega arith)
last_at moment (first ∷ next ∷ later) (suc place) last ends there =
    grind (arith, nat_tests, last_at moment (next ∷ later) place last (omega arith) there)
