-- The packets with which ECN counts are compared.
use Rattle.std.proofs.Common.{◌≡◌, ℕ, ◌+◌, ◌<◌, true, false, Bool, List, [], ◌∷◌, ◌++◌, filter, length, take, get_or, refl, if◌then◌else◌, arith}
use Rattle.std.proofs.lemmas.List.{take_more}
use Rattle.std.specs.Option.{is_some}
use Rattle.recovery_base.specs.declared.below.SpaceId.{SpaceId}
use Rattle.recovery_history.specs.RecoveryState.{RecoveryState}
use Rattle.recovery_sender.specs.Acking.{count_sent_on, sent_on}

-- an item more
count_one : (keeps : ℕ → Bool) (numbers : List ℕ) (number : ℕ) (test : Bool) → keeps number ≡ test
    → length (filter keeps (numbers ++ number ∷ [])) ≡ length (filter keeps numbers) + (if test then 1 else 0)
count_one keeps [] number true is = rw is refl
count_one keeps [] number false is = rw is refl
count_one keeps (first ∷ numbers) number test is = by (keeps first) refl (count_one keeps numbers number test is)
  where
    by : (held : Bool) → keeps first ≡ held
        → length (filter keeps (numbers ++ number ∷ [])) ≡ length (filter keeps numbers) + (if test then 1 else 0)
        → length (filter keeps (first ∷ numbers ++ number ∷ []))
        ≡ length (filter keeps (first ∷ numbers)) + (if test then 1 else 0)
    by true held rest = rw held (omega (arith, rest))
    by false held rest = rw held rest

module _ {K P M : Type 0} (recovery : RecoveryState K P M) (space : SpaceId) (numbers : List ℕ) (at : ℕ)
    (within : at < length numbers) where
  pub counts_one : (test : Bool) → is_some (sent_on recovery space (get_or numbers at 0)) ≡ test
      → count_sent_on recovery space (take (at + 1) numbers)
      ≡ count_sent_on recovery space (take at numbers) + (if test then 1 else 0)
  counts_one test is = rw (take_more numbers at 0 within)
      (count_one (λ number. is_some (sent_on recovery space number)) (take at numbers) (get_or numbers at 0) test is)
