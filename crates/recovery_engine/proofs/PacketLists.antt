-- Packets with their items, in order.
use Rattle.std.proofs.Common.{◌≡◌, ℕ, ◌+◌, ◌<◌, List, [], ◌∷◌, ◌++◌, length, take, get_or, sym, ap, ◌∙◌}
use Rattle.std.proofs.lemmas.List.{append_assoc, append-nil, take_more}
use Rattle.recovery_spaces.specs.Packets.{Packets}
use Rattle.recovery_engine.specs.Kept.{items_of, packets_listed}

module _ (packets : Packets (List ℕ) (Unit {0})) where
  abbrev one : ℕ → List ℕ
  one number = number ∷ length (items_of packets number) ∷ items_of packets number

  one_behind : (numbers : List ℕ) (number : ℕ)
      → packets_listed packets (numbers ++ number ∷ []) ≡ packets_listed packets numbers ++ one number
  one_behind [] number = append-nil (one number)
  one_behind (first ∷ numbers) number =
      ap (λ rest. one first ++ rest) (one_behind numbers number)
      ∙ sym (append_assoc (one first) (packets_listed packets numbers) (one number))

  pub listed_more : (numbers : List ℕ) (at : ℕ) → at < length numbers
      → packets_listed packets (take (at + 1) numbers)
      ≡ packets_listed packets (take at numbers) ++ one (get_or numbers at 0)
  listed_more numbers at there =
      ap (packets_listed packets) (take_more numbers at 0 there) ∙ one_behind (take at numbers) (get_or numbers at 0)
