-- A quantity that changes at given times.
use Rattle.std.specs.Prelude.{ℕ, nat_le, List, [], ◌∷◌, filter}
use Rattle.recovery_network.specs.declared.schedule.Change.{Change}

-- the value of the last of these changes, or the first value if there is none
abbrev pub last_value : ℕ → List Change → ℕ
last_value first [] = first
last_value first (change ∷ later) = last_value change.value later

-- the value of the last change that is not after this time; before all of them, the first value
abbrev pub value_at : ℕ → List Change → ℕ → ℕ
value_at first changes now = last_value first (filter (λ change. nat_le change.from now) changes)
