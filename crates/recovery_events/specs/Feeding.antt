-- The items that a source gives and a sink takes.
use Rattle.std.specs.Prelude.{◌≡◌, ◌<◌, List, [], ◌∷◌, ◌++◌, length, vec_capacity}
use Rattle.std.specs.Global.{Vec}

-- a sink takes all items, in order
abbrev pub TakesAll : {S T : Type 0} → (S → T → S → Type 0) → S → List T → S → Type 0
TakesAll takes old [] new = new ≡ old
TakesAll {S} takes old (item ∷ items) new =
    (between : S) × takes old item between × TakesAll takes between items new

-- a source gave items, and a sink took them
pub record Feeds {E S T : Type 0} (gives : E → List T → E → Type 0) (takes : S → T → S → Type 0) (source left : E)
    (old new : S) : Type 0 where
  pub items : List T
  pub given : gives source items left
  pub taken : TakesAll takes old items new

-- an item within the capacity is appended
abbrev pub PushesInto : {T : Type 0} → Vec T → T → Vec T → Type 0
PushesInto old item new = length old.items < vec_capacity old
    → (new.items ≡ old.items ++ item ∷ []) × (vec_capacity new ≡ vec_capacity old)
