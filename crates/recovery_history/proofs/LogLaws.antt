-- The law of one entry gives the law of one event, whatever the events are. `StateAfterLaws` apply it to each part.
use Rattle.std.proofs.Common.{List, ◌∷◌, Option, None, Some, sym, subst}
use Rattle.recovery_history.specs.Logs.{onto, OptionalStep}

pub left_by_entry : {E S : Type 0} → (Step : E → S → S → Type 0) (Left : List E → S → Type 0)
    → ((entry : E) (log : List E) (old new : S) → Left log old → Step entry old new → Left (entry ∷ log) new)
    → (entry : Option E) (log : List E) (old new : S) → Left log old → OptionalStep Step entry old new
    → Left (onto entry log) new
left_by_entry Step Left law None log old new left same = subst (Left log) (sym same) left
left_by_entry Step Left law (Some entry) log old new left step = law entry log old new left step
