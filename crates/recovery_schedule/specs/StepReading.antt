-- How the parser reads a step. Only the grammar in Steps.antt defines what a line means.
use Rattle.std.specs.Prelude.{ℕ, List, ◌∷◌, [], Option, Some, None, if◌then◌else◌, bytes_eq}
use lib.Chars.{codes}
use Rattle.recovery_pair.specs.declared.steps.End.{End}
use Rattle.recovery_pair.specs.declared.steps.End.TheVariants.{Client, Server}
use Rattle.recovery_pair.specs.declared.steps.PairStep.{PairStep}
use Rattle.recovery_script_syntax.specs.Reading.{◌>>=◌, field, line_behind, named, reading}
use Rattle.recovery_schedule.specs.Steps.{SaysHand, arrive, end_forms}

abbrev pub end_names : List (List ℕ × End)
end_names = (codes "client", Client) ∷ (codes "server", Server) ∷ []

unfoldable pub end_of : List ℕ → Option End
end_of = named end_names

-- what follows the name of a step, except for `hand`
unfoldable pub step_read : List ℕ → List (List ℕ) → Option (PairStep × List (List ℕ))
step_read name words =
    if bytes_eq name (codes "arrive") then reading arrive words
    else (field end_of words >>= λ end. line_behind (end_forms end.0) name end.1)

-- after the name `hand` a step was read; or there is none
abbrev pub IsHandRead : List (List ℕ) → Option PairStep → Type 0
IsHandRead words (Some step) = SaysHand (codes "hand" ∷ words) step
IsHandRead words None = (step : PairStep) → ¬ SaysHand (codes "hand" ∷ words) step
