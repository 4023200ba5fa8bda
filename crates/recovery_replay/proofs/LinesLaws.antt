-- The lines of bytes of which each ends with a line feed: programs that read lines rest on it.
use Rattle.std.proofs.Common.{◌≡◌, ℕ, ◌<◌, ◌≤◌, List, [], ◌∷◌, ◌++◌, length, All, refl, sym, ap, ◌∙◌, arith, append-nil, append_assoc}
use Rattle.std.specs.List.{flat_map}
use Rattle.std.proofs.lemmas.List.Elements.{All-tail}
use Rattle.recovery_replay.specs.Script.{NoFeed, ended, lines_of}
use Rattle.recovery_replay.proofs.ScriptLaws.{last_line, line_then}

pub lines_ended : (lines : List (List ℕ)) (rest : List ℕ) → All NoFeed lines
    → lines_of (flat_map ended lines ++ rest) ≡ lines ++ lines_of rest
lines_ended [] rest h = refl
lines_ended (line ∷ lines) rest h = simp append_assoc (rw (
  line_then line (flat_map ended lines ++ rest) (h 0 line (omega arith)),
  lines_ended lines rest (All-tail NoFeed line lines h),
) refl)

-- a line that the end of the input ends
pub alone : (line : List ℕ) → NoFeed line → 0 < length line → lines_of line ≡ line ∷ []
alone line h some = ap lines_of (sym (append-nil line)) ∙ last_line line h some

pub one_line : (cut : List ℕ) → NoFeed cut → length (lines_of cut) ≤ 1
one_line [] h = omega arith
one_line (byte ∷ cut) h = omega (arith, ap length (alone (byte ∷ cut) h (omega arith)))
