-- Packets received in a space (RFC 9000, 12.3 and 13.2).
use Rattle.std.specs.Prelude.{ℕ, List, [], ◌∷◌}
use Rattle.recovery_base.specs.Numbers.{InsertNumber}
use Rattle.recovery_spaces.specs.SpaceLog.{SpaceEntry, heard, heard_again}

-- the numbers received
abbrev pub ReceivedNumbers : {P M : Type 0} → List (SpaceEntry P M) → ℕ → Type 0
ReceivedNumbers [] n = ⊥
ReceivedNumbers (heard now number ack_eliciting ∷ earlier) n = InsertNumber number (ReceivedNumbers earlier) n
ReceivedNumbers (heard_again number ∷ earlier) n = InsertNumber number (ReceivedNumbers earlier) n
ReceivedNumbers (entry ∷ earlier) n = ReceivedNumbers earlier n
