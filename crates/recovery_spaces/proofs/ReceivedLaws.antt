-- The numbers received in a space. `HeardLaws` rest on it, and the driver's steps, which do not change them.
use Rattle.std.proofs.Common.{◌≡◌, inl, Bool, false, IsTrue, List, [], ◌∷◌}
use Rattle.recovery_base.proofs.WindowLaws.{HasGreatest, greatest_with}
use Rattle.recovery_spaces.specs.Received.{ReceivedNumbers}
use Rattle.recovery_spaces.specs.SpaceLog.{SpaceEntry, heard, heard_again}

pub fails : (b : Bool) → b ≡ false → ¬ IsTrue b
fails b is holds = cc

module _ {P M : Type 0} where
  -- the numbers received have a largest one
  pub came_greatest : (log : List (SpaceEntry P M)) → HasGreatest (ReceivedNumbers log)
  came_greatest [] = inl (λ m here. here)
  came_greatest (heard now number ack_eliciting ∷ earlier) =
      greatest_with (ReceivedNumbers earlier) number (came_greatest earlier)
  came_greatest (heard_again number ∷ earlier) = greatest_with (ReceivedNumbers earlier) number (came_greatest earlier)
  came_greatest (entry ∷ earlier) = came_greatest earlier
