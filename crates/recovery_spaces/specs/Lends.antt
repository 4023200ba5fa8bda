-- The final value of the spaces if a `&mut` to one of them is returned.
use Rattle.std.specs.Borrow.{Lends, MutBor, Fml, RattleType}
use Rattle.std.specs.declared.default.Default.{Ghosts as DefaultGhosts}
use Rattle.recovery_base.specs.declared.below.SpaceId.{SpaceId}
use Rattle.recovery_queue.specs.declared.queue.RetransmitQueue.{Ghosts}
use Rattle.recovery_spaces.specs.contracts.spaces.PacketSpace.{the_row as space_row}
use Rattle.recovery_spaces.specs.contracts.spaces.PacketSpaces.{the_row as spaces_row}
use Rattle.recovery_spaces.specs.Spaces.{Space, Spaces, with_space}

-- Q is a queue, S the argument of its test for emptiness, M what the caller stores about a packet, P the contents
module _ (Q S M P : RattleType)
    (q : Ghosts Q.Denot S.Denot M.Denot P.Denot) (m : DefaultGhosts M.Denot) where
  -- when the borrow ends, the space is what was last written through it, and the others are unchanged
  abbrev pub LendsSpace : MutBor (Spaces P.Denot M.Denot) → SpaceId → MutBor (Space P.Denot M.Denot) → Fml
  LendsSpace spaces space r =
      Lends (spaces_row Q S M P q m) (space_row Q S M P q m) spaces r (with_space spaces.now space)
