use Rattle.recovery_spaces.specs.Spaces.{Space, IsMade}
use Rattle.recovery_spaces.proofs.SpaceLaws.{of_each}
use Rattle.recovery_spaces.proofs.spaces.PacketSpaces.new.Goals as goal

pub returns : goal.returns
returns g c =
    of_each (λ (s : Space _ _). IsMade g.Q.RetransmitQueue.words c.args.now s) _
    c.new.ensures c.new-2.ensures c.new-3.ensures
