-- The spaces of a recovery that are not discarded.
use Rattle.std.specs.Prelude.{[], Option, None, Some, if◌then◌else◌}
use Rattle.std.specs.Option.{option_map_or}
use Rattle.recovery_base.specs.declared.below.SpaceId.{SpaceId}
use Rattle.recovery_spaces.specs.Discarded.{is_discarded}
use Rattle.recovery_spaces.specs.Packets.{Packets}
use Rattle.recovery_spaces.specs.Spaces.{Space, space_of, packets_of}
use Rattle.recovery_history.specs.RecoveryState.{RecoveryState}

-- the space, unless it was discarded
abbrev pub space_in : {K P M : Type 0} → RecoveryState K P M → SpaceId → Option (Space P M)
space_in recovery space =
    if is_discarded space recovery.discarded then None else Some (space_of space recovery.spaces)

-- the packets that it tracks
abbrev pub packets_in : {K P M : Type 0} → RecoveryState K P M → SpaceId → Packets P M
packets_in recovery space = option_map_or packets_of (space_in recovery space) []
