-- How the counters of the paths (RFC 9002, B.2) follow from the tracked packets (RFC 9002, A.1).
use Rattle.std.specs.Prelude.{◌≡◌, ◌≤◌, ℕ}
use Rattle.recovery_base.specs.declared.below.SpaceId.{SpaceId}
use Rattle.recovery_spaces.specs.InFlight.{in_flight}
use Rattle.recovery_spaces.specs.Packets.{Packet, Packets, IsAmong}
use Rattle.recovery_spaces.specs.Paths.{PathLedger, generation_of, counters_of}
use Rattle.recovery_spaces.specs.Spaces.{Spaces, space_of, packets_of, IsCoherent}

abbrev pub tracked_by : {P M : Type 0} → Spaces P M → SpaceId → Packets P M
tracked_by spaces space = packets_of (space_of space spaces)

-- a path's counters are sums over the packets of its generation that the spaces track
abbrev pub IsBalancedOn : {P M : Type 0} → Spaces P M → PathLedger → Type 0
IsBalancedOn spaces path = counters_of path ≡ in_flight (generation_of path) (tracked_by spaces)

-- the parts of each space are consistent
abbrev pub AreCoherent : {P M : Type 0} → Spaces P M → Type 0
AreCoherent spaces = (space : SpaceId) → IsCoherent (space_of space spaces)

-- no packet is of a generation above this one
abbrev pub IsUpTo : {P M : Type 0} → ℕ → Packets P M → Type 0
IsUpTo {P} {M} generation packets =
    (packet : Packet P M) → IsAmong packets packet → packet.path_generation ≤ generation

-- no tracked packet is of a generation above this one
abbrev pub AreUpTo : {P M : Type 0} → ℕ → Spaces P M → Type 0
AreUpTo generation spaces = (space : SpaceId) → IsUpTo generation (tracked_by spaces space)
