-- The packet number spaces (RFC 9000, 12.3).
use Rattle.std.specs.Prelude.{ℕ, Bool}
use denote.Enum.Bare.{sameb}
use denote.Enum.Declared.{tag_of}
use Rattle.recovery_base.specs.contracts.below.SpaceId.{the_type}
use Rattle.recovery_base.specs.declared.below.SpaceId.{SpaceId}

-- `==` of spaces
abbrev pub same_space : SpaceId → SpaceId → Bool
same_space = sameb the_type

-- a space's position in the order of a handshake, which is that of the enum: Initial 0, Handshake 1, Data 2
abbrev pub space_index : SpaceId → ℕ
space_index = tag_of the_type
