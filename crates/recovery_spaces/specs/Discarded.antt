-- Which spaces were discarded with their keys (RFC 9001, 4.9; RFC 9002, 6.4).
use Rattle.std.specs.Prelude.{◌≡◌, Bool, ◌||◌}
use Rattle.recovery_base.specs.declared.below.SpaceId.{SpaceId}
use Rattle.recovery_base.specs.declared.below.SpaceId.TheVariants.{Initial, Handshake, Data}
use Rattle.recovery_spaces.specs.declared.discarded.DiscardedSpaces.{DiscardedSpaces}
use Rattle.recovery_base.specs.Spaces.{same_space}

abbrev pub is_discarded : SpaceId → DiscardedSpaces → Bool
is_discarded Initial discarded = discarded.initial
is_discarded Handshake discarded = discarded.handshake
is_discarded Data discarded = discarded.«data»

-- a space is discarded, and the others are unchanged
abbrev pub DiscardedStep : SpaceId → DiscardedSpaces → DiscardedSpaces → Type 0
DiscardedStep space old new =
    (other : SpaceId) → is_discarded other new ≡ (same_space space other || is_discarded other old)
