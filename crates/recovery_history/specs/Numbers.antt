-- Packet numbers, of which some are skipped in 1-RTT packets (RFC 9000, 21.4).
use Rattle.std.specs.Prelude.{ℕ}
use Rattle.recovery_base.specs.declared.below.SpaceId.{SpaceId}
use Rattle.recovery_base.specs.declared.below.SpaceId.TheVariants.{Initial, Handshake, Data}
use Rattle.recovery_packet_numbers.specs.Filters.{Filter, SkipState, number_by, passed}

-- the number that a space assigns next; n is one above the last one
abbrev pub number_behind : Filter → SpaceId → ℕ → ℕ
number_behind filter Initial n = n
number_behind filter Handshake n = n
number_behind filter Data n = number_by filter n

-- the skip state after it was assigned
abbrev pub skipping_behind : SpaceId → ℕ → SkipState → SkipState
skipping_behind Initial n old = old
skipping_behind Handshake n old = old
skipping_behind Data n old = passed n old
