-- The numbers and names of errors.
use Rattle.std.specs.Prelude.{ℕ, ◌+◌, List}
use denote.Enum.Declared.{tag_of}
use Rattle.recovery_events.specs.contracts.event.Refusal.{the_type}
use lib.Chars.{codes}
use Rattle.recovery_events.specs.declared.event.Refusal.{Refusal}
use Rattle.recovery_events.specs.declared.event.Refusal.TheVariants.{NoMemory, NumberTooLarge, NumbersExhausted, NotTracked, SpaceDiscarded, NoSuchPath, Searching, ZeroMtu, Overflow, Retired, ExceedsLimit, BadRetirePriorTo, CidsNotInUse, UnissuedCid, DelayTooSmall, SkippedAcked, Ecn, NotInitialId, BadRange, Conflict}

-- an error's place in the enum, from 1 on
abbrev pub refusal_number : Refusal → ℕ
refusal_number refusal = tag_of the_type refusal + 1

abbrev pub refusal_name : Refusal → List ℕ
refusal_name NoMemory = codes "NoMemory"
refusal_name NumberTooLarge = codes "NumberTooLarge"
refusal_name NumbersExhausted = codes "NumbersExhausted"
refusal_name NotTracked = codes "NotTracked"
refusal_name SpaceDiscarded = codes "SpaceDiscarded"
refusal_name NoSuchPath = codes "NoSuchPath"
refusal_name Searching = codes "Searching"
refusal_name ZeroMtu = codes "ZeroMtu"
refusal_name Overflow = codes "Overflow"
refusal_name Retired = codes "Retired"
refusal_name ExceedsLimit = codes "ExceedsLimit"
refusal_name BadRetirePriorTo = codes "BadRetirePriorTo"
refusal_name CidsNotInUse = codes "CidsNotInUse"
refusal_name UnissuedCid = codes "UnissuedCid"
refusal_name DelayTooSmall = codes "DelayTooSmall"
refusal_name SkippedAcked = codes "SkippedAcked"
refusal_name (Ecn text) = codes "Ecn"
refusal_name NotInitialId = codes "NotInitialId"
refusal_name BadRange = codes "BadRange"
refusal_name Conflict = codes "Conflict"
