use Rattle.std.proofs.Common.{◌≡◌, ◌<◌, ◌^◌, take}
use Rattle.std.specs.Str.Parse.{digits_value}
use Rattle.recovery_script_syntax.specs.Reading.{AreDigits}
use Rattle.recovery_script_syntax.proofs.words.long_number_in.Given as goal

abbrev pub invariant-loop-byte : goal.invariant-loop-byte
invariant-loop-byte l =
    AreDigits l.digits l.byte-index
    × (l.value ≡ digits_value 10 (take l.byte-index l.digits)) × (l.value < 2 ^ 128)
