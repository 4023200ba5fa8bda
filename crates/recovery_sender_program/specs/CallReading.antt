-- How the parser reads a call. Only the grammar in CallLines.antt defines what a line means.
use Rattle.std.specs.Prelude.{◌≡◌, ◌||◌, ℕ, Bool, true, List, [], ◌∷◌, ◌++◌, Option, Some, None, option_map, if◌then◌else◌, bytes_eq}
use lib.Chars.{codes}
use Rattle.recovery_base.specs.Units.{u64_limit}
use Rattle.recovery_base.specs.declared.below.SpaceId.{SpaceId}
use Rattle.recovery_base.specs.declared.below.frames.EcnCounts.{EcnCounts}
use Rattle.recovery_script_syntax.specs.Fields.{Field, Values, no_tail, a_u64}
use Rattle.recovery_script_syntax.specs.Reading.{◌>>=◌, all_read, field, number_of}
use Rattle.recovery_sender_program.specs.CallLines.{IsAck, IsPassed, ItemCall, SaysAck, ack_fields}
use Rattle.recovery_sender.specs.declared.calls.Frame.{Frame}

-- what was read, if that was the whole line
abbrev pub ended : {A : Type 0} → Option (A × List (List ℕ)) → Option A
ended None = None
ended (Some (read, [])) = Some read
ended (Some (read, word ∷ words)) = None

-- the fields of an ACK frame before its ranges
abbrev pub front_made : Values no_tail ack_fields → SpaceId × ℕ × ℕ × Bool
front_made x = (x.0, x.1.0, x.1.1.0, x.1.1.1.0)

abbrev pub front_read : List (List ℕ) → Option ((SpaceId × ℕ × ℕ × Bool) × List (List ℕ))
front_read words = all_read no_tail ack_fields front_made words

-- ECN counts
abbrev pub counts_read : List (List ℕ) → Option (EcnCounts × List (List ℕ))
counts_read words = all_read no_tail (a_u64 ∷ a_u64 ∷ a_u64 ∷ [])
    (λ x. record { ect0 = x.0; ect1 = x.1.0; ce = x.1.1.0 }) words

-- the time of receipt, which ends the line
abbrev pub time_read : List (List ℕ) → Option ℕ
time_read words = ended (field (number_of u64_limit) words)

-- nothing more, or the time of receipt
abbrev pub received_read : List (List ℕ) → Option (Option ℕ)
received_read [] = Some None
received_read (word ∷ words) =
    if bytes_eq word (codes "received") then option_map (λ time. Some time) (time_read words) else None

-- a word is the name of what follows the ranges
abbrev pub is_end_name : List ℕ → Bool
is_end_name word = bytes_eq word (codes "ecn") || bytes_eq word (codes "received")

-- after this name: the ECN counts and the time of receipt
abbrev pub end_read : List ℕ → List (List ℕ) → Option (Option EcnCounts × Option ℕ)
end_read name words = if bytes_eq name (codes "ecn")
    then (counts_read words >>= λ counts. option_map (λ time. (Some counts.0, time)) (received_read counts.1))
    else option_map (λ time. (None, Some time)) (time_read words)

-- a range: its first number is a word, its last one the next word
abbrev pub range_read : List ℕ → List (List ℕ) → Option ((ℕ × ℕ) × List (List ℕ))
range_read word words = number_of u64_limit word >>= λ first. (field (number_of u64_limit) words
    >>= λ last. Some ((first, last.0), last.1))

-- ranges up to the end of the line, or up to a name, and what follows them
unfoldable pub ranges_read : List (List ℕ) → Option (List (ℕ × ℕ) × (Option EcnCounts × Option ℕ))
ranges_read [] = Some ([], (None, None))
ranges_read (word ∷ []) = None
ranges_read (word ∷ next ∷ words) =
    if is_end_name word then option_map (λ end. ([], end)) (end_read word (next ∷ words))
    else (number_of u64_limit word >>= λ first. (number_of u64_limit next >>= λ last.
    (ranges_read words >>= λ rest. Some ((first, last) ∷ rest.0, rest.1))))

-- these ranges were read, and this after them; or a field is invalid
abbrev pub AreRangesRead : List (List ℕ) → List (ℕ × ℕ) → Option (Option EcnCounts × Option ℕ) → Type 0
AreRangesRead words ranges (Some end) = ranges_read words ≡ Some (ranges, end)
AreRangesRead words ranges None = ranges_read words ≡ None

-- after the name `ack` an ACK frame was read; or there is none
abbrev pub IsAckRead : List (List ℕ) → Option ItemCall → Type 0
IsAckRead words (Some call) = IsAck (codes "ack" ∷ words) call
IsAckRead words None = (frame : Frame) → ¬ SaysAck (codes "ack" ∷ words) frame

-- the event of a line that the sender passes was read; or it encodes none
abbrev pub IsPassedRead : List ℕ → Option ItemCall → Type 0
IsPassedRead line (Some call) = IsPassed line call
IsPassedRead line None = (call : ItemCall) → ¬ IsPassed line call
