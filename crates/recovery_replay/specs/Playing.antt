-- What a program does with its input, if it answers each line before it reads the next.
use Rattle.std.specs.Prelude.{ℕ, List, Option, None, Some}
use Rattle.std.specs.List.{flat_map}
use Rattle.std.specs.Io.KnownBytes.{Appends}
use Rattle.recovery_replay.specs.Giving.{GivesItems, ReadsUpTo}
use Rattle.recovery_replay.specs.Writing.{AppendsFront}
use Rattle.recovery_replay.specs.declared.outcome.Outcome.{Outcome}
use Rattle.recovery_replay.specs.declared.outcome.Outcome.TheVariants.{Ended, WriteFailed, Closed, OutOfMemory}
use Rattle.recovery_replay.specs.declared.script.Ending.{Ending}

-- the rest of an input before and after, and the contents of an output and one for errors
pub record Streams : Type 0 where
  pub unread : Option (List ℕ)
  pub left : Option (List ℕ)
  pub before : Option (List ℕ)
  pub after : Option (List ℕ)
  pub unsaid : Option (List ℕ)
  pub said : Option (List ℕ)

abbrev pub streams_of : (unread left before after unsaid said : Option (List ℕ)) → Streams
streams_of unread left before after unsaid said =
    record { unread = unread; left = left; before = before; after = after; unsaid = unsaid; said = said }

-- why no more was written, if so, or else how the input ended
abbrev pub ending_of : (broken ended : Option Outcome) → Outcome
ending_of (Some outcome) ended = outcome
ending_of None (Some outcome) = outcome
ending_of None None = WriteFailed

-- What an outcome states about items and the answers to them. Either the input gave the items and ended so, and the
-- lines of all answers were written. Or a write or an allocation failed: at most one more line was read, and of the
-- lines of the answers a prefix was written.
module _ {T A : Type 0} (encodes : List ℕ → T → Type 0) (line_of : A → List ℕ) where
  abbrev pub BreaksUp : Streams → List T → List A → Type 0
  BreaksUp streams items answers =
      ReadsUpTo encodes streams.unread streams.left items
      × AppendsFront streams.before streams.after (flat_map line_of answers)

  abbrev pub PlayEnds : Streams → List T → List A → Outcome → Type 0
  PlayEnds streams items answers (Ended ending) =
      GivesItems encodes streams.unread streams.left streams.unsaid streams.said items (Some (Ended ending))
      × Appends streams.before streams.after (flat_map line_of answers)
  PlayEnds streams items answers WriteFailed = BreaksUp streams items answers
  PlayEnds streams items answers Closed = BreaksUp streams items answers
  PlayEnds streams items answers OutOfMemory = BreaksUp streams items answers
  PlayEnds streams items answers outcome = ⊥
