-- How a program ends that answers each line before it reads the next: such programs rest on it.
use Rattle.std.proofs.Common.{◌≡◌, ℕ, ◌≤◌, List, [], ◌∷◌, length, Option, None, Some, inl, inr, arith}
use Rattle.std.specs.List.{flat_map}
use Rattle.recovery_replay.proofs.AnsweringLaws.{whole_front}
use Rattle.recovery_replay.specs.Answering.{IsFailure, WritesUpTo}
use Rattle.recovery_replay.specs.Giving.{GivesItems, ReadsUpTo}
use Rattle.recovery_replay.specs.Playing.{PlayEnds, ending_of, streams_of}
use Rattle.recovery_replay.specs.Writing.{AppendsFront}
use Rattle.recovery_replay.specs.declared.outcome.Outcome.{Outcome}
use Rattle.recovery_replay.specs.declared.outcome.Outcome.TheVariants.{Ended, WriteFailed, Closed, OutOfMemory}
use Rattle.recovery_replay.specs.declared.script.Ending.TheVariants.{Whole, BadLine, ReadFailed}

module _ {T A : Type 0} (encodes : List ℕ → T → Type 0) (line_of : A → List ℕ)
    (unread left before after unsaid said : Option (List ℕ)) (items : List T) (answers : List A) where
  up_to : (ended : Option Outcome) → GivesItems encodes unread left unsaid said items ended
      → ReadsUpTo encodes unread left items
  up_to None given = ([], omega arith, given.0)
  up_to (Some (Ended Whole)) given = ([], omega arith, given.0)
  up_to (Some (Ended (BadLine number))) given = (given.line ∷ [], omega arith, given.read)
  up_to (Some (Ended ReadFailed)) given = given.0
  up_to (Some OutOfMemory) given = given.0
  up_to (Some outcome) given = absurd given

  failed : (outcome : Outcome) → IsFailure outcome → ReadsUpTo encodes unread left items
      → AppendsFront before after (flat_map line_of answers)
      → PlayEnds encodes line_of (streams_of unread left before after unsaid said) items answers outcome
  failed outcome (inl (inl is)) read front = rw is (read, front)
  failed outcome (inl (inr is)) read front = rw is (read, front)
  failed outcome (inr is) read front = rw is (read, front)

  ends_so : (broken ended : Option Outcome) → GivesItems encodes unread left unsaid said items ended
      → WritesUpTo before after (flat_map line_of answers) broken
      → PlayEnds encodes line_of (streams_of unread left before after unsaid said) items answers
      (ending_of broken ended)
  ends_so (Some outcome) ended given written = failed outcome written.0 (up_to ended given) written.1
  ends_so None None given written = (up_to None given, whole_front before after (flat_map line_of answers) written)
  ends_so None (Some (Ended ending)) given written = (given, written)
  ends_so None (Some OutOfMemory) given written =
      (given.0, whole_front before after (flat_map line_of answers) written)
  ends_so None (Some outcome) given written = absurd given

  -- the same, by other names of what is left, was written and was said
  pub ends_there : (broken ended : Option Outcome) (left_is after_is said_is : Option (List ℕ)) → left_is ≡ left
      → after_is ≡ after → said_is ≡ said → GivesItems encodes unread left unsaid said items ended
      → WritesUpTo before after (flat_map line_of answers) broken
      → PlayEnds encodes line_of (streams_of unread left_is before after_is unsaid said_is) items answers
      (ending_of broken ended)
  ends_there broken ended left_is after_is said_is a b c given written =
      rw (a, b, c) (ends_so broken ended given written)
