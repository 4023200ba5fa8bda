-- The caller's marks of a path, in numbers.
use Rattle.std.specs.Prelude.{◌≡◌, ℕ, Bool, IsFalse, true, false, [], Option, Some, None, is_some, option_map, if◌then◌else◌}
use Rattle.std.specs.Option.{option_map_or}
use Rattle.recovery_base.specs.declared.below.SpaceId.{SpaceId}
use Rattle.recovery_paths.specs.PathStates.{PathMarks}
use Rattle.recovery_paths.specs.declared.path_pair.PathName.{PathName}
use Rattle.recovery_engine.specs.Replies.{space_number}
use Rattle.recovery_stack.specs.Codes.{maybe, space_coded}
use Rattle.recovery_engine.specs.Kept.{MarksKept}
use Rattle.recovery_stack.specs.declared.marks.Marks.{Marks}
use Rattle.recovery_stack.specs.declared.stack.Stack.{Stack}

-- the first packet that was sent after an RTT sample, if any; no marks if its space is invalid
abbrev pub first_of : Marks → Option (Option (SpaceId × ℕ))
first_of given =
    if given.has_first then option_map (λ space. Some (space, given.first_number)) (space_coded given.first_space)
    else Some None

-- the given marks, without PATH_RESPONSE frames
abbrev pub marks_given : Marks → Option PathMarks
marks_given given = option_map (λ first. record {
  challenge = maybe given.has_challenge given.challenge;
  challenge_pending = given.challenge_pending;
  responses = [];
  sending_ecn = given.sending_ecn;
  first_after_sample = first;
}) (first_of given)

-- marks of a path, if there is one
abbrev pub marks_shown : Option PathMarks → Marks
marks_shown None = record {
  challenge = 0;
  first_number = 0;
  first_space = 0;
  has_challenge = false;
  has_first = false;
  challenge_pending = false;
  sending_ecn = false;
  lives = false;
}
marks_shown (Some marks) = record {
  challenge = option_map_or (λ said. said) marks.challenge 0;
  first_number = option_map_or (λ first. first.1) marks.first_after_sample 0;
  first_space = option_map_or (λ first. space_number first.0) marks.first_after_sample 0;
  has_challenge = is_some marks.challenge;
  has_first = is_some marks.first_after_sample;
  challenge_pending = marks.challenge_pending;
  sending_ecn = marks.sending_ecn;
  lives = true;
}

-- a sender sets its marks itself (`MarksKept`); the last results are unchanged
pub record MarksStack (name : PathName) (marks : PathMarks) (is_set : Bool) (old new : Stack) : Type 0 where
  pub kept : MarksKept name marks is_set old.kept new.kept
  pub taken : new.taken ≡ old.taken
  pub token : new.token ≡ old.token

-- the marks of the held recovery are set
pub record HandsMarks (name : PathName) (marks : PathMarks) (is_set : Bool) (was : Stack) (new : Option Stack)
    : Type 0 where
  pub is : Stack
  pub holds : new ≡ Some is
  pub changes : MarksStack name marks is_set was is

-- nothing changes if none is held, or the marks are invalid
abbrev pub SetsMarks : PathName → Option PathMarks → Bool → Option Stack → Option Stack → Type 0
SetsMarks name None is_set old new = IsFalse is_set × (new ≡ old)
SetsMarks name (Some marks) is_set None new = IsFalse is_set × (new ≡ None)
SetsMarks name (Some marks) is_set (Some was) new = HandsMarks name marks is_set was new
