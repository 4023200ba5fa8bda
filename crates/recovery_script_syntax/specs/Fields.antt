-- What follows the name of a line: fields, each of one word, and after them nothing or items.
use Rattle.std.specs.Prelude.{ℕ, ◌<◌, Bool, List, [], ◌∷◌, map, Option, IfSome, decimal, ◌+◌}
use Rattle.std.specs.List.{AllByRecursion}
use Rattle.recovery_base.specs.declared.below.SpaceId.{SpaceId}
use Rattle.recovery_base.specs.declared.timer.Timer.{Timer}
use Rattle.recovery_base.specs.Timers.{timer_name}
use Rattle.recovery_base.specs.Times.{span_limit}
use Rattle.recovery_base.specs.Units.{byte_limit, number_limit, u16_limit, u64_limit}
use Rattle.recovery_paths.specs.declared.path_pair.PathName.{PathName}
use Rattle.recovery_script_syntax.specs.Words.{flag_word, space_word, path_word, largest_word, most_ids}

pub data Field : Type 0 where
  a_space : Field
  a_timer : Field
  a_path : Field
  a_flag : Field
  -- a packet number, or none
  a_largest : Field
  a_u64 : Field
  -- a span of time, in nanoseconds
  a_span : Field
  a_u16 : Field
  -- a number of a QUIC frame (RFC 9000, 16)
  a_var_int : Field
  a_byte : Field
  -- how many IDs a line issues
  a_count : Field

abbrev pub Value : Field → Type 0
Value a_space = SpaceId
Value a_timer = Timer
Value a_path = PathName
Value a_flag = Bool
Value a_largest = Option ℕ
Value a_u64 = ℕ
Value a_span = ℕ
Value a_u16 = ℕ
Value a_var_int = ℕ
Value a_byte = ℕ
Value a_count = ℕ

-- the word of a value
abbrev pub word_for : (field : Field) → Value field → List ℕ
word_for a_space = space_word
word_for a_timer = timer_name
word_for a_path = path_word
word_for a_flag = flag_word
word_for a_largest = largest_word
word_for a_u64 = decimal
word_for a_span = decimal
word_for a_u16 = decimal
word_for a_var_int = decimal
word_for a_byte = decimal
word_for a_count = decimal

-- the value is within the type of its field
abbrev pub FitsFieldType : (field : Field) → Value field → Type 0
FitsFieldType a_space = λ space. Unit {0}
FitsFieldType a_timer = λ timer. Unit {0}
FitsFieldType a_path = λ path. Unit {0}
FitsFieldType a_flag = λ flag. Unit {0}
FitsFieldType a_largest = λ largest. IfSome largest (λ n. n < u64_limit)
FitsFieldType a_u64 = λ n. n < u64_limit
FitsFieldType a_span = λ n. n < span_limit
FitsFieldType a_u16 = λ n. n < u16_limit
FitsFieldType a_var_int = λ n. n < number_limit
FitsFieldType a_byte = λ n. n < byte_limit
FitsFieldType a_count = λ n. n < most_ids + 1

-- ---- the end of a line

-- what follows the fields: nothing, or items up to the line's end, each of one word
pub data Tail : Type 0 where
  no_tail : Tail
  an_item_tail : Tail

abbrev pub TailValue : Tail → Type 0
TailValue no_tail = Unit {0}
TailValue an_item_tail = List ℕ

abbrev pub tail_words : (tail : Tail) → TailValue tail → List (List ℕ)
tail_words no_tail value = []
tail_words an_item_tail items = map decimal items

-- each item is a u64
abbrev pub TailFits : (tail : Tail) → TailValue tail → Type 0
TailFits no_tail value = Unit {0}
TailFits an_item_tail items = AllByRecursion (λ item. item < u64_limit) items

-- ---- several fields, and what follows them

module _ (tail : Tail) where
  abbrev pub Values : List Field → Type 0
  Values [] = TailValue tail
  Values (field ∷ fields) = Value field × Values fields

  abbrev pub words_for : (fields : List Field) → Values fields → List (List ℕ)
  words_for [] value = tail_words tail value
  words_for (field ∷ fields) values = word_for field values.0 ∷ words_for fields values.1

  abbrev pub AllFitFieldTypes : (fields : List Field) → Values fields → Type 0
  AllFitFieldTypes [] value = TailFits tail value
  AllFitFieldTypes (field ∷ fields) values = FitsFieldType field values.0 × AllFitFieldTypes fields values.1
