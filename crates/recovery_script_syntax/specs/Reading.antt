-- How the parser reads the words of a line. Only the grammar in Lines.antt defines what a line means.
use Rattle.std.specs.Prelude.{◌≡◌, ℕ, ◌+◌, ◌*◌, ◌<◌, ◌≤◌, ◌==◌, nat_lt, ◌&&◌, Bool, true}
use Rattle.std.specs.Prelude.{false, List, [], ◌∷◌, ◌++◌, length, Option, Some, None, IfSome, IsSomeAnd, option_and_then, Result, Ok, Err}
use Rattle.std.specs.Prelude.{if◌then◌else◌, bytes_eq, decimal, slice_index}
use Rattle.std.specs.Global.{Vec}
use Rattle.std.specs.Int.{IsInRange}
use Rattle.std.specs.List.{before_first, position_or_len}
use Rattle.std.specs.Str.Parse.{digits_value}
use lib.Chars.{codes}
use Rattle.recovery_base.specs.declared.below.SpaceId.{SpaceId}
use Rattle.recovery_base.specs.declared.below.SpaceId.TheVariants.{Initial, Handshake, Data}
use Rattle.recovery_base.specs.Timers.{timer_named}
use Rattle.recovery_base.specs.Times.{span_limit}
use Rattle.recovery_base.specs.Units.{byte_limit, number_limit, u16_limit, u64_limit}
use Rattle.recovery_paths.specs.declared.path_pair.PathName.{PathName}
use Rattle.recovery_paths.specs.declared.path_pair.PathName.TheVariants.{Current, Previous}
use Rattle.recovery_script_syntax.specs.declared.forms.Line.{Line}
use Rattle.recovery_script_syntax.specs.declared.forms.Line.TheVariants.{Said, Ids, Path}
use Rattle.recovery_script_syntax.specs.declared.words.Words.{Words}
use Rattle.recovery_script_syntax.specs.Fields.{Field, Value, Values}
use Rattle.recovery_script_syntax.specs.Fields.{Tail, TailValue, no_tail, an_item_tail}
use Rattle.recovery_script_syntax.specs.Fields.{a_space, a_timer, a_path, a_flag, a_largest}
use Rattle.recovery_script_syntax.specs.Fields.{a_u64, a_span, a_u16, a_var_int, a_byte, a_count}
use Rattle.recovery_script_syntax.specs.Forms.{Form}
use Rattle.recovery_script_syntax.specs.Lines.{forms, ItemEvent, DenotesEvent, EncodesEvent, TookMemory}
use Rattle.recovery_script_syntax.specs.Words.{words_of, most_ids}

-- ---- a field

infixl 10 ◌>>=◌
abbrev pub ◌>>=◌ : {A B : Type 0} → Option A → (A → Option B) → Option B
o >>= f = option_and_then f o

-- the first of the names that a word is
abbrev pub named : {A : Type 0} → List (List ℕ × A) → List ℕ → Option A
named [] word = None
named ((name, value) ∷ names) word = if bytes_eq word name then Some value else named names word

abbrev pub flag_names : List (List ℕ × Bool)
flag_names = (codes "0", false) ∷ (codes "1", true) ∷ []

unfoldable pub flag_of : List ℕ → Option Bool
flag_of = named flag_names

abbrev pub space_names : List (List ℕ × SpaceId)
space_names = (codes "initial", Initial) ∷ (codes "handshake", Handshake) ∷ (codes "data", Data) ∷ []

unfoldable pub space_of : List ℕ → Option SpaceId
space_of = named space_names

abbrev pub path_names : List (List ℕ × PathName)
path_names = (codes "current", Current) ∷ (codes "previous", Previous) ∷ []

unfoldable pub path_of : List ℕ → Option PathName
path_of = named path_names

-- the number below a limit whose decimal digits the word is
unfoldable pub number_of : ℕ → List ℕ → Option ℕ
number_of limit word = let n =
    digits_value 10 word in if nat_lt n limit && bytes_eq (decimal n) word then Some n else None

-- bytes begin with this many digits
abbrev pub AreDigits : List ℕ → ℕ → Type 0
AreDigits bytes n = (i : ℕ) → i < n → IsInRange 48 57 (slice_index bytes i)

-- the number that the four bytes from a place on write, the lowest first
abbrev pub four_at : List ℕ → ℕ → ℕ
four_at bytes at =
    slice_index bytes at + slice_index bytes (at + 1) * 256 + slice_index bytes (at + 2) * 65536
    + slice_index bytes (at + 3) * 16777216

-- the number below a limit that the first word of bytes is, with the length of that word
abbrev pub IsFirstNumber : ℕ → List ℕ → Option (ℕ × ℕ) → Type 0
IsFirstNumber limit bytes None = number_of limit (before_first (λ b. b == 32) bytes) ≡ None
IsFirstNumber limit bytes (Some (number, end)) =
    (number_of limit (before_first (λ b. b == 32) bytes) ≡ Some number)
    × (end ≡ position_or_len (λ b. b == 32) bytes)

-- a number, or none
unfoldable pub largest_of : List ℕ → Option (Option ℕ)
largest_of word = if bytes_eq word (codes "-") then Some None else (number_of u64_limit word >>= λ n. Some (Some n))

-- ---- reading words from the left

abbrev pub first_word : List (List ℕ) → Option (List ℕ × List (List ℕ))
first_word [] = None
first_word (word ∷ words) = Some (word, words)

-- a field that a function on words reads from the next word
unfoldable pub field : {A : Type 0} → (List ℕ → Option A) → List (List ℕ) → Option (A × List (List ℕ))
field read words = do
  first ← first_word words
  value ← read first.0
  Some (value, first.1)

-- a name that is one word
abbrev pub IsPlainName : List ℕ → Type 0
IsPlainName name = position_or_len (λ b. b == 32) name ≡ length name

-- the next word was read if it is this name, and else none was
abbrev pub TakesName : List ℕ → Bool → List (List ℕ) → List (List ℕ) → Type 0
TakesName name true old new = first_word old ≡ Some (name, new)
TakesName name false old new = (new ≡ old) × IfSome (first_word old) (λ first. bytes_eq first.0 name ≡ false)

-- The value in contracts of what a function returned, with the words that it left, is the result of reading.
abbrev pub ParsesTo : {X Y : Type 0} → (X → Y) → Option X → List (List ℕ) → Option (Y × List (List ℕ)) → Type 0
ParsesTo view (Some x) left read = read ≡ Some (view x, left)
ParsesTo view None left read = read ≡ None

abbrev pub left_of : {S : Type 0} → (S → List ℕ) → Option S → List (List ℕ)
left_of text None = []
left_of text (Some rest) = words_of (text rest)

-- the remaining words
abbrev pub words_left : Words → List (List ℕ)
words_left words = left_of (λ s. s.now) words.rest

-- what a function returned, with the words that it left, is the result of reading
abbrev pub ReadsBy : {A : Type 0} → (List (List ℕ) → Option (A × List (List ℕ))) → Words → Words → Option A → Type 0
ReadsBy read old new result = ParsesTo (λ x. x) result (words_left new) (read (words_left old))

-- how a field is read from its word
abbrev pub value_of : (field : Field) → List ℕ → Option (Value field)
value_of a_space = space_of
value_of a_timer = timer_named
value_of a_path = path_of
value_of a_flag = flag_of
value_of a_largest = largest_of
value_of a_u64 = number_of u64_limit
value_of a_span = number_of span_limit
value_of a_u16 = number_of u16_limit
value_of a_var_int = number_of number_limit
value_of a_byte = number_of byte_limit
value_of a_count = number_of (most_ids + 1)

-- ---- items

-- items up to the end of the words
abbrev pub items_read : List (List ℕ) → Option (List ℕ)
items_read [] = Some []
items_read (word ∷ words) = do
  item ← number_of u64_limit word
  items ← items_read words
  Some (item ∷ items)

-- what follows the fields
abbrev pub tail_read : {A : Type 0} (tail : Tail) → (TailValue tail → A) → List (List ℕ)
    → Option (A × List (List ℕ))
tail_read no_tail make words = Some (make tt, words)
tail_read an_item_tail make words = items_read words >>= λ items. Some (make items, [])

-- all remaining words were read as these items, or they are none
abbrev pub AreItemsRead : Words → Words → Option (Vec ℕ) → Type 0
AreItemsRead old new result =
    ParsesTo (λ items. items.items) result (words_left new)
    (tail_read an_item_tail (λ items. items) (words_left old))

-- ---- a line

module _ {A : Type 0} (tail : Tail) where
  -- fields that are read one after another, and what is made of their values
  unfoldable pub fields_read : (fields : List Field) → (Values tail fields → A) → List (List ℕ)
      → Option (A × List (List ℕ))
  fields_read [] make words = tail_read tail make words
  fields_read (f ∷ fields) make words =
      field (value_of f) words >>= λ x. fields_read fields (λ y. make (x.0, y)) x.1

  -- the same, evaluated immediately if there is no field
  abbrev pub all_read : (fields : List Field) → (Values tail fields → A) → List (List ℕ)
      → Option (A × List (List ℕ))
  all_read [] make words = tail_read tail make words
  all_read (f ∷ fields) make words = fields_read (f ∷ fields) make words

-- what is read after a form's name
abbrev pub reading : {A : Type 0} → Form A → List (List ℕ) → Option (A × List (List ℕ))
reading form = all_read form.tail form.fields form.make

-- the form of this name
abbrev pub form_named : {A : Type 0} → List (Form A) → List ℕ → Option (Form A)
form_named [] word = None
form_named (form ∷ forms) word = if bytes_eq word form.name then Some form else form_named forms word

-- what follows a name
unfoldable pub line_behind : {A : Type 0} → List (Form A) → List ℕ → List (List ℕ) → Option (A × List (List ℕ))
line_behind forms name words = do
  form ← form_named forms name
  reading form words

unfoldable pub line_at : List (List ℕ) → Option (Line × List (List ℕ))
line_at words = do
  name ← first_word words
  line_behind forms name.0 name.1

-- the meaning of all words
abbrev pub whole : Option (Line × List (List ℕ)) → Option Line
whole read = do
  said ← read
  if length said.1 == 0 then Some said.0 else None

unfoldable pub line_of : List ℕ → Option Line
line_of line = whole (line_at (words_of line))

-- what was read, if no word is left
abbrev pub all_of : Option Line → List (List ℕ) → Option Line
all_of None left = None
all_of (Some line) left = if length left == 0 then Some line else None

-- ---- memory

-- what was read has IDs, so memory is allocated
abbrev pub TakesMemory : Line → Type 0
TakesMemory (Said said) = ⊥
TakesMemory (Ids now first count) = (0 < count) × (first + count ≤ u64_limit)
TakesMemory (Path now port fresh) = ⊥

-- memory was allocated for items, with nothing left to read
abbrev pub TookAll : Line × List (List ℕ) → Type 0
TookAll read = TookMemory read.0 × (read.1 ≡ [])

-- ---- events one after another

-- the event of a parsed line, or none, or the allocation of its IDs failed
abbrev pub ConstructsEvent : {E : Type 0} → Line → Result (Option ItemEvent) E → Type 0
ConstructsEvent line (Ok (Some event)) = DenotesEvent line event
ConstructsEvent line (Ok None) = (event : ItemEvent) → ¬ DenotesEvent line event
ConstructsEvent line (Err refused) = TakesMemory line

-- the event of a parsed line was put into a sink, or there is none
abbrev pub PutsMeant : {S : Type 0} → (S → ItemEvent → S → Type 0) → Line → S → Option Bool → S → Type 0
PutsMeant takes line before (Some more) after = (event : ItemEvent) × DenotesEvent line event × takes before event after
PutsMeant takes line before None after = ((event : ItemEvent) → ¬ DenotesEvent line event) × (after ≡ before)

-- the same for what was read, if anything was; if an allocation failed, nothing was put
abbrev pub PushesToSink : {S E : Type 0} → (S → ItemEvent → S → Type 0) → Option Line → S → Result (Option Bool) E → S
    → Type 0
PushesToSink takes (Some line) before (Ok more) after = PutsMeant takes line before more after
PushesToSink takes (Some line) before (Err refused) after = TakesMemory line × (after ≡ before)
PushesToSink takes None before (Ok more) after = (more ≡ None) × (after ≡ before)
PushesToSink takes None before (Err refused) after = ⊥

-- the same for a line with items, whose allocation may fail
abbrev pub PutsRead : {S E : Type 0} → (S → ItemEvent → S → Type 0) → Option (Line × List (List ℕ)) → S
    → Result (Option Bool) E → S → Type 0
PutsRead {E = E} takes read before (Ok more) after = PushesToSink {E = E} takes (whole read) before (Ok more) after
PutsRead takes read before (Err refused) after = IsSomeAnd read TookAll × (after ≡ before)

-- the event that a line encodes was put into a sink, or there is none
abbrev pub PutsSpelled : {S : Type 0} → (S → ItemEvent → S → Type 0) → List ℕ → S → Option Bool → S → Type 0
PutsSpelled takes line before (Some more) after = (event : ItemEvent) × EncodesEvent line event
    × takes before event after
PutsSpelled takes line before None after = ((event : ItemEvent) → ¬ EncodesEvent line event) × (after ≡ before)
