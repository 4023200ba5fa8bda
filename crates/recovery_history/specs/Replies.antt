-- The replies that an event may have: errors in their order, each exactly, and else the answer.
use denote.Enum.Bare.{sameb}
use Rattle.recovery_events.specs.contracts.event.Refusal.{the_type}
use Rattle.std.specs.Prelude.{Bool, MatchBool, IsTrue, ◌↔◌, Result, Ok, Err}
use Rattle.recovery_events.specs.declared.event.Answer.{Answer}
use Rattle.recovery_events.specs.declared.event.Refusal.{Refusal}
use Rattle.recovery_events.specs.declared.event.Answer.TheVariants as answers
use Rattle.recovery_events.specs.declared.event.Refusal.TheVariants.{NumberTooLarge, Overflow, NoMemory}
use Rattle.recovery_spaces.specs.declared.paths.LedgerError.{LedgerError}
use Rattle.recovery_spaces.specs.declared.paths.LedgerError.TheVariants as ledger
use Rattle.recovery_spaces.specs.declared.spaces.ReceiveError.{ReceiveError}
use Rattle.recovery_spaces.specs.declared.spaces.ReceiveError.TheVariants as error
use Rattle.recovery_spaces.specs.declared.spaces.Receipt.{Receipt}
use Rattle.recovery_spaces.specs.declared.spaces.Receipt.TheVariants.{New, Duplicate}
use Rattle.recovery_history.specs.History.{Reply}

-- the same error, whatever its text
abbrev pub same_refusal : Refusal → Refusal → Bool
same_refusal = sameb the_type

-- if the cause holds the event fails with this error, and else its reply is one of the others
abbrev pub RejectsWhen : {Q : Type 0} → Refusal → Type 0 → (Reply Q → Type 0) → Reply Q → Type 0
RejectsWhen refusal Cause Otherwise (Ok answer) = (¬ Cause) × Otherwise (Ok answer)
RejectsWhen refusal Cause Otherwise (Err given) =
    MatchBool (same_refusal given refusal) Cause ((¬ Cause) × Otherwise (Err given))

-- the answer is one of these, or an event that grows something fails for lack of memory
abbrev pub AnswersOrNoMemory : {Q : Type 0} → Type 0 → (Answer Q → Type 0) → Reply Q → Type 0
AnswersOrNoMemory Grows IsAnswer (Ok answer) = IsAnswer answer
AnswersOrNoMemory Grows IsAnswer (Err NoMemory) = Grows
AnswersOrNoMemory Grows IsAnswer (Err refusal) = ⊥

-- the answer is one of these; nothing is allocated
abbrev pub AlwaysAnswers : {Q : Type 0} → (Answer Q → Type 0) → Reply Q → Type 0
AlwaysAnswers = AnswersOrNoMemory ⊥

-- the answer is a flag that states whether this holds
abbrev pub IsFlag : {Q : Type 0} → Type 0 → Answer Q → Type 0
IsFlag Holds (answers.Flag flag) = IsTrue flag ↔ Holds
IsFlag Holds answer = ⊥

-- ---- the answer to a received packet

abbrev pub answer_to : {Q : Type 0} → Receipt → Answer Q
answer_to (New arm) = answers.New arm
answer_to Duplicate = answers.Duplicate

abbrev pub reply_to : {Q : Type 0} → Result Receipt ReceiveError → Reply Q
reply_to (Ok receipt) = Ok (answer_to receipt)
reply_to (Err error.NumberTooLarge) = Err NumberTooLarge
reply_to (Err error.NoMemory) = Err NoMemory

-- ---- the error of a packet that cannot be tracked

abbrev pub refusal_of : LedgerError → Refusal
refusal_of ledger.NoMemory = NoMemory
refusal_of ledger.Overflow = Overflow
