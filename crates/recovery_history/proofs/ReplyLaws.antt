-- One reply, by two forms of the same causes and answers. `TableLaws`, `PeerIdsLaws`, `RejectionsLaws` and
-- `RepliesAfterLaws` rest on it.
use Rattle.std.proofs.Common.{◌≡◌, ◌==◌, ◌↔◌, Bool, true, false, Ok, Err, arith, if◌then◌else◌}
use Rattle.std.proofs.lemmas.Bool.Decides.{nat_tests}
use Rattle.std.specs.Bool.{Decides}
use Rattle.recovery_events.specs.declared.event.Answer.{Answer}
use Rattle.recovery_events.specs.declared.event.Refusal.{Refusal}
use Rattle.recovery_events.specs.declared.event.Refusal.TheVariants.{NoMemory}
use Rattle.recovery_events.specs.Refusals.{refusal_number}
use Rattle.recovery_history.specs.History.{Reply}
use Rattle.recovery_history.specs.Replies.{same_refusal, RejectsWhen, AnswersOrNoMemory}

-- an error without a text is determined by its number
pub only_refusal : (given of : Refusal) → (refusal_number of == 17) ≡ false → same_refusal given of ≡ true → given ≡ of
only_refusal NoMemory of no_text same = grind (arith, nat_tests)
only_refusal given of no_text same = grind (arith, nat_tests)

pub refuses_alike : {Q : Type 0} (refusal : Refusal) (Cause Reason : Type 0) (Otherwise Else : Reply Q → Type 0)
    → Cause ↔ Reason → ((reply : Reply Q) → Otherwise reply → Else reply)
    → (reply : Reply Q) → RejectsWhen refusal Cause Otherwise reply → RejectsWhen refusal Reason Else reply
refuses_alike refusal Cause Reason Otherwise Else same others (Ok answer) told =
    grind (arith, same, others (Ok answer), told)
refuses_alike refusal Cause Reason Otherwise Else same others (Err given) told =
    grind (arith, same, others (Err given), told)

pub answers_alike : {Q : Type 0} (Grows Takes : Type 0) (IsAnswer IsOther : Answer Q → Type 0) → (Grows → Takes)
    → ((answer : Answer Q) → IsAnswer answer → IsOther answer)
    → (reply : Reply Q) → AnswersOrNoMemory Grows IsAnswer reply → AnswersOrNoMemory Takes IsOther reply
answers_alike Grows Takes IsAnswer IsOther grows alike (Ok answer) told = alike answer told
answers_alike Grows Takes IsAnswer IsOther grows alike (Err NoMemory) told = grows told
answers_alike Grows Takes IsAnswer IsOther grows alike (Err refusal) told = absurd told

-- a reply as a value: if a test decides the cause, and its error is the only one with its number
pub refused_by : {Q : Type 0} (refusal : Refusal)
    → ((given : Refusal) → same_refusal given refusal ≡ true → given ≡ refusal)
    → (cause : Bool) (Cause : Type 0) (Otherwise : Reply Q → Type 0) (rest : Reply Q) → Decides cause Cause
    → ((reply : Reply Q) → ¬ Cause → Otherwise reply → reply ≡ rest)
    → (reply : Reply Q) → RejectsWhen refusal Cause Otherwise reply → reply ≡ (if cause then Err refusal else rest)
refused_by refusal only cause Cause Otherwise rest decides others (Ok answer) told =
    grind (arith, decides, others (Ok answer), told)
refused_by refusal only cause Cause Otherwise rest decides others (Err given) told =
    grind (arith, decides, only given, others (Err given), told)
