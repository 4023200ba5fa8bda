-- While an ack-eliciting packet waits, an ACK is required at once or the timer was started, by the replies: the clause
-- `ack_scheduled` of `run`.
use Rattle.std.proofs.lemmas.Bool.Decides.{nat_tests}
use Rattle.std.proofs.Common.{◌≡◌, ◌<◌, ℕ, Bool, true, false, ◌||◌, cond, List, [], ◌∷◌, Option, None, Some, Ok, Err, ◌⊎◌, refl, arith}
use Rattle.recovery_base.specs.declared.below.SpaceId.{SpaceId}
use Rattle.recovery_base.specs.Spaces.{same_space}
use Rattle.recovery_spaces.specs.Acks.{IsRequired, StartedAt, counts_by, acks_by}
use Rattle.recovery_spaces.specs.Spaces.{ArmsBy}
use Rattle.recovery_spaces.specs.SpaceLog.{SpaceEntry, heard}
use Rattle.recovery_queue.specs.Queues.{QueueSemantics}
use Rattle.recovery_events.specs.declared.event.Event.{Event}
use Rattle.recovery_events.specs.declared.event.Event.TheVariants.{Received, AcksSent, AckDelayTimeout}
use Rattle.recovery_events.specs.declared.event.Answer.TheVariants.{New}
use Rattle.recovery_history.specs.Table.{entries_of}
use Rattle.recovery_history.specs.RepliesAfter.{logs_of, inputs_after, RepliesAfter}
use Rattle.recovery_history.specs.History.{Beginning, History, Reply}
use Rattle.recovery_history.specs.ReplyInputs.{ReplyInputs}
use Rattle.recovery_history.specs.Logs.{onto}
use Rattle.recovery_history.specs.Promises.AckDuty.{AckIsScheduled, timer_runs, waits}
use Rattle.recovery_history.proofs.Runs.{AllAlong, throughout_kept}
use Rattle.recovery_history.proofs.EntryKinds.{SpaceKind, hearing, answering, delaying, space_kind, space_kept}
use Rattle.recovery_history.proofs.RequiredLaws.{either, asks, is_required}
use Rattle.recovery_history.proofs.TrackedLaws.{one_space}
use Rattle.recovery_history.proofs.SearchSaid.{Keeps}

-- ---- what a packet, an ACK and a timeout do

-- packets that wait were counted, and so were those that started the timer; if the timer was started, an ACK is
-- required or it runs; and the duty holds
pub record Attends (waiting running : Bool) (eliciting : ℕ) (Required Started : Type 0) : Type 0 where
  pub counts : waiting ≡ true → 0 < eliciting
  pub armed : Started → 0 < eliciting
  pub started : Started → Required ⊎ (running ≡ true)
  pub duty : waiting ≡ true → Required ⊎ (running ≡ true)

abbrev pub AttendsTo : {P M S : Type 0} → QueueSemantics P S → Bool → Bool → List (SpaceEntry P M) → Type 0
AttendsTo words waiting running log =
    Attends waiting running (counts_by log).eliciting (IsRequired log) ((m : ℕ) × StartedAt log m)

module _ {P M S : Type 0} (words : QueueSemantics P S) (waiting running : Bool) (log : List (SpaceEntry P M))
    (attends : AttendsTo words waiting running log) where
  -- a new ack-eliciting packet with which the timer does not start: it was started, or an ACK is required
  not_now : (now number : ℕ) → ¬ ArmsBy (acks_by words log) (counts_by log) number true
      → AttendsTo words true running (heard now number true ∷ log)
  not_now now number other =
      let why = either (is_required log) (asks log (counts_by log) number) in
      grind (arith, nat_tests, attends, other, why)

-- ---- what an event does

-- nothing that concerns an ACK
abbrev pub is_silent : SpaceKind → Bool
is_silent hearing = false
is_silent answering = false
is_silent delaying = false
is_silent kind = true

module _ {F K Q S M P : Type 0} (beginning : Beginning F K Q S M P) (before : History Q S M P) (space : SpaceId)
    (here : AttendsTo beginning.queue.words (waits space before) (timer_runs space before)
    ((logs_of beginning before).spaces space)) where
  abbrev log : SpaceId → List (SpaceEntry P M)
  log = (logs_of beginning before).spaces

  abbrev known : ReplyInputs K P M
  known = inputs_after beginning before

  abbrev waiting : Bool
  waiting = waits space before

  abbrev running : Bool
  running = timer_runs space before

  abbrev After : Option (SpaceEntry P M) → Bool → Bool → Type 0
  After entry waiting running = AttendsTo beginning.queue.words waiting running (onto entry (log space))

  -- what does not concern an ACK
  silent : (entry : SpaceEntry P M) → is_silent (space_kind entry) ≡ true → After (Some entry) waiting running
  silent entry is = grind (arith, is, here)

  -- a new ack-eliciting packet with which the timer does not start
  module _ (there : SpaceId) (now number : ℕ)
      (other : ¬ ArmsBy (acks_by beginning.queue.words (log there)) (counts_by (log there)) number true) where
    other_told : (b : Bool) → same_space there space ≡ b
        → After (cond b (Some (heard now number true)) None) (b || waiting) running
    other_told true at = not_now beginning.queue.words waiting running (log space) here now number
        (rw (one_space there space at) at other)
    other_told false at = here

  reply_attends : (event : Event Q S M P) (reply : Reply Q) → RepliesAfter beginning before event reply
      → After ((entries_of beginning.queue known event reply).spaces space)
      (waits space ((event, reply) ∷ before)) (timer_runs space ((event, reply) ∷ before))
  reply_attends (Received there now number true) (Ok (New false)) told =
      let receipt = told.1.1 in
      other_told there now number (λ arms. let is = receipt.1.1 arms in cc) (same_space there space) refl
  reply_attends (Received there now number false) (Ok (New true)) told =
      let receipt = told.1.1 in let is = (receipt.1.0 refl).0 in cc
  reply_attends (Received there now number eliciting) (Ok answer) told = grind (arith, nat_tests, here)
  reply_attends (AcksSent there) (Ok answer) told = grind (arith, nat_tests, here)
  reply_attends (AckDelayTimeout there) (Ok answer) told = grind (arith, nat_tests, here)
  reply_attends event (Ok answer) told =
      space_kept beginning.queue known space (λ entry. After entry waiting running) is_silent here silent event
      (Ok answer) refl
  reply_attends (Received there now number true) (Err refusal) told = here
  reply_attends event (Err refusal) told = here

-- ---- throughout a run

module _ {F K Q S M P : Type 0} (beginning : Beginning F K Q S M P) where
  abbrev pub AllAttended : History Q S M P → Type 0
  AllAttended history = (space : SpaceId)
      → AttendsTo beginning.queue.words (waits space history) (timer_runs space history)
      ((logs_of beginning history).spaces space)

  pub after_one : Keeps (RepliesAfter beginning) AllAttended
  after_one before event reply told all = λ space. reply_attends beginning before space (all space) event reply told

  pub none_attended : AllAttended []
  none_attended = λ space. record {
    counts = λ is. cc;
    armed = λ started. absurd started.1;
    started = λ started. absurd started.1;
    duty = λ is. cc;
  }

  pub keeps_duty : AllAlong beginning (AckIsScheduled beginning)
  keeps_duty =
      throughout_kept beginning AllAttended (AckIsScheduled beginning) after_one
      (λ before event reply here all space. (after_one before event reply here all space).duty) none_attended
