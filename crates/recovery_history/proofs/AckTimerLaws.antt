-- The ACK delay timer starts exactly if the history says so: the clause `ack_timer` of `run`.
use Rattle.std.proofs.lemmas.Bool.Decides.{nat_tests}
use Rattle.std.proofs.Common.{◌≡◌, ℕ, ◌||◌, ◌↔◌, Bool, true, false, cond, List, ◌∷◌, Option, None, Some, Ok, Err, inr, refl, arith}
use Rattle.recovery_base.specs.declared.below.SpaceId.{SpaceId}
use Rattle.recovery_base.specs.declared.below.SpaceId.TheVariants.{Initial, Handshake, Data}
use Rattle.recovery_base.specs.Spaces.{same_space}
use Rattle.recovery_spaces.specs.Acks.{IsRequired, StartedAt}
use Rattle.recovery_spaces.specs.SpaceLog.{SpaceEntry, heard}
use Rattle.recovery_events.specs.declared.event.Event.{Event}
use Rattle.recovery_events.specs.declared.event.Event.TheVariants.{Received, AcksSent, AckDelayTimeout}
use Rattle.recovery_events.specs.declared.event.Answer.TheVariants.{New}
use Rattle.recovery_history.specs.Table.{entries_of}
use Rattle.recovery_history.specs.RepliesAfter.{logs_of, inputs_after, RepliesAfter}
use Rattle.recovery_history.specs.History.{Beginning, History, Reply}
use Rattle.recovery_history.specs.ReplyInputs.{ReplyInputs}
use Rattle.recovery_history.specs.Logs.{onto}
use Rattle.recovery_history.specs.Promises.AckDuty.{timer_runs}
use Rattle.recovery_history.specs.Promises.AckTimer.{StartsAckDelayTimer}
use Rattle.recovery_history.proofs.AckDutyLaws.{AllAttended, after_one, none_attended, is_silent}
use Rattle.recovery_history.proofs.EntryKinds.{space_kept}
use Rattle.recovery_history.proofs.Runs.{AllAlong, throughout_kept}
use Rattle.recovery_history.proofs.TrackedLaws.{one_space}

itself : (space : SpaceId) → same_space space space ≡ true
itself Initial = refl
itself Handshake = refl
itself Data = refl

not_true : (b : Bool) → ¬ (b ≡ true) → b ≡ false
not_true true other = absurd (other refl)
not_true false other = refl

-- ---- if the timer runs, it was started since the last ACK

abbrev WasStarted : {P M : Type 0} → List (SpaceEntry P M) → Type 0
WasStarted log = (m : ℕ) × StartedAt log m

module _ {F K Q S M P : Type 0} (beginning : Beginning F K Q S M P) where
  module _ (before : History Q S M P) (space : SpaceId)
      (here : timer_runs space before ≡ true → WasStarted ((logs_of beginning before).spaces space)) where
    abbrev log : SpaceId → List (SpaceEntry P M)
    log = (logs_of beginning before).spaces

    abbrev known : ReplyInputs K P M
    known = inputs_after beginning before

    abbrev running : Bool
    running = timer_runs space before

    abbrev After : Option (SpaceEntry P M) → Bool → Type 0
    After entry runs = runs ≡ true → WasStarted (onto entry (log space))

    -- a packet was received with which the timer starts
    starts_told : (there : SpaceId) (now number : ℕ) (eliciting : Bool)
        → ((m : ℕ) × StartedAt (heard now number eliciting ∷ log there) m) → (b : Bool) → same_space there space ≡ b
        → After (cond b (Some (heard now number eliciting)) None) (b || running)
    starts_told there now number eliciting was true at is = rw (one_space there space at) at was
    starts_told there now number eliciting was false at is = here is

    reply_starts : (event : Event Q S M P) (reply : Reply Q) → RepliesAfter beginning before event reply
        → After ((entries_of beginning.queue known event reply).spaces space)
        (timer_runs space ((event, reply) ∷ before))
    reply_starts (Received there now number eliciting) (Ok (New true)) told =
        let receipt = told.1.1 in
        starts_told there now number eliciting (now, inr (refl, receipt.1.0 refl)) (same_space there space) refl
    reply_starts (Received there now number eliciting) (Ok answer) told = grind (arith, nat_tests, here)
    reply_starts (AcksSent there) (Ok answer) told = grind (arith, nat_tests, here)
    reply_starts (AckDelayTimeout there) (Ok answer) told = grind (arith, nat_tests, here)
    reply_starts event (Ok answer) told =
        space_kept beginning.queue known space (λ entry. After entry running) is_silent here
        (λ entry is. grind (arith, is, here)) event (Ok answer) refl
    reply_starts (Received there now number eliciting) (Err refusal) told = here
    reply_starts event (Err refusal) told = here

  abbrev AllStarted : History Q S M P → Type 0
  AllStarted history =
      (space : SpaceId) → timer_runs space history ≡ true → WasStarted ((logs_of beginning history).spaces space)

  abbrev Both : History Q S M P → Type 0
  Both history = AllAttended beginning history × AllStarted history

  -- ---- the reply to a packet

  module _ (before : History Q S M P) (both : Both before) where
    timer_told : (event : Event Q S M P) (reply : Reply Q) → RepliesAfter beginning before event reply
        → StartsAckDelayTimer beginning before event reply
    timer_told (Received space now number eliciting) (Ok (New arm)) told = go (same_space space space) (itself space)
      where
        go : (b : Bool) → b ≡ true → (arm ≡ true) ↔ ((eliciting ≡ true) × (timer_runs space before ≡ false)
            × ¬ IsRequired (onto (cond b (Some (heard now number eliciting)) None)
            ((logs_of beginning before).spaces space)))
        go true is = grind (arith, nat_tests, told.1.1, (both.0 space).started, both.1 space)
        go false is = cc
    timer_told event reply told = tt

  pub starts_timer : AllAlong beginning (StartsAckDelayTimer beginning)
  starts_timer =
      throughout_kept beginning Both (StartsAckDelayTimer beginning)
      (λ before event reply here both. (
        after_one beginning before event reply here both.0,
        λ space. reply_starts before space (both.1 space) event reply here,
      ))
      (λ before event reply here both. timer_told before both event reply here)
      (none_attended beginning, λ space is. cc)
