-- The smallest window: what reports persistent congestion leaves it, and what the endpoint does then keeps it.
use Rattle.std.proofs.Common.{◌≡◌, ℕ, ◌≤◌, ◌&&◌, Bool, true, false, true≢false, List, [], ◌∷◌, Option, None, Some, Result, Ok, Err, refl, sym, subst, ◌∙◌, inl, inr}
use Rattle.recovery_base.specs.declared.below.SpaceId.{SpaceId}
use Rattle.recovery_congestion.specs.Controllers.{ControllerLaws, HasLeastWindow}
use Rattle.recovery_events.specs.declared.event.Answer.{Answer}
use Rattle.recovery_events.specs.declared.event.Event.{Event}
use Rattle.recovery_losses.specs.declared.due.Due.{Due}
use Rattle.recovery_losses.specs.declared.frames.Ack.{Ack}
use Rattle.recovery_losses.specs.declared.variables.Variables.{Variables}
use Rattle.recovery_history.specs.History.{QueueModel, Reply, queue_model}
use Rattle.recovery_history.specs.RecoveryState.{RecoveryState}
use Rattle.recovery_history.proofs.EntryKinds.{is_by}
use Rattle.recovery_history.proofs.EventBoundLaws.{event_leaves_controller, leaves_controller}
use Rattle.recovery_sender.specs.Acking.{AckResult}
use Rattle.recovery_sender.specs.Bounds.{IsWindowLeast}
use Rattle.recovery_sender.specs.Calls.{IsAnsweredEvent, IsEventResult, after_event, changes_path}
use Rattle.recovery_sender.specs.Senders.{state_in}
use Rattle.recovery_sender.specs.Steps.{CompletesCall, RearmsTimer, StepsLeadTo, timer_event, told}
use Rattle.recovery_sender.specs.Timeouts.{TimeoutResult}
use Rattle.recovery_sender.specs.Timer.{due_of}
use Rattle.recovery_sender.specs.declared.sender.Sender.{Sender}
use Rattle.recovery_sender.specs.declared.sender.SenderError.{SenderError}
use Rattle.recovery_sender.specs.declared.sender.SenderError.TheVariants as refused
use Rattle.recovery_sender.specs.declared.sender.acks.Acknowledged.{Acknowledged}
use Rattle.recovery_sender.specs.declared.sender.probes.Timeout.{Timeout}
use Rattle.recovery_sender.specs.declared.sender.probes.Timeout.TheVariants.{Lost, Nothing, Probe}
use Rattle.recovery_sender.proofs.PersistenceLaws.{detects_least}
use Rattle.recovery_sender.proofs.EventLaws.{failed_takes}
use Rattle.recovery_pair.specs.declared.steps.End.{End}
use Rattle.recovery_pair.specs.declared.steps.End.TheVariants.{Client, Server}
use Rattle.recovery_pair.specs.LeastWindows.{IsLeastIf, KeepsLeastWindow, persists_by_timeout}
use Rattle.recovery_pair.specs.Logs.{same_end}
use Rattle.recovery_pair.specs.Turns.{TurnsAt}

-- the event by which the timer is set leaves the controller unchanged
timer_leaves : (Q S M P : Type 0) (due : Option (ℕ × Due))
    → is_by leaves_controller (timer_event {Q = Q} {S = S} {M = M} {P = P} due) ≡ true
timer_leaves Q S M P None = refl
timer_leaves Q S M P (Some due) = refl

module _ {F Q R C K S M P : Type 0} {f : _} {c : _} {q : _} {m : _} {r : _} (old new : Sender F Q R C K S M P f c q m r)
  where
    abbrev model : QueueModel Q S M P
    model = queue_model q.contents q.words q.blank

    -- one event that leaves the controller unchanged
    leads_least : (event : Event Q S M P) (reply : Reply Q) (before after : RecoveryState K P M)
        → is_by leaves_controller event ≡ true
        → StepsLeadTo f.built c.words model (told event reply ∷ []) before after → IsWindowLeast c.words before
        → IsWindowLeast c.words after
    leads_least event reply before after is leads least =
        subst (λ (at : RecoveryState K P M). IsWindowLeast c.words at) (sym leads.3)
        (subst (λ k. HasLeastWindow c.words k) (sym (event_leaves_controller model before event reply leads.0 is
        leads.1)) least)

    -- the timer is set
    sets_least : (kept : Variables) (between : RecoveryState K P M)
        → RearmsTimer f.built c.words model kept between (state_in new) → IsWindowLeast c.words between
        → IsWindowLeast c.words (state_in new)
    sets_least kept between (inl same) least =
        subst (λ (at : RecoveryState K P M). IsWindowLeast c.words at) (sym same.1) least
    sets_least kept between (inr set) least = leads_least (timer_event (due_of (state_in new) kept)) _ between
        (state_in new) (timer_leaves Q S M P (due_of (state_in new) kept)) set.1 least

    completes_least : {event : Event Q S M P} {reply : Reply Q} (leaves : is_by leaves_controller event ≡ true)
        (kept : Variables) → CompletesCall (told event reply ∷ []) kept old new → KeepsLeastWindow old new
    completes_least {event = event} {reply = reply} leaves kept does least = sets_least kept does.between does.sets
        (leads_least event reply (state_in old) does.between leaves does.leads least)

    pub event_least : (event : Event Q S M P) → is_by leaves_controller event ≡ true → changes_path event ≡ false
        → (result : Result (Answer Q) SenderError) → IsEventResult event old new result → KeepsLeastWindow old new
    event_least event leaves stays (Ok answer) is least =
        let does = subst (λ (changes : Bool). IsAnsweredEvent event old new answer changes) stays is in
        completes_least leaves (after_event event answer old.variables) does least
    event_least event leaves stays (Err (refused.Event refusal)) is least =
        leads_least event (Err refusal) (state_in old) (state_in new) leaves
        (failed_takes event old new stays refusal is).leads least
    event_least event leaves stays (Err other) never least = absurd never

    -- the loss detection timer
    pub timeout_least : {IsSound : K → Type 0} (laws : ControllerLaws c.words IsSound)
        (starts : (factory : F) (now mtu : ℕ) → c.words.recovery_start (f.built factory now mtu) ≤ now) (now : ℕ)
        (result : Result Timeout SenderError) → TimeoutResult now old new result
        → IsLeastIf (persists_by_timeout result) new
    timeout_least laws starts now (Ok (Lost space losses)) is persistent =
        let found = is.1 in
        sets_least (record old.variables { base = now }) found.does.between found.does.sets
        (subst (λ (at : RecoveryState K P M). IsWindowLeast c.words at) (sym found.does.leads)
        (detects_least old found.behind laws starts space now now false losses found.detects persistent))
    timeout_least laws starts now (Ok Nothing) is never = absurd (true≢false (sym never))
    timeout_least laws starts now (Ok (Probe space count)) is never = absurd (true≢false (sym never))
    timeout_least laws starts now (Err refusal) is never = absurd (true≢false (sym never))

    -- an ACK frame
    pub ack_least : (space : SpaceId) (now : ℕ) (ranges : List (ℕ × ℕ)) (ack : Ack) (acked : Acknowledged)
        → AckResult space now ranges ack old new (Ok acked) → IsLeastIf acked.losses.is_persistent new
    ack_least space now ranges ack acked is persistent = by acked.numbers.items refl
      where
        by : (numbers : List ℕ) → acked.numbers.items ≡ numbers → IsWindowLeast c.words (state_in new)
        by [] none = absurd (true≢false (sym persistent ∙ (is.none none).lost.persistent))
        by (number ∷ numbers) some = (is.some (λ none. absurd cc)).least persistent

-- of the endpoint that makes the call
pub least_at : {F Q R C K S M P : Type 0} {f : _} {c : _} {q : _} {m : _} {r : _} (end : End) (persistent : Bool)
    (client server client_after server_after : Sender F Q R C K S M P f c q m r)
    → TurnsAt end (λ (old new : Sender F Q R C K S M P f c q m r). IsLeastIf persistent new) client server
    client_after server_after
    → IsLeastIf (same_end end Client && persistent) client_after
    × IsLeastIf (same_end end Server && persistent) server_after
least_at Client persistent client server client_after server_after turn =
    (turn.0, λ never. absurd (true≢false (sym never)))
least_at Server persistent client server client_after server_after turn =
    (λ never. absurd (true≢false (sym never)), turn.0)
