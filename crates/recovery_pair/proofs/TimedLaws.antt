-- Each call of a sender sets its timer by the events, or changes nothing; and what the sender knows of the handshake is
-- as the call says.
use Rattle.std.proofs.Common.{◌≡◌, ℕ, Bool, false, List, [], ◌∷◌, Result, Ok, Err, refl, sym, ap, subst, ◌∙◌}
use Rattle.std.specs.Prelude.{OnErr, IfOk, if◌then◌else◌}
use Rattle.recovery_base.specs.declared.below.SpaceId.{SpaceId}
use Rattle.recovery_events.specs.declared.event.Answer.{Answer}
use Rattle.recovery_events.specs.declared.event.Event.{Event}
use Rattle.recovery_events.specs.declared.event.Event.TheVariants as events
use Rattle.recovery_events.specs.declared.event.Refusal.{Refusal}
use Rattle.recovery_events.specs.declared.event.Refusal.TheVariants.{NoMemory, SpaceDiscarded}
use Rattle.recovery_losses.specs.Frames.{received_at}
use Rattle.recovery_losses.specs.declared.frames.Ack.{Ack}
use Rattle.recovery_losses.specs.declared.variables.Variables.{Variables}
use Rattle.recovery_losses.specs.Variables.{timed_out}
use Rattle.rand_core.specs.Stream.{Stream}
use Rattle.recovery_history.specs.declared.config.RecoveryConfig.{RecoveryConfig}
use Rattle.recovery_history.specs.History.{History, begins, queue_model}
use Rattle.recovery_history.specs.Reachability.{ReachedBy}
use Rattle.recovery_history.specs.RecoveryState.{RecoveryState}
use Rattle.recovery_history.specs.Table.{UnloggedStep}
use Rattle.recovery_history.specs.Transitions.{StateTransition}
use Rattle.recovery_history.specs.Unlogged.{UnloggedState, plain_of}
use Rattle.recovery_sender.specs.Promises.Liveness.{IsTimerByEvents}
use Rattle.recovery_sender.specs.Acking.{AckResult, is_first_sample, rtt_of}
use Rattle.recovery_sender.specs.Calls.{IsAnsweredEvent, IsEventResult, ProbeResult, after_event, changes_path, elicits_in, sent_at, sent_in, to_send}
use Rattle.recovery_sender.specs.Senders.{state_in}
use Rattle.recovery_sender.specs.Steps.{CompletesCall, SenderStep, TakesSteps, told}
use Rattle.recovery_sender.specs.Timeouts.{TimeoutResult}
use Rattle.recovery_sender.specs.Timer.{TimerIsSet}
use Rattle.recovery_sender.specs.declared.sender.Sender.{Sender}
use Rattle.recovery_sender.specs.declared.sender.SenderError.{SenderError}
use Rattle.recovery_sender.specs.declared.sender.SenderError.TheVariants as refused
use Rattle.recovery_sender.specs.declared.sender.acks.Acknowledged.{Acknowledged}
use Rattle.recovery_sender.specs.declared.sender.probes.Timeout.{Timeout}
use Rattle.recovery_sender.specs.declared.sender.probes.Timeout.TheVariants.{Nothing, Lost, Probe}
use Rattle.recovery_sender.proofs.EventLaws.{failed_takes}
use Rattle.recovery_pair.specs.declared.steps.AckOutcome.TheVariants.{Taken}
use Rattle.recovery_pair.specs.declared.steps.End.{End}
use Rattle.recovery_pair.specs.declared.steps.End.TheVariants.{Client, Server}
use Rattle.recovery_pair.specs.AddressKnown.{Known, known_by_ack, known_of}
use Rattle.recovery_pair.specs.Logs.{same_end}
use Rattle.recovery_pair.specs.Timed.{AreTimedAs, IsTimedAs, KeepsTimer, KeepsTimerAs}
use Rattle.recovery_pair.specs.Turns.{TurnsAt}
use Rattle.recovery_pair.proofs.KnownLaws.{heard_known, sent_known}

-- the events of an endpoint that may fail, and then change nothing
abbrev pub FailsWithoutChange : {Q S M P : Type 0} → Event Q S M P → Type 0
FailsWithoutChange (events.TakePending space) = Unit {0}
FailsWithoutChange (events.AcksSent space) = Unit {0}
FailsWithoutChange (events.AckDelayTimeout space) = Unit {0}
FailsWithoutChange (events.Received space now number eliciting) = Unit {0}
FailsWithoutChange (events.Send space now size eliciting largest queue frames) = Unit {0}
FailsWithoutChange (events.QueueProbe space immediate streams) = Unit {0}
FailsWithoutChange event = ⊥

module _ {F Q R C K S M P : Type 0} {f : _} {c : _} {q : _} {m : _} {r : _} (old new : Sender F Q R C K S M P f c q m r)
  where
    pub same_timer : new ≡ old → KeepsTimer old new
    same_timer same known has =
        subst (λ (at : Sender F Q R C K S M P f c q m r). IsTimedAs known at) (sym same) has

    -- a call that completes, from a sender in between
    pub call_timer : (after : Known → Known) (from : Sender F Q R C K S M P f c q m r)
        (steps : List (SenderStep Q S M P)) (kept : Variables) → CompletesCall steps kept from new
        → known_of kept ≡ after (known_of old.variables) → KeepsTimerAs after old new
    call_timer after from steps kept does knows known has =
        (does.running, ap known_of does.variables ∙ knows ∙ ap after has.1, does.timer)

    abbrev TimedBy : RecoveryState K P M → Variables → Type 0
    TimedBy state variables = ((config : RecoveryConfig F) (start : ℕ) (random : Stream) (past : History Q S M P)
        → (let beginning = begins f.built c.words (queue_model q.contents q.words q.blank) config start random in
        ReachedBy beginning past state → IsTimerByEvents beginning past state variables))
        × TimerIsSet state variables

    unchanged : (event : Event Q S M P) (refusal : Refusal) (between : RecoveryState K P M)
        → StateTransition (queue_model q.contents q.words q.blank) (state_in old) event (Err refusal) between
        → plain_of between ≡ plain_of (state_in old) → between ≡ state_in old
    unchanged event refusal between changes plain = changes.refused
        ∙ ap (λ (plain : UnloggedState). record (state_in old) { frequency = plain.frequency }) plain

    plainly : (event : Event Q S M P) → FailsWithoutChange event → (refusal : Refusal) (one other : UnloggedState)
        → UnloggedStep event (Err refusal) one other → other ≡ one
    plainly (events.TakePending space) fails refusal one other step = step
    plainly (events.AcksSent space) fails refusal one other step = step
    plainly (events.AckDelayTimeout space) fails refusal one other step = step
    plainly (events.Received space now number eliciting) fails refusal one other step = step
    plainly (events.Send space now size eliciting largest queue frames) fails refusal one other step = step
    plainly (events.QueueProbe space immediate streams) fails refusal one other step = step
    plainly event fails refusal one other step = absurd fails

    failed_timer : (event : Event Q S M P) → FailsWithoutChange event → (refusal : Refusal)
        → TakesSteps (told event (Err refusal) ∷ []) old new → KeepsTimer old new
    failed_timer event fails refusal takes known has =
        let changes = takes.leads.1 in
        let same = takes.leads.3 ∙ unchanged event refusal takes.leads.0 changes
        (plainly event fails refusal _ _ changes.plain) in
        let timed = subst (λ (kept : Variables). TimedBy (state_in new) kept) (sym takes.variables)
        (subst (λ (state : RecoveryState K P M). TimedBy state old.variables) (sym same) (has.0, has.2)) in
        (timed.0, ap known_of takes.variables ∙ has.1, timed.1)

    -- an event that passes and leaves the path in use
    pub event_timer : (event : Event Q S M P) → FailsWithoutChange event → changes_path event ≡ false
        → (result : Result (Answer Q) SenderError) → IsEventResult event old new result → KeepsTimer old new
    event_timer event fails stays (Ok answer) is = call_timer (λ known. known) old _ (after_event event answer
        old.variables) (subst (λ (changes : Bool). IsAnsweredEvent event old new answer changes) stays is)
        (sent_known (sent_in (elicits_in event) answer) (sent_at (to_send event) answer) old.variables)
    event_timer event fails stays (Err (refused.Event refusal)) is =
        failed_timer event fails refusal (failed_takes event old new stays refusal is)
    event_timer event fails stays (Err other) never = absurd never

    -- a call that completes, or fails without a change
    pub tries_timer : {A : Type 0} (Steps : A → List (SenderStep Q S M P)) (kept : A → Variables)
        (result : Result A SenderError)
        → IfOk result (λ done. CompletesCall (Steps done) (kept done) old new)
        → OnErr result (new ≡ old) → ((done : A) → known_of (kept done) ≡ known_of old.variables)
        → KeepsTimer old new
    tries_timer Steps kept (Ok done) does same knows = call_timer (λ known. known) old _ (kept done) does (knows done)
    tries_timer Steps kept (Err refusal) does same knows = same_timer same

    pub probe_timer : (space : SpaceId) (immediate : Bool) (streams : S) (result : Result Q SenderError)
        → ProbeResult space immediate streams old new result → KeepsTimer old new
    probe_timer space immediate streams (Ok queue) is = call_timer (λ known. known) old _ old.variables is.2 refl
    probe_timer space immediate streams (Err (refused.Event SpaceDiscarded)) is = same_timer is.1
    probe_timer space immediate streams (Err (refused.Event NoMemory)) is =
        failed_timer (events.QueueProbe space immediate streams) tt NoMemory is.1
    probe_timer space immediate streams (Err other) is = absurd is

    pub timeout_timer : (now : ℕ) (result : Result Timeout SenderError) → TimeoutResult now old new result
        → KeepsTimer old new
    timeout_timer now (Ok Nothing) is = same_timer is.1
    timeout_timer now (Ok (Lost space losses)) is =
        call_timer (λ known. known) is.1.behind [] (record old.variables { base = now }) is.1.does refl
    timeout_timer now (Ok (Probe space count)) is =
        call_timer (λ known. known) old [] (timed_out space count now old.variables) is.1 refl
    timeout_timer now (Err refusal) is = same_timer is.2

    pub ack_timer : (space : SpaceId) (now : ℕ) (ranges : List (ℕ × ℕ)) (ack : Ack) (acked : Acknowledged)
        → AckResult space now ranges ack old new (Ok acked)
        → KeepsTimerAs (known_by_ack space (Taken acked)) old new
    ack_timer space now ranges ack acked is = by acked.numbers.items refl
      where
        by : (numbers : List ℕ) → acked.numbers.items ≡ numbers → KeepsTimerAs (known_by_ack space (Taken acked)) old
            new
        by [] none = call_timer (known_by_ack space (Taken acked)) old [] old.variables (is.none none).does
            (rw none refl)
        by (number ∷ numbers) some =
            let acks = is.some (λ none. absurd cc) in
            call_timer (known_by_ack space (Taken acked)) acks.heard [] _ acks.does
            (rw some (heard_known space now (is_first_sample (state_in old)
            (rtt_of (state_in old) space (received_at ack now) ranges is.elicits)) old.variables))

module _ {F Q R C K S M P : Type 0} {f : _} {c : _} {q : _} {m : _} {r : _} where
  -- one endpoint makes a call, the other none
  pub timers_at : (end : End) (after : Known → Known)
      (client server client_after server_after : Sender F Q R C K S M P f c q m r)
      → TurnsAt end (KeepsTimerAs after) client server client_after server_after → (known : End → Known)
      → AreTimedAs known client server
      → AreTimedAs (λ at. if same_end end at then after (known at) else known at) client_after server_after
  timers_at Client after client server client_after server_after turn known have =
      (turn.0 (known Client) have.0, same_timer server server_after turn.1 (known Server) have.1)
  timers_at Server after client server client_after server_after turn known have =
      (same_timer client client_after turn.1 (known Client) have.0, turn.0 (known Server) have.1)

  -- and it learns nothing by it
  pub timers_still : (end : End)
      (client server client_after server_after : Sender F Q R C K S M P f c q m r)
      → TurnsAt end KeepsTimer client server client_after server_after → (known : End → Known)
      → AreTimedAs known client server → AreTimedAs known client_after server_after
  timers_still Client client server client_after server_after turn =
      timers_at Client (λ known. known) client server client_after server_after turn
  timers_still Server client server client_after server_after turn =
      timers_at Server (λ known. known) client server client_after server_after turn
