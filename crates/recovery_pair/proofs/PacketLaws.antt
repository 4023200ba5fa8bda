-- The calls by which a packet is sent or received.
use Rattle.std.proofs.Common.{◌≡◌, ℕ, ◌==◌, ◌&&◌, Bool, true, false, [], ◌∷◌, Option, Result, Ok, Err, refl, sym, subst, arith}
use Rattle.std.specs.Prelude.{IfOk, OnErr, OnOk}
use Rattle.std.proofs.lemmas.Bool.Decides.{nat_tests}
use Rattle.rand_core.specs.Stream.{Stream}
use Rattle.recovery_base.specs.declared.below.SpaceId.{SpaceId}
use Rattle.recovery_base.specs.Spaces.{same_space}
use Rattle.recovery_events.specs.declared.event.Answer.{Answer}
use Rattle.recovery_events.specs.declared.event.Answer.TheVariants.{Done, New, Sent}
use Rattle.recovery_events.specs.declared.event.Event.{Event}
use Rattle.recovery_events.specs.declared.event.Event.TheVariants.{Received, Send}
use Rattle.recovery_losses.specs.declared.variables.Variables.{Variables}
use Rattle.recovery_history.specs.declared.config.RecoveryConfig.{RecoveryConfig}
use Rattle.recovery_history.specs.History.{History, Reply, begins, queue_model}
use Rattle.recovery_history.specs.Reachability.{ReachedBy, StepGuarantees}
use Rattle.recovery_history.specs.RecoveryState.{RecoveryState}
use Rattle.recovery_sender.specs.Calls.{EventResult, transmit_steps}
use Rattle.recovery_sender.specs.Steps.{CompletesCall, TakesSteps, told}
use Rattle.recovery_sender.specs.declared.sender.Sender.{Sender}
use Rattle.recovery_sender.specs.declared.sender.SenderError.{SenderError}
use Rattle.recovery_sender.specs.declared.sender.SenderError.TheVariants as refused
use Rattle.recovery_sender.specs.declared.sender.packets.Transmission.{Transmission}
use Rattle.recovery_sender.specs.declared.sender.packets.Transmission.TheVariants as transmission
use Rattle.recovery_pair.specs.Flights.{counted_if}
use Rattle.recovery_pair.specs.Pasts.{Continues, EndTurn, GoesOn, GoesOnQuietly, HearsNumber, SendsNumber, arm_told, heard_of, leaving, no_endings, quiet}
use Rattle.recovery_pair.specs.Turns.{TransmitTurn, TriesTurn}
use Rattle.recovery_pair.proofs.AlongLaws.{event_so}
use Rattle.recovery_pair.proofs.GoingLaws.{delayed_event, dropped_event, hears_event, hears_then_quiet, known_event, leaves_event, same_itself, sends_event, sends_then_quiet, then_quiet}
use Rattle.recovery_pair.proofs.QuietLaws.{call_quietly, ending_along, same_quietly}

pub counted_once : (eliciting : Bool) (size : ℕ)
    → counted_if eliciting (counted_if eliciting size) ≡ counted_if eliciting size
counted_once true size = refl
counted_once false size = refl

it_goes : (space : SpaceId) (n : ℕ) → (same_space space space && n == n) ≡ true
it_goes space n = let same = same_itself space in grind (arith, nat_tests, same)

module _ {F Q R C K S M P : Type 0} {f : _} {c : _} {q : _} {m : _} {r : _} (event : Event Q S M P) (reply : Reply Q)
    (Goes : History Q S M P → History Q S M P → Type 0)
    (joins : (past between after : History Q S M P) → Goes past between → GoesOnQuietly between after → Goes past after)
  where
    -- what an event does to a past a call does that makes it
    pub call_goes : (kept : Variables) (old new : Sender F Q R C K S M P f c q m r)
        → CompletesCall (told event reply ∷ []) kept old new
        → ((config : RecoveryConfig F) (start : ℕ) (random : Stream) (past : History Q S M P)
        → StepGuarantees (begins f.built c.words (queue_model q.contents q.words q.blank) config start random) past
        event
        reply → Goes past ((event, reply) ∷ past)) → Continues Goes old new
    call_goes kept old new = event_so (ending_along no_endings) old new event reply Goes joins kept

    pub steps_go : (old new : Sender F Q R C K S M P f c q m r) → TakesSteps (told event reply ∷ []) old new
        → ((config : RecoveryConfig F) (start : ℕ) (random : Stream) (past : History Q S M P)
        → StepGuarantees (begins f.built c.words (queue_model q.contents q.words q.blank) config start random) past
        event
        reply → Goes past ((event, reply) ∷ past)) → Continues Goes old new
    steps_go old new takes goes = record {
      from = λ config start random past came. (
          let leads = takes.leads in
          let one = leads.2 config start random past came in (
            (event, reply) ∷ past,
            subst (λ (at : RecoveryState K P M). ReachedBy (begins f.built c.words (queue_model q.contents q.words
                q.blank)
                config start random) ((event, reply) ∷ past) at) (sym leads.3) one.came,
            goes config start random past one.keeps,
          ));
    }

module _ {F Q R C K S M P : Type 0} {f : _} {c : _} {q : _} {m : _} {r : _} where
  pub sends_by_call : (space : SpaceId) (now size : ℕ) (eliciting : Bool) (largest : Option ℕ) (queue : Q) (frames : M)
      (number : ℕ) (forgotten : Option ℕ) (kept : Variables) (old new : Sender F Q R C K S M P f c q m r)
      → counted_if eliciting size ≡ size
      → CompletesCall (told (Send space now size eliciting largest queue frames) (Ok (Sent number forgotten)) ∷ []) kept
      old new → Continues (SendsNumber 0 (counted_if eliciting size) eliciting space number largest now) old new
  sends_by_call space now size eliciting largest queue frames number forgotten kept old new counted does =
      call_goes (Send space now size eliciting largest queue frames) (Ok (Sent number forgotten))
      (SendsNumber 0 (counted_if eliciting size) eliciting space number largest now)
      (sends_then_quiet 0 (counted_if eliciting size) eliciting space number largest now) kept old new does
      (λ config start random past keeps. sends_event past space now size eliciting largest queue frames number forgotten
      keeps.numbers_increase keeps.one_outcome keeps.forgotten (it_goes space number) counted)

  -- ---- a packet is received

  hears_by_call : (space : SpaceId) (now n : ℕ) (eliciting arm : Bool) (kept : Variables)
      (old new : Sender F Q R C K S M P f c q m r)
      → CompletesCall (told (Received space now n eliciting) (Ok (New arm)) ∷ []) kept old new
      → Continues (HearsNumber now 0 space n (Ok true) no_endings) old new
  hears_by_call space now n eliciting arm kept old new does =
      call_goes (Received space now n eliciting) (Ok (New arm)) (HearsNumber now 0 space n (Ok true) no_endings)
      (hears_then_quiet now 0 space n (Ok true) no_endings) kept old new does
      (λ config start random past keeps. hears_event past space now n eliciting arm keeps.new)

  known_by_call : (space : SpaceId) (now n : ℕ) (eliciting : Bool) (answer : Answer Q) (kept : Variables)
      (old new : Sender F Q R C K S M P f c q m r) → ((arm : Bool) → answer ≡ New arm → ⊥)
      → CompletesCall (told (Received space now n eliciting) (Ok answer) ∷ []) kept old new
      → Continues (HearsNumber now 0 space n (Ok false) no_endings) old new
  known_by_call space now n eliciting answer kept old new other does =
      call_goes (Received space now n eliciting) (Ok answer) (HearsNumber now 0 space n (Ok false) no_endings)
      (hears_then_quiet now 0 space n (Ok false) no_endings) kept old new does
      (λ config start random past keeps. known_event past space now n eliciting answer other keeps.new)

  pub heard_by_call : (space : SpaceId) (now n : ℕ) (eliciting : Bool) (answer : Answer Q) (kept : Variables)
      (old new : Sender F Q R C K S M P f c q m r)
      → CompletesCall (told (Received space now n eliciting) (Ok answer) ∷ []) kept old new
      → Continues (HearsNumber now 0 space n (heard_of (Ok (arm_told answer))) no_endings) old new
  heard_by_call space now n eliciting (New arm) kept old new does =
      hears_by_call space now n eliciting arm kept old new does
  heard_by_call space now n eliciting answer kept old new does =
      known_by_call space now n eliciting answer kept old new (λ arm is. absurd cc) does

  pub dropped_by_call : (space : SpaceId) (now n : ℕ) (eliciting : Bool) (refusal : SenderError)
      (old new : Sender F Q R C K S M P f c q m r) → EventResult (Received space now n eliciting) old new (Err refusal)
      → Continues (HearsNumber now 0 space n (Err refusal) no_endings) old new
  dropped_by_call space now n eliciting (refused.Event refusal) old new takes =
      steps_go (Received space now n eliciting) (Err refusal) (HearsNumber now 0 space n (Err (refused.Event refusal))
      no_endings)
      (hears_then_quiet now 0 space n (Err (refused.Event refusal)) no_endings) old new takes
      (λ config start random past keeps. dropped_event past space now n eliciting refusal keeps.new)
  dropped_by_call space now n eliciting other old new never = absurd never

  -- ---- datagrams, spaces and addresses

  -- whether a datagram may be sent
  pub may_transmit : (now bytes : ℕ) (checked : Bool) (kept : Transmission → Variables)
      (old new : Sender F Q R C K S M P f c q m r) (result : Result Transmission SenderError)
      → IfOk result (λ sent. CompletesCall (transmit_steps now bytes checked sent) (kept sent) old new)
      → OnErr result (new ≡ old) → TransmitTurn old new bytes result
  may_transmit now bytes checked kept old new (Ok transmission.Transmitted) does same =
      call_goes _ _ (GoesOn (leaving bytes)) (then_quiet (leaving bytes)) (kept transmission.Transmitted) old new does
      (λ config start random past keeps. leaves_event past now bytes checked)
  may_transmit now bytes checked kept old new (Ok (transmission.Delayed until ack)) does same =
      call_goes _ _ GoesOnQuietly (then_quiet quiet) (kept (transmission.Delayed until ack)) old new does
      (λ config start random past keeps. delayed_event past now bytes until checked)
  may_transmit now bytes checked kept old new (Ok other) does same = call_quietly [] (kept other) old new does tt
  may_transmit now bytes checked kept old new (Err refusal) does same = same_quietly old new same

  -- a call that is one event
  pub makes_event : (event : Event Q S M P) (turn : EndTurn) (kept : Variables)
      (old new : Sender F Q R C K S M P f c q m r)
      → ((past : History Q S M P) → GoesOn turn past ((event, Ok Done) ∷ past))
      → CompletesCall (told event (Ok Done) ∷ []) kept old new → Continues (GoesOn turn) old new
  makes_event event turn kept old new each does =
      call_goes event (Ok Done) (GoesOn turn) (then_quiet turn) kept old new does
      (λ config start random past keeps. each past)

  -- or fails, and changes nothing
  pub tries_event : (event : Event Q S M P) (turn : EndTurn) (kept : Variables)
      (old new : Sender F Q R C K S M P f c q m r) (result : Result (Unit {0}) SenderError)
      → ((past : History Q S M P) → GoesOn turn past ((event, Ok Done) ∷ past))
      → OnOk result (CompletesCall (told event (Ok Done) ∷ []) kept old new) → OnErr result (new ≡ old)
      → TriesTurn turn old new result
  tries_event event turn kept old new (Ok done) each does same = makes_event event turn kept old new each does
  tries_event event turn kept old new (Err refusal) each does same = same_quietly old new same
