-- What each event adds to a past, the steps of a call add together.
use Rattle.std.proofs.Common.{◌≡◌, ℕ, inl, inr, Bool, true, false, List, [], ◌∷◌, Option, None, Some, Result, Ok, Err, sym, subst}
use Rattle.rand_core.specs.Stream.{Stream}
use Rattle.recovery_base.specs.declared.below.SpaceId.{SpaceId}
use Rattle.recovery_base.specs.declared.below.frames.EcnCounts.{EcnCounts}
use Rattle.recovery_base.specs.declared.timer.Timer.TheVariants.{LossDetection}
use Rattle.recovery_congestion.specs.Controllers.{ControllerSemantics}
use Rattle.recovery_events.specs.declared.event.Answer.{Answer}
use Rattle.recovery_events.specs.declared.event.Answer.TheVariants.{Done}
use Rattle.recovery_events.specs.declared.event.Event.{Event}
use Rattle.recovery_events.specs.declared.event.Event.TheVariants.{Sample, SetTimer, StopTimer}
use Rattle.recovery_spaces.specs.Discarded.{is_discarded}
use Rattle.recovery_spaces.specs.Spaces.{Space}
use Rattle.recovery_losses.specs.declared.due.Due.{Due}
use Rattle.recovery_losses.specs.declared.variables.Variables.{Variables}
use Rattle.recovery_history.specs.declared.config.RecoveryConfig.{RecoveryConfig}
use Rattle.recovery_history.specs.History.{Beginning, History, QueueModel, Reply, begins, queue_model}
use Rattle.recovery_history.specs.Reachability.{ReachedBy, StepGuarantees}
use Rattle.recovery_history.specs.RecoveryState.{RecoveryState}
use Rattle.recovery_sender.specs.Acking.{EcnResult, SamplesRtt, first_marked}
use Rattle.recovery_sender.specs.Calls.{IsAnsweredEvent, IsEventResult, changes_path}
use Rattle.recovery_sender.specs.Senders.{state_in}
use Rattle.recovery_sender.specs.Steps.{CompletesCall, RearmsTimer, SenderStep, StepsLeadTo, TakesSteps, loss_time, marked, occurs, timed, told}
use Rattle.recovery_sender.specs.Timer.{due_of}
use Rattle.recovery_sender.specs.declared.sender.Sender.{Sender}
use Rattle.recovery_sender.specs.declared.sender.SenderError.{SenderError}
use Rattle.recovery_sender.specs.declared.sender.SenderError.TheVariants as refused
use Rattle.recovery_sender.specs.declared.sender.acks.EcnOutcome.{EcnOutcome}
use Rattle.recovery_sender.proofs.ExtendedLaws.{loss_time_reached, marks_reached}
use Rattle.recovery_sender.proofs.EventLaws.{failed_takes}
use Rattle.recovery_pair.specs.Pasts.{Continues, HasPast}

module _ {Q S M P : Type 0} (IsSo : Event Q S M P → Reply Q → Type 0) where
  -- each event of these steps is so
  abbrev pub AreSo : List (SenderStep Q S M P) → Type 0
  AreSo [] = Unit {0}
  AreSo (told event reply ∷ steps) = IsSo event reply × AreSo steps
  AreSo (occurs event ∷ steps) = ((answer : Answer Q) → IsSo event (Ok answer)) × AreSo steps
  AreSo (loss_time space time ∷ steps) = AreSo steps
  AreSo (marked marks ∷ steps) = AreSo steps

  -- what one such event adds to a past, none or several add; the timer may be set
  pub record Extends (Goes : History Q S M P → History Q S M P → Type 0) : Type 0 where
    pub none : (past : History Q S M P) → Goes past past
    pub one : (event : Event Q S M P) (reply : Reply Q) → IsSo event reply → (past : History Q S M P)
        → Goes past ((event, reply) ∷ past)
    pub joins : (past between after : History Q S M P) → Goes past between → Goes between after → Goes past after
    pub sets : (time : ℕ) → IsSo (SetTimer LossDetection time) (Ok Done)
    pub stops : IsSo (StopTimer LossDetection) (Ok Done)

  so_first : {K : Type 0} (recovery : RecoveryState K P M) (space : SpaceId) (first : Option (SpaceId × ℕ))
      (here : Option (Space P M)) → AreSo (first_marked recovery space first here)
  so_first recovery space None (Some here) = tt
  so_first recovery space None None = tt
  so_first recovery space (Some first) here = tt

module _ {F K Q S M P : Type 0} (built : F → ℕ → ℕ → K) (words : ControllerSemantics K) (queue : QueueModel Q S M P)
    (config : RecoveryConfig F) (start : ℕ) (random : Stream) {IsSo : Event Q S M P → Reply Q → Type 0}
    {Goes : History Q S M P → History Q S M P → Type 0} (adds : Extends IsSo Goes) where
  abbrev beginning : Beginning F K Q S M P
  beginning = begins built words queue config start random

  -- a past goes on to one of the new state
  abbrev Reaches : History Q S M P → RecoveryState K P M → Type 0
  Reaches past new = (after : History Q S M P) × ReachedBy beginning after new × Goes past after

  stays : (old new : RecoveryState K P M) → new ≡ old → (past : History Q S M P) → ReachedBy beginning past old
      → Reaches past new
  stays old new same past came =
      (past, subst (λ (at : RecoveryState K P M). ReachedBy beginning past at) (sym same) came, adds.none past)

  pub leads_so : (steps : List (SenderStep Q S M P)) (old new : RecoveryState K P M) → AreSo IsSo steps
      → StepsLeadTo built words queue steps old new → (past : History Q S M P) → ReachedBy beginning past old
      → Reaches past new
  leads_so [] old new so leads past came = stays old new leads past came
  leads_so (told event reply ∷ steps) old new so leads past came =
      let one = leads.2 config start random past came in
      let rest = leads_so steps leads.0 new so.1 leads.3 ((event, reply) ∷ past) one.came in
      (rest.0, rest.1, adds.joins past ((event, reply) ∷ past) rest.0 (adds.one event reply so.0 past) rest.2)
  leads_so (occurs event ∷ steps) old new so leads past came =
      let one = leads.3 config start random past came in
      let rest = leads_so steps leads.1 new so.1 leads.4 ((event, Ok leads.0) ∷ past) one.came in (
        rest.0,
        rest.1,
        adds.joins past ((event, Ok leads.0) ∷ past) rest.0 (adds.one event (Ok leads.0) (so.0 leads.0) past) rest.2,
      )
  leads_so (loss_time space time ∷ steps) old new so leads past came = leads_so steps _ new so leads past
      (loss_time_reached beginning past old came space time (is_discarded space old.discarded))
  leads_so (marked marks ∷ steps) old new so leads past came =
      leads_so steps _ new so leads past (marks_reached beginning past old came marks)

  timer_so : (due : Option (ℕ × Due)) → AreSo IsSo (timed due ∷ [])
  timer_so None = (adds.stops, tt)
  timer_so (Some due) = (adds.sets due.0, tt)

  pub rearms_so : (kept : Variables) (old new : RecoveryState K P M) → RearmsTimer built words queue kept old new
      → (past : History Q S M P) → ReachedBy beginning past old → Reaches past new
  rearms_so kept old new (inl (set, same)) past came = stays old new same past came
  rearms_so kept old new (inr (unset, leads)) past came =
      leads_so (timed (due_of new kept) ∷ []) old new (timer_so (due_of new kept)) leads past came

-- how the run of a past began
abbrev pub beginning_of : {F Q R C K S M P : Type 0} {f : _} {c : _} {q : _} {m : _} {r : _}
    {sender : Sender F Q R C K S M P f c q m r} → HasPast sender → Beginning F K Q S M P
beginning_of {f = f} {c = c} {q = q} has =
    begins f.built c.words (queue_model q.contents q.words q.blank) has.config has.start has.random

-- and how it goes on
module _ {F Q R C K S M P : Type 0} {f : _} {c : _} {q : _} {m : _} {r : _} {old new : Sender F Q R C K S M P f c q m r}
    {Goes : History Q S M P → History Q S M P → Type 0} (has : HasPast old) (goes : Continues Goes old new) where
  abbrev pub went : (after : History Q S M P) × ReachedBy (beginning_of has) after (state_in new) × Goes has.past after
  went = goes.from has.config has.start has.random has.past has.came

  abbrev pub past_after : HasPast new
  past_after = record { config = has.config; start = has.start; random = has.random; past = went.0; came = went.1 }

-- one call after another
pub joined : {F Q R C K S M P : Type 0} {f : _} {c : _} {q : _} {m : _} {r : _}
    (First Next Both : History Q S M P → History Q S M P → Type 0)
    → ((past between after : History Q S M P) → First past between → Next between after → Both past after)
    → (old between new : Sender F Q R C K S M P f c q m r) → Continues First old between
    → Continues Next between new → Continues Both old new
joined First Next Both joins old between new first second = record {
  from = λ config start random past came. (
      let one = first.from config start random past came in
      let two = second.from config start random one.0 one.1 in
      (two.0, two.1, joins past one.0 two.0 one.2 two.2));
}

module _ {F Q R C K S M P : Type 0} {f : _} {c : _} {q : _} {m : _} {r : _} {IsSo : Event Q S M P → Reply Q → Type 0}
    {Goes : History Q S M P → History Q S M P → Type 0} (adds : Extends IsSo Goes)
    (old new : Sender F Q R C K S M P f c q m r) where
  pub same_so : new ≡ old → Continues Goes old new
  same_so same = record {
    from = λ config start random past came. (
      past,
      subst (λ (at : Sender F Q R C K S M P f c q m r).
          ReachedBy (begins f.built c.words (queue_model q.contents q.words q.blank) config start random) past
          (state_in at)) (sym same) came,
      adds.none past,
    );
  }

  pub steps_so : (steps : List (SenderStep Q S M P)) → TakesSteps steps old new → AreSo IsSo steps
      → Continues Goes old new
  steps_so steps goes so = record {
    from = λ config start random. leads_so f.built c.words (queue_model q.contents q.words q.blank) config start random
        adds steps (state_in old) (state_in new) so goes.leads;
  }

  -- a call takes steps by which each past goes on so, and sets the timer
  pub completes_so : (After : History Q S M P → History Q S M P → Type 0)
      → ((past between after : History Q S M P) → After past between → Goes between after → After past after)
      → (steps : List (SenderStep Q S M P)) (kept : Variables) → CompletesCall steps kept old new
      → ((config : RecoveryConfig F) (start : ℕ) (random : Stream) (past : History Q S M P)
      (between : RecoveryState K P M)
      → StepsLeadTo f.built c.words (queue_model q.contents q.words q.blank) steps (state_in old) between
      → (let beginning = begins f.built c.words (queue_model q.contents q.words q.blank) config start random in
      ReachedBy beginning past (state_in old)
      → (after : History Q S M P) × ReachedBy beginning after between × After past after))
      → Continues After old new
  completes_so After joins steps kept does goes = record {
    from = λ config start random past came. (
        let one = goes config start random past does.between does.leads came in
        let two = rearms_so f.built c.words (queue_model q.contents q.words q.blank) config start random adds kept
        does.between (state_in new) does.sets one.0 one.1 in
        (two.0, two.1, joins past one.0 two.0 one.2 two.2));
  }

  pub call_so : (steps : List (SenderStep Q S M P)) (kept : Variables) → CompletesCall steps kept old new
      → AreSo IsSo steps → Continues Goes old new
  call_so steps kept does so = completes_so Goes adds.joins steps kept does
      (λ config start random past between leads came. leads_so f.built c.words
      (queue_model q.contents q.words q.blank) config start random adds steps (state_in old) between so leads past
      came)

  -- an event that passes
  pub passes_so : (event : Event Q S M P) → ((reply : Reply Q) → IsSo event reply) → changes_path event ≡ false
      → (result : Result (Answer Q) SenderError) → IsEventResult event old new result → Continues Goes old new
  passes_so event so stays (Ok answer) is = call_so _ _
      (subst (λ (changes : Bool). IsAnsweredEvent event old new answer changes) stays is) (so (Ok answer), tt)
  passes_so event so stays (Err (refused.Event refusal)) is =
      steps_so _ (failed_takes event old new stays refusal is) (so (Err refusal), tt)
  passes_so event so stays (Err other) never = absurd never

  -- a call that makes one event, by what that adds
  pub event_so : (event : Event Q S M P) (reply : Reply Q) (After : History Q S M P → History Q S M P → Type 0)
      → ((past between after : History Q S M P) → After past between → Goes between after → After past after)
      → (kept : Variables) → CompletesCall (told event reply ∷ []) kept old new
      → ((config : RecoveryConfig F) (start : ℕ) (random : Stream) (past : History Q S M P)
      → StepGuarantees (begins f.built c.words (queue_model q.contents q.words q.blank) config start random) past
      event reply → After past ((event, reply) ∷ past)) → Continues After old new
  event_so event reply After joins kept does goes = completes_so After joins (told event reply ∷ []) kept does
      (λ config start random past between leads came. (
      let one = leads.2 config start random past came in (
        (event, reply) ∷ past,
        subst (λ (at : RecoveryState K P M). ReachedBy (begins f.built c.words
            (queue_model q.contents q.words q.blank) config start random) ((event, reply) ∷ past) at) (sym leads.3)
            one.came,
        goes config start random past one.keeps,
      )))

module _ {F Q R C K S M P : Type 0} {f : _} {c : _} {q : _} {m : _} {r : _} {IsSo : Event Q S M P → Reply Q → Type 0}
    {Goes : History Q S M P → History Q S M P → Type 0} (adds : Extends IsSo Goes)
    (old new : Sender F Q R C K S M P f c q m r) where
  pub so_then : (between : Sender F Q R C K S M P f c q m r) → Continues Goes old between → Continues Goes between new
      → Continues Goes old new
  so_then between = joined Goes Goes Goes adds.joins old between new

  -- an RTT sample
  pub samples_so : ((delay rtt : ℕ) (answer : Answer Q) → IsSo (Sample delay rtt) (Ok answer)) → (space : SpaceId)
      (delay : ℕ) (rtt : Option ℕ) → SamplesRtt space delay old new rtt → Continues Goes old new
  samples_so sample space delay None goes = steps_so adds old new [] goes tt
  samples_so sample space delay (Some rtt) goes = so_then goes.0
      (steps_so adds old goes.0 _ goes.1 (λ answer. sample _ rtt answer, tt))
      (steps_so adds goes.0 new _ goes.2 (so_first IsSo (state_in goes.0) space _ _))

  -- no ECN counts
  pub ecn_so : (space : SpaceId) (now newly : ℕ) (sent : Option ℕ) (sending : Bool) (counts : Option EcnCounts)
      (raised : Bool) (end : EcnOutcome) → counts ≡ None
      → EcnResult space now newly sent old new sending counts raised end → Continues Goes old new
  ecn_so space now newly sent false counts raised end none goes = steps_so adds old new [] goes.1 tt
  ecn_so space now newly sent true counts false end none goes = steps_so adds old new [] goes.1 tt
  ecn_so space now newly sent true None true end none goes = steps_so adds old new _ goes.1 tt
  ecn_so space now newly sent true (Some counts) true end none goes = absurd cc
