-- What the calls of a sender take from the retransmission queue, send and declare lost.
use Rattle.std.proofs.Common.{◌≡◌, ℕ, ◌+◌, ◌&&◌, ◌||◌, ◌⊎◌, inl, inr, Bool, true, false, List, [], ◌∷◌, ◌++◌, Option, None, Some, Result, Ok, Err, refl, sym, ap, subst, ◌∙◌, arith}
use Rattle.std.specs.Prelude.{IfOk, MatchResult, OnErr, min, option_to_list, if◌then◌else◌}
use Rattle.std.specs.Option.{ForSome}
use Rattle.rand_core.specs.Stream.{Stream}
use Rattle.recovery_base.specs.declared.below.SpaceId.{SpaceId}
use Rattle.recovery_base.specs.Spaces.{same_space}
use Rattle.recovery_base.specs.Units.{largest_u64}
use Rattle.recovery_congestion.specs.Controllers.{ControllerSemantics}
use Rattle.recovery_events.specs.declared.event.Answer.{Answer}
use Rattle.recovery_events.specs.declared.event.Answer.TheVariants as answers
use Rattle.recovery_events.specs.declared.event.Event.{Event}
use Rattle.recovery_events.specs.declared.event.Event.TheVariants as events
use Rattle.recovery_events.specs.declared.event.Refusal.{Refusal}
use Rattle.recovery_events.specs.declared.event.Refusal.TheVariants.{NoMemory, SpaceDiscarded}
use Rattle.recovery_losses.specs.Frames.{received_at}
use Rattle.recovery_losses.specs.declared.frames.Ack.{Ack}
use Rattle.recovery_losses.specs.declared.looks.LossPass.{LossPass}
use Rattle.recovery_losses.specs.declared.variables.Variables.{Variables}
use Rattle.recovery_losses.specs.Losses.{bytes_counted, last_counted}
use Rattle.recovery_history.specs.declared.config.RecoveryConfig.{RecoveryConfig}
use Rattle.recovery_history.specs.History.{Beginning, History, QueueModel, Reply, begins, queue_model}
use Rattle.recovery_history.specs.Reachability.{ReachedBy}
use Rattle.recovery_history.specs.RecoveryState.{RecoveryState}
use Rattle.recovery_sender.specs.Acking.{AckResult, Acknowledges, acking}
use Rattle.recovery_sender.specs.Attempts.{LossAttempt, declared_in, probe_attempts, trying}
use Rattle.recovery_sender.specs.Calls.{EventResult, IsEventResult, ProbeResult, changes_path, transmit_steps}
use Rattle.recovery_sender.specs.Detection.{DetectsLosses, congested, detecting, ended}
use Rattle.recovery_sender.specs.Losses.{largest_in, look_of}
use Rattle.recovery_sender.specs.Senders.{state_in}
use Rattle.recovery_sender.specs.Spaces.{packets_in}
use Rattle.recovery_sender.specs.Steps.{CompletesCall, SenderStep, StepsLeadTo, TakesSteps, loss_time, marked, occurs, told}
use Rattle.recovery_sender.specs.Timeouts.{DetectsByTime, TimeoutResult}
use Rattle.recovery_sender.specs.declared.sender.Sender.{Sender}
use Rattle.recovery_sender.specs.declared.sender.SenderError.{SenderError}
use Rattle.recovery_sender.specs.declared.sender.SenderError.TheVariants as refused
use Rattle.recovery_sender.specs.declared.sender.acks.Acknowledged.{Acknowledged}
use Rattle.recovery_sender.specs.declared.sender.losses.Losses.{Losses}
use Rattle.recovery_sender.specs.declared.sender.packets.Transmission.{Transmission}
use Rattle.recovery_sender.specs.declared.sender.packets.Transmission.TheVariants as transmission
use Rattle.recovery_sender.specs.declared.sender.probes.Timeout.{Timeout}
use Rattle.recovery_sender.specs.declared.sender.probes.Timeout.TheVariants.{Nothing, Lost, Probe}
use Rattle.recovery_sender.proofs.EventLaws.{failed_takes}
use Rattle.recovery_pair.specs.declared.steps.AckOutcome.TheVariants.{Taken}
use Rattle.recovery_pair.specs.Carried.{Carries, CarriesNone, CarriesOn, ContentsTurn, all_sent_with, amount_of, amount_with, is_probing, lost_by_ack, lost_by_timeout, lost_there, losing, none_lost, probed_there, sending_with, sent_with, taken_if, taken_there, taking}
use Rattle.recovery_pair.specs.Logs.{part}
use Rattle.recovery_pair.specs.Promises.Resends.{lost_of}
use Rattle.recovery_pair.proofs.AlongLaws.{AreSo, Extends, call_so, completes_so, ecn_so, event_so, joined, leads_so, passes_so, same_so, samples_so, steps_so}

-- ---- one past after another

zero_plus : (a : ℕ) → a ≡ 0 + a
zero_plus a = omega arith

-- the retransmission queue is taken, though no probe was queued
calm_then : (b probing : Bool) → probing ≡ false → (if b then false else probing) ≡ false
calm_then true probing calm = refl
calm_then false probing calm = calm

none_probed : (b probing : Bool) (amount more : ℕ) → probing ≡ false → part (b && probing) amount + more ≡ 0 + more
none_probed true true amount more calm = absurd cc
none_probed true false amount more calm = refl
none_probed false probing amount more calm = refl

-- or as one was
calm_again : (b probing : Bool) → probing ≡ false → (if b then false else b || probing) ≡ false
calm_again true probing calm = refl
calm_again false probing calm = calm

all_probed : (b probing : Bool) (amount more : ℕ) → part (b && (b || probing)) amount + more ≡ part b amount + more
all_probed true probing amount more = refl
all_probed false probing amount more = refl

module _ {Q S M P : Type 0} (contents : Q → P) where
  all_same : (measure : P → ℕ) (space : SpaceId) (numbers : List ℕ) (past after : History Q S M P)
      → ((n : ℕ) → sent_with contents measure space n after ≡ sent_with contents measure space n past)
      → all_sent_with contents measure space numbers after ≡ all_sent_with contents measure space numbers past
  all_same measure space [] past after same = refl
  all_same measure space (n ∷ numbers) past after same =
      let one = same n in
      let rest = all_same measure space numbers past after same in
      omega (arith, one, rest)

  all_append : (measure : P → ℕ) (space : SpaceId) (numbers more : List ℕ) (past : History Q S M P)
      → all_sent_with contents measure space (numbers ++ more) past
      ≡ all_sent_with contents measure space numbers past + all_sent_with contents measure space more past
  all_append measure space [] more past = omega arith
  all_append measure space (n ∷ numbers) more past =
      let rest = all_append measure space numbers more past in omega (arith, rest)

  pub still_none : (past : History Q S M P) → CarriesOn contents (losing none_lost) past past
  still_none past = record {
    taken = λ measure space. omega arith;
    sent = λ measure space n. omega arith;
    lost = λ measure space. omega arith;
    probed = λ measure space calm. (calm, omega arith);
  }

  -- a turn and a later one are one: what they take, send and lose adds up
  pub record Joins (past : History Q S M P) (one two both : ContentsTurn P) : Type 0 where
    pub takes : (measure : P → ℕ) (space : SpaceId) → amount_of measure space both.takes
        ≡ amount_of measure space one.takes + amount_of measure space two.takes
    pub probes : (measure : P → ℕ) (space : SpaceId) → amount_of measure space both.probes
        ≡ amount_of measure space one.probes + amount_of measure space two.probes
    pub sends : (measure : P → ℕ) (space : SpaceId) (n : ℕ) → amount_with measure space n both.sends
        ≡ amount_with measure space n one.sends + amount_with measure space n two.sends
    pub loses : (measure : P → ℕ) (space : SpaceId) → all_sent_with contents measure space (both.loses space) past
        ≡ all_sent_with contents measure space (one.loses space) past
        + all_sent_with contents measure space (two.loses space) past
    -- the later one loses nothing that the earlier one sends
    pub apart : (space : SpaceId) → (one.sends ≡ None) ⊎ (two.loses space ≡ [])

  lost_before : (one : ContentsTurn P) (measure : P → ℕ) (space : SpaceId) (numbers : List ℕ)
      (past between : History Q S M P) → CarriesOn contents one past between → (one.sends ≡ None) ⊎ (numbers ≡ [])
      → all_sent_with contents measure space numbers between ≡ all_sent_with contents measure space numbers past
  lost_before one measure space numbers past between goes (inl none) =
      all_same measure space numbers past between
      (λ n. let is = goes.sent measure space n in
      let zero = ap (λ (sends : Option (SpaceId × ℕ × P)). amount_with measure space n sends) none in
      omega (arith, is, zero))
  lost_before one measure space numbers past between goes (inr none) = rw none refl

  pub chained : (one two both : ContentsTurn P) (past between after : History Q S M P) → Joins past one two both
      → CarriesOn contents one past between → CarriesOn contents two between after → CarriesOn contents both past after
  chained one two both past between after joins first second = record {
    taken = λ measure space. (
        let a = first.taken measure space in
        let b = second.taken measure space in
        let all = joins.takes measure space in omega (arith, a, b, all));
    sent = λ measure space n. (
        let a = first.sent measure space n in
        let b = second.sent measure space n in
        let all = joins.sends measure space n in omega (arith, a, b, all));
    lost = λ measure space. (
        let a = first.lost measure space in
        let b = second.lost measure space in
        let same = lost_before one measure space (two.loses space) past between first (joins.apart space) in
        let all = joins.loses measure space in omega (arith, a, b, same, all));
    probed = λ measure space calm. (
        let a = first.probed measure space calm in
        let b = second.probed measure space a.0 in
        let all = joins.probes measure space in
        let is = a.1 in
        let more = b.1 in (b.0, omega (arith, is, more, all)));
  }

  pub then_still : (turn : ContentsTurn P) (past between after : History Q S M P)
      → CarriesOn contents turn past between → CarriesOn contents (losing none_lost) between after
      → CarriesOn contents turn past after
  then_still turn past between after = chained turn (losing none_lost) turn past between after (record {
    takes = λ measure space. omega arith;
    probes = λ measure space. omega arith;
    sends = λ measure space n. omega arith;
    loses = λ measure space. omega arith;
    apart = λ space. inr refl;
  })

  pub still_then : (turn : ContentsTurn P) (past between after : History Q S M P)
      → CarriesOn contents (losing none_lost) past between → CarriesOn contents turn between after
      → CarriesOn contents turn past after
  still_then turn past between after = chained (losing none_lost) turn turn past between after (record {
    takes = λ measure space. omega arith;
    probes = λ measure space. omega arith;
    sends = λ measure space n. omega arith;
    loses = λ measure space. omega arith;
    apart = λ space. inl refl;
  })

  pub losing_then : (some more : SpaceId → List ℕ) (past between after : History Q S M P)
      → CarriesOn contents (losing some) past between → CarriesOn contents (losing more) between after
      → CarriesOn contents (losing (λ space. some space ++ more space)) past after
  losing_then some more past between after =
      chained (losing some) (losing more) (losing (λ space. some space ++ more space)) past between after (record {
        takes = λ measure space. refl;
        probes = λ measure space. refl;
        sends = λ measure space n. refl;
        loses = λ measure space. all_append measure space (some space) (more space) past;
        apart = λ space. inl refl;
      })

  -- what was taken, or other contents, is sent
  pub taken_then_sent : (probe : Bool) (there : SpaceId) (more : P) (n : ℕ) (items : P)
      (past between after : History Q S M P) → CarriesOn contents (taking probe there more) past between
      → CarriesOn contents (sending_with there n items) between after
      → CarriesOn contents (record {
        takes = Some (there, more);
        probes = taken_if probe there more;
        sends = Some (there, n, items);
        loses = none_lost;
      }) past after
  taken_then_sent probe there more n items past between after =
      chained (taking probe there more) (sending_with there n items) (record {
        takes = Some (there, more);
        probes = taken_if probe there more;
        sends = Some (there, n, items);
        loses = none_lost;
      }) past between after (record {
        takes = λ measure space. omega arith;
        probes = λ measure space. omega arith;
        sends = λ measure space n. omega arith;
        loses = λ measure space. refl;
        apart = λ space. inl refl;
      })

  pub losing_as : (some other : SpaceId → List ℕ) → ((space : SpaceId) → other space ≡ some space)
      → (past after : History Q S M P) → CarriesOn contents (losing some) past after
      → CarriesOn contents (losing other) past after
  losing_as some other same past after goes = record {
    taken = goes.taken;
    sent = goes.sent;
    probed = goes.probed;
    lost = λ measure space. subst (λ (numbers : List ℕ). lost_there contents measure space after
        ≡ all_sent_with contents measure space numbers past + lost_there contents measure space past)
        (sym (same space)) (goes.lost measure space);
  }

  -- ---- one event

  -- by which nothing is taken, sent or lost
  abbrev pub IsStill : Event Q S M P → Reply Q → Type 0
  IsStill (events.Send space now size eliciting largest queue frames) (Ok answer) = ⊥
  IsStill (events.Lost space number) (Ok answer) = ⊥
  IsStill (events.TakePending space) (Ok answer) = ⊥
  IsStill (events.QueueProbe space immediate streams) (Ok answer) = ⊥
  IsStill event reply = Unit {0}

  still_taken : (event : Event Q S M P) (reply : Reply Q) → IsStill event reply → (past : History Q S M P)
      (measure : P → ℕ) (space : SpaceId)
      → taken_there contents measure space ((event, reply) ∷ past) ≡ taken_there contents measure space past
  still_taken (events.TakePending there) (Ok answer) still past measure space = absurd still
  still_taken (events.TakePending there) (Err refusal) still past measure space = refl
  still_taken event reply still past measure space = refl

  still_sent : (event : Event Q S M P) (reply : Reply Q) → IsStill event reply → (past : History Q S M P)
      (measure : P → ℕ) (space : SpaceId) (n : ℕ)
      → sent_with contents measure space n ((event, reply) ∷ past) ≡ sent_with contents measure space n past
  still_sent (events.Send there now size eliciting largest queue frames) (Ok answer) still past measure space n =
      absurd still
  still_sent (events.Send there now size eliciting largest queue frames) (Err refusal) still past measure space n =
      refl
  still_sent event reply still past measure space n = refl

  still_lost : (event : Event Q S M P) (reply : Reply Q) → IsStill event reply → (past : History Q S M P)
      (measure : P → ℕ) (space : SpaceId)
      → lost_there contents measure space ((event, reply) ∷ past) ≡ lost_there contents measure space past
  still_lost (events.Lost there n) (Ok answer) still past measure space = absurd still
  still_lost (events.Lost there n) (Err refusal) still past measure space = refl
  still_lost event reply still past measure space = refl

  still_probed : (event : Event Q S M P) (reply : Reply Q) → IsStill event reply → (past : History Q S M P)
      (measure : P → ℕ) (space : SpaceId) → is_probing space past ≡ false
      → (is_probing space ((event, reply) ∷ past) ≡ false)
      × (probed_there contents measure space ((event, reply) ∷ past) ≡ 0 + probed_there contents measure space past)
  still_probed (events.TakePending there) (Ok answer) still past measure space calm = absurd still
  still_probed (events.TakePending there) (Err refusal) still past measure space calm = (calm, zero_plus _)
  still_probed (events.QueueProbe there immediate streams) (Ok answer) still past measure space calm = absurd still
  still_probed (events.QueueProbe there immediate streams) (Err refusal) still past measure space calm =
      (calm, zero_plus _)
  still_probed event reply still past measure space calm = (calm, zero_plus _)

  pub still_event : (event : Event Q S M P) (reply : Reply Q) → IsStill event reply → (past : History Q S M P)
      → CarriesOn contents (losing none_lost) past ((event, reply) ∷ past)
  still_event event reply still past = record {
    taken = λ measure space. still_taken event reply still past measure space ∙ zero_plus _;
    sent = λ measure space n. still_sent event reply still past measure space n ∙ zero_plus _;
    lost = λ measure space. still_lost event reply still past measure space ∙ zero_plus _;
    probed = still_probed event reply still past;
  }

  -- the retransmission queue is taken
  pub taken_event : (there : SpaceId) (queue : Q) (past : History Q S M P)
      → CarriesOn contents (taking false there (contents queue)) past
      ((events.TakePending there, Ok (answers.Queue queue)) ∷ past)
  taken_event there queue past = record {
    taken = λ measure space. refl;
    sent = λ measure space n. zero_plus _;
    lost = λ measure space. zero_plus _;
    probed = λ measure space calm. (
      calm_then (same_space there space) (is_probing space past) calm,
      none_probed (same_space there space) (is_probing space past) (measure (contents queue))
          (probed_there contents measure space past) calm,
    );
  }

  -- by a probe
  pub probe_events : (there : SpaceId) (immediate : Bool) (streams : S) (answer : Answer Q) (queue : Q)
      (past : History Q S M P) → CarriesOn contents (taking true there (contents queue)) past
      ((events.TakePending there, Ok (answers.Queue queue))
      ∷ (events.QueueProbe there immediate streams, Ok answer) ∷ past)
  probe_events there immediate streams answer queue past = record {
    taken = λ measure space. refl;
    sent = λ measure space n. zero_plus _;
    lost = λ measure space. zero_plus _;
    probed = λ measure space calm. (
      calm_again (same_space there space) (is_probing space past) calm,
      all_probed (same_space there space) (is_probing space past) (measure (contents queue))
          (probed_there contents measure space past),
    );
  }

  pub sent_event : (there : SpaceId) (now size : ℕ) (eliciting : Bool) (largest : Option ℕ) (queue : Q) (frames : M)
      (number : ℕ) (forgotten : Option ℕ) (past : History Q S M P)
      → CarriesOn contents (sending_with there number (contents queue)) past
      ((events.Send there now size eliciting largest queue frames, Ok (answers.Sent number forgotten)) ∷ past)
  sent_event there now size eliciting largest queue frames number forgotten past = record {
    taken = λ measure space. zero_plus _;
    sent = λ measure space n. refl;
    lost = λ measure space. zero_plus _;
    probed = λ measure space calm. (calm, zero_plus _);
  }

-- these numbers, of one space
abbrev pub at_space : SpaceId → List ℕ → SpaceId → List ℕ
at_space there numbers space = if same_space there space then numbers else []

both_there : (b : Bool) (some more : List ℕ)
    → (if b then some ++ more else []) ≡ (if b then some else []) ++ (if b then more else [])
both_there true some more = refl
both_there false some more = refl

module _ {Q S M P : Type 0} (contents : Q → P) where
  lost_one : (b : Bool) (measure : P → ℕ) (space : SpaceId) (n : ℕ) (past : History Q S M P) (more : ℕ)
      → part b (sent_with contents measure space n past) + more
      ≡ all_sent_with contents measure space (if b then n ∷ [] else []) past + more
  lost_one true measure space n past more = omega arith
  lost_one false measure space n past more = omega arith

  pub lost_event : (there : SpaceId) (n : ℕ) (answer : Answer Q) (past : History Q S M P)
      → CarriesOn contents (losing (at_space there (n ∷ []))) past ((events.Lost there n, Ok answer) ∷ past)
  lost_event there n answer past = record {
    taken = λ measure space. zero_plus _;
    sent = λ measure space n. zero_plus _;
    lost = λ measure space. lost_one (same_space there space) measure space n past
        (lost_there contents measure space past);
    probed = λ measure space calm. (calm, zero_plus _);
  }

-- ---- steps

abbrev pub AreStill : {Q S M P : Type 0} → (Q → P) → List (SenderStep Q S M P) → Type 0
AreStill contents = AreSo (IsStill contents)

still_along : {Q S M P : Type 0} (contents : Q → P)
    → Extends (IsStill {S = S} {M = M} contents) (CarriesOn contents (losing none_lost))
still_along contents = record {
  none = still_none contents;
  one = still_event contents;
  joins = then_still contents (losing none_lost);
  sets = λ time. tt;
  stops = tt;
}

module _ (Q S M P : Type 0) (contents : Q → P) where
  still_ended : (now : ℕ) (reported : Bool) (numbers : List ℕ)
      → AreStill {S = S} {M = M} contents (ended now reported numbers)
  still_ended now reported [] = tt
  still_ended now reported (number ∷ numbers) = (tt, tt)

  still_congested : (now : ℕ) (persistent : Bool) (bytes : ℕ) (sent : Option ℕ)
      → AreStill {S = S} {M = M} contents (congested now persistent bytes sent)
  still_congested now persistent bytes None = tt
  still_congested now persistent bytes (Some sent) = (λ answer. tt, tt)

  still_acking : (space : SpaceId) (now : ℕ) (limited : Bool) (numbers : List ℕ)
      → AreStill {S = S} {M = M} contents (acking space now limited numbers)
  still_acking space now limited [] = tt
  still_acking space now limited (number ∷ numbers) = (λ answer. tt, still_acking space now limited numbers)

-- the MTU probe is declared lost last
probe_told : (found declared : Option ℕ) → ForSome declared (λ number. found ≡ Some number)
    → declared_in (probe_attempts found declared) ≡ option_to_list declared
probe_told None None is = refl
probe_told None (Some number) is = let never = is number refl in absurd cc
probe_told (Some other) None is = refl
probe_told (Some other) (Some number) is =
    let same : ◌≡◌ {A = Option ℕ} (Some other) (Some number) = is number refl in
    let equal : other ≡ number = cc in
    ap (λ (n : ℕ). n ∷ []) equal

lost_there_of : (b : Bool) (numbers some one more : List ℕ) → numbers ≡ some → one ≡ more
    → (if b then numbers ++ more else []) ≡ (if b then some else []) ++ (if b then one else [])
lost_there_of true numbers some one more first second = rw (first, second) refl
lost_there_of false numbers some one more first second = refl

none_of : (b : Bool) (numbers more : List ℕ) → numbers ≡ [] → more ≡ [] → (if b then numbers ++ more else []) ≡ []
none_of true numbers more one two = rw (one, two) refl
none_of false numbers more one two = refl

abbrev lost_so : {P : Type 0} → SpaceId → Losses → ContentsTurn P
lost_so there losses = losing (λ space. lost_of space there losses)

none_there : (b : Bool) → ◌≡◌ {A = List ℕ} (if b then [] else []) []
none_there true = refl
none_there false = refl

module _ {F K Q S M P : Type 0} (built : F → ℕ → ℕ → K) (words : ControllerSemantics K) (queue : QueueModel Q S M P)
    (config : RecoveryConfig F) (start : ℕ) (random : Stream) where
  abbrev beginning : Beginning F K Q S M P
  beginning = begins built words queue config start random

  -- each past goes on to one of the new state
  abbrev Arrives : ContentsTurn P → History Q S M P → RecoveryState K P M → Type 0
  Arrives turn past new =
      (after : History Q S M P) × ReachedBy beginning after new × CarriesOn queue.contents turn past after

  abbrev Leads : List (SenderStep Q S M P) → RecoveryState K P M → RecoveryState K P M → Type 0
  Leads = StepsLeadTo built words queue

  parts : (steps more : List (SenderStep Q S M P)) (old new : RecoveryState K P M) → Leads (steps ++ more) old new
      → (between : RecoveryState K P M) × Leads steps old between × Leads more between new
  parts [] more old new leads = (old, refl, leads)
  parts (told event reply ∷ steps) more old new leads =
      let rest = parts steps more leads.0 new leads.3 in
      (rest.0, (leads.0, leads.1, leads.2, rest.1), rest.2)
  parts (occurs event ∷ steps) more old new leads =
      let rest = parts steps more leads.1 new leads.4 in
      (rest.0, (leads.0, leads.1, leads.2, leads.3, rest.1), rest.2)
  parts (loss_time space time ∷ steps) more old new leads = parts steps more _ new leads
  parts (marked marks ∷ steps) more old new leads = parts steps more _ new leads

  leads_still : (steps : List (SenderStep Q S M P)) (old new : RecoveryState K P M) → AreStill queue.contents steps
      → Leads steps old new → (past : History Q S M P) → ReachedBy beginning past old
      → Arrives (losing none_lost) past new
  leads_still = leads_so built words queue config start random (still_along queue.contents)

  -- packets are declared lost one after another
  trying_loses : (there : SpaceId) (attempts : List LossAttempt) (old new : RecoveryState K P M)
      → Leads (trying there attempts) old new → (past : History Q S M P) → ReachedBy beginning past old
      → Arrives (losing (at_space there (declared_in attempts))) past new
  trying_loses there [] old new leads past came = (
    past,
    subst (λ (at : RecoveryState K P M). ReachedBy beginning past at) (sym leads) came,
    losing_as queue.contents none_lost (at_space there []) (λ space. none_there (same_space there space)) past past
        (still_none queue.contents past),
  )
  trying_loses there ((number, false) ∷ attempts) old new leads past came =
      let one = leads.3 config start random past came in
      let rest = trying_loses there attempts leads.1 new leads.4 ((events.Lost there number, Ok leads.0) ∷ past)
      one.came in (
        rest.0,
        rest.1,
        losing_as queue.contents
            (λ space. at_space there (number ∷ []) space ++ at_space there (declared_in attempts) space)
            (at_space there (number ∷ declared_in attempts))
            (λ space. both_there (same_space there space) (number ∷ []) (declared_in attempts)) past rest.0
            (losing_then queue.contents (at_space there (number ∷ [])) (at_space there (declared_in attempts)) past
            ((events.Lost there number, Ok leads.0) ∷ past) rest.0
            (lost_event queue.contents there number leads.0 past) rest.2),
      )
  trying_loses there ((number, true) ∷ attempts) old new leads past came =
      let one = leads.2 config start random past came in
      let rest = trying_loses there attempts leads.0 new leads.3 ((events.Lost there number, Err NoMemory) ∷ past)
      one.came in (
        rest.0,
        rest.1,
        still_then queue.contents (losing (at_space there (declared_in attempts))) past
            ((events.Lost there number, Err NoMemory) ∷ past) rest.0
            (still_event queue.contents (events.Lost there number) (Err NoMemory) tt past) rest.2,
      )

  detecting_loses : (look : LossPass) (now : ℕ) (attempts : List LossAttempt) (found : Option ℕ) (losses : Losses)
      (bytes : ℕ) (sent time : Option ℕ) → losses.numbers.items ≡ declared_in attempts
      → ForSome losses.probe (λ number. found ≡ Some number) → (old new : RecoveryState K P M)
      → Leads (detecting look now attempts found losses bytes sent time) old new → (past : History Q S M P)
      → ReachedBy beginning past old → Arrives (losing (λ space. lost_of space look.space losses)) past new
  detecting_loses look now attempts found losses bytes sent time declared probe old new leads past came =
      let there = look.space in
      let last : List (SenderStep Q S M P) = loss_time there time ∷ [] in
      let fourth : List (SenderStep Q S M P) = trying there (probe_attempts found losses.probe) ++ last in
      let third : List (SenderStep Q S M P) = congested now losses.is_persistent bytes sent ++ fourth in
      let second : List (SenderStep Q S M P) = ended now losses.is_black_hole losses.numbers.items ++ third in
      let a = parts (trying there attempts) second old new leads in
      let b = parts (ended now losses.is_black_hole losses.numbers.items) third a.0 new a.2 in
      let d = parts (congested now losses.is_persistent bytes sent) fourth b.0 new b.2 in
      let e = parts (trying there (probe_attempts found losses.probe)) last d.0 new d.2 in
      let one = trying_loses there attempts old a.0 a.1 past came in
      let two = leads_still (ended now losses.is_black_hole losses.numbers.items) a.0 b.0
      (still_ended Q S M P queue.contents now losses.is_black_hole losses.numbers.items) b.1 one.0 one.1 in
      let three = leads_still (congested now losses.is_persistent bytes sent) b.0 d.0
      (still_congested Q S M P queue.contents now losses.is_persistent bytes sent) d.1 two.0 two.1 in
      let four = trying_loses there (probe_attempts found losses.probe) d.0 e.0 e.1 three.0 three.1 in
      let five = leads_still last e.0 new tt e.2 four.0 four.1 in
      let some = at_space there (declared_in attempts) in
      let more = at_space there (declared_in (probe_attempts found losses.probe)) in
      let contents = queue.contents in
      let first_two = then_still contents (losing some) past one.0 two.0 one.2 two.2 in
      let first_three = then_still contents (losing some) past two.0 three.0 first_two three.2 in
      let first_four = losing_then contents some more past three.0 four.0 first_three four.2 in
      let all = then_still contents (losing (λ space. some space ++ more space)) past four.0 five.0 first_four
      five.2 in (
        five.0,
        five.1,
        losing_as contents (λ space. some space ++ more space) (λ space. lost_of space there losses)
            (λ space. lost_there_of (same_space there space) losses.numbers.items (declared_in attempts)
            (declared_in (probe_attempts found losses.probe)) (option_to_list losses.probe) declared
            (probe_told found losses.probe probe)) past five.0 all,
      )

-- ---- calls

module _ {F Q R C K S M P : Type 0} {f : _} {c : _} {q : _} {m : _} {r : _} where
  pub same_carries : (old new : Sender F Q R C K S M P f c q m r) → new ≡ old → CarriesNone old new
  same_carries = same_so (still_along q.contents)

  -- a call by which nothing is taken, sent or lost comes after another one, or before it
  pub carries_then : (turn : ContentsTurn P) (old between new : Sender F Q R C K S M P f c q m r)
      → Carries turn old between → CarriesNone between new → Carries turn old new
  carries_then turn = joined (CarriesOn q.contents turn) (CarriesOn q.contents (losing none_lost))
      (CarriesOn q.contents turn) (then_still q.contents turn)

  pub then_carries : (turn : ContentsTurn P) (old between new : Sender F Q R C K S M P f c q m r)
      → CarriesNone old between → Carries turn between new → Carries turn old new
  then_carries turn = joined (CarriesOn q.contents (losing none_lost)) (CarriesOn q.contents turn)
      (CarriesOn q.contents turn) (still_then q.contents turn)

  steps_carry : (steps : List (SenderStep Q S M P)) (old new : Sender F Q R C K S M P f c q m r)
      → TakesSteps steps old new → AreStill q.contents steps → CarriesNone old new
  steps_carry steps old new = steps_so (still_along q.contents) old new steps

  pub call_carries : (steps : List (SenderStep Q S M P)) (kept : Variables) (old new : Sender F Q R C K S M P f c q m r)
      → CompletesCall steps kept old new → AreStill q.contents steps → CarriesNone old new
  call_carries steps kept old new = call_so (still_along q.contents) old new steps kept

  -- a call that may fail
  pub tries_carries : {A : Type 0} (Steps : A → List (SenderStep Q S M P)) (kept : A → Variables)
      (old new : Sender F Q R C K S M P f c q m r) (result : Result A SenderError)
      → ((done : A) → AreStill q.contents (Steps done))
      → IfOk result (λ done. CompletesCall (Steps done) (kept done) old new)
      → OnErr result (new ≡ old) → CarriesNone old new
  tries_carries Steps kept old new (Ok done) still does same = call_carries (Steps done) (kept done) old new does
      (still done)
  tries_carries Steps kept old new (Err refusal) still does same = same_carries old new same

  -- events that pass
  pub event_carries : (event : Event Q S M P) (old new : Sender F Q R C K S M P f c q m r)
      → ((reply : Reply Q) → IsStill q.contents event reply) → changes_path event ≡ false
      → (result : Result (Answer Q) SenderError) → IsEventResult event old new result → CarriesNone old new
  event_carries event old new = passes_so (still_along q.contents) old new event

  pub transmit_carries : (now bytes : ℕ) (checked : Bool) (kept : Transmission → Variables)
      (old new : Sender F Q R C K S M P f c q m r) (result : Result Transmission SenderError)
      → IfOk result (λ sent. CompletesCall (transmit_steps now bytes checked sent) (kept sent) old new)
      → OnErr result (new ≡ old) → CarriesNone old new
  transmit_carries now bytes checked kept old new (Ok transmission.Transmitted) does same =
      call_carries _ (kept transmission.Transmitted) old new does (tt, tt)
  transmit_carries now bytes checked kept old new (Ok (transmission.Delayed until ack)) does same =
      call_carries _ (kept (transmission.Delayed until ack)) old new does (tt, tt)
  transmit_carries now bytes checked kept old new (Ok other) does same = call_carries [] (kept other) old new does tt
  transmit_carries now bytes checked kept old new (Err refusal) does same = same_carries old new same

  -- ---- contents

  -- the retransmission queue is taken
  pub pending_carries : (space : SpaceId) (queue : Q) (old new : Sender F Q R C K S M P f c q m r)
      → EventResult (events.TakePending space) old new (Ok (answers.Queue queue))
      → Carries (taking false space (q.contents queue)) old new
  pending_carries space queue old new does = event_so (still_along q.contents) old new _ _
      (CarriesOn q.contents (taking false space (q.contents queue)))
      (then_still q.contents (taking false space (q.contents queue))) _ does
      (λ config start random past keeps. taken_event q.contents space queue past)

  -- an event that fails
  pub failed_carries : (event : Event Q S M P) (old new : Sender F Q R C K S M P f c q m r)
      → ((refusal : Refusal) → IsStill q.contents event (Err refusal)) → changes_path event ≡ false
      → (refusal : SenderError) → IsEventResult event old new (Err refusal) → CarriesNone old new
  failed_carries event old new still stays (refused.Event refusal) is =
      steps_carry _ old new (failed_takes event old new stays refusal is) (still refusal, tt)
  failed_carries event old new still stays other never = absurd never

  pub probe_carries : (space : SpaceId) (immediate : Bool) (streams : S) (queue : Q)
      (old new : Sender F Q R C K S M P f c q m r) → ProbeResult space immediate streams old new (Ok queue)
      → Carries (taking true space (q.contents queue)) old new
  probe_carries space immediate streams queue old new is =
      completes_so (still_along q.contents) old new (CarriesOn q.contents (taking true space (q.contents queue)))
      (then_still q.contents (taking true space (q.contents queue))) _ old.variables is.2
      (λ config start random past between leads came. (
      let one = leads.2 config start random past came in
      let next = leads.3 in
      let two = next.2 config start random ((events.QueueProbe space immediate streams, Ok is.1) ∷ past)
      one.came in (
        (events.TakePending space, Ok (answers.Queue queue))
            ∷ (events.QueueProbe space immediate streams, Ok is.1) ∷ past,
        subst (λ (at : RecoveryState K P M). ReachedBy (begins f.built c.words
            (queue_model q.contents q.words q.blank) config start random)
            ((events.TakePending space, Ok (answers.Queue queue))
            ∷ (events.QueueProbe space immediate streams, Ok is.1) ∷ past) at) (sym next.3) two.came,
        probe_events q.contents space immediate streams is.1 queue past,
      )))

  pub no_probe_carries : (space : SpaceId) (immediate : Bool) (streams : S) (old new : Sender F Q R C K S M P f c q m r)
      (refusal : SenderError) → ProbeResult space immediate streams old new (Err refusal) → CarriesNone old new
  no_probe_carries space immediate streams old new (refused.Event SpaceDiscarded) is = same_carries old new is.1
  no_probe_carries space immediate streams old new (refused.Event NoMemory) is = steps_carry _ old new is.1 (tt, tt)
  no_probe_carries space immediate streams old new other is = absurd is

  pub probe_matches : (space : SpaceId) (immediate : Bool) (streams : S) (result : Result Q SenderError)
      (old new : Sender F Q R C K S M P f c q m r) → ProbeResult space immediate streams old new result
      → MatchResult result (λ queue. Carries (taking true space (q.contents queue)) old new)
      (λ refusal. CarriesNone old new)
  probe_matches space immediate streams (Ok queue) old new is = probe_carries space immediate streams queue old new is
  probe_matches space immediate streams (Err refusal) old new is =
      no_probe_carries space immediate streams old new refusal is

  -- a packet is sent
  pub send_carries : (space : SpaceId) (now size : ℕ) (eliciting : Bool) (largest : Option ℕ) (queue : Q) (frames : M)
      (number : ℕ) (forgotten : Option ℕ) (kept : Variables) (old new : Sender F Q R C K S M P f c q m r)
      → CompletesCall (told (events.Send space now size eliciting largest queue frames)
      (Ok (answers.Sent number forgotten)) ∷ []) kept old new
      → Carries (sending_with space number (q.contents queue)) old new
  send_carries space now size eliciting largest queue frames number forgotten kept old new does =
      event_so (still_along q.contents) old new _ _ (CarriesOn q.contents (sending_with space number (q.contents
      queue)))
      (then_still q.contents (sending_with space number (q.contents queue))) kept does
      (λ config start random past keeps. sent_event q.contents space now size eliciting largest queue frames number
      forgotten past)

  -- ---- losses

  as_other : (some other : SpaceId → List ℕ) → ((space : SpaceId) → other space ≡ some space)
      → (old new : Sender F Q R C K S M P f c q m r) → Carries (losing some) old new → Carries (losing other) old new
  as_other some other same old new goes = record {
    from = λ config start random past came. (
        let one = goes.from config start random past came in
        (one.0, one.1, losing_as q.contents some other same past one.0 one.2));
  }

  detects_carries : (space : SpaceId) (now at : ℕ) (due_to_ack : Bool) (losses : Losses)
      (old new : Sender F Q R C K S M P f c q m r) → DetectsLosses space now at due_to_ack old losses new
      → Carries (lost_so space losses) old new
  detects_carries space now at due_to_ack losses old new detects = by (largest_in (state_in old) space) refl
    where
      by : (found : Option ℕ) → largest_in (state_in old) space ≡ found → Carries (lost_so space losses) old new
      by None none =
          let is = detects.none none in
          as_other none_lost (λ there. lost_of there space losses)
          (λ there. none_of (same_space space there) losses.numbers.items (option_to_list losses.probe)
          is.0.numbers (ap option_to_list is.0.probe)) old new (steps_carry _ old new is.1 tt)
      by (Some largest) is =
          let looked = detects.looks largest is in
          let look : LossPass = look_of (state_in old) old.variables space at due_to_ack largest in
          let packets = packets_in (state_in old) space in
          record {
            from = λ config start random past came.
                detecting_loses f.built c.words (queue_model q.contents q.words q.blank) config start random look now
                looked.0 looked.2.found losses
                (min (bytes_counted look packets losses.numbers.items) largest_u64)
                (last_counted look packets losses.numbers.items) looked.1 looked.2.declared looked.2.probe
                (state_in old) (state_in new) looked.4.leads past came;
          }

  by_time_carries : (space : SpaceId) (now : ℕ) (losses : Losses) (old new : Sender F Q R C K S M P f c q m r)
      → DetectsByTime space now old losses new → Carries (lost_so space losses) old new
  by_time_carries space now losses old new by = carries_then (lost_so space losses) old by.behind new
      (detects_carries space now now false losses old by.behind by.detects)
      (call_carries [] _ by.behind new by.does tt)

  pub timeout_carries : (now : ℕ) (old new : Sender F Q R C K S M P f c q m r) (result : Result Timeout SenderError)
      → TimeoutResult now old new result → Carries (losing (lost_by_timeout result)) old new
  timeout_carries now old new (Ok Nothing) is = same_carries old new is.1
  timeout_carries now old new (Ok (Lost space losses)) is = by_time_carries space now losses old new is.1
  timeout_carries now old new (Ok (Probe space count)) is = call_carries [] _ old new is.1 tt
  timeout_carries now old new (Err refusal) is = same_carries old new is.2

  -- ---- an ACK frame

  acknowledges_carries : (space : SpaceId) (now : ℕ) (ranges : List (ℕ × ℕ)) (ack : Ack) (elicits : Bool)
      (old new : Sender F Q R C K S M P f c q m r) (acked : Acknowledged) → ack.ecn ≡ None
      → Acknowledges space now ranges ack elicits old acked new → Carries (lost_so space acked.losses) old new
  acknowledges_carries space now ranges ack elicits old new acked unmarked is =
      let turn = lost_so space acked.losses in
      then_carries turn old is.taken new
      (steps_carry _ old is.taken is.acks (still_acking Q S M P q.contents space now _ acked.numbers.items))
      (then_carries turn is.taken is.ended new (steps_carry _ is.taken is.ended is.ends (λ answer. tt, tt))
      (then_carries turn is.ended is.sampled new (samples_so (still_along q.contents) is.ended is.sampled
      (λ delay rtt answer. tt) space ack.delay _ is.samples)
      (carries_then turn is.sampled is.looked new
      (detects_carries space now (received_at ack now) true acked.losses is.sampled is.looked is.detects)
      (carries_then (losing none_lost) is.looked is.heard new
      (ecn_so (still_along q.contents) is.looked is.heard space now _ _ _ _ _ _ unmarked is.compares) (call_carries [] _
      is.heard new is.does tt)))))

  pub ack_carries : (space : SpaceId) (now : ℕ) (ranges : List (ℕ × ℕ)) (ack : Ack)
      (old new : Sender F Q R C K S M P f c q m r) (acked : Acknowledged)
      → AckResult space now ranges ack old new (Ok acked) → ack.ecn ≡ None
      → Carries (losing (lost_by_ack space (Taken acked))) old new
  ack_carries space now ranges ack old new acked is unmarked = by acked.numbers.items refl
    where
      by : (numbers : List ℕ) → acked.numbers.items ≡ numbers
          → Carries (losing (lost_by_ack space (Taken acked))) old new
      by [] none =
          let empty = is.none none in
          as_other none_lost (lost_by_ack space (Taken acked))
          (λ there. none_of (same_space space there) acked.losses.numbers.items (option_to_list acked.losses.probe)
          empty.lost.numbers (ap option_to_list empty.lost.probe)) old new
          (call_carries [] old.variables old new empty.does tt)
      by (number ∷ numbers) some =
          acknowledges_carries space now ranges ack is.elicits old new acked unmarked
          (is.some (λ none. absurd cc))
