-- What was handed over was sent, or waits: step by step.
use Rattle.std.proofs.Common.{◌≡◌, ℕ, ◌+◌, ◌≤◌, Bool, List, ◌∷◌, Option, Result, Ok, Err, refl, sym, subst, ◌∙◌, arith}
use Rattle.std.specs.Prelude.{IfOk}
use Rattle.std.specs.Global.{Vec}
use Rattle.recovery_base.specs.declared.below.SpaceId.{SpaceId}
use Rattle.recovery_base.specs.Spaces.{same_space}
use Rattle.recovery_sender.specs.declared.sender.Sender.{Sender}
use Rattle.recovery_sender.specs.declared.sender.SenderError.{SenderError}
use Rattle.recovery_pair.specs.declared.endpoint.Waiting.{Waiting}
use Rattle.recovery_pair.specs.declared.steps.End.{End}
use Rattle.recovery_pair.specs.declared.steps.End.TheVariants.{Client, Server}
use Rattle.recovery_pair.specs.declared.steps.LocalStep.{LocalStep}
use Rattle.recovery_pair.specs.declared.steps.LocalStep.TheVariants.{Hand}
use Rattle.recovery_pair.specs.declared.steps.PairAnswer.{PairAnswer}
use Rattle.recovery_pair.specs.declared.steps.PairAnswer.TheVariants.{Done, Nothing, Sent}
use Rattle.recovery_pair.specs.declared.steps.PairStep.{PairStep}
use Rattle.recovery_pair.specs.declared.steps.SentAck.{SentAck}
use Rattle.recovery_pair.specs.declared.steps.PairStep.TheVariants.{Local, Send}
use Rattle.recovery_pair.specs.declared.steps.WirePacket.{WirePacket}
use Rattle.recovery_pair.specs.Filled.{FillsProbes}
use Rattle.recovery_pair.specs.Logs.{PairEvent, PairLog, handed, other_end, part, sent_in}
use Rattle.recovery_pair.specs.Permits.{SendsAsPermitted}
use Rattle.recovery_pair.specs.Promises.Passed.{IsAllPassed}
use Rattle.recovery_pair.specs.Promises.Locals.{AnswersLocally, IsLocalAnswer}
use Rattle.recovery_pair.specs.Promises.Sends.{SendsWhatWaits}
use Rattle.recovery_pair.specs.Runs.{StepKeeps}
use Rattle.recovery_pair.specs.Turns.{TurnsAt}
use Rattle.recovery_pair.specs.Waits.{AreQueued, LocalWaits, LosesNone, LosesOne, waiting_in}
use Rattle.recovery_pair.proofs.ItemTies.{ItemsKept, at_each, repeats_with_cause}
use Rattle.recovery_pair.proofs.LogLaws.{IsNoPacket}
use Rattle.recovery_pair.proofs.ProbeTies.{AsksAfter, asked_kept, probes_kept}
use Rattle.recovery_pair.proofs.StepTies.{ExchangeKept}
use Rattle.recovery_pair.proofs.WaitLaws.{none_lost}

-- ---- what one end has, step by step

nothing_more : (a : ℕ) → 0 + a ≡ a
nothing_more a = omega arith

-- a step after which what was handed over and sent is the same
pub record LeavesQueue (event : PairEvent) (log : PairLog) (end : End) : Type 0 where
  pub handed_same : (measure : List ℕ → ℕ) (space : SpaceId)
      → handed end measure space (event ∷ log) ≡ handed end measure space log
  pub sent_same : (measure : List ℕ → ℕ) (space : SpaceId)
      → sent_in end measure space (event ∷ log) ≡ sent_in end measure space log

pub queued_on : (event : PairEvent) (log : PairLog) (end : End) (old new : List Waiting) → LeavesQueue event log end
    → LosesNone old new → AreQueued log end old → AreQueued (event ∷ log) end new
queued_on event log end old new leaves keeps queued measure space =
    let one = queued measure space in
    let two = keeps measure space in
    let handed_is = leaves.handed_same measure space in
    let sent_is = leaves.sent_same measure space in
    omega (arith, one, two, handed_is, sent_is)

more_both : (more h w s v : ℕ) → h ≤ w + s → w ≤ more + v → h ≤ v + (more + s)
more_both more h w s v one two = omega (arith, one, two)

more_handed : (more h w s v : ℕ) → h ≤ w + s → more + w ≤ v → more + h ≤ v + s
more_handed more h w s v one two = omega (arith, one, two)

-- ---- one end makes a step, the other does nothing

abbrev pub QueueKept : List Waiting → List Waiting → PairStep → Result PairAnswer SenderError → List Waiting
    → List Waiting → Type 0
QueueKept client server step answer client_after server_after = (log : PairLog) → AreQueued log Client client
    → AreQueued log Server server → SendsWhatWaits log (step, answer)
    × AreQueued ((step, answer) ∷ log) Client client_after × AreQueued ((step, answer) ∷ log) Server server_after

abbrev pub QueueKeptAt : End → PairStep → Result PairAnswer SenderError → List Waiting → List Waiting → Type 0
QueueKeptAt end step answer old new = (log : PairLog) → AreQueued log end old → SendsWhatWaits log (step, answer)
    × AreQueued ((step, answer) ∷ log) end new

pub queue_turn : (end : End) (Turns : List Waiting → List Waiting → Type 0) (step : PairStep)
    (answer : Result PairAnswer SenderError)
    → ((old new : List Waiting) → Turns old new → QueueKeptAt end step answer old new)
    → ((log : PairLog) → LeavesQueue (step, answer) log (other_end end))
    → (client server client_after server_after : List Waiting) → TurnsAt end Turns client server client_after
    server_after
    → QueueKept client server step answer client_after server_after
queue_turn Client Turns step answer each leaves client server client_after server_after turns log own peer =
    let both = each client client_after turns.0 log own in (
      both.0,
      both.1,
      queued_on (step, answer) log Server server server_after (leaves log)
          (none_lost server server_after turns.1) peer,
    )
queue_turn Server Turns step answer each leaves client server client_after server_after turns log own peer =
    let both = each server server_after turns.0 log peer in (
      both.0,
      queued_on (step, answer) log Client client client_after (leaves log)
          (none_lost client client_after turns.1) own,
      both.1,
    )

-- what keeps all keeps the promises
pub step_keeps : {F Q R C K S M : Type 0} {f : _} {c : _} {q : _} {m : _} {r : _}
    (client server client_after server_after : Sender F Q R C K S M (List ℕ) f c q m r)
    (wire wire_after : List WirePacket)
    (client_waits server_waits client_waits_after server_waits_after : List Waiting) (step : PairStep)
    (answer : Result PairAnswer SenderError)
    → ExchangeKept client server wire step answer client_after server_after wire_after → AnswersLocally (step, answer)
    → FillsProbes step answer (client, client_waits) (server, server_waits) → SendsAsPermitted step answer client server
    → AsksAfter step answer client_after server_after
    → QueueKept client_waits server_waits step answer client_waits_after server_waits_after
    → ItemsKept (client, client_waits) (server, server_waits) step answer (client_after, client_waits_after)
    (server_after, server_waits_after)
    → StepKeeps client server wire client_waits server_waits step answer client_after server_after wire_after
    client_waits_after server_waits_after
step_keeps client server client_after server_after wire wire_after client_waits server_waits client_waits_after
    server_waits_after step answer exchange local fills permits asks queue items validated log tied =
    let both = exchange validated log tied.ends in
    let one = both.0 in
    let two = queue log tied.own_waits tied.peer_waits in
    let ends = tied.ends in
    let three = items log (λ space. ends.own.came.state_after.discarded space ∙ ends.logged.discarded space)
    (λ space. ends.peer.came.state_after.discarded space ∙ ends.peer_logged.discarded space) tied.own_items
    tied.peer_items in (
      (
        record {
          honest = one.0.honest;
          delivered = one.0.delivered;
          arrives = one.0.arrives;
          limited = one.0.limited;
          window = one.0.window;
          delay = one.0.delay;
          flight = one.0.flight;
          largest = one.0.largest;
          framed = one.0.framed;
          newly = one.0.newly;
          samples = one.0.samples;
          sends = two.0;
          resends = three.0;
          passed = at_each (IsAllPassed ((step, answer) ∷ log)) three.1.passed three.2.passed;
          repeats = repeats_with_cause ((step, answer) ∷ log) (client_after, client_waits_after)
              (server_after, server_waits_after) three.1 three.2;
          probes = probes_kept client server wire client_waits server_waits step answer fills permits
              validated log tied;
          local = local;
        },
        one.1,
      ),
      record {
        ends = both.1;
        own_waits = two.1;
        peer_waits = two.2;
        own_items = three.1;
        peer_items = three.2;
        own_asked = (asked_kept client_after server_after step answer log asks).0;
        peer_asked = (asked_kept client_after server_after step answer log asks).1;
      },
    )

-- ---- a packet is sent

module _ (log : PairLog) (space : SpaceId) (now size n : ℕ) (items : Vec ℕ) (eliciting : Bool) (window : Option ℕ)
    (delay : SentAck) where
  sent_here : (end : End) (measure : List ℕ → ℕ) (there : SpaceId)
      → sent_in end measure there ((Send end space now size, Ok (Sent n items eliciting window delay)) ∷ log)
      ≡ part (same_space space there) (measure items.items) + sent_in end measure there log
  sent_here Client measure there = refl
  sent_here Server measure there = refl

  sent_not : (end : End) → LeavesQueue (Send end space now size, Ok (Sent n items eliciting window delay)) log
      (other_end end)
  sent_not Client = record {
    handed_same = λ measure there. refl;
    sent_same = λ measure there. nothing_more (sent_in Server measure there log);
  }
  sent_not Server = record {
    handed_same = λ measure there. refl;
    sent_same = λ measure there. nothing_more (sent_in Client measure there log);
  }

pub sent_queue : (end : End) (space : SpaceId) (now size n : ℕ) (items : Vec ℕ) (eliciting : Bool)
    (window : Option ℕ) (delay : SentAck)
    (client server client_after server_after : List Waiting)
    → TurnsAt end (λ (old new : List Waiting). LosesOne old new space items.items) client server client_after
    server_after
    → QueueKept client server (Send end space now size) (Ok (Sent n items eliciting window delay)) client_after
    server_after
sent_queue end space now size n items eliciting window delay =
    queue_turn end (λ (old new : List Waiting). LosesOne old new space items.items) (Send end space now size) (Ok (Sent
    n items
    eliciting window delay))
    here (λ log. sent_not log space now size n items eliciting window delay end)
  where
    here : (old new : List Waiting) → LosesOne old new space items.items
        → QueueKeptAt end (Send end space now size) (Ok (Sent n items eliciting window delay)) old new
    here old new loses log queued = (
      tt,
      λ measure there. subst (λ (sent : ℕ). handed end measure there log ≤ waiting_in measure there new + sent)
          (sym (sent_here log space now size n items eliciting window delay end measure there))
          (more_both (part (same_space space there) (measure items.items)) (handed end measure there log)
          (waiting_in measure there old) (sent_in end measure there log) (waiting_in measure there new)
          (queued measure there) (loses measure there)),
    )

-- ---- nothing is sent

pub nothing_queue : (end : End) (space : SpaceId) (now size : ℕ)
    (client server client_after server_after : List Waiting)
    → TurnsAt end (λ (old new : List Waiting). LosesNone old new × ((measure : List ℕ → ℕ) → waiting_in measure space
    old ≡ 0)) client server
    client_after
    server_after → QueueKept client server (Send end space now size) (Ok Nothing) client_after server_after
nothing_queue end space now size =
    queue_turn end (λ (old new : List Waiting). LosesNone old new × ((measure : List ℕ → ℕ) → waiting_in measure space
    old ≡ 0))
    (Send end space now size) (Ok Nothing) here
    (λ log. record { handed_same = λ measure there. refl; sent_same = λ measure there. refl })
  where
    here : (old new : List Waiting) → LosesNone old new × ((measure : List ℕ → ℕ) → waiting_in measure space old ≡ 0)
        → QueueKeptAt end (Send end space now size) (Ok Nothing) old new
    here old new keeps log queued = (
      λ measure. (let one = queued measure space in let none = keeps.1 measure in omega (arith, one, none)),
      queued_on (Send end space now size, Ok Nothing) log end old new
          (record { handed_same = λ measure there. refl; sent_same = λ measure there. refl }) keeps.0 queued,
    )

-- a step by which nothing is handed over or sent, if something is owed
pub still_queue : (end : End) (step : PairStep) (answer : Result PairAnswer SenderError)
    → ((log : PairLog) (end : End) → LeavesQueue (step, answer) log end)
    → ((log : PairLog) → SendsWhatWaits log (step, answer)) → (client server client_after server_after : List Waiting)
    → TurnsAt end (λ (old new : List Waiting). LosesNone old new) client server client_after server_after
    → QueueKept client server step answer client_after server_after
still_queue end step answer leaves sends =
    queue_turn end (λ (old new : List Waiting). LosesNone old new) step answer
    (λ old new keeps log queued. (
      sends log,
      queued_on (step, answer) log end old new (leaves log end) keeps queued,
    )) (λ log. leaves log (other_end end))

-- nothing at all happens
pub same_queue : (step : PairStep) (answer : Result PairAnswer SenderError)
    → ((log : PairLog) (end : End) → LeavesQueue (step, answer) log end)
    → ((log : PairLog) → SendsWhatWaits log (step, answer)) → (client server : List Waiting)
    → QueueKept client server step answer client server
same_queue step answer leaves sends client server =
    still_queue Client step answer leaves sends client server client server (none_lost client client refl, refl)

-- ---- something happens at one end

module _ (log : PairLog) where
  handed_here : (end : End) (measure : List ℕ → ℕ) (space there : SpaceId) (items : Vec ℕ)
      → handed end measure there ((Local end (Hand space items), Ok Done) ∷ log)
      ≡ part (same_space space there) (measure items.items) + handed end measure there log
  handed_here Client measure space there items = refl
  handed_here Server measure space there items = refl

  handed_not : (end : End) (step : LocalStep) (answer : Result PairAnswer SenderError)
      → LeavesQueue (Local end step, answer) log (other_end end)
  handed_not Client (Hand space items) (Ok Done) = record {
    handed_same = λ measure there. nothing_more (handed Server measure there log);
    sent_same = λ measure there. refl;
  }
  handed_not Server (Hand space items) (Ok Done) = record {
    handed_same = λ measure there. nothing_more (handed Client measure there log);
    sent_same = λ measure there. refl;
  }
  handed_not end (Hand space items) answer = record {
    handed_same = λ measure there. refl;
    sent_same = λ measure there.
        refl;
  }
  handed_not end step answer = record { handed_same = λ measure there. refl; sent_same = λ measure there. refl }

  local_sends : (end : End) (step : LocalStep) (answer : Result PairAnswer SenderError)
      → IsNoPacket (Local end step, answer) → SendsWhatWaits log (Local end step, answer)
  local_sends end step (Ok (Sent number items eliciting window delay)) none = absurd none
  local_sends end step answer none = tt

  local_here : (end : End) (step : LocalStep) (answer : Result PairAnswer SenderError) (old new : List Waiting)
      → LocalWaits old new step answer → AreQueued log end old → AreQueued ((Local end step, answer) ∷ log) end new
  local_here end (Hand space items) (Ok Done) old new gains queued = λ measure there.
      subst (λ (all : ℕ). all ≤ waiting_in measure there new + sent_in end measure there log)
      (sym (handed_here end measure space there items))
      (more_handed (part (same_space space there) (measure items.items)) (handed end measure there log)
      (waiting_in measure there old) (sent_in end measure there log) (waiting_in measure there new)
      (queued measure there) (gains measure there))
  local_here end (Hand space items) answer old new keeps queued =
      queued_on (Local end (Hand space items), answer) log end old new
      (record { handed_same = λ measure there. refl; sent_same = λ measure there. refl }) keeps queued
  local_here end step answer old new keeps queued =
      queued_on (Local end step, answer) log end old new
      (record { handed_same = λ measure there. refl; sent_same = λ measure there. refl }) keeps queued

pub local_queue : (end : End) (step : LocalStep) (answer : Result PairAnswer SenderError)
    → IsNoPacket (Local end step, answer) → (client server client_after server_after : List Waiting)
    → TurnsAt end (λ (old new : List Waiting). LocalWaits old new step answer) client server client_after server_after
    → QueueKept client server (Local end step) answer client_after server_after
local_queue end step answer none =
    queue_turn end (λ (old new : List Waiting). LocalWaits old new step answer) (Local end step) answer
    (λ old new waits log queued. (
      local_sends log end step answer none,
      local_here log end step answer old new waits queued,
    )) (λ log. handed_not log end step answer)

pub local_known : (end : End) (step : LocalStep) (result : Result PairAnswer SenderError)
    → IfOk result (IsLocalAnswer step) → AnswersLocally (Local end step, result)
local_known end step (Ok answer) is = is
local_known end step (Err refusal) is = tt
