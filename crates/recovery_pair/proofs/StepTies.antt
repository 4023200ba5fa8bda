-- Each step of an end keeps the promises, and the tie of the log. It is proved once, for the end that makes it.
use Rattle.std.proofs.Common.{◌≡◌, ℕ, nat_le, ◌<◌, ◌≤◌, ◌⊎◌, inl, inr, Bool, true, false, true≢false, List, [], ◌∷◌, ◌++◌, length, get_or, ◌+◌, Option, None, Some, Result, Ok, Err, refl, sym, ap, subst, ◌∙◌, arith}
use Rattle.std.specs.Prelude.{IfOk, map, option_map}
use Rattle.std.specs.Global.{Vec}
use Rattle.std.specs.List.{AllByRecursion}
use Rattle.std.proofs.lemmas.Bool.Decides.{nat_tests}
use Rattle.std.proofs.lemmas.List.{get_or-map, length-map}
use Rattle.recovery_acks.specs.Acks.{delay_at}
use Rattle.recovery_base.specs.declared.below.SpaceId.{SpaceId}
use Rattle.recovery_base.specs.Units.{number_limit}
use Rattle.recovery_events.specs.declared.event.Refusal.TheVariants.{NoMemory, NumberTooLarge, SpaceDiscarded}
use Rattle.recovery_losses.specs.Frames.{IsInAckRanges, largest_of}
use Rattle.recovery_paths.specs.declared.path_pair.PathName.TheVariants.{Current}
use Rattle.recovery_history.specs.History.{History}
use Rattle.recovery_history.specs.Promises.NewNumbers.{came_in, is_discarded, is_new}
use Rattle.recovery_sender.specs.Promises.Lost.{elicits_by, sent_at}
use Rattle.recovery_sender.specs.Senders.{state_in}
use Rattle.recovery_sender.specs.declared.sender.Sender.{Sender}
use Rattle.recovery_sender.specs.declared.sender.SenderError.{SenderError}
use Rattle.recovery_sender.specs.declared.sender.SenderError.TheVariants.{Event}
use Rattle.recovery_sender.proofs.BoundLaws.{stays_threefold}
use Rattle.recovery_pair.specs.declared.steps.AckOutcome.{AckOutcome}
use Rattle.recovery_pair.specs.declared.steps.AckOutcome.TheVariants.{Taken}
use Rattle.recovery_pair.specs.declared.steps.End.{End}
use Rattle.recovery_pair.specs.declared.steps.End.TheVariants.{Client, Server}
use Rattle.recovery_pair.specs.declared.steps.Fate.{Fate}
use Rattle.recovery_pair.specs.declared.steps.Fate.TheVariants.{New, Dropped, Duplicate}
use Rattle.recovery_pair.specs.declared.steps.PairAnswer.{PairAnswer}
use Rattle.recovery_pair.specs.declared.steps.PairAnswer.TheVariants.{Arrived, Nothing, Sent}
use Rattle.recovery_pair.specs.declared.steps.LocalStep.{LocalStep}
use Rattle.recovery_pair.specs.declared.steps.LocalStep.TheVariants.{Expire, Late}
use Rattle.recovery_pair.specs.declared.steps.PairStep.{PairStep}
use Rattle.recovery_pair.specs.declared.steps.PairStep.TheVariants.{Arrive, Local, Send}
use Rattle.recovery_pair.specs.declared.steps.WirePacket.{WirePacket}
use Rattle.recovery_pair.specs.Falls.{FallOnce, FallsAt, FallsByRecovery, controller_in}
use Rattle.recovery_pair.specs.Frames.{IsSoundFrame}
use Rattle.recovery_pair.specs.Logs.{IsAt, PairEvent, PairLog, LoggedPacket, ack_of, deliveries_of, is_eliciting, numbers_at, other_end, sends_of, time_sent, was_discarded, wire_of}
use Rattle.recovery_pair.specs.Flights.{Numbers, counted_if, flight_of, no_numbers}
use Rattle.recovery_pair.specs.Newly.{AcksFlight}
use Rattle.recovery_pair.specs.Pasts.{AcksWithin, Continues, GivesSample, GoesOn, GoesOnQuietly, Endings, HasPast, HearsNumber, IsHeardBy, SampledBy, SendsWithAck, EndTurn, WereSentUnder, endings_by_ack, endings_by_fate, hearing, flight_in, no_endings, packet_leaving, quiet}
use Rattle.recovery_pair.specs.Permits.{FitsChecked}
use Rattle.recovery_pair.specs.Promises.Arrivals.{ArrivesAsSent, Delivers, IsArrival, IsFateBy, IsFirstDelivery}
use Rattle.recovery_pair.specs.Promises.DeliveredOnce.{AcksDelivered}
use Rattle.recovery_pair.specs.Promises.Locals.{IsLocalAnswer}
use Rattle.recovery_pair.specs.Promises.NeverAccused.{NeverAccuses}
use Rattle.recovery_pair.specs.Promises.Newly.{AcksInFlight, all_but}
use Rattle.recovery_pair.specs.Promises.Delays.{ReportsDelay, largest_new}
use Rattle.recovery_pair.specs.Promises.Excess.{ExceedsByProbes}
use Rattle.recovery_pair.specs.Promises.Framed.{ArrivesFramed}
use Rattle.recovery_pair.specs.Promises.LargestAcked.{AcksLargest}
use Rattle.recovery_pair.specs.Promises.RttSamples.{SamplesRoundTrips}
use Rattle.recovery_pair.specs.Promises.Threefold.{ServerSendsThreefold}
use Rattle.recovery_pair.specs.Promises.Window.{SendsWithinWindow}
use Rattle.recovery_pair.specs.Rising.{RisesAbove}
use Rattle.recovery_pair.specs.Tied.{Flows, IsLogged, IsOnWire, IsTiedAt, Travels, sent_as}
use Rattle.recovery_pair.specs.Turns.{FindsByTimer, HearTurn, HearsPacket, SendsPacket, TurnsAt, local_turn, reply_of}
use Rattle.recovery_pair.proofs.AlongLaws.{beginning_of, past_after, went}
use Rattle.recovery_pair.proofs.BoundLaws.{exceeds_by, within_on}
use Rattle.recovery_pair.proofs.FallLaws.{arrived_falls, calm_falls, keeps_same, local_falls}
use Rattle.recovery_pair.proofs.FlightLaws.{flight_counted}
use Rattle.recovery_pair.proofs.LargestLaws.{largest_by}
use Rattle.recovery_pair.proofs.GoingLaws.{all_map, quiet_none}
use Rattle.recovery_pair.proofs.LogLaws.{Adds, IsNoPacket, IsNotLocal, arriving_adds, arriving_adds_not, idle_adds, local_adds, local_adds_not, local_moves, logged_on, sending_adds, sending_adds_not}
use Rattle.recovery_pair.proofs.QuietLaws.{same_quietly}
use Rattle.recovery_pair.proofs.RisingLaws.{frame_largest, heard_top, largest_in_frame, rises_by, rises_on, rises_sent, rises_still, rises_there, some_frame}
use Rattle.recovery_pair.proofs.TurnLaws.{sample_same}
use Rattle.recovery_pair.proofs.TieLaws.{all_at, all_push, before_it, delivered_known, flows_kept, flows_sent, flows_taken, other_sends, other_takes, received_delivered, sending, sends_kept, sent_once, takes_kept, taking}

-- ---- ends

twice : (end : End) → other_end (other_end end) ≡ end
twice Client = refl
twice Server = refl

which : (end from : End) → (from ≡ end) ⊎ (from ≡ other_end end)
which Client Client = inl refl
which Client Server = inr refl
which Server Client = inr refl
which Server Server = inl refl

-- what is promised of packets
pub record KeepsExchange (validated : Bool) (log : PairLog) (event : PairEvent) : Type 0 where
  pub honest : NeverAccuses event
  pub delivered : AcksDelivered log event
  pub arrives : ArrivesAsSent log event
  pub limited : ServerSendsThreefold validated (event ∷ log)
  pub window : SendsWithinWindow log event
  pub delay : ReportsDelay log event
  pub flight : ExceedsByProbes (event ∷ log)
  pub largest : AcksLargest log event
  pub framed : ArrivesFramed log event
  pub newly : AcksInFlight log event
  pub samples : SamplesRoundTrips log event

-- ---- one end makes a step, the other does nothing

module _ {F Q R C K S M P : Type 0} {f : _} {c : _} {q : _} {m : _} {r : _} where
  abbrev pub StepKeepsAt : End → Sender F Q R C K S M P f c q m r → Sender F Q R C K S M P f c q m r
      → List WirePacket → PairStep → Result PairAnswer SenderError → Sender F Q R C K S M P f c q m r
      → List WirePacket → Type 0
  StepKeepsAt end here there wire step answer after wire_after = (validated : Bool) (log : PairLog)
      → IsTiedAt validated end log here there wire → (KeepsExchange validated log (step, answer)
      × (FallsByRecovery c.words → FallsAt log (step, answer) end here after))
      × IsTiedAt validated end ((step, answer) ∷ log) after there wire_after

  -- of both
  abbrev pub ExchangeKept : Sender F Q R C K S M P f c q m r → Sender F Q R C K S M P f c q m r → List WirePacket
      → PairStep → Result PairAnswer SenderError → Sender F Q R C K S M P f c q m r
      → Sender F Q R C K S M P f c q m r → List WirePacket → Type 0
  ExchangeKept client server wire step answer client_after server_after wire_after = (validated : Bool) (log : PairLog)
      → IsTiedAt validated Client log client server wire → (KeepsExchange validated log (step, answer)
      × FallOnce log (step, answer) client server client_after server_after)
      × IsTiedAt validated Client ((step, answer) ∷ log) client_after server_after wire_after

  -- seen from the other end
  turned : (validated : Bool) (end : End) (log : PairLog) (here there : Sender F Q R C K S M P f c q m r)
      (wire : List WirePacket) → IsTiedAt validated end log here there wire
      → IsTiedAt validated (other_end end) log there here wire
  turned validated end log here there wire tied = record {
    own = tied.peer;
    peer = tied.own;
    out = tied.back;
    back = rw (twice end) tied.out;
    logged = tied.peer_logged;
    peer_logged = rw (twice end) tied.logged;
    listed = tied.listed;
    wired = tied.wired;
    within = tied.within;
    own_rise = tied.peer_rise;
    peer_rise = rw (twice end) tied.own_rise;
  }

  -- what holds for the end that makes a step holds for both
  pub by_turn : (end : End) (Turns : Sender F Q R C K S M P f c q m r → Sender F Q R C K S M P f c q m r → Type 0)
      (wire wire_after : List WirePacket) (step : PairStep) (answer : Result PairAnswer SenderError)
      → ((here there after : Sender F Q R C K S M P f c q m r) → Turns here after
      → StepKeepsAt end here there wire step answer after wire_after)
      → (client server client_after server_after : Sender F Q R C K S M P f c q m r)
      → TurnsAt end Turns client server client_after server_after
      → ExchangeKept client server wire step answer client_after server_after wire_after
  by_turn Client Turns wire wire_after step answer each client server client_after server_after turns =
      subst (λ (one : Sender F Q R C K S M P f c q m r).
      ExchangeKept client server wire step answer client_after one wire_after) (sym turns.1)
      (λ validated log tied. (let kept = each client server client_after turns.0 validated log tied in (
        (kept.0.0, λ falls. (kept.0.1 falls, inl (keeps_same c.words (controller_in server)))),
        kept.1,
      )))
  by_turn Server Turns wire wire_after step answer each client server client_after server_after turns =
      subst (λ (one : Sender F Q R C K S M P f c q m r).
      ExchangeKept client server wire step answer one server_after wire_after) (sym turns.1) by
    where
      by : ExchangeKept client server wire step answer client server_after wire_after
      by validated log tied =
          let both = each server client server_after turns.0 validated log
          (turned validated Client log client server wire tied) in (
            (both.0.0, λ falls. (inl (keeps_same c.words (controller_in client)), both.0.1 falls)),
            turned validated Server ((step, answer) ∷ log) server_after client wire_after both.1,
          )

with_falls : {A B C : Type 0} → A × B → C → (A × C) × B
with_falls kept falls = ((kept.0, falls), kept.1)

-- ---- amplification

module _ {F Q R C K S M P : Type 0} {f : _} {c : _} {q : _} {m : _} {r : _} (validated : Bool) (log : PairLog) where
  threefold_by : (sender : Sender F Q R C K S M P f c q m r) (has : HasPast sender)
      → IsLogged validated log Server has.config.validated has.past → ServerSendsThreefold validated log
  threefold_by sender has logged none =
      let bound = stays_threefold sender has.config has.start has.random has.past has.came Current
      (logged.address ∙ none) in
      let arrived = logged.arrived in
      let left = logged.left in
      omega (arith, bound, arrived, left)

  threefold_at : (end : End) (here there : Sender F Q R C K S M P f c q m r) (wire : List WirePacket)
      → IsTiedAt validated end log here there wire → ServerSendsThreefold validated log
  threefold_at Client here there wire tied = threefold_by there tied.peer tied.peer_logged
  threefold_at Server here there wire tied = threefold_by here tied.own tied.logged

-- ---- steps by which nothing is sent, and nothing new arrives

abbrev pub IsSilent : PairEvent → Type 0
IsSilent (step, Ok (Sent number items eliciting window delay)) = ⊥
IsSilent (step, Ok (Arrived to space number size (New items acked))) = ⊥
IsSilent event = Unit {0}

silent_sends : (event : PairEvent) → IsSilent event → (log : PairLog) (end : End) (space : SpaceId) (n : ℕ)
    → sends_of end space n (event ∷ log) ≡ sends_of end space n log
silent_sends (Send from there now size, Ok (Sent number items eliciting window delay)) silent log end space n = absurd
    silent
silent_sends event silent log end space n = refl

silent_takes : (event : PairEvent) → IsSilent event → (log : PairLog) (end : End) (space : SpaceId) (n : ℕ)
    → deliveries_of end space n (event ∷ log) ≡ deliveries_of end space n log
silent_takes (step, Ok (Arrived to there number size (New items acked))) silent log end space n = absurd silent
silent_takes event silent log end space n = refl

silent_wire : (event : PairEvent) → IsSilent event → (log : PairLog) → wire_of (event ∷ log) ≡ wire_of log
silent_wire (Send from there now size, Ok (Sent number items eliciting window delay)) silent log = absurd silent
silent_wire event silent log = refl

silent_honest : (event : PairEvent) → IsSilent event → NeverAccuses event
silent_honest (step, Ok (Arrived to there number size (New items acked))) silent = absurd silent
silent_honest event silent = tt

silent_window : (log : PairLog) (event : PairEvent) → IsSilent event → SendsWithinWindow log event
silent_window log (Send from there now size, Ok (Sent number items eliciting (Some window) delay)) silent = absurd
    silent
silent_window log event silent = tt

silent_delay : (log : PairLog) (event : PairEvent) → IsSilent event → ReportsDelay log event
silent_delay log (Send from there now size, Ok (Sent number items eliciting window delay)) silent = absurd silent
silent_delay log event silent = tt

silent_largest : (log : PairLog) (event : PairEvent) → IsSilent event → AcksLargest log event
silent_largest log (Send from there now size, Ok (Sent number items eliciting window delay)) silent = absurd silent
silent_largest log event silent = tt

silent_framed : (log : PairLog) (event : PairEvent) → IsSilent event → ArrivesFramed log event
silent_framed log (Arrive at now, Ok (Arrived to there number size (New items acked))) silent = absurd silent
silent_framed log event silent = tt

silent_newly : (log : PairLog) (event : PairEvent) → IsSilent event → AcksInFlight log event
silent_newly log (Arrive at now, Ok (Arrived to there number size (New items acked))) silent = absurd silent
silent_newly log event silent = tt

silent_samples : (log : PairLog) (event : PairEvent) → IsSilent event → SamplesRoundTrips log event
silent_samples log (Arrive at now, Ok (Arrived to there number size (New items acked))) silent = absurd silent
silent_samples log event silent = tt

silent_delivers : (log : PairLog) (event : PairEvent) → IsSilent event → AcksDelivered log event
silent_delivers log (step, Ok (Arrived to there number size (New items acked))) silent = absurd silent
silent_delivers log event silent = tt

module _ {F Q R C K S M P : Type 0} {f : _} {c : _} {q : _} {m : _} {r : _} (end : End) (step : PairStep)
    (answer : Result PairAnswer SenderError) (turn : EndTurn) (silent : IsSilent (step, answer))
    (none : turn.heard ≡ None) (uncarried : turn.carries ≡ None)
    (unacked : (space : SpaceId) (n : ℕ) → turn.acks space n ≡ true → ⊥)
    (adds : (log : PairLog) → Adds turn end (step, answer) log)
    (adds_not : (log : PairLog) → Adds quiet (other_end end) (step, answer) log) (wire : List WirePacket)
    (here there after : Sender F Q R C K S M P f c q m r) (goes : Continues (GoesOn turn) here after)
    (validated : Bool) (log : PairLog) (tied : IsTiedAt validated end log here there wire) where
  tied_still : IsTiedAt validated end ((step, answer) ∷ log) after there wire
  tied_still =
      let own = went tied.own goes in
      let event : PairEvent = (step, answer) in
      record {
        own = past_after tied.own goes;
        peer = tied.peer;
        out = flows_kept log (event ∷ log) end quiet tied.own.past own.0 tied.peer.past tied.peer.past
            (silent_sends event silent log end) (silent_takes event silent log (other_end end)) own.2.given refl
            (quiet_none tied.peer.past) tied.out;
        back = flows_kept log (event ∷ log) (other_end end) turn tied.peer.past tied.peer.past tied.own.past own.0
            (silent_sends event silent log (other_end end))
            (silent_takes event silent log (other_end (other_end end))) (λ space n given. given) none own.2 tied.back;
        logged = logged_on validated log event end tied.own.config.validated turn tied.own.past own.0 (adds log) own.2
            tied.logged;
        peer_logged = logged_on validated log event (other_end end) tied.peer.config.validated quiet tied.peer.past
            tied.peer.past (adds_not log) (quiet_none tied.peer.past) tied.peer_logged;
        listed = silent_wire event silent log ∙ tied.listed;
        wired = all_map (IsOnWire log) (IsOnWire (event ∷ log)) (λ packet on. record {
          sent = silent_sends event silent log packet.from packet.space packet.number ∙ on.sent;
          sound = on.sound;
          acks = λ n is. (let was = on.acks n is in
              (was.0, silent_takes event silent log packet.from packet.space n ∙ was.1));
        }) wire tied.wired;
        within = within_on log event (silent_window log event silent) tied.within;
        own_rise = rises_on end turn tied.own.past own.0 tied.peer.past wire own.2 uncarried tied.own_rise unacked;
        peer_rise = rises_still (other_end end) tied.peer.past tied.own.past own.0 wire own.2.given tied.peer_rise;
      }

  pub silent_step : ArrivesAsSent log (step, answer) → KeepsExchange validated log (step, answer)
      × IsTiedAt validated end ((step, answer) ∷ log) after there wire
  silent_step arrives = (
    record {
      honest = silent_honest (step, answer) silent;
      delivered = silent_delivers log (step, answer) silent;
      arrives = arrives;
      limited = threefold_at validated ((step, answer) ∷ log) end after there wire tied_still;
      window = silent_window log (step, answer) silent;
      delay = silent_delay log (step, answer) silent;
      flight = exceeds_by ((step, answer) ∷ log) tied_still.within;
      largest = silent_largest log (step, answer) silent;
      framed = silent_framed log (step, answer) silent;
      newly = silent_newly log (step, answer) silent;
      samples = silent_samples log (step, answer) silent;
    },
    tied_still,
  )

-- ---- a packet is sent

map_push : (wire : List WirePacket) (packet : WirePacket)
    → map sent_as (wire ++ packet ∷ []) ≡ map sent_as wire ++ sent_as packet ∷ []
map_push [] packet = refl
map_push (first ∷ wire) packet = ap (λ (more : List LoggedPacket). sent_as first ∷ more) (map_push wire packet)

sent_same : (end : End) (size : ℕ) (items : Vec ℕ) (packet : WirePacket) → packet.from ≡ end → packet.size ≡ size
    → items.items ≡ packet.items.items → (record {
      from = end;
      space = packet.space;
      number = packet.number;
      size = size;
      items = items.items;
      largest = largest_of packet.ranges.items;
    }) ≡ sent_as packet
sent_same end size items packet sender sized told = rw (sender, sized, told) refl

module _ {Q S M P : Type 0} (log : PairLog) (now size : ℕ) (end : End) (past after peer : History Q S M P)
    (packet : WirePacket) (items : Vec ℕ) (window : Option ℕ) (wire : List WirePacket) (sender : packet.from ≡ end)
    (told : items.items ≡ packet.items.items) (sound : IsSoundFrame packet.ranges.items)
    (sends : SendsWithAck size (counted_if packet.eliciting size) packet.eliciting packet.space packet.number
    packet.ranges.items now past after)
    (flows : Flows log end past peer) (back : Flows log (other_end end) peer past)
    (wired : AllByRecursion (IsOnWire log) wire) where
  abbrev sent_log : PairLog
  sent_log = sending log packet.space now size packet.number items packet.eliciting window (ack_of packet) end ∷ log

  out_sent : Flows sent_log end after peer
  out_sent = flows_sent log packet.space now size packet.number items packet.eliciting window (ack_of packet) end past
      after peer
      (counted_if packet.eliciting size) (largest_of packet.ranges.items)
      sends.sends flows

  back_sent : Flows sent_log (other_end end) peer after
  back_sent = flows_kept log sent_log (other_end end)
      (packet_leaving size (counted_if packet.eliciting size) packet.eliciting packet.space packet.number
      (largest_of packet.ranges.items) now) peer peer past after
      (other_sends log packet.space now size packet.number items packet.eliciting window (ack_of packet) end)
      (λ space n. refl) (λ space n given. given) refl
      sends.sends.goes back

  still_by : (from : End) (space : SpaceId) (n : ℕ) (before : List ℕ) → (from ≡ end) ⊎ (from ≡ other_end end)
      → sends_of from space n log ≡ before ∷ [] → sends_of from space n sent_log ≡ before ∷ []
  still_by from space n before (inl same) once =
      subst (λ (e : End). sends_of e space n sent_log ≡ before ∷ []) (sym same)
      (sends_kept log packet.space now size packet.number items packet.eliciting window (ack_of packet) end past after
      peer (counted_if packet.eliciting size) (largest_of packet.ranges.items)
      sends.sends flows space n before
      (subst (λ (e : End). sends_of e space n log ≡ before ∷ []) same once))
  still_by from space n before (inr same) once =
      subst (λ (e : End). sends_of e space n sent_log ≡ before ∷ []) (sym same)
      (other_sends log packet.space now size packet.number items packet.eliciting window (ack_of packet) end space n
      ∙ subst (λ (e : End). sends_of e space n log ≡ before ∷ []) same once)

  on_still : (one : WirePacket) → IsOnWire log one → IsOnWire sent_log one
  on_still one on = record {
    sent = still_by one.from one.space one.number one.items.items (which end one.from) on.sent;
    sound = on.sound;
    acks = on.acks;
  }

  acks_sent : (n : ℕ) → IsInAckRanges n packet.ranges.items
      → (before : List ℕ) × (deliveries_of packet.from packet.space n sent_log ≡ before ∷ [])
  acks_sent n is =
      let was = received_delivered log (other_end end) peer past back packet.space n (sends.acks n is) in
      (was.0, subst (λ (e : End). deliveries_of e packet.space n log ≡ was.0 ∷ []) (twice end ∙ sym sender) was.1)

  last_on : IsOnWire sent_log packet
  last_on = record {
    sent = subst (λ (e : End). sends_of e packet.space packet.number sent_log ≡ packet.items.items ∷ []) (sym sender)
        (sent_once log packet.space now size packet.number items packet.eliciting window (ack_of packet) end past after
        peer
        (counted_if packet.eliciting size) (largest_of packet.ranges.items)
        sends.sends flows
        ∙ ap (λ (all : List ℕ). all ∷ []) told);
    sound = sound;
    acks = acks_sent;
  }

  wired_sent : AllByRecursion (IsOnWire sent_log) (wire ++ packet ∷ [])
  wired_sent = all_push (IsOnWire sent_log) wire packet
      (all_map (IsOnWire log) (IsOnWire sent_log) on_still wire wired) last_on

added_fits : (logged known counted size room : ℕ) → logged ≤ known → known ≤ counted → counted + size ≤ room
    → logged + size ≤ room
added_fits logged known counted size room one two three = omega (arith, one, two, three)

module _ {F Q R C K S M P : Type 0} {f : _} {c : _} {q : _} {m : _} {r : _} (end : End) (now size : ℕ)
    (packet : WirePacket) (items : Vec ℕ) (window : Option ℕ) (wire : List WirePacket)
    (here there after : Sender F Q R C K S M P f c q m r)
    (is : SendsPacket here after end packet.space now size packet items window) (validated : Bool) (log : PairLog)
    (tied : IsTiedAt validated end log here there wire) where
  -- its delay is since the largest packet was received, by the log
  waited_by : ReportsDelay log
      (Send end packet.space now size, Ok (Sent packet.number items packet.eliciting window (ack_of packet)))
  waited_by = is.waited
      ∙ ap (delay_at now) (largest_by (beginning_of tied.own) tied.own.past (state_in here) tied.own.came packet.space
      ∙ tied.logged.largest packet.space)

  -- it fits into the window that is checked, by the log
  fits_by : (checked : Option ℕ) → FitsChecked here size checked → SendsWithinWindow log
      (Send end packet.space now size, Ok (Sent packet.number items packet.eliciting checked (ack_of packet)))
  fits_by None fits = tt
  fits_by (Some room) fits =
      let known = tied.logged.flight no_numbers in
      let counted = flight_counted (beginning_of tied.own) tied.own.past (state_in here) tied.own.came in
      added_fits _ _ _ size room known counted fits

  tied_sent : IsTiedAt validated end (sending log packet.space now size packet.number items packet.eliciting window
      (ack_of packet) end
      ∷ log) after there
      (wire ++ packet ∷ [])
  tied_sent =
      let own = went tied.own is.goes in
      let event : PairEvent = sending log packet.space now size packet.number items packet.eliciting window
      (ack_of packet) end in
      record {
        own = past_after tied.own is.goes;
        peer = tied.peer;
        out = out_sent log now size end tied.own.past own.0 tied.peer.past packet items window wire is.sender is.told
            is.sound
            own.2 tied.out tied.back tied.wired;
        back = back_sent log now size end tied.own.past own.0 tied.peer.past packet items window wire is.sender is.told
            is.sound own.2 tied.out tied.back tied.wired;
        logged = logged_on validated log event end tied.own.config.validated
            (packet_leaving size (counted_if packet.eliciting size) packet.eliciting packet.space packet.number
            (largest_of packet.ranges.items) now) tied.own.past own.0
            (sending_adds log packet.space now size packet.number items packet.eliciting window (ack_of packet) end
            (largest_of packet.ranges.items))
            own.2.sends.goes
            tied.logged;
        peer_logged = logged_on validated log event (other_end end) tied.peer.config.validated quiet tied.peer.past
            tied.peer.past (sending_adds_not log packet.space now size packet.number items packet.eliciting window
            (ack_of packet) end)
            (quiet_none tied.peer.past) tied.peer_logged;
        listed = ap (λ (sent : List LoggedPacket). sent ++ record {
          from = end;
          space = packet.space;
          number = packet.number;
          size = size;
          items = items.items;
          largest = largest_of packet.ranges.items;
        } ∷ []) tied.listed
            ∙ ap (λ (last : LoggedPacket). map sent_as wire ++ last ∷ [])
            (sent_same end size items packet is.sender is.sized is.told) ∙ sym (map_push wire packet);
        wired = wired_sent log now size end tied.own.past own.0 tied.peer.past packet items window wire is.sender
            is.told
            is.sound own.2 tied.out tied.back tied.wired;
        within = within_on log event (fits_by window is.fits) tied.within;
        own_rise = rises_sent log size (counted_if packet.eliciting size) now end tied.own.past own.0 tied.peer.past
            packet wire is.sender is.sound own.2 tied.out tied.back tied.wired tied.own_rise tied.peer_rise;
        peer_rise = rises_there log size (counted_if packet.eliciting size) now end tied.own.past own.0 tied.peer.past
            packet wire is.sender is.sound own.2 tied.out tied.back tied.wired tied.own_rise tied.peer_rise;
      }

  -- its ACK frame goes up to the largest number received, by the log
  largest_by_log : largest_of packet.ranges.items
      ≡ option_map (λ received. received.0) (largest_new end packet.space log)
  largest_by_log =
      let own = went tied.own is.goes in
      subst (λ (received : Option (ℕ × ℕ)). largest_of packet.ranges.items ≡ option_map (λ it. it.0) received)
      (tied.logged.largest packet.space)
      (frame_largest packet.space tied.own.past packet.ranges.items is.sound own.2.acks own.2.whole
      (tied.own_rise.keeps packet.space))

  sent_step : KeepsExchange validated log (sending log packet.space now size packet.number items packet.eliciting
      window (ack_of packet) end)
      × IsTiedAt validated end (sending log packet.space now size packet.number items packet.eliciting window
      (ack_of packet) end ∷
      log) after there
      (wire ++ packet ∷ [])
  sent_step = (
    record {
      honest = tt;
      delivered = tt;
      arrives = tt;
      limited = threefold_at validated (sending log packet.space now size packet.number items packet.eliciting window
          (ack_of packet)
          end ∷ log) end after
          there (wire ++ packet ∷ []) tied_sent;
      window = fits_by window is.fits;
      delay = waited_by;
      flight = exceeds_by (sending log packet.space now size packet.number items packet.eliciting window (ack_of packet)
          end ∷ log)
          tied_sent.within;
      largest = largest_by_log;
      framed = tt;
      newly = tt;
      samples = tt;
    },
    tied_sent,
  )

module _ {F Q R C K S M P : Type 0} {f : _} {c : _} {q : _} {m : _} {r : _} where
  sends_at : (end : End) (space : SpaceId) (now size : ℕ) (packet : WirePacket) (items : Vec ℕ) (window : Option ℕ)
      (wire : List WirePacket)
      (here there after : Sender F Q R C K S M P f c q m r) → packet.space ≡ space
      → SendsPacket here after end space now size packet items window
      → StepKeepsAt end here there wire (Send end space now size) (Ok (Sent packet.number items packet.eliciting
      window (ack_of packet))) after
      (wire ++ packet ∷ [])
  sends_at end space now size packet items window wire here there after same =
      subst (λ (at : SpaceId). SendsPacket here after end at now size packet items window
      → StepKeepsAt end here there wire (Send end at now size) (Ok (Sent packet.number items packet.eliciting window
      (ack_of packet)))
      after
      (wire ++ packet ∷ [])) same (λ is validated log tied. with_falls
      (sent_step end now size packet items window wire here there after is validated log tied)
      (λ falls. calm_falls _ _ _ _ _ _ _ tied falls _
      (SendsWithAck size (counted_if packet.eliciting size) packet.eliciting packet.space packet.number
      packet.ranges.items now) (λ past after goes. goes.sends.goes.congested) is.goes))

  pub send_turn : (end : End) (space : SpaceId) (now size : ℕ) (packet : WirePacket) (items : Vec ℕ)
      (window : Option ℕ)
      (client server client_after server_after : Sender F Q R C K S M P f c q m r) (wire all : List WirePacket)
      → all ≡ wire ++ packet ∷ []
      → TurnsAt end (λ (old new : Sender F Q R C K S M P f c q m r). SendsPacket old new end space now size packet items
      window)
      client server client_after server_after
      → ExchangeKept client server wire (Send end space now size) (Ok (Sent packet.number items packet.eliciting
      window (ack_of packet))) client_after
      server_after
      all
  send_turn end space now size packet items window client server client_after server_after wire all pushed turns =
      subst (λ (all : List WirePacket). ExchangeKept client server wire (Send end space now size)
      (Ok (Sent packet.number items packet.eliciting window (ack_of packet))) client_after server_after all)
      (sym pushed)
      (by_turn end (λ (old new : Sender F Q R C K S M P f c q m r). SendsPacket old new end space now size packet items
      window)
      wire (wire ++ packet ∷ []) (Send end space now size) (Ok (Sent packet.number items packet.eliciting window
      (ack_of packet)))
      (λ here there after is. sends_at end space now size packet items window wire here there after is.there is)
      client server client_after server_after turns)

-- ---- a packet is new

module _ {Q S M P : Type 0} (log : PairLog) (at now : ℕ) (from : End) (past peer after : History Q S M P)
    (packet : WirePacket) (items : Vec ℕ) (acked : AckOutcome) (wire : List WirePacket) (sender : packet.from ≡ from)
    (told : items.items ≡ packet.items.items)
    (ends : Endings) (hears : HearsNumber now packet.size packet.space packet.number (Ok true) ends peer after)
    (flows : Flows log from past peer) (wired : AllByRecursion (IsOnWire log) wire) (on : IsOnWire log packet) where
  abbrev new_log : PairLog
  new_log = taking log at now packet.space packet.number packet.size items acked (other_end from) ∷ log

  was_sent : sends_of from packet.space packet.number log ≡ items.items ∷ []
  was_sent = subst (λ (e : End). sends_of e packet.space packet.number log ≡ items.items ∷ []) sender
      (on.sent ∙ ap (λ (all : List ℕ). all ∷ []) (sym told))

  flows_new : Flows new_log from past after
  flows_new = flows_taken log at now packet.space packet.number packet.size items acked from past peer after ends hears
      was_sent flows

  once_new : deliveries_of (other_end from) packet.space packet.number log ≡ []
  once_new = (before_it log at now packet.space packet.number packet.size items acked from past peer after ends hears
      was_sent flows).away.undelivered

  still_taken_by : (one : End) (space : SpaceId) (n : ℕ) (before : List ℕ) → (one ≡ from) ⊎ (one ≡ other_end from)
      → deliveries_of one space n log ≡ before ∷ [] → deliveries_of one space n new_log ≡ before ∷ []
  still_taken_by one space n before (inl same) once =
      subst (λ (e : End). deliveries_of e space n new_log ≡ before ∷ []) (twice from ∙ sym same)
      (other_takes log at now packet.space packet.number packet.size items acked (other_end from) space n
      ∙ subst (λ (e : End). deliveries_of e space n log ≡ before ∷ []) (same ∙ sym (twice from)) once)
  still_taken_by one space n before (inr same) once =
      subst (λ (e : End). deliveries_of e space n new_log ≡ before ∷ []) (sym same)
      (takes_kept log at now packet.space packet.number packet.size items acked from past peer after ends hears was_sent
      flows
      space n before (subst (λ (e : End). deliveries_of e space n log ≡ before ∷ []) same once))

  on_taken : (one : WirePacket) → IsOnWire log one → IsOnWire new_log one
  on_taken one on = record {
    sent = on.sent;
    sound = on.sound;
    acks = λ n is. (let was = on.acks n is in
        (was.0, still_taken_by one.from one.space n was.0 (which from one.from) was.1));
  }

  wired_new : AllByRecursion (IsOnWire new_log) wire
  wired_new = all_map (IsOnWire log) (IsOnWire new_log) on_taken wire wired

-- what the ACK frame of a new packet says is known
module _ {Q S M P : Type 0} (log : PairLog) (to : End) (past peer : History Q S M P) (flows : Flows log to past peer)
    (space : SpaceId) (ranges : List (ℕ × ℕ))
    (acks : (n : ℕ) → IsInAckRanges n ranges → (items : List ℕ)
    × (deliveries_of (other_end to) space n log ≡ items ∷ [])) where
  were_sent : WereSentUnder space ranges past
  were_sent n is = (let was = acks n is in let known = delivered_known log to past peer flows space n was.0 was.1 in
      (known.1, known.2))

  acks_delivered : (step : PairStep) (number size : ℕ) (items : Vec ℕ) (acked : AckOutcome) → AcksWithin ranges acked
      → AcksDelivered log (step, Ok (Arrived to space number size (New items acked)))
  acks_delivered step number size items (Taken all) within = λ n there. (let was = acks n (within n there) in
      (delivered_known log to past peer flows space n was.0 was.1).0)
  acks_delivered step number size items acked within = tt

-- ---- an RTT sample

sample_is : (log : PairLog) (end : End) (number size at now : ℕ) (items : Vec ℕ) (packet : WirePacket)
    → IsAt (wire_of log) at (sent_as packet) → (outcome : AckOutcome)
    → GivesSample (λ n. time_sent end packet.space n log) (λ n. is_eliciting end packet.space n log) now
    (largest_of packet.ranges.items) outcome
    → SamplesRoundTrips log (Arrive at now, Ok (Arrived end packet.space number size (New items outcome)))
sample_is log end number size at now items packet place (Taken acked) is =
    record { packet = sent_as packet; sent = place; rtt = is }
sample_is log end number size at now items packet place outcome is = tt

-- what is in flight is newly acknowledged
newly_is : {Q S M P : Type 0} (log : PairLog) (end : End) (number size at now : ℕ) (items : Vec ℕ)
    (packet : WirePacket) (past : History Q S M P) → IsAt (wire_of log) at (sent_as packet)
    → IsSoundFrame packet.ranges.items
    → ((gone : Numbers) → flight_of end (λ window. true) gone log ≤ flight_in gone past) → (outcome : AckOutcome)
    → AcksFlight packet.space packet.ranges.items outcome past
    → AcksInFlight log (Arrive at now, Ok (Arrived end packet.space number size (New items outcome)))
newly_is log end number size at now items packet past place sound less (Taken acked) is = record {
  packet = sent_as packet;
  sent = place;
  newly = λ l largest some.
      is l (largest_in_frame packet.ranges.items (some_frame packet.ranges.items l sound largest) l largest)
      (let most = less (all_but packet.space l) in omega (arith, most, some));
}
newly_is log end number size at now items packet past place sound less outcome is = tt

-- ---- a packet that arrives was sent

fate_by : (discarded large new : Bool) (fate : Fate) → large ≡ false
    → IsHeardBy discarded large new (reply_of fate) → IsFateBy discarded new fate
fate_by discarded large new (New items acked) small is = is
fate_by discarded large new Duplicate small is = is
fate_by discarded large new (Dropped (Event SpaceDiscarded)) small is = is
fate_by discarded large new (Dropped (Event NumberTooLarge)) small is = let both = sym small ∙ is in absurd cc
fate_by discarded large new (Dropped (Event NoMemory)) small is = is
fate_by discarded large new (Dropped refusal) small is = absurd is

module _ {F Q R C K S M P : Type 0} {f : _} {c : _} {q : _} {m : _} {r : _} (at now : ℕ) (from : End)
    (packet : WirePacket) (wire : List WirePacket) (within : at < length wire) (found : packet ≡ get_or wire at packet)
    (sender : packet.from ≡ from) (here there after : Sender F Q R C K S M P f c q m r) (validated : Bool)
    (log : PairLog) (tied : IsTiedAt validated (other_end from) log here there wire) where
  -- the flow of the packets that come to the end
  toward : Flows log from tied.peer.past tied.own.past
  toward = subst (λ (e : End). Flows log e tied.peer.past tied.own.past) (twice from) tied.back

  on_wire : IsOnWire log packet
  on_wire = all_at (IsOnWire log) wire at packet within found tied.wired

  place : IsAt (wire_of log) at (sent_as packet)
  place = rw (tied.listed) (
    (let same = length-map wire sent_as in omega (arith, same, within)),
    get_or-map sent_as wire at packet (sent_as packet) within ∙ ap sent_as (sym found),
  )

  -- it was sent, so its number is small
  small : nat_le number_limit packet.number ≡ false
  small = by (toward.each packet.space packet.number)
    where
      by : Travels log from packet.space packet.number tied.peer.past tied.own.past
          → nat_le number_limit packet.number ≡ false
      by (inl unsent) =
          let none = unsent.none in
          let some = subst (λ (e : End). sends_of e packet.space packet.number log ≡ packet.items.items ∷ []) sender
          on_wire.sent in absurd cc
      by (inr (items, was)) = let below = was.small in grind (arith, nat_tests, below)

  module _ (fate : Fate) (is : HearsPacket here after packet now fate) where
    own_went : (past : History Q S M P) × HearsNumber now packet.size packet.space packet.number (reply_of fate)
        (endings_by_fate packet.space fate) tied.own.past past
    own_went =
        let own = went tied.own is.goes in
        (own.0, own.2)

    fated : IsFateBy (was_discarded (other_end from) packet.space log)
        (is_new (numbers_at (other_end from) packet.space log) packet.number) fate
    fated = rw (tied.logged.came packet.space, tied.logged.discarded packet.space) at
        (fate_by (is_discarded packet.space tied.own.past) (nat_le number_limit packet.number)
        (is_new (came_in packet.space tied.own.past) packet.number) fate small own_went.1.by)

    arrival : Delivers packet.items.items fate
        → IsFirstDelivery (deliveries_of (other_end from) packet.space packet.number log) fate
        → IsArrival log at (other_end from) packet.space packet.number packet.size fate
    arrival delivers once = record {
      packet = sent_as packet;
      sent = place;
      same = (sender ∙ sym (twice from), refl, refl, refl);
      fated = fated;
      delivers = delivers;
      once = once;
    }

    -- nothing new arrives
    pub old_step : IsSilent (Arrive at now, Ok (Arrived (other_end from) packet.space packet.number packet.size fate))
        → (hearing now packet.size packet.space packet.number (reply_of fate)
        (endings_by_fate packet.space fate)).heard ≡ None
        → ((space : SpaceId) (n : ℕ) → (endings_by_fate packet.space fate).acked space n ≡ true → ⊥)
        → Delivers packet.items.items fate
        → IsFirstDelivery (deliveries_of (other_end from) packet.space packet.number log) fate
        → KeepsExchange validated log
        (Arrive at now, Ok (Arrived (other_end from) packet.space packet.number packet.size fate))
        × IsTiedAt validated (other_end from)
        ((Arrive at now, Ok (Arrived (other_end from) packet.space packet.number packet.size fate)) ∷ log) after there
        wire
    old_step silent none unacked delivers once = silent_step (other_end from) (Arrive at now)
        (Ok (Arrived (other_end from) packet.space packet.number packet.size fate))
        (hearing now packet.size packet.space packet.number (reply_of fate) (endings_by_fate packet.space fate)) silent
        none refl unacked
        (λ log. arriving_adds log at now packet.space packet.number packet.size (other_end from) fate)
        (λ log. arriving_adds_not log at now packet.space packet.number packet.size (other_end from) fate) wire here
        there after (record {
          from = λ config start random past came. (
              let own = is.goes.from config start random past came in (own.0, own.1, own.2.goes));
        }) validated log tied (arrival delivers once)

  -- it is new
  module _ (items : Vec ℕ) (acked : AckOutcome) (is : HearsPacket here after packet now (New items acked)) where
    abbrev event : PairEvent
    event = taking log at now packet.space packet.number packet.size items acked (other_end from)

    acks_known : (n : ℕ) → IsInAckRanges n packet.ranges.items
        → (items : List ℕ) × (deliveries_of (other_end (other_end from)) packet.space n log ≡ items ∷ [])
    acks_known n there = (let was = on_wire.acks n there in (
      was.0,
      subst (λ (e : End). deliveries_of e packet.space n log ≡ was.0 ∷ []) (sender ∙ sym (twice from)) was.1,
    ))

    tied_new : IsTiedAt validated (other_end from) (event ∷ log) after there wire
    tied_new =
        let own = went tied.own is.goes in
        record {
          own = past_after tied.own is.goes;
          peer = tied.peer;
          out = flows_kept log (event ∷ log) (other_end from) quiet tied.own.past own.0 tied.peer.past tied.peer.past
              (λ space n. refl)
              (other_takes log at now packet.space packet.number packet.size items acked (other_end from))
              own.2.goes.given refl (quiet_none tied.peer.past) tied.out;
          back = subst (λ (e : End). Flows (event ∷ log) e tied.peer.past own.0) (sym (twice from))
              (flows_new log at now from tied.peer.past tied.own.past own.0 packet items acked wire sender
              is.takes.told (endings_by_ack packet.space acked) own.2 toward tied.wired on_wire);
          logged = logged_on validated log event (other_end from) tied.own.config.validated
              (hearing now packet.size packet.space packet.number (Ok true) (endings_by_ack packet.space acked))
              tied.own.past
              own.0
              (arriving_adds log at now packet.space packet.number packet.size (other_end from) (New items acked))
              own.2.goes tied.logged;
          peer_logged = logged_on validated log event (other_end (other_end from)) tied.peer.config.validated quiet
              tied.peer.past tied.peer.past
              (arriving_adds_not log at now packet.space packet.number packet.size (other_end from)
              (New items acked)) (quiet_none tied.peer.past) tied.peer_logged;
          listed = tied.listed;
          wired = wired_new log at now from tied.peer.past tied.own.past own.0 packet items acked wire sender
              is.takes.told (endings_by_ack packet.space acked) own.2 toward tied.wired on_wire;
          within = within_on log event tt tied.within;
          own_rise = rises_by (other_end from)
              (hearing now packet.size packet.space packet.number (Ok true) (endings_by_ack packet.space acked))
              tied.own.past own.0 tied.peer.past wire own.2.goes refl tied.own_rise
              (λ space. heard_top now packet acked tied.own.past own.0 own.2 is.takes.within
              (all_at (RisesAbove (other_end (other_end from)) tied.own.past) wire at packet within found
              tied.own_rise.above (sender ∙ sym (twice from))) space (tied.own_rise.keeps space));
          peer_rise = rises_still (other_end (other_end from)) tied.peer.past tied.own.past own.0 wire
              own.2.goes.given tied.peer_rise;
        }

    -- there is a sample exactly if the frame gives one, by the log
    sampled_by_log : (outcome : AckOutcome) → SampledBy packet.space now packet.ranges.items here outcome
        → SamplesRoundTrips log
        (Arrive at now, Ok (Arrived (other_end from) packet.space packet.number packet.size (New items outcome)))
    sampled_by_log outcome samples =
        sample_is log (other_end from) packet.number packet.size at now items packet place outcome
        (sample_same (sent_at packet.space tied.own.past) (λ n. time_sent (other_end from) packet.space n log)
        (elicits_by packet.space tied.own.past) (λ n. is_eliciting (other_end from) packet.space n log) now
        (largest_of packet.ranges.items) (tied.logged.times packet.space) (tied.logged.elicits packet.space) outcome
        (samples tied.own.config tied.own.start tied.own.random tied.own.past tied.own.came tied.logged.paths))

    pub new_step : KeepsExchange validated log event
        × IsTiedAt validated (other_end from) (event ∷ log) after there wire
    new_step =
        let own = went tied.own is.goes in
        let ranges = packet.ranges.items in (
          record {
            honest = is.takes.honest on_wire.sound tied.own.config tied.own.start tied.own.random tied.own.past
                tied.own.came (were_sent log (other_end from) tied.own.past tied.peer.past tied.out packet.space ranges
                acks_known);
            delivered = acks_delivered log (other_end from) tied.own.past tied.peer.past tied.out packet.space ranges
                acks_known (Arrive at now) packet.number packet.size items acked is.takes.within;
            arrives = arrival (New items acked) is is.takes.told (once_new log at now from tied.peer.past tied.own.past
                own.0 packet items acked wire sender is.takes.told (endings_by_ack packet.space acked) own.2 toward
                tied.wired on_wire);
            limited = threefold_at validated (event ∷ log) (other_end from) after there wire tied_new;
            window = tt;
            delay = tt;
            flight = exceeds_by (event ∷ log) tied_new.within;
            largest = tt;
            framed = record { packet = sent_as packet; sent = place; framed = is.takes.framed };
            newly = newly_is log (other_end from) packet.number packet.size at now items packet tied.own.past place
                on_wire.sound tied.logged.flight acked (is.takes.newly tied.own.config tied.own.start
                tied.own.random tied.own.past tied.own.came);
            samples = sampled_by_log acked is.takes.sampled;
          },
          tied_new,
        )

module _ {F Q R C K S M P : Type 0} {f : _} {c : _} {q : _} {m : _} {r : _} (at now : ℕ) (packet : WirePacket)
    (wire : List WirePacket) (within : at < length wire) (found : packet ≡ get_or wire at packet) where
  arrive_step : (from : End) → packet.from ≡ from → (fate : Fate) (here there after : Sender F Q R C K S M P f c q m r)
      → HearsPacket here after packet now fate
      → StepKeepsAt (other_end from) here there wire (Arrive at now)
      (Ok (Arrived (other_end from) packet.space packet.number packet.size fate)) after wire
  arrive_step from sender (New items acked) here there after is validated log tied = with_falls
      (new_step at now from packet wire within found sender here there after validated log tied items acked is)
      (λ falls. arrived_falls _ _ _ _ _ _ _ tied falls _ _ _ _ _ _ _ is.takes.finds)
  arrive_step from sender Duplicate here there after is validated log tied = with_falls
      (old_step at now from packet wire within found sender here there after validated log tied Duplicate is tt refl
      (λ space n never. true≢false (sym never)) tt tt)
      (λ falls. calm_falls _ _ _ _ _ _ _ tied falls _
      (HearsNumber now packet.size packet.space packet.number (Ok false) no_endings)
      (λ past after goes. goes.goes.congested) is.goes)
  arrive_step from sender (Dropped refusal) here there after is validated log tied = with_falls
      (old_step at now from packet wire within found sender here there after validated log tied (Dropped refusal) is tt
      refl (λ space n never. true≢false (sym never)) tt tt)
      (λ falls. calm_falls _ _ _ _ _ _ _ tied falls _
      (HearsNumber now packet.size packet.space packet.number (Err refusal) no_endings)
      (λ past after goes. goes.goes.congested) is.goes)

  -- a packet arrives at the end that did not send it
  pub arrives_at : (to : End) (fate : Fate) (client server client_after server_after : Sender F Q R C K S M P f c q m r)
      → to ≡ other_end packet.from
      → TurnsAt to (λ (old new : Sender F Q R C K S M P f c q m r). HearTurn old new packet now (Ok fate)) client server
      client_after server_after
      → ExchangeKept client server wire (Arrive at now)
      (Ok (Arrived to packet.space packet.number packet.size fate)) client_after server_after wire
  arrives_at to fate client server client_after server_after is =
      subst (λ (e : End).
      TurnsAt e (λ (old new : Sender F Q R C K S M P f c q m r). HearTurn old new packet now (Ok fate)) client server
      client_after server_after
      → ExchangeKept client server wire (Arrive at now)
      (Ok (Arrived e packet.space packet.number packet.size fate)) client_after server_after wire) (sym is)
      (by_turn (other_end packet.from)
      (λ (old new : Sender F Q R C K S M P f c q m r). HearTurn old new packet now (Ok fate)) wire wire (Arrive at now)
      (Ok (Arrived (other_end packet.from) packet.space packet.number packet.size fate))
      (λ here there after turn. arrive_step packet.from refl fate here there after turn)
      client server client_after server_after)

-- ---- something happens at one end

pub local_answer : (end : End) (step : LocalStep) (result : Result PairAnswer SenderError)
    → IfOk result (IsLocalAnswer step) → IsNoPacket (Local end step, result)
local_answer end (Expire now) (Ok (Sent number items eliciting window delay)) never = absurd never
local_answer end (Expire now) (Ok (Arrived to space number size fate)) never = absurd never
local_answer end (Late now) (Ok (Sent number items eliciting window delay)) never = absurd never
local_answer end (Late now) (Ok (Arrived to space number size fate)) never = absurd never
local_answer end step (Ok (Sent number items eliciting window delay)) never = absurd never
local_answer end step (Ok (Arrived to space number size fate)) never = absurd never
local_answer end step result answer = tt

none_silent : (event : PairEvent) → IsNoPacket event → IsSilent event
none_silent (step, Ok (Sent number items eliciting window delay)) none = absurd none
none_silent (step, Ok (Arrived to space number size fate)) none = absurd none
none_silent other none = tt

local_arrives : (log : PairLog) (end : End) (step : LocalStep) (result : Result PairAnswer SenderError)
    → IsNoPacket (Local end step, result) → ArrivesAsSent log (Local end step, result)
local_arrives log end step (Ok (Arrived to space number size fate)) none = absurd none
local_arrives log end step result none = tt

module _ {F Q R C K S M P : Type 0} {f : _} {c : _} {q : _} {m : _} {r : _} where
  local_step : (end : End) (step : LocalStep) (result : Result PairAnswer SenderError) (wire : List WirePacket)
      → IfOk result (IsLocalAnswer step) → (here there after : Sender F Q R C K S M P f c q m r)
      → Continues (GoesOn (local_turn step result)) here after × FindsByTimer step result here after
      → StepKeepsAt end here there wire (Local end step) result after wire
  local_step end step result wire answer here there after (goes, finds) validated log tied =
      let none = local_answer end step result answer in
      with_falls (silent_step end (Local end step) result (local_turn step result) (none_silent (Local end step, result)
      none)
      (local_moves log step result).heard (local_moves log step result).carries
      (local_moves log step result).unacked (λ log. local_adds log end step result none)
      (λ log. local_adds_not log end step result none) wire here there after goes validated log tied
      (local_arrives log end step result none))
      (λ falls. local_falls _ _ _ _ _ _ _ tied falls step result goes finds)

  pub local_step_at : (end : End) (step : LocalStep) (result : Result PairAnswer SenderError)
      (client server client_after server_after : Sender F Q R C K S M P f c q m r) (wire : List WirePacket)
      → TurnsAt end (λ (old new : Sender F Q R C K S M P f c q m r). Continues (GoesOn (local_turn step result)) old
      new) client server client_after server_after
      → TurnsAt end (FindsByTimer step result) client server client_after server_after
      → IfOk result (IsLocalAnswer step)
      → ExchangeKept client server wire (Local end step) result client_after server_after wire
  local_step_at end step result client server client_after server_after wire turns finds answer =
      by_turn end
      (λ (old new : Sender F Q R C K S M P f c q m r). Continues (GoesOn (local_turn step result)) old new
      × FindsByTimer step result old new) wire wire
      (Local end step) result (local_step end step result wire answer) client server client_after server_after
      (both_turns end _ _ turns finds)
    where
      both_turns : (end : End) (One Two : Sender F Q R C K S M P f c q m r → Sender F Q R C K S M P f c q m r → Type 0)
          → TurnsAt end One client server client_after server_after
          → TurnsAt end Two client server client_after server_after
          → TurnsAt end (λ old new. One old new × Two old new) client server client_after server_after
      both_turns Client One Two one two = ((one.0, two.0), one.1)
      both_turns Server One Two one two = ((one.0, two.0), one.1)

  -- ---- nothing is sent, and nothing arrives

  quiet_step : (end : End) (step : PairStep) (answer : Result PairAnswer SenderError) (wire : List WirePacket)
      → IsNoPacket (step, answer) → IsNotLocal step
      → ((log : PairLog) → wire_of log ≡ map sent_as wire → ArrivesAsSent log (step, answer))
      → (here there after : Sender F Q R C K S M P f c q m r) → Continues GoesOnQuietly here after
      → StepKeepsAt end here there wire step answer after wire
  quiet_step end step answer wire none other arrives here there after goes validated log tied =
      with_falls (silent_step end step answer quiet (none_silent (step, answer) none) refl refl
      (λ space n never. true≢false (sym never))
      (λ log. idle_adds log end step answer none other) (λ log. idle_adds log (other_end end) step answer none other)
      wire here there after goes validated log tied (arrives log tied.listed))
      (λ falls. calm_falls _ _ _ _ _ _ _ tied falls _ GoesOnQuietly
      (λ past after goes. goes.congested) goes)

  -- an end sends nothing
  pub held_turn : (end : End) (step : PairStep) (answer : Result PairAnswer SenderError)
      (client server client_after server_after : Sender F Q R C K S M P f c q m r) (wire wire_after : List WirePacket)
      → wire_after ≡ wire → IsNoPacket (step, answer) → IsNotLocal step
      → ((log : PairLog) → wire_of log ≡ map sent_as wire → ArrivesAsSent log (step, answer))
      → TurnsAt end (λ (old new : Sender F Q R C K S M P f c q m r). Continues GoesOnQuietly old new) client server
      client_after server_after → ExchangeKept client server wire step answer client_after server_after wire_after
  held_turn end step answer client server client_after server_after wire wire_after same none other arrives turns =
      subst (λ (all : List WirePacket). ExchangeKept client server wire step answer client_after server_after all) (sym
      same)
      (by_turn end (λ (old new : Sender F Q R C K S M P f c q m r). Continues GoesOnQuietly old new) wire wire step
      answer (quiet_step end step answer wire none other arrives) client server client_after server_after turns)

  -- nothing happens
  pub idle_step : (step : PairStep) (answer : Result PairAnswer SenderError)
      (client server : Sender F Q R C K S M P f c q m r) (wire wire_after : List WirePacket) → wire_after ≡ wire
      → IsNoPacket (step, answer) → IsNotLocal step
      → ((log : PairLog) → wire_of log ≡ map sent_as wire → ArrivesAsSent log (step, answer))
      → ExchangeKept client server wire step answer client server wire_after
  idle_step step answer client server wire wire_after same none other arrives =
      held_turn Client step answer client server client server wire wire_after same none other arrives
      (same_quietly client client refl, refl)

-- the wire has no packet at the position
pub beyond : (wire : List WirePacket) (log : PairLog) (at now : ℕ) → length wire ≤ at
    → wire_of log ≡ map sent_as wire → ArrivesAsSent log (Arrive at now, Ok Nothing)
beyond wire log at now past listed =
    let same = length-map wire sent_as in
    let long : length (wire_of log) ≡ length wire = ap (λ (all : List LoggedPacket). length all) listed ∙ same in
    omega (arith, long, past)
