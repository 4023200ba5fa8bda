-- What a step adds to the log, and what it adds to the past of an end, agree.
use Rattle.std.proofs.Common.{◌≡◌, ℕ, ◌+◌, ◌≤◌, ◌||◌, Bool, true, false, true≢false, List, ◌∷◌, Option, None, Some, Result, Ok, refl, sym, ap, subst, ◌∙◌, arith}
use Rattle.std.specs.Prelude.{if◌then◌else◌}
use Rattle.std.specs.Global.{Vec}
use Rattle.recovery_base.specs.declared.below.SpaceId.{SpaceId}
use Rattle.recovery_base.specs.Spaces.{same_space}
use Rattle.recovery_history.specs.History.{History}
use Rattle.recovery_sender.specs.declared.sender.SenderError.{SenderError}
use Rattle.recovery_pair.specs.declared.steps.AckOutcome.{AckOutcome}
use Rattle.recovery_pair.specs.declared.steps.End.{End}
use Rattle.recovery_pair.specs.declared.steps.End.TheVariants.{Client, Server}
use Rattle.recovery_pair.specs.declared.steps.Fate.{Fate}
use Rattle.recovery_pair.specs.declared.steps.Fate.TheVariants.{Dropped, Duplicate, New}
use Rattle.recovery_pair.specs.declared.steps.LocalStep.{LocalStep}
use Rattle.recovery_pair.specs.declared.steps.LocalStep.TheVariants.{AddressValidated, Discard, Expire}
use Rattle.recovery_pair.specs.declared.steps.PairAnswer.{PairAnswer}
use Rattle.recovery_pair.specs.declared.steps.PairAnswer.TheVariants.{Arrived, Done, Sent}
use Rattle.recovery_pair.specs.declared.steps.PairStep.{PairStep}
use Rattle.recovery_pair.specs.declared.steps.SentAck.{SentAck}
use Rattle.recovery_pair.specs.declared.steps.PairStep.TheVariants.{Arrive, Local, Send}
use Rattle.recovery_pair.specs.Congested.{Congestions, any_congestion, no_congestion}
use Rattle.recovery_pair.specs.Logs.{PairEvent, PairLog, bytes_arrived, bytes_sent, has_validated, is_eliciting, numbers_at, other_end, time_sent, was_discarded}
use Rattle.recovery_pair.specs.Flights.{Numbers, counted_if, ends_by_timer, flight_of, no_numbers as none_gone}
use Rattle.recovery_pair.specs.Pasts.{GoesOn, EndTurn, added, ending, endings_by_fate, hearing, is_of, losing, new_by, packet_leaving, quiet, with_eliciting, with_largest, with_number, with_time}
use Rattle.recovery_pair.specs.Promises.Delays.{largest_new}
use Rattle.recovery_pair.specs.Tied.{IsLogged, validated_first}
use Rattle.recovery_pair.specs.Turns.{local_turn, reply_of}
use Rattle.recovery_pair.proofs.GoingLaws.{at_most, no_less, no_more}

-- the bytes in flight of an end, except for those numbers that are gone
abbrev pub all_flight : End → Numbers → PairLog → ℕ
all_flight end = flight_of end (λ window. true)

-- a step adds this to what the log tells of an end
pub record Adds (turn : EndTurn) (end : End) (event : PairEvent) (log : PairLog) : Type 0 where
  pub came : (space : SpaceId) → numbers_at end space (event ∷ log) ≡ with_number space turn.came (numbers_at end space
      log)
  pub discarded : (space : SpaceId) → was_discarded end space (event ∷ log)
      ≡ (is_of space turn.discards || was_discarded end space log)
  pub validated : (first : Bool) → has_validated end first (event ∷ log)
      ≡ (turn.validates || has_validated end first log)
  pub arrived : turn.arrives + bytes_arrived end log ≤ bytes_arrived end (event ∷ log)
  pub left : bytes_sent end (event ∷ log) ≤ turn.leaves + bytes_sent end log
  pub largest : (space : SpaceId) → largest_new end space (event ∷ log)
      ≡ with_largest space turn.heard turn.at (largest_new end space log)
  pub times : (space : SpaceId) (n : ℕ) → time_sent end space n (event ∷ log)
      ≡ with_time space n turn.sends (time_sent end space n log)
  pub elicits : (space : SpaceId) (n : ℕ) → is_eliciting end space n (event ∷ log)
      ≡ with_eliciting space n turn.sends (is_eliciting end space n log)
  pub flight : (gone : Numbers) → all_flight end gone (event ∷ log)
      ≤ added turn.counts gone + all_flight end (λ space n. turn.ends space n || gone space n) log

pub logged_on : {Q S M P : Type 0} (validated : Bool) (log : PairLog) (event : PairEvent) (end : End) (first : Bool)
    (turn : EndTurn) (past after : History Q S M P) → Adds turn end event log → GoesOn turn past after
    → IsLogged validated log end first past → IsLogged validated (event ∷ log) end first after
logged_on validated log event end first turn past after adds goes logged = record {
  came = λ space. goes.came space ∙ ap (with_number space turn.came) (logged.came space) ∙ sym (adds.came space);
  discarded = λ space. goes.discarded space
      ∙ ap (λ (before : Bool). is_of space turn.discards || before) (logged.discarded space)
      ∙ sym (adds.discarded space);
  address = goes.validated first ∙ ap (λ (before : Bool). turn.validates || before) logged.address
      ∙ sym (adds.validated (validated_first end validated));
  arrived = let one = goes.arrived in let two = adds.arrived in let old = logged.arrived in
      omega (arith, one, two, old);
  left = let one = goes.left in let two = adds.left in let old = logged.left in omega (arith, one, two, old);
  largest = λ space. goes.largest space ∙ ap (with_largest space turn.heard turn.at) (logged.largest space)
      ∙ sym (adds.largest space);
  times = λ space n. goes.timed space n ∙ ap (with_time space n turn.sends) (logged.times space n)
      ∙ sym (adds.times space n);
  elicits = λ space n. goes.elicited space n ∙ ap (with_eliciting space n turn.sends) (logged.elicits space n)
      ∙ sym (adds.elicits space n);
  paths = goes.paths ∙ logged.paths;
  flight = λ gone. (
      let one = goes.flight gone in
      let two = adds.flight gone in
      let old = logged.flight (λ space n. turn.ends space n || gone space n) in
      omega (arith, one, two, old));
  silent = let one = goes.silent in let old = logged.silent in omega (arith, one, old);
}

none_counted : (rest : ℕ) → 0 + rest ≤ 0 + rest
none_counted rest = omega arith

-- ---- a packet is sent

module _ (log : PairLog) (there : SpaceId) (now size n : ℕ) (items : Vec ℕ) (eliciting : Bool) (window : Option ℕ)
    (delay : SentAck) where
  counted_here : (is_gone elicits : Bool) (rest : ℕ)
      → (if is_gone then 0 else counted_if elicits size) + rest ≤ (if is_gone then 0 else counted_if elicits size) +
      rest
  counted_here is_gone elicits rest = omega arith

  abbrev departure : End → PairEvent
  departure end = (Send end there now size, Ok (Sent n items eliciting window delay))

  sent_more : (end : End) → bytes_sent end (departure end ∷ log) ≡ size + bytes_sent end log
  sent_more Client = refl
  sent_more Server = refl

  sent_same : (end : End) → bytes_sent (other_end end) (departure end ∷ log) ≡ bytes_sent (other_end end) log
  sent_same Client = refl
  sent_same Server = refl

  flight_more : (end : End) (gone : Numbers) → all_flight end gone (departure end ∷ log)
      ≤ (if gone there n then 0 else counted_if eliciting size) + all_flight end gone log
  flight_more Client gone = counted_here (gone there n) eliciting (all_flight Client gone log)
  flight_more Server gone = counted_here (gone there n) eliciting (all_flight Server gone log)

  flight_same : (end : End) (gone : Numbers) → all_flight (other_end end) gone (departure end ∷ log)
      ≤ 0 + all_flight (other_end end) gone log
  flight_same Client gone = none_counted (all_flight Server gone log)
  flight_same Server gone = none_counted (all_flight Client gone log)

  time_here : (end : End) (space : SpaceId) (m : ℕ) → time_sent end space m (departure end ∷ log)
      ≡ with_time space m (Some (there, n, now, eliciting)) (time_sent end space m log)
  time_here Client space m = refl
  time_here Server space m = refl

  time_there : (end : End) (space : SpaceId) (m : ℕ)
      → time_sent (other_end end) space m (departure end ∷ log) ≡ time_sent (other_end end) space m log
  time_there Client space m = refl
  time_there Server space m = refl

  elicits_here : (end : End) (space : SpaceId) (m : ℕ) → is_eliciting end space m (departure end ∷ log)
      ≡ with_eliciting space m (Some (there, n, now, eliciting)) (is_eliciting end space m log)
  elicits_here Client space m = refl
  elicits_here Server space m = refl

  elicits_there : (end : End) (space : SpaceId) (m : ℕ)
      → is_eliciting (other_end end) space m (departure end ∷ log) ≡ is_eliciting (other_end end) space m log
  elicits_there Client space m = refl
  elicits_there Server space m = refl

  pub sending_adds : (end : End) (largest : Option ℕ)
      → Adds (packet_leaving size (counted_if eliciting size) eliciting there n largest now) end (departure end) log
  sending_adds end largest = record {
    came = λ space. refl;
    discarded = λ space. refl;
    validated = λ first. refl;
    arrived = no_less (bytes_arrived end log) (bytes_arrived end log) refl;
    left = at_most _ _ (sent_more end);
    largest = λ space. refl;
    times = time_here end;
    elicits = elicits_here end;
    flight = flight_more end;
  }

  pub sending_adds_not : (end : End) → Adds quiet (other_end end) (departure end) log
  sending_adds_not end = record {
    came = λ space. refl;
    discarded = λ space. refl;
    validated = λ first. refl;
    arrived = no_less (bytes_arrived (other_end end) log) (bytes_arrived (other_end end) log) refl;
    left = no_more _ _ (sent_same end);
    largest = λ space. refl;
    times = time_there end;
    elicits = elicits_there end;
    flight = flight_same end;
  }

-- ---- a packet arrives

module _ (log : PairLog) (at now : ℕ) (there : SpaceId) (n size : ℕ) where
  abbrev arrival : End → Fate → PairEvent
  arrival to fate = (Arrive at now, Ok (Arrived to there n size fate))

  -- what computes for each endpoint and fate
  each_arrival : (Holds : End → Fate → Type 0)
      → ((items : Vec ℕ) (acked : AckOutcome) → Holds Client (New items acked) × Holds Server (New items acked))
      → Holds Client Duplicate × Holds Server Duplicate
      → ((refusal : SenderError) → Holds Client (Dropped refusal) × Holds Server (Dropped refusal))
      → (to : End) (fate : Fate) → Holds to fate
  each_arrival Holds new old dropped Client (New items acked) = (new items acked).0
  each_arrival Holds new old dropped Client Duplicate = old.0
  each_arrival Holds new old dropped Client (Dropped refusal) = (dropped refusal).0
  each_arrival Holds new old dropped Server (New items acked) = (new items acked).1
  each_arrival Holds new old dropped Server Duplicate = old.1
  each_arrival Holds new old dropped Server (Dropped refusal) = (dropped refusal).1

  came_here : (space : SpaceId) (to : End) (fate : Fate) → numbers_at to space (arrival to fate ∷ log)
      ≡ with_number space (hearing now size there n (reply_of fate) (endings_by_fate there fate)).came
      (numbers_at to space log)
  came_here space = each_arrival (λ to fate. numbers_at to space (arrival to fate ∷ log)
      ≡ with_number space (hearing now size there n (reply_of fate) (endings_by_fate there fate)).came
      (numbers_at to space log)) (λ items acked. (refl, refl)) (refl, refl) (λ refusal. (refl, refl))

  came_there : (space : SpaceId) (to : End) (fate : Fate)
      → numbers_at (other_end to) space (arrival to fate ∷ log) ≡ numbers_at (other_end to) space log
  came_there space = each_arrival (λ to fate. numbers_at (other_end to) space (arrival to fate ∷ log)
      ≡ numbers_at (other_end to) space log) (λ items acked. (refl, refl)) (refl, refl) (λ refusal. (refl, refl))

  arrived_here : (to : End) (fate : Fate) → size + bytes_arrived to log ≤ bytes_arrived to (arrival to fate ∷ log)
  arrived_here Client fate = at_most (size + bytes_arrived Client log) (size + bytes_arrived Client log) refl
  arrived_here Server fate = at_most (size + bytes_arrived Server log) (size + bytes_arrived Server log) refl

  arrived_there : (to : End) (fate : Fate)
      → 0 + bytes_arrived (other_end to) log ≤ bytes_arrived (other_end to) (arrival to fate ∷ log)
  arrived_there Client fate = no_less (bytes_arrived Server log) (bytes_arrived Server log) refl
  arrived_there Server fate = no_less (bytes_arrived Client log) (bytes_arrived Client log) refl

  largest_here : (space : SpaceId) (to : End) (fate : Fate) → largest_new to space (arrival to fate ∷ log)
      ≡ with_largest space (new_by (there, n) (reply_of fate)) now (largest_new to space log)
  largest_here space = each_arrival (λ to fate. largest_new to space (arrival to fate ∷ log)
      ≡ with_largest space (new_by (there, n) (reply_of fate)) now (largest_new to space log))
      (λ items acked. (refl, refl)) (refl, refl) (λ refusal. (refl, refl))

  largest_there : (space : SpaceId) (to : End) (fate : Fate)
      → largest_new (other_end to) space (arrival to fate ∷ log) ≡ largest_new (other_end to) space log
  largest_there space = each_arrival (λ to fate. largest_new (other_end to) space (arrival to fate ∷ log)
      ≡ largest_new (other_end to) space log) (λ items acked. (refl, refl)) (refl, refl) (λ refusal. (refl, refl))

  ended_here : (gone : Numbers) (to : End) (fate : Fate) → all_flight to gone (arrival to fate ∷ log)
      ≡ all_flight to (λ space m. (endings_by_fate there fate).gone space m || gone space m) log
  ended_here gone = each_arrival (λ to fate. all_flight to gone (arrival to fate ∷ log)
      ≡ all_flight to (λ space m. (endings_by_fate there fate).gone space m || gone space m) log)
      (λ items acked. (refl, refl)) (refl, refl) (λ refusal. (refl, refl))

  ended_there : (gone : Numbers) (to : End) (fate : Fate) → all_flight (other_end to) gone (arrival to fate ∷ log)
      ≡ all_flight (other_end to) gone log
  ended_there gone = each_arrival (λ to fate. all_flight (other_end to) gone (arrival to fate ∷ log)
      ≡ all_flight (other_end to) gone log) (λ items acked. (refl, refl)) (refl, refl) (λ refusal. (refl, refl))

  pub arriving_adds : (to : End) (fate : Fate)
      → Adds (hearing now size there n (reply_of fate) (endings_by_fate there fate)) to (arrival to fate) log
  arriving_adds to fate = record {
    came = λ space. came_here space to fate;
    discarded = λ space. refl;
    validated = λ first. refl;
    arrived = arrived_here to fate;
    left = no_more (bytes_sent to log) (bytes_sent to log) refl;
    largest = λ space. largest_here space to fate;
    times = λ space m. refl;
    elicits = λ space m. refl;
    flight = λ gone. no_more _ _ (ended_here gone to fate);
  }

  pub arriving_adds_not : (to : End) (fate : Fate) → Adds quiet (other_end to) (arrival to fate) log
  arriving_adds_not to fate = record {
    came = λ space. came_there space to fate;
    discarded = λ space. refl;
    validated = λ first. refl;
    arrived = arrived_there to fate;
    left = no_more (bytes_sent (other_end to) log) (bytes_sent (other_end to) log) refl;
    largest = λ space. largest_there space to fate;
    times = λ space m. refl;
    elicits = λ space m. refl;
    flight = λ gone. no_more _ _ (ended_there gone to fate);
  }

-- ---- steps that report no packet

abbrev pub IsNoPacket : PairEvent → Type 0
IsNoPacket (step, Ok (Sent number items eliciting window delay)) = ⊥
IsNoPacket (step, Ok (Arrived to space number size fate)) = ⊥
IsNoPacket event = Unit {0}

abbrev pub IsNotLocal : PairStep → Type 0
IsNotLocal (Local end step) = ⊥
IsNotLocal step = Unit {0}

module _ (log : PairLog) (end : End) where
  no_numbers : (event : PairEvent) → IsNoPacket event → (space : SpaceId)
      → numbers_at end space (event ∷ log) ≡ numbers_at end space log
  no_numbers (step, Ok (Arrived to there number size fate)) none space = absurd none
  no_numbers event none space = refl

  none_arrived : (event : PairEvent) → IsNoPacket event → bytes_arrived end log ≡ bytes_arrived end (event ∷ log)
  none_arrived (step, Ok (Arrived to there number size fate)) none = absurd none
  none_arrived event none = refl

  none_left : (event : PairEvent) → IsNoPacket event → bytes_sent end (event ∷ log) ≡ bytes_sent end log
  none_left (Send from there now size, Ok (Sent number items eliciting window delay)) none = absurd none
  none_left event none = refl

  no_largest : (step : PairStep) (answer : Result PairAnswer SenderError) → IsNoPacket (step, answer)
      → (space : SpaceId) → largest_new end space ((step, answer) ∷ log) ≡ largest_new end space log
  no_largest (Arrive at now) (Ok (Arrived to there number size fate)) none space = absurd none
  no_largest step answer none space = refl

  no_time : (event : PairEvent) → IsNoPacket event → (space : SpaceId) (n : ℕ)
      → time_sent end space n (event ∷ log) ≡ time_sent end space n log
  no_time (Send from there now size, Ok (Sent number items eliciting window delay)) none space n = absurd none
  no_time event none space n = refl

  no_elicits : (event : PairEvent) → IsNoPacket event → (space : SpaceId) (n : ℕ)
      → is_eliciting end space n (event ∷ log) ≡ is_eliciting end space n log
  no_elicits (Send from there now size, Ok (Sent number items eliciting window delay)) none space n = absurd none
  no_elicits event none space n = refl

  none_ended : (step : PairStep) (answer : Result PairAnswer SenderError) → IsNoPacket (step, answer)
      → IsNotLocal step → (gone : Numbers) → all_flight end gone ((step, answer) ∷ log) ≡ all_flight end gone log
  none_ended (Local at step) answer none other gone = absurd other
  none_ended (Send from there now size) (Ok (Sent number items eliciting window delay)) none other gone = absurd none
  none_ended (Arrive at now) (Ok (Arrived to there number size fate)) none other gone = absurd none
  none_ended step answer none other gone = refl

  no_discard : (step : PairStep) (answer : Result PairAnswer SenderError) → IsNotLocal step → (space : SpaceId)
      → was_discarded end space ((step, answer) ∷ log) ≡ was_discarded end space log
  no_discard (Local at step) answer none space = absurd none
  no_discard step answer none space = refl

  no_validation : (step : PairStep) (answer : Result PairAnswer SenderError) → IsNotLocal step → (first : Bool)
      → has_validated end first ((step, answer) ∷ log) ≡ has_validated end first log
  no_validation (Local at step) answer none first = absurd none
  no_validation step answer none first = refl

  pub idle_adds : (step : PairStep) (answer : Result PairAnswer SenderError) → IsNoPacket (step, answer)
      → IsNotLocal step → Adds quiet end (step, answer) log
  idle_adds step answer none other = record {
    came = no_numbers (step, answer) none;
    discarded = no_discard step answer other;
    validated = no_validation step answer other;
    arrived = no_less _ _ (none_arrived (step, answer) none);
    left = no_more _ _ (none_left (step, answer) none);
    largest = no_largest step answer none;
    times = no_time (step, answer) none;
    elicits = no_elicits (step, answer) none;
    flight = λ gone. no_more _ _ (none_ended step answer none other gone);
  }

-- ---- something happens at one end

module _ (log : PairLog) where
  discards_here : (end : End) (step : LocalStep) (answer : Result PairAnswer SenderError) (space : SpaceId)
      → was_discarded end space ((Local end step, answer) ∷ log)
      ≡ (is_of space (local_turn step answer).discards || was_discarded end space log)
  discards_here Client (Discard there now) (Ok Done) space = refl
  discards_here Server (Discard there now) (Ok Done) space = refl
  discards_here end (Discard there now) answer space = refl
  discards_here end AddressValidated (Ok Done) space = refl
  discards_here end AddressValidated answer space = refl
  discards_here end step answer space = refl

  discards_there : (end : End) (step : LocalStep) (answer : Result PairAnswer SenderError) (space : SpaceId)
      → was_discarded (other_end end) space ((Local end step, answer) ∷ log) ≡ was_discarded (other_end end) space log
  discards_there Client (Discard there now) (Ok Done) space = refl
  discards_there Server (Discard there now) (Ok Done) space = refl
  discards_there end (Discard there now) answer space = refl
  discards_there end step answer space = refl

  validates_here : (end : End) (step : LocalStep) (answer : Result PairAnswer SenderError) (first : Bool)
      → has_validated end first ((Local end step, answer) ∷ log)
      ≡ ((local_turn step answer).validates || has_validated end first log)
  validates_here Client AddressValidated (Ok Done) first = refl
  validates_here Server AddressValidated (Ok Done) first = refl
  validates_here end AddressValidated answer first = refl
  validates_here end (Discard there now) (Ok Done) first = refl
  validates_here end (Discard there now) answer first = refl
  validates_here end step answer first = refl

  validates_there : (end : End) (step : LocalStep) (answer : Result PairAnswer SenderError) (first : Bool)
      → has_validated (other_end end) first ((Local end step, answer) ∷ log) ≡ has_validated (other_end end) first log
  validates_there Client AddressValidated (Ok Done) first = refl
  validates_there Server AddressValidated (Ok Done) first = refl
  validates_there end AddressValidated answer first = refl
  validates_there end step answer first = refl

  ends_here : (end : End) (step : LocalStep) (answer : Result PairAnswer SenderError) → IsNoPacket (
    Local end step,
    answer,
  )
      → (gone : Numbers) → all_flight end gone ((Local end step, answer) ∷ log)
      ≡ all_flight end (λ space n. (local_turn step answer).ends space n || gone space n) log
  ends_here end step (Ok (Arrived to there number size fate)) none gone = absurd none
  ends_here Client (Discard there now) (Ok Done) none gone = refl
  ends_here Server (Discard there now) (Ok Done) none gone = refl
  ends_here end (Discard there now) answer none gone = refl
  ends_here Client (Expire now) answer none gone = refl
  ends_here Server (Expire now) answer none gone = refl
  ends_here end AddressValidated (Ok Done) none gone = refl
  ends_here end AddressValidated answer none gone = refl
  ends_here end step answer none gone = refl

  ends_there : (end : End) (step : LocalStep) (answer : Result PairAnswer SenderError)
      → IsNoPacket (Local end step, answer) → (gone : Numbers)
      → all_flight (other_end end) gone ((Local end step, answer) ∷ log) ≡ all_flight (other_end end) gone log
  ends_there end step (Ok (Arrived to there number size fate)) none gone = absurd none
  ends_there Client (Discard there now) (Ok Done) none gone = refl
  ends_there Server (Discard there now) (Ok Done) none gone = refl
  ends_there end (Discard there now) answer none gone = refl
  ends_there Client (Expire now) answer none gone = refl
  ends_there Server (Expire now) answer none gone = refl
  ends_there end step answer none gone = refl

  -- it moves no packet
  pub record MovesNone (turn : EndTurn) : Type 0 where
    pub came : turn.came ≡ None
    pub heard : turn.heard ≡ None
    pub arrives : turn.arrives ≡ 0
    pub leaves : turn.leaves ≡ 0
    pub counts : turn.counts ≡ None
    pub carries : turn.carries ≡ None
    pub sends : turn.sends ≡ None
    pub unacked : (space : SpaceId) (n : ℕ) → turn.acks space n ≡ true → ⊥

  -- it discards a space, validates an address, or has packets declared lost
  abbrev changing : Option SpaceId → Bool → Numbers → Congestions → EndTurn
  changing discards validates gone congests =
      record (ending (losing gone)) { discards = discards; validates = validates; congests = congests }

  moves : (discards : Option SpaceId) (validates : Bool) (gone : Numbers) (congests : Congestions)
      → MovesNone (changing discards validates gone congests)
  moves discards validates gone congests = record {
    came = refl;
    heard = refl;
    arrives = refl;
    leaves = refl;
    counts = refl;
    carries = refl;
    sends = refl;
    unacked = λ space n never. true≢false (sym never);
  }

  pub quiet_moves : MovesNone quiet
  quiet_moves = moves None false none_gone no_congestion

  pub local_moves : (step : LocalStep) (answer : Result PairAnswer SenderError) → MovesNone (local_turn step answer)
  local_moves (Discard there now) (Ok Done) = moves (Some there) false (λ space n. same_space there space)
      no_congestion
  local_moves (Discard there now) answer = quiet_moves
  local_moves AddressValidated (Ok Done) = moves None true none_gone no_congestion
  local_moves AddressValidated answer = quiet_moves
  local_moves (Expire now) answer = moves None false (ends_by_timer answer) any_congestion
  local_moves step answer = quiet_moves

  added_none : (counts : Option (SpaceId × ℕ × ℕ)) (gone : Numbers) → counts ≡ None → added counts gone ≡ 0
  added_none counts gone none = subst (λ (one : Option (SpaceId × ℕ × ℕ)). added one gone ≡ 0) (sym none) refl

  none_heard : (space : SpaceId) (number : Option (SpaceId × ℕ)) (now : ℕ) (before : Option (ℕ × ℕ)) → number ≡ None
      → with_largest space number now before ≡ before
  none_heard space number now before none =
      subst (λ (one : Option (SpaceId × ℕ)). with_largest space one now before ≡ before) (sym none) refl

  with_none : (space : SpaceId) (number : Option (SpaceId × ℕ)) (before : List ℕ) → number ≡ None
      → with_number space number before ≡ before
  with_none space number before none =
      subst (λ (one : Option (SpaceId × ℕ)). with_number space one before ≡ before) (sym none) refl

  untimed : (space : SpaceId) (n : ℕ) (sends : Option (SpaceId × ℕ × ℕ × Bool)) (before : ℕ) → sends ≡ None
      → with_time space n sends before ≡ before
  untimed space n sends before none =
      subst (λ (one : Option (SpaceId × ℕ × ℕ × Bool)). with_time space n one before ≡ before) (sym none) refl

  unelicited : (space : SpaceId) (n : ℕ) (sends : Option (SpaceId × ℕ × ℕ × Bool)) (before : Bool) → sends ≡ None
      → with_eliciting space n sends before ≡ before
  unelicited space n sends before none =
      subst (λ (one : Option (SpaceId × ℕ × ℕ × Bool)). with_eliciting space n one before ≡ before) (sym none) refl

  pub local_adds : (end : End) (step : LocalStep) (answer : Result PairAnswer SenderError)
      → IsNoPacket (Local end step, answer) → Adds (local_turn step answer) end (Local end step, answer) log
  local_adds end step answer none =
      let moves = local_moves step answer in
      record {
        came = λ space. no_numbers log end (Local end step, answer) none space
            ∙ sym (with_none space (local_turn step answer).came (numbers_at end space log) moves.came);
        discarded = discards_here end step answer;
        validated = validates_here end step answer;
        arrived = let is = moves.arrives in let same = none_arrived log end (Local end step, answer) none in
            omega (arith, is, same);
        left = let is = moves.leaves in let same = none_left log end (Local end step, answer) none in
            omega (arith, is, same);
        largest = λ space. no_largest log end (Local end step) answer none space
            ∙ sym (none_heard space (local_turn step answer).heard (local_turn step answer).at
            (largest_new end space log) moves.heard);
        times = λ space n. no_time log end (Local end step, answer) none space n
            ∙ sym (untimed space n (local_turn step answer).sends (time_sent end space n log) moves.sends);
        elicits = λ space n. no_elicits log end (Local end step, answer) none space n
            ∙ sym (unelicited space n (local_turn step answer).sends (is_eliciting end space n log) moves.sends);
        flight = λ gone. (
            let none_added = added_none (local_turn step answer).counts gone moves.counts in
            let same = ends_here end step answer none gone in omega (arith, none_added, same));
      }

  pub local_adds_not : (end : End) (step : LocalStep) (answer : Result PairAnswer SenderError)
      → IsNoPacket (Local end step, answer) → Adds quiet (other_end end) (Local end step, answer) log
  local_adds_not end step answer none = record {
    came = no_numbers log (other_end end) (Local end step, answer) none;
    discarded = discards_there end step answer;
    validated = validates_there end step answer;
    arrived = no_less _ _ (none_arrived log (other_end end) (Local end step, answer) none);
    left = no_more _ _ (none_left log (other_end end) (Local end step, answer) none);
    largest = no_largest log (other_end end) (Local end step) answer none;
    times = no_time log (other_end end) (Local end step, answer) none;
    elicits = no_elicits log (other_end end) (Local end step, answer) none;
    flight = λ gone. no_more _ _ (ends_there end step answer none gone);
  }
