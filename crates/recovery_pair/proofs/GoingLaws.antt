-- An event continues a past.
use Rattle.std.proofs.Common.{◌≡◌, ℕ, ◌+◌, ◌<◌, ◌≤◌, ◌⊎◌, inl, inr, ◌&&◌, ◌||◌, ◌==◌, nat_eq, nat_lt, nat_le, Bool, true, false, List, [], ◌∷◌, ◌++◌, append_assoc, Option, None, Some, Result, Ok, Err, IsSomeAnd, refl, sym, ap, subst, ◌∙◌, arith, true≢false}
use Rattle.std.specs.Prelude.{if◌then◌else◌, sum_by}
use Rattle.std.proofs.lemmas.Bool.{cases_lt}
use Rattle.std.specs.List.{AllByRecursion, list_all}
use Rattle.std.specs.Set.{is_member}
use Rattle.std.proofs.lemmas.Bool.Decides.{nat_tests}
use Rattle.std.proofs.lemmas.List.Sums.{sum_by-cons}
use Rattle.recovery_base.specs.declared.below.SpaceId.{SpaceId}
use Rattle.recovery_base.specs.Spaces.{same_space}
use Rattle.recovery_base.specs.Units.{number_limit}
use Rattle.recovery_events.specs.declared.event.Answer.{Answer}
use Rattle.recovery_events.specs.declared.event.Answer.TheVariants.{Delayed, Duplicate, New, Sent, Transmitted}
use Rattle.recovery_events.specs.declared.event.Event.{Event}
use Rattle.recovery_events.specs.declared.event.Event.TheVariants.{Acked, Congestion, DatagramIn, DiscardSpace, DropPrevious, Lost, NewPath, PollMtu, Received, ResetPath, RevertPath, Send, Transmit, Validated}
use Rattle.recovery_events.specs.declared.event.Refusal.{Refusal}
use Rattle.recovery_events.specs.declared.event.Refusal.TheVariants.{NoMemory, NumberTooLarge, SpaceDiscarded}
use Rattle.recovery_paths.specs.declared.path_pair.PathName.TheVariants.{Current}
use Rattle.recovery_history.specs.History.{History, Reply}
use Rattle.recovery_history.specs.Promises.Acknowledged.{WasReceived, largest_in}
use Rattle.recovery_history.specs.Promises.Datagrams.{bytes_in, bytes_out, datagrams_on, is_validated}
use Rattle.recovery_history.specs.Promises.Fates.{HaveOneOutcome, is_given, more_if, times}
use Rattle.recovery_history.specs.Promises.Forgotten.{ForgetsOldestNonEliciting}
use Rattle.recovery_history.specs.Promises.NewNumbers.{came_in, is_discarded, is_new, DetectsDuplicates, IsReceiveReply}
use Rattle.recovery_history.specs.Promises.Increasing.{NumbersIncrease}
use Rattle.recovery_history.specs.Promises.Paths.{generations, paths_made}
use Rattle.recovery_history.specs.Promises.Tracked.{goes_out, leaves}
use Rattle.recovery_history.proofs.TrackedLaws.{one_space}
use Rattle.recovery_sender.specs.Promises.Lost.{elicits_by, sent_at}
use Rattle.recovery_sender.specs.declared.sender.SenderError.{SenderError}
use Rattle.recovery_sender.specs.declared.sender.SenderError.TheVariants as refused
use Rattle.recovery_pair.specs.Congested.{Congestions, IsCongestedBy}
use Rattle.recovery_pair.specs.Flights.{Numbers, counted_if, no_numbers}
use Rattle.recovery_pair.specs.Pasts.{AcksBelow, Came, EndTurn, Endings, GoesOn, GoesOnQuietly, HearsNumber, IsHeardBy, KeepsLargest, SendsNumber, WasSentUnder, added, arriving, bytes_received, bytes_transmitted, discarding, ending, flight_in, hearing, is_of, largest_came, leaving, no_endings, packet_leaving, quiet, silent_bytes, validating, with_carried, with_eliciting, with_largest, with_number, with_time}
use Rattle.recovery_pair.proofs.FlightLaws.{flight_event, flight_less, gone_again, or_gone, sent_leaves, zero_more}
use Rattle.recovery_pair.proofs.TopLaws.{acked_top, received_top}

-- it is no receipt, no datagram, and changes neither spaces nor paths
abbrev pub IsQuietEvent : {Q S M P : Type 0} → Event Q S M P → Type 0
IsQuietEvent (Received space now number eliciting) = ⊥
IsQuietEvent (DatagramIn path bytes) = ⊥
IsQuietEvent (Transmit now bytes checked) = ⊥
IsQuietEvent (DiscardSpace space) = ⊥
IsQuietEvent (Validated path) = ⊥
IsQuietEvent (NewPath now remote is_fresh) = ⊥
IsQuietEvent (ResetPath now) = ⊥
IsQuietEvent RevertPath = ⊥
IsQuietEvent event = Unit {0}

-- and no packet is sent; no other packets than these are acknowledged or lost, and no other congestion is found
abbrev pub IsEndingEvent : {Q S M P : Type 0} → Endings → Event Q S M P → Reply Q → Type 0
IsEndingEvent ends (Acked space now number limited) reply =
    (ends.gone space number ≡ true) × (ends.acked space number ≡ true)
IsEndingEvent ends (Lost space number) (Ok answer) = ends.gone space number ≡ true
IsEndingEvent ends (Lost space number) (Err refusal) = Unit {0}
IsEndingEvent ends (Send space now size eliciting largest queue frames) (Ok answer) = ⊥
IsEndingEvent ends (Send space now size eliciting largest queue frames) (Err refusal) = Unit {0}
IsEndingEvent ends (PollMtu now) reply = ⊥
IsEndingEvent ends (Congestion found sent persistent bytes) reply = ends.congests found sent ≡ true
IsEndingEvent ends event reply = IsQuietEvent event

pub ending_quiet : {Q S M P : Type 0} (ends : Endings) (event : Event Q S M P) (reply : Reply Q)
    → IsEndingEvent ends event reply → IsQuietEvent event
ending_quiet ends (Acked space now number limited) reply is = tt
ending_quiet ends (Lost space number) reply is = tt
ending_quiet ends (Send space now size eliciting largest queue frames) reply is = tt
ending_quiet ends (PollMtu now) reply is = tt
ending_quiet ends (Congestion found sent persistent bytes) reply is = tt
ending_quiet ends event reply is = is

-- what a number ends by
number_ends : (ends : Numbers) (there space : SpaceId) (number n : ℕ) → ends there number ≡ true
    → (same_space there space && number == n) ≡ true → ends space n ≡ true
number_ends ends there space number n is same =
    let here : there ≡ space = one_space there space (grind (arith, nat_tests, same)) in
    let equal : number ≡ n = grind (arith, nat_tests, same) in
    rw (← here, ← equal) is

-- ---- one event

more : (happens : Bool) (k : ℕ) → 0 < k → 0 < more_if happens k
more true k some = omega (arith, some)
more false k some = some

now_some : (happens : Bool) (k : ℕ) → happens ≡ true → 0 < more_if happens k
now_some true k is = omega arith
now_some false k is = absurd (true≢false (sym is))

pub itself : (n : ℕ) (more : List ℕ) → is_member nat_eq (n ∷ more) n ≡ true
itself n more = grind (arith, nat_tests)

still : (n m : ℕ) (more : List ℕ) → is_member nat_eq more n ≡ true → is_member nat_eq (m ∷ more) n ≡ true
still n m more is = grind (arith, nat_tests, is)

pub same_itself : (space : SpaceId) → same_space space space ≡ true
same_itself space = grind arith

-- a number that came stays so
member_if : (same : Bool) (n m : ℕ) (before : List ℕ) → is_member nat_eq before n ≡ true
    → is_member nat_eq (if same then m ∷ before else before) n ≡ true
member_if true n m before is = still n m before is
member_if false n m before is = is

member_with : (space : SpaceId) (n : ℕ) (number : Option (SpaceId × ℕ)) (before : List ℕ)
    → is_member nat_eq before n ≡ true → is_member nat_eq (with_number space number before) n ≡ true
member_with space n None before is = is
member_with space n (Some number) before is = member_if (same_space number.0 space) n number.1 before is

module _ {Q S M P : Type 0} (past : History Q S M P) where
  given_on : (space : SpaceId) (n : ℕ) (event : Event Q S M P) (reply : Reply Q) → WasSentUnder space n past
      → WasSentUnder space n ((event, reply) ∷ past)
  given_on space n event reply = more (goes_out (event, reply) space n) (times (is_given space n) past)

  received_before : (space : SpaceId) (n : ℕ) (event : Event Q S M P) (reply : Reply Q) → IsQuietEvent event
      → WasReceived space n ((event, reply) ∷ past) → WasReceived space n past
  received_before space n (Received there now m eliciting) reply calm was = absurd calm
  received_before space n event reply calm was = was

  came_before : (space : SpaceId) (event : Event Q S M P) (reply : Reply Q) → IsQuietEvent event
      → came_in space ((event, reply) ∷ past) ≡ came_in space past
  came_before space (Received there now m eliciting) reply calm = absurd calm
  came_before space event reply calm = refl

  discarded_before : (space : SpaceId) (event : Event Q S M P) (reply : Reply Q) → IsQuietEvent event
      → is_discarded space ((event, reply) ∷ past) ≡ is_discarded space past
  discarded_before space (DiscardSpace there) reply calm = absurd calm
  discarded_before space event reply calm = refl

  validated_before : (first : Bool) (event : Event Q S M P) (reply : Reply Q) → IsQuietEvent event
      → is_validated first Current ((event, reply) ∷ past) ≡ is_validated first Current past
  validated_before first (NewPath now remote is_fresh) reply calm = absurd calm
  validated_before first RevertPath reply calm = absurd calm
  validated_before first (Validated path) reply calm = absurd calm
  validated_before first event reply calm = refl

  datagrams_before : (event : Event Q S M P) (reply : Reply Q) → IsQuietEvent event
      → datagrams_on Current ((event, reply) ∷ past) ≡ datagrams_on Current past
  datagrams_before (NewPath now remote is_fresh) reply calm = absurd calm
  datagrams_before RevertPath reply calm = absurd calm
  datagrams_before (DatagramIn path bytes) reply calm = absurd calm
  datagrams_before (Transmit now bytes checked) reply calm = absurd calm
  datagrams_before event reply calm = refl

  largest_before : (space : SpaceId) (event : Event Q S M P) (reply : Reply Q) → IsQuietEvent event
      → largest_came space ((event, reply) ∷ past) ≡ largest_came space past
  largest_before space (Received there now m eliciting) reply calm = absurd calm
  largest_before space event reply calm = refl

  generation_before : (event : Event Q S M P) (reply : Reply Q) → IsQuietEvent event
      → (generations ((event, reply) ∷ past)).current ≡ (generations past).current
  generation_before (NewPath now remote is_fresh) reply calm = absurd calm
  generation_before RevertPath reply calm = absurd calm
  generation_before DropPrevious (Ok answer) calm = refl
  generation_before DropPrevious (Err refusal) calm = refl
  generation_before event reply calm = refl

  ends_by : (ends : Endings) (event : Event Q S M P) (reply : Reply Q) → IsEndingEvent ends event reply
      → (space : SpaceId) (n : ℕ) → leaves (event, reply) space n ≡ true → ends.gone space n ≡ true
  ends_by ends (Acked there now number limited) (Ok answer) is space n leave =
      number_ends ends.gone there space number n is.0 leave
  ends_by ends (Acked there now number limited) (Err refusal) is space n leave = absurd (true≢false (sym leave))
  ends_by ends (Lost there number) (Ok answer) is space n leave = number_ends ends.gone there space number n is leave
  ends_by ends (Lost there number) (Err refusal) is space n leave = absurd (true≢false (sym leave))
  ends_by ends (Send there now size eliciting largest queue frames) (Ok answer) is space n leave = absurd is
  ends_by ends (Send there now size eliciting largest queue frames) (Err refusal) is space n leave =
      absurd (true≢false (sym leave))
  ends_by ends (DiscardSpace there) reply is space n leave = absurd is
  ends_by ends event reply is space n leave = absurd (true≢false (sym leave))

  carried_before : (ends : Endings) (event : Event Q S M P) (reply : Reply Q) → IsEndingEvent ends event reply
      → (space : SpaceId) (n : ℕ) → largest_in space n ((event, reply) ∷ past) ≡ largest_in space n past
  carried_before ends (Send there now size eliciting largest queue frames) (Ok answer) is space n = absurd is
  carried_before ends (Send there now size eliciting largest queue frames) (Err refusal) is space n = refl
  carried_before ends (PollMtu now) reply is space n = absurd is
  carried_before ends event reply is space n = refl

  time_before : (ends : Endings) (event : Event Q S M P) (reply : Reply Q) → IsEndingEvent ends event reply
      → (space : SpaceId) (n : ℕ) → sent_at space ((event, reply) ∷ past) n ≡ sent_at space past n
  time_before ends (Send there now size eliciting largest queue frames) (Ok answer) is space n = absurd is
  time_before ends (Send there now size eliciting largest queue frames) (Err refusal) is space n = refl
  time_before ends (PollMtu now) reply is space n = absurd is
  time_before ends event reply is space n = refl

  elicits_before : (ends : Endings) (event : Event Q S M P) (reply : Reply Q) → IsEndingEvent ends event reply
      → (space : SpaceId) (n : ℕ) → elicits_by space ((event, reply) ∷ past) n ≡ elicits_by space past n
  elicits_before ends (Send there now size eliciting largest queue frames) (Ok answer) is space n = absurd is
  elicits_before ends (Send there now size eliciting largest queue frames) (Err refusal) is space n = refl
  elicits_before ends (PollMtu now) reply is space n = absurd is
  elicits_before ends event reply is space n = refl

  paths_before : (event : Event Q S M P) (reply : Reply Q) → IsQuietEvent event
      → paths_made ((event, reply) ∷ past) ≡ paths_made past
  paths_before (NewPath now remote is_fresh) reply calm = absurd calm
  paths_before event reply calm = refl

  top_before : (ends : Endings) (event : Event Q S M P) (reply : Reply Q) → IsEndingEvent ends event reply
      → (space : SpaceId) → AcksBelow ends.acked space past ((event, reply) ∷ past) → KeepsLargest space past
      → KeepsLargest space ((event, reply) ∷ past)
  top_before ends (Received there now m eliciting) reply is space below keeps = absurd is
  top_before ends (Acked there now number limited) (Ok answer) is space below keeps =
      acked_top past space keeps there now number limited answer
      (λ l here. below number l (rw (← one_space there space here) is.1))
  top_before ends (Acked there now number limited) (Err refusal) is space below keeps = keeps
  top_before ends event reply is space below keeps = keeps

  silent_before : (ends : Endings) (event : Event Q S M P) (reply : Reply Q) → IsEndingEvent ends event reply
      → silent_bytes ((event, reply) ∷ past) ≡ silent_bytes past
  silent_before ends (Send there now size eliciting largest queue frames) (Ok answer) is = absurd is
  silent_before ends (Send there now size eliciting largest queue frames) (Err refusal) is = refl
  silent_before ends event reply is = refl

  congested_before : (ends : Endings) (event : Event Q S M P) (reply : Reply Q) → IsEndingEvent ends event reply
      → IsCongestedBy ends.congests event
  congested_before ends (Congestion found sent persistent bytes) reply is = is
  congested_before ends (NewPath now remote is_fresh) reply is = absurd is
  congested_before ends (ResetPath now) reply is = absurd is
  congested_before ends RevertPath reply is = absurd is
  congested_before ends event reply is = tt

  -- a received number came before, or is this one
  received_here : (space : SpaceId) (n : ℕ) (there : SpaceId) (now m : ℕ) (eliciting arm : Bool)
      → WasReceived space n ((Received there now m eliciting, Ok (New arm)) ∷ past)
      → WasReceived space n past ⊎ ◌≡◌ {A = Option (SpaceId × ℕ)} (Some (there, m)) (Some (space, n))
  received_here space n there now m eliciting arm (inl here) =
      let same = one_space there space (grind (arith, nat_tests, here)) in
      let equal : m ≡ n = grind (arith, nat_tests, here) in inr (rw (same, equal) refl)
  received_here space n there now m eliciting arm (inr before) = inl before

-- ---- one past goes on to another

pub at_most : (a b : ℕ) → a ≡ b → a ≤ b
at_most a b same = omega (arith, same)

pub no_more : (a b : ℕ) → a ≡ b → a ≤ 0 + b
no_more a b same = omega (arith, same)

pub no_less : (a b : ℕ) → a ≡ b → 0 + a ≤ b
no_less a b same = omega (arith, same)

module _ {Q S M P : Type 0} where
  pub came_on : (turn : EndTurn) (past after : History Q S M P) → GoesOn turn past after → (space : SpaceId) (n : ℕ)
      → Came space n past → Came space n after
  came_on turn past after goes space n is =
      rw (goes.came space) (member_with space n turn.came (came_in space past) is)

  -- one event, by what it changes
  event_on : (turn : EndTurn) (past : History Q S M P) (event : Event Q S M P) (reply : Reply Q)
      → (let after = (event, reply) ∷ past in
      ((space : SpaceId) → came_in space after ≡ with_number space turn.came (came_in space past))
      → ((space : SpaceId) (n : ℕ) → WasReceived space n after
      → WasReceived space n past ⊎ (turn.heard ≡ Some (space, n)))
      → bytes_received after ≤ turn.arrives + bytes_received past
      → turn.leaves + bytes_transmitted past ≤ bytes_transmitted after
      → ((space : SpaceId) → is_discarded space after ≡ (is_of space turn.discards || is_discarded space past))
      → ((first : Bool) → is_validated first Current after ≡ (turn.validates || is_validated first Current past))
      → ((space : SpaceId) → largest_came space after
      ≡ with_largest space turn.heard turn.at (largest_came space past))
      → ((gone : Numbers) → added turn.counts gone
      + flight_in (λ space n. turn.ends space n || gone space n) past ≤ flight_in gone after)
      → ((space : SpaceId) (n : ℕ) → largest_in space n after
      ≡ with_carried space n turn.carries (largest_in space n past))
      → ((space : SpaceId) (n : ℕ) → sent_at space after n ≡ with_time space n turn.sends (sent_at space past n))
      → ((space : SpaceId) (n : ℕ) → elicits_by space after n
      ≡ with_eliciting space n turn.sends (elicits_by space past n))
      → paths_made after ≡ paths_made past
      → ((space : SpaceId) → AcksBelow turn.acks space past after → KeepsLargest space past
      → KeepsLargest space after)
      → silent_bytes after ≡ silent_bytes past → IsCongestedBy turn.congests event
      → GoesOn turn past after)
  event_on turn past event reply came heard arrived left discarded validated largest flight carried timed elicited paths
      topped silent congested =
      record {
        given = λ space n. given_on past space n event reply;
        came = came;
        heard = heard;
        arrived = arrived;
        left = left;
        discarded = discarded;
        validated = validated;
        largest = largest;
        flight = flight;
        carried = carried;
        timed = timed;
        elicited = elicited;
        paths = paths;
        topped = topped;
        silent = at_most _ _ silent;
        congested = ((event, reply) ∷ [], refl, (congested, tt));
      }

  pub ending_none : (ends : Endings) (past : History Q S M P) → GoesOn (ending ends) past past
  ending_none ends past = record {
    given = λ space n is. is;
    came = λ space. refl;
    heard = λ space n was. inl was;
    arrived = no_more (bytes_received past) (bytes_received past) refl;
    left = no_less (bytes_transmitted past) (bytes_transmitted past) refl;
    discarded = λ space. refl;
    validated = λ first. refl;
    largest = λ space. refl;
    flight = λ gone. zero_more _ _ (flight_less (λ space n. ends.gone space n || gone space n) gone past
        (λ space n is. or_gone (ends.gone space n) (gone space n) is));
    carried = λ space n. refl;
    timed = λ space n. refl;
    elicited = λ space n. refl;
    paths = refl;
    topped = λ space below keeps. keeps;
    silent = at_most (silent_bytes past) (silent_bytes past) refl;
    congested = ([], refl, tt);
  }

  pub quiet_none : (past : History Q S M P) → GoesOnQuietly past past
  quiet_none = ending_none no_endings

  pub ending_event : (ends : Endings) (past : History Q S M P) (event : Event Q S M P) (reply : Reply Q)
      → IsEndingEvent ends event reply → GoesOn (ending ends) past ((event, reply) ∷ past)
  ending_event ends past event reply is =
      let calm = ending_quiet ends event reply is in
      event_on (ending ends) past event reply
      (λ space. came_before past space event reply calm)
      (λ space n was. inl (received_before past space n event reply calm was))
      (no_more (bytes_received ((event, reply) ∷ past)) (bytes_received past)
      (ap (sum_by bytes_in) (datagrams_before past event reply calm)))
      (no_less (bytes_transmitted past) (bytes_transmitted ((event, reply) ∷ past))
      (sym (ap (sum_by bytes_out) (datagrams_before past event reply calm))))
      (λ space. discarded_before past space event reply calm)
      (λ first. validated_before past first event reply calm)
      (λ space. largest_before past space event reply calm)
      (flight_event past event reply None ends.gone (generation_before past event reply calm) (λ gone. omega arith)
      (λ space n leave. inl (ends_by past ends event reply is space n leave)))
      (carried_before past ends event reply is) (time_before past ends event reply is)
      (elicits_before past ends event reply is) (paths_before past event reply calm)
      (top_before past ends event reply is) (silent_before past ends event reply is)
      (congested_before past ends event reply is)

-- ---- one turn after another

-- what reports no other congestion than some reports none but more
congested_event : {Q S M P : Type 0} (some more : Congestions)
    → ((found sent : ℕ) → some found sent ≡ true → more found sent ≡ true) → (event : Event Q S M P)
    → IsCongestedBy some event → IsCongestedBy more event
congested_event some more each (Congestion found sent persistent bytes) is = each found sent is
congested_event some more each (NewPath now remote is_fresh) is = absurd is
congested_event some more each (ResetPath now) is = absurd is
congested_event some more each RevertPath is = absurd is
congested_event some more each event is = tt

pub all_map : {T : Type 0} (P Q : T → Type 0) → ((one : T) → P one → Q one) → (all : List T) → AllByRecursion P all
    → AllByRecursion Q all
all_map P Q to [] each = tt
all_map P Q to (one ∷ all) each = (to one each.0, all_map P Q to all each.1)

all_append : {T : Type 0} (Holds : T → Type 0) (one two : List T) → AllByRecursion Holds one
    → AllByRecursion Holds two → AllByRecursion Holds (one ++ two)
all_append Holds [] two first second = second
all_append Holds (it ∷ one) two first second = (first.0, all_append Holds one two first.1 second)

-- two turns, one after the other, come to a third one: in bytes, in the packets that end, and in congestion
pub record Amounts (one two turn : EndTurn) : Type 0 where
  pub arrives : two.arrives + one.arrives ≤ turn.arrives
  pub leaves : turn.leaves ≤ two.leaves + one.leaves
  pub ended : (space : SpaceId) (n : ℕ) (gone : Bool) → (one.ends space n || (two.ends space n || gone)) ≡ true
      → (turn.ends space n || gone) ≡ true
  pub first : (space : SpaceId) (n : ℕ) → one.acks space n ≡ true
      → (turn.acks space n ≡ true) × (two.heard ≡ None)
  pub second : (space : SpaceId) (n : ℕ) → two.acks space n ≡ true
      → (turn.acks space n ≡ true) × (one.carries ≡ None)
  pub congests : (found sent : ℕ) → (one.congests found sent ≡ true → turn.congests found sent ≡ true)
      × (two.congests found sent ≡ true → turn.congests found sent ≡ true)

-- and in all else
pub record Follows (one two turn : EndTurn) : Type 0 where
  pub came : (space : SpaceId) (before : List ℕ) → with_number space two.came (with_number space one.came before)
      ≡ with_number space turn.came before
  pub heard : (space : SpaceId) (n : ℕ) → (one.heard ≡ Some (space, n)) ⊎ (two.heard ≡ Some (space, n))
      → turn.heard ≡ Some (space, n)
  pub discards : (space : SpaceId) (before : Bool) → (is_of space two.discards || (is_of space one.discards || before))
      ≡ (is_of space turn.discards || before)
  pub validates : (before : Bool) → (two.validates || (one.validates || before)) ≡ (turn.validates || before)
  pub largest : (space : SpaceId) (before : Option (ℕ × ℕ))
      → with_largest space two.heard two.at (with_largest space one.heard one.at before)
      ≡ with_largest space turn.heard turn.at before
  pub counted : (gone : Numbers) → added turn.counts gone
      ≤ added two.counts gone + added one.counts (λ space n. two.ends space n || gone space n)
  pub carried : (space : SpaceId) (n : ℕ) (before : Option ℕ)
      → with_carried space n two.carries (with_carried space n one.carries before)
      ≡ with_carried space n turn.carries before
  pub timed : (space : SpaceId) (n : ℕ) (before : ℕ)
      → with_time space n two.sends (with_time space n one.sends before) ≡ with_time space n turn.sends before
  pub elicited : (space : SpaceId) (n : ℕ) (before : Bool)
      → with_eliciting space n two.sends (with_eliciting space n one.sends before)
      ≡ with_eliciting space n turn.sends before

unheard_same : (space : SpaceId) (heard : Option (SpaceId × ℕ)) (now : ℕ) (before : Option (ℕ × ℕ)) → heard ≡ None
    → with_largest space heard now before ≡ before
unheard_same space heard now before none =
    subst (λ (one : Option (SpaceId × ℕ)). with_largest space one now before ≡ before) (sym none) refl

pub uncarried_same : (space : SpaceId) (n : ℕ) (carries : Option (SpaceId × ℕ × Option ℕ)) (before : Option ℕ)
    → carries ≡ None → with_carried space n carries before ≡ before
uncarried_same space n carries before none =
    subst (λ (one : Option (SpaceId × ℕ × Option ℕ)). with_carried space n one before ≡ before) (sym none) refl

module _ {Q S M P : Type 0} (one two turn : EndTurn) (past between after : History Q S M P)
    (amounts : Amounts one two turn) (follows : Follows one two turn) (first : GoesOn one past between)
    (second : GoesOn two between after) where
  turns_heard : (space : SpaceId) (n : ℕ) → WasReceived space n after
      → WasReceived space n past ⊎ (turn.heard ≡ Some (space, n))
  turns_heard space n was = by (second.heard space n was)
    where
      before : WasReceived space n past ⊎ (one.heard ≡ Some (space, n))
          → WasReceived space n past ⊎ (turn.heard ≡ Some (space, n))
      before (inl came) = inl came
      before (inr here) = inr (follows.heard space n (inl here))

      by : WasReceived space n between ⊎ (two.heard ≡ Some (space, n))
          → WasReceived space n past ⊎ (turn.heard ≡ Some (space, n))
      by (inl came) = before (first.heard space n came)
      by (inr here) = inr (follows.heard space n (inr here))

  below_first : (space : SpaceId) → AcksBelow turn.acks space past after → AcksBelow one.acks space past between
  below_first space below n l acked is =
      let both = amounts.first space n acked in
      subst (λ (largest : Option (ℕ × ℕ)). IsSomeAnd largest (λ it. l < it.0))
      (second.largest space ∙ unheard_same space two.heard two.at (largest_came space between) both.1)
      (below n l both.0 is)

  below_second : (space : SpaceId) → AcksBelow turn.acks space past after → AcksBelow two.acks space between after
  below_second space below n l acked is =
      let both = amounts.second space n acked in
      below n l both.0
      (sym (first.carried space n ∙ uncarried_same space n one.carries (largest_in space n past) both.1) ∙ is)

  turns_join : GoesOn turn past after
  turns_join = record {
    given = λ space n is. second.given space n (first.given space n is);
    came = λ space. second.came space ∙ ap (with_number space two.came) (first.came space)
        ∙ follows.came space (came_in space past);
    heard = turns_heard;
    arrived = (
        let a = first.arrived in let b = second.arrived in let c = amounts.arrives in omega (arith, a, b, c));
    left = (let a = first.left in let b = second.left in let c = amounts.leaves in omega (arith, a, b, c));
    discarded = λ space. second.discarded space
        ∙ ap (λ (before : Bool). is_of space two.discards || before) (first.discarded space)
        ∙ follows.discards space (is_discarded space past);
    validated = λ start. second.validated start
        ∙ ap (λ (before : Bool). two.validates || before) (first.validated start)
        ∙ follows.validates (is_validated start Current past);
    largest = λ space. second.largest space ∙ ap (with_largest space two.heard two.at) (first.largest space)
        ∙ follows.largest space (largest_came space past);
    flight = λ gone. (
        let a = first.flight (λ space n. two.ends space n || gone space n) in
        let b = second.flight gone in
        let c = follows.counted gone in
        let d = flight_less (λ space n. turn.ends space n || gone space n)
        (λ space n. one.ends space n || (two.ends space n || gone space n)) past
        (λ space n is. amounts.ended space n (gone space n) is) in
        omega (arith, a, b, c, d));
    carried = λ space n. second.carried space n
        ∙ ap (with_carried space n two.carries) (first.carried space n)
        ∙ follows.carried space n (largest_in space n past);
    timed = λ space n. second.timed space n ∙ ap (with_time space n two.sends) (first.timed space n)
        ∙ follows.timed space n (sent_at space past n);
    elicited = λ space n. second.elicited space n ∙ ap (with_eliciting space n two.sends) (first.elicited space n)
        ∙ follows.elicited space n (elicits_by space past n);
    paths = second.paths ∙ first.paths;
    topped = λ space below keeps. second.topped space (below_second space below)
        (first.topped space (below_first space below) keeps);
    silent = (let a = first.silent in let b = second.silent in omega (arith, a, b));
    congested = (
        let a = first.congested in
        let b = second.congested in (
          b.0 ++ a.0,
          b.1 ∙ ap (λ (all : History Q S M P). b.0 ++ all) a.1 ∙ sym (append_assoc b.0 a.0 past),
          all_append (λ happened. IsCongestedBy turn.congests happened.0) b.0 a.0
              (all_map _ _ (λ happened. congested_event two.congests turn.congests (λ found sent.
              (amounts.congests found sent).1) happened.0) b.0 b.2)
              (all_map _ _ (λ happened. congested_event one.congests turn.congests (λ found sent.
              (amounts.congests found sent).0) happened.0) a.0 a.2),
        ));
  }

-- what does not elicit does not count
no_silent : (eliciting : Bool) (size before : ℕ) → counted_if eliciting size ≡ size
    → (if eliciting then 0 else size) + before ≡ before
no_silent true size before same = omega arith
no_silent false size before same = omega (arith, same)

-- a turn with other bytes, and by which other packets end
abbrev amounting : EndTurn → ℕ → ℕ → Endings → EndTurn
amounting turn arrives leaves ends =
    record turn { arrives = arrives; leaves = leaves; ends = ends.gone; acks = ends.acked; congests = ends.congests }

none_first : (a : ℕ) → a ≤ 0 + a
none_first a = omega arith

none_last : (a : ℕ) → a ≤ a + 0
none_last a = omega arith

first_none : (a : ℕ) → 0 + a ≤ a
first_none a = omega arith

plus_zero : (a : ℕ) → a ≡ a + 0
plus_zero a = omega arith

any_less : (a : ℕ) → 0 ≤ a + 0
any_less a = omega arith

pub no_acks : {A : Type 0} → false ≡ true → A
no_acks never = absurd (true≢false (sym never))

module _ {Q S M P : Type 0} (arrives leaves : ℕ) (ends : Endings) (turn : EndTurn) (more fewer : ℕ) (both : Endings)
    (past between after : History Q S M P) where
  -- first only bytes, and packets that end
  plain_then : Amounts (amounting quiet arrives leaves ends) turn (amounting turn more fewer both)
      → GoesOn (amounting quiet arrives leaves ends) past between → GoesOn turn between after
      → GoesOn (amounting turn more fewer both) past after
  plain_then amounts = turns_join (amounting quiet arrives leaves ends) turn (amounting turn more fewer both) past
      between after amounts (record {
        came = λ space before. refl;
        heard = heard;
        discards = λ space before. refl;
        validates = λ before. refl;
        largest = λ space before. refl;
        counted = λ gone. none_last (added turn.counts gone);
        carried = λ space n before. refl;
        timed = λ space n before. refl;
        elicited = λ space n before. refl;
      })
    where
      heard : (space : SpaceId) (n : ℕ) → (quiet.heard ≡ Some (space, n)) ⊎ (turn.heard ≡ Some (space, n))
          → turn.heard ≡ Some (space, n)
      heard space n (inl never) = absurd cc
      heard space n (inr here) = here

  -- then only those
  then_plain : Amounts turn (amounting quiet arrives leaves ends) (amounting turn more fewer both)
      → ((gone : Numbers) → added turn.counts gone
      ≤ 0 + added turn.counts (λ space n. ends.gone space n || gone space n))
      → GoesOn turn past between → GoesOn (amounting quiet arrives leaves ends) between after
      → GoesOn (amounting turn more fewer both) past after
  then_plain amounts counted = turns_join turn (amounting quiet arrives leaves ends) (amounting turn more fewer both)
      past between after amounts (record {
        came = λ space before. refl;
        heard = heard;
        discards = λ space before. refl;
        validates = λ before. refl;
        largest = λ space before. refl;
        counted = counted;
        carried = λ space n before. refl;
        timed = λ space n before. refl;
        elicited = λ space n before. refl;
      })
    where
      heard : (space : SpaceId) (n : ℕ) → (turn.heard ≡ Some (space, n)) ⊎ (quiet.heard ≡ Some (space, n))
          → turn.heard ≡ Some (space, n)
      heard space n (inl here) = here
      heard space n (inr never) = absurd cc

abbrev endings_of : EndTurn → Endings
endings_of turn = record { gone = turn.ends; acked = turn.acks; congests = turn.congests }

module _ {Q S M P : Type 0} where
  module _ (turn : EndTurn) (past between after : History Q S M P) where
    pub quiet_then : GoesOnQuietly past between → GoesOn turn between after → GoesOn turn past after
    quiet_then = plain_then 0 0 no_endings turn turn.arrives turn.leaves (endings_of turn) past between after (record {
      arrives = at_most _ _ (sym (plus_zero turn.arrives));
      leaves = none_last turn.leaves;
      ended = λ space n gone is. is;
      first = λ space n acked. no_acks acked;
      second = λ space n acked. (acked, refl);
      congests = λ found sent. (no_acks, λ is. is);
    })

    pub then_quiet : GoesOn turn past between → GoesOnQuietly between after → GoesOn turn past after
    then_quiet = then_plain 0 0 no_endings turn turn.arrives turn.leaves (endings_of turn) past between after (record {
      arrives = first_none turn.arrives;
      leaves = none_first turn.leaves;
      ended = λ space n gone is. is;
      first = λ space n acked. (acked, refl);
      second = λ space n acked. no_acks acked;
      congests = λ found sent. (λ is. is, no_acks);
    }) (λ gone. none_first (added turn.counts gone))

  -- what ends quietly ends within any numbers
  pub quiet_ends : (ends : Endings) (past after : History Q S M P) → GoesOnQuietly past after
      → GoesOn (ending ends) past after
  quiet_ends ends past after = plain_then 0 0 no_endings quiet 0 0 ends past past after (record {
    arrives = none_first 0;
    leaves = none_first 0;
    ended = λ space n gone is. or_gone (ends.gone space n) gone is;
    first = λ space n acked. no_acks acked;
    second = λ space n acked. no_acks acked;
    congests = λ found sent. (no_acks, no_acks);
  }) (quiet_none past)

  -- what is transmitted may be left out
  pub left_quietly : (size : ℕ) (past after : History Q S M P) → GoesOn (leaving size) past after
      → GoesOnQuietly past after
  left_quietly size past after = plain_then 0 0 no_endings (leaving size) 0 0 no_endings past past after (record {
    arrives = none_first 0;
    leaves = any_less size;
    ended = λ space n gone is. is;
    first = λ space n acked. no_acks acked;
    second = λ space n acked. no_acks acked;
    congests = λ found sent. (no_acks, no_acks);
  }) (quiet_none past)

  -- these end first, then nothing else does
  pub ending_then : (ends : Endings) (past between after : History Q S M P) → GoesOn (ending ends) past between
      → GoesOn (ending ends) between after → GoesOn (ending ends) past after
  ending_then ends past between after = plain_then 0 0 ends (ending ends) 0 0 ends past between after (record {
    arrives = none_first 0;
    leaves = none_first 0;
    ended = λ space n gone is. gone_again (ends.gone space n) gone is;
    first = λ space n acked. (acked, refl);
    second = λ space n acked. (acked, refl);
    congests = λ found sent. (λ is. is, λ is. is);
  })

  -- ---- a packet is sent

  pub sends_event : (past : History Q S M P) (space : SpaceId) (now size : ℕ) (eliciting : Bool) (largest : Option ℕ)
      (queue : Q) (frames : M) (n : ℕ) (forgotten : Option ℕ)
      → NumbersIncrease past (Send space now size eliciting largest queue frames) (Ok (Sent n forgotten))
      → HaveOneOutcome ((Send space now size eliciting largest queue frames, Ok (Sent n forgotten)) ∷ past)
      → ForgetsOldestNonEliciting past (Send space now size eliciting largest queue frames) (Ok (Sent n forgotten))
      → (same_space space space && n == n) ≡ true → counted_if eliciting size ≡ size
      → SendsNumber 0 (counted_if eliciting size) eliciting space n largest now past
      ((Send space now size eliciting largest queue frames, Ok (Sent n forgotten)) ∷ past)
  sends_event past space now size eliciting largest queue frames n forgotten increase once forgets goes counted =
      let event : Event Q S M P = Send space now size eliciting largest queue frames in
      let reply : Reply Q = Ok (Sent n forgotten) in record {
        goes = event_on (packet_leaving 0 (counted_if eliciting size) eliciting space n largest now) past event reply
            (λ there. refl) (λ there m was. inl was) (no_more (bytes_received past) (bytes_received past) refl)
            (no_less (bytes_transmitted past) (bytes_transmitted past) refl) (λ there. refl) (λ first. refl)
            (λ there. refl)
            (flight_event past event reply (Some (space, n, counted_if eliciting size)) no_numbers refl
            (λ gone. omega arith)
            (λ there m leave. inr (sent_leaves past space now size eliciting largest queue frames n forgotten once
            forgets there m leave)))
            (λ there m. refl) (λ there m. refl) (λ there m. refl) refl
            (λ there below keeps. keeps) (no_silent eliciting size (silent_bytes past) counted) tt;
        unused = λ some. (let none = (increase space n goes).1 n (omega arith) in absurd (omega (arith, none, some)));
        above = λ k some. (elim (cases_lt k n) [
          | inl below ↦ below
          | inr up ↦ (let none = (increase space n goes).1 k up in absurd (omega (arith, none, some)))
        ]);
        used = now_some (goes_out (event, reply) space n) (times (is_given space n) past) goes;
        small = (increase space n goes).0;
      }

  module _ (size counted : ℕ) (eliciting : Bool) (space : SpaceId) (n : ℕ) (largest : Option ℕ) (now : ℕ)
      (past between after : History Q S M P)
    where
      pub quiet_then_sends : GoesOnQuietly past between
          → SendsNumber size counted eliciting space n largest now between after
          → SendsNumber size counted eliciting space n largest now past after
      quiet_then_sends first second = record {
        goes = quiet_then (packet_leaving size counted eliciting space n largest now) past between after first
            second.goes;
        unused = λ some. second.unused (first.given space n some);
        above = λ k some. second.above k (first.given space k some);
        used = second.used;
        small = second.small;
      }

      pub sends_then_quiet : SendsNumber size counted eliciting space n largest now past between
          → GoesOnQuietly between after
          → SendsNumber size counted eliciting space n largest now past after
      sends_then_quiet first second = record {
        goes = then_quiet (packet_leaving size counted eliciting space n largest now) past between after first.goes
            second;
        unused = first.unused;
        above = first.above;
        used = second.given space n first.used;
        small = first.small;
      }

      -- its datagram was transmitted before
      pub leaves_then_sends : GoesOn (leaving size) past between
          → SendsNumber 0 counted eliciting space n largest now between after
          → SendsNumber size counted eliciting space n largest now past after
      leaves_then_sends first second = record {
        goes = plain_then 0 size no_endings (packet_leaving 0 counted eliciting space n largest now) 0 size no_endings
            past between after (record {
              arrives = none_first 0;
              leaves = none_first size;
              ended = λ there m gone is. is;
              first = λ there m acked. no_acks acked;
              second = λ there m acked. no_acks acked;
              congests = λ found sent. (no_acks, no_acks);
            }) first second.goes;
        unused = λ some. second.unused (first.given space n some);
        above = λ k some. second.above k (first.given space k some);
        used = second.used;
        small = second.small;
      }

  -- ---- a packet is received

  module _ (now size : ℕ) (space : SpaceId) (n : ℕ) (reply : Result Bool SenderError) (ends : Endings)
      (past between after : History Q S M P) where
    pub hears_then_quiet : HearsNumber now size space n reply ends past between → GoesOnQuietly between after
        → HearsNumber now size space n reply ends past after
    hears_then_quiet first second = record {
      goes = then_quiet (hearing now size space n reply ends) past between after first.goes second;
      by = first.by;
    }

    -- its ACK frame ends these
    pub hears_then_ends : HearsNumber now size space n reply no_endings past between
        → GoesOn (ending ends) between after → HearsNumber now size space n reply ends past after
    hears_then_ends first second = record {
      goes = then_plain 0 0 ends (hearing now size space n reply no_endings) size 0 ends past between after (record {
        arrives = first_none size;
        leaves = none_first 0;
        ended = λ there m gone is. is;
        first = λ there m acked. no_acks acked;
        second = λ there m acked. (acked, refl);
        congests = λ found sent. (no_acks, λ is. is);
      }) (λ gone. none_first 0) first.goes second;
      by = first.by;
    }

    -- its datagram was received before
    pub arrives_then_hears : GoesOn (arriving size) past between → HearsNumber now 0 space n reply ends between after
        → HearsNumber now size space n reply ends past after
    arrives_then_hears first second = record {
      goes = plain_then size 0 no_endings (hearing now 0 space n reply ends) size 0 ends past between after (record {
        arrives = first_none size;
        leaves = none_first 0;
        ended = λ there m gone is. is;
        first = λ there m acked. no_acks acked;
        second = λ there m acked. (acked, refl);
        congests = λ found sent. (no_acks, λ is. is);
      }) first second.goes;
      by = rw (first.came space, first.discarded space) at second.by;
    }

all_below : (n : ℕ) (came : List ℕ) → list_all (λ m. nat_lt m n) came ≡ true → is_member nat_eq came n ≡ true → ⊥
all_below n [] all is = true≢false (sym is)
all_below n (m ∷ came) all is = grind (arith, nat_tests, all, is, all_below n came)

pub not_new : (n : ℕ) (came : List ℕ) → is_new came n ≡ true → is_member nat_eq came n ≡ true → ⊥
not_new n came new is = grind (arith, nat_tests, new, is, all_below n came)

heard_new : (Q : Type 0) (discarded large new arm : Bool) → IsReceiveReply {Q = Q} discarded large new (Ok (New arm))
    → IsHeardBy discarded large new (Ok true)
heard_new Q true large new arm is = absurd cc
heard_new Q false true new arm is = absurd cc
heard_new Q false false new arm is = (refl, is)

heard_again : (Q : Type 0) (discarded large new : Bool) (answer : Answer Q) → ((arm : Bool) → answer ≡ New arm → ⊥)
    → IsReceiveReply {Q = Q} discarded large new (Ok answer) → IsHeardBy discarded large new (Ok false)
heard_again Q true large new answer other is = absurd cc
heard_again Q false true new answer other is = absurd cc
heard_again Q false false new (New arm) other is = absurd (other arm refl)
heard_again Q false false new Duplicate other is = (refl, is)
heard_again Q false false new answer other is = absurd is

heard_refused : (Q : Type 0) (discarded large new : Bool) (refusal : Refusal)
    → IsReceiveReply {Q = Q} discarded large new (Err refusal)
    → IsHeardBy discarded large new (Err (refused.Event refusal))
heard_refused Q true large new refusal is =
    let same : refusal ≡ SpaceDiscarded = cc in
    subst (λ (one : Refusal). IsHeardBy true large new (Err (refused.Event one))) (sym same) refl
heard_refused Q false true new refusal is =
    let same : refusal ≡ NumberTooLarge = cc in
    subst (λ (one : Refusal). IsHeardBy false true new (Err (refused.Event one))) (sym same) refl
heard_refused Q false false new NoMemory is = (refl, is)
heard_refused Q false false new refusal is = absurd is

module _ {Q S M P : Type 0} (past : History Q S M P) (space : SpaceId) (now n : ℕ) (eliciting : Bool) where
  pub hears_event : (arm : Bool) → DetectsDuplicates past (Received space now n eliciting) (Ok (New arm))
      → HearsNumber now 0 space n (Ok true) no_endings past ((Received space now n eliciting, Ok (New arm)) ∷ past)
  hears_event arm detects = record {
    goes = event_on (hearing now 0 space n (Ok true) no_endings) past (Received space now n eliciting) (Ok (New arm))
        (λ there. refl) (λ there m was. received_here past there m space now n eliciting arm was)
        (no_more (bytes_received past) (bytes_received past) refl)
        (no_less (bytes_transmitted past) (bytes_transmitted past) refl) (λ there. refl) (λ first. refl)
        (λ there. refl)
        (flight_event past (Received space now n eliciting) (Ok (New arm)) None no_numbers refl (λ gone. omega arith)
        (λ there m leave. no_acks leave))
        (λ there m. refl) (λ there m. refl) (λ there m. refl) refl
        (λ there below keeps. received_top past there keeps space now n eliciting arm) refl tt;
    by = heard_new Q (is_discarded space past) (nat_le number_limit n) (is_new (came_in space past) n) arm detects;
  }

  not_received : (there : SpaceId) (k : ℕ) (answer : Answer Q) → ((arm : Bool) → answer ≡ New arm → ⊥)
      → WasReceived there k ((Received space now n eliciting, Ok answer) ∷ past) → WasReceived there k past
  not_received there k (New arm) other was = absurd (other arm refl)
  not_received there k answer other was = was

  not_largest : (there : SpaceId) (answer : Answer Q) → ((arm : Bool) → answer ≡ New arm → ⊥)
      → largest_came there ((Received space now n eliciting, Ok answer) ∷ past) ≡ largest_came there past
  not_largest there (New arm) other = absurd (other arm refl)
  not_largest there answer other = refl

  not_dropped : (there : SpaceId) (answer : Answer Q) → ((arm : Bool) → answer ≡ New arm → ⊥)
      → KeepsLargest there past → KeepsLargest there ((Received space now n eliciting, Ok answer) ∷ past)
  not_dropped there (New arm) other keeps = absurd (other arm refl)
  not_dropped there answer other keeps = keeps

  not_silent : (answer : Answer Q) → silent_bytes ((Received space now n eliciting, Ok answer) ∷ past)
      ≡ silent_bytes past
  not_silent answer = refl

  -- a packet that is not new
  pub known_event : (answer : Answer Q) → ((arm : Bool) → answer ≡ New arm → ⊥)
      → DetectsDuplicates past (Received space now n eliciting) (Ok answer)
      → HearsNumber now 0 space n (Ok false) no_endings past ((Received space now n eliciting, Ok answer) ∷ past)
  known_event answer other detects = record {
    goes = event_on (hearing now 0 space n (Ok false) no_endings) past (Received space now n eliciting) (Ok answer)
        (λ there. refl) (λ there k was. inl (not_received there k answer other was))
        (no_more (bytes_received past) (bytes_received past) refl)
        (no_less (bytes_transmitted past) (bytes_transmitted past) refl) (λ there. refl) (λ first. refl)
        (λ there. not_largest there answer other)
        (flight_event past (Received space now n eliciting) (Ok answer) None no_numbers refl (λ gone. omega arith)
        (λ there m leave. no_acks leave))
        (λ there m. refl) (λ there m. refl) (λ there m. refl) refl
        (λ there below keeps. not_dropped there answer other keeps) (not_silent answer) tt;
    by = heard_again Q (is_discarded space past) (nat_le number_limit n) (is_new (came_in space past) n) answer other
        detects;
  }

  -- a packet that is dropped
  pub dropped_event : (refusal : Refusal) → DetectsDuplicates past (Received space now n eliciting) (Err refusal)
      → HearsNumber now 0 space n (Err (refused.Event refusal)) no_endings past
      ((Received space now n eliciting, Err refusal) ∷ past)
  dropped_event refusal detects = record {
    goes = event_on (hearing now 0 space n (Err (refused.Event refusal)) no_endings) past
        (Received space now n eliciting) (Err refusal)
        (λ there. refl) (λ there k was. inl was) (no_more (bytes_received past) (bytes_received past) refl)
        (no_less (bytes_transmitted past) (bytes_transmitted past) refl) (λ there. refl) (λ first. refl)
        (λ there. refl)
        (flight_event past (Received space now n eliciting) (Err refusal) None no_numbers refl (λ gone. omega arith)
        (λ there m leave. no_acks leave))
        (λ there m. refl) (λ there m. refl) (λ there m. refl) refl
        (λ there below keeps. keeps) refl tt;
    by = heard_refused Q (is_discarded space past) (nat_le number_limit n) (is_new (came_in space past) n) refusal
        detects;
  }

-- ---- datagrams, spaces and addresses

module _ {Q S M P : Type 0} (past : History Q S M P) where
  pub arrives_event : (bytes : ℕ) (answer : Answer Q)
      → GoesOn (arriving bytes) past ((DatagramIn Current bytes, Ok answer) ∷ past)
  arrives_event bytes answer = event_on (arriving bytes) past (DatagramIn Current bytes) (Ok answer) (λ space. refl)
      (λ space n was. inl was)
      (at_most _ _ (sum_by-cons bytes_in (DatagramIn Current bytes, Ok answer) (datagrams_on Current past)))
      (at_most _ _ (sym (sum_by-cons bytes_out (DatagramIn Current bytes, Ok answer) (datagrams_on Current past))))
      (λ space. refl) (λ first. refl) (λ space. refl)
      (flight_event past (DatagramIn Current bytes) (Ok answer) None no_numbers refl (λ gone. omega arith)
      (λ there m leave. no_acks leave))
      (λ space n. refl) (λ space n. refl) (λ space n. refl) refl
      (λ space below keeps. keeps) refl tt

  pub leaves_event : (now bytes : ℕ) (checked : Bool)
      → GoesOn (leaving bytes) past ((Transmit now bytes checked, Ok Transmitted) ∷ past)
  leaves_event now bytes checked = event_on (leaving bytes) past (Transmit now bytes checked) (Ok Transmitted)
      (λ space. refl) (λ space n was. inl was)
      (at_most _ _ (sum_by-cons bytes_in (Transmit now bytes checked, Ok Transmitted) (datagrams_on Current past)))
      (at_most _ _ (sym (sum_by-cons bytes_out (Transmit now bytes checked, Ok Transmitted)
      (datagrams_on Current past))))
      (λ space. refl) (λ first. refl) (λ space. refl)
      (flight_event past (Transmit now bytes checked) (Ok Transmitted) None no_numbers refl (λ gone. omega arith)
      (λ there m leave. no_acks leave))
      (λ space n. refl) (λ space n. refl) (λ space n. refl) refl
      (λ space below keeps. keeps) refl tt

  pub delayed_event : (now bytes until : ℕ) (checked : Bool)
      → GoesOnQuietly past ((Transmit now bytes checked, Ok (Delayed until)) ∷ past)
  delayed_event now bytes until checked = event_on quiet past (Transmit now bytes checked) (Ok (Delayed until))
      (λ space. refl) (λ space n was. inl was) (no_more (bytes_received past) (bytes_received past) refl)
      (no_less (bytes_transmitted past) (bytes_transmitted past) refl)
      (λ space. refl) (λ first. refl) (λ space. refl)
      (flight_event past (Transmit now bytes checked) (Ok (Delayed until)) None no_numbers refl (λ gone. omega arith)
      (λ there m leave. no_acks leave))
      (λ space n. refl) (λ space n. refl) (λ space n. refl) refl
      (λ space below keeps. keeps) refl tt

  pub discards_event : (space : SpaceId) (answer : Answer Q)
      → GoesOn (discarding space) past ((DiscardSpace space, Ok answer) ∷ past)
  discards_event space answer = event_on (discarding space) past (DiscardSpace space) (Ok answer) (λ there. refl)
      (λ there n was. inl was) (no_more (bytes_received past) (bytes_received past) refl)
      (no_less (bytes_transmitted past) (bytes_transmitted past) refl)
      (λ there. refl) (λ first. refl) (λ there. refl)
      (flight_event past (DiscardSpace space) (Ok answer) None (λ there n. same_space space there) refl
      (λ gone. omega arith) (λ there m leave. inl leave))
      (λ there n. refl) (λ there n. refl) (λ there n. refl) refl
      (λ there below keeps. keeps) refl tt

  pub validates_event : (answer : Answer Q) → GoesOn validating past ((Validated Current, Ok answer) ∷ past)
  validates_event answer = event_on validating past (Validated Current) (Ok answer) (λ space. refl)
      (λ space n was. inl was) (no_more (bytes_received past) (bytes_received past) refl)
      (no_less (bytes_transmitted past) (bytes_transmitted past) refl)
      (λ space. refl) (λ first. refl) (λ space. refl)
      (flight_event past (Validated Current) (Ok answer) None no_numbers refl (λ gone. omega arith)
      (λ there m leave. no_acks leave))
      (λ space n. refl) (λ space n. refl) (λ space n. refl) refl
      (λ space below keeps. keeps) refl tt
