-- No deadlock: while bytes are in flight that are probed for, the timer is set, and also while the window holds a
-- handshake packet back. Both are never stuck.
use Rattle.std.proofs.Common.{◌≡◌, ℕ, ◌+◌, ◌*◌, ◌<◌, ◌≤◌, ◌==◌, ◌⊎◌, inl, inr, ◌&&◌, ◌||◌, Bool, true, false, List, [], ◌∷◌, Option, None, Some, Result, Ok, nat_lt, refl, sym, ap, subst, ◌∙◌, arith, true≢false}
use Rattle.std.proofs.lemmas.Bool.{cases_lt}
use Rattle.std.proofs.lemmas.Option.{none-some}
use Rattle.std.proofs.lemmas.Bool.Decides.{nat_tests}
use Rattle.std.specs.Prelude.{not, if◌then◌else◌}
use Rattle.recovery_base.specs.declared.below.SpaceId.{SpaceId}
use Rattle.recovery_base.specs.declared.below.SpaceId.TheVariants.{Data, Handshake, Initial}
use Rattle.recovery_base.specs.declared.timer.Timer.TheVariants.{LossDetection}
use Rattle.recovery_base.specs.Spaces.{same_space}
use Rattle.recovery_base.specs.Timers.{moment}
use Rattle.recovery_events.specs.declared.event.Answer.TheVariants.{Probe, Sent}
use Rattle.recovery_events.specs.declared.event.Event.{Event}
use Rattle.recovery_events.specs.declared.event.Event.TheVariants.{DiscardSpace, PollMtu, Send}
use Rattle.recovery_events.specs.declared.event.Refusal.TheVariants.{SpaceDiscarded}
use Rattle.recovery_events.specs.declared.event.Refusal.{Refusal}
use Rattle.recovery_paths.specs.PathLog.{PathReplyInputs, PerPath}
use Rattle.recovery_paths.specs.PathStates.{is_blocked}
use Rattle.recovery_paths.specs.declared.path_pair.PathName.TheVariants.{Current}
use Rattle.recovery_history.specs.History.{AtEach, Beginning, History, Reply, begins, queue_model}
use Rattle.recovery_history.specs.Promises.Counted.{sum_on, weight}
use Rattle.recovery_history.specs.Promises.Datagrams.{is_validated}
use Rattle.recovery_history.specs.Promises.Fates.{HaveOneOutcome, is_given, more_if, times}
use Rattle.recovery_history.specs.Promises.NewNumbers.{is_discarded}
use Rattle.recovery_history.specs.Promises.Paths.{generations}
use Rattle.recovery_history.specs.Promises.Rejections.{RejectsExactly}
use Rattle.recovery_history.specs.Promises.Timeouts.{timer_value}
use Rattle.recovery_history.specs.Promises.Tracked.{goes_out, is_tracked, leaves}
use Rattle.recovery_history.specs.Reachability.{ReachedBy}
use Rattle.recovery_history.specs.RecoveryState.{RecoveryState}
use Rattle.recovery_history.specs.RepliesAfter.{RepliesAfter, pasts_of}
use Rattle.recovery_history.proofs.DatagramLaws.{Flow, FlowsAgree, flow_of, flows_after, flows_at_first}
use Rattle.recovery_history.proofs.OneOutcomeLaws.{have_one_fate}
use Rattle.recovery_history.proofs.RejectionsLaws.{refuses_rightly}
use Rattle.recovery_history.proofs.Runs.{kept_after}
use Rattle.recovery_history.proofs.TrackedLaws.{one_space}
use Rattle.recovery_sender.specs.Calls.{bytes_in_flight, is_checked, is_full, window_of}
use Rattle.recovery_sender.specs.Promises.Liveness.{IsOutstanding, IsTimerByEvents, deadlock_space_by, may_send}
use Rattle.recovery_sender.specs.Promises.Lost.{elicits_by}
use Rattle.recovery_sender.specs.Senders.{state_in}
use Rattle.recovery_sender.specs.declared.sender.Sender.{Sender}
use Rattle.recovery_sender.specs.declared.sender.SenderError.{SenderError}
use Rattle.recovery_sender.specs.declared.sender.packets.Transmission.{Transmission}
use Rattle.recovery_sender.specs.declared.sender.packets.Transmission.TheVariants.{Blocked, Full}
use Rattle.recovery_losses.specs.Variables.{since_in, waiting_since}
use Rattle.recovery_pair.specs.declared.endpoint.Outgoing.TheVariants as outgoing
use Rattle.recovery_pair.specs.declared.endpoint.Waiting.{Waiting}
use Rattle.recovery_pair.specs.declared.steps.End.{End}
use Rattle.recovery_pair.specs.declared.steps.End.TheVariants.{Client, Server}
use Rattle.recovery_pair.specs.declared.steps.PairAnswer.{PairAnswer}
use Rattle.recovery_pair.specs.declared.steps.PairAnswer.TheVariants.{Held}
use Rattle.recovery_pair.specs.declared.steps.PairStep.{PairStep}
use Rattle.recovery_pair.specs.declared.steps.PairStep.TheVariants as steps
use Rattle.recovery_pair.specs.declared.steps.WirePacket.{WirePacket}
use Rattle.recovery_pair.specs.AddressKnown.{Known, KnowsWithCause, known_at, known_of}
use Rattle.recovery_pair.specs.Flights.{Numbers, counted_if, no_numbers}
use Rattle.recovery_pair.specs.Logs.{PairLog, has_validated, was_discarded}
use Rattle.recovery_pair.specs.NoDeadlock.{AreNeverStuck, AreTimed, FollowsHandshake, HasProbeKeys, HasTimer, HasValidated, HoldsWithCause, IfTied, IsHeldWithCause, IsTimed, NeverStuck, deadlock_space, is_unprobed, probed_flight}
use Rattle.recovery_pair.specs.Pasts.{Continues, GoesOnQuietly, HasPast, flight_in, silent_bytes}
use Rattle.recovery_pair.specs.Permits.{HoldsAt, PermitsAnswer, SaysOf, WaitsIfFull}
use Rattle.recovery_pair.specs.Runs.{StepKeeps}
use Rattle.recovery_pair.specs.Tied.{IsLogged, IsTied, validated_first}
use Rattle.recovery_pair.specs.Timed.{AreTimedAs, IsTimedAs, KeepsTimers}
use Rattle.recovery_pair.specs.Turns.{TurnsAt}
use Rattle.recovery_pair.proofs.FlightLaws.{flight_sum, or_left, or_right}
use Rattle.recovery_pair.proofs.KnownLaws.{cause_kept, client_validated, or_cases}
use Rattle.recovery_pair.proofs.PermitLaws.{said_blocked, said_full}

-- ---- tests

some_of : (a b : ℕ) → 0 < a + b → (0 < a) ⊎ (0 < b)
some_of a b more = elim (cases_lt 0 a) [ inl is ↦ inl is | inr none ↦ inr (omega (arith, more, none)) ]

true_first : (a b : Bool) → a ≡ true → (a || b) ≡ true
true_first a b is = rw is refl

-- a number that is tracked is not given again
not_again : (out tracked : Bool) (given departed : ℕ) → tracked ≡ true → given ≡ more_if tracked departed
    → more_if out given ≤ 1 → out ≡ false
not_again false tracked given departed is same most = refl
not_again true true given departed is same most = absurd (omega (arith, same, most))
not_again true false given departed is same most = absurd (true≢false (sym is))

kept_on : (out left tracked : Bool) → left ≡ false → tracked ≡ true → (out || (not left && tracked)) ≡ true
kept_on true left tracked stays is = refl
kept_on false left tracked stays is = rw (stays, is) refl

tracked_of : (out left tracked : Bool) → out ≡ false → (out || (not left && tracked)) ≡ true → tracked ≡ true
tracked_of true left tracked never is = absurd (true≢false never)
tracked_of false true tracked never is = absurd (true≢false (sym is))
tracked_of false false tracked never is = is

where_here : (here : Bool) (w : ℕ) → 0 < (if here then w else 0) → 0 < w
where_here true w more = more
where_here false w more = absurd (omega (arith, more))

cause_none : (discarded : Bool) → ◌≡◌ {A = Option Refusal} (if discarded then Some SpaceDiscarded else None) None
    → discarded ≡ false
cause_none true is = absurd cc
cause_none false is = refl

-- ---- packets in flight are outstanding

module _ {Q S M P : Type 0} where
  -- an ack-eliciting packet is tracked, and its number is not gone
  record IsFlying (gone : Numbers) (past : History Q S M P) : Type 0 where
    pub space : SpaceId
    pub number : ℕ
    pub stays : gone space number ≡ false
    pub tracked : is_tracked space number past ≡ true
    pub elicits : elicits_by space past number ≡ true

  elicits_on : (happened : Event Q S M P × Reply Q) (earlier : History Q S M P) (space : SpaceId) (n : ℕ)
      → goes_out happened space n ≡ false → elicits_by space (happened ∷ earlier) n ≡ elicits_by space earlier n
  elicits_on (Send there now size eliciting largest queue frames, Ok (Sent number forgotten)) earlier space n given =
      rw given refl
  elicits_on (PollMtu now, Ok (Probe number size)) earlier space n given = rw given refl
  elicits_on happened earlier space n given = refl

  still_flying : (gone : Numbers) (happened : Event Q S M P × Reply Q) (earlier : History Q S M P)
      → HaveOneOutcome (happened ∷ earlier) → HaveOneOutcome earlier
      → IsFlying (λ space n. leaves happened space n || gone space n) earlier → IsFlying gone (happened ∷ earlier)
  still_flying gone happened earlier once before flying =
      let space = flying.space in
      let n = flying.number in
      let given : goes_out happened space n ≡ false = not_again (goes_out happened space n)
      (is_tracked space n earlier) (times (is_given space n) earlier) _ flying.tracked (before space n).1
      (once space n).0 in record {
        space = space;
        number = n;
        stays = or_right (leaves happened space n) (gone space n) flying.stays;
        tracked = kept_on (goes_out happened space n) (leaves happened space n) (is_tracked space n earlier)
            (or_left (leaves happened space n) (gone space n) flying.stays) flying.tracked;
        elicits = elicits_on happened earlier space n given ∙ flying.elicits;
      }

  flying_here : (gone : Numbers) (happened : Event Q S M P × Reply Q) (earlier : History Q S M P)
      → 0 < weight (λ size eliciting. counted_if eliciting size) gone happened → IsFlying gone (happened ∷ earlier)
  flying_here gone (Send there now size eliciting largest queue frames, Ok (Sent number forgotten)) earlier more =
      by (gone there number) eliciting refl refl more
    where
      by : (is_gone elicits : Bool) → gone there number ≡ is_gone → eliciting ≡ elicits
          → 0 < (if is_gone then 0 else counted_if elicits size)
          → IsFlying gone ((Send there now size eliciting largest queue frames, Ok (Sent number forgotten)) ∷ earlier)
      by true elicits stays is some = absurd (omega (arith, some))
      by false false stays is some = absurd (omega (arith, some))
      by false true stays is some = record {
        space = there;
        number = number;
        stays = stays;
        tracked = grind (arith, nat_tests);
        elicits = grind (arith, nat_tests, is);
      }
  flying_here gone (PollMtu now, Ok (Probe number size)) earlier more = by (gone Data number) refl more
    where
      by : (is_gone : Bool) → gone Data number ≡ is_gone → 0 < (if is_gone then 0 else counted_if true size)
          → IsFlying gone ((PollMtu now, Ok (Probe number size)) ∷ earlier)
      by true stays some = absurd (omega (arith, some))
      by false stays some = record {
        space = Data;
        number = number;
        stays = stays;
        tracked = grind (arith, nat_tests);
        elicits = grind (arith, nat_tests);
      }
  flying_here gone happened earlier more = absurd (omega (arith, more))

  flying_by : {F K : Type 0} (beginning : Beginning F K Q S M P) (generation : ℕ) (gone : Numbers)
      (past : History Q S M P) → AtEach (RepliesAfter beginning) past
      → 0 < sum_on (λ size eliciting. counted_if eliciting size) generation gone past → IsFlying gone past
  flying_by beginning generation gone [] all more = absurd (omega (arith, more))
  flying_by beginning generation gone (happened ∷ earlier) all more =
      by (flying_by beginning generation (λ space n. leaves happened space n || gone space n) earlier all.1)
      (some_of (if (generations earlier).current == generation
      then weight (λ size eliciting. counted_if eliciting size) gone happened else 0)
      (sum_on (λ size eliciting. counted_if eliciting size) generation
      (λ space n. leaves happened space n || gone space n) earlier) more)
    where
      by : (0 < sum_on (λ size eliciting. counted_if eliciting size) generation
          (λ space n. leaves happened space n || gone space n) earlier
          → IsFlying (λ space n. leaves happened space n || gone space n) earlier)
          → (0 < (if (generations earlier).current == generation
          then weight (λ size eliciting. counted_if eliciting size) gone happened else 0))
          ⊎ (0 < sum_on (λ size eliciting. counted_if eliciting size) generation
          (λ space n. leaves happened space n || gone space n) earlier) → IsFlying gone (happened ∷ earlier)
      by before (inl here) = flying_here gone happened earlier (where_here _ _ here)
      by before (inr rest) = still_flying gone happened earlier (have_one_fate beginning (happened ∷ earlier) all)
          (have_one_fate beginning earlier all.1) (before rest)

  -- ---- a packet that is tracked is in a space that is not discarded

  lives_on : (past : History Q S M P) (event : Event Q S M P) (reply : Reply Q) → RejectsExactly past event reply
      → (space : SpaceId) (n : ℕ) → (is_tracked space n past ≡ true → is_discarded space past ≡ false)
      → is_tracked space n ((event, reply) ∷ past) ≡ true → is_discarded space ((event, reply) ∷ past) ≡ false
  lives_on past (Send there now size eliciting largest queue frames) (Ok (Sent number forgotten)) exact space n before
      is =
      by (or_cases (same_space there space && number == n) _ is)
    where
      happened : Event Q S M P × Reply Q
      happened = (Send there now size eliciting largest queue frames, Ok (Sent number forgotten))

      by : ((same_space there space && number == n) ≡ true)
          ⊎ ((not (leaves happened space n) && is_tracked space n past) ≡ true) → is_discarded space past ≡ false
      by (inl here) =
          let same : there ≡ space = one_space there space (grind (arith, here)) in
          subst (λ (one : SpaceId). is_discarded one past ≡ false) same (cause_none (is_discarded there past) exact)
      by (inr kept) = before (tracked_of false (leaves happened space n) (is_tracked space n past) refl kept)
  lives_on past (PollMtu now) (Ok (Probe number size)) exact space n before is =
      by (or_cases (same_space Data space && number == n) _ is)
    where
      by : ((same_space Data space && number == n) ≡ true) ⊎ (is_tracked space n past ≡ true)
          → is_discarded space past ≡ false
      by (inl here) =
          let same : Data ≡ space = one_space Data space (grind (arith, here)) in
          subst (λ (one : SpaceId). is_discarded one past ≡ false) same (cause_none (is_discarded Data past) exact)
      by (inr kept) = before kept
  lives_on past (DiscardSpace there) (Ok answer) exact space n before is =
      both (same_space there space) (is_tracked space n past) (is_discarded space past) before is
    where
      both : (same tracked gone : Bool) → (tracked ≡ true → gone ≡ false) → (not same && tracked) ≡ true
          → (same || gone) ≡ false
      both true tracked gone was here = absurd (true≢false (sym here))
      both false tracked gone was here = was here
  lives_on past event reply exact space n before is =
      before (tracked_of (goes_out (event, reply) space n) (leaves (event, reply) space n) (is_tracked space n past)
      refl is)

  lives_by : {F K : Type 0} (beginning : Beginning F K Q S M P) (past : History Q S M P)
      → AtEach (RepliesAfter beginning) past → (space : SpaceId) (n : ℕ) → is_tracked space n past ≡ true
      → is_discarded space past ≡ false
  lives_by beginning past all = kept_after RejectsExactly
      (λ (past : History Q S M P). (space : SpaceId) (n : ℕ) → is_tracked space n past ≡ true
      → is_discarded space past ≡ false)
      (λ before event reply exact lives space n. lives_on before event reply exact space n (lives space n))
      (λ space n never. absurd (true≢false (sym never))) past (refuses_rightly beginning past all)

  -- ---- all that counts in flight is ack-eliciting

  silent_weight : (gone : Numbers) (happened : Event Q S M P × Reply Q) (earlier : History Q S M P)
      → weight (λ size eliciting. size) gone happened + silent_bytes earlier
      ≤ weight (λ size eliciting. counted_if eliciting size) gone happened + silent_bytes (happened ∷ earlier)
  silent_weight gone (Send there now size eliciting largest queue frames, Ok (Sent number forgotten)) earlier =
      by (gone there number) eliciting (silent_bytes earlier)
    where
      by : (is_gone elicits : Bool) (rest : ℕ) → (if is_gone then 0 else size) + rest
          ≤ (if is_gone then 0 else counted_if elicits size) + ((if elicits then 0 else size) + rest)
      by true true rest = omega arith
      by true false rest = omega arith
      by false true rest = omega arith
      by false false rest = omega arith
  silent_weight gone (PollMtu now, Ok (Probe number size)) earlier = omega arith
  silent_weight gone happened earlier = omega arith

  silent_grows : (happened : Event Q S M P × Reply Q) (earlier : History Q S M P)
      → silent_bytes earlier ≤ silent_bytes (happened ∷ earlier)
  silent_grows (Send there now size eliciting largest queue frames, Ok (Sent number forgotten)) earlier = omega arith
  silent_grows happened earlier = omega arith

  silent_sum : (generation : ℕ) (gone : Numbers) (past : History Q S M P)
      → sum_on (λ size eliciting. size) generation gone past
      ≤ sum_on (λ size eliciting. counted_if eliciting size) generation gone past + silent_bytes past
  silent_sum generation gone [] = omega arith
  silent_sum generation gone (happened ∷ earlier) =
      by ((generations earlier).current == generation) _ _ _ _ _ _ (silent_weight gone happened earlier)
      (silent_grows happened earlier)
      (silent_sum generation (λ space n. leaves happened space n || gone space n) earlier)
    where
      by : (here : Bool) (a b x y before after : ℕ) → a + before ≤ b + after → before ≤ after → x ≤ y + before
          → (if here then a else 0) + x ≤ ((if here then b else 0) + y) + after
      by true a b x y before after one more two = omega (arith, one, two)
      by false a b x y before after one more two = omega (arith, more, two)

  flight_all : {F K : Type 0} (beginning : Beginning F K Q S M P) (past : History Q S M P)
      (recovery : RecoveryState K P M) → ReachedBy beginning past recovery → silent_bytes past ≤ 0
      → bytes_in_flight recovery ≤ flight_in no_numbers past
  flight_all beginning past recovery came none =
      let most = silent_sum (generations past).current no_numbers past in
      subst (λ (bytes : ℕ). bytes ≤ flight_in no_numbers past) (sym (flight_sum beginning past recovery came))
      (omega (arith, most, none))

-- ---- what the sender says of a datagram

-- not that the amplification limit forbids it, if the address is validated
free_of : (validated : Bool) (came went bytes : ℕ) → validated ≡ true
    → (not validated && nat_lt (3 * came) (went + bytes)) ≡ false
free_of validated came went bytes is = rw is refl

module _ {F Q R C K S M P : Type 0} {f : _} {c : _} {q : _} {m : _} {r : _} (sender : Sender F Q R C K S M P f c q m r)
    (own : HasPast sender) where
  abbrev begun : Beginning F K Q S M P
  begun = begins f.built c.words (queue_model q.contents q.words q.blank) own.config own.start own.random

  outstanding_by : (gone : Numbers) → 0 < flight_in gone own.past
      → (space : SpaceId) × (n : ℕ) × (gone space n ≡ false) × IsOutstanding own.past space
  outstanding_by gone more =
      let one = flying_by begun (generations own.past).current gone own.past own.came.replies more in (
        one.space,
        one.number,
        one.stays,
        (
          lives_by begun own.past own.came.replies one.space one.number one.tracked,
          one.number,
          one.tracked,
          one.elicits,
        ),
      )

  stopped : moment LossDetection (state_in sender).timers ≡ None → timer_value own.past LossDetection ≡ None
  stopped none = sym (own.came.state_after.timers LossDetection) ∙ none

  -- while a packet is in flight that is probed for
  timed_by : IsTimerByEvents begun own.past (state_in sender) sender.variables → may_send begun own.past ≡ true
      → (space : SpaceId) → (same_space space Data && not sender.variables.is_handshake_confirmed) ≡ false
      → IsOutstanding own.past space → HasTimer sender
  timed_by timer may space goes outstanding none =
      let set = timer.runs may space goes outstanding in none-some set.time (sym (stopped none) ∙ set.set)

  -- while a packet waits for room
  timed_waiting : IsTimerByEvents begun own.past (state_in sender) sender.variables → may_send begun own.past ≡ true
      → (space : SpaceId) (since : ℕ) → is_discarded space own.past ≡ false
      → waiting_since sender.variables space ≡ Some since → HasTimer sender
  timed_waiting timer may space since there held none =
      let set = timer.waiting may space since there held in none-some set.time (sym (stopped none) ∙ set.set)

  -- the window holds a datagram back only if something is in flight
  full_in_flight : (now size : ℕ) (space : SpaceId) (in_flight ack : Bool)
      → SaysOf sender space now size in_flight (Ok (Full ack))
      → size ≤ window_of c.words (state_in sender) → silent_bytes own.past ≤ 0 → 0 < flight_in no_numbers own.past
  full_in_flight now size space in_flight ack says fits silent =
      let full : is_full c.words (state_in sender) size ≡ true = (said_full _ _ _ _ _
      (is_checked sender.variables space in_flight) (is_full c.words (state_in sender) size)
      says.0 _ ack (sym says.2)).0 in
      let most = flight_all begun own.past (state_in sender) own.came silent in
      room (window_of c.words (state_in sender)) (bytes_in_flight (state_in sender)) size _ full fits most
    where
      room : (window bytes size flying : ℕ) → nat_lt window (bytes + size) ≡ true → size ≤ window → bytes ≤ flying
          → 0 < flying
      room window bytes size flying more fits most = grind (arith, nat_tests, more, fits, most)

  module _ (validated : Bool) (log : PairLog) (end : End)
      (address : is_validated own.config.validated Current own.past
      ≡ has_validated end (validated_first end validated) log) where
    -- nor does the amplification limit, once the address is validated
    free : is_validated own.config.validated Current own.past ≡ true → (bytes : ℕ)
        → is_blocked (state_in sender).paths.current.state bytes ≡ false
    free is bytes =
        let flows = kept_after (RepliesAfter begun) (FlowsAgree begun) (flows_after begun) (flows_at_first begun)
        own.past own.came.replies in
        let kept : Flow = flow_of (pasts_of begun own.past).current in
        let flags = ap (λ (f : Flow). f.validated) flows.0.0 in
        ap (λ (paths : PerPath (PathReplyInputs K)). is_blocked paths.current.state bytes) own.came.state_after.paths
        ∙ free_of kept.validated kept.came kept.went bytes (sym flags ∙ is)

    not_blocked : (now size : ℕ) (space : SpaceId) (in_flight : Bool)
        → SaysOf sender space now size in_flight (Ok Blocked) → HasValidated validated log end → ⊥
    not_blocked now size space in_flight says is = true≢false
        (sym (said_blocked _ _ _ _ _ (is_checked sender.variables space in_flight)
        (is_full c.words (state_in sender) size)
        says.0 _ (sym says.2)) ∙ free (address ∙ is) size)

    module _ (discarded : (space : SpaceId) → is_discarded space own.past ≡ was_discarded end space log)
        (knows : known_of sender.variables ≡ known_at end log) where
      same_deadlock_space : deadlock_space_by own.past sender.variables ≡ deadlock_space log end
      same_deadlock_space =
          ap (λ (known : Known). if known.keys && not (is_discarded Handshake own.past) then Handshake else Initial)
          knows
          ∙ ap (λ (gone : Bool). if (known_at end log).keys && not gone then Handshake else Initial)
          (discarded Handshake)

      kept_by : HasProbeKeys log end → is_discarded (deadlock_space_by own.past sender.variables) own.past ≡ false
      kept_by kept = ap (λ (space : SpaceId). is_discarded space own.past) same_deadlock_space
          ∙ discarded (deadlock_space log end) ∙ kept

      confirmed_as : (confirmed : Bool) → (known_at end log).confirmed ≡ confirmed
          → sender.variables.is_handshake_confirmed ≡ confirmed
      confirmed_as confirmed is = ap (λ (known : Known). known.confirmed) knows ∙ is

      -- while bytes are in flight that are probed for
      timed_if : IsTimerByEvents begun own.past (state_in sender) sender.variables → HasValidated validated log end
          → 0 < flight_in (λ space n. is_unprobed log end space) own.past → HasTimer sender
      timed_if timer may more =
          let one = outstanding_by (λ space n. is_unprobed log end space) more in
          timed_by timer (true_first _ _ (address ∙ may)) one.0
          (ap (λ confirmed. same_space one.0 Data && not confirmed) (confirmed_as _ refl) ∙ one.2) one.3

      -- once the handshake is confirmed, while any are
      timed_confirmed : IsTimerByEvents begun own.past (state_in sender) sender.variables
          → HasValidated validated log end → (known_at end log).confirmed ≡ true
          → 0 < flight_in no_numbers own.past → HasTimer sender
      timed_confirmed timer may confirmed more =
          let one = outstanding_by no_numbers more in
          timed_by timer (true_first _ _ (address ∙ may)) one.0
          (ap (λ confirmed. same_space one.0 Data && not confirmed) (confirmed_as true confirmed)
          ∙ never_unprobed (same_space one.0 Data)) one.3
        where
          never_unprobed : (is_data : Bool) → (is_data && false) ≡ false
          never_unprobed true = refl
          never_unprobed false = refl

-- ---- both endpoints

-- what goes on quietly has no less in flight
still_flying_after : {Q S M P : Type 0} (past after : History Q S M P) → GoesOnQuietly past after
    → flight_in no_numbers past ≤ flight_in no_numbers after
still_flying_after past after goes = let more = goes.flight no_numbers in omega (arith, more)

module _ {F Q R C K S M P : Type 0} {f : _} {c : _} {q : _} {m : _} {r : _} where
  module _ (validated : Bool) (log : PairLog) (end : End) (old new : Sender F Q R C K S M P f c q m r)
      (own : HasPast old) (logged : IsLogged validated log end own.config.validated own.past)
      (goes : Continues GoesOnQuietly old new) (timed : IsTimedAs (known_at end log) new) (space : SpaceId)
      (now size : ℕ) where
    held_with_cause : (held : Transmission) → PermitsAnswer space now size (Ok (Held held)) old
        → WaitsIfFull space (Ok (outgoing.Held held)) new → IsHeldWithCause validated log end space size held old new
    held_with_cause Blocked permits waits =
        not_blocked old own validated log end logged.address now size space permits.0 permits.1.0
    held_with_cause (Full ack) permits waits = λ may goes fits. by may goes fits (known_at end log).confirmed refl
      where
        by : HasValidated validated log end → is_unprobed log end space ≡ false
            → ((known_at end log).confirmed ≡ true → size ≤ window_of c.words (state_in old))
            → (confirmed : Bool) → (known_at end log).confirmed ≡ confirmed → HasTimer new
        by may unprobed fits true confirmed =
            let on = goes.from own.config own.start own.random own.past own.came in
            let came : HasPast new = record {
              config = own.config;
              start = own.start;
              random = own.random;
              past = on.0;
              came = on.1;
            } in
            let some = full_in_flight old own now size space permits.0 ack permits.1.0 (fits confirmed) logged.silent in
            let least = still_flying_after own.past on.0 on.2 in
            timed_confirmed new came validated log end (on.2.validated own.config.validated ∙ logged.address)
            (λ there. on.2.discarded there ∙ logged.discarded there) timed.1
            (timed.0 own.config own.start own.random on.0 on.1) may confirmed (omega (arith, some, least))
        by may unprobed fits false unconfirmed =
            let on = goes.from own.config own.start own.random own.past own.came in
            let came : HasPast new = record {
              config = own.config;
              start = own.start;
              random = own.random;
              past = on.0;
              came = on.1;
            } in
            let handshake : same_space space Data ≡ false =
            not_data (same_space space Data) (rw unconfirmed at unprobed) in
            let held = waits handshake in
            let kept : is_discarded space on.0 ≡ false =
            sym (came.came.state_after.discarded space) ∙ held.2 in
            let never : new.variables.is_handshake_confirmed ≡ false =
            ap (λ (known : Known). known.confirmed) timed.1 ∙ unconfirmed in
            timed_waiting new came (timed.0 own.config own.start own.random on.0 on.1)
            (true_first _ _ (on.2.validated own.config.validated ∙ logged.address ∙ may)) space held.0 kept
            (ap (λ confirmed. if confirmed then None else since_in space new.variables.full_since) never ∙ held.1)
          where
            not_data : (is_data : Bool) → (is_data && true) ≡ false → is_data ≡ false
            not_data true is = absurd (true≢false is)
            not_data false is = refl
    held_with_cause held permits waits = tt

  timed_logged : (validated : Bool) (log : PairLog) (end : End) (sender : Sender F Q R C K S M P f c q m r)
      (own : HasPast sender) → IsLogged validated log end own.config.validated own.past
      → IsTimedAs (known_at end log) sender → IsTimed validated log end sender
  timed_logged validated log end sender own logged timed =
      let events = timed.0 own.config own.start own.random own.past own.came in record {
        in_flight = λ may more. timed_if sender own validated log end logged.address logged.discarded timed.1 events may
            (let least = logged.flight (λ space n. is_unprobed log end space) in omega (arith, more, least));
        unknown = λ address keys unknown none. events.deadlock (true_first _ _ (logged.address ∙ address))
            (kept_by sender own validated log end logged.address logged.discarded timed.1 keys)
            (ap (λ (known : Known). known.address) timed.1 ∙ unknown)
            (sym (own.came.state_after.timers LossDetection) ∙ none);
      }

  -- both endpoints
  module _ (validated : Bool) (log : PairLog) (client server : Sender F Q R C K S M P f c q m r)
      (cause : KnowsWithCause log) (timed : AreTimed validated log client server) where
    limited : FollowsHandshake validated log → (HasValidated validated log Server → ⊥) → HasTimer client
    limited follows never = by (known_at Client log).address refl
      where
        by : (address : Bool) → (known_at Client log).address ≡ address → HasTimer client
        by true knows = absurd (elim (cause knows) [
          | inl confirmed ↦ never (follows.confirms confirmed)
          | inr received ↦ never (follows.validates received)
        ])
        by false knows = timed.0.unknown (client_validated log) (elim (follows.keys Client) [
          | inl confirmed ↦ absurd (never (follows.confirms confirmed))
          | inr kept ↦ kept
        ]) knows

    flying : FollowsHandshake validated log → (end : End) → 0 < probed_flight log end
        → HasTimer client ⊎ HasValidated validated log Server × HasTimer server
    flying follows Client more =
        inl (timed.0.in_flight (client_validated log) more)
    flying follows Server more = by (has_validated Server validated log) refl
      where
        by : (is : Bool) → has_validated Server validated log ≡ is
            → HasTimer client ⊎ HasValidated validated log Server × HasTimer server
        by true is = inr (is, timed.1.in_flight is more)
        by false is = inl (limited follows (λ yes. true≢false (sym yes ∙ is)))

    pub never_both : AreNeverStuck validated log client server
    never_both = (cause, λ follows. record { unvalidated = limited follows; in_flight = flying follows })

module _ {F Q R C K S M : Type 0} {f : _} {c : _} {q : _} {m : _} {r : _}
    (client server : Sender F Q R C K S M (List ℕ) f c q m r) (wire : List WirePacket)
    (client_waits server_waits : List Waiting) where
  -- while bytes are in flight, by the log
  pub timed_at_both : (validated : Bool) (log : PairLog)
      → IsTied validated log client server wire client_waits server_waits
      → AreTimedAs (λ end. known_at end log) client server → AreTimed validated log client server
  timed_at_both validated log tied have = (
    timed_logged validated log Client client tied.ends.own tied.ends.logged have.0,
    timed_logged validated log Server server tied.ends.peer tied.ends.peer_logged have.1,
  )

  -- a datagram that is held back
  pub held_at : (end : End) (space : SpaceId) (now size : ℕ) (held : Transmission)
      (client_after server_after : Sender F Q R C K S M (List ℕ) f c q m r)
      → TurnsAt end (λ (old new : Sender F Q R C K S M (List ℕ) f c q m r). Continues GoesOnQuietly old new) client
      server client_after server_after → HoldsAt end (PermitsAnswer space now size (Ok (Held held))) client server
      → HoldsAt end (WaitsIfFull space (Ok (outgoing.Held held))) client_after server_after
      → ((known : End → Known) → AreTimedAs known client server → AreTimedAs known client_after server_after)
      → IfTied client server wire client_waits server_waits (λ validated log. HoldsWithCause client server
      client_after server_after validated log (steps.Send end space now size, Ok (Held held)))
  held_at Client space now size held client_after server_after turn permits waits timers validated log tied have =
      held_with_cause validated log Client client client_after tied.ends.own tied.ends.logged turn.0
      (timers (λ end. known_at end log) have).0 space now size held permits waits
  held_at Server space now size held client_after server_after turn permits waits timers validated log tied have =
      held_with_cause validated log Server server server_after tied.ends.peer tied.ends.peer_logged turn.0
      (timers (λ end. known_at end log) have).1 space now size held permits waits

module _ {F Q R C K S M : Type 0} {f : _} {c : _} {q : _} {m : _} {r : _}
    (client server : Sender F Q R C K S M (List ℕ) f c q m r) (wire : List WirePacket)
    (client_waits server_waits : List Waiting) where
  -- after a step that keeps the tie and the timers
  pub never_stuck : (step : PairStep) (answer : Result PairAnswer SenderError)
      (client_after server_after : Sender F Q R C K S M (List ℕ) f c q m r) (wire_after : List WirePacket)
      (client_waits_after server_waits_after : List Waiting)
      → StepKeeps client server wire client_waits server_waits step answer client_after server_after wire_after
      client_waits_after server_waits_after
      → KeepsTimers (step, answer) client server client_after server_after
      → IfTied client server wire client_waits server_waits (λ validated log. HoldsWithCause client server
      client_after server_after validated log (step, answer))
      → NeverStuck client server wire client_waits server_waits step answer client_after server_after
  never_stuck step answer client_after server_after wire_after client_waits_after server_waits_after keeps timers held =
      record {
        timed = timed;
        held = held;
        both = λ validated log tied have cause. never_both validated ((step, answer) ∷ log) client_after server_after
            (cause_kept log (step, answer) (keeps validated log tied).0.0.delivered cause)
            (timed validated log tied have);
      }
    where
      timed : IfTied client server wire client_waits server_waits (λ validated log.
          AreTimed validated ((step, answer) ∷ log) client_after server_after)
      timed validated log tied have = timed_at_both _ _ _ _ _ validated ((step, answer) ∷ log)
          (keeps validated log tied).1 (timers (λ end. known_at end log) have)
