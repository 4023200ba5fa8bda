-- The log of two endpoints stays tied to what their senders take, send and lose. So nothing is lost, and nothing is
-- sent again without cause.
use Rattle.std.proofs.Common.{◌≡◌, ℕ, ◌+◌, ◌≤◌, ◌&&◌, ◌||◌, ◌==◌, inl, inr, Bool, true, false, List, [], ◌∷◌, Option, None, Some, Result, Ok, refl, sym, ap, ◌∙◌, arith}
use Rattle.std.specs.Prelude.{if◌then◌else◌}
use Rattle.std.specs.Global.{Vec}
use Rattle.recovery_base.specs.declared.below.SpaceId.{SpaceId}
use Rattle.recovery_base.specs.Spaces.{same_space}
use Rattle.recovery_spaces.specs.Discarded.{is_discarded}
use Rattle.recovery_spaces.specs.Queued.{QueuedState}
use Rattle.recovery_sender.specs.Senders.{state_in}
use Rattle.recovery_sender.specs.declared.sender.Sender.{Sender}
use Rattle.recovery_sender.specs.declared.sender.SenderError.{SenderError}
use Rattle.recovery_sender.specs.declared.sender.probes.Timeout.{Timeout}
use Rattle.recovery_sender.specs.declared.sender.probes.Timeout.TheVariants as timeouts
use Rattle.recovery_pair.specs.declared.endpoint.Outgoing.TheVariants as outgoing
use Rattle.recovery_pair.specs.declared.endpoint.Waiting.{Waiting}
use Rattle.recovery_pair.specs.declared.steps.SentAck.{SentAck}
use Rattle.recovery_pair.specs.declared.steps.AckOutcome.TheVariants.{NoFrame, Refused, Taken}
use Rattle.recovery_pair.specs.declared.steps.End.{End}
use Rattle.recovery_pair.specs.declared.steps.End.TheVariants.{Client, Server}
use Rattle.recovery_pair.specs.declared.steps.Fate.{Fate}
use Rattle.recovery_pair.specs.declared.steps.Fate.TheVariants.{Dropped, Duplicate, New}
use Rattle.recovery_pair.specs.declared.steps.LocalStep.{LocalStep}
use Rattle.recovery_pair.specs.declared.steps.LocalStep.TheVariants.{Expire, Hand}
use Rattle.recovery_pair.specs.declared.steps.PairAnswer.{PairAnswer}
use Rattle.recovery_pair.specs.declared.steps.PairAnswer.TheVariants.{Arrived, Done, Expired, Failed, Nothing, Sent}
use Rattle.recovery_pair.specs.declared.steps.PairStep.{PairStep}
use Rattle.recovery_pair.specs.declared.steps.PairStep.TheVariants.{Arrive, Local, Send}
use Rattle.recovery_pair.specs.Carried.{CarriesItems, IsNoProbe, IsProbeIn, IsProbeWith, MovesBack, MovesItems, MovesNone, all_sent_with, amount_of, amount_sent, amount_with, hands_by, lost_by_fate, lost_by_local, lost_by_timeout, none_lost, sent_with}
use Rattle.recovery_pair.specs.Filled.{AtEnd}
use Rattle.recovery_pair.specs.Logs.{PairEvent, PairLog, handed, other_end, part, same_end, sends_of, sent_in, was_discarded}
use Rattle.recovery_pair.specs.Permits.{HoldsAt, IsIdle, PermitsOutcome}
use Rattle.recovery_pair.specs.Promises.Repeats.{RepeatsWithCause, has_failed, is_probe, probed_in}
use Rattle.recovery_pair.specs.Promises.Resends.{AddsItems, ResendsWhatIsLost, lost_by, lost_in, sent_under, sum_of}
use Rattle.recovery_pair.specs.Turns.{TurnsAt}
use Rattle.recovery_pair.specs.Waits.{LosesNone, waiting_in}
use Rattle.recovery_pair.proofs.AlongLaws.{beginning_of, past_after, went}
use Rattle.recovery_pair.proofs.ItemMoves.{empty_part, same_moves}
use Rattle.recovery_pair.proofs.LogLaws.{IsNoPacket, IsNotLocal}
use Rattle.recovery_pair.proofs.RepeatLaws.{none_taken, repeats_lost}
use Rattle.recovery_pair.proofs.RequeueLaws.{or_first, or_second, requeues_lost}

-- ---- what a step adds to the log of one endpoint

-- what its probes take is sent in probes, unless a packet cannot be tracked
abbrev pub AddsProbes : PairEvent → PairLog → End → Option (SpaceId × List ℕ) → Type 0
AddsProbes event log end probes = (measure : List ℕ → ℕ) → measure [] ≡ 0 → (space : SpaceId)
    → has_failed end space (event ∷ log) ≡ false → (has_failed end space log ≡ false)
    × (amount_of measure space probes + probed_in end space measure log ≤ probed_in end space measure (event ∷ log))

pub record AddsToLog (event : PairEvent) (log : PairLog) (end : End) (hands : Option (SpaceId × List ℕ))
    (sends : Option (SpaceId × ℕ × List ℕ)) (loses : SpaceId → List ℕ)
    (IsProbed : Option (SpaceId × List ℕ) → Type 0) : Type 0 where
  pub hands_is : (measure : List ℕ → ℕ) (space : SpaceId) → handed end measure space (event ∷ log)
      ≡ amount_of measure space hands + handed end measure space log
  pub sends_is : (measure : List ℕ → ℕ) (space : SpaceId) → sent_in end measure space (event ∷ log)
      ≡ amount_sent measure space sends + sent_in end measure space log
  pub under_is : (measure : List ℕ → ℕ) (space : SpaceId) (n : ℕ)
      → sum_of measure (sends_of end space n (event ∷ log))
      ≡ amount_with measure space n sends + sum_of measure (sends_of end space n log)
  pub loses_is : (space : SpaceId) → lost_by end space event ≡ loses space
  pub probes_is : (probes : Option (SpaceId × List ℕ)) → IsProbed probes → AddsProbes event log end probes

zero_plus : (a : ℕ) → a ≡ 0 + a
zero_plus a = omega arith

-- nothing
pub record AddsNothing (event : PairEvent) (log : PairLog) (end : End) : Type 0 where
  pub hands_same : (measure : List ℕ → ℕ) (space : SpaceId) → handed end measure space (event ∷ log)
      ≡ handed end measure space log
  pub sends_same : (measure : List ℕ → ℕ) (space : SpaceId) → sent_in end measure space (event ∷ log)
      ≡ sent_in end measure space log
  pub under_same : (space : SpaceId) (n : ℕ) → sends_of end space n (event ∷ log) ≡ sends_of end space n log
  pub loses_none : (space : SpaceId) → lost_by end space event ≡ []
  pub probes_same : (measure : List ℕ → ℕ) (space : SpaceId) → probed_in end space measure (event ∷ log)
      ≡ probed_in end space measure log
  pub fails_same : (space : SpaceId) → has_failed end space (event ∷ log) ≡ has_failed end space log

-- no probe takes anything
unprobed : (event : PairEvent) (log : PairLog) (end : End)
    → ((measure : List ℕ → ℕ) (space : SpaceId) → probed_in end space measure (event ∷ log)
    ≡ probed_in end space measure log)
    → ((space : SpaceId) → has_failed end space (event ∷ log) ≡ has_failed end space log)
    → (probes : Option (SpaceId × List ℕ)) → IsNoProbe probes → AddsProbes event log end probes
unprobed event log end same kept None none measure zero space tracks =
    let is = same measure space in (sym (kept space) ∙ tracks, omega (arith, is))
unprobed event log end same kept (Some one) none measure zero space tracks = absurd none

nothing_added : (event : PairEvent) (log : PairLog) (end : End) → AddsNothing event log end
    → AddsToLog event log end None None none_lost IsNoProbe
nothing_added event log end adds = record {
  hands_is = λ measure space. adds.hands_same measure space ∙ zero_plus _;
  sends_is = λ measure space. adds.sends_same measure space ∙ zero_plus _;
  under_is = λ measure space n. ap (sum_of measure) (adds.under_same space n) ∙ zero_plus _;
  loses_is = adds.loses_none;
  probes_is = unprobed event log end adds.probes_same adds.fails_same;
}

-- what is sent under a number is sent in the space
sends_within : (end : End) (measure : List ℕ → ℕ) (space : SpaceId) (n : ℕ) (log : PairLog)
    → sum_of measure (sends_of end space n log) ≤ sent_in end measure space log
sends_within end measure space n [] = omega arith
sends_within end measure space n ((Send from there now size, Ok (Sent number items eliciting window ack)) ∷ log) =
    by (sends_within end measure space n log) (same_end from end) (same_space there space) (number == n)
  where
    by : sum_of measure (sends_of end space n log) ≤ sent_in end measure space log → (a b d : Bool)
        → sum_of measure (if a && (b && d) then items.items ∷ sends_of end space n log else sends_of end space n log)
        ≤ part (a && b) (measure items.items) + sent_in end measure space log
    by rest true true true = omega (arith, rest)
    by rest true true false = omega (arith, rest)
    by rest true false d = omega (arith, rest)
    by rest false b d = omega (arith, rest)
sends_within end measure space n (event ∷ log) = sends_within end measure space n log

-- at both endpoints
pub at_each : (Holds : End → Type 0) → Holds Client → Holds Server → (end : End) → Holds end
at_each Holds client server Client = client
at_each Holds client server Server = server

module _ {F Q R C K S M : Type 0} {f : _} {c : _} {q : _} {m : _} {r : _} where
  pub under_past : (end : End) (log : PairLog) (here : Sender F Q R C K S M (List ℕ) f c q m r × List Waiting)
      (carried : CarriesItems log end here) (measure : List ℕ → ℕ) (space : SpaceId) (numbers : List ℕ)
      → all_sent_with q.contents measure space numbers carried.own.past ≡ sent_under end space measure numbers log
  under_past end log here carried measure space [] = refl
  under_past end log here carried measure space (n ∷ numbers) =
      let one = carried.sent measure space n in
      let rest = under_past end log here carried measure space numbers in
      omega (arith, one, rest)

  -- the tie stays
  pub carries_on : (event : PairEvent) (log : PairLog) (end : End) (hands : Option (SpaceId × List ℕ))
      (sends : Option (SpaceId × ℕ × List ℕ)) (loses : SpaceId → List ℕ)
      (IsProbed : Option (SpaceId × List ℕ) → Type 0)
      (old new : Sender F Q R C K S M (List ℕ) f c q m r × List Waiting)
      → AddsToLog event log end hands sends loses IsProbed → MovesItems hands sends loses IsProbed old new
      → CarriesItems log end old → CarriesItems (event ∷ log) end new
  carries_on event log end hands sends loses IsProbed old new adds moves carried =
      let own = went carried.own moves.goes in
      record {
        own = past_after carried.own moves.goes;
        held = λ measure none space. (
            let one = carried.held measure none space in
            let two = moves.balances measure none space in
            let three = own.2.taken measure space in
            let four = adds.hands_is measure space in
            let five = adds.sends_is measure space in omega (arith, one, two, three, four, five));
        sent = λ measure space n. (
            let one = carried.sent measure space n in
            let two = own.2.sent measure space n in
            let three = adds.under_is measure space n in omega (arith, one, two, three));
        lost = λ measure space. (
            let one = carried.lost measure space in
            let two = own.2.lost measure space in
            let three = ap (λ (numbers : List ℕ). sent_under end space measure numbers log) (adds.loses_is space) in
            let four = under_past end log old carried measure space (loses space) in
            omega (arith, one, two, three, four));
        calm = λ space. (own.2.probed (λ items. 0) space (carried.calm space)).0;
        probed = λ measure none space tracks. (
            let more = adds.probes_is moves.probes moves.probed measure none space tracks in
            let one = carried.probed measure none space more.0 in
            let two = (own.2.probed measure space (carried.calm space)).1 in
            let three = more.1 in omega (arith, one, two, three));
        adds = carried.adds;
        passed = λ measure items space none. (
            let hands = adds.hands_is measure space in
            let sends = adds.sends_is measure space in
            let contents = carried.adds measure items in
            let unpassed : handed end measure space log ≡ 0 = omega (arith, none, hands) in
            let before = carried.passed measure items space unpassed in
            let unsent : (n : ℕ) → sent_with q.contents measure space n carried.own.past ≡ 0 = λ n. (
            let one = carried.sent measure space n in
            let two = sends_within end measure space n log in omega (arith, one, two, before)) in
            let taken = none_taken (beginning_of carried.own) measure contents space carried.own.past
            carried.own.came.replies unsent in
            let held = carried.held measure items.none space in
            let takes = moves.resent carried.own measure contents space unsent in
            let all = moves.balances measure items.none space in
            omega (arith, none, hands, sends, before, taken, held, takes, all));
      }

  -- ---- nothing is lost

  abbrev pub KnowsDiscarded : PairLog → End → Sender F Q R C K S M (List ℕ) f c q m r → Type 0
  KnowsDiscarded log end sender =
      (space : SpaceId) → is_discarded space (state_in sender).discarded ≡ was_discarded end space log

  pub resends_all : (log : PairLog) (end : End) (here : Sender F Q R C K S M (List ℕ) f c q m r × List Waiting)
      (space : SpaceId) → CarriesItems log end here → KnowsDiscarded log end here.0 → IsIdle here.0 space
      → ((measure : List ℕ → ℕ) → waiting_in measure space here.1 ≡ 0) → was_discarded end space log ≡ false
      → (measure : List ℕ → ℕ) → AddsItems measure
      → handed end measure space log + lost_in end space measure log ≤ sent_in end measure space log
  resends_all log end here space carried known idle none keys measure adds =
      let contents = carried.adds measure adds in
      let own = carried.own in
      let dropped = own.came.state_after.discarded space in
      let active = known space ∙ keys in
      let all = requeues_lost (beginning_of own) measure contents space own.past own.came.replies (sym dropped ∙ active)
      in
      let waits = ap (λ (queued : QueuedState (List ℕ)). measure queued.pending)
      (own.came.state_after.spaces space).queued in
      let empty = ap measure (idle active).1 ∙ contents.none in
      let held = carried.held measure adds.none space in
      let lost = carried.lost measure space in
      let nothing = none measure in
      omega (arith, all, waits, empty, held, lost, nothing)

  -- ---- nothing is sent again without cause

  repeats_at : (log : PairLog) (end : End) (here : Sender F Q R C K S M (List ℕ) f c q m r × List Waiting)
      → CarriesItems log end here → (space : SpaceId) → has_failed end space log ≡ false → (measure : List ℕ → ℕ)
      → AddsItems measure → sent_in end measure space log
      ≤ handed end measure space log + (lost_in end space measure log + probed_in end space measure log)
  repeats_at log end here carried space tracks measure adds =
      let own = carried.own in
      let all = repeats_lost (beginning_of own) measure (carried.adds measure adds) space own.past own.came.replies in
      let held = carried.held measure adds.none space in
      let lost = carried.lost measure space in
      let probed = carried.probed measure adds.none space tracks in
      omega (arith, all, held, lost, probed)

  pub repeats_with_cause : (log : PairLog)
      (client server : Sender F Q R C K S M (List ℕ) f c q m r × List Waiting) → CarriesItems log Client client
      → CarriesItems log Server server → RepeatsWithCause log
  repeats_with_cause log client server own peer Client = repeats_at log Client client own
  repeats_with_cause log client server own peer Server = repeats_at log Server server peer

  -- ---- one endpoint makes a step, the other does nothing

  abbrev pub ItemsKept : (client server : Sender F Q R C K S M (List ℕ) f c q m r × List Waiting) (step : PairStep)
      (answer : Result PairAnswer SenderError)
      (client_after server_after : Sender F Q R C K S M (List ℕ) f c q m r × List Waiting) → Type 0
  ItemsKept client server step answer client_after server_after = (log : PairLog)
      → KnowsDiscarded log Client client.0 → KnowsDiscarded log Server server.0 → CarriesItems log Client client
      → CarriesItems log Server server → ResendsWhatIsLost log (step, answer)
      × CarriesItems ((step, answer) ∷ log) Client client_after
      × CarriesItems ((step, answer) ∷ log) Server server_after

  idle_on : (event : PairEvent) (log : PairLog) (end : End)
      (old new : Sender F Q R C K S M (List ℕ) f c q m r × List Waiting) → AddsNothing event log end → new ≡ old
      → CarriesItems log end old → CarriesItems (event ∷ log) end new
  idle_on event log end old new adds same =
      carries_on event log end None None none_lost IsNoProbe old new (nothing_added event log end adds)
      (same_moves old.0 new.0 old.1 new.1
      (ap (λ it. it.0) same) (ap (λ it. it.1) same))

  pub items_turn : (end : End) (hands : Option (SpaceId × List ℕ)) (sends : Option (SpaceId × ℕ × List ℕ))
      (loses : SpaceId → List ℕ) (IsProbed : Option (SpaceId × List ℕ) → Type 0) (step : PairStep)
      (answer : Result PairAnswer SenderError)
      (Also : Sender F Q R C K S M (List ℕ) f c q m r × List Waiting → Type 0)
      → ((log : PairLog) (here : Sender F Q R C K S M (List ℕ) f c q m r × List Waiting) → Also here
      → KnowsDiscarded log end here.0 → CarriesItems log end here → ResendsWhatIsLost log (step, answer))
      → ((log : PairLog) → AddsToLog (step, answer) log end hands sends loses IsProbed)
      → ((log : PairLog) → AddsNothing (step, answer) log (other_end end))
      → (client server client_after server_after : Sender F Q R C K S M (List ℕ) f c q m r × List Waiting)
      → AtEnd end Also client server
      → TurnsAt end (MovesItems hands sends loses IsProbed) client server client_after server_after
      → ItemsKept client server step answer client_after server_after
  items_turn Client hands sends loses IsProbed step answer Also resends adds idle client server client_after
      server_after also turns log own_keys peer_keys own peer = (
        resends log client also own_keys own,
        carries_on (step, answer) log Client hands sends loses IsProbed client client_after (adds log) turns.0 own,
        idle_on (step, answer) log Server server server_after (idle log) turns.1 peer,
      )
  items_turn Server hands sends loses IsProbed step answer Also resends adds idle client server client_after
      server_after also turns log own_keys peer_keys own peer = (
        resends log server also peer_keys peer,
        idle_on (step, answer) log Client client client_after (idle log) turns.1 own,
        carries_on (step, answer) log Server hands sends loses IsProbed server server_after (adds log) turns.0 peer,
      )

  -- nothing else is known
  abbrev pub Any : Sender F Q R C K S M (List ℕ) f c q m r × List Waiting → Type 0
  Any here = Unit {0}

  any_of : (end : End) (client server : Sender F Q R C K S M (List ℕ) f c q m r × List Waiting)
      → AtEnd end Any client server
  any_of Client client server = tt
  any_of Server client server = tt

-- ---- a packet is sent

module _ (log : PairLog) (space : SpaceId) (now size n : ℕ) (items : Vec ℕ) (eliciting : Bool) (window : Option ℕ)
    (ack : SentAck) where
  abbrev goes_out : End → PairEvent
  goes_out end = (Send end space now size, Ok (Sent n items eliciting window ack))

  under_if : (b : Bool) (measure : List ℕ → ℕ) (more : List (List ℕ))
      → sum_of measure (if b then items.items ∷ more else more) ≡ part b (measure items.items) + sum_of measure more
  under_if true measure more = refl
  under_if false measure more = zero_plus _

  -- what a probe took is sent
  and_true : (b : Bool) (amount : ℕ) → part (b && true) amount ≡ part b amount
  and_true true amount = refl
  and_true false amount = refl

  probed_most : (probe : Bool) (probes : Option (SpaceId × List ℕ)) → IsProbeWith probe space items.items probes
      → (measure : List ℕ → ℕ) → measure [] ≡ 0 → (there : SpaceId)
      → amount_of measure there probes ≤ part (same_space space there && probe) (measure items.items)
  probed_most probe None is measure zero there = omega arith
  probed_most true (Some (at, list)) (is, inl none) measure zero there =
      let empty = empty_part (same_space at there) (measure list) (ap measure none ∙ zero) in omega (arith, empty)
  probed_most true (Some (at, list)) (is, inr same) measure zero there =
      let one = ap (λ (s : SpaceId). part (same_space s there) (measure list)) is in
      let two = ap (λ (these : List ℕ). part (same_space space there) (measure these)) same in
      let three = and_true (same_space space there) (measure items.items) in
      omega (arith, one, two, three)
  probed_most false (Some one) never measure zero there = absurd never

  probed_more : (probes : Option (SpaceId × List ℕ))
      → IsProbeWith (is_probe eliciting window) space items.items probes → (measure : List ℕ → ℕ) → measure [] ≡ 0
      → (there : SpaceId) (more : ℕ) → amount_of measure there probes + more
      ≤ part (same_space space there && is_probe eliciting window) (measure items.items) + more
  probed_more probes is measure zero there more =
      let most = probed_most (is_probe eliciting window) probes is measure zero there in omega (arith, most)

  sent_adds : (end : End) → AddsToLog (goes_out end) log end None (Some (space, n, items.items)) none_lost
      (IsProbeWith (is_probe eliciting window) space items.items)
  sent_adds Client = record {
    hands_is = λ measure there. zero_plus _;
    sends_is = λ measure there. refl;
    under_is = λ measure there k. under_if (same_space space there && n == k) measure (sends_of Client there k log);
    loses_is = λ there. refl;
    probes_is = λ probes is measure zero there tracks. (tracks, probed_more probes is measure zero there _);
  }
  sent_adds Server = record {
    hands_is = λ measure there. zero_plus _;
    sends_is = λ measure there. refl;
    under_is = λ measure there k. under_if (same_space space there && n == k) measure (sends_of Server there k log);
    loses_is = λ there. refl;
    probes_is = λ probes is measure zero there tracks. (tracks, probed_more probes is measure zero there _);
  }

  sent_adds_not : (end : End) → AddsNothing (goes_out end) log (other_end end)
  sent_adds_not Client = record {
    hands_same = λ measure there. refl;
    sends_same = λ measure there. sym (zero_plus (sent_in Server measure there log));
    under_same = λ there k. refl;
    loses_none = λ there. refl;
    probes_same = λ measure there. sym (zero_plus (probed_in Server there measure log));
    fails_same = λ there. refl;
  }
  sent_adds_not Server = record {
    hands_same = λ measure there. refl;
    sends_same = λ measure there. sym (zero_plus (sent_in Client measure there log));
    under_same = λ there k. refl;
    loses_none = λ there. refl;
    probes_same = λ measure there. sym (zero_plus (probed_in Client there measure log));
    fails_same = λ there. refl;
  }

-- ---- a packet cannot be tracked

module _ (log : PairLog) (space : SpaceId) (now size : ℕ) (refusal : SenderError) where
  abbrev fails_there : End → PairEvent
  fails_there end = (Send end space now size, Ok (Failed refusal))

  -- a probe of another space took nothing here
  elsewhere : (probes : Option (SpaceId × List ℕ)) → IsProbeIn space probes → (measure : List ℕ → ℕ) (there : SpaceId)
      → same_space space there ≡ false → amount_of measure there probes ≡ 0
  elsewhere None is measure there apart = refl
  elsewhere (Some (at, list)) is measure there apart =
      let one = ap (λ (s : SpaceId). part (same_space s there) (measure list)) is in
      let two = ap (λ (b : Bool). part b (measure list)) apart in
      omega (arith, one, two)

  fails_there_only : (failed : Bool) (more : ℕ) (probes : Option (SpaceId × List ℕ)) → IsProbeIn space probes
      → (measure : List ℕ → ℕ) (there : SpaceId) → (same_space space there || failed) ≡ false
      → (failed ≡ false) × (amount_of measure there probes + more ≤ more)
  fails_there_only failed more probes is measure there tracks =
      let none = elsewhere probes is measure there (or_first (same_space space there) failed tracks) in
      (or_second (same_space space there) failed tracks, omega (arith, none))

  fails_adds : (end : End) → AddsToLog (fails_there end) log end None None none_lost (IsProbeIn space)
  fails_adds Client = record {
    hands_is = λ measure there. zero_plus _;
    sends_is = λ measure there. zero_plus _;
    under_is = λ measure there k. zero_plus _;
    loses_is = λ there. refl;
    probes_is = λ probes is measure zero there. fails_there_only (has_failed Client there log)
        (probed_in Client there measure log) probes is measure there;
  }
  fails_adds Server = record {
    hands_is = λ measure there. zero_plus _;
    sends_is = λ measure there. zero_plus _;
    under_is = λ measure there k. zero_plus _;
    loses_is = λ there. refl;
    probes_is = λ probes is measure zero there. fails_there_only (has_failed Server there log)
        (probed_in Server there measure log) probes is measure there;
  }

  fails_adds_not : (end : End) → AddsNothing (fails_there end) log (other_end end)
  fails_adds_not Client = record {
    hands_same = λ measure there. refl;
    sends_same = λ measure there. refl;
    under_same = λ there k. refl;
    loses_none = λ there. refl;
    probes_same = λ measure there. refl;
    fails_same = λ there. refl;
  }
  fails_adds_not Server = record {
    hands_same = λ measure there. refl;
    sends_same = λ measure there. refl;
    under_same = λ there k. refl;
    loses_none = λ there. refl;
    probes_same = λ measure there. refl;
    fails_same = λ there. refl;
  }

-- ---- a step by which nothing is sent and nothing arrives

-- a packet was tracked, or none was sent
abbrev pub IsTracked : PairEvent → Type 0
IsTracked (step, Ok (Failed refusal)) = ⊥
IsTracked event = Unit {0}

send_idle : (log : PairLog) (at end : End) (space : SpaceId) (now size : ℕ) (answer : Result PairAnswer SenderError)
    → IsNoPacket (Send end space now size, answer) → IsTracked (Send end space now size, answer)
    → AddsNothing (Send end space now size, answer) log at
send_idle log at end space now size (Ok (Sent n items eliciting window ack)) none tracks = absurd none
send_idle log at end space now size (Ok (Failed refusal)) none tracks = absurd tracks
send_idle log at end space now size answer none tracks = record {
  hands_same = λ measure there. refl;
  sends_same = λ measure there. refl;
  under_same = λ there k. refl;
  loses_none = λ there. refl;
  probes_same = λ measure there. refl;
  fails_same = λ there. refl;
}

arrive_idle : (log : PairLog) (end : End) (at now : ℕ) (answer : Result PairAnswer SenderError)
    → IsNoPacket (Arrive at now, answer) → AddsNothing (Arrive at now, answer) log end
arrive_idle log end at now (Ok (Arrived to space n size fate)) none = absurd none
arrive_idle log end at now answer none = record {
  hands_same = λ measure there. refl;
  sends_same = λ measure there. refl;
  under_same = λ there k. refl;
  loses_none = λ there. refl;
  probes_same = λ measure there. refl;
  fails_same = λ there. refl;
}

step_idle : (log : PairLog) (end : End) (step : PairStep) (answer : Result PairAnswer SenderError)
    → IsNoPacket (step, answer) → IsNotLocal step → IsTracked (step, answer) → AddsNothing (step, answer) log end
step_idle log end (Send at space now size) answer none other tracks =
    send_idle log end at space now size answer none tracks
step_idle log end (Arrive at now) answer none other tracks = arrive_idle log end at now answer none
step_idle log end (Local at step) answer none other tracks = absurd other

-- ---- a packet arrives

module _ (log : PairLog) (at now : ℕ) (space : SpaceId) (n size : ℕ) where
  lost_at_it : (to : End) (fate : Fate) (there : SpaceId)
      → lost_by to there (Arrive at now, Ok (Arrived to space n size fate)) ≡ lost_by_fate space (Ok fate) there
  lost_at_it Client (New items (Taken acked)) there = refl
  lost_at_it Server (New items (Taken acked)) there = refl
  lost_at_it to (New items NoFrame) there = refl
  lost_at_it to (New items (Refused refusal)) there = refl
  lost_at_it to Duplicate there = refl
  lost_at_it to (Dropped refusal) there = refl

  lost_not_there : (to : End) (fate : Fate) (there : SpaceId)
      → lost_by (other_end to) there (Arrive at now, Ok (Arrived to space n size fate)) ≡ []
  lost_not_there Client (New items (Taken acked)) there = refl
  lost_not_there Server (New items (Taken acked)) there = refl
  lost_not_there to (New items NoFrame) there = refl
  lost_not_there to (New items (Refused refusal)) there = refl
  lost_not_there to Duplicate there = refl
  lost_not_there to (Dropped refusal) there = refl

  arrived_adds : (to : End) (fate : Fate) → AddsToLog (Arrive at now, Ok (Arrived to space n size fate)) log to None
      None (lost_by_fate space (Ok fate)) IsNoProbe
  arrived_adds to fate = record {
    hands_is = λ measure there. zero_plus _;
    sends_is = λ measure there. zero_plus _;
    under_is = λ measure there k. zero_plus _;
    loses_is = lost_at_it to fate;
    probes_is = unprobed (Arrive at now, Ok (Arrived to space n size fate)) log to (λ measure there. refl)
        (λ there. refl);
  }

  arrived_adds_not : (to : End) (fate : Fate)
      → AddsNothing (Arrive at now, Ok (Arrived to space n size fate)) log (other_end to)
  arrived_adds_not to fate = record {
    hands_same = λ measure there. refl;
    sends_same = λ measure there. refl;
    under_same = λ there k. refl;
    loses_none = lost_not_there to fate;
    probes_same = λ measure there. refl;
    fails_same = λ there. refl;
  }

-- ---- something happens at one endpoint

module _ (log : PairLog) where
  passed_here : (end : End) (measure : List ℕ → ℕ) (there space : SpaceId) (items : Vec ℕ)
      → handed end measure there ((Local end (Hand space items), Ok Done) ∷ log)
      ≡ part (same_space space there) (measure items.items) + handed end measure there log
  passed_here Client measure there space items = refl
  passed_here Server measure there space items = refl

  passes_is : (end : End) (step : LocalStep) (answer : Result PairAnswer SenderError) (measure : List ℕ → ℕ)
      (there : SpaceId) → handed end measure there ((Local end step, answer) ∷ log)
      ≡ amount_of measure there (hands_by step answer) + handed end measure there log
  passes_is end (Hand space items) (Ok Done) measure there = passed_here end measure there space items
  passes_is end (Hand space items) answer measure there = zero_plus _
  passes_is end step answer measure there = zero_plus _

  passes_not : (end : End) (step : LocalStep) (answer : Result PairAnswer SenderError) (measure : List ℕ → ℕ)
      (there : SpaceId)
      → handed (other_end end) measure there ((Local end step, answer) ∷ log) ≡ handed (other_end end) measure there log
  passes_not Client (Hand space items) (Ok Done) measure there = sym (zero_plus (handed Server measure there log))
  passes_not Server (Hand space items) (Ok Done) measure there = sym (zero_plus (handed Client measure there log))
  passes_not end (Hand space items) answer measure there = refl
  passes_not end step answer measure there = refl

timer_is : (end : End) (now : ℕ) (timeout : Timeout) (there : SpaceId)
    → lost_by end there (Local end (Expire now), Ok (Expired timeout)) ≡ lost_by_timeout (Ok timeout) there
timer_is Client now (timeouts.Lost space losses) there = refl
timer_is Server now (timeouts.Lost space losses) there = refl
timer_is end now timeout there = refl

timer_not : (end : End) (now : ℕ) (timeout : Timeout) (there : SpaceId)
    → lost_by (other_end end) there (Local end (Expire now), Ok (Expired timeout)) ≡ []
timer_not Client now (timeouts.Lost space losses) there = refl
timer_not Server now (timeouts.Lost space losses) there = refl
timer_not end now timeout there = refl

local_is : (end : End) (step : LocalStep) (answer : Result PairAnswer SenderError) (there : SpaceId)
    → lost_by end there (Local end step, answer) ≡ lost_by_local step answer there
local_is end (Expire now) (Ok (Expired timeout)) there = timer_is end now timeout there
local_is end (Expire now) answer there = refl
local_is end step answer there = refl

local_not : (end : End) (step : LocalStep) (answer : Result PairAnswer SenderError) (there : SpaceId)
    → lost_by (other_end end) there (Local end step, answer) ≡ []
local_not end (Expire now) (Ok (Expired timeout)) there = timer_not end now timeout there
local_not end (Expire now) answer there = refl
local_not end step answer there = refl

-- ---- each kind of step

module _ {F Q R C K S M : Type 0} {f : _} {c : _} {q : _} {m : _} {r : _} where
  pub sent_items : (end : End) (space : SpaceId) (now size n : ℕ) (items : Vec ℕ) (eliciting : Bool)
      (window : Option ℕ) (ack : SentAck)
      (client server client_after server_after : Sender F Q R C K S M (List ℕ) f c q m r × List Waiting)
      → TurnsAt end (MovesItems None (Some (space, n, items.items)) none_lost
      (IsProbeWith (is_probe eliciting window) space items.items)) client server client_after server_after
      → ItemsKept client server (Send end space now size) (Ok (Sent n items eliciting window ack)) client_after
      server_after
  sent_items end space now size n items eliciting window ack client server client_after server_after =
      items_turn end None (Some (space, n, items.items)) none_lost
      (IsProbeWith (is_probe eliciting window) space items.items) (Send end space now size)
      (Ok (Sent n items eliciting window ack)) Any (λ log here also known carried. tt)
      (λ log. sent_adds log space now size n items eliciting window ack end)
      (λ log. sent_adds_not log space now size n items eliciting window ack end) client server client_after
      server_after (any_of end client server)

  -- a packet cannot be tracked
  pub failed_items : (end : End) (space : SpaceId) (now size : ℕ) (refusal : SenderError)
      (client server client_after server_after : Sender F Q R C K S M (List ℕ) f c q m r × List Waiting)
      → TurnsAt end (MovesBack space) client server client_after server_after
      → ItemsKept client server (Send end space now size) (Ok (Failed refusal)) client_after server_after
  failed_items end space now size refusal client server client_after server_after =
      items_turn end None None none_lost (IsProbeIn space) (Send end space now size) (Ok (Failed refusal)) Any
      (λ log here also known carried. tt) (λ log. fails_adds log space now size refusal end)
      (λ log. fails_adds_not log space now size refusal end) client server client_after server_after
      (any_of end client server)

  -- nothing is sent, and nothing arrives
  pub idle_items : (end : End) (step : PairStep) (answer : Result PairAnswer SenderError)
      (client server client_after server_after : Sender F Q R C K S M (List ℕ) f c q m r × List Waiting)
      → IsNoPacket (step, answer) → IsNotLocal step → IsTracked (step, answer)
      → ((log : PairLog) → ResendsWhatIsLost log (step, answer))
      → TurnsAt end MovesNone client server client_after server_after
      → ItemsKept client server step answer client_after server_after
  idle_items end step answer client server client_after server_after none other tracks resends =
      items_turn end None None none_lost IsNoProbe step answer Any (λ log here also known carried. resends log)
      (λ log. nothing_added (step, answer) log end (step_idle log end step answer none other tracks))
      (λ log. step_idle log (other_end end) step answer none other tracks) client server client_after server_after
      (any_of end client server)

  -- nothing at all happens
  pub same_items : (step : PairStep) (answer : Result PairAnswer SenderError)
      (client server : Sender F Q R C K S M (List ℕ) f c q m r × List Waiting)
      → IsNoPacket (step, answer) → IsNotLocal step → IsTracked (step, answer)
      → ((log : PairLog) → ResendsWhatIsLost log (step, answer)) → ItemsKept client server step answer client server
  same_items step answer client server none other tracks resends =
      idle_items Client step answer client server client server none other tracks resends
      (same_moves client.0 client.0 client.1 client.1 refl refl, refl)

  -- there is nothing to send
  abbrev pub IsIdleHere : SpaceId → Sender F Q R C K S M (List ℕ) f c q m r × List Waiting → Type 0
  IsIdleHere space here = IsIdle here.0 space × ((measure : List ℕ → ℕ) → waiting_in measure space here.1 ≡ 0)

  idle_here : (end : End) (space : SpaceId) (now size : ℕ)
      (client server client_after server_after : Sender F Q R C K S M (List ℕ) f c q m r × List Waiting)
      → HoldsAt end (PermitsOutcome space now size (Ok outgoing.Nothing)) client.0 server.0
      → TurnsAt end (λ (old new : List Waiting). LosesNone old new
      × ((measure : List ℕ → ℕ) → waiting_in measure space old ≡ 0)) client.1 server.1 client_after.1 server_after.1
      → AtEnd end (IsIdleHere space) client server
  idle_here Client space now size client server client_after server_after permits waits = (permits.1, waits.0.1)
  idle_here Server space now size client server client_after server_after permits waits = (permits.1, waits.0.1)

  pub nothing_items : (end : End) (space : SpaceId) (now size : ℕ)
      (client server client_after server_after : Sender F Q R C K S M (List ℕ) f c q m r × List Waiting)
      → HoldsAt end (PermitsOutcome space now size (Ok outgoing.Nothing)) client.0 server.0
      → TurnsAt end (λ (old new : List Waiting). LosesNone old new
      × ((measure : List ℕ → ℕ) → waiting_in measure space old ≡ 0)) client.1 server.1 client_after.1 server_after.1
      → TurnsAt end MovesNone client server client_after server_after
      → ItemsKept client server (Send end space now size) (Ok Nothing) client_after server_after
  nothing_items end space now size client server client_after server_after idle waits =
      items_turn end None None none_lost IsNoProbe (Send end space now size) (Ok Nothing) (IsIdleHere space)
      (λ log here also known carried keys measure items. resends_all log end here space carried known also.0 also.1 keys
      measure items)
      (λ log. nothing_added (Send end space now size, Ok Nothing) log end
      (step_idle log end (Send end space now size) (Ok Nothing) tt tt tt))
      (λ log. step_idle log (other_end end) (Send end space now size) (Ok Nothing) tt tt tt) client server client_after
      server_after (idle_here end space now size client server client_after server_after idle waits)

  pub arrived_items : (to : End) (at now : ℕ) (space : SpaceId) (n size : ℕ) (fate : Fate)
      (client server client_after server_after : Sender F Q R C K S M (List ℕ) f c q m r × List Waiting)
      → TurnsAt to (MovesItems None None (lost_by_fate space (Ok fate)) IsNoProbe) client server client_after
      server_after → ItemsKept client server (Arrive at now) (Ok (Arrived to space n size fate)) client_after
      server_after
  arrived_items to at now space n size fate client server client_after server_after =
      items_turn to None None (lost_by_fate space (Ok fate)) IsNoProbe (Arrive at now)
      (Ok (Arrived to space n size fate)) Any (λ log here also known carried. tt)
      (λ log. arrived_adds log at now space n size to fate)
      (λ log. arrived_adds_not log at now space n size to fate) client server client_after server_after
      (any_of to client server)

  pub local_items : (end : End) (step : LocalStep) (answer : Result PairAnswer SenderError)
      (client server client_after server_after : Sender F Q R C K S M (List ℕ) f c q m r × List Waiting)
      → TurnsAt end (MovesItems (hands_by step answer) None (lost_by_local step answer) IsNoProbe) client server
      client_after server_after → ItemsKept client server (Local end step) answer client_after server_after
  local_items end step answer client server client_after server_after =
      items_turn end (hands_by step answer) None (lost_by_local step answer) IsNoProbe (Local end step) answer Any
      (λ log here also known carried. tt)
      (λ log. record {
        hands_is = passes_is log end step answer;
        sends_is = λ measure there. zero_plus _;
        under_is = λ measure there k. zero_plus _;
        loses_is = local_is end step answer;
        probes_is = unprobed (Local end step, answer) log end (λ measure there. refl) (λ there. refl);
      })
      (λ log. record {
        hands_same = passes_not log end step answer;
        sends_same = λ measure there. refl;
        under_same = λ there k. refl;
        loses_none = local_not end step answer;
        probes_same = λ measure there. refl;
        fails_same = λ there. refl;
      }) client server client_after server_after (any_of end client server)
