-- A probe without items is sent only if no packet in flight has items left. So probes before it moved out what these
-- packets were sent with.
use Rattle.std.proofs.Common.{◌≡◌, ◌≢◌, ◌<◌, ◌≤◌, ℕ, Bool, true, false, true≢false, List, [], ◌∷◌, Option, None, Some, Result, Ok, refl, sym, ap, subst, ◌∙◌, arith}
use Rattle.std.specs.Prelude.{is_some, nat_eq}
use Rattle.std.specs.Set.{is_member}
use Rattle.std.proofs.lemmas.Bool.Decides.{nat_tests}
use Rattle.recovery_base.specs.declared.below.SpaceId.{SpaceId}
use Rattle.recovery_base.specs.Spaces.{same_space}
use Rattle.recovery_losses.specs.Variables.{is_probe_due}
use Rattle.recovery_spaces.specs.Packets.{Packet, Packets, packet_at, without}
use Rattle.recovery_spaces.specs.Queued.{QueuedState}
use Rattle.recovery_spaces.specs.Spaces.{packets_of, space_of}
use Rattle.recovery_spaces.specs.Tracked.{SentState}
use Rattle.recovery_spaces.proofs.PacketLaws.{number_at}
use Rattle.recovery_history.specs.History.{History}
use Rattle.recovery_history.specs.RepliesAfter.{RepliesAfter}
use Rattle.recovery_history.proofs.Runs.{kept_after}
use Rattle.recovery_history.proofs.TrackedLaws.{AllTracked, keeps_tracked, none_tracked, one_space, tracked_found}
use Rattle.recovery_sender.specs.Senders.{state_in}
use Rattle.recovery_sender.specs.declared.sender.Sender.{Sender}
use Rattle.recovery_sender.specs.declared.sender.SenderError.{SenderError}
use Rattle.recovery_sender.specs.declared.sender.probes.Timeout.TheVariants.{Probe}
use Rattle.recovery_pair.specs.declared.endpoint.Waiting.{Waiting}
use Rattle.recovery_pair.specs.declared.steps.End.{End}
use Rattle.recovery_pair.specs.declared.steps.End.TheVariants.{Client, Server}
use Rattle.recovery_pair.specs.declared.steps.LocalStep.TheVariants.{Expire}
use Rattle.recovery_pair.specs.declared.steps.PairAnswer.{PairAnswer}
use Rattle.recovery_pair.specs.declared.steps.PairAnswer.TheVariants.{Expired, Held, Nothing, Sent}
use Rattle.recovery_pair.specs.declared.steps.PairStep.{PairStep}
use Rattle.recovery_pair.specs.declared.steps.PairStep.TheVariants.{Local, Send}
use Rattle.recovery_pair.specs.declared.steps.WirePacket.{WirePacket}
use Rattle.recovery_pair.specs.Carried.{CarriesItems, all_sent_with, sent_with}
use Rattle.recovery_pair.specs.Expires.{AsksAt}
use Rattle.recovery_pair.specs.Filled.{AtEnd, CarryNone, FillsProbes, RepeatsNone}
use Rattle.recovery_pair.specs.Logs.{PairLog, was_discarded}
use Rattle.recovery_pair.specs.Pasts.{HasPast}
use Rattle.recovery_pair.specs.Permits.{IsIdle, SendsAsPermitted}
use Rattle.recovery_pair.specs.Promises.Newly.{all_but, flight_of_one}
use Rattle.recovery_pair.specs.Promises.Probes.{AreInFlight, IsAsked, ProbesForFlight}
use Rattle.recovery_pair.specs.Promises.Repeats.{has_failed, probed_in}
use Rattle.recovery_pair.specs.Promises.Resends.{AddsItems, sent_under}
use Rattle.recovery_pair.specs.Tied.{AsksProbes, IsLogged, IsTied}
use Rattle.recovery_pair.proofs.AlongLaws.{beginning_of}
use Rattle.recovery_pair.proofs.ItemTies.{under_past}
use Rattle.recovery_pair.proofs.NewlyLaws.{flight_tracked}
use Rattle.recovery_pair.proofs.PermitLaws.{held_if_due, sent_if_due}
use Rattle.recovery_pair.proofs.RepeatLaws.{repeats_lost}
use Rattle.recovery_pair.proofs.RequeueLaws.{owed, owed_lost, owes_now}

module _ {M : Type 0} where
  none_without : (packets : Packets (List ℕ) M) (n : ℕ) → CarryNone packets → CarryNone (without packets n)
  none_without [] n none = tt
  none_without (entry ∷ packets) n none = grind (arith, none, none_without packets n)

  none_there : (packets : Packets (List ℕ) M) (n : ℕ) (packet : Packet (List ℕ) M) → CarryNone packets
      → packet_at packets n ≡ Some packet → packet.retransmits ≡ []
  none_there [] n packet none found = absurd (cc)
  none_there (entry ∷ packets) n packet none found =
      grind (arith, none, found, number_at n entry.0, none_there packets n packet)

  still_there : (packets : Packets (List ℕ) M) (n k : ℕ) → k ≢ n → packet_at (without packets n) k ≡ packet_at packets k
  still_there [] n k other = refl
  still_there (entry ∷ packets) n k other =
      grind (arith, number_at n entry.0, number_at k entry.0, still_there packets n k other)

  -- different numbers that are tracked
  abbrev AreTracked : Packets (List ℕ) M → List ℕ → Type 0
  AreTracked packets [] = Unit {0}
  AreTracked packets (n ∷ numbers) = ((packet : Packet (List ℕ) M) × (packet_at packets n ≡ Some packet))
      × (is_member nat_eq numbers n ≡ false) × AreTracked packets numbers

  tracked_still : (packets : Packets (List ℕ) M) (n : ℕ) (numbers : List ℕ) → is_member nat_eq numbers n ≡ false
      → AreTracked packets numbers → AreTracked (without packets n) numbers
  tracked_still packets n [] apart tracked = tt
  tracked_still packets n (k ∷ numbers) apart tracked = (
    (
      tracked.0.0,
      still_there packets n k (λ same. true≢false (grind (arith, nat_tests, same, apart))) ∙ tracked.0.1,
    ),
    tracked.1,
    tracked_still packets n numbers (grind (arith, nat_tests, apart)) tracked.2,
  )

-- ---- at an endpoint

some_there : {A : Type 0} (found : Option A) → is_some found ≡ true → (a : A) × (found ≡ Some a)
some_there None is = absurd (true≢false (sym is))
some_there (Some a) is = (a, refl)

module _ {Q S M : Type 0} where
  -- what different packets were sent with is owed, if they have nothing left
  owed_least : (contents : Q → List ℕ) (measure : List ℕ → ℕ) → measure [] ≡ 0 → (space : SpaceId)
      (past : History Q S M (List ℕ)) (numbers : List ℕ) (packets : Packets (List ℕ) M) → CarryNone packets
      → AreTracked packets numbers → all_sent_with contents measure space numbers past
      ≤ owed measure (λ n. sent_with contents measure space n past) packets
  owed_least contents measure zero space past [] packets none tracked = omega arith
  owed_least contents measure zero space past (n ∷ numbers) packets none tracked =
      let lost = owed_lost measure (λ n. sent_with contents measure space n past) packets n tracked.0.0 tracked.0.1 in
      let rest = owed_least contents measure zero space past numbers (without packets n) (none_without packets n none)
      (tracked_still packets n numbers tracked.1 tracked.2) in
      let empty = ap measure (none_there packets n tracked.0.0 none tracked.0.1) ∙ zero in
      omega (arith, lost, rest, empty)

module _ {F Q R C K S M : Type 0} {f : _} {c : _} {q : _} {m : _} {r : _} where
  module _ (validated : Bool) (log : PairLog) (end : End)
      (here : Sender F Q R C K S M (List ℕ) f c q m r × List Waiting) (own : HasPast here.0)
      (logged : IsLogged validated log end own.config.validated own.past) (carried : CarriesItems log end here)
      (space : SpaceId) where
    abbrev packets : Packets (List ℕ) M
    packets = packets_of (space_of space (state_in here.0).spaces)

    flying : (n : ℕ) → 0 < flight_of_one end space n log
        → (packet : Packet (List ℕ) M) × (packet_at packets n ≡ Some packet)
    flying n some =
        let beginning = beginning_of own in
        let more = logged.flight (all_but space n) in
        let all = kept_after (RepliesAfter beginning) (AllTracked beginning) (keeps_tracked beginning)
        (none_tracked beginning) own.past own.came.replies in
        some_there (packet_at packets n) (ap (λ (sent : SentState (List ℕ) M). is_some (packet_at sent.tracked n))
        (own.came.state_after.spaces space).sent ∙ tracked_found beginning own.past all space n
        ∙ flight_tracked space n own.past (omega (arith, some, more)))

    are_tracked : (numbers : List ℕ) → AreInFlight end space log numbers → AreTracked packets numbers
    are_tracked [] flights = tt
    are_tracked (n ∷ numbers) flights = (flying n flights.0, flights.1, are_tracked numbers flights.2)

    probes_before : RepeatsNone space here.0 → was_discarded end space log ≡ false → has_failed end space log ≡ false
        → (measure : List ℕ → ℕ) → AddsItems measure → (numbers : List ℕ) → AreInFlight end space log numbers
        → sent_under end space measure numbers log ≤ probed_in end space measure log
    probes_before none keys tracks measure adds numbers flights =
        let from = carried.own in
        let beginning = beginning_of from in
        let contents = carried.adds measure adds in
        let owes = owes_now beginning measure contents space from.past from.came.replies
        (sym (from.came.state_after.discarded space) ∙ own.came.state_after.discarded space ∙ logged.discarded space
        ∙ keys) in
        let waits = ap (λ (queued : QueuedState (List ℕ)). measure queued.pending)
        (from.came.state_after.spaces space).queued in
        let same = ap (λ (sent : SentState (List ℕ) M). owed measure
        (λ n. sent_with q.contents measure space n from.past) sent.tracked) (from.came.state_after.spaces space).sent in
        let least = owed_least q.contents measure adds.none space from.past numbers packets none.1
        (are_tracked numbers flights) in
        let under = under_past end log here carried measure space numbers in
        let empty = ap measure none.0 ∙ adds.none in
        let most = repeats_lost beginning measure contents space from.past from.came.replies in
        let probed = carried.probed measure adds.none space tracks in
        omega (arith, owes, waits, same, least, under, empty, most, probed)

  -- what is idle has no probe that is asked for
  not_asked : (validated : Bool) (log : PairLog) (end : End) (space : SpaceId)
      (sender : Sender F Q R C K S M (List ℕ) f c q m r) (own : HasPast sender)
      → IsLogged validated log end own.config.validated own.past → AsksProbes log end sender → IsIdle sender space
      → IsAsked log end space → was_discarded end space log ≡ false → ⊥
  not_asked validated log end space sender own logged asks idle asked keys = true≢false
      (sym (asks space asked)
      ∙ (idle (own.came.state_after.discarded space ∙ logged.discarded space ∙ keys)).0)

  pub probes_kept : (client server : Sender F Q R C K S M (List ℕ) f c q m r) (wire : List WirePacket)
      (client_waits server_waits : List Waiting) (step : PairStep) (answer : Result PairAnswer SenderError)
      → FillsProbes step answer (client, client_waits) (server, server_waits)
      → SendsAsPermitted step answer client server → (validated : Bool) (log : PairLog)
      → IsTied validated log client server wire client_waits server_waits → ProbesForFlight log (step, answer)
  probes_kept client server wire client_waits server_waits (Send Client space now size)
      (Ok (Sent number items eliciting window ack)) fills permits validated log tied = (
        λ asked. sent_if_due space now size client (tied.own_asked space asked) number items eliciting window ack
            permits,
        λ on none keys tracks. probes_before validated log Client (client, client_waits) tied.ends.own
            tied.ends.logged tied.own_items space (fills on none tied.ends.own).0 keys tracks,
      )
  probes_kept client server wire client_waits server_waits (Send Server space now size)
      (Ok (Sent number items eliciting window ack)) fills permits validated log tied = (
        λ asked. sent_if_due space now size server (tied.peer_asked space asked) number items eliciting window ack
            permits,
        λ on none keys tracks. probes_before validated log Server (server, server_waits) tied.ends.peer
            tied.ends.peer_logged tied.peer_items space (fills on none tied.ends.peer).0 keys tracks,
      )
  probes_kept client server wire client_waits server_waits (Send Client space now size) (Ok (Held held)) fills permits
      validated log tied = λ asked. held_if_due space now size client (tied.own_asked space asked) held permits
  probes_kept client server wire client_waits server_waits (Send Server space now size) (Ok (Held held)) fills permits
      validated log tied = λ asked. held_if_due space now size server (tied.peer_asked space asked) held permits
  probes_kept client server wire client_waits server_waits (Send Client space now size) (Ok Nothing) fills permits
      validated log tied =
      not_asked validated log Client space client tied.ends.own tied.ends.logged tied.own_asked permits.1
  probes_kept client server wire client_waits server_waits (Send Server space now size) (Ok Nothing) fills permits
      validated log tied =
      not_asked validated log Server space server tied.ends.peer tied.ends.peer_logged tied.peer_asked permits.1
  probes_kept client server wire client_waits server_waits step answer fills permits validated log tied = tt

  -- what a step asks for
  abbrev pub AsksAfter : PairStep → Result PairAnswer SenderError → Sender F Q R C K S M (List ℕ) f c q m r
      → Sender F Q R C K S M (List ℕ) f c q m r → Type 0
  AsksAfter (Local end step) answer = AtEnd end (AsksAt step answer)
  AsksAfter step answer = λ client server. Unit {0}

  asked_there : (sender : Sender F Q R C K S M (List ℕ) f c q m r) (there : SpaceId)
      → is_probe_due sender.variables there ≡ true → (space : SpaceId) → same_space there space ≡ true
      → is_probe_due sender.variables space ≡ true
  asked_there sender there due space is =
      subst (λ (at : SpaceId). is_probe_due sender.variables at ≡ true) (one_space there space is) due

  pub asked_kept : (client server : Sender F Q R C K S M (List ℕ) f c q m r) (step : PairStep)
      (answer : Result PairAnswer SenderError) (log : PairLog) → AsksAfter step answer client server
      → AsksProbes ((step, answer) ∷ log) Client client × AsksProbes ((step, answer) ∷ log) Server server
  asked_kept client server (Local Client (Expire now)) (Ok (Expired (Probe there count))) log asks =
      (asked_there client there asks, λ space is. absurd (true≢false (sym is)))
  asked_kept client server (Local Server (Expire now)) (Ok (Expired (Probe there count))) log asks =
      (λ space is. absurd (true≢false (sym is)), asked_there server there asks)
  asked_kept client server step answer log asks = (λ space never. absurd never, λ space never. absurd never)
