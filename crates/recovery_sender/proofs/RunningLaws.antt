-- The loss detection timer by the events so far: it runs while an ack-eliciting packet is outstanding, and is stopped
-- if nothing is.
use Rattle.std.proofs.Common.{◌≡◌, ◌≢◌, ◌⊎◌, ◌≤◌, ◌*◌, ◌+◌, ℕ, Bool, true, false, true≢false, cond, nat_le, nat_lt, List, [], ◌∷◌, Option, None, Some, Ok, Err, option_map, inl, inr, ap, refl, sym, subst, ◌∙◌, arith}
use Rattle.std.proofs.lemmas.Bool.Decides.{nat_tests}
use Rattle.std.proofs.lemmas.List.Sums.{sum_by-cons}
use Rattle.std.proofs.lemmas.Option.{none-some}
use Rattle.std.specs.Option.{option_and_then, option_map_or}
use Rattle.std.specs.Prelude.{max, not, ◌&&◌, ◌||◌, if◌then◌else◌}
use Rattle.rand_core.specs.Stream.{Stream}
use Rattle.recovery_base.specs.declared.below.SpaceId.{SpaceId}
use Rattle.recovery_base.specs.declared.below.SpaceId.TheVariants.{Initial, Handshake, Data}
use Rattle.recovery_base.specs.declared.timer.Timer.TheVariants.{LossDetection}
use Rattle.recovery_base.specs.Spaces.{same_space}
use Rattle.recovery_events.specs.declared.event.Answer.TheVariants as answers
use Rattle.recovery_events.specs.declared.event.Answer.TheVariants.{Probe}
use Rattle.recovery_events.specs.declared.event.Event.{Event}
use Rattle.recovery_events.specs.declared.event.Event.TheVariants.{Send, PollMtu}
use Rattle.recovery_paths.specs.PathLog.{PathReplyInputs, PerPath}
use Rattle.recovery_paths.specs.PathStates.{is_blocked}
use Rattle.recovery_spaces.specs.Discarded.{is_discarded}
use Rattle.recovery_spaces.specs.Kept.{last_eliciting_sent}
use Rattle.recovery_spaces.specs.Packets.{Packet, Packets, packet_at}
use Rattle.recovery_spaces.specs.SpaceLog.{SpaceEntry, sends}
use Rattle.recovery_spaces.specs.Spaces.{packets_of, space_of}
use Rattle.recovery_spaces.specs.Tracked.{SentState}
use Rattle.recovery_spaces.proofs.PacketLaws.{number_at}
use Rattle.recovery_losses.specs.declared.due.Due.{Due}
use Rattle.recovery_losses.specs.declared.due.Due.TheVariants.{Losses}
use Rattle.recovery_losses.specs.declared.variables.Variables.{Variables}
use Rattle.recovery_losses.specs.Variables.{is_address_validated, waiting_since}
use Rattle.recovery_history.specs.declared.config.RecoveryConfig.{RecoveryConfig}
use Rattle.recovery_history.specs.History.{AtEach, Beginning, History, Reply, begins, queue_model}
use Rattle.recovery_history.specs.Logs.{onto}
use Rattle.recovery_history.specs.Promises.NewNumbers.{is_discarded as was_discarded}
use Rattle.recovery_history.specs.Promises.Timeouts.{timer_value}
use Rattle.recovery_history.specs.RecoveryState.{RecoveryState}
use Rattle.recovery_history.specs.Reachability.{ReachedBy}
use Rattle.recovery_history.specs.ReplyInputs.{ReplyInputs, number_in, packet_now}
use Rattle.recovery_history.specs.RepliesAfter.{RepliesAfter, inputs_after, logs_of, pasts_of}
use Rattle.recovery_history.proofs.AnswerLaws.{past_four}
use Rattle.recovery_history.proofs.DatagramLaws.{Flow, FlowsAgree, flow_of, flows_after, flows_at_first}
use Rattle.recovery_history.proofs.EntryKinds.{sends_none, space_kept, space_kind}
use Rattle.recovery_history.proofs.Runs.{kept_after}
use Rattle.recovery_history.proofs.TrackedLaws.{AllTracked, Tracks, counts, keeps_tracked, none_tracked, sent_in, stands, times}
use Rattle.recovery_sender.specs.declared.sender.Sender.{Sender}
use Rattle.recovery_sender.specs.Promises.Liveness.{HasNoLossDue, IsAckOwed, IsOutstanding, IsSetInTime, IsSetWhileWaiting, IsTimerByEvents, NeverStalls, deadlock_space_by, last_sent_at, may_send}
use Rattle.recovery_sender.specs.Promises.Pasts.{ForEveryPast, ForEveryRun}
use Rattle.recovery_sender.specs.Senders.{state_in}
use Rattle.recovery_sender.specs.Spaces.{packets_in, space_in}
use Rattle.recovery_sender.specs.Timer.{TimerIsSet, behind, deadlock_space, due_of, has_eliciting, loss_due, probe_due, probes_due, pto_of, waits, least_datagram}
use Rattle.recovery_sender.proofs.PastLaws.{elicits_by_past, tracked_by}

-- ---- a tracked ack-eliciting packet

eliciting_found : {P M : Type 0} (packets : Packets P M) (number : ℕ) (packet : Packet P M)
    → packet_at packets number ≡ Some packet → packet.ack_eliciting ≡ true → has_eliciting packets ≡ true
eliciting_found [] number packet found elicits = absurd (none-some packet found)
eliciting_found (entry ∷ packets) number packet found elicits =
    grind (arith, number_at number entry.0, eliciting_found packets number packet, found, elicits)

-- ---- the last ack-eliciting packet

module _ {F K Q S M P : Type 0} (beginning : Beginning F K Q S M P) (space : SpaceId) where
  abbrev log : History Q S M P → List (SpaceEntry P M)
  log history = (logs_of beginning history).spaces space

  abbrev IsLast : History Q S M P → Type 0
  IsLast history = last_eliciting_sent (log history) ≡ last_sent_at space history

  module _ (before : History Q S M P) (here : IsLast before) where
    abbrev known : ReplyInputs K P M
    known = inputs_after beginning before

    abbrev After : Option (SpaceEntry P M) → Option ℕ → Type 0
    After entry time = last_eliciting_sent (onto entry (log before)) ≡ time

    unmoved : (entry : SpaceEntry P M) → sends_none (space_kind entry) ≡ true
        → After (Some entry) (last_sent_at space before)
    unmoved entry none = grind (arith, none, here)

    -- a packet is sent, in this space or in another one
    goes_out : (there : SpaceId) (packet : Packet P M) (b : Bool)
        → After (cond b (Some (sends (number_in known there) packet)) None)
        (if b && packet.ack_eliciting then Some packet.time_sent else last_sent_at space before)
    goes_out there packet false = here
    goes_out there packet true = ap (λ last. if packet.ack_eliciting then Some packet.time_sent else last) here

    reply_last : (event : Event Q S M P) (reply : Reply Q) → RepliesAfter beginning before event reply
        → IsLast ((event, reply) ∷ before)
    reply_last (Send there now size eliciting largest queue frames) (Ok (answers.Sent number forgotten)) told =
        goes_out there (packet_now known now size eliciting largest (beginning.queue.contents queue) frames)
        (same_space there space)
    reply_last (Send there now size eliciting largest queue frames) (Ok answer) told = let is = past_four told in cc
    reply_last (PollMtu now) (Ok (Probe number size)) told =
        grind (
          arith,
          goes_out Data (packet_now known now size true None beginning.queue.words.empty beginning.queue.blank)
              (same_space Data space),
        )
    reply_last (PollMtu now) (Ok answer) told = here
    reply_last event (Ok answer) told =
        space_kept beginning.queue known space (λ entry. After entry (last_sent_at space before)) sends_none here
        unmoved event (Ok answer) refl
    reply_last (PollMtu now) (Err refusal) told = here
    reply_last event (Err refusal) told = here

  pub last_by : (history : History Q S M P) → AtEach (RepliesAfter beginning) history → IsLast history
  last_by = kept_after (RepliesAfter beginning) IsLast
      (λ before event reply told here. reply_last before here event reply told) refl

-- ---- an ack-eliciting packet that is tracked is found by its number

module _ {P M : Type 0} where
  abbrev IsFound : Packets P M → Type 0
  IsFound packets = (number : ℕ) × (packet : Packet P M) × (packet_at packets number ≡ Some packet)
      × (packet.ack_eliciting ≡ true)

  further : (entry : ℕ × Packet P M) (packets : Packets P M)
      → ((n : ℕ) → times n (entry ∷ packets) ≤ 1) → IsFound packets → IsFound (entry ∷ packets)
  further entry packets once (number, packet, found, elicits) = (
    number,
    packet,
    grind (
      arith,
      nat_tests,
      found,
      once number,
      stands number packets,
      number_at number entry.0,
      sum_by-cons (counts number) entry packets,
    ),
    elicits,
  )

  fewer : (entry : ℕ × Packet P M) (packets : Packets P M) → ((n : ℕ) → times n (entry ∷ packets) ≤ 1) → (n : ℕ)
      → times n packets ≤ 1
  fewer entry packets once n = grind (arith, once n, sum_by-cons (counts n) entry packets)

  found_eliciting : (packets : Packets P M) → ((n : ℕ) → times n packets ≤ 1) → has_eliciting packets ≡ true
      → IsFound packets
  found_eliciting [] once is = absurd (true≢false (sym is))
  found_eliciting (entry ∷ packets) once is =
      by (found_eliciting packets (fewer entry packets once)) entry.1.ack_eliciting refl is
    where
      by : (has_eliciting packets ≡ true → IsFound packets) → (test : Bool) → entry.1.ack_eliciting ≡ test
          → (test || has_eliciting packets) ≡ true → IsFound (entry ∷ packets)
      by rest true is holds = (entry.0, entry.1, grind (arith, nat_tests, number_at entry.0 entry.0), is)
      by rest false is holds = further entry packets once (rest holds)

-- ---- the amplification limit

-- a datagram more is permitted
datagram_fits : (validated : Bool) (came went : ℕ)
    → (not validated && nat_lt (3 * came) (went + least_datagram))
    ≡ not (validated || nat_le (went + least_datagram) (3 * came))
datagram_fits true came went = refl
datagram_fits false came went = grind (arith, nat_tests)

module _ {F K Q S M P : Type 0} (beginning : Beginning F K Q S M P) (past : History Q S M P)
    (recovery : RecoveryState K P M) (came : ReachedBy beginning past recovery) where
  limits : is_blocked recovery.paths.current.state least_datagram ≡ not (may_send beginning past)
  limits =
      let flows = kept_after (RepliesAfter beginning) (FlowsAgree beginning) (flows_after beginning)
      (flows_at_first beginning) past came.replies in
      let kept : Flow = flow_of (pasts_of beginning past).current in
      let flags = ap (λ (f : Flow). f.validated) flows.0.0 in
      let received = ap (λ (f : Flow). f.came) flows.0.0 in
      let sent = ap (λ (f : Flow). f.went) flows.0.0 in
      ap (λ (paths : PerPath (PathReplyInputs K)). is_blocked paths.current.state least_datagram) came.state_after.paths
      ∙ rw (flags, received, sent) (datagram_fits kept.validated kept.came kept.went)

-- ---- the timer

module _ {K P M : Type 0} (recovery : RecoveryState K P M) (variables : Variables) where
  -- nothing is due
  none_due : ((space : SpaceId) → loss_due recovery space ≡ None)
      → ((space : SpaceId) → probe_due recovery variables space ≡ None) → is_address_validated variables ≡ true
      → due_of recovery variables ≡ None
  none_due losses probes known =
      rw (losses Initial, losses Handshake, losses Data)
      (by (is_blocked recovery.paths.current.state least_datagram) refl)
    where
      by : (blocked : Bool) → is_blocked recovery.paths.current.state least_datagram ≡ blocked
          → probes_due recovery variables ≡ None
      by true is = rw is refl
      by false is = rw (is, probes Initial, probes Handshake, probes Data, known) refl

  blocked_due : ((space : SpaceId) → loss_due recovery space ≡ None)
      → is_blocked recovery.paths.current.state least_datagram ≡ true → due_of recovery variables ≡ None
  blocked_due losses is = rw (losses Initial, losses Handshake, losses Data, is) refl

  no_probe : (space : SpaceId) → (is_discarded space recovery.discarded ≡ false
      → has_eliciting (packets_of (space_of space recovery.spaces)) ≡ false)
      → waiting_since variables space ≡ None → probe_due recovery variables space ≡ None
  no_probe space none unheld = by (waits recovery variables space) refl (is_discarded space recovery.discarded) refl
    where
      by : (waiting : Bool) → waits recovery variables space ≡ waiting → (gone : Bool)
          → is_discarded space recovery.discarded ≡ gone → probe_due recovery variables space ≡ None
      by true waiting gone is = rw waiting refl
      by false goes true is = rw (goes, is) refl
      by false goes false is = rw (goes, is, none is, unheld) refl

module _ {F Q R C K S M P : Type 0} {f : _} {c : _} {q : _} {m : _} {r : _} (sender : Sender F Q R C K S M P f c q m r)
    (config : RecoveryConfig F) (start : ℕ) (random : Stream) (past : History Q S M P)
    (came : ReachedBy (begins f.built c.words (queue_model q.contents q.words q.blank) config start random) past
    (state_in sender)) where
  abbrev begun : Beginning F K Q S M P
  begun = begins f.built c.words (queue_model q.contents q.words q.blank) config start random

  abbrev state : RecoveryState K P M
  state = state_in sender

  abbrev here : SpaceId → Packets P M
  here space = packets_of (space_of space state.spaces)

  -- an ack-eliciting packet is outstanding exactly if one is tracked
  tracked_here : (space : SpaceId) → is_discarded space state.discarded ≡ false → IsOutstanding past space
      → has_eliciting (here space) ≡ true
  tracked_here space kept (there, number, tracked, elicits) =
      by (packet_at (packets_in state space) number) refl
    where
      by : (found : Option (Packet P M)) → packet_at (packets_in state space) number ≡ found
          → has_eliciting (here space) ≡ true
      by None none = absurd ((tracked_by sender config start random past came space kept number).1 tracked none)
      by (Some packet) found = eliciting_found (here space) number packet (rw kept at found)
          (elicits_by_past sender config start random past came space kept number packet found ∙ elicits)

  outstanding_here : (space : SpaceId) → is_discarded space state.discarded ≡ false
      → has_eliciting (here space) ≡ true → IsOutstanding past space
  outstanding_here space kept elicits =
      let all = kept_after (RepliesAfter begun) (AllTracked begun) (keeps_tracked begun) (none_tracked begun) past
      came.replies in
      let same = ap (λ (sent : SentState P M). sent.tracked) (came.state_after.spaces space).sent in
      let once : (n : ℕ) → times n (here space) ≤ 1 = λ n. once_in n (all space n) same in
      let found = found_eliciting (here space) once elicits in
      let there : packet_at (packets_in state space) found.0 ≡ Some found.1 = rw kept found.2 in (
        sym (came.state_after.discarded space) ∙ kept,
        found.0,
        (tracked_by sender config start random past came space kept found.0).0
            (λ none. none-some found.1 (sym none ∙ there)),
        sym (elicits_by_past sender config start random past came space kept found.0 found.1 there) ∙ found.3,
      )
    where
      once_in : (n : ℕ) {departed : ℕ} → {given : ℕ} → {tracked : Bool}
          → Tracks n (sent_in begun past space) tracked given departed
          → here space ≡ (sent_in begun past space).tracked → times n (here space) ≤ 1
      once_in n {tracked = tracked} tracks same = grind (arith, same, tracks.same)

  none_here : ((space : SpaceId) → IsOutstanding past space → ⊥) → (space : SpaceId)
      → is_discarded space state.discarded ≡ false → has_eliciting (here space) ≡ false
  none_here none space kept = by (has_eliciting (here space)) refl
    where
      by : (test : Bool) → has_eliciting (here space) ≡ test → has_eliciting (here space) ≡ false
      by true is = absurd (none space (outstanding_here space kept is))
      by false is = is

  free : may_send begun past ≡ true → is_blocked state.paths.current.state least_datagram ≡ false
  free may = limits begun past state came ∙ ap not may

  -- it is set while a packet is outstanding
  runs : NeverStalls state sender.variables → may_send begun past ≡ true → (space : SpaceId)
      → (same_space space Data && not sender.variables.is_handshake_confirmed) ≡ false → IsOutstanding past space
      → IsSetInTime past state sender.variables space
  runs alive may space goes outstanding =
      let kept : is_discarded space state.discarded ≡ false = came.state_after.discarded space ∙ outstanding.0 in
      let owed : IsAckOwed state sender.variables space = record {
        here = space_of space state.spaces;
        lives = rw kept refl;
        elicits = tracked_here space kept outstanding;
        goes = goes;
      } in
      let set = alive.probes (free may) space owed in record {
        time = set.time;
        set = sym (came.state_after.timers LossDetection) ∙ set.set;
        soon = elim set.soon [ inl lost ↦ inl lost | inr probe ↦ inr (probe.0, last kept probe.0 probe.1, probe.2) ];
      }
    where
      last : is_discarded space state.discarded ≡ false → (sent : ℕ)
          → option_and_then (λ here. here.time_of_last_ack_eliciting_packet) (space_in state space) ≡ Some sent
          → last_sent_at space past ≡ Some sent
      last kept sent is = sym (last_by begun space past came.replies)
          ∙ (sym (came.state_after.spaces space).last_sent ∙ (rw kept at is))

  -- and while a packet waits for room
  waiting : NeverStalls state sender.variables → may_send begun past ≡ true → (space : SpaceId) (since : ℕ)
      → was_discarded space past ≡ false → waiting_since sender.variables space ≡ Some since
      → IsSetWhileWaiting past state sender.variables space since
  waiting alive may space since there held =
      let kept : is_discarded space state.discarded ≡ false = came.state_after.discarded space ∙ there in
      let set = alive.waiting (free may) space (space_of space state.spaces) since (rw kept refl) held in
      let last = (came.state_after.spaces space).last_sent ∙ last_by begun space past came.replies in record {
        time = set.time;
        set = sym (came.state_after.timers LossDetection) ∙ set.set;
        soon = elim set.soon [
          | inl lost ↦ inl lost
          | inr probe ↦ inr (subst (λ (last : Option ℕ). set.time
              ≤ behind (max since (option_map_or (λ sent. sent) last 0)) (pto_of state sender.variables space)) last
              probe)
        ];
      }

  -- and at a client that does not know its address validated
  deadlock : NeverStalls state sender.variables → may_send begun past ≡ true
      → was_discarded (deadlock_space_by past sender.variables) past ≡ false
      → is_address_validated sender.variables ≡ false → timer_value past LossDetection ≢ None
  deadlock alive may there unknown none =
      alive.deadlock (free may) unknown kept (came.state_after.timers LossDetection ∙ none)
    where
      kept : is_discarded (deadlock_space state sender.variables) state.discarded ≡ false
      kept = subst (λ gone. is_discarded
          (if sender.variables.has_handshake_keys && not gone then Handshake else Initial) state.discarded ≡ false)
          (sym (came.state_after.discarded Handshake))
          (came.state_after.discarded (deadlock_space_by past sender.variables) ∙ there)

  -- it is stopped if no byte may be sent
  stops_blocked : TimerIsSet state sender.variables → HasNoLossDue state → may_send begun past ≡ false
      → timer_value past LossDetection ≡ None
  stops_blocked set losses none = sym (came.state_after.timers LossDetection)
      ∙ (set ∙ ap (λ (due : Option (ℕ × Due)). option_map (λ due. due.0) due)
      (blocked_due state sender.variables (λ space. ap (λ time. option_map (λ time. (time, Losses space)) time)
      (losses space)) (limits begun past state came ∙ ap not none)))

  -- it is stopped if nothing is due
  stops : TimerIsSet state sender.variables → HasNoLossDue state
      → ((space : SpaceId) → IsOutstanding past space → ⊥)
      → ((space : SpaceId) → waiting_since sender.variables space ≡ None)
      → is_address_validated sender.variables ≡ true → timer_value past LossDetection ≡ None
  stops set losses none unheld known =
      sym (came.state_after.timers LossDetection)
      ∙ (set ∙ ap (λ (due : Option (ℕ × Due)). option_map (λ due. due.0) due)
      (none_due state sender.variables (λ space. ap (λ time. option_map (λ time. (time, Losses space)) time)
      (losses space))
      (λ space. no_probe state sender.variables space (none_here none space) (unheld space)) known))

pub keeps_time : {F Q R C K S M P : Type 0} {f : _} {c : _} {q : _} {m : _} {r : _}
    (sender : Sender F Q R C K S M P f c q m r) → TimerIsSet (state_in sender) sender.variables
    → ForEveryPast sender (λ past. NeverStalls (state_in sender) sender.variables)
    → ForEveryRun sender (λ beginning past. IsTimerByEvents beginning past (state_in sender) sender.variables)
keeps_time sender set alive config start random past came = record {
  runs = runs sender config start random past came (alive config start random past came);
  waiting = waiting sender config start random past came (alive config start random past came);
  deadlock = deadlock sender config start random past came (alive config start random past came);
  blocked = stops_blocked sender config start random past came set;
  stops = stops sender config start random past came set;
}
