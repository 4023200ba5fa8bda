-- A sender never stalls: each call leaves the timer set while an acknowledgement is due.
use Rattle.std.proofs.Common.{◌≡◌, ◌≢◌, ◌⊎◌, ◌≤◌, ℕ, ◌||◌, nat_lt, true, false, Bool, ltb-true, ltb-false, true≢false, List, [], ◌∷◌, ◌++◌, Option, None, Some, option_map, inl, inr, refl, sym, ap, ◌∙◌, arith}
use Rattle.std.proofs.lemmas.Option.{none-some, same_Some}
use Rattle.std.specs.Prelude.{if◌then◌else◌, max}
use Rattle.std.specs.Option.{option_and_then, option_map_or}
use Rattle.recovery_base.specs.declared.below.SpaceId.{SpaceId}
use Rattle.recovery_base.specs.declared.below.SpaceId.TheVariants.{Initial, Handshake, Data}
use Rattle.recovery_base.specs.declared.timer.Timer.TheVariants.{LossDetection}
use Rattle.recovery_base.specs.Timers.{moment}
use Rattle.recovery_spaces.specs.Discarded.{is_discarded}
use Rattle.recovery_spaces.specs.Kept.{last_eliciting_sent}
use Rattle.recovery_spaces.specs.Packets.{Packet, Packets, carrying, replaced, with_contents, packet_at, without, without_some}
use Rattle.recovery_spaces.specs.SpaceLog.{SpaceEntry, sends, acknowledged, loses, probes, emptied}
use Rattle.recovery_spaces.specs.Spaces.{Space, packets_of, space_of}
use Rattle.recovery_spaces.specs.Tracked.{SentState, sent_by, forgotten_by}
use Rattle.recovery_spaces.proofs.PacketLaws.{number_at}
use Rattle.recovery_paths.specs.PathStates.{is_blocked}
use Rattle.recovery_queue.specs.Queues.{QueueSemantics}
use Rattle.recovery_history.specs.History.{begins, queue_model}
use Rattle.recovery_history.specs.RecoveryState.{RecoveryState}
use Rattle.recovery_history.specs.RepliesAfter.{logs_of}
use Rattle.recovery_sender.specs.declared.sender.Sender.{Sender}
use Rattle.recovery_losses.specs.declared.due.Due.{Due}
use Rattle.recovery_losses.specs.declared.due.Due.TheVariants.{Losses, Probes}
use Rattle.recovery_losses.specs.Due.{sooner}
use Rattle.recovery_losses.specs.declared.variables.Variables.{Variables}
use Rattle.recovery_losses.specs.Timeouts.{probe_start_of}
use Rattle.recovery_losses.specs.Variables.{is_address_validated, waiting_since}
use Rattle.recovery_sender.specs.Promises.Liveness.{IsAckOwed, IsSetFor, IsSetForWaiting, NeverStalls, loss_time_in}
use Rattle.recovery_sender.specs.Promises.Pasts.{ForEveryPast}
use Rattle.recovery_sender.specs.Senders.{state_in}
use Rattle.recovery_sender.specs.Spaces.{space_in}
use Rattle.recovery_sender.specs.Timer.{TimerIsSet, behind, deadlock_due, deadlock_space, due_of, has_eliciting, loss_due, probe_due, probes_due, pto_of, soonest, waits, least_datagram}

-- ---- if an ack-eliciting packet is tracked, one was sent

either_of : (one other : Bool) → (one || other) ≡ true → (one ≡ true) ⊎ (other ≡ true)
either_of true other is = inl refl
either_of false other is = inr is

module _ {P M : Type 0} where
  eliciting_without : (packets : Packets P M) (number : ℕ) → has_eliciting (without packets number) ≡ true
      → has_eliciting packets ≡ true
  eliciting_without [] number is = is
  eliciting_without (entry ∷ packets) number is =
      grind (arith, number_at number entry.0, eliciting_without packets number, is)

  eliciting_without_some : (packets : Packets P M) (forgotten : Option ℕ)
      → has_eliciting (without_some packets forgotten) ≡ true → has_eliciting packets ≡ true
  eliciting_without_some packets None is = is
  eliciting_without_some packets (Some number) is = eliciting_without packets number is

  eliciting_more : (packets : Packets P M) (number : ℕ) (packet : Packet P M)
      → has_eliciting (packets ++ (number, packet) ∷ []) ≡ true
      → (packet.ack_eliciting ≡ true) ⊎ (has_eliciting packets ≡ true)
  eliciting_more [] number packet is = either_of packet.ack_eliciting false is
  eliciting_more (entry ∷ packets) number packet is = elim (either_of entry.1.ack_eliciting _ is) [
    | inl here ↦ inr (ap (λ test. test || has_eliciting packets) here)
    | inr rest ↦ elim (eliciting_more packets number packet rest) [
      | inl last ↦ inl last
      | inr before ↦ inr (or_right entry.1.ack_eliciting before)
    ]
  ]
    where
      or_right : (one : Bool) → has_eliciting packets ≡ true → (one || has_eliciting packets) ≡ true
      or_right true holds = refl
      or_right false holds = holds

  eliciting_replaced : (packets : Packets P M) (number : ℕ) (packet : Packet P M) (contents : P)
      → packet_at packets number ≡ Some packet
      → has_eliciting (replaced number (Some (with_contents contents packet)) packets) ≡ true
      → has_eliciting packets ≡ true
  eliciting_replaced [] number packet contents found is = is
  eliciting_replaced (entry ∷ packets) number packet contents found is =
      grind (arith, number_at number entry.0, eliciting_replaced packets number packet contents, found, is)

  eliciting_carrying : (packets : Packets P M) (number : ℕ) (contents : P)
      → has_eliciting (carrying number contents packets) ≡ true → has_eliciting packets ≡ true
  eliciting_carrying packets number contents = go (packet_at packets number) refl
    where
      go : (found : Option (Packet P M)) → packet_at packets number ≡ found
          → has_eliciting (replaced number (option_map (with_contents contents) found) packets) ≡ true
          → has_eliciting packets ≡ true
      go None none is = is
      go (Some packet) found is = eliciting_replaced packets number packet contents found is

module _ {P M S : Type 0} (words : QueueSemantics P S) where
  abbrev elicits_by : List (SpaceEntry P M) → Type 0
  elicits_by log = has_eliciting (sent_by words log).tracked ≡ true

  abbrev none_before : List (SpaceEntry P M) → Type 0
  none_before log = elicits_by log → last_eliciting_sent log ≢ None

  after_sending : (earlier : List (SpaceEntry P M)) (number : ℕ) (packet : Packet P M) (elicits : Bool)
      → packet.ack_eliciting ≡ elicits → none_before earlier → none_before (sends number packet ∷ earlier)
  after_sending earlier number packet true own before is none = none-some packet.time_sent (sym (rw own at none))
  after_sending earlier number packet false silent before is none =
      elim (eliciting_more (without_some (sent_by words earlier).tracked (forgotten_by (sent_by words earlier) packet))
      number packet is) [
        | inl own ↦ absurd (true≢false (sym own ∙ silent))
        | inr there ↦ before (eliciting_without_some (sent_by words earlier).tracked
            (forgotten_by (sent_by words earlier) packet) there) (rw silent at none)
      ]

  after_moving : (earlier : List (SpaceEntry P M)) (moved : Option ℕ)
      → has_eliciting (option_map_or (λ number. carrying number words.empty (sent_by words earlier).tracked) moved
      (sent_by words earlier).tracked) ≡ true → elicits_by earlier
  after_moving earlier None is = is
  after_moving earlier (Some number) is = eliciting_carrying (sent_by words earlier).tracked number words.empty is

  some_sent : (log : List (SpaceEntry P M)) → none_before log
  some_sent [] is = absurd (true≢false (sym is))
  some_sent (sends number packet ∷ earlier) is =
      after_sending earlier number packet packet.ack_eliciting refl (some_sent earlier) is
  some_sent (acknowledged number ∷ earlier) is =
      some_sent earlier (eliciting_without (sent_by words earlier).tracked number is)
  some_sent (loses number ∷ earlier) is =
      some_sent earlier (eliciting_without (sent_by words earlier).tracked number is)
  some_sent (probes immediate found ∷ earlier) is = some_sent earlier (after_moving earlier found.moved is)
  some_sent (emptied ∷ earlier) is = absurd (true≢false (sym is))
  some_sent (entry ∷ earlier) is = some_sent earlier is

-- ---- the earliest time

sooner_from : (one other : Option (ℕ × Due)) (due : ℕ × Due) → sooner one other ≡ Some due
    → (one ≡ Some due) ⊎ (other ≡ Some due)
sooner_from None other due is = inr is
sooner_from (Some one) None due is = inl is
sooner_from (Some one) (Some other) due is = by (nat_lt other.0 one.0) refl
  where
    by : (test : Bool) → nat_lt other.0 one.0 ≡ test → (Some one ≡ Some due) ⊎ (Some other ≡ Some due)
    by true less = inr (rw less at is)
    by false not_less = inl (rw not_less at is)

soonest_from : (due : SpaceId → Option (ℕ × Due)) (found : ℕ × Due) → soonest due ≡ Some found
    → (space : SpaceId) × (due space ≡ Some found)
soonest_from due found is = elim (sooner_from (sooner (due Initial) (due Handshake)) (due Data) found is) [
  | inl first ↦ elim (sooner_from (due Initial) (due Handshake) found first) [
    | inl initial ↦ (Initial, initial)
    | inr handshake ↦ (Handshake, handshake)
  ]
  | inr last ↦ (Data, last)
]

-- no later than one of them
abbrev NoLater : Option (ℕ × Due) → ℕ → Type 0
NoLater due time = (found : ℕ × Due) × (due ≡ Some found) × (found.0 ≤ time)

sooner_than : (one other : Option (ℕ × Due)) (time : ℕ) → NoLater one time ⊎ NoLater other time
    → NoLater (sooner one other) time
sooner_than None other time (inl found) = absurd (none-some found.0 found.1)
sooner_than None other time (inr found) = found
sooner_than (Some one) None time (inl found) = found
sooner_than (Some one) None time (inr found) = absurd (none-some found.0 found.1)
sooner_than (Some one) (Some other) time either = by (nat_lt other.0 one.0) refl
  where
    at_most : (due : ℕ × Due) → due.0 ≤ one.0 → due.0 ≤ other.0 → NoLater (Some one) time ⊎ NoLater (Some other) time
        → due.0 ≤ time
    at_most due under_one under_other (inl found) =
        omega (arith, under_one, ap (λ (due : ℕ × Due). due.0) (same_Some one found.0 found.1), found.2)
    at_most due under_one under_other (inr found) =
        omega (arith, under_other, ap (λ (due : ℕ × Due). due.0) (same_Some other found.0 found.1), found.2)

    by : (test : Bool) → nat_lt other.0 one.0 ≡ test → NoLater (sooner (Some one) (Some other)) time
    by true less = rw less
        (other, refl, at_most other (omega (arith, ltb-true other.0 one.0 less)) (omega arith) either)
    by false not_less = rw not_less
        (one, refl, at_most one (omega arith) (omega (arith, ltb-false other.0 one.0 not_less)) either)

soonest_than : (due : SpaceId → Option (ℕ × Due)) (space : SpaceId) (time : ℕ) → NoLater (due space) time
    → NoLater (soonest due) time
soonest_than due Initial time found = sooner_than _ _ time (inl (sooner_than _ _ time (inl found)))
soonest_than due Handshake time found = sooner_than _ _ time (inl (sooner_than _ _ time (inr found)))
soonest_than due Data time found = sooner_than _ _ time (inr found)

-- ---- from when a probe timeout is measured

-- at most from the later of both times
starts : (elicits : Bool) (since : ℕ) (last : Option ℕ) → (elicits ≡ true → last ≢ None)
    → (start : ℕ) × (probe_start_of elicits (Some since) last ≡ Some start)
    × (start ≤ max since (option_map_or (λ sent. sent) last 0))
starts true since None some = absurd (some refl refl)
starts true since (Some sent) some = (sent, refl, omega arith)
starts false since None some = (since, refl, omega arith)
starts false since (Some sent) some = (max since sent, refl, omega arith)

behind_later : (one other span : ℕ) → one ≤ other → behind one span ≤ behind other span
behind_later one other span later = omega (arith, later)

-- ---- the timer

module _ {K P M : Type 0} (recovery : RecoveryState K P M) (variables : Variables)
    (set : TimerIsSet recovery variables) where
  -- it is set to what is due
  set_to : (due : ℕ × Due) → due_of recovery variables ≡ Some due → moment LossDetection recovery.timers ≡ Some due.0
  set_to due is = set ∙ ap (λ (found : Option (ℕ × Due)). option_map (λ due. due.0) found) is

  -- it is set to a loss time, or no later than this
  abbrev IsSetBy : ℕ → Type 0
  IsSetBy latest = (time : ℕ) × (moment LossDetection recovery.timers ≡ Some time)
      × (((lost : SpaceId) × (loss_time_in recovery lost ≡ Some time)) ⊎ (time ≤ latest))

  module _ (unblocked : is_blocked recovery.paths.current.state least_datagram ≡ false) where
    -- if a probe of a space is due by then
    set_by : (space : SpaceId) (latest : ℕ) → NoLater (probe_due recovery variables space) latest → IsSetBy latest
    set_by space latest due = by (soonest (loss_due recovery)) refl
      where
        probe_soon : NoLater (soonest (probe_due recovery variables)) latest
        probe_soon = soonest_than (probe_due recovery variables) space latest due

        by : (losses : Option (ℕ × Due)) → soonest (loss_due recovery) ≡ losses → IsSetBy latest
        by None none = (
          probe_soon.0.0,
          set_to probe_soon.0 (rw (none, unblocked, probe_soon.1) refl),
          inr probe_soon.2,
        )
        by (Some due) some =
            let lost = soonest_from (loss_due recovery) due some in (
              due.0,
              set_to due (rw some refl),
              inl (
                lost.0,
                loss_time_of (option_and_then (λ here. here.loss_time) (space_in recovery lost.0)) lost.0 due lost.1,
              ),
            )
          where
            loss_time_of : (time : Option ℕ) (space : SpaceId) (due : ℕ × Due)
                → option_map (λ time. (time, Losses space)) time ≡ Some due → time ≡ Some due.0
            loss_time_of None space due is = absurd (none-some due is)
            loss_time_of (Some time) space due is =
                ap (λ n. Some n) (ap (λ (due : ℕ × Due). due.0) (same_Some _ due is))

    -- if an acknowledgement is due in a space, a probe of it is due
    module _ (space : SpaceId) (owed : IsAckOwed recovery variables space) (sent : ℕ)
        (last : owed.here.time_of_last_ack_eliciting_packet ≡ Some sent) where
      probe_is : probe_due recovery variables space
          ≡ Some (behind sent (pto_of recovery variables space), Probes space)
      probe_is = rw (owed.goes, owed.lives, owed.elicits, last) refl

      last_here : option_and_then (λ here. here.time_of_last_ack_eliciting_packet) (space_in recovery space)
          ≡ Some sent
      last_here = rw owed.lives last

      pub set_for : IsSetFor recovery variables space
      set_for = let set = set_by space (behind sent (pto_of recovery variables space)) (_, probe_is, omega arith) in
          record {
            time = set.0;
            set = set.1;
            soon = elim set.2 [ inl lost ↦ inl lost | inr soon ↦ inr (sent, last_here, soon) ];
          }

    -- and if a packet waits for room
    module _ (space : SpaceId) (here : Space P M) (since : ℕ) (there : space_in recovery space ≡ Some here)
        (waiting : waiting_since variables space ≡ Some since)
        (some : has_eliciting (packets_of here) ≡ true → here.time_of_last_ack_eliciting_packet ≢ None) where
      pub set_for_waiting : IsSetForWaiting recovery variables space since here.time_of_last_ack_eliciting_packet
      set_for_waiting =
          let start = starts (has_eliciting (packets_of here)) since here.time_of_last_ack_eliciting_packet some in
          let goes = goes_of space since waiting in
          let is : probe_due recovery variables space
          ≡ Some (behind start.0 (pto_of recovery variables space), Probes space) =
          rw (goes, there, waiting, start.1) refl in
          let set = set_by space _ (_, is, behind_later _ _ (pto_of recovery variables space) start.2) in record {
            time = set.0;
            set = set.1;
            soon = set.2;
          }
        where
          -- 1-RTT packets do not wait
          goes_of : (space : SpaceId) (since : ℕ) → waiting_since variables space ≡ Some since
              → waits recovery variables space ≡ false
          goes_of Initial since is = refl
          goes_of Handshake since is = refl
          goes_of Data since is = absurd (none-some since (never variables.is_handshake_confirmed is))
            where
              never : (confirmed : Bool) → (if confirmed then None else None) ≡ Some since → None ≡ Some since
              never true is = is
              never false is = is

    -- a client's anti-deadlock timer
    deadlock_set : is_address_validated variables ≡ false
        → is_discarded (deadlock_space recovery variables) recovery.discarded ≡ false
        → moment LossDetection recovery.timers ≢ None
    deadlock_set unknown kept = by (soonest (loss_due recovery)) refl
      where
        deadlock_is : NoLater (deadlock_due recovery variables)
            (behind variables.base (pto_of recovery variables (deadlock_space recovery variables)))
        deadlock_is = rw (unknown, kept) (_, refl, omega arith)

        probes : (probes : Option (ℕ × Due)) → soonest (probe_due recovery variables) ≡ probes
            → (due : ℕ × Due) × (probes_due recovery variables ≡ Some due)
        probes None none = (deadlock_is.0, rw (unblocked, none) deadlock_is.1)
        probes (Some due) some = (due, rw (unblocked, some) refl)

        by : (losses : Option (ℕ × Due)) → soonest (loss_due recovery) ≡ losses
            → moment LossDetection recovery.timers ≢ None
        by None none = let due = probes _ refl in
            λ unset. none-some due.0.0 (sym unset ∙ set_to due.0 (rw none due.1))
        by (Some due) some = λ unset. none-some due.0 (sym unset ∙ set_to due (rw some refl))

-- ---- by each past

module _ {F Q R C K S M P : Type 0} {f : _} {c : _} {q : _} {m : _} {r : _} where
  pub never_stalls : (sender : Sender F Q R C K S M P f c q m r) (variables : Variables)
      → TimerIsSet (state_in sender) variables → ForEveryPast sender (λ past. NeverStalls (state_in sender) variables)
  never_stalls sender variables set config start random past came = record {
    probes = probes;
    waiting = λ unblocked space here since there waiting. set_for_waiting (state_in sender) variables set unblocked
        space here since there waiting (some space here there);
    deadlock = λ unblocked unknown kept. deadlock_set (state_in sender) variables set unblocked unknown kept;
  }
    where
      -- if a space tracks an ack-eliciting packet, it sent one
      some : (space : SpaceId) (here : Space P M) → space_in (state_in sender) space ≡ Some here
          → has_eliciting (packets_of here) ≡ true → here.time_of_last_ack_eliciting_packet ≢ None
      some space here there is none =
          let log = (logs_of (begins f.built c.words (queue_model q.contents q.words q.blank) config start random)
          past).spaces space in
          let same : packets_of (space_of space (state_in sender).spaces) ≡ (sent_by q.words log).tracked =
          ap (λ (sent : SentState P M). sent.tracked) (came.state_after.spaces space).sent in
          let elicits : has_eliciting (sent_by q.words log).tracked ≡ true =
          ap (λ (packets : Packets P M). has_eliciting packets) (sym same) ∙ rw here_is is in
          some_sent q.words log elicits (sym (came.state_after.spaces space).last_sent
          ∙ ap (λ (here : Space P M). here.time_of_last_ack_eliciting_packet) here_is ∙ none)
        where
          here_is : space_of space (state_in sender).spaces ≡ here
          here_is = by_test (is_discarded space (state_in sender).discarded) refl
            where
              by_test : (test : Bool) → is_discarded space (state_in sender).discarded ≡ test
                  → space_of space (state_in sender).spaces ≡ here
              by_test true gone = absurd (none-some here (rw gone at there))
              by_test false kept = same_Some _ here (rw kept at there)

      probes : is_blocked (state_in sender).paths.current.state least_datagram ≡ false → (space : SpaceId)
          → IsAckOwed (state_in sender) variables space → IsSetFor (state_in sender) variables space
      probes unblocked space owed = by owed.here.time_of_last_ack_eliciting_packet refl
        where
          by : (last : Option ℕ) → owed.here.time_of_last_ack_eliciting_packet ≡ last
              → IsSetFor (state_in sender) variables space
          by None none = absurd (some space owed.here owed.lives owed.elicits none)
          by (Some sent) last = set_for (state_in sender) variables set unblocked space owed sent last
