-- A probe finds something to send, and an ACK if one is due: the clause `sendable` of `run`.
use Rattle.std.proofs.lemmas.Bool.Decides.{nat_tests}
use Rattle.std.proofs.lemmas.List.Sums.{sum_by-cons}
use Rattle.std.proofs.Common.{◌≡◌, ◌≤◌, ℕ, not, Bool, true, false, cond, filter, [], ◌∷◌, Option, None, Some, Ok, refl, arith}
use Rattle.recovery_spaces.specs.Departures.{one_if_same}
use Rattle.recovery_spaces.specs.Packets.{Packet, Packets, packet_at, least_number}
use Rattle.recovery_spaces.specs.Probes.{probe_found}
use Rattle.recovery_spaces.specs.Queued.{QueuedState, has_other, probe_queued}
use Rattle.recovery_spaces.proofs.PacketLaws.{number_at}
use Rattle.recovery_queue.specs.Queues.{QueueSemantics}
use Rattle.recovery_events.specs.declared.event.Event.{Event}
use Rattle.recovery_events.specs.declared.event.Event.TheVariants.{QueueProbe}
use Rattle.recovery_events.specs.declared.event.Answer.TheVariants as answers
use Rattle.recovery_history.specs.RepliesAfter.{inputs_after, RepliesAfter}
use Rattle.recovery_history.specs.History.{AtEach, Beginning, History, Reply}
use Rattle.recovery_history.specs.Promises.Sendable.{JoinStaysNonempty, ReportsSendable}
use Rattle.recovery_history.proofs.AcknowledgedLaws.{keeps_to_acknowledge}
use Rattle.recovery_history.proofs.Runs.{kept_after}
use Rattle.recovery_history.proofs.TrackedLaws.{at_itself, stands, times, AllTracked, keeps_tracked, none_tracked}

-- ---- what a probe finds

module _ {P M S : Type 0} (words : QueueSemantics P S) (streams : S) where
  abbrev is_filled : ℕ × Packet P M → Bool
  is_filled entry = not (words.is_empty entry.1.retransmits streams)

  -- the packet that is found exists, with contents
  pub first_full : (packets : Packets P M) (n : ℕ) → ((m : ℕ) → times m packets ≤ 1)
      → least_number (filter is_filled packets) ≡ Some n
      → (packet : Packet P M) × (packet_at packets n ≡ Some packet)
      × (words.is_empty packet.retransmits streams ≡ false)
  first_full [] n once is = absurd (cc)
  first_full (entry ∷ packets) n once is =
      go (words.is_empty entry.1.retransmits streams) refl is (λ first. first_full packets n (λ m. (
      let sum = sum_by-cons (λ (e : ℕ × Packet P M). one_if_same e.0 m) entry packets in
      omega (arith, once m, sum))) first)
    where
      go : (b : Bool) → words.is_empty entry.1.retransmits streams ≡ b
          → least_number (cond (not b) (entry ∷ filter is_filled packets) (filter is_filled packets)) ≡ Some n
          → (least_number (filter is_filled packets) ≡ Some n → (packet : Packet P M)
          × (packet_at packets n ≡ Some packet) × (words.is_empty packet.retransmits streams ≡ false))
          → (packet : Packet P M) × (packet_at (entry ∷ packets) n ≡ Some packet)
          × (words.is_empty packet.retransmits streams ≡ false)
      go false filled first later = (entry.1, grind (arith, first, at_itself n), filled)
      go true empty first later =
          let rest = later first in (
            rest.0,
            grind (
              arith,
              nat_tests,
              rest.1,
              number_at n entry.0,
              stands n packets,
              once n,
              sum_by-cons (λ (e : ℕ × Packet P M). one_if_same e.0 n) entry packets,
            ),
            rest.2,
          )

  -- so that there is always something
  finds : (queued : QueuedState P) (packets : Packets P M) (immediate : Bool) → ((m : ℕ) → times m packets ≤ 1)
      → JoinStaysNonempty words streams
      → has_other words streams (probe_queued words immediate (probe_found words streams queued.pending packets) packets
      queued) ≡ true
  finds queued packets immediate once full =
      go (words.is_empty queued.pending streams) refl (least_number (filter is_filled packets)) refl
    where
      go : (e : Bool) → words.is_empty queued.pending streams ≡ e → (found : Option ℕ)
          → least_number (filter is_filled packets) ≡ found
          → has_other words streams (probe_queued words immediate
          (probe_found words streams queued.pending packets) packets queued) ≡ true
      go false some found is = grind (arith, some)
      go true empty None is = grind (arith, empty, is)
      go true empty (Some n) is =
          let first = first_full packets n once is in
          grind (arith, empty, is, first.1, full queued.pending first.0.retransmits first.2)

-- ---- the reply

module _ {F K Q S M P : Type 0} (beginning : Beginning F K Q S M P) where
  pub finds_to_send : (before : History Q S M P) (event : Event Q S M P) (reply : Reply Q)
      → AtEach (RepliesAfter beginning) ((event, reply) ∷ before) → ReportsSendable beginning before event reply
  finds_to_send before (QueueProbe space immediate streams) (Ok (answers.Sendable frames)) all =
      let told = all.0.1 in
      let acked = keeps_to_acknowledge beginning before all.1 space in
      let tracked = kept_after (RepliesAfter beginning) (AllTracked beginning) (keeps_tracked beginning)
      (none_tracked beginning) before all.1 in
      let here = (inputs_after beginning before).spaces space in (
        (
          λ on. (
              let due = told.0.0 on in
              let number = due.1.0 in
              let both = (acked number).0 due.1.1 in (due.0, (number, both.0, both.1))
              ),
          λ due. (let number = due.1.0 in told.0.1 (due.0, (number, (acked number).1 (due.1.1, due.1.2)))),
        ),
        λ full. rw told.1 (finds beginning.queue.words streams here.queued here.sent.tracked immediate
            (λ m. grind (arith, nat_tests, (tracked space m).same)) full),
      )
  finds_to_send before event reply all = tt
