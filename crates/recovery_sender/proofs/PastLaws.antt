-- What a sender tracks, by the events that led to its state.
use Rattle.std.proofs.Common.{◌≡◌, ◌≢◌, ◌↔◌, ℕ, ◌∷◌, true, false, Bool, Option, None, Some, Ok, refl, sym, ap, ◌∙◌, arith}
use Rattle.std.proofs.lemmas.Bool.{false≢true}
use Rattle.std.proofs.lemmas.Bool.Decides.{nat_tests}
use Rattle.std.proofs.lemmas.Option.{none-some}
use Rattle.std.specs.Prelude.{is_some}
use Rattle.rand_core.specs.Stream.{Stream}
use Rattle.recovery_base.specs.declared.below.SpaceId.{SpaceId}
use Rattle.recovery_events.specs.declared.event.Answer.TheVariants as answers
use Rattle.recovery_events.specs.declared.event.Answer.TheVariants.{Probe}
use Rattle.recovery_events.specs.declared.event.Event.{Event}
use Rattle.recovery_events.specs.declared.event.Event.TheVariants.{Send, PollMtu}
use Rattle.recovery_spaces.specs.Discarded.{is_discarded}
use Rattle.recovery_spaces.specs.Packets.{Packet, packet_at}
use Rattle.recovery_spaces.specs.Tracked.{SentState}
use Rattle.recovery_history.specs.declared.config.RecoveryConfig.{RecoveryConfig}
use Rattle.recovery_history.specs.History.{AtEach, Beginning, History, Reply, begins, queue_model}
use Rattle.recovery_history.specs.Reachability.{ReachedBy}
use Rattle.recovery_history.specs.Promises.Tracked.{is_tracked}
use Rattle.recovery_history.specs.RepliesAfter.{RepliesAfter}
use Rattle.recovery_history.proofs.FieldLaws.{IsSaid, said_found, said_then, said_told}
use Rattle.recovery_history.proofs.Runs.{kept_after}
use Rattle.recovery_history.proofs.TrackedLaws.{AllTracked, keeps_tracked, none_tracked, sent_in, tracked_found}
use Rattle.recovery_sender.specs.declared.sender.Sender.{Sender}
use Rattle.recovery_sender.specs.Promises.Lost.{at_sending, elicits_by, sent_at}
use Rattle.recovery_sender.specs.Senders.{state_in}
use Rattle.recovery_sender.specs.Spaces.{packets_in}

-- ---- the fields of a packet when it was sent are found by its number

module _ {F K Q S M P A : Type 0} (beginning : Beginning F K Q S M P) (space : SpaceId) (none : A)
    (say : ℕ → Bool → A) where
  abbrev says : Packet P M → A
  says packet = say packet.time_sent packet.ack_eliciting

  abbrev Said : History Q S M P → Type 0
  Said history = IsSaid says (at_sending none say space history) (sent_in beginning history space)

  said_behind : (history : History Q S M P) (event : Event Q S M P) (reply : Reply Q)
      → RepliesAfter beginning history event reply → Said history → Said ((event, reply) ∷ history)
  said_behind history event reply told said =
      said_told beginning space says (λ contents packet. refl) history (at_sending none say space history) said event
      reply (at_sending none say space ((event, reply) ∷ history)) told (same event reply)
    where
      same : (event : Event Q S M P) (reply : Reply Q) (n : ℕ)
          → said_then beginning space says (λ contents packet. refl) history (at_sending none say space history) said
          event reply n
          ≡ at_sending none say space ((event, reply) ∷ history) n
      same (Send there now size eliciting largest queue frames) (Ok (answers.Sent number forgotten)) n =
          grind (arith, nat_tests)
      same (PollMtu now) (Ok (Probe number size)) n = grind (arith, nat_tests)
      same event reply n = refl

  pub all_said : (history : History Q S M P) → AtEach (RepliesAfter beginning) history → Said history
  all_said = kept_after (RepliesAfter beginning) Said said_behind tt

-- ---- what is tracked

some_iff : {T : Type 0} (found : Option T) (tracked : Bool) → is_some found ≡ tracked
    → (found ≢ None) ↔ (tracked ≡ true)
some_iff None tracked is = ((λ other. absurd (other refl)), λ holds. absurd (false≢true (is ∙ holds)))
some_iff (Some found) tracked is = ((λ other. sym is), λ holds none. none-some found (sym none))

module _ {F Q R C K S M P : Type 0} {f : _} {c : _} {q : _} {m : _} {r : _} (sender : Sender F Q R C K S M P f c q m r)
    (config : RecoveryConfig F) (start : ℕ) (random : Stream) (past : History Q S M P)
    (came : ReachedBy (begins f.built c.words (queue_model q.contents q.words q.blank) config start random) past
    (state_in sender)) (space : SpaceId) (kept : is_discarded space (state_in sender).discarded ≡ false) where
  abbrev beginning : Beginning F K Q S M P
  beginning = begins f.built c.words (queue_model q.contents q.words q.blank) config start random

  pub packets_by : packets_in (state_in sender) space ≡ (sent_in beginning past space).tracked
  packets_by = rw kept (ap (λ (sent : SentState P M). sent.tracked) (came.state_after.spaces space).sent)

  pub tracked_by : (n : ℕ) → (packet_at (packets_in (state_in sender) space) n ≢ None)
      ↔ (is_tracked space n past ≡ true)
  tracked_by n = some_iff (packet_at (packets_in (state_in sender) space) n) (is_tracked space n past) (rw packets_by
      (tracked_found beginning past (kept_after (RepliesAfter beginning) (AllTracked beginning)
      (keeps_tracked beginning)
      (none_tracked beginning) past came.replies) space n))

  -- the fields of a packet when it was sent, by the events
  pub said_by_past : {A : Type 0} (none : A) (say : ℕ → Bool → A) (n : ℕ) (packet : Packet P M)
      → packet_at (packets_in (state_in sender) space) n ≡ Some packet
      → say packet.time_sent packet.ack_eliciting ≡ at_sending none say space past n
  said_by_past none say n packet is = said_found (λ (packet : Packet P M). say packet.time_sent packet.ack_eliciting)
      (at_sending none say space past) (sent_in beginning past space).next (sent_in beginning past space).tracked
      (all_said beginning space none say past came.replies) n packet (rw packets_by at is)

  pub sent_by_past : (n : ℕ) (packet : Packet P M) → packet_at (packets_in (state_in sender) space) n ≡ Some packet
      → packet.time_sent ≡ sent_at space past n
  sent_by_past = said_by_past 0 (λ now eliciting. now)

  pub elicits_by_past : (n : ℕ) (packet : Packet P M) → packet_at (packets_in (state_in sender) space) n ≡ Some packet
      → packet.ack_eliciting ≡ elicits_by space past n
  elicits_by_past = said_by_past false (λ now eliciting. eliciting)
