-- Equality of replies, and of states as far as readers can observe them.
use Rattle.std.specs.Prelude.{◌≡◌, ◌≢◌, ℕ, ◌↔◌, Ok, Err}
use Rattle.rand_core.specs.Stream.{Stream}
use Rattle.recovery_base.specs.declared.below.SpaceId.{SpaceId}
use Rattle.recovery_base.specs.declared.timer.Timer.{Timer}
use Rattle.recovery_base.specs.Received.{HasReceived}
use Rattle.recovery_base.specs.Timers.{moment}
use Rattle.recovery_acks.specs.Acks.{Acks, IsPending}
use Rattle.recovery_congestion.specs.Controllers.{ControllerSemantics}
use Rattle.recovery_ids.specs.CidQueue.{remote_ids}
use Rattle.recovery_spaces.specs.Discarded.{is_discarded}
use Rattle.recovery_spaces.specs.Paths.{counters_of}
use Rattle.recovery_spaces.specs.Spaces.{Space, space_of, sent_of, acks_of, queued_of}
use Rattle.recovery_paths.specs.PathLog.{each_path, paths_known}
use Rattle.recovery_history.specs.declared.config.RecoveryConfig.{RecoveryConfig}
use Rattle.recovery_events.specs.declared.event.Answer.{Answer}
use Rattle.recovery_events.specs.declared.event.Answer.TheVariants.{Queue}
use Rattle.recovery_events.specs.declared.event.Event.{Event}
use Rattle.recovery_events.specs.declared.event.Refusal.{Refusal}
use Rattle.recovery_events.specs.declared.event.Refusal.TheVariants.{Ecn, NoMemory}
use Rattle.recovery_history.specs.CallerState.{caller_fields_of}
use Rattle.recovery_history.specs.History.{History, QueueModel, Reply, begins}
use Rattle.recovery_history.specs.RecoveryState.{RecoveryState}
use Rattle.recovery_history.specs.StateAfter.{StateAfter}
use Rattle.recovery_history.specs.RepliesAfter.{RepliesAfter}

-- ---- replies

-- texts are equal by their characters
abbrev pub SameRefusal : Refusal → Refusal → Type 0
SameRefusal (Ecn one) (Ecn other) = one.now ≡ other.now
SameRefusal one other = one ≡ other

module _ {Q P : Type 0} (contents : Q → P) where
  -- queues are equal by their contents
  abbrev pub SameAnswer : Answer Q → Answer Q → Type 0
  SameAnswer (Queue one) (Queue other) = contents one ≡ contents other
  SameAnswer one other = one ≡ other

  abbrev pub SameReply : Reply Q → Reply Q → Type 0
  SameReply (Ok one) (Ok other) = SameAnswer one other
  SameReply (Err one) (Err other) = SameRefusal one other
  SameReply one other = ⊥

-- ---- states

-- the pending ACKs, and when they are due
pub record AcksObservablyEqual (one other : Acks) : Type 0 where
  pub pending : (n : ℕ) → IsPending one n ↔ IsPending other n
  pub required : one.required ≡ other.required
  pub base : one.base ≡ other.base
  pub counts : one.counts ≡ other.counts

pub record SpacesObservablyEqual {P M : Type 0} (one other : Space P M) : Type 0 where
  pub numbers : (n : ℕ) → HasReceived one.dedup n ↔ HasReceived other.dedup n
  pub acks : AcksObservablyEqual (acks_of one) (acks_of other)
  pub greatest : one.rx_packet ≡ other.rx_packet
  pub sent : sent_of one ≡ sent_of other
  pub acknowledged : one.largest_acked_packet ≡ other.largest_acked_packet
  pub acknowledged_sent : one.largest_acked_packet_sent ≡ other.largest_acked_packet_sent
  pub last_sent : one.time_of_last_ack_eliciting_packet ≡ other.time_of_last_ack_eliciting_packet
  pub probes : one.loss_probes ≡ other.loss_probes
  pub given_out : one.sent_with_keys ≡ other.sent_with_keys
  pub queued : queued_of one ≡ queued_of other
  pub beside : caller_fields_of one ≡ caller_fields_of other

-- two states that no reader can distinguish, except by the marks of paths, which the caller sets
pub record IsObservablyEqual {K P M : Type 0} (one other : RecoveryState K P M) : Type 0 where
  pub settings : one.settings ≡ other.settings
  pub spaces : (space : SpaceId) → SpacesObservablyEqual (space_of space one.spaces) (space_of space other.spaces)
  pub discarded : (space : SpaceId) → is_discarded space one.discarded ≡ is_discarded space other.discarded
  pub paths : paths_known one.paths ≡ paths_known other.paths
  pub in_flight : each_path (λ path. counters_of path.ledger) one.paths ≡ each_path (λ path. counters_of path.ledger)
      other.paths
  pub peer_limit : one.peer_limit ≡ other.peer_limit
  pub skipping : one.skipping ≡ other.skipping
  pub frequency : one.frequency ≡ other.frequency
  pub timers : (kind : Timer) → moment kind one.timers ≡ moment kind other.timers
  pub remote_ids : remote_ids one.remote_cids ≡ remote_ids other.remote_cids
  pub local_ids : one.local_ids ≡ other.local_ids

-- ---- replies and states are determined

module _ {F K Q S M P : Type 0} (built : F → ℕ → ℕ → K) (words : ControllerSemantics K)
    (queue : QueueModel Q S M P) where
  -- two replies to one event after one history are equal, unless an allocation failed
  abbrev pub DecidesReplies : Type 0
  DecidesReplies = (config : RecoveryConfig F) (start : ℕ) (random : Stream) (history : History Q S M P)
      (event : Event Q S M P) (one other : Reply Q) →
      let beginning = begins built words queue config start random in
      RepliesAfter beginning history event one → RepliesAfter beginning history event other → one ≢ Err NoMemory
      → other ≢ Err NoMemory
      → SameReply queue.contents one other

  -- two states after one history are observably equal
  abbrev pub DecidesStates : Type 0
  DecidesStates = (config : RecoveryConfig F) (start : ℕ) (random : Stream) (history : History Q S M P)
      (one other : RecoveryState K P M) →
      let beginning = begins built words queue config start random in
      StateAfter beginning history one → StateAfter beginning history other → IsObservablyEqual one other
