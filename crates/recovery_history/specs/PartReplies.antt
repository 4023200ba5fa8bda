-- The replies to events of a space, a path and an MTU search, by the inputs from the past.
use Rattle.std.specs.Prelude.{◌≡◌, ℕ, ◌≤◌, ◌↔◌, nat_lt, Bool, true, false, IsTrue, Option, None, Some, Ok, Err, if◌then◌else◌}
use Rattle.recovery_base.specs.declared.below.SpaceId.{SpaceId}
use Rattle.recovery_base.specs.declared.below.SpaceId.TheVariants.{Data}
use Rattle.recovery_base.specs.declared.below.frames.EcnCounts.{EcnCounts}
use Rattle.recovery_base.specs.Ecn.{ecn_fault}
use Rattle.recovery_base.specs.Numbers.{IsNewNumber}
use Rattle.recovery_base.specs.Units.{number_limit}
use Rattle.recovery_congestion.specs.Controllers.{ControllerSemantics}
use Rattle.recovery_acks.specs.Acks.{AckCounts}
use Rattle.recovery_spaces.specs.Acks.{ArmsAckTimer, AckState}
use Rattle.recovery_spaces.specs.InFlight.{Overflows}
use Rattle.recovery_spaces.specs.Packets.{Packet, packet_at, IsTooLarge}
use Rattle.recovery_spaces.specs.Probes.{ProbeFound}
use Rattle.recovery_spaces.specs.Queued.{IsSendable, probe_queued}
use Rattle.recovery_spaces.specs.Tracked.{forgotten_by}
use Rattle.recovery_spaces.specs.declared.paths.InFlight.{InFlight as Counters}
use Rattle.recovery_paths.specs.PathLog.{PathReplyInputs}
use Rattle.recovery_paths.specs.PathStates.{PathState, is_blocked, path_delay}
use Rattle.recovery_events.specs.declared.event.Answer.{Answer}
use Rattle.recovery_events.specs.declared.event.Answer.TheVariants as answer
use Rattle.recovery_events.specs.declared.event.Refusal.TheVariants as refusal
use Rattle.recovery_history.specs.History.{Reply, QueueModel}
use Rattle.recovery_history.specs.ReplyInputs.{SpaceReplyInputs, ReplyInputs, packet_now, current_in_flight}
use Rattle.recovery_history.specs.Replies.{RejectsWhen, AnswersOrNoMemory, AlwaysAnswers}

module _ {Q : Type 0} where
  abbrev pub EqualsAnswer : Answer Q → Answer Q → Type 0
  EqualsAnswer expected given = given ≡ expected

  -- always done
  abbrev pub AnswersDone : Reply Q → Type 0
  AnswersDone = AlwaysAnswers (λ given. given ≡ answer.Done)

  -- the answer to a received packet, by its entry in the space
  abbrev pub ReceivedAnswer : AckState → AckCounts → ℕ → Bool → Answer Q → Type 0
  ReceivedAnswer heard counts number eliciting (answer.New arm) =
      IsNewNumber heard.came number × (IsTrue arm ↔ ArmsAckTimer heard.came heard.required heard.started counts number
      eliciting)
  ReceivedAnswer heard counts number eliciting answer.Duplicate = ¬ IsNewNumber heard.came number
  ReceivedAnswer heard counts number eliciting other = ⊥

-- ---- events in a space

module _ {Q P M : Type 0} (here : SpaceReplyInputs P M) where
  -- fails if the space was discarded, and else has this reply
  abbrev pub UnlessSpaceDiscarded : (Reply Q → Type 0) → Reply Q → Type 0
  UnlessSpaceDiscarded = RejectsWhen refusal.SpaceDiscarded (IsTrue here.discarded)

  -- the reply to a received packet, by the numbers received before it; only a new number allocates
  abbrev pub ReceivedReply : AckState → ℕ → Bool → Reply Q → Type 0
  ReceivedReply heard number eliciting = UnlessSpaceDiscarded
      (RejectsWhen refusal.NumberTooLarge (number_limit ≤ number)
      (AnswersOrNoMemory (IsNewNumber heard.came number) (ReceivedAnswer heard here.counts number eliciting)))

  -- a sent packet gets this number, and a non-ack-eliciting packet may be forgotten for it
  abbrev pub SendReply : Counters → ℕ → Packet P M → Reply Q → Type 0
  SendReply counters number packet = UnlessSpaceDiscarded
      (RejectsWhen refusal.NumberTooLarge (IsTooLarge packet.largest_acked)
      (RejectsWhen refusal.NumbersExhausted (number_limit ≤ number)
      (RejectsWhen refusal.Overflow (Overflows counters packet)
      (AnswersOrNoMemory (Unit {0}) (EqualsAnswer (answer.Sent number (forgotten_by here.sent packet)))))))

  -- a tracked packet is removed; joining its contents to others may allocate
  abbrev pub RemovalReply : Type 0 → ℕ → Answer Q → Reply Q → Type 0
  RemovalReply Grows number given = UnlessSpaceDiscarded
      (RejectsWhen refusal.NotTracked (packet_at here.sent.tracked number ≡ None)
      (AnswersOrNoMemory Grows (EqualsAnswer given)))

  -- ECN counts are rejected, with the text of the first fault, if they fail the check; else the answer states whether
  -- more packets were marked (RFC 9000, 13.4.2.1)
  abbrev pub EcnAnswer : ℕ → EcnCounts → Reply Q → Type 0
  EcnAnswer newly counts (Ok given) =
      (ecn_fault here.queued.ecn newly counts ≡ None) × (given ≡ answer.Flag (nat_lt here.queued.ecn.ce counts.ce))
  EcnAnswer newly counts (Err (refusal.Ecn text)) = ecn_fault here.queued.ecn newly counts ≡ Some text.now
  EcnAnswer newly counts (Err other) = ⊥

module _ {Q S M P : Type 0} (q : QueueModel Q S M P) (here : SpaceReplyInputs P M) where
  -- a probe finds this: what can be sent then
  abbrev pub IsQueueProbeAnswer : S → AckState → Bool → ProbeFound → Answer Q → Type 0
  IsQueueProbeAnswer streams heard immediate found (answer.Sendable frames) =
      IsSendable q.words streams heard (probe_queued q.words immediate found here.sent.tracked here.queued) frames
  IsQueueProbeAnswer streams heard immediate found other = ⊥

  -- the retransmission queue
  abbrev pub IsPendingQueue : Answer Q → Type 0
  IsPendingQueue (answer.Queue queue) = q.contents queue ≡ here.queued.pending
  IsPendingQueue other = ⊥

-- only the Application Data space skips numbers
abbrev pub skipped_in : {K P M : Type 0} → ReplyInputs K P M → SpaceId → Option ℕ
skipped_in known Data = known.skipped
skipped_in known other = None

-- ---- existing paths

module _ {K Q : Type 0} where
  -- fails if the path does not exist
  abbrev pub UnlessPathMissing : Option (PathReplyInputs K) → (PathReplyInputs K → Reply Q → Type 0) → Reply Q → Type 0
  UnlessPathMissing None Replies = RejectsWhen refusal.NoSuchPath (Unit {0}) (λ reply. ⊥)
  UnlessPathMissing (Some path) Replies = Replies path

-- ---- the path in use

module _ {K Q : Type 0} (words : ControllerSemantics K) where
  -- the pacer's answer: it may be sent now, or when to ask again
  abbrev pub delayed_or : Answer Q → Option ℕ → Answer Q
  delayed_or now None = now
  delayed_or now (Some until) = answer.Delayed until

  -- a checked datagram is blocked by the anti-amplification limit (RFC 9000, 8.1), or delayed by the pacer (RFC 9002,
  -- 7.7)
  abbrev pub transmit_answer : ℕ → ℕ → Bool → PathState K → Answer Q
  transmit_answer now bytes false path = answer.Transmitted
  transmit_answer now bytes true path =
      if is_blocked path bytes then answer.Blocked
      else delayed_or answer.Transmitted (path_delay words now bytes path)

-- ---- the MTU search (RFC 8899, 5; RFC 9000, 14.3)

module _ {K Q S M P : Type 0} (q : QueueModel Q S M P) (known : ReplyInputs K P M) where
  -- a probe that is due is sent under the next number
  abbrev pub MtuProbeReply : ℕ → Option ℕ → Reply Q → Type 0
  MtuProbeReply now None = AlwaysAnswers (EqualsAnswer answer.NoProbe)
  MtuProbeReply now (Some size) =
      let packet = packet_now known now size true None q.words.empty q.blank in
      RejectsWhen refusal.Overflow (Overflows (current_in_flight known) packet)
      (AnswersOrNoMemory (Unit {0}) (EqualsAnswer (answer.Probe known.next_number size)))
