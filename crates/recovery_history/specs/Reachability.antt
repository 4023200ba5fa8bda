-- The past of a live recovery: the events that led to its state, and what one more event guarantees.
use Rattle.std.specs.Prelude.{ℕ, ◌∷◌, ◌<◌, None, if◌then◌else◌}
use Rattle.std.specs.Option.{ForSome}
use Rattle.rand_core.specs.Stream.{Stream}
use Rattle.recovery_base.specs.Units.{u16_limit}
use Rattle.recovery_congestion.specs.Controllers.{ControllerSemantics}
use Rattle.recovery_history.specs.declared.config.RecoveryConfig.{RecoveryConfig}
use Rattle.recovery_events.specs.declared.event.Event.{Event}
use Rattle.recovery_history.specs.History.{Beginning, History, Reply, QueueModel, AtEach, begins}
use Rattle.recovery_history.specs.Pacing.{DelaysByBalance, DelaysExactly, BoundsPacingRate, PassesAfterDelay, PassesAtReportedTime, BoundsPaidRate}
use Rattle.recovery_history.specs.RecoveryState.{RecoveryState}
use Rattle.recovery_history.specs.Promises.Acknowledged.{TracksPendingAcks}
use Rattle.recovery_history.specs.Promises.Blocked.{BlocksExactly}
use Rattle.recovery_history.specs.Promises.Contents.{ConservesData}
use Rattle.recovery_history.specs.Promises.Counted.{CountsInFlight}
use Rattle.recovery_history.specs.Promises.Fates.{HaveOneOutcome}
use Rattle.recovery_history.specs.Promises.AckDuty.{AckIsScheduled}
use Rattle.recovery_history.specs.Promises.Ecn.{ChecksEcn}
use Rattle.recovery_history.specs.Promises.ProbeCount.{BoundsProbeCount}
use Rattle.recovery_history.specs.Promises.Forgotten.{ForgetsOldestNonEliciting}
use Rattle.recovery_history.specs.Promises.Frequency.{AppliesNewestFrequency}
use Rattle.recovery_history.specs.Promises.Overflow.{OverflowsExactly}
use Rattle.recovery_history.specs.Promises.Halving.{HalvesSizes}
use Rattle.recovery_history.specs.Promises.BlackHoles.{ReportsBlackHoleAtFour}
use Rattle.recovery_history.specs.Promises.Lifetimes.{AsksToRetire}
use Rattle.recovery_history.specs.Promises.Mtu.{UsesAckedMtu}
use Rattle.recovery_history.specs.Promises.Convergence.{ConvergesNearBest}
use Rattle.recovery_history.specs.Promises.NewNumbers.{DetectsDuplicates}
use Rattle.recovery_history.specs.Promises.ResolvedOnce.{ResolvedOnce}
use Rattle.recovery_history.specs.Promises.OwnIds.{IssuesIdsInOrder}
use Rattle.recovery_history.specs.Promises.PeerIds.{AcceptsIds}
use Rattle.recovery_history.specs.Promises.Pending.{HandsOutInOrder}
use Rattle.recovery_history.specs.Promises.Rejections.{RejectsExactly}
use Rattle.recovery_history.specs.Promises.Increasing.{NumbersIncrease}
use Rattle.recovery_history.specs.Promises.Sendable.{ReportsSendable}
use Rattle.recovery_history.specs.Promises.Sends.{SendsOrRejects}
use Rattle.recovery_history.specs.Promises.ProbeSizes.{BoundsProbeSize}
use Rattle.recovery_history.specs.Promises.Skipped.{AssignsNextNumber, RejectsSkippedAcks}
use Rattle.recovery_history.specs.Promises.Memory.{AllocatesOnlyToGrow}
use Rattle.recovery_history.specs.Promises.AckTimer.{StartsAckDelayTimer}
use Rattle.recovery_history.specs.Promises.Amplification.{LimitsAmplification}
use Rattle.recovery_history.specs.Promises.Timeouts.{ReportsNextTimeout}
use Rattle.recovery_history.specs.Promises.ProbesPerSize.{ProbesSizeAtMostThrice}
use Rattle.recovery_history.specs.Promises.OneProbe.{OneProbeAtATime}
use Rattle.recovery_history.specs.Promises.Unskipped.{SkipsNoNumbers}
use Rattle.recovery_history.specs.StateAfter.{LoggedStateAfter}
use Rattle.recovery_history.specs.RepliesAfter.{RepliesAfter}

module _ {F K Q S M P : Type 0} (beginning : Beginning F K Q S M P) where
  -- these events led from that beginning to this state. Each reply follows from the history before it. The state
  -- follows from the whole history, except for loss times and marks, which the caller sets
  pub record ReachedBy (past : History Q S M P) (recovery : RecoveryState K P M) : Type 0 where
    pub replies : AtEach (RepliesAfter beginning) past
    pub state_after : LoggedStateAfter beginning past recovery
    -- the bound of a search is a `u16`
    pub small : ForSome (if beginning.config.allow_mtud then beginning.config.transport.mtu_discovery_config else None)
        (λ settings. settings.upper_bound < u16_limit)

  -- all promises of an event and its reply, by the history before it
  pub record StepGuarantees (before : History Q S M P) (event : Event Q S M P) (reply : Reply Q) : Type 0 where
    -- The reply follows from the history before the event: each error by its cause and in its order, and each answer.
    pub reply_after : RepliesAfter beginning before event reply
    -- A packet is new exactly if its number exceeds all received in its space, or is none of them and at most 128 below
    -- each (RFC 9000, 12.3).
    pub new : DetectsDuplicates before event reply
    -- The next timeout is the earliest running timer: timers run from when they are set until they are stopped (RFC
    -- 9002, 6.2).
    pub timers : ReportsNextTimeout before event reply
    -- The peer's IDs are accepted, rejected and retired exactly as the frames and moves before determine (RFC 9000, 5.1
    -- and 19.15).
    pub peer_ids : AcceptsIds beginning.config.initial_cid before event reply
    -- Local IDs are issued in the order of their numbers, and only issued ones are retired (RFC 9000, 5.1 and 19.16).
    pub own_ids : IssuesIdsInOrder beginning.config.issued beginning.config.cid_len before event reply
    -- Four errors occur exactly if they have cause. `SpaceDiscarded`: the space was discarded. `NotTracked`: the packet
    -- is not tracked. `NoSuchPath`: the path does not exist. `NotInitialId`: the initial ID is not active (RFC 9000,
    -- 7.2 and 9.3; RFC 9002, 6.4 and A.7).
    pub rejections : RejectsExactly before event reply
    -- Bytes in flight on a path are the sum over the packets that were sent on it and not acknowledged, lost, forgotten
    -- or discarded since (RFC 9002, B.2).
    pub counted : CountsInFlight before event reply
    -- Until a path is validated, if all transmissions on it were checked, at most three times the bytes received on it
    -- are sent (RFC 9000, 8.1).
    pub amplification_limit : LimitsAmplification beginning.config.validated before event reply
    -- A checked datagram is blocked exactly if the path in use is not validated and with these bytes more than three
    -- times those received on it would be sent. An unchecked one never is (RFC 9000, 8.1).
    pub blocked : BlocksExactly beginning.config.validated before event reply
    -- A call of the pacer is delayed exactly if the balance, after its own refill, is below the bytes asked (RFC 9002,
    -- 7.7). Premise: all transmissions since the pacer was made were checked, with windows below 2^32 bytes and RTTs
    -- above zero.
    pub delayed : DelaysByBalance beginning before event reply
    -- Under the premise of `delayed`, take a point at which the pacer was made, refilled or given another capacity. The
    -- bytes sent from there on are at most the capacity there and five fourths of a window for each RTT since (RFC
    -- 9002, 7.7).
    pub rate : BoundsPacingRate beginning before event reply
    -- A call that was delayed until a time, if it was the pacer's last, passes from 4 ns after that time on, with the
    -- same bytes, RTT, window and MTU. Premise: the window is above zero, a full bucket has the bytes, and RTT times
    -- capacity is at most the longest span (RFC 9002, 7.7).
    pub passes_after_delay : PassesAfterDelay beginning before event reply
    -- The call of `passes_after_delay` passes at that time too, however often the pacer is asked in between, if nothing
    -- is sent. Premise: the bucket has room for a byte for each question and for the tokens of four nanoseconds (RFC
    -- 9002, 7.7).
    pub passes_at_reported_time : PassesAtReportedTime beginning before event reply
    -- Whatever is sent unchecked, a call is delayed exactly if it is paced and the balance of paid bytes, after its own
    -- refill, is below the bytes asked. It is paced at a window below 2^32 bytes and an RTT above zero (RFC 9002, 7.7).
    pub delayed_when_uncovered : DelaysExactly beginning before event reply
    -- A paced call that passes is paid for in full. From each point on, the bytes paid for beyond the balance there are
    -- at most five fourths of a window for each RTT since (RFC 9002, 7.7).
    pub paid_rate : BoundsPaidRate beginning before event reply
    -- The MTU of the path in use is the size of the probe acknowledged last, unless something else set it since. That
    -- is a limit of the peer, a black hole, a reset, a fresh path, or a return to the previous one. The previous path
    -- has the MTU with which it was left (RFC 9000, 14.3).
    pub mtu : UsesAckedMtu beginning before event reply
    -- A probe is sent only if MTU discovery is enabled, in a search that runs or is due, while none is in flight. A
    -- packet acknowledged or lost is reported as a probe exactly if it is the one in flight. A limit of the peer is
    -- accepted exactly if it is above zero and no search runs (RFC 8899, 5; RFC 9000, 14.4).
    pub one_probe : OneProbeAtATime beginning before event reply
    -- A probe is at most the size that the peer accepts, and at most the larger of the configured upper bound and the
    -- MTU in use as the search began. With a minimum change of 3 or more it is above the MTU in use, and at most the
    -- configured bound (RFC 8899, 5.1.2 and 5.3; RFC 9000, 14.3 and 18.2).
    pub sizes : BoundsProbeSize beginning before event reply
    -- If MTU discovery is enabled with a minimum change of 3 or more, a search sends at most 48 probes, of at most 16
    -- sizes (RFC 8899, 5).
    pub probe_count : BoundsProbeCount beginning before event reply
    -- A search that ends by a poll leaves an MTU that the link carries, less than two minimum changes below the best
    -- size. Premise: the minimum change is 3 or more. The link carries the MTU with which the search began and each
    -- acknowledged probe, but no lost one (RFC 8899, 5.3).
    pub convergence : ConvergesNearBest beginning before event reply
    -- A report of a black hole needs four bursts of losses, all their packets above the minimum MTU, that no
    -- acknowledgement refuted. It is made at four such bursts if the first ended above every probe, and every packet
    -- above the minimum MTU, acknowledged before, and none of these was acknowledged since (RFC 8899, 4.3).
    pub black_holes : ReportsBlackHoleAtFour beginning.config.transport.min_mtu before event reply
    -- In each space a number is assigned at most once. An assigned one is exactly one of these: tracked, acknowledged,
    -- lost, forgotten, discarded (RFC 9002, A.1, A.7, A.10 and 6.4).
    pub one_outcome : HaveOneOutcome ((event, reply) ∷ before)
    -- In each space a packet is sent under a number below 2^62, above all assigned there before (RFC 9000, 12.3).
    pub numbers_increase : NumbersIncrease before event reply
    -- In each space a number is acknowledged or lost at most once, and not both (RFC 9002, A.7 and A.10).
    pub resolved_once : ResolvedOnce ((event, reply) ∷ before)
    -- Contents are neither lost nor duplicated. By every measure of contents that adds up, what was sent in a space is
    -- what its packets carry and what waits for retransmission, plus what was acknowledged, forgotten, returned and
    -- discarded (RFC 9000, 13.3).
    pub conserved_data : ConservesData beginning ((event, reply) ∷ before)
    -- While an ack-eliciting packet waits for its ACK, an ACK is required at once, or the ACK delay timer runs (RFC
    -- 9000, 13.2.1).
    pub ack_scheduled : AckIsScheduled beginning before event reply
    -- The pending ACKs are the new numbers, except those dropped since they were received. A number is dropped if a
    -- packet is acknowledged that carried an ACK whose largest number is not below it, or if it falls below the 64
    -- highest ranges (RFC 9000, 13.2.3 and 13.2.4).
    pub to_acknowledge : TracksPendingAcks beginning ((event, reply) ∷ before)
    -- A packet is sent under the first number above all assigned in its space, or, of 1-RTT packets, under that one or
    -- the next (RFC 9000, 12.3 and 21.4).
    pub next_number : AssignsNextNumber before event reply
    -- Unless the space is discarded, the ACK of a range is rejected exactly if the range contains the number skipped
    -- last, or is no range of numbers below 2^62 (RFC 9000, 12.3 and 21.4).
    pub skipped_acks : RejectsSkippedAcks before event reply
    -- Three causes reject a packet exactly: an ACK of a number of 2^62 or more, no number left for it, or a counter of
    -- what is in flight that would overflow. The only others are a discarded space and a failed allocation (RFC 9000,
    -- 12.3; RFC 9002, B.2).
    pub send_result : SendsOrRejects before event reply
    -- A non-ack-eliciting packet that is sent while 1001 others are tracked since the last ack-eliciting one makes the
    -- oldest of them be forgotten. No other packet does (RFC 9002, 2 and A.1).
    pub forgotten : ForgetsOldestNonEliciting before event reply
    -- The ACK delay timer starts exactly at a new ack-eliciting packet, if it does not run and no ACK is required at
    -- once (RFC 9000, 13.2.1 and 13.2.2).
    pub ack_timer : StartsAckDelayTimer beginning before event reply
    -- A probe finds something ack-eliciting to send, if a queue joined with non-empty contents is never empty. It finds
    -- an ACK exactly if one is required and some number is to be acknowledged (RFC 9002, 6.2.4).
    pub sendable : ReportsSendable beginning before event reply
    -- ECN counts are rejected exactly if they fail the check against the last counts of their space that were accepted
    -- (RFC 9000, 13.4.2.1).
    pub ecn : ChecksEcn before event reply
    -- Unless the 1-RTT space is discarded, an ACK_FREQUENCY frame is accepted exactly if it is the newest and asks for
    -- a millisecond or more (draft-ietf-quic-ack-frequency-04, section 4).
    pub frequency : AppliesNewestFrequency before event reply
    -- `Overflow` rejects a received datagram, and a new path, exactly if its counter would reach 2^64 (RFC 9000, 8.1
    -- and 9.3).
    pub overflow : OverflowsExactly before event reply
    -- If MTU discovery is enabled with a minimum change of 3 or more, a search probes each size at most three times
    -- (RFC 8899, 5.1.2).
    pub probes_per_size : ProbesSizeAtMostThrice beginning before event reply
    -- If MTU discovery is enabled with a minimum change of 3 or more, a probe repeats the last size until it got
    -- through or was lost three times. Then its size is halfway between the size that passes and the largest that may,
    -- or is that largest, whichever first differs from the last size by the minimum change. A search ends if there is
    -- no such size (RFC 8899, 5.3).
    pub bisection : HalvesSizes beginning before event reply
    -- When the oldest lifetime of local IDs ends, the peer is asked to retire these exactly if it retired all that it
    -- was asked before, and not yet all up to these (RFC 9000, 5.1.2 and 19.15).
    pub retirement_requests : AsksToRetire beginning before event reply
    -- The retransmission queue is returned in the order in which its packets were lost, or found by probes (RFC 9000,
    -- 13.3).
    pub pending : HandsOutInOrder beginning before event reply
    -- If skipping is disabled, a packet is sent under the first number above all assigned in its space (RFC 9000,
    -- 12.3).
    pub no_skips : SkipsNoNumbers beginning before event reply
    -- An event fails with `NoMemory` only if it can allocate.
    pub allocates_to_grow : AllocatesOnlyToGrow event reply

  -- one event extends a past
  pub record StepFromPast (past : History Q S M P) (event : Event Q S M P) (reply : Reply Q)
      (new : RecoveryState K P M) : Type 0
    where
      pub keeps : StepGuarantees past event reply
      pub came : ReachedBy ((event, reply) ∷ past) new

-- for every beginning and past that led to this state
module _ {F K Q S M P : Type 0} (built : F → ℕ → ℕ → K) (words : ControllerSemantics K)
    (queue : QueueModel Q S M P) where
  abbrev pub StepFromAnyPast : RecoveryState K P M → Event Q S M P → Reply Q → RecoveryState K P M → Type 0
  StepFromAnyPast old event reply new = (config : RecoveryConfig F) (start : ℕ) (random : Stream)
      (past : History Q S M P) →
      let beginning = begins built words queue config start random in
      ReachedBy beginning past old → StepFromPast beginning past event reply new

  -- some beginning and some past led to this state
  pub record IsReachableState (recovery : RecoveryState K P M) : Type 0 where
    pub config : RecoveryConfig F
    pub start : ℕ
    pub random : Stream
    pub past : History Q S M P
    pub came : ReachedBy (begins built words queue config start random) past recovery

  -- from that past it continued
  pub record StepFromSomePast (old : RecoveryState K P M) (event : Event Q S M P) (reply : Reply Q)
      (new : RecoveryState K P M) : Type 0 where
    pub origin : IsReachableState old
    pub goes : StepFromPast (begins built words queue origin.config origin.start origin.random) origin.past event reply
        new

  -- the same pasts lead to the new state
  abbrev pub PreservesPastsOf : RecoveryState K P M → RecoveryState K P M → Type 0
  PreservesPastsOf old new = (config : RecoveryConfig F) (start : ℕ) (random : Stream) (past : History Q S M P) →
      let beginning = begins built words queue config start random in
      ReachedBy beginning past old → ReachedBy beginning past new
