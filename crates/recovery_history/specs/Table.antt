-- All that an event does: its reply, its entries in each part, and the changes of the parts without a log. The tables
-- have one line for each event, or a few, over the inputs from the past.
use Rattle.std.specs.Prelude.{◌≡◌, ◌≢◌, ℕ, ◌+◌, ◌<◌, ◌≤◌, true, false, not, map, IsTrue, IsSome, IsSomeAnd, Option, None, Some, Ok, Err, ◌∷◌, ◌++◌, length, []}
use Rattle.recovery_base.specs.declared.below.SpaceId.{SpaceId}
use Rattle.recovery_base.specs.declared.below.SpaceId.TheVariants.{Data}
use Rattle.recovery_acks.specs.AckFrequencies.{IsStale, delay_of, with_last, with_request}
use Rattle.recovery_congestion.specs.Controllers.{ControllerSemantics}
use Rattle.recovery_ids.specs.LocalIds.{holds_unretired, timed_out, LocalIds, with_issued, without_number}
use Rattle.recovery_spaces.specs.Acks.{AckState}
use Rattle.recovery_spaces.specs.Packets.{packet_at}
use Rattle.recovery_mtud.specs.Discovery.{poll_of, is_enabled_of, is_searching_of, reports}
use Rattle.recovery_paths.specs.PathLog.{path_of, on, moves, drops_previous, reverts, on_current, receives, is_validated, samples, tells, asks, transmits, passes, is_reset, PerPath, moved_to, reverted}
use Rattle.recovery_paths.specs.PathStates.{is_path_probe, path_delay, PathMarks}
use Rattle.recovery_events.specs.declared.event.Event.{Event}
use Rattle.recovery_events.specs.declared.event.Event.TheVariants.{Received, Send, Acked, Lost, NewId, NextId, InitialId, IssueIds, IdTimeout, PeerRetired, AckFrequencyIn, AcksSent, AckDelayTimeout, SetTimer, StopTimer, NextTimeout, DiscardSpace, InFlight, DatagramIn, Validated, Sample, Transmit, PacerCheck, Congestion, EndAcks, PollMtu, PeerLimit, MtuFound, LossesDone, Ecn, CheckAck, QueueProbe, TakePending, NewPath, ResetPath, DropPrevious, RevertPath}
use Rattle.recovery_events.specs.declared.event.Answer.{Answer}
use Rattle.recovery_events.specs.declared.event.Answer.TheVariants as answers
use Rattle.recovery_events.specs.declared.event.Refusal.TheVariants as refusals
use Rattle.recovery_history.specs.Entries.{found_in, Entries, nothing, happens, in_space, on_path, acked_entry, searched, acked_search, lost_search, sending, following}
use Rattle.recovery_history.specs.History.{History, Reply, QueueModel}
use Rattle.recovery_history.specs.IdReplies.{FrameReply, IsNextAnswer, IssueReply, RetirementReply}
use Rattle.recovery_history.specs.ReplyInputs.{ReplyInputs, number_in, packet_now, in_flight_on, current_in_flight, tracked_known}
use Rattle.recovery_history.specs.Promises.Timeouts.{every_timer, least}
use Rattle.recovery_history.specs.Replies.{IsFlag, RejectsWhen, AnswersOrNoMemory, AlwaysAnswers}
use Rattle.recovery_events.specs.declared.event.Answer.TheVariants.{New, Flag, Transmitted, Delayed, Probe}
use Rattle.recovery_congestion.specs.Calls.{sends as sends_bytes, ends_acks, congests}
use Rattle.recovery_mtud.specs.DiscoveryLog.{polls, is_found, is_limited, losses_end}
use Rattle.recovery_spaces.specs.SpaceLog.{heard as hears, heard_again, acknowledged, loses, probes, takes_pending, feeds_back, emptied, ack_goes, ack_is_late, asked}
use Rattle.recovery_base.specs.Timers.{TimerStep}
use Rattle.recovery_base.specs.Units.{number_limit, timer_granularity, u64_limit}
use Rattle.recovery_acks.specs.declared.frequency.AckFrequencyState.{AckFrequencyState}
use Rattle.recovery_ids.specs.RemoteStep.{RemoteStep, given, used, replaced}
use Rattle.recovery_spaces.specs.Discarded.{DiscardedStep}
use Rattle.recovery_events.specs.declared.event.Refusal.TheVariants.{DelayTooSmall}
use Rattle.recovery_paths.specs.PathMaking.{marks_made}
use Rattle.recovery_history.specs.PartReplies.{EqualsAnswer, AnswersDone, UnlessSpaceDiscarded, ReceivedReply, SendReply, RemovalReply, EcnAnswer, IsQueueProbeAnswer, IsPendingQueue, skipped_in, UnlessPathMissing, delayed_or, transmit_answer, MtuProbeReply}
use Rattle.recovery_history.specs.Unlogged.{UnloggedState}

-- ---- the parts without a log, by the history: the ACKs that the peer asked for (draft-ietf-quic-ack-frequency-04,
-- section 4), the size that it accepts (RFC 9000, 18.2) and the local IDs; timers, discarded spaces and the peer's IDs
-- are in the files of their promises

module _ {Q S M P : Type 0} where
  -- the number of the last ACK_FREQUENCY frame that was newer than those before it, whether it was accepted or asked
  -- for too small a delay
  abbrev pub last_asked : History Q S M P → Option ℕ
  last_asked [] = None
  last_asked ((AckFrequencyIn frame, Ok (Flag true)) ∷ earlier) = Some frame.sequence
  last_asked ((AckFrequencyIn frame, Err DelayTooSmall) ∷ earlier) = Some frame.sequence
  last_asked (happened ∷ earlier) = last_asked earlier

  -- the local max_ack_delay, at first that of the configuration
  abbrev pub own_delay : ℕ → History Q S M P → ℕ
  own_delay first [] = first
  own_delay first ((AckFrequencyIn frame, Ok (Flag true)) ∷ earlier) = delay_of frame
  own_delay first (happened ∷ earlier) = own_delay first earlier

  -- no frame was sent, and the peer's delay is that of the configuration
  abbrev pub frequency_by : ℕ → History Q S M P → AckFrequencyState
  frequency_by first history =
      record {
        in_flight_ack_frequency_frame = None;
        next_outgoing_sequence_number = 0;
        peer_max_ack_delay = first;
        last_ack_frequency_frame = last_asked history;
        max_ack_delay = own_delay first history;
      }

  -- the largest datagram that the peer accepts, as it stated last
  abbrev pub limit : History Q S M P → Option ℕ
  limit [] = None
  limit ((PeerLimit size, Ok answer) ∷ earlier) = Some size
  limit (happened ∷ earlier) = limit earlier

  -- the local IDs after these first ones: issued, asked to be retired as lifetimes end, and retired by the peer (RFC
  -- 9000, 5.1.1 and 19.16)
  abbrev pub own_ids : LocalIds → History Q S M P → LocalIds
  own_ids first [] = first
  own_ids first ((IssueIds now ids, Ok answer) ∷ earlier) = with_issued (length ids.items) now (own_ids first earlier)
  own_ids first ((IdTimeout, Ok answer) ∷ earlier) = timed_out (own_ids first earlier)
  own_ids first ((PeerRetired sequence limit, Ok answer) ∷ earlier) = without_number sequence (own_ids first earlier)
  own_ids first (happened ∷ earlier) = own_ids first earlier

-- ---- the reply to each event

module _ {K Q S M P : Type 0} (q : QueueModel Q S M P) (words : ControllerSemantics K) (heard : SpaceId → AckState)
    (known : ReplyInputs K P M) where
  abbrev pub ReplyTable : Event Q S M P → Reply Q → Type 0
  ReplyTable (Received space now number eliciting) = ReceivedReply (known.spaces space) (heard space) number eliciting
  ReplyTable (Send space now size eliciting largest queue frames) = SendReply (known.spaces space)
      (current_in_flight known)
      (number_in known space) (packet_now known now size eliciting largest (q.contents queue) frames)
  ReplyTable (Acked space now number app_limited) =
      RemovalReply (known.spaces space) ⊥ number (answers.Acked (is_path_probe space number known.paths.current.state))
  ReplyTable (Lost space number) = RemovalReply (known.spaces space) (Unit {0}) number
      (answers.Lost (is_path_probe space number known.paths.current.state))
  ReplyTable (NewId frame) = FrameReply known.remote_ids frame
  ReplyTable NextId = AlwaysAnswers (IsNextAnswer known.remote_ids)
  -- the initial ID is replaced while it is active
  ReplyTable (InitialId id) = RejectsWhen refusals.NotInitialId (known.remote_ids.active ≢ 0) AnswersDone
  ReplyTable (IssueIds now ids) = IssueReply known.local_ids ids.items
  -- the answer states whether a number below the new retire-prior-to is not retired
  ReplyTable IdTimeout =
      let ids = known.local_ids in let later = timed_out ids in
      AlwaysAnswers (EqualsAnswer (answers.Flag (holds_unretired ids.retire_prior_to later.retire_prior_to later)))
  ReplyTable (PeerRetired sequence limit) = RetirementReply known.local_ids sequence limit
  -- a frame that is not newer than the last one is ignored; a newer one is rejected if it asks for less than a
  -- millisecond
  ReplyTable (AckFrequencyIn frame) =
      let is_newer = ¬ IsStale known.last_asked frame.sequence in
      UnlessSpaceDiscarded (known.spaces Data)
      (RejectsWhen refusals.DelayTooSmall (is_newer × (delay_of frame < timer_granularity))
      (AlwaysAnswers (IsFlag is_newer)))
  ReplyTable (AcksSent space) = UnlessSpaceDiscarded (known.spaces space) AnswersDone
  ReplyTable (AckDelayTimeout space) = UnlessSpaceDiscarded (known.spaces space) AnswersDone
  ReplyTable (SetTimer timer time) = AnswersDone
  ReplyTable (StopTimer timer) = AnswersDone
  ReplyTable NextTimeout = AlwaysAnswers (EqualsAnswer (answers.Timeout (least (map known.timer_value every_timer))))
  ReplyTable (DiscardSpace space) = UnlessSpaceDiscarded (known.spaces space) AnswersDone
  ReplyTable (InFlight path) = UnlessPathMissing (path_of path known.paths)
      (λ there. let counters = in_flight_on known there in
      AlwaysAnswers (EqualsAnswer (answers.InFlight counters.bytes counters.ack_eliciting)))
  ReplyTable (DatagramIn path bytes) = UnlessPathMissing (path_of path known.paths)
      (λ there. RejectsWhen refusals.Overflow (u64_limit ≤ there.state.total_recvd + bytes) AnswersDone)
  ReplyTable (Validated path) = UnlessPathMissing (path_of path known.paths) (λ there. AnswersDone)
  ReplyTable (Sample delay rtt) = AnswersDone
  ReplyTable (Transmit now bytes checked) =
      let path = known.paths.current.state in
      RejectsWhen refusals.Overflow (u64_limit ≤ path.total_sent + bytes)
      (AlwaysAnswers (EqualsAnswer (transmit_answer words now bytes checked path)))
  ReplyTable (PacerCheck now bytes) =
      AlwaysAnswers (EqualsAnswer (delayed_or words answers.Ready
      (path_delay words now bytes known.paths.current.state)))
  ReplyTable (Congestion now sent persistent bytes) = AnswersDone
  ReplyTable (EndAcks now app_limited largest) = AnswersDone
  ReplyTable (PollMtu now) = UnlessSpaceDiscarded (known.spaces Data)
      (RejectsWhen refusals.NumbersExhausted (number_limit ≤ known.next_number)
      (MtuProbeReply q known now (poll_of now known.paths.current.state.discovery)))
  -- a limit is accepted while no search runs
  ReplyTable (PeerLimit size) = RejectsWhen refusals.ZeroMtu (size ≡ 0)
      (RejectsWhen refusals.Searching (IsTrue (is_searching_of known.paths.current.state.discovery)) AnswersDone)
  -- an MTU found elsewhere is accepted if MTU discovery is disabled
  ReplyTable (MtuFound mtu) = RejectsWhen refusals.ZeroMtu (mtu ≡ 0)
      (RejectsWhen refusals.Searching (IsTrue (is_enabled_of known.paths.current.state.discovery)) AnswersDone)
  ReplyTable (LossesDone now) = AlwaysAnswers (EqualsAnswer (answers.BlackHole
      (reports known.paths.current.state.discovery)))
  ReplyTable (Ecn space newly counts) = UnlessSpaceDiscarded (known.spaces space)
      (EcnAnswer (known.spaces space) newly counts)
  -- no acknowledged range contains the number that was skipped last
  ReplyTable (CheckAck space low high) = UnlessSpaceDiscarded (known.spaces space)
      (RejectsWhen refusals.NumberTooLarge (number_limit ≤ high)
      (RejectsWhen refusals.BadRange (high < low)
      (RejectsWhen refusals.SkippedAcked (IsSomeAnd (skipped_in known space) (λ s. (low ≤ s) × (s ≤ high)))
      AnswersDone)))
  ReplyTable (QueueProbe space immediate streams) =
      let here = known.spaces space in let found = found_in known q.words streams space in
      UnlessSpaceDiscarded here (AnswersOrNoMemory (IsSome found.moved)
      (IsQueueProbeAnswer q here streams (heard space) immediate found))
  ReplyTable (TakePending space) = UnlessSpaceDiscarded (known.spaces space)
      (AlwaysAnswers (IsPendingQueue q (known.spaces space)))
  -- a path that continues from the current one needs a second controller
  ReplyTable (NewPath now remote is_fresh) = RejectsWhen refusals.Overflow (u64_limit ≤ known.paths.made + 1)
      (AnswersOrNoMemory (IsTrue (not is_fresh)) (EqualsAnswer answers.Done))
  ReplyTable (ResetPath now) = AnswersDone
  ReplyTable DropPrevious = UnlessPathMissing known.paths.previous (λ there. AnswersDone)
  ReplyTable RevertPath = UnlessPathMissing known.paths.previous (λ there. AnswersDone)

-- ---- the entries of each event in the spaces and paths: one line, or two if its answer decides

module _ {K Q S M P : Type 0} (q : QueueModel Q S M P) (known : ReplyInputs K P M) where
  -- the entries of an event, by its answer and the inputs before it
  abbrev pub answered : Event Q S M P → Answer Q → Entries P M
  answered (Received space now number eliciting) (New arm) = in_space space (hears now number eliciting)
  answered (Received space now number eliciting) answer = in_space space (heard_again number)
  answered (Send space now size eliciting largest queue frames) answer =
      sending known space now size eliciting largest (q.contents queue) frames
  answered (Acked space now number app_limited) answer =
      let packet = packet_at (tracked_known known space) number in
      happens space (acknowledged number)
      (acked_entry known now app_limited packet ++ acked_search known space number packet)
  answered (Lost space number) answer =
      happens space (loses number) (lost_search known space number (packet_at (tracked_known known space) number))
  answered (AckFrequencyIn frame) (Flag true) = in_space Data (asked frame)
  answered (AcksSent space) answer = in_space space ack_goes
  answered (AckDelayTimeout space) answer = in_space space ack_is_late
  answered (DiscardSpace space) answer = in_space space emptied
  answered (DatagramIn path bytes) answer = on_path (on path (receives bytes))
  answered (Validated path) answer = on_path (on path is_validated)
  answered (Sample delay rtt) answer = on_path (on_current (samples delay rtt))
  answered (Transmit now bytes true) Transmitted = on_path (on_current (passes now bytes))
  answered (Transmit now bytes true) (Delayed until) = on_path (on_current (asks now bytes))
  answered (Transmit now bytes false) answer = on_path (on_current (transmits bytes))
  answered (PacerCheck now bytes) answer = on_path (on_current (asks now bytes))
  answered (Congestion now sent persistent bytes) answer =
      on_path (on_current (tells (congests now sent persistent bytes)))
  answered (EndAcks now app_limited largest) answer =
      on_path (on_current (tells (ends_acks now (current_in_flight known).bytes app_limited largest)))
  answered (PollMtu now) (Probe number size) =
      record (sending known Data now size true None q.words.empty q.blank) {
        paths = searched known false (polls now number)
            ++ on_current (tells (sends_bytes now size (number_in known Data))) ∷ [];
      }
  answered (PollMtu now) answer = record nothing { paths = searched known false (polls now known.next_number) }
  answered (PeerLimit size) answer = record nothing { paths = searched known false (is_limited size) }
  answered (MtuFound mtu) answer = record nothing { paths = searched known true (is_found mtu) }
  answered (LossesDone now) answer =
      record nothing { paths = searched known (reports known.paths.current.state.discovery) (losses_end now) }
  answered (Ecn space newly counts) answer = in_space space (feeds_back counts)
  answered (QueueProbe space immediate streams) answer =
      in_space space (probes immediate (found_in known q.words streams space))
  answered (TakePending space) answer = in_space space takes_pending
  answered (NewPath now remote is_fresh) answer = on_path (moves (following known now remote is_fresh))
  answered (ResetPath now) answer = on_path (on_current (is_reset now))
  answered DropPrevious answer = on_path drops_previous
  answered RevertPath answer = on_path (reverts known.peer_limit)
  answered event answer = nothing

  abbrev pub entries_of : Event Q S M P → Reply Q → Entries P M
  entries_of event (Ok answer) = answered event answer
  entries_of event (Err refusal) = nothing

-- ---- what each event does to the parts without a log

-- what an event does to them
abbrev pub UnloggedStep : {Q S M P : Type 0} → Event Q S M P → Reply Q → UnloggedState → UnloggedState → Type 0
UnloggedStep (SetTimer timer time) (Ok answer) old new =
    TimerStep timer (Some time) old.timers new.timers × (new ≡ record old { timers = new.timers })
UnloggedStep (StopTimer timer) (Ok answer) old new =
    TimerStep timer None old.timers new.timers × (new ≡ record old { timers = new.timers })
UnloggedStep (DiscardSpace space) (Ok answer) old new =
    DiscardedStep space old.discarded new.discarded × (new ≡ record old { discarded = new.discarded })
UnloggedStep (AckFrequencyIn frame) (Ok (Flag true)) old new =
    new ≡ record old { frequency = with_request frame old.frequency }
UnloggedStep (AckFrequencyIn frame) (Err DelayTooSmall) old new =
    new ≡ record old { frequency = with_last frame.sequence old.frequency }
UnloggedStep (NewId frame) (Ok answer) old new =
    RemoteStep (given frame) old.remote_ids new.remote_ids × (new ≡ record old { remote_ids = new.remote_ids })
UnloggedStep NextId (Ok answer) old new =
    RemoteStep used old.remote_ids new.remote_ids × (new ≡ record old { remote_ids = new.remote_ids })
UnloggedStep (InitialId id) (Ok answer) old new =
    RemoteStep (replaced id) old.remote_ids new.remote_ids × (new ≡ record old { remote_ids = new.remote_ids })
UnloggedStep (IssueIds now ids) (Ok answer) old new =
    new ≡ record old { local_ids = with_issued (length ids.items) now old.local_ids }
UnloggedStep IdTimeout (Ok answer) old new = new ≡ record old { local_ids = timed_out old.local_ids }
UnloggedStep (PeerRetired sequence limit) (Ok answer) old new =
    new ≡ record old { local_ids = without_number sequence old.local_ids }
UnloggedStep (PeerLimit size) (Ok answer) old new = new ≡ record old { peer_limit = Some size }
UnloggedStep event reply old new = new ≡ old

-- ---- what each event does to the caller's marks of the paths

-- a new path has fresh marks, except that one that is not fresh inherits the first packet after an RTT sample; marks
-- move with their path, and no event changes them
abbrev pub marks_after : {Q S M P : Type 0} → Event Q S M P → Reply Q → PerPath PathMarks → PerPath PathMarks
marks_after (NewPath now remote true) (Ok answer) old = moved_to (marks_made None) old
marks_after (NewPath now remote false) (Ok answer) old = moved_to (marks_made old.current.first_after_sample) old
marks_after DropPrevious (Ok answer) old = record old { previous = None }
marks_after RevertPath (Ok answer) old = reverted (λ marks. marks) old
marks_after event reply old = old
