-- The table of replies allows one reply, and the logs determine one state: the laws `one_reply` and `one_state`.
use Rattle.std.proofs.Common.{◌≡◌, ℕ, ◌↔◌, ◌+◌, Bool, true, false, MatchBool, Option, None, Some, Ok, Err, arith, refl, sym, ap, ◌∙◌}
use Rattle.std.specs.Prelude.{◌==◌, ◌≢◌, option_map}
use Rattle.std.specs.Option.{ForSome}
use Rattle.std.proofs.lemmas.Option.{same_Some}
use Rattle.recovery_base.specs.declared.below.SpaceId.{SpaceId}
use Rattle.recovery_base.specs.declared.below.frames.EcnCounts.{EcnCounts}
use Rattle.recovery_base.specs.declared.below.ids.NewConnectionId.{NewConnectionId}
use Rattle.recovery_acks.specs.Acks.{AckCounts, Acks}
use Rattle.recovery_congestion.specs.Controllers.{ControllerSemantics}
use Rattle.recovery_ids.specs.RemoteIds.{IdTable, RemoteIds, IsLeastHeld, with_frame}
use Rattle.recovery_spaces.specs.Acks.{AckState, acks_by}
use Rattle.recovery_spaces.specs.Probes.{ProbeFound}
use Rattle.recovery_spaces.specs.Paths.{counters_of}
use Rattle.recovery_spaces.specs.Spaces.{AcksAfter}
use Rattle.recovery_spaces.specs.declared.paths.InFlight.{InFlight as Counters}
use Rattle.recovery_paths.specs.PathLog.{PerPath, PathReplyInputs, each_path, path_known, path_of, paths_known}
use Rattle.recovery_paths.specs.PathStates.{Path}
use Rattle.recovery_events.specs.declared.event.Answer.{Answer}
use Rattle.recovery_events.specs.declared.event.Answer.TheVariants.{Queue, Flag, New, Sendable, Retire}
use Rattle.recovery_events.specs.declared.event.Refusal.{Refusal}
use Rattle.recovery_events.specs.declared.event.Refusal.TheVariants as refusal
use Rattle.recovery_events.specs.declared.event.Refusal.TheVariants.{NoMemory, NoSuchPath, Overflow}
use Rattle.recovery_paths.specs.declared.path_pair.PathName.{PathName}
use Rattle.recovery_paths.specs.declared.path_pair.PathName.TheVariants.{Previous}
use Rattle.recovery_events.specs.declared.event.Event.{Event}
use Rattle.recovery_events.specs.declared.event.Event.TheVariants.{DropPrevious, RevertPath}
use Rattle.recovery_history.specs.RepliesAfter.{logs_of, inputs_after, RepliesAfter}
use Rattle.recovery_history.specs.History.{Beginning, History, QueueModel, Reply}
use Rattle.recovery_history.specs.IdReplies.{IsFrameAnswer, IsNextAnswer}
use Rattle.recovery_history.specs.RecoveryState.{RecoveryState}
use Rattle.recovery_history.specs.ReplyInputs.{ReplyInputs, SpaceReplyInputs, in_flight_on}
use Rattle.recovery_events.specs.Refusals.{refusal_number}
use Rattle.recovery_history.specs.Replies.{same_refusal, IsFlag, RejectsWhen, AnswersOrNoMemory, AlwaysAnswers}
use Rattle.recovery_history.specs.Equality.{AcksObservablyEqual, IsObservablyEqual, SameRefusal, SameAnswer, SameReply}
use Rattle.recovery_history.specs.StateAfter.{InFlightAfter, StateAfter}
use Rattle.recovery_history.proofs.PeerIdsLaws.{held_same}
use Rattle.recovery_history.proofs.ReplyLaws.{only_refusal}
use Rattle.recovery_history.specs.PartReplies.{EcnAnswer, EqualsAnswer, IsPendingQueue, IsQueueProbeAnswer, UnlessPathMissing, MtuProbeReply, ReceivedAnswer}
use Rattle.recovery_history.specs.Table.{ReplyTable}

-- ---- errors, by their numbers

same_as_itself : (e : Refusal) → SameRefusal e e
same_as_itself (refusal.Ecn text) = refl
same_as_itself other = refl

-- two that have the number of one without a text
same_refusals : (e f of : Refusal) → (refusal_number of == 17) ≡ false → same_refusal e of ≡ true
    → same_refusal f of ≡ true → SameRefusal e f
same_refusals e f of no_text is_e is_f =
    rw (only_refusal e of no_text is_e) (rw (only_refusal f of no_text is_f) (same_as_itself of))

-- ---- the smallest ID that is held

pub least_held : (held : IdTable) (low one other : ℕ) → IsLeastHeld held low one → IsLeastHeld held low other
    → one ≡ other
least_held held low one other is_one is_other =
    grind (
      arith,
      is_one.least other,
      is_other.least one,
      is_one.bound,
      is_other.bound,
      is_one.is_held,
      is_other.is_held,
    )

module _ {Q S M P : Type 0} (q : QueueModel Q S M P) where
  -- two allowed replies that are not `NoMemory` are the same
  abbrev Decides : (Reply Q → Type 0) → Type 0
  Decides Replies =
      (one other : Reply Q) → one ≢ Err NoMemory → other ≢ Err NoMemory → Replies one → Replies other
      → SameReply q.contents one other

  abbrev Agree : (Answer Q → Type 0) → Type 0
  Agree IsAnswer = (one other : Answer Q) → IsAnswer one → IsAnswer other → SameAnswer q.contents one other

  same_answer : (a : Answer Q) → SameAnswer q.contents a a
  same_answer (Queue queue) = refl
  same_answer other = refl

  is_agree : (given : Answer Q) → Agree (EqualsAnswer given)
  is_agree given one other is_one is_other = rw (is_one, is_other) (same_answer given)

  -- ---- the causes in their order, and the answer

  answers : (Grows : Type 0) (IsAnswer : Answer Q → Type 0) → Agree IsAnswer → Decides
      (AnswersOrNoMemory Grows IsAnswer)
  answers Grows IsAnswer agree (Ok one) (Ok other) here there told_one told_other =
      agree one other told_one told_other
  answers Grows IsAnswer agree one other here there told_one told_other =
      grind (arith, here, there, told_one, told_other)

  both : {Given One Other : Type 0} (Cause : Type 0) (b c : Bool) → (b ≡ true → c ≡ true → Given)
      → (One → Other → Given) → MatchBool b Cause ((¬ Cause) × One) → MatchBool c Cause ((¬ Cause) × Other) → Given
  both Cause b c same others one other = grind arith

  refuses : (cause : Refusal) (Cause : Type 0) (Otherwise : Reply Q → Type 0)
      → (refusal_number cause == 17) ≡ false → Decides Otherwise → Decides (RejectsWhen cause Cause Otherwise)
  refuses cause Cause Otherwise no_text decides (Err one) (Err other) here there =
      both Cause (same_refusal one cause) (same_refusal other cause) (same_refusals one other cause no_text)
      (decides (Err one) (Err other) here there)
  refuses cause Cause Otherwise no_text decides one other here there = λ told_one told_other.
      grind (arith, decides one other here there)

  is_decided : (given : Answer Q) → Decides (AlwaysAnswers (EqualsAnswer given))
  is_decided given = answers ⊥ (EqualsAnswer given) (is_agree given)

  -- ---- answers

  flag_agree : (Holds : Type 0) → Agree (IsFlag Holds)
  flag_agree Holds (Flag one) other is_one is_other = grind (arith, is_one, is_other)
  flag_agree Holds one other is_one is_other = absurd is_one

  received_agree : (heard : AckState) (counts : AckCounts) (number : ℕ) (eliciting : Bool)
      → Agree (ReceivedAnswer heard counts number eliciting)
  received_agree heard counts number eliciting (New one) other is_one is_other = grind (arith, is_one, is_other)
  received_agree heard counts number eliciting one other is_one is_other = grind (arith, is_one, is_other)

  pending_agree : (here : SpaceReplyInputs P M) → Agree (IsPendingQueue q here)
  pending_agree here (Queue one) other is_one is_other = grind (arith, is_one, is_other)
  pending_agree here one other is_one is_other = absurd is_one

  probe_agree : (here : SpaceReplyInputs P M) (streams : S) (heard : AckState) (immediate : Bool) (found : ProbeFound)
      → Agree (IsQueueProbeAnswer q here streams heard immediate found)
  probe_agree here streams heard immediate found (Sendable one) other is_one is_other = grind (arith, is_one, is_other)
  probe_agree here streams heard immediate found one other is_one is_other = absurd is_one

  ecn_decides : (here : SpaceReplyInputs P M) (newly : ℕ) (counts : EcnCounts) → Decides (EcnAnswer here newly counts)
  ecn_decides here newly counts (Ok one) (Ok other) m n is_one is_other =
      is_agree _ one other is_one.1 is_other.1
  ecn_decides here newly counts (Err (refusal.Ecn text)) (Err (refusal.Ecn too)) m n is_one is_other =
      same_Some text.now too.now (sym is_one ∙ is_other)
  ecn_decides here newly counts one other m n is_one is_other = grind (arith, is_one, is_other)

  -- ---- IDs

  frame_agree : (ids : RemoteIds) (frame : NewConnectionId) → Agree (IsFrameAnswer ids frame)
  frame_agree ids frame (Retire (Some one)) (Retire (Some other)) is_one is_other =
      let same = least_held (with_frame frame ids.held) 0 is_one.2 is_other.2 is_one.3 is_other.3 in
      grind (arith, same, is_one.5.1, is_other.5.1)
  frame_agree ids frame one other is_one is_other = grind (arith, is_one, is_other)

  next_agree : (ids : RemoteIds) → Agree (IsNextAnswer ids)
  next_agree ids (Retire None) (Retire (Some told)) is_one is_other =
      grind (arith, is_one told.0.end, is_other.1.bound, is_other.1.is_held)
  next_agree ids (Retire (Some told)) (Retire None) is_one is_other =
      grind (arith, is_other told.0.end, is_one.1.bound, is_one.1.is_held)
  next_agree ids (Retire (Some one)) (Retire (Some other)) is_one is_other =
      let same = least_held ids.held (ids.active + 1) one.0.end other.0.end is_one.1 is_other.1 in
      grind (arith, same, is_one.2.1, is_other.2.1)
  next_agree ids one other is_one is_other = grind (arith, is_one, is_other)

  -- ---- the table

  module _ {K : Type 0} (words : ControllerSemantics K) (heard : SpaceId → AckState) (known : ReplyInputs K P M) where
    on_path : (path : PathName) (Replies : PathReplyInputs K → Reply Q → Type 0)
        → ((there : PathReplyInputs K) → Decides (Replies there)) → Decides
        (UnlessPathMissing (path_of path known.paths) Replies)
    on_path path Replies decides = go (path_of path known.paths)
      where
        go : (found : Option (PathReplyInputs K)) → Decides (UnlessPathMissing found Replies)
        go None = refuses NoSuchPath (Unit {0}) (λ reply. ⊥) refl (λ one other here there told. absurd told)
        go (Some found) = decides found

    probe_out : (now : ℕ) (due : Option ℕ) → Decides (MtuProbeReply q known now due)
    probe_out now None = is_decided _
    probe_out now (Some size) = refuses Overflow _ _ refl (answers (Unit {0}) _ (is_agree _))

    -- by the causes and the answer of each line
    decides : (event : Event Q S M P) → Decides (ReplyTable q words heard known event)
    decides DropPrevious = on_path Previous _ (λ there. is_decided _)
    decides RevertPath = on_path Previous _ (λ there. is_decided _)
    decides event =
        search (
          refuses,
          answers,
          is_agree,
          on_path,
          received_agree,
          frame_agree,
          next_agree,
          flag_agree,
          ecn_decides,
          probe_agree,
          pending_agree,
          probe_out,
        ) depth 12

-- ---- what a history determines

module _ {K P M : Type 0} (known : ReplyInputs K P M) where
  -- what is in flight on the previous path, by the inputs from it
  previous_in_flight : (path : Option (Path K))
      → ForSome path (λ p. counters_of p.ledger ≡ in_flight_on known (path_known p))
      → option_map (λ p. counters_of p.ledger) path ≡ option_map (in_flight_on known) (option_map path_known path)
  previous_in_flight None left = refl
  previous_in_flight (Some path) left = ap (λ (c : Counters). Some c) (left path refl)

  in_flight_known : (paths : PerPath (Path K)) → InFlightAfter known paths
      → each_path (λ path. counters_of path.ledger) paths ≡ each_path (in_flight_on known) (paths_known paths)
  in_flight_known paths left = grind (arith, left.current, previous_in_flight paths.previous left.previous)

  in_flight_alike : (one other : PerPath (Path K)) → InFlightAfter known one → InFlightAfter known other
      → paths_known one ≡ paths_known other
      → each_path (λ path. counters_of path.ledger) one ≡ each_path (λ path. counters_of path.ledger) other
  in_flight_alike one other left too same =
      grind (arith, in_flight_known one left, in_flight_known other too, same)

module _ {F K Q S M P : Type 0} (beginning : Beginning F K Q S M P) (history : History Q S M P) where
  pub one_reply_to : (event : Event Q S M P) (one other : Reply Q) → RepliesAfter beginning history event one
      → RepliesAfter beginning history event other
      → one ≢ Err NoMemory → other ≢ Err NoMemory → SameReply beginning.queue.contents one other
  one_reply_to event one other told_one told_other here there =
      decides beginning.queue beginning.words
      (λ space. acks_by beginning.queue.words ((logs_of beginning history).spaces space))
      (inputs_after beginning history) event one other here there told_one told_other

  -- options that contain the same numbers are the same
  same_base : (one other : Option ℕ) → ((m : ℕ) → (one ≡ Some m) ↔ (other ≡ Some m)) → one ≡ other
  same_base None None alike = refl
  same_base (Some m) other alike = sym ((alike m).0 refl)
  same_base one (Some m) alike = (alike m).1 refl

  acks_alike : (said : AckState) (counts : AckCounts) (one other : Acks) → AcksAfter said counts one
      → AcksAfter said counts other → AcksObservablyEqual one other
  acks_alike said counts one other left too =
      let base = same_base one.base other.base (λ m. grind (arith, left.started m, too.started m)) in
      grind (arith, left.pending, too.pending, base)

  pub one_state_left : (one other : RecoveryState K P M) → StateAfter beginning history one
      → StateAfter beginning history other
      → IsObservablyEqual one other
  one_state_left one other first second = let left = first.parts in let too = second.parts in record {
    settings = left.settings ∙ sym too.settings;
    spaces = λ space. (
        let here = left.spaces space in
        let there = too.spaces space in
        let acks = acks_alike _ _ _ _ here.acks there.acks in
        let untouched = left.beside space ∙ sym (too.beside space) in
        let loss_time = first.loss_times space ∙ sym (second.loss_times space) in
        grind (arith, acks, here.numbers, there.numbers, here, there, untouched, loss_time)
        );
    discarded = λ space. left.discarded space ∙ sym (too.discarded space);
    paths = left.paths ∙ sym too.paths;
    in_flight = in_flight_alike known one.paths other.paths left.in_flight too.in_flight (left.paths ∙ sym too.paths);
    peer_limit = left.peer_limit ∙ sym too.peer_limit;
    skipping = left.skipping ∙ sym too.skipping;
    frequency = left.frequency ∙ sym too.frequency;
    timers = λ kind. left.timers kind ∙ sym (too.timers kind);
    remote_ids = held_same _ history _ left.remote_ids ∙ sym (held_same _ history _ too.remote_ids);
    local_ids = left.local_ids ∙ sym too.local_ids;
  }
    where
      known : ReplyInputs K P M
      known = inputs_after beginning history
