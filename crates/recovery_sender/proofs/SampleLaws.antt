-- The marks of all paths are explained by the events: a mark is set only after an RTT sample, to the next number.
use mathlib.Core.Logic.{∥∥₁_map}
use Rattle.std.proofs.Common.{◌≡◌, ◌≢◌, ◌≤◌, ℕ, ◌+◌, ◌==◌, ◌&&◌, ◌||◌, Bool, true, false, List, [], ◌∷◌, ◌++◌, Option, None, Some, Ok, Err, IfSome, inl, inr, refl, sym, ap, subst, ◌∙◌, true≢false, arith}
use Rattle.std.proofs.lemmas.Bool.{false≢true}
use Rattle.std.proofs.lemmas.Bool.Decides.{nat_tests}
use Rattle.std.proofs.lemmas.Option.{none-some, same_Some}
use Rattle.std.specs.Option.{ForSome}
use Rattle.std.specs.Prelude.{if◌then◌else◌, option_map}
use Rattle.recovery_base.specs.declared.below.SpaceId.{SpaceId}
use Rattle.recovery_congestion.specs.Controllers.{ControllerSemantics}
use Rattle.recovery_congestion.specs.Rtt.{Rtt, rtt_updated}
use Rattle.recovery_events.specs.declared.event.Answer.{Answer}
use Rattle.recovery_events.specs.declared.event.Event.{Event}
use Rattle.recovery_events.specs.declared.event.Event.TheVariants.{Sample, NewPath, ResetPath, DropPrevious, RevertPath}
use Rattle.recovery_paths.specs.declared.path_pair.PathName.TheVariants.{Current, Previous}
use Rattle.recovery_paths.specs.PathLog.{PathHistory, PathReplyInputs, PathsEntry, PerPath, is_reset, is_validated, known_of, on, past_following, pasts_by, path_known, paths_marks, receives, returns, reverted, samples}
use Rattle.recovery_paths.specs.PathStates.{Path, PathMarks}
use Rattle.recovery_spaces.specs.Spaces.{next_number_of, space_of}
use Rattle.recovery_spaces.specs.Tracked.{SentState}
use Rattle.recovery_paths.specs.PathMaking.{marks_made}
use Rattle.recovery_history.specs.declared.config.RecoveryConfig.{RecoveryConfig}
use Rattle.recovery_history.specs.CallerState.{AreMarksFresh, with_marks_at}
use Rattle.recovery_history.specs.History.{AtEach, Beginning, History, QueueModel, Reply, begins}
use Rattle.recovery_history.specs.Promises.Fates.{is_given, more_if, times}
use Rattle.recovery_history.specs.Promises.Paths.{generations, paths_made}
use Rattle.recovery_history.specs.Promises.Tracked.{goes_out}
use Rattle.recovery_history.specs.Reachability.{PreservesPastsOf, ReachedBy, StepFromAnyPast}
use Rattle.recovery_history.specs.RecoveryState.{RecoveryState}
use Rattle.recovery_history.specs.ReplyInputs.{ReplyInputs}
use Rattle.recovery_history.specs.RepliesAfter.{RepliesAfter, first_path, inputs_after, logs_of, pasts_of, settings_of}
use Rattle.recovery_history.specs.Table.{limit, marks_after}
use Rattle.recovery_history.specs.Transitions.{StateTransition}
use Rattle.recovery_history.specs.PartReplies.{AnswersDone, UnlessPathMissing}
use Rattle.recovery_history.proofs.EntryKinds.{PathKind, dropping, elsewhere, moving, path_kind, paths_kept, resetting, returning, sampling}
use Rattle.recovery_history.proofs.PathLaws.{generation_told, made_told}
use Rattle.recovery_history.proofs.Runs.{kept_after}
use Rattle.recovery_history.proofs.TrackedLaws.{AllTracked, keeps_tracked, none_tracked}
use Rattle.quic_recovery.specs.declared.driver.Recovery.{Recovery}
use Rattle.quic_recovery.specs.State.{begun, state_of}
use Rattle.recovery_sender.specs.Promises.Samples.{ExplainsMarks, IsExplained, IsExplainedState, IsMarkOf, IsMarkable, has_sample, held_at_sending, is_sent_on, is_sent_sampled}

or_left : (one other : Bool) → one ≡ true → (one || other) ≡ true
or_left one other is = rw is refl

both : (one other : Bool) → one ≡ true → other ≡ true → (one && other) ≡ true
both one other is holds = rw (is, holds) refl

itself : (n m : ℕ) → n ≡ m → (n == m) ≡ true
itself n m same = grind (arith, nat_tests, same)

or_right : (one other : Bool) → other ≡ true → (one || other) ≡ true
or_right true other is = refl
or_right false other is = is

-- no path has a generation that was not assigned
abbrev UpTo : ℕ → PerPath ℕ → Type 0
UpTo made paths = (paths.current ≤ made) × IfSome paths.previous (λ path. path ≤ made)

returned_up_to : (made : ℕ) (paths : PerPath ℕ) (previous : Option ℕ) → paths.current ≤ made
    → IfSome previous (λ path. path ≤ made) → (let old : PerPath ℕ = record paths { previous = previous } in
    UpTo made (reverted (λ path. path) old))
returned_up_to made paths None low before = (low, tt)
returned_up_to made paths (Some path) low before = (before, tt)

-- ---- a sample stays

module _ {Q S M P : Type 0} where
  pub sample_stays : (path : ℕ) (happened : Event Q S M P × Reply Q) (earlier : History Q S M P)
      → has_sample path earlier ≡ true → has_sample path (happened ∷ earlier) ≡ true
  sample_stays path (Sample delay rtt, Ok answer) earlier has = or_right _ _ has
  sample_stays path (NewPath now remote false, Ok answer) earlier has = or_right _ _ has
  sample_stays path happened earlier has = has

  -- ---- the generations of paths

  up_to : (history : History Q S M P) → UpTo (paths_made history) (generations history)
  up_to [] = (omega arith, tt)
  up_to ((NewPath now remote is_fresh, Ok answer) ∷ earlier) =
      let low = (up_to earlier).0 in (omega arith, omega (arith, low))
  up_to ((DropPrevious, Ok answer) ∷ earlier) = ((up_to earlier).0, tt)
  up_to ((RevertPath, Ok answer) ∷ earlier) =
      let low = up_to earlier in
      returned_up_to (paths_made earlier) (generations earlier) (generations earlier).previous low.0 low.1
  up_to (happened ∷ earlier) = up_to earlier

  made_more : (happened : Event Q S M P × Reply Q) (earlier : History Q S M P)
      → paths_made earlier ≤ paths_made (happened ∷ earlier)
  made_more (NewPath now remote is_fresh, Ok answer) earlier = omega arith
  made_more happened earlier = omega arith

  -- no packet was sent on a path that was not made
  sent_on_made : (path : ℕ) (space : SpaceId) (number : ℕ) (history : History Q S M P)
      → is_sent_on path space history number ≡ true → path ≤ paths_made history
  sent_on_made path space number [] sent = absurd (false≢true sent)
  sent_on_made path space number (happened ∷ earlier) sent =
      by (sent_on_made path space number earlier) (goes_out happened space number) sent
    where
      more : paths_made earlier ≤ paths_made (happened ∷ earlier)
      more = made_more happened earlier

      here : (test : Bool) → ((generations earlier).current == path) ≡ test → test ≡ true
          → path ≤ paths_made (happened ∷ earlier)
      here true is holds =
          let same : (generations earlier).current ≡ path = grind (arith, nat_tests, is) in
          omega (arith, same, (up_to earlier).0, more)
      here false is holds = absurd (false≢true holds)

      by : (is_sent_on path space earlier number ≡ true → path ≤ paths_made earlier) → (out : Bool)
          → (if out then (generations earlier).current == path else is_sent_on path space earlier number) ≡ true
          → path ≤ paths_made (happened ∷ earlier)
      by before true is = here ((generations earlier).current == path) refl is
      by before false is = let low = before is in omega (arith, low, more)

  -- a number that was sent was assigned
  pub sent_given : (holds : History Q S M P → Bool) (space : SpaceId) (number : ℕ) (history : History Q S M P)
      → times (is_given space number) history ≡ 0 → held_at_sending holds space history number ≡ false
  sent_given holds space number [] none = refl
  sent_given holds space number (happened ∷ earlier) none =
      by (sent_given holds space number earlier) (goes_out happened space number) none
    where
      by : (times (is_given space number) earlier ≡ 0 → held_at_sending holds space earlier number ≡ false)
          → (out : Bool) → more_if out (times (is_given space number) earlier) ≡ 0
          → (if out then holds earlier else held_at_sending holds space earlier number) ≡ false
      by before true some = absurd (omega (arith, some))
      by before false some = before some

  -- ---- marks after one more event

  mark_stays : (path : ℕ) (past : History Q S M P) (happened : Event Q S M P × Reply Q) (mark : SpaceId × ℕ)
      → IsMarkOf path past mark → IsMarkOf path (happened ∷ past) mark
  mark_stays path past happened mark is = record {
    sampled = sample_stays path happened past is.sampled;
    after = λ number up. by number (goes_out happened mark.0 number) (is.after number up);
  }
    where
      by : (number : ℕ) (out : Bool) → (is_sent_on path mark.0 past number ≡ true
          → is_sent_sampled path mark.0 past number ≡ true)
          → (if out then (generations past).current == path else is_sent_on path mark.0 past number) ≡ true
          → (if out then has_sample path past else is_sent_sampled path mark.0 past number) ≡ true
      by number true before sent = is.sampled
      by number false before sent = before sent

  abbrev Explains : History Q S M P → ℕ → PathMarks → Type 0
  Explains past path marks = ForSome marks.first_after_sample (IsMarkOf path past)

  stays : (past : History Q S M P) (happened : Event Q S M P × Reply Q) (path : ℕ) (marks : PathMarks)
      → Explains past path marks → Explains (happened ∷ past) path marks
  stays past happened path marks explains mark is = mark_stays path past happened mark (explains mark is)

  -- a path that is not fresh inherits the mark
  inherits : (past : History Q S M P) (event : Event Q S M P) (reply : Reply Q)
      → has_sample (paths_made past + 1) ((event, reply) ∷ past)
      ≡ ((paths_made past + 1 == paths_made past + 1 && has_sample (generations past).current past)
      || has_sample (paths_made past + 1) past)
      → ((space : SpaceId) (number : ℕ) → goes_out (event, reply) space number ≡ false)
      → (mark : SpaceId × ℕ) → IsMarkOf (generations past).current past mark
      → IsMarkOf (paths_made past + 1) ((event, reply) ∷ past) mark
  inherits past event reply same none mark is = record {
    sampled = same ∙ grind (arith, nat_tests, is.sampled);
    after = λ number up sent.
        absurd (let low = sent_on_made (paths_made past + 1) mark.0 number past
        (rw (none mark.0 number) at sent) in omega (arith, low));
  }

  -- of each existing path
  abbrev ExplainBoth : History Q S M P → Option ℕ → Option PathMarks → Type 0
  ExplainBoth past None None = Unit {0}
  ExplainBoth past (Some path) (Some marks) = Explains past path marks
  ExplainBoth past path marks = ⊥

  abbrev AreExplained : History Q S M P → PerPath ℕ → PerPath PathMarks → Type 0
  AreExplained past paths marks =
      Explains past paths.current marks.current × ExplainBoth past paths.previous marks.previous

  both_stay : (past : History Q S M P) (happened : Event Q S M P × Reply Q) (path : Option ℕ)
      (marks : Option PathMarks) → ExplainBoth past path marks → ExplainBoth (happened ∷ past) path marks
  both_stay past happened None None explains = tt
  both_stay past happened (Some path) (Some marks) explains = stays past happened path marks explains
  both_stay past happened None (Some marks) explains = absurd explains
  both_stay past happened (Some path) None explains = absurd explains

  all_stay : (past : History Q S M P) (happened : Event Q S M P × Reply Q) (paths : PerPath ℕ)
      (marks : PerPath PathMarks) → AreExplained past paths marks → AreExplained (happened ∷ past) paths marks
  all_stay past happened paths marks explains = (
    stays past happened paths.current marks.current explains.0,
    both_stay past happened paths.previous marks.previous explains.1,
  )

  returned : (past : History Q S M P) (paths : PerPath ℕ) (marks : PerPath PathMarks) (path : Option ℕ)
      (mark : Option PathMarks) → Explains past paths.current marks.current → ExplainBoth past path mark
      → (let old : PerPath ℕ = record paths { previous = path } in
      let old_marks : PerPath PathMarks = record marks { previous = mark } in
      AreExplained past (reverted (λ path. path) old) (reverted (λ marks. marks) old_marks))
  returned past paths marks None None here there = (here, tt)
  returned past paths marks (Some path) (Some mark) here there = (there, tt)
  returned past paths marks None (Some mark) here there = absurd there
  returned past paths marks (Some path) None here there = absurd there

  pub event_explains : (past : History Q S M P) (event : Event Q S M P) (reply : Reply Q) (marks : PerPath PathMarks)
      → AreExplained past (generations past) marks
      → AreExplained ((event, reply) ∷ past) (generations ((event, reply) ∷ past)) (marks_after event reply marks)
  event_explains past (NewPath now remote true) (Ok answer) marks explains = (
    λ mark none. absurd (none-some mark none),
    stays past (NewPath now remote true, Ok answer) (generations past).current marks.current explains.0,
  )
  event_explains past (NewPath now remote false) (Ok answer) marks explains = (
    λ mark is. inherits past (NewPath now remote false) (Ok answer) refl (λ space number. refl) mark
        (explains.0 mark is),
    stays past (NewPath now remote false, Ok answer) (generations past).current marks.current explains.0,
  )
  event_explains past DropPrevious (Ok answer) marks explains =
      (stays past (DropPrevious, Ok answer) (generations past).current marks.current explains.0, tt)
  event_explains past RevertPath (Ok answer) marks explains =
      let kept = all_stay past (RevertPath, Ok answer) (generations past) marks explains in
      returned ((RevertPath, Ok answer) ∷ past) (generations past) marks (generations past).previous marks.previous
      kept.0 kept.1
  event_explains past event reply marks explains = all_stay past (event, reply) (generations past) marks explains

-- ---- a path with an RTT estimate has a sample

abbrev is_quiet : PathKind → Bool
is_quiet sampling = false
is_quiet resetting = false
is_quiet moving = false
is_quiet dropping = false
is_quiet returning = false
is_quiet elsewhere = false
is_quiet kind = true

mapped : {A : Type 0} (Holds : A → Type 0) (change : A → A) → ((a : A) → Holds a → Holds (change a)) → (old : Option A)
    → IfSome old Holds → IfSome (option_map change old) Holds
mapped Holds change keeps None holds = tt
mapped Holds change keeps (Some a) holds = keeps a holds

module _ {F K Q S M P : Type 0} (beginning : Beginning F K Q S M P) where
  abbrev HasSample : History Q S M P → PathHistory K → Type 0
  HasSample history path = path.kept.rtt.smoothed ≢ None → has_sample path.generation history ≡ true

  abbrev HaveSamples : History Q S M P → PerPath (PathHistory K) → Type 0
  HaveSamples history paths = HasSample history paths.current × IfSome paths.previous (HasSample history)

  module _ (earlier : History Q S M P) (same : HaveSamples earlier (pasts_of beginning earlier)) where
    abbrev log : List PathsEntry
    log = (logs_of beginning earlier).paths

    abbrev known : ReplyInputs K P M
    known = inputs_after beginning earlier

    abbrev pasts : List PathsEntry → PerPath (PathHistory K)
    pasts log = pasts_by (settings_of beginning) (first_path beginning) log

    -- an entry that changes neither an estimate nor which paths there are
    one_more : (entry : PathsEntry) (entries : List PathsEntry) → is_quiet (path_kind entry) ≡ true
        → HaveSamples earlier (pasts (entries ++ log)) → HaveSamples earlier (pasts (entry ∷ entries ++ log))
    one_more (on Current (samples delay rtt)) entries quiet have = absurd (false≢true quiet)
    one_more (on Current (is_reset now)) entries quiet have = absurd (false≢true quiet)
    one_more (on Current entry) entries quiet have = have
    one_more (on Previous (receives bytes)) entries quiet have =
        (have.0, mapped (HasSample earlier) _ (λ path has. has) (pasts (entries ++ log)).previous have.1)
    one_more (on Previous is_validated) entries quiet have =
        (have.0, mapped (HasSample earlier) _ (λ path has. has) (pasts (entries ++ log)).previous have.1)
    one_more entry entries quiet have = absurd (false≢true quiet)

    -- the path in use has this generation
    in_use : (pasts log).current.generation ≡ (generations earlier).current
    in_use = let told = generation_told beginning earlier Current in cc

    back : (answer : Answer Q) (previous : Option (PathHistory K))
        → UnlessPathMissing (option_map known_of previous) (λ there. AnswersDone {Q = Q}) (Ok answer)
        → IfSome previous (HasSample earlier)
        → (let old : PerPath (PathHistory K) = record (pasts log) { previous = previous } in
        HaveSamples ((RevertPath, Ok answer) ∷ earlier)
        (reverted (past_following (settings_of beginning) (returns (limit earlier))) old))
    back answer None told has = absurd told.1
    back answer (Some path) told has = (has, tt)

    reply_samples : (event : Event Q S M P) (reply : Reply Q) → RepliesAfter beginning earlier event reply
        → HaveSamples ((event, reply) ∷ earlier) (pasts_of beginning ((event, reply) ∷ earlier))
    reply_samples (Sample delay rtt) (Ok answer) told = (
      λ some. or_left _ _ (itself _ _ (sym in_use)),
      others (pasts log).previous same.1,
    )
      where
        others : (previous : Option (PathHistory K)) → IfSome previous (HasSample earlier)
            → IfSome previous (HasSample ((Sample delay rtt, Ok answer) ∷ earlier))
        others None has = tt
        others (Some path) has = λ some. or_right _ _ (has some)
    reply_samples (NewPath now remote true) (Ok answer) told = (λ some. absurd (some refl), same.0)
    reply_samples (NewPath now remote false) (Ok answer) told = (
      λ some. new_has some,
      λ some. or_right _ _ (same.0 some),
    )
      where
        new_has : (pasts log).current.kept.rtt.smoothed ≢ None
            → has_sample (known.paths.made + 1) ((NewPath now remote false, Ok answer) ∷ earlier) ≡ true
        new_has some = or_left _ _ (both _ _ (itself _ _ (ap (λ made. made + 1) (sym (made_told beginning earlier))))
            (rw in_use at same.0 some))
    reply_samples (ResetPath now) (Ok answer) told = (λ some. absurd (some refl), same.1)
    reply_samples DropPrevious (Ok answer) told = (same.0, tt)
    reply_samples RevertPath (Ok answer) told = back answer (pasts log).previous told same.1
    reply_samples event (Ok answer) told =
        paths_kept beginning.queue known (λ entries. HaveSamples earlier (pasts (entries ++ log))) is_quiet same
        one_more event (Ok answer) refl
    reply_samples (Sample delay rtt) (Err refusal) told = same
    reply_samples (NewPath now remote false) (Err refusal) told = same
    reply_samples event (Err refusal) told = same

  none_sampled : HaveSamples [] (pasts_of beginning [])
  none_sampled = (λ some. absurd (some refl), tt)

  samples_after : (history : History Q S M P) → AtEach (RepliesAfter beginning) history
      → HaveSamples history (pasts_of beginning history)
  samples_after = kept_after (RepliesAfter beginning) (λ history. HaveSamples history (pasts_of beginning history))
      (λ before event reply told same. reply_samples before same event reply told) none_sampled

-- ---- by the state

-- the marks of an existing path
module _ {K Q S M P : Type 0} (past : History Q S M P) where
  abbrev Holds : Path K → Type 0
  Holds path = ForSome path.marks.first_after_sample (IsMarkOf path.ledger.generation past)

  to_both : (previous : Option (Path K)) → ForSome previous Holds
      → ExplainBoth past (option_map (λ path. path.ledger.generation) previous)
      (option_map (λ path. path.marks) previous)
  to_both None all = tt
  to_both (Some path) all = all path refl

  from_both : (previous : Option (Path K))
      → ExplainBoth past (option_map (λ path. path.ledger.generation) previous)
      (option_map (λ path. path.marks) previous) → ForSome previous Holds
  from_both None none path is = absurd (none-some path is)
  from_both (Some there) holds path is = subst Holds (same_Some there path is) holds

module _ {F K Q S M P : Type 0} (beginning : Beginning F K Q S M P) (past : History Q S M P)
    (recovery : RecoveryState K P M) (came : ReachedBy beginning past recovery) where
  pub current_is : recovery.paths.current.ledger.generation ≡ (generations past).current
  current_is =
      ap (λ (paths : PerPath (PathReplyInputs K)). paths.current.generation) came.state_after.paths
      ∙ (let told = generation_told beginning past Current in cc)

  previous_is : option_map (λ path. path.ledger.generation) recovery.paths.previous ≡ (generations past).previous
  previous_is =
      twice recovery.paths.previous
      ∙ ap (λ (paths : PerPath (PathReplyInputs K)). option_map (λ path. path.generation) paths.previous)
      came.state_after.paths ∙ generation_told beginning past Previous
    where
      twice : (previous : Option (Path K)) → option_map (λ path. path.ledger.generation) previous
          ≡ option_map (λ path. path.generation) (option_map path_known previous)
      twice None = refl
      twice (Some path) = refl

  to_history : ExplainsMarks recovery.paths past → AreExplained past (generations past) (paths_marks recovery.paths)
  to_history explains = (
    subst (λ path. Explains past path recovery.paths.current.marks) current_is explains.0,
    subst (λ path. ExplainBoth past path (option_map (λ path. path.marks) recovery.paths.previous)) previous_is
        (to_both past recovery.paths.previous explains.1),
  )

  from_history : AreExplained past (generations past) (paths_marks recovery.paths) → ExplainsMarks recovery.paths past
  from_history explains = (
    subst (λ path. Explains past path recovery.paths.current.marks) (sym current_is) explains.0,
    from_both past recovery.paths.previous (subst
        (λ path. ExplainBoth past path (option_map (λ path. path.marks) recovery.paths.previous)) (sym previous_is)
        explains.1),
  )

  -- no packet was sent under the next number of a space, or a larger one
  unsent : (space : SpaceId) (number : ℕ) → next_number_of (space_of space recovery.spaces) ≤ number
      → (holds : History Q S M P → Bool) → held_at_sending holds space past number ≡ false
  unsent space number up holds =
      let all = kept_after (RepliesAfter beginning) (AllTracked beginning) (keeps_tracked beginning)
      (none_tracked beginning) past came.replies in
      let next = ap (λ (sent : SentState P M). sent.next) (came.state_after.spaces space).sent in
      sent_given holds space number past ((all space number).late (rw next at up))

  -- a path with an RTT estimate has a sample
  has_sample_now : recovery.paths.current.state.rtt.smoothed ≢ None
      → has_sample recovery.paths.current.ledger.generation past ≡ true
  has_sample_now some =
      let same = came.state_after.paths in
      let there = ap (λ (paths : PerPath (PathReplyInputs K)). paths.current.state.rtt.smoothed) same in
      let path = ap (λ (paths : PerPath (PathReplyInputs K)). paths.current.generation) same in
      rw path ((samples_after beginning past came.replies).0 (λ none. some (there ∙ none)))

  -- the next number of a space may be marked
  next_explains : (space : SpaceId) → recovery.paths.current.state.rtt.smoothed ≢ None
      → IsMarkOf recovery.paths.current.ledger.generation past
      (space, next_number_of (space_of space recovery.spaces))
  next_explains space some = record {
    sampled = has_sample_now some;
    after = λ number up sent. absurd (true≢false (sym sent ∙ unsent space number up
        (λ earlier. (generations earlier).current == recovery.paths.current.ledger.generation)));
  }

  pub first_explains : (first : Option (SpaceId × ℕ)) → IsMarkable recovery first → ExplainsMarks recovery.paths past
      → ForSome first (IsMarkOf recovery.paths.current.ledger.generation past)
  first_explains first (inl same) explains mark is = explains.0 mark (sym same ∙ is)
  first_explains first (inr (space, next, some)) explains mark is =
      subst (λ mark. IsMarkOf recovery.paths.current.ledger.generation past mark) (same_Some _ mark (sym next ∙ is))
      (next_explains space some)

-- one more event
module _ {F K Q S M P : Type 0} (beginning : Beginning F K Q S M P) (past : History Q S M P)
    (old new : RecoveryState K P M) where
  pub event_explains_state : (event : Event Q S M P) (reply : Reply Q) → ReachedBy beginning past old
      → ReachedBy beginning ((event, reply) ∷ past) new
      → paths_marks new.paths ≡ marks_after event reply (paths_marks old.paths) → ExplainsMarks old.paths past
      → ExplainsMarks new.paths ((event, reply) ∷ past)
  event_explains_state event reply came reached marks explains =
      from_history beginning ((event, reply) ∷ past) new reached (
      subst (λ marks. AreExplained ((event, reply) ∷ past) (generations ((event, reply) ∷ past)) marks) (sym marks)
      (event_explains past event reply (paths_marks old.paths) (to_history beginning past old came explains)))

-- ---- some events explain the marks of a sender

module _ {F K Q S M P : Type 0} {built : F → ℕ → ℕ → K} {words : ControllerSemantics K} {queue : QueueModel Q S M P}
    (old new : RecoveryState K P M) where
  -- after one more event
  pub event_explained : (event : Event Q S M P) (reply : Reply Q)
      → StepFromAnyPast built words queue old event reply new
      → paths_marks new.paths ≡ marks_after event reply (paths_marks old.paths)
      → ∥ IsExplainedState built words queue old ∥₁ → ∥ IsExplainedState built words queue new ∥₁
  event_explained event reply steps marks by = ∥∥₁_map by (λ by.
      let beginning = begins built words queue by.config by.start by.random in
      let came = (steps by.config by.start by.random by.past by.came).came in
      record {
        config = by.config;
        start = by.start;
        random = by.random;
        past = (event, reply) ∷ by.past;
        came = came;
        marks = event_explains_state beginning by.past old new event reply by.came came marks by.marks;
      })

  -- what changes no path
  pub still_explained : PreservesPastsOf built words queue old new → new.paths ≡ old.paths
      → ∥ IsExplainedState built words queue old ∥₁ → ∥ IsExplainedState built words queue new ∥₁
  still_explained stays same by = ∥∥₁_map by (λ by. record {
    config = by.config;
    start = by.start;
    random = by.random;
    past = by.past;
    came = stays by.config by.start by.random by.past by.came;
    marks = subst (λ paths. ExplainsMarks paths by.past) (sym same) by.marks;
  })

  -- after the path in use was marked
  pub mark_explained : (marks : PathMarks) → PreservesPastsOf built words queue old new
      → new ≡ with_marks_at Current marks old → IsMarkable old marks.first_after_sample
      → ∥ IsExplainedState built words queue old ∥₁ → ∥ IsExplainedState built words queue new ∥₁
  mark_explained marks stays same may by = ∥∥₁_map by (λ by.
      let beginning = begins built words queue by.config by.start by.random in
      record {
        config = by.config;
        start = by.start;
        random = by.random;
        past = by.past;
        came = stays by.config by.start by.random by.past by.came;
        marks = subst (λ (state : RecoveryState K P M). ExplainsMarks state.paths by.past) (sym same)
            (first_explains beginning by.past old by.came marks.first_after_sample may by.marks, by.marks.1);
      })

-- a new recovery has no mark
module _ {F Q R C K S M P : Type 0} {f : _} {c : _} {q : _} {m : _} {r : _} where
  pub made_explained : (made : Recovery F Q R C K S M P f c q m r) (config : RecoveryConfig F) (start : ℕ) (rng : R)
      → ReachedBy (begun made config start rng) [] (state_of made) → AreMarksFresh (paths_marks (state_of made).paths)
      → ∥ IsExplained made ∥₁
  made_explained made config start rng came fresh = ∣ record {
    config = config;
    start = start;
    random = r.stream rng;
    past = [];
    came = came;
    marks = (unmarked (state_of made).paths.current fresh.0, λ path is. unmarked path (none_before path is));
  } ∣₁
    where
      unmarked : (path : Path K) → path.marks ≡ marks_made None
          → ForSome path.marks.first_after_sample
          (IsMarkOf {Q = Q} {S = S} {M = M} {P = P} path.ledger.generation [])
      unmarked path marks mark is =
          absurd (none-some mark (sym (ap (λ (m : PathMarks). m.first_after_sample) marks) ∙ is))

      none_before : (path : Path K) → (state_of made).paths.previous ≡ Some path → path.marks ≡ marks_made None
      none_before path is = fresh.1 path.marks (ap (λ (o : Option (Path K)). option_map (λ path. path.marks) o) is)

-- ---- a sample

updated : (delay sample : ℕ) (old : Rtt) (smoothed : Option ℕ) → old.smoothed ≡ smoothed
    → (rtt_updated delay sample old).smoothed ≢ None
updated delay sample old None is none = absurd (none-some sample (sym (rw is at none)))
updated delay sample old (Some smoothed) is none = absurd (none-some _ (sym (rw is at none)))

-- after one, the path in use has an estimate
module _ {K Q S M P : Type 0} (queue : QueueModel Q S M P) (old new : RecoveryState K P M) where
  pub estimated : (delay sample : ℕ) (answer : Answer Q)
      → StateTransition queue old (Sample delay sample) (Ok answer) new
      → new.paths.current.state.rtt.smoothed ≢ None
  estimated delay sample answer step none =
      updated delay sample old.paths.current.state.rtt old.paths.current.state.rtt.smoothed refl
      (sym (ap (λ (paths : PerPath (PathReplyInputs K)). paths.current.state.rtt.smoothed) step.steps.paths) ∙ none)
