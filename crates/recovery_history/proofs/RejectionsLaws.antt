-- Errors that follow from the history occur exactly if it says so, and an allocation fails only if something may grow:
-- the clauses `rejections` and `allocates_to_grow` of `run`.
use Rattle.std.proofs.Common.{◌≡◌, ℕ, ◌==◌, Bool, true, false, Option, None, Some, Ok, Err, refl, sym, ap, ◌∙◌, arith}
use Rattle.std.specs.Prelude.{IsTrue, is_some, option_map}
use Rattle.std.proofs.lemmas.Bool.Decides.{nat_tests}
use Rattle.recovery_base.specs.declared.below.SpaceId.{SpaceId}
use Rattle.recovery_base.specs.declared.below.frames.EcnCounts.{EcnCounts}
use Rattle.recovery_paths.specs.declared.path_pair.PathName.{PathName}
use Rattle.recovery_paths.specs.declared.path_pair.PathName.TheVariants.{Previous}
use Rattle.recovery_paths.specs.PathLog.{PathReplyInputs, path_of}
use Rattle.recovery_events.specs.declared.event.Event.{Event}
use Rattle.recovery_events.specs.declared.event.Event.TheVariants.{InitialId, DropPrevious, RevertPath}
use Rattle.recovery_events.specs.declared.event.Answer.{Answer}
use Rattle.recovery_events.specs.declared.event.Refusal.{Refusal}
use Rattle.recovery_events.specs.declared.event.Refusal.TheVariants as refusal
use Rattle.recovery_events.specs.declared.event.Refusal.TheVariants.{Overflow, SpaceDiscarded, NotTracked, NoSuchPath, NotInitialId, NoMemory}
use Rattle.recovery_events.specs.Refusals.{refusal_number}
use Rattle.recovery_history.specs.RepliesAfter.{inputs_after, RepliesAfter}
use Rattle.recovery_history.specs.History.{Beginning, History, Reply}
use Rattle.recovery_history.specs.ReplyInputs.{SpaceReplyInputs, ReplyInputs}
use Rattle.recovery_history.specs.Replies.{AlwaysAnswers, AnswersOrNoMemory, RejectsWhen, same_refusal}
use Rattle.recovery_history.specs.PartReplies.{EcnAnswer, UnlessSpaceDiscarded, EqualsAnswer, RemovalReply, UnlessPathMissing, MtuProbeReply}
use Rattle.recovery_history.specs.Promises.Paths.{generation_by}
use Rattle.recovery_history.specs.Promises.Rejections.{unless, in_space, RejectsExactly, first_cause}
use Rattle.recovery_history.specs.Promises.Memory.{AllocatesOnlyToGrow, may_grow}
use Rattle.recovery_history.specs.Promises.Tracked.{is_tracked}
use Rattle.recovery_history.proofs.ReplyLaws.{only_refusal}
use Rattle.recovery_history.proofs.Runs.{AllAlong, throughout_kept}
use Rattle.recovery_history.proofs.PathLaws.{generation_told}
use Rattle.recovery_history.proofs.TrackedLaws.{AllTracked, keeps_tracked, none_tracked, tracked_found}

-- ---- which of these causes a reply names

module _ {Q : Type 0} where
  abbrev named : Reply Q → Option Refusal
  named (Err SpaceDiscarded) = Some SpaceDiscarded
  named (Err NotTracked) = Some NotTracked
  named (Err NoSuchPath) = Some NoSuchPath
  named (Err NotInitialId) = Some NotInitialId
  named reply = None

  -- if this holds, the reply names the cause
  abbrev Names : Option Refusal → (Reply Q → Type 0) → Type 0
  Names cause Holds = (reply : Reply Q) → Holds reply → named reply ≡ cause

  answers : (Grows : Type 0) (IsAnswer : Answer Q → Type 0) → Names None (AnswersOrNoMemory Grows IsAnswer)
  answers Grows IsAnswer (Ok answer) told = refl
  answers Grows IsAnswer (Err NoMemory) told = refl
  answers Grows IsAnswer (Err refusal) told = absurd told

  -- another cause is none of them
  passes : (other : Refusal) (Cause : Type 0) (Otherwise : Reply Q → Type 0)
      → (let reply : Reply Q = Err other in named reply ≡ None) → Names None Otherwise
      → Names None (RejectsWhen other Cause Otherwise)
  passes other Cause Otherwise is names (Err SpaceDiscarded) told =
      grind (arith, is, names (Err SpaceDiscarded), told)
  passes other Cause Otherwise is names reply told = grind (arith, is, names reply, told)

  -- a cause that is one of them is named if it holds, and otherwise what the others name
  cause_names : (cause : Refusal) → (refusal_number cause == 17) ≡ false
      → (let reply : Reply Q = Err cause in named reply ≡ Some cause) → (Cause : Type 0) (Otherwise : Reply Q → Type 0)
      (rest expected : Option Refusal) → (Cause → expected ≡ Some cause) → (¬ Cause → expected ≡ rest)
      → Names rest Otherwise → Names expected (RejectsWhen cause Cause Otherwise)
  cause_names cause no_text is Cause Otherwise rest expected named_so else_so names (Ok answer) told =
      grind (arith, names (Ok answer), else_so, told)
  cause_names cause no_text is Cause Otherwise rest expected named_so else_so names (Err given) told =
      grind (arith, only_refusal given cause no_text, is, named_so, else_so, names (Err given), told)

  path_names : {K : Type 0} (found : Option (PathReplyInputs K)) (Replies : PathReplyInputs K → Reply Q → Type 0)
      → ((path : PathReplyInputs K) → Names None (Replies path))
      → Names (unless (is_some found) NoSuchPath) (UnlessPathMissing found Replies)
  path_names None Replies names (Err NoSuchPath) told = refl
  path_names None Replies names reply told = absurd told.1
  path_names (Some path) Replies names reply told = names path reply told

  ecn_names : {P M : Type 0} (here : SpaceReplyInputs P M) (newly : ℕ) (counts : EcnCounts)
      → Names None (EcnAnswer here newly counts)
  ecn_names here newly counts (Ok answer) told = refl
  ecn_names here newly counts (Err (refusal.Ecn text)) told = refl
  ecn_names here newly counts (Err other) told = absurd told

-- what is named is rejected rightly
module _ {Q S M P : Type 0} (history : History Q S M P) (event : Event Q S M P) where
  by_name : (reply : Reply Q) → named reply ≡ first_cause history event → RejectsExactly history event reply
  by_name (Err SpaceDiscarded) is = sym is
  by_name reply is = sym is

-- ---- the table

module _ {F K Q S M P : Type 0} (beginning : Beginning F K Q S M P) where
  module _ (history : History Q S M P) (tracked : AllTracked beginning history) where
    abbrev known : ReplyInputs K P M
    known = inputs_after beginning history

    -- an event in a space
    in_one : (space : SpaceId) (Otherwise : Reply Q → Type 0) (cause : Option Refusal) → Names cause Otherwise
        → Names (in_space history space cause) (UnlessSpaceDiscarded (known.spaces space) Otherwise)
    in_one space Otherwise cause names =
        cause_names SpaceDiscarded refl refl _ Otherwise cause _ (λ is. grind (arith, is)) (λ live. grind (arith, live))
        names

    -- a packet leaves
    leave_names : (space : SpaceId) (Grows : Type 0) (number : ℕ) (given : Answer Q)
        → Names (in_space history space (unless (is_tracked space number history) NotTracked))
        (RemovalReply (known.spaces space) Grows number given)
    leave_names space Grows number given =
        let found = tracked_found beginning history tracked space number in
        in_one space _ _ (cause_names NotTracked refl refl _ _ None _ (λ none. grind (arith, none, found))
        (λ some. grind (arith, some, found)) (answers Grows (EqualsAnswer given)))

    -- an existing path
    on_path : (name : PathName) (Replies : PathReplyInputs K → Reply Q → Type 0)
        → ((path : PathReplyInputs K) → Names None (Replies path))
        → Names (unless (is_some (generation_by name history)) NoSuchPath)
        (UnlessPathMissing (path_of name known.paths) Replies)
    on_path name Replies names reply told =
        path_names (path_of name known.paths) Replies names reply told
        ∙ ap (λ (b : Bool). unless b NoSuchPath) (mapped (path_of name known.paths)
        ∙ ap (λ (g : Option ℕ). is_some g) (generation_told beginning history name))
      where
        mapped : (found : Option (PathReplyInputs K)) → is_some found ≡ is_some
            (option_map (λ path. path.generation) found)
        mapped found = grind arith

    probe_names : (now : ℕ) (due : Option ℕ) → Names None (MtuProbeReply beginning.queue known now due)
    probe_names now None = answers ⊥ _
    probe_names now (Some size) = passes Overflow _ _ refl (answers _ _)

    names : (event : Event Q S M P) → Names (first_cause history event) (RepliesAfter beginning history event)
    names (InitialId id) =
        cause_names NotInitialId refl refl _ _ None _ (λ late. grind (arith, nat_tests, late))
        (λ first. grind (arith, nat_tests, first)) (answers _ _)
    names DropPrevious = on_path Previous _ (λ there. answers _ _)
    names RevertPath = on_path Previous _ (λ there. answers _ _)
    names event = search (in_one, leave_names, on_path, passes, answers, ecn_names, probe_names) depth 12

  -- throughout a run
  pub refuses_rightly : AllAlong beginning RejectsExactly
  refuses_rightly =
      throughout_kept beginning (AllTracked beginning) RejectsExactly (keeps_tracked beginning)
      (λ before event reply here tracked. by_name before event reply (names before tracked event reply here))
      (none_tracked beginning)

-- ---- an allocation fails only if something may grow

module _ {Q : Type 0} where
  -- an allocation fails only if this holds
  abbrev Only : Type 0 → (Reply Q → Type 0) → Type 0
  Only Grows Holds = Holds (Err NoMemory) → Grows

  grows : (Holds : Reply Q → Type 0) → Only (true ≡ true) Holds
  grows Holds told = refl

  spared : {Grows : Type 0} (IsAnswer : Answer Q → Type 0) → Only Grows (AlwaysAnswers IsAnswer)
  spared IsAnswer told = absurd told

  grows_if : (b : Bool) (IsAnswer : Answer Q → Type 0) → Only (b ≡ true) (AnswersOrNoMemory (IsTrue b) IsAnswer)
  grows_if b IsAnswer told = told

  -- another cause is not it
  passed_over : {Grows : Type 0} (other : Refusal) (Cause : Type 0) (Otherwise : Reply Q → Type 0)
      → same_refusal NoMemory other ≡ false → Only Grows Otherwise → Only Grows (RejectsWhen other Cause Otherwise)
  passed_over other Cause Otherwise apart rest told = rest (rw apart at told).1

  where_lives : {K Grows : Type 0} (found : Option (PathReplyInputs K)) (Replies : PathReplyInputs K → Reply Q → Type 0)
      → ((path : PathReplyInputs K) → Only Grows (Replies path)) → Only Grows (UnlessPathMissing found Replies)
  where_lives None Replies rest told = absurd told.1
  where_lives (Some path) Replies rest told = rest path told

in_counts : (Q : Type 0) {P M Grows : Type 0} (here : SpaceReplyInputs P M) (newly : ℕ) (counts : EcnCounts)
    → Only {Q = Q} Grows (EcnAnswer here newly counts)
in_counts Q here newly counts told = absurd told

module _ {F K Q S M P : Type 0} (beginning : Beginning F K Q S M P) (history : History Q S M P) where
  only : (event : Event Q S M P) → Only (may_grow event ≡ true) (RepliesAfter beginning history event)
  only (InitialId id) = search (passed_over, spared)
  only event = search (grows, spared, grows_if, passed_over, where_lives, in_counts) depth 12

  pub spares_memory : (event : Event Q S M P) (reply : Reply Q) → RepliesAfter beginning history event reply
      → AllocatesOnlyToGrow event reply
  spares_memory event (Err NoMemory) told = only event told
  spares_memory event reply told = tt
