-- The peer's IDs are accepted, rejected and used as the history says: the clause `peer_ids` of `run`.
use Rattle.std.proofs.Common.{◌≡◌, ◌≤◌, ◌<◌, ◌+◌, ℕ, ◌==◌, max, min, nat_lt, nat_le, not, List, [], ◌∷◌, Option, None, Some, IsSome, Ok, Err, refl, ap, subst, arith, leb-true, le-leb}
use Rattle.std.specs.Prelude.{◌≢◌, IfSome, option_map, unwrap_or, if◌then◌else◌}
use Rattle.std.specs.Bool.{Decides}
use Rattle.std.proofs.Math.Path.{fun_ext}
use Rattle.std.proofs.lemmas.Bool.Decides.{nat_tests, Decides-ltb}
use Rattle.std.proofs.lemmas.Slice.Eq.{bytes_eq-Decides}
use Rattle.recovery_base.specs.declared.below.ids.NewConnectionId.{NewConnectionId}
use Rattle.recovery_ids.specs.RemoteIds.{HeldId, IdTable, RemoteIds, IsLeastHeld, RepeatsFrame, active_connection_id_limit, with_id, with_frame, without_id}
use Rattle.recovery_ids.specs.RemoteStep.{given, used, replaced, remote_ids_with}
use Rattle.recovery_ids.proofs.RemoteStepLaws.{gives, uses, uses_none, replaces}
use Rattle.recovery_events.specs.declared.event.Event.{Event}
use Rattle.recovery_events.specs.declared.event.Event.TheVariants.{NewId, NextId, InitialId}
use Rattle.recovery_events.specs.declared.event.Answer.{Answer}
use Rattle.recovery_events.specs.declared.event.Answer.TheVariants.{Retire, Done}
use Rattle.recovery_events.specs.declared.event.Refusal.TheVariants.{NumberTooLarge, BadRetirePriorTo, Retired, ExceedsLimit, Conflict, NotInitialId}
use Rattle.recovery_history.specs.History.{Beginning, History, Reply}
use Rattle.recovery_history.specs.IdReplies.{FrameReply, IsFrameAnswer, IsNextAnswer}
use Rattle.recovery_history.specs.Replies.{AlwaysAnswers, RejectsWhen}
use Rattle.recovery_history.specs.RepliesAfter.{RepliesAfter}
use Rattle.recovery_history.specs.Promises.GivenIds.{AreHeld, ids_held, id_under, retired_below, least_from, active_id}
use Rattle.recovery_history.specs.Promises.PeerIds.{AcceptsIds, frame_reply, moved, repeats}
use Rattle.recovery_history.proofs.Runs.{AllAlong, throughout_kept}
use Rattle.recovery_history.proofs.ReplyLaws.{only_refusal, refused_by}

-- ---- a frame repeats what is held

abbrev RepeatsHeld : NewConnectionId → Option HeldId → Type 0
RepeatsHeld frame held =
    IfSome held (λ entry. (frame.id ≡ entry.0) × IfSome entry.1 (λ token. frame.reset_token ≡ token))

repeats_decides : (frame : NewConnectionId) (held : Option HeldId)
    → Decides (repeats frame held) (RepeatsHeld frame held)
repeats_decides frame None = grind arith
repeats_decides frame (Some (id, None)) = grind (arith, bytes_eq-Decides frame.id id)
repeats_decides frame (Some (id, Some token)) =
    grind (arith, bytes_eq-Decides frame.id id, bytes_eq-Decides frame.reset_token token)

-- the reply to a replaced ID
abbrev InitialReply : {Q : Type 0} → RemoteIds → Reply Q → Type 0
InitialReply ids = RejectsWhen NotInitialId (ids.active ≢ 0) (AlwaysAnswers (λ answer. answer ≡ Done))

-- ---- the smallest number under which an ID is held

abbrev IsLeastFrom : IdTable → ℕ → Option ℕ → Type 0
IsLeastFrom held low None = (n : ℕ) → low ≤ n → held n ≡ None
IsLeastFrom held low (Some least) = IsLeastHeld held low least

same_least : (held : IdTable) (low : ℕ) (one other : Option ℕ) → IsLeastFrom held low one → IsLeastFrom held low other
    → one ≡ other
same_least held low None None is_one is_other = refl
same_least held low one (Some m) is_one is_other =
    grind (arith, is_one, is_other.bound, is_other.is_held, is_other.least)
same_least held low (Some n) None is_one is_other = grind (arith, is_other n, is_one.bound, is_one.is_held)

module _ (held : IdTable) (low number : ℕ) (entry : HeldId) where
  -- one more ID is held
  least_with : (least : Option ℕ) → IsLeastFrom held low least → IsLeastFrom (with_id number entry held) low
      (if nat_lt number low then least else Some (unwrap_or (option_map (min number) least) number))
  least_with None is = grind (arith, nat_tests, is)
  least_with (Some m) is = grind (arith, nat_tests, is.bound, is.is_held, is.least)

  -- the ID of a number that is held is another one
  least_again : IsSome (held number) → (least : Option ℕ) → IsLeastFrom held low least
      → IsLeastFrom (with_id number entry held) low least
  least_again there None is = grind (arith, nat_tests, is, there)
  least_again there (Some m) is = grind (arith, nat_tests, is.bound, is.is_held, is.least, there)

module _ {Q S M P : Type 0} (initial : List ℕ) where
  -- the issued IDs, as a table
  abbrev ids_given : History Q S M P → IdTable
  ids_given history n = id_under initial n history

  zero_given : (history : History Q S M P) → IsSome (ids_given history 0)
  zero_given [] = refl
  zero_given ((NewId frame, Ok answer) ∷ earlier) = grind (arith, nat_tests, zero_given earlier)
  zero_given ((InitialId id, Ok answer) ∷ earlier) = refl
  zero_given (happened ∷ earlier) = zero_given earlier

  -- the smallest one issued is found
  least_is : (low : ℕ) (history : History Q S M P) → IsLeastFrom (ids_given history) low (least_from low history)
  least_is low [] = grind (arith, nat_tests)
  least_is low ((NewId frame, Ok answer) ∷ earlier) =
      least_with (ids_given earlier) low frame.sequence (frame.id, Some frame.reset_token) (least_from low earlier)
      (least_is low earlier)
  least_is low ((InitialId id, Ok answer) ∷ earlier) =
      least_again (ids_given earlier) low 0 (id, None) (zero_given earlier) (least_from low earlier)
      (least_is low earlier)
  least_is low (happened ∷ earlier) = least_is low earlier

  least_found : (low : ℕ) (history : History Q S M P) (least : Option ℕ) → IsLeastFrom (ids_given history) low least
      → least_from low history ≡ least
  least_found low history least = same_least _ low _ least (least_is low history)

  -- ---- the IDs that are held, by the history

  module _ (history : History Q S M P) (ids : RemoteIds) (same : AreHeld initial history ids) where
    -- the smallest number held from one on that is not retired is the smallest one issued from there on
    least_held_found : (low next : ℕ) → retired_below history ≤ low → IsLeastHeld ids.held low next
        → least_from low history ≡ Some next
    least_held_found low next above is =
        least_found low history (Some next) (grind (arith, same.0, is.bound, is.is_held, is.least, above))

    pub active_same : active_id history ≡ ids.active
    active_same =
        ap (λ (least : Option ℕ). unwrap_or least 0) (least_held_found (retired_below history) ids.active (omega arith)
        (grind (arith, same.1, same.2.active_held, same.2.within)))

    -- so the history says which are held
    pub held_same : ids ≡ ids_held initial history
    held_same = grind (arith, active_same, fun_ext below)
      where
        below : (n : ℕ) → ids.held n ≡ (if nat_lt n (active_id history) then None else id_under initial n history)
        below n = grind (arith, nat_tests, active_same, same.0 n, same.1, same.2.within n)

-- ---- what an event does to them

module _ {Q S M P : Type 0} (initial : List ℕ) (history : History Q S M P) (ids : RemoteIds)
    (same : AreHeld initial history ids) where
  -- a frame that may be accepted
  abbrev IsFine : NewConnectionId → Type 0
  IsFine frame = (¬ (frame.sequence < frame.retire_prior_to)) × (¬ (frame.sequence < ids.active))
      × (¬ (max ids.active frame.retire_prior_to + active_connection_id_limit ≤ frame.sequence))

  module _ (frame : NewConnectionId) (fine : IsFine frame) where
    -- the IDs, if a frame is accepted and the active number is next
    abbrev made : ℕ → RemoteIds
    made next = record { active = next; held = with_frame frame ids.held }

    made_same : (next : ℕ) (answer : Answer Q) → IsLeastHeld (with_frame frame ids.held) 0 next
        → AreHeld initial ((NewId frame, Ok answer) ∷ history) (made next)
    made_same next answer is =
        grind (
          arith,
          nat_tests,
          is.is_held,
          is.least,
          same.0,
          same.1,
          same.2.within,
          fine,
        )

    -- if the frame does not retire the active ID, that stays
    stays_least : frame.retire_prior_to ≤ ids.active → IsLeastHeld (with_frame frame ids.held) 0 ids.active
    stays_least kept = grind (arith, nat_tests, same.2.active_held, same.2.within, kept, fine)

  pub frame_step : (frame : NewConnectionId) (answer : Answer Q) → FrameReply ids frame (Ok answer)
      → AreHeld initial ((NewId frame, Ok answer) ∷ history) (remote_ids_with (given frame) ids)
  frame_step frame answer (small, (ordered, (ahead, (near, (unlike, told))))) = go answer told
    where
      fine : IsFine frame
      fine = (ordered, ahead, near)

      again : RepeatsFrame frame ids.held
      again = grind (arith, unlike, repeats_decides frame (ids.held frame.sequence))

      go : (answer : Answer Q) → IsFrameAnswer ids frame answer
          → AreHeld initial ((NewId frame, Ok answer) ∷ history) (remote_ids_with (given frame) ids)
      go (Retire None) kept =
          let least = stays_least frame fine kept in
          rw (← gives ids (made frame fine ids.active) frame None (omega (arith, ordered))
          (grind (arith, nat_tests, again, least.bound, least.is_held, least.least, ahead, near, kept)) same.2)
          (made_same frame fine ids.active (Retire None) least)
      go (Retire (Some told)) (less, starts, next, least, ends, token) =
          let held = least.is_held in
          rw (← gives ids (made frame fine next) frame (Some told) (omega (arith, ordered))
          (grind (arith, nat_tests, again, held, least.least, ahead, near, less, starts, ends, token.1)) same.2)
          (made_same frame fine next (Retire (Some told)) least)
      go other is = absurd is

  pub next_step : (answer : Answer Q) → IsNextAnswer ids answer
      → AreHeld initial ((NextId, Ok answer) ∷ history) (remote_ids_with used ids)
  next_step (Retire None) none =
      rw (← uses_none ids ids none refl) same
  next_step (Retire (Some told)) (starts, least, (id, token)) =
      let new : RemoteIds = record { active = told.0.end; held = without_id ids.active ids.held } in
      let inside = same.2.within told.0.end least.is_held in
      rw (← uses ids new told.1 told.0
      (record {
        active = least;
        held = λ n. refl;
        told = record {
          begins = starts;
          ends = omega (arith, inside);
          token_held = (id, grind (arith, nat_tests, least.bound, token));
        };
        whole = refl;
      }) same.2) (grind (
        arith,
        nat_tests,
        same.0,
        same.1,
        same.2.within,
        least.least,
        least.bound,
        least.is_held,
      ))
  next_step other is = absurd is

  pub initial_step : (id : List ℕ) (answer : Answer Q) → InitialReply ids (Ok answer)
      → AreHeld initial ((InitialId id, Ok answer) ∷ history) (remote_ids_with (replaced id) ids)
  initial_step id answer told =
      let new : RemoteIds = record { active = ids.active; held = with_id 0 (id, None) ids.held } in
      let first : ids.active ≡ 0 = grind (arith, nat_tests, told.0) in
      rw (← replaces ids new id first first (λ n. refl))
      (grind (arith, nat_tests, same.0, same.1, same.2.within, first))

  -- ---- the replies

  frame_accepted : (frame : NewConnectionId) → IsFine frame → (reply : Reply Q)
      → AlwaysAnswers (IsFrameAnswer ids frame) reply
      → (let after : History Q S M P = (NewId frame, Ok (Retire None)) ∷ history in
      reply ≡ (if nat_le frame.retire_prior_to ids.active then Ok (Retire None)
      else moved initial ids.active (least_from frame.retire_prior_to after) after))
  frame_accepted frame fine (Ok (Retire None)) kept = grind (arith, nat_tests, kept)
  frame_accepted frame fine (Ok (Retire (Some told))) (less, starts, next, is_least, ends, token) =
      let after : History Q S M P = (NewId frame, Ok (Retire None)) ∷ history in
      let new = made_same frame fine next (Retire None) is_least in
      let above = new.1 in
      let found = least_held_found initial after (made frame fine next) new frame.retire_prior_to next
      (omega (arith, less, same.1)) (grind (arith, above, is_least.is_held, is_least.least)) in
      grind (arith, nat_tests, less, starts, ends, found, new.0 next above, token.1)
  frame_accepted frame fine reply is = grind (arith, is)

  frame_told : (frame : NewConnectionId) (reply : Reply Q) → FrameReply ids frame reply
      → reply ≡ frame_reply initial frame ids.active history
  frame_told frame =
      let limit = max ids.active frame.retire_prior_to + active_connection_id_limit in
      refused_by NumberTooLarge (λ given. only_refusal given _ refl) _ _ _ _ (leb-true _ _, le-leb _ _) (λ reply small.
      refused_by BadRetirePriorTo (λ given. only_refusal given _ refl) _ _ _ _ (Decides-ltb _ _) (λ reply ordered.
      refused_by Retired (λ given. only_refusal given _ refl) _ _ _ _ (Decides-ltb _ _) (λ reply ahead.
      refused_by ExceedsLimit (λ given. only_refusal given _ refl) _ _ _ _ (leb-true limit _, le-leb limit _)
      (λ reply near.
      refused_by Conflict (λ given. only_refusal given _ refl)
      (not (repeats frame (id_under initial frame.sequence history)))
      (¬ RepeatsFrame frame ids.held) _ _
      (grind (arith, same.0 frame.sequence, ahead, same.1, repeats_decides frame (ids.held frame.sequence)))
      (λ reply again.
      frame_accepted frame (ordered, ahead, near) reply)
      reply) reply) reply) reply)

  next_told : (reply : Reply Q) → AlwaysAnswers (IsNextAnswer ids) reply
      → reply ≡ moved initial ids.active (least_from (ids.active + 1) history) history
  next_told (Ok (Retire None)) none =
      grind (
        arith,
        least_found initial (ids.active + 1) history None
            (λ n above. grind (arith, same.0 n, same.1, none n)),
      )
  next_told (Ok (Retire (Some told))) (starts, least, (id, token)) =
      let next = told.0.end in
      let found = least_held_found initial history ids same (ids.active + 1) next (omega (arith, same.1)) least in
      let inside = same.2.within next least.is_held in
      grind (arith, nat_tests, starts, found, inside, same.0 next, least.bound, same.1, token)
  next_told reply is = grind (arith, is)

  initial_told : (reply : Reply Q) → InitialReply ids reply
      → reply ≡ (if ids.active == 0 then Ok Done else Err NotInitialId)
  initial_told (Err NotInitialId) told = grind (arith, nat_tests, told)
  initial_told reply told = grind (arith, nat_tests, told)

-- ---- throughout a run

module _ {F K Q S M P : Type 0} (beginning : Beginning F K Q S M P) where
  abbrev initial_id : List ℕ
  initial_id = beginning.config.initial_cid

  -- the IDs are held as the history says
  abbrev pub HoldsIds : History Q S M P → Type 0
  HoldsIds history = AreHeld initial_id history (ids_held initial_id history)

  pub holds_first : HoldsIds []
  holds_first = grind (arith, nat_tests)

  follows : (after : History Q S M P) (new : RemoteIds) → AreHeld initial_id after new → HoldsIds after
  follows after new held = subst (AreHeld initial_id after) (held_same initial_id after new held) held

  -- an event preserves that
  keeps_ids : (before : History Q S M P) (event : Event Q S M P) (reply : Reply Q)
      → RepliesAfter beginning before event reply
      → HoldsIds before → HoldsIds ((event, reply) ∷ before)
  keeps_ids before (NewId frame) (Ok answer) told same =
      follows ((NewId frame, Ok answer) ∷ before) _ (frame_step initial_id before _ same frame answer told)
  keeps_ids before NextId (Ok answer) told same =
      follows ((NextId, Ok answer) ∷ before) _ (next_step initial_id before _ same answer told)
  keeps_ids before (InitialId id) (Ok answer) told same =
      follows ((InitialId id, Ok answer) ∷ before) _ (initial_step initial_id before _ same id answer told)
  keeps_ids before event reply told same = same

  -- the reply to an event follows from the peer's IDs
  accepts_told : (before : History Q S M P) (event : Event Q S M P) (reply : Reply Q)
      → RepliesAfter beginning before event reply → HoldsIds before → AcceptsIds initial_id before event reply
  accepts_told before (NewId frame) reply told same = frame_told initial_id before _ same frame reply told
  accepts_told before NextId reply told same = next_told initial_id before _ same reply told
  accepts_told before (InitialId id) reply told same = initial_told initial_id before _ same reply told
  accepts_told before event reply told same = tt

  -- throughout a run
  pub accepts_ids : AllAlong beginning (AcceptsIds initial_id)
  accepts_ids = throughout_kept beginning HoldsIds (AcceptsIds initial_id) keeps_ids accepts_told holds_first
