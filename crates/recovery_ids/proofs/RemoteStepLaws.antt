-- The calls of a queue change the peer's IDs as the entries do. These calls and the driver's `PeerIdsLaws` rest on it.
use Rattle.std.proofs.Common.{◌≡◌, ℕ, zero, suc, ◌+◌, ◌<◌, ◌≤◌, max, List, Option, None, Some, IsSome, refl, sym, ap, ◌∙◌, arith}
use Rattle.std.specs.declared.ops.Range.{Range}
use Rattle.std.proofs.lemmas.Bool.Decides.{nat_tests}
use Rattle.std.proofs.Math.Path.{fun_ext}
use Rattle.recovery_base.specs.declared.below.ids.NewConnectionId.{NewConnectionId}
use Rattle.recovery_ids.specs.RemoteIds.{IdTable, RemoteIds, AcceptsFrame, MovesToNext, AreInWindow, active_connection_id_limit, with_id, with_frame, without_id}
use Rattle.recovery_ids.specs.RemoteStep.{given, used, replaced, first_held, remote_ids_with}

-- ---- the smallest number held

-- the search finds the smallest number held, if it goes far enough
first_held_is : (held : IdTable) (least low more : ℕ) → IsSome (held least) → low ≤ least → least < low + more
    → ((n : ℕ) → low ≤ n → n < least → held n ≡ None) → first_held held low more ≡ Some least
unfolding first_held
first_held_is _ _ _ zero _ from far none = absurd (omega arith)
first_held_is held least low (suc more) there from far none = grind (
  arith,
  there,
  none low,
  λ (further : low < least). first_held_is held least (low + 1) more there (omega arith) (omega arith)
      (λ n above below. none n (omega arith) below),
)

-- if nothing is held from a number on, it finds none
none_held : (held : IdTable) (low more : ℕ) → ((n : ℕ) → low ≤ n → held n ≡ None) → first_held held low more ≡ None
unfolding first_held
none_held _ _ zero _ = refl
none_held held low (suc more) none =
    grind (arith, none_held held (low + 1) more (λ n above. none n (omega arith)))

-- ---- the entry of a call

same_ids : (active : ℕ) (held : IdTable) (ids : RemoteIds) → ids.active ≡ active → ((n : ℕ) → ids.held n ≡ held n) →
    ids ≡ record { active = active; held = held }
same_ids active held ids same alike =
    ap (λ (table : IdTable). record ids { held = table }) (fun_ext alike)
    ∙ ap (λ (n : ℕ). record { active = n; held = held }) same

pub gives : (old new : RemoteIds) (frame : NewConnectionId) (answer : Option (Range ℕ × List ℕ))
    → frame.retire_prior_to ≤ frame.sequence →
    AcceptsFrame old frame answer new → AreInWindow old → new ≡ remote_ids_with (given frame) old
unfolding remote_ids_with
gives old new frame _ ordered accepts window =
    let low = max old.active frame.retire_prior_to in
    let held = with_frame frame old.held in
    let is_held : IsSome (held new.active) = rw (sym (accepts.held new.active)) accepts.active.is_held in
    let none = accepts.active.least frame.sequence (omega arith) in
    let reached : new.active ≤ frame.sequence =
    grind (arith, accepts.held frame.sequence) in
    let from : low ≤ new.active =
    grind (arith, nat_tests, is_held, ordered, accepts.in_window.0, window.within new.active) in
    rw (first_held_is held new.active low active_connection_id_limit is_held from
    (omega (arith, reached, accepts.in_window.1)) (λ n above below. sym (accepts.held n) ∙ accepts.active.least n
    (omega arith) below)) (same_ids new.active held new refl accepts.held)

pub uses : (old new : RemoteIds) (token : List ℕ) (range : Range ℕ) → MovesToNext old token range new → AreInWindow old
    → new ≡ remote_ids_with used old
unfolding remote_ids_with
uses old new _ _ takes window = let next = takes.active in
    rw (first_held_is _ _ (old.active + 1) active_connection_id_limit next.is_held next.bound
    (omega arith) next.least)
    (same_ids new.active (without_id old.active old.held) new refl takes.held)

pub uses_none : (old new : RemoteIds) → ((n : ℕ) → old.active < n → old.held n ≡ None) → new ≡ old
    → new ≡ remote_ids_with used old
unfolding remote_ids_with
uses_none old _ none same =
    rw (none_held _ (old.active + 1) active_connection_id_limit (λ n above. none n (omega arith))) same

pub replaces : (old new : RemoteIds) (id : List ℕ) → old.active ≡ 0 → new.active ≡ 0
    → ((n : ℕ) → new.held n ≡ with_id 0 (id, None) old.held n) →
    new ≡ remote_ids_with (replaced id) old
unfolding remote_ids_with
replaces old new id was is adds = same_ids _ _ new (is ∙ sym was) adds
