-- One event extends a run, and what each event preserves holds throughout. The clauses of `run` that are carried from
-- event to event rest on it.
use Rattle.recovery_history.specs.RepliesAfter.{RepliesAfter}
use Rattle.std.proofs.Common.{◌≡◌, List, [], ◌∷◌, ◌++◌, length, reverse, refl, ap, ◌∙◌, arith}
use Rattle.std.specs.List.{zip}
use Rattle.std.proofs.lemmas.List.{length-append, reverse-append}
use Rattle.recovery_events.specs.declared.event.Event.{Event}
use Rattle.recovery_history.specs.History.{History, Reply, history, AtEach, Throughout, Beginning}

module _ {Q S M C : Type 0} (P : History Q S M C → Event Q S M C → Reply Q → Type 0) (event : Event Q S M C)
    (reply : Reply Q) where
  zip_push : (events : List (Event Q S M C)) (replies : List (Reply Q)) → length replies ≡ length events
      → zip (events ++ event ∷ []) (replies ++ reply ∷ []) ≡ zip events replies ++ (event, reply) ∷ []
  zip_push [] [] same = refl
  zip_push (e ∷ events) (r ∷ replies) same =
      ap (λ rest. (e, r) ∷ rest) (zip_push events replies (omega (arith, same)))
  zip_push events replies same = absurd (omega (arith, same))

  pub history_push : (events : List (Event Q S M C)) (replies : List (Reply Q)) → length replies ≡ length events
      → history (events ++ event ∷ []) (replies ++ reply ∷ []) ≡ (event, reply) ∷ history events replies
  history_push events replies same =
      ap (λ all. reverse all) (zip_push events replies same) ∙ reverse-append (zip events replies) ((event, reply) ∷ [])

  -- what holds for the history with one more event, after a run that is extended by it
  pub after_push : (Holds : History Q S M C → Type 0) (events : List (Event Q S M C)) (replies all : List (Reply Q))
      → Throughout P events replies → all ≡ replies ++ reply ∷ [] → Holds ((event, reply) ∷ history events replies)
      → Holds (history (events ++ event ∷ []) all)
  after_push Holds events replies all so_far is here = rw (is, history_push events replies so_far.0) here

  pub throughout_more : (events : List (Event Q S M C)) (replies all : List (Reply Q)) → Throughout P events replies
      → all ≡ replies ++ reply ∷ [] → P (history events replies) event reply → Throughout P (events ++ event ∷ []) all
  throughout_more events replies all so_far is here =
      let longer = so_far.0 in (
        rw (is, length-append replies (reply ∷ []), length-append events (event ∷ [])) (omega (arith, longer)),
        after_push (AtEach P) events replies all so_far is (here, so_far.1),
      )

-- What follows at an event from an invariant that each event preserves holds at each; and the invariant holds after the
-- last.
module _ {Q S M C : Type 0} (P : History Q S M C → Event Q S M C → Reply Q → Type 0) (Kept : History Q S M C → Type 0)
    (keeps : (before : History Q S M C) (event : Event Q S M C) (reply : Reply Q) → P before event reply → Kept before
    → Kept ((event, reply) ∷ before)) (first : Kept []) where
  pub kept_after : (history : History Q S M C) → AtEach P history → Kept history
  kept_after [] all = first
  kept_after (happened ∷ before) all = keeps before happened.0 happened.1 all.0 (kept_after before all.1)

  pub at_each : (H : History Q S M C → Event Q S M C → Reply Q → Type 0)
      → ((before : History Q S M C) (event : Event Q S M C) (reply : Reply Q) → P before event reply → Kept before
      → Kept ((event, reply) ∷ before) → H before event reply)
      → (history : History Q S M C) → AtEach P history → AtEach H history
  at_each H holds [] all = tt
  at_each H holds (happened ∷ before) all = (
    holds before happened.0 happened.1 all.0 (kept_after before all.1) (kept_after (happened ∷ before) all),
    at_each H holds before all.1,
  )

-- the same, with what holds at first after it
pub throughout_by : {Q S M C : Type 0} (P H : History Q S M C → Event Q S M C → Reply Q → Type 0)
    (Kept : History Q S M C → Type 0)
    → ((before : History Q S M C) (event : Event Q S M C) (reply : Reply Q) → P before event reply → Kept before
    → Kept ((event, reply) ∷ before))
    → ((before : History Q S M C) (event : Event Q S M C) (reply : Reply Q) → P before event reply → Kept before
    → Kept ((event, reply) ∷ before) → H before event reply)
    → Kept [] → (history : History Q S M C) → AtEach P history → AtEach H history
throughout_by P H Kept keeps holds first = at_each P Kept keeps first H holds

-- for every run with such replies, it holds throughout
abbrev pub AllAlong : {F K Q S M P : Type 0} → Beginning F K Q S M P
    → (History Q S M P → Event Q S M P → Reply Q → Type 0) → Type 0
AllAlong {F} {K} {Q} {S} {M} {P} beginning H = (history : History Q S M P) → AtEach (RepliesAfter beginning) history
    → AtEach H history

-- what follows at an event from an invariant holds throughout a run
module _ {F K Q S M P : Type 0} (beginning : Beginning F K Q S M P) (Kept : History Q S M P → Type 0)
    (Holds : History Q S M P → Event Q S M P → Reply Q → Type 0) where
  pub throughout_kept : ((before : History Q S M P) (event : Event Q S M P) (reply : Reply Q)
      → RepliesAfter beginning before event reply → Kept before → Kept ((event, reply) ∷ before))
      → ((before : History Q S M P) (event : Event Q S M P) (reply : Reply Q)
      → RepliesAfter beginning before event reply
      → Kept before → Holds before event reply)
      → Kept [] → AllAlong beginning Holds
  throughout_kept keeps holds first = at_each (RepliesAfter beginning) Kept keeps first Holds
      (λ before event reply told kept after. holds before event reply told kept)
