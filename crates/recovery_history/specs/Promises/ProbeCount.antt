-- The MTU search (RFC 8899, 5; RFC 9000, 14.3): from its first probe to its end a search sends at most 48 probes, of at
-- most 16 sizes.
use Rattle.std.specs.Prelude.{ℕ, ◌≤◌, nat_eq, Bool, true, false, List, [], ◌∷◌, length, Ok, if◌then◌else◌}
use Rattle.std.specs.Set.{distinct_count}
use Rattle.recovery_events.specs.declared.event.Event.{Event}
use Rattle.recovery_events.specs.declared.event.Event.TheVariants.{PollMtu, Acked, Lost, LossesDone, ResetPath, NewPath, RevertPath}
use Rattle.recovery_events.specs.declared.event.Answer.TheVariants as answer
use Rattle.recovery_history.specs.History.{Beginning, History, Reply}
use Rattle.recovery_history.specs.Search.{WhereSearched}
use Rattle.recovery_mtud.specs.Search.{probe_budget, size_budget}

module _ {Q S M P : Type 0} where
  -- the search state is reset: by a report of a black hole, a reset, a fresh path, or a return to the previous path
  abbrev pub begins_anew : Event Q S M P × Reply Q → Bool
  begins_anew (LossesDone now, Ok (answer.BlackHole true)) = true
  begins_anew (ResetPath now, Ok given) = true
  begins_anew (NewPath now remote true, Ok given) = true
  begins_anew (RevertPath, Ok given) = true
  begins_anew happened = false

  -- a probe is in flight from its answer until it is acknowledged or lost, or the search state is reset
  abbrev pub is_in_flight : History Q S M P → Bool
  is_in_flight [] = false
  is_in_flight ((PollMtu now, Ok (answer.Probe number size)) ∷ earlier) = true
  is_in_flight ((Acked space now number app_limited, Ok (answer.Acked true)) ∷ earlier) = false
  is_in_flight ((Lost space number, Ok (answer.Lost true)) ∷ earlier) = false
  is_in_flight (happened ∷ earlier) = if begins_anew happened then false else is_in_flight earlier

  -- the sizes probed by the search that runs; it ends if a poll returns no probe while none is in flight
  abbrev pub sizes_probed : History Q S M P → List ℕ
  sizes_probed [] = []
  sizes_probed ((PollMtu now, Ok (answer.Probe number size)) ∷ earlier) = size ∷ sizes_probed earlier
  sizes_probed ((PollMtu now, Ok answer.NoProbe) ∷ earlier) = if is_in_flight earlier then sizes_probed earlier else []
  sizes_probed (happened ∷ earlier) = if begins_anew happened then [] else sizes_probed earlier

module _ {F K Q S M P : Type 0} (beginning : Beginning F K Q S M P) where
  -- after an event, the search that runs has sent few probes, if the minimum change is 3 or more
  abbrev pub BoundsProbeCount : History Q S M P → Event Q S M P → Reply Q → Type 0
  BoundsProbeCount history event reply =
      let sizes = sizes_probed ((event, reply) ∷ history) in
      WhereSearched beginning (λ settings. (length sizes ≤ probe_budget) × (distinct_count nat_eq sizes ≤ size_budget))
