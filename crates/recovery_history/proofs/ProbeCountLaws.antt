-- By the history alone a search sends few probes, as its entries say: the clause `probe_count` of `run`.
use Rattle.std.proofs.Common.{ℕ, ◌≡◌, true, List, ◌∷◌, Option, Ok, Err, refl, ap, is_some, arith}
use Rattle.std.specs.Option.{IfSome}
use Rattle.recovery_base.specs.declared.below.SpaceId.TheVariants as space
use Rattle.recovery_mtud.specs.MtuEntries.{MtuEntry, MtuProbe, probe_in_flight}
use Rattle.recovery_mtud.specs.SearchRuns.{probed_sizes, search_of}
use Rattle.recovery_mtud.proofs.SearchRunLaws.{idle_search}
use Rattle.recovery_events.specs.declared.event.Event.{Event}
use Rattle.recovery_events.specs.declared.event.Event.TheVariants.{PollMtu, Acked, Lost, NewPath}
use Rattle.recovery_events.specs.declared.event.Answer.TheVariants as answer
use Rattle.recovery_history.specs.RepliesAfter.{settings_of}
use Rattle.recovery_history.specs.History.{Beginning, History, Reply}
use Rattle.recovery_history.specs.Promises.ProbeCount.{BoundsProbeCount, is_in_flight, sizes_probed}
use Rattle.recovery_history.specs.Promises.Probes.{last_probe}
use Rattle.recovery_history.proofs.SearchSaid.{entered_so_far, Keeps, IsSmall}
use Rattle.recovery_history.proofs.SearchLaws.{few_one}
use Rattle.recovery_history.proofs.SearchSteps.{Facts, Step, stepped, throughout_facts}
use Rattle.recovery_history.proofs.Runs.{AllAlong}

-- ---- the sizes probed by the search that runs

-- the probe in flight is the last one
abbrev IsLast : ℕ × ℕ → Option MtuProbe → Type 0
IsLast last flight = IfSome flight (λ probe. (last.0 ≡ probe.number) × (last.1 ≡ probe.size))

module _ {Q S M P : Type 0} where
  -- the history determines whether a probe is in flight, and which, and the sizes probed
  abbrev pub TiedTo : History Q S M P → List MtuEntry → Type 0
  TiedTo history entries = (is_in_flight history ≡ is_some (probe_in_flight entries))
      × (sizes_probed history ≡ probed_sizes (search_of entries))
      × IsLast (last_probe history) (probe_in_flight entries)

  module _ (first least : ℕ) (history : History Q S M P) (entries : List MtuEntry) (tied : TiedTo history entries)
    where
      step_tied : (event : Event Q S M P) (reply : Reply Q)
          → Step first least history entries (λ r after. TiedTo ((event, r) ∷ history) after) event
          reply
      step_tied (PollMtu now) (Ok (answer.Probe number size)) =
          (refl, ap (λ sizes. size ∷ sizes) tied.1, (refl, refl))
      step_tied (Acked space.Data now number app_limited) (Ok given) = grind (arith, idle_search entries)
      step_tied (Lost space.Data number) (Ok given) = grind (arith, idle_search entries)
      step_tied (NewPath now remote true) reply = grind (arith, tied)
      step_tied event (Ok given) = grind (arith, tied, idle_search entries)
      step_tied event (Err refusal) = tied

module _ {F K Q S M P : Type 0} (beginning : Beginning F K Q S M P) where
  -- the entries of the search on the path in use are these
  abbrev pub Tied : History Q S M P → Type 0
  Tied history = TiedTo history (entered_so_far beginning history)

  pub tied_after : Keeps (Facts beginning) Tied
  tied_after history event reply known tied =
      let settings = settings_of beginning in
      stepped beginning history (λ r after. TiedTo ((event, r) ∷ history) after) event reply known
      (step_tied settings.mtu settings.min_mtu history (entered_so_far beginning history) tied event reply)

  -- throughout a run, where the upper bound of a search is a `u16`
  pub few_told : IsSmall beginning → AllAlong beginning (BoundsProbeCount beginning)
  few_told small =
      throughout_facts beginning Tied tied_after (refl, refl, tt) (λ history event reply known tied settings is change.
      let few = few_one beginning small history event reply known.told known.searched settings is change in
      rw (tied_after history event reply known tied).1 (few.probes, few.sizes))
