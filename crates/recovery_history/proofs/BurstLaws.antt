-- A report of a black hole needs four bursts, and is made at four, throughout a run. `BlackHolesLaws` state it of
-- events alone.
use Rattle.std.proofs.Common.{◌≡◌, ◌≤◌, ℕ, Bool, true, false, Option, None, Ok, Err, refl, arith}
use Rattle.recovery_base.specs.declared.below.SpaceId.TheVariants.{Data}
use Rattle.recovery_mtud.specs.Discovery.{reports}
use Rattle.recovery_mtud.specs.DiscoveryLog.{discovery_by}
use Rattle.recovery_mtud.specs.MtuEntries.{IsFreshDiscovery}
use Rattle.recovery_mtud.proofs.BurstRunLaws.{four_report, four_stand}
use Rattle.recovery_mtud.proofs.MtuEntryLaws.{discovery_made_untold}
use Rattle.recovery_paths.proofs.PathFateLaws.{apart_once}
use Rattle.recovery_paths.proofs.UntoldLaws.{WasUntold, untold_by}
use Rattle.recovery_events.specs.declared.event.Event.{Event}
use Rattle.recovery_events.specs.declared.event.Event.TheVariants.{LossesDone}
use Rattle.recovery_events.specs.declared.event.Answer.TheVariants.{BlackHole}
use Rattle.recovery_events.specs.declared.event.Refusal.TheVariants.{NoMemory}
use Rattle.recovery_history.specs.RepliesAfter.{logs_of, pasts_of, first_path, settings_of, RepliesAfter}
use Rattle.recovery_history.specs.History.{Beginning, History, Reply}
use Rattle.recovery_history.specs.Promises.ResolvedOnce.{departures_of}
use Rattle.recovery_history.proofs.SearchSaid.{ComesAtFourBursts, NeedsFourBursts, Follows}
use Rattle.recovery_history.proofs.SearchOutcomeLaws.{fates_depart}
use Rattle.recovery_history.proofs.OneOutcomeLaws.{leave_once, one_fate}
use Rattle.recovery_history.proofs.TrackedLaws.{AllTracked}

-- ---- the search of the path in use had no call when it was made

module _ {F K Q S M P : Type 0} (beginning : Beginning F K Q S M P) where
  -- at each time
  untold_in : (history : History Q S M P) → WasUntold (pasts_of beginning history).current
  untold_in history =
      let made : (limit : Option ℕ) → IsFreshDiscovery ((settings_of beginning).discovery limit) =
      λ limit. discovery_made_untold _ _ limit _ in
      untold_by (settings_of beginning) made (first_path beginning) (made None) (logs_of beginning history).paths

  -- the answer to the end of losses is what its detection reports
  abbrev reports_there : History Q S M P → Bool
  reports_there before = let past =
      (pasts_of beginning before).current in reports (discovery_by past.kept.discovery past.searched)

  -- ---- a report is made at four

  -- if four have closed unanswered, the answer is a report
  pub comes_one : (before : History Q S M P) (event : Event Q S M P) (reply : Reply Q)
      → RepliesAfter beginning before event reply
      → ComesAtFourBursts beginning before event reply
  comes_one before (LossesDone now) (Ok answer) told = λ many.
      let past = (pasts_of beginning before).current in
      rw (told, four_report past.kept.discovery (untold_in before) past.searched many) refl
  comes_one before (LossesDone now) (Err NoMemory) told = absurd told
  comes_one before (LossesDone now) (Err refusal) told = absurd told
  comes_one before event reply told = tt

  -- ---- a report needs four

  -- no number of a 1-RTT packet has left twice
  abbrev HaveLeftOnce : History Q S M P → Type 0
  HaveLeftOnce history = (number : ℕ) → departures_of Data number history ≤ 1

  -- if a hole is reported, four bursts are unrefuted
  needs_by : (before : History Q S M P) (now : ℕ) → HaveLeftOnce before → (hole : Bool) → reports_there before ≡ hole
      → NeedsFourBursts beginning before (LossesDone now) (Ok (BlackHole hole))
  needs_by before now once true is =
      let past = (pasts_of beginning before).current in
      let apart = apart_once past.kept.discovery past.searched
      (λ number. omega (arith, fates_depart beginning number before, once number)) in
      four_stand past.kept.discovery (untold_in before) past.searched apart is
  needs_by before now once false is = tt

  -- the same for the answer
  pub needs_one : Follows (RepliesAfter beginning) (AllTracked beginning) (NeedsFourBursts beginning)
  needs_one before (LossesDone now) (Ok answer) told all =
      rw told (needs_by before now (leave_once before (one_fate beginning before all) Data) (reports_there before) refl)
  needs_one before event reply told all = tt
