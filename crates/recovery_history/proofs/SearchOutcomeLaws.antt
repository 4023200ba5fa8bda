-- What is reported of a number to the search of the path in use happened to that number in the Application Data space.
-- `BurstLaws` rest on it.
use Rattle.std.proofs.lemmas.Bool.Decides.{nat_tests}
use Rattle.std.proofs.Common.{◌≡◌, ℕ, ◌+◌, ◌≤◌, ◌==◌, ◌&&◌, Bool, true, false, if◌then◌else◌, List, [], ◌∷◌, ◌++◌, Option, Some, Ok, Err, refl, arith}
use Rattle.recovery_base.specs.declared.below.SpaceId.{SpaceId}
use Rattle.recovery_base.specs.declared.below.SpaceId.TheVariants.{Data}
use Rattle.recovery_base.specs.Spaces.{same_space}
use Rattle.recovery_spaces.specs.Packets.{Packet, packet_at}
use Rattle.recovery_paths.specs.declared.path_pair.PathName.TheVariants.{Current}
use Rattle.recovery_paths.specs.PathLog.{PathsEntry, on, searches}
use Rattle.recovery_paths.proofs.PathFateLaws.{fates, told_in, told-append, fates_by}
use Rattle.recovery_events.specs.declared.event.Event.{Event}
use Rattle.recovery_events.specs.declared.event.Event.TheVariants.{Acked, Lost}
use Rattle.recovery_history.specs.Entries.{Entries, acked_entry, acked_search, lost_search}
use Rattle.recovery_history.specs.Table.{entries_of}
use Rattle.recovery_history.specs.RepliesAfter.{logs_of, pasts_of, inputs_after, first_path, settings_of}
use Rattle.recovery_history.specs.History.{Beginning, History, QueueModel, Reply}
use Rattle.recovery_history.specs.ReplyInputs.{ReplyInputs, tracked_known}
use Rattle.recovery_history.specs.Promises.ResolvedOnce.{departures_of}
use Rattle.recovery_history.proofs.EntryKinds.{PathKind, departing, elsewhere, path_kind, paths_kept}

-- how often a number leaves the Application Data space, if it is this one
abbrev leaves_data : SpaceId → ℕ → ℕ → ℕ
leaves_data space other number = if same_space space Data && other == number then 1 else 0

module _ {K P M : Type 0} (known : ReplyInputs K P M) (number : ℕ) where
  -- ---- the reports of each part of an event's entries

  -- the reports of an acknowledged packet
  acked_departs : (space : SpaceId) (now other : ℕ) (app_limited : Bool) (packet : Option (Packet P M))
      → told_in number (acked_entry known now app_limited packet ++ acked_search known space other packet) ≤ leaves_data
      space other number
  acked_departs Data now other app_limited (Some packet) = grind (arith, nat_tests)
  acked_departs space now other app_limited packet = grind (arith, nat_tests)

  -- and of a lost one
  lost_departs : (space : SpaceId) (other : ℕ) (packet : Option (Packet P M))
      → told_in number (lost_search known space other packet) ≤ leaves_data space other number
  lost_departs Data other (Some packet) = grind (arith, nat_tests)
  lost_departs space other packet = grind (arith, nat_tests)

-- ---- all else

-- the search gets no report that a packet left
abbrev is_silent : PathKind → Bool
is_silent departing = false
is_silent elsewhere = false
is_silent kind = true

module _ (number : ℕ) where
  silent_one : (entry : PathsEntry) (earlier : List PathsEntry) → is_silent (path_kind entry) ≡ true
      → told_in number earlier ≡ 0 → told_in number (entry ∷ earlier) ≡ 0
  silent_one (on Current (searches call)) earlier silent none = grind (arith, silent, none)
  silent_one entry earlier silent none = grind (arith, silent, none)

module _ {K Q S M P : Type 0} (q : QueueModel Q S M P) (known : ReplyInputs K P M) (number : ℕ)
    (earlier : History Q S M P)
  where
    -- if an event's entries report a number, it left by the event
    abbrev Departs : Entries P M → Event Q S M P × Reply Q → Type 0
    Departs entries happened =
        told_in number entries.paths + departures_of Data number earlier ≤ departures_of Data number
        (happened ∷ earlier)

    -- by each event
    event_departs : (event : Event Q S M P) (reply : Reply Q) → Departs (entries_of q known event reply) (event, reply)
    event_departs (Acked space now other app_limited) (Ok answer) = grind (
      arith,
      nat_tests,
      acked_departs known number space now other app_limited (packet_at (tracked_known known space) other),
    )
    event_departs (Lost space other) (Ok answer) =
        grind (arith, nat_tests, lost_departs known number space other (packet_at (tracked_known known space) other))
    event_departs event (Ok answer) =
        omega (
          arith,
          paths_kept q known (λ entries. told_in number entries ≡ 0) is_silent refl (silent_one number)
              event (Ok answer) refl,
        )
    event_departs (Acked space now other app_limited) (Err refusal) = omega arith
    event_departs event (Err refusal) =
        omega arith

module _ {F K Q S M P : Type 0} (beginning : Beginning F K Q S M P) (number : ℕ) where
  -- so by a whole history
  told_departs : (history : History Q S M P)
      → told_in number (logs_of beginning history).paths ≤ departures_of Data number history
  told_departs [] = omega arith
  told_departs (happened ∷ earlier) =
      let logs = logs_of beginning earlier in
      let known = inputs_after beginning earlier in
      omega (
        arith,
        told_departs earlier,
        told-append number (entries_of beginning.queue known happened.0 happened.1).paths logs.paths,
        event_departs beginning.queue known number earlier happened.0 happened.1,
      )

  -- at each time a number was reported at most as often to the search of the path in use as it left its space
  pub fates_depart : (history : History Q S M P)
      → fates number (pasts_of beginning history).current.searched ≤ departures_of Data number history
  fates_depart history =
      omega (
        arith,
        told_departs history,
        fates_by (settings_of beginning) number (first_path beginning) (logs_of beginning history).paths,
      )
