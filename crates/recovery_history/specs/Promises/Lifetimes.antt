-- When to ask the peer to retire IDs (RFC 9000, 5.1.2 and 19.15): issued IDs have a lifetime, and `IdTimeout` ends the
-- oldest one. The answer is yes exactly if the peer retired all IDs that it was asked to before, and not yet all up to
-- the last one of this lifetime.
use Rattle.std.specs.Prelude.{◌≡◌, ℕ, ◌==◌, ◌+◌, Bool, true, not, ◌&&◌, List, [], ◌∷◌, length, drop, Ok, if◌then◌else◌}
use Rattle.std.specs.List.{list_any, range_with_len}
use Rattle.recovery_ids.specs.declared.state.CidTimestamp.{CidTimestamp}
use Rattle.recovery_ids.specs.LocalIds.{deadlines_with_last, next_mark}
use Rattle.recovery_events.specs.declared.event.Event.{Event}
use Rattle.recovery_events.specs.declared.event.Event.TheVariants.{IssueIds, IdTimeout}
use Rattle.recovery_events.specs.declared.event.Answer.TheVariants.{Flag}
use Rattle.recovery_history.specs.History.{Beginning, History, Reply}
use Rattle.recovery_history.specs.Promises.OwnIds.{issued, is_retired}

module _ {F K Q S M P : Type 0} (beginning : Beginning F K Q S M P) where
  -- the lifetimes that run, the oldest first: issuing IDs starts one, recorded with the last of them, and a timeout
  -- ends the oldest
  abbrev pub lifetimes : History Q S M P → List CidTimestamp
  lifetimes [] =
      let config = beginning.config in deadlines_with_last config.cid_lifetime beginning.start config.issued []
  lifetimes ((IssueIds now ids, Ok answer) ∷ earlier) =
      let count = issued beginning.config.issued earlier + length ids.items in
      if length ids.items == 0 then lifetimes earlier
      else deadlines_with_last beginning.config.cid_lifetime now count (lifetimes earlier)
  lifetimes ((IdTimeout, Ok answer) ∷ earlier) = drop 1 (lifetimes earlier)
  lifetimes (happened ∷ earlier) = lifetimes earlier

  -- the oldest lifetime is that of the IDs below this number
  abbrev pub oldest_end : History Q S M P → ℕ
  oldest_end history = next_mark 0 (lifetimes history)

  -- the peer was asked to retire the ids below this number
  abbrev pub asked_below : History Q S M P → ℕ
  asked_below [] = 0
  asked_below ((IdTimeout, Ok (Flag true)) ∷ earlier) = oldest_end earlier
  asked_below (happened ∷ earlier) = asked_below earlier

  -- some ID below a number is not retired
  abbrev pub lives_below : ℕ → History Q S M P → Bool
  lives_below end history = list_any (λ n. not (is_retired history n)) (range_with_len 0 end)

  abbrev pub AsksToRetire : History Q S M P → Event Q S M P → Reply Q → Type 0
  AsksToRetire history IdTimeout reply =
      let asks = not (lives_below (asked_below history) history) && lives_below (oldest_end history) history in
      reply ≡ Ok (Flag asks)
  AsksToRetire history event reply = Unit {0}
