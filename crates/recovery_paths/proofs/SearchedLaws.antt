-- How each path is searched: all with the same settings, each from a discovery without any call, and with each limit
-- outside a search. The driver's `SearchLaws` rest on it.
use Rattle.std.proofs.Common.{arith, ℕ, ◌≡◌, Bool, List, [], ◌∷◌, ◌++◌, Option, None, if◌then◌else◌}
use Rattle.std.proofs.lemmas.Option.{none-some}
use Rattle.recovery_config.specs.declared.config.TransportConfig.{TransportConfig}
use Rattle.recovery_config.specs.Settings.{initial_mtu_of}
use Rattle.recovery_mtud.specs.declared.config.MtuDiscoveryConfig.{MtuDiscoveryConfig}
use Rattle.recovery_mtud.specs.Discovery.{Discovery}
use Rattle.recovery_mtud.specs.DiscoveryLog.{MtuCall, resets, discovery_by}
use Rattle.recovery_mtud.specs.MtuEntries.{IsFreshDiscovery, search_settings, entries_by}
use Rattle.recovery_mtud.specs.SearchRuns.{AreLimitsOutside}
use Rattle.recovery_mtud.proofs.MtuEntryLaws.{discovery_made_untold, made_settings}
use Rattle.recovery_mtud.proofs.SearchRunLaws.{IsInTurn, limits_outside_after}
use Rattle.recovery_paths.specs.PathMaking.{PathSettings, first_discovery}
use Rattle.recovery_paths.specs.PathLog.{OnEachPath, PathsEntry, PathEntry, PathHistory, PathOrigin, pasts_by, each_path, path_state_of, known_of, past_with, past_following, searches, is_reset}
use Rattle.recovery_paths.specs.PathStates.{PathState}
use Rattle.recovery_paths.proofs.AllowedLaws.{IsAllowed, AreAllowed, kept_after}

-- a discovery that was made and called so is searched by these settings, if any
pub record IsSearchedBy (settings : Option MtuDiscoveryConfig) (made : Discovery) (calls : List MtuCall) : Type 0 where
  pub untold : IsFreshDiscovery made
  pub settings_are : search_settings made ≡ settings
  pub outside : AreLimitsOutside (entries_by made calls)

abbrev pub IsPathSearchedBy : {K : Type 0} → Option MtuDiscoveryConfig → PathHistory K → Type 0
IsPathSearchedBy by past = IsSearchedBy by past.kept.discovery past.searched

-- one more call that is allowed
searched_after : (by : Option MtuDiscoveryConfig) (made : Discovery) (call : MtuCall) (earlier : List MtuCall)
    → IsInTurn call (discovery_by made earlier) → IsSearchedBy by made earlier → IsSearchedBy by made (call ∷ earlier)
searched_after by made call earlier turn searched =
    grind (arith, searched, limits_outside_after made searched.untold call earlier turn searched.outside)

-- the discovery of a new path is searched if that is allowed, as the settings of paths say
pub first_searched : {F : Type 0} (allowed : Bool) (limit : Option ℕ) (config : TransportConfig F)
    → IsSearchedBy (if allowed then config.mtu_discovery_config else None) (first_discovery allowed limit config) []
first_searched allowed limit config =
    let by = if allowed then config.mtu_discovery_config else None in
    grind (
      arith,
      discovery_made_untold (initial_mtu_of config) config.min_mtu limit by,
      made_settings (initial_mtu_of config) config.min_mtu limit by,
    )

module _ {K : Type 0} (settings : PathSettings K) (by : Option MtuDiscoveryConfig)
    (fresh_is : (limit : Option ℕ) → IsSearchedBy by (settings.discovery limit) []) where
  -- an entry that is allowed preserves that
  searched_law : (entry : PathEntry) (past : PathHistory K) → IsAllowed settings.words (path_state_of past) entry
      → IsPathSearchedBy by past → IsPathSearchedBy by (past_with settings entry past)
  searched_law (searches call) past allowed searched =
      searched_after by past.kept.discovery call past.searched allowed searched
  searched_law (is_reset now) past allowed searched =
      searched_after by past.kept.discovery (resets settings.mtu settings.min_mtu) past.searched tt searched
  searched_law entry past allowed searched = searched

  -- a fresh path is searched from its making on, and one that is not as the path before it
  follows_searched : (following : PathOrigin) (past : PathHistory K) → IsPathSearchedBy by past
      → IsPathSearchedBy by (past_following settings following past)
  follows_searched following past searched = grind (arith, fresh_is, searched)

  -- an event's entries preserve that
  pub searched_over : (first : PathState K) (entries log : List PathsEntry) → let pasts =
      pasts_by settings first log in
      AreAllowed settings (each_path known_of pasts) entries → OnEachPath (IsPathSearchedBy by) pasts
      → OnEachPath (IsPathSearchedBy by) (pasts_by settings first (entries ++ log))
  searched_over =
      kept_after settings (IsPathSearchedBy by) (record { by_entry = searched_law; following = follows_searched })

  pub searched_at_first : (first : PathState K) → IsSearchedBy by first.discovery []
      → OnEachPath (IsPathSearchedBy by) (pasts_by settings first [])
  searched_at_first first searched = (searched, λ past is. absurd (none-some _ is))
