-- A discovery that is disabled stays so, and its polls return no probe. The driver's `SearchLaws` rest on it.
use Rattle.std.proofs.Common.{◌≡◌, ℕ, None, List, [], ◌∷◌, arith, refl, ◌∙◌}
use Rattle.recovery_mtud.specs.Discovery.{Discovery, poll_of}
use Rattle.recovery_mtud.specs.DiscoveryLog.{MtuCall, discovery_after, discovery_by}
use Rattle.recovery_mtud.specs.MtuEntries.{search_settings}

pub settings_stay : (call : MtuCall) (old : Discovery)
    → search_settings (discovery_after call old) ≡ search_settings old
settings_stay call old = grind arith

disabled_by : (made : Discovery) → made.search ≡ None → (calls : List MtuCall) → (discovery_by made calls).search ≡ None
disabled_by made none [] = none
disabled_by made none (call ∷ earlier) = grind (arith, disabled_by made none earlier)

-- the settings of a search, if there is one, stay
pub settings_by : (made : Discovery) (calls : List MtuCall)
    → search_settings (discovery_by made calls) ≡ search_settings made
settings_by made [] = refl
settings_by made (call ∷ earlier) = settings_stay call (discovery_by made earlier) ∙ settings_by made earlier

pub unsearched : (made : Discovery) → search_settings made ≡ None → (now : ℕ) (calls : List MtuCall)
    → poll_of now (discovery_by made calls) ≡ None
unsearched made none now calls = grind (arith, disabled_by made)
