-- A discovery stays sound, whatever its calls, and how its MTU changes: the laws `discovery_stays_sound` and
-- `mtu_changes`.
use Rattle.std.proofs.Common.{◌≡◌, List, [], ◌∷◌, arith}
use Rattle.std.proofs.lemmas.Bool.Decides.{nat_tests}
use Rattle.recovery_mtud.specs.Discovery.{Discovery, IsDiscoverySound}
use Rattle.recovery_mtud.specs.DiscoveryLog.{MtuCall, polls, discovery_after, discovery_by, IsPositiveMtuCall, ArePositiveMtuCalls, mtu_after}
use Rattle.recovery_mtud.proofs.BurstCallLaws.{filter_fewer, with_burst_few}

-- one call
pub discovery_after_sound : (call : MtuCall) → IsPositiveMtuCall call → (old : Discovery) → IsDiscoverySound old
    → IsDiscoverySound (discovery_after call old)
discovery_after_sound (polls now next) positive old sound = grind (arith, nat_tests)
discovery_after_sound call positive old sound = grind (arith, filter_fewer, with_burst_few)

-- all calls, from a sound discovery
pub discovery_by_sound : (calls : List MtuCall) → ArePositiveMtuCalls calls → (made : Discovery) → IsDiscoverySound made
    → IsDiscoverySound (discovery_by made calls)
discovery_by_sound [] positive made sound = sound
discovery_by_sound (call ∷ earlier) positive made sound =
    discovery_after_sound call positive.0 (discovery_by made earlier) (discovery_by_sound earlier positive.1 made sound)

-- how the MTU in use changes
pub discovery_after_mtu : (call : MtuCall) (old : Discovery) → (discovery_after call old).mtu ≡ mtu_after call old
discovery_after_mtu call old = grind arith
