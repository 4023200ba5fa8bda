-- Worked rows: the results of the definitions on a few calls, computed. Nothing rests on them.
use Rattle.std.proofs.Common.{◌≡◌, ◌*◌, ◌-◌, ◌^◌, None, Some, true, false, [], ◌∷◌, refl}
use Rattle.recovery_mtud.specs.Settings.{default_settings}
use Rattle.recovery_mtud.specs.Discovery.{Discovery, discovery_made, poll_of, reports}
use Rattle.recovery_mtud.specs.DiscoveryLog.{polls, is_limited, acks, loses_probe, loses, losses_end, discovery_by}

-- with the default settings, from 1,200 bytes
abbrev made : Discovery
made = discovery_made 1_200 1_200 None (Some default_settings)

first_probe : poll_of 0 made ≡ Some 1_326
first_probe = refl

-- a probe that gets through is in use, and the next size is above it
abbrev probed : Discovery
probed = discovery_by made (acks 0 1_326 ∷ polls 0 0 ∷ [])

probed_mtu : probed.mtu ≡ 1_326
probed_mtu = refl

second_probe : poll_of 0 probed ≡ Some 1_389
second_probe = refl

-- after the third loss of a size the next one is below it
third_loss : poll_of 0
    (discovery_by made (loses_probe ∷ polls 0 2 ∷ loses_probe ∷ polls 0 1 ∷ loses_probe ∷ polls 0 0 ∷ [])) ≡ Some 1_262
third_loss = refl

-- with nothing above the limit to probe, a search ends when it begins, and the next one waits for the interval
abbrev ended : Discovery
ended = discovery_by made (is_limited 1_300 ∷ polls 0 0 ∷ is_limited 1_200 ∷ [])

waits : poll_of (600 * 10 ^ 9 - 1) ended ≡ None
waits = refl

begins_again : poll_of (600 * 10 ^ 9) ended ≡ Some 1_250
begins_again = refl

-- four bursts of one packet each, larger than the minimum MTU
abbrev lost : Discovery
lost = discovery_by made (loses 6 1_300 ∷ loses 4 1_300 ∷ loses 2 1_300 ∷ loses 0 1_300 ∷ [])

black_hole : reports lost ≡ true
black_hole = refl

after_report : poll_of 0 (discovery_by lost (losses_end 0 ∷ [])) ≡ None
after_report = refl

-- a packet as large as theirs that is acknowledged refutes those before it
refuted : reports (discovery_by made (loses 6 1_300 ∷ acks 5 1_300 ∷ losses_end 0 ∷ loses 4 1_300 ∷ loses 2 1_300
    ∷ loses 0 1_300 ∷ [])) ≡ false
refuted = refl
