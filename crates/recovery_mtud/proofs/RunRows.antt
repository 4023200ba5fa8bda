-- Worked rows over many calls: the results of the definitions, computed. Nothing rests on them.
use Rattle.std.proofs.Common.{◌≡◌, ℕ, zero, suc, Option, None, Some, false, List, [], ◌∷◌, length, refl}
use Rattle.std.specs.Prelude.{nat_le, nat_eq, if◌then◌else◌}
use Rattle.std.specs.Set.{distinct_count}
use Rattle.recovery_mtud.specs.Settings.{default_settings}
use Rattle.recovery_mtud.specs.Discovery.{Discovery, discovery_made, poll_of}
use Rattle.recovery_mtud.specs.DiscoveryLog.{MtuCall, polls, acks, loses_probe, loses, losses_end, discovery_by}
use Rattle.recovery_mtud.specs.MtuEntries.{entries_by, mtu_in_use}
use Rattle.recovery_mtud.specs.SearchRuns.{search_of, probed_sizes, search_runs}
use Rattle.recovery_mtud.specs.BurstRuns.{standing, open_run, AreFourUnanswered}

-- ---- searches over a link that carries the sizes up to one, one poll after another

abbrev fate : ℕ → ℕ → Option ℕ → List MtuCall → List MtuCall
fate link number None calls = calls
fate link number (Some size) calls = (if nat_le size link then acks number size else loses_probe) ∷ calls

abbrev played : ℕ → Discovery → ℕ → List MtuCall
played link made zero = []
played link made (suc turns) =
    let earlier = played link made turns in
    fate link turns (poll_of 0 (discovery_by made earlier)) (polls 0 turns ∷ earlier)

abbrev sizes_after : ℕ → Discovery → ℕ → List ℕ
sizes_after link made turns = probed_sizes (search_of (entries_by made (played link made turns)))

abbrev mtu_after_turns : ℕ → Discovery → ℕ → ℕ
mtu_after_turns link made turns = mtu_in_use made (entries_by made (played link made turns))

abbrev usual : Discovery
usual = discovery_made 1_200 1_200 None (Some default_settings)

usual_sizes : sizes_after 1_400 usual 5 ≡ 1_420 ∷ 1_420 ∷ 1_420 ∷ 1_389 ∷ 1_326 ∷ []
usual_sizes = refl

usual_end : search_runs (entries_by usual (played 1_400 usual 6)) ≡ false
usual_end = refl

usual_mtu : mtu_after_turns 1_400 usual 6 ≡ 1_389
usual_mtu = refl

no_larger : sizes_after 1_200 usual 9 ≡ 1_230 ∷ 1_230 ∷ 1_230 ∷ 1_262 ∷ 1_262 ∷ 1_262 ∷ 1_326 ∷ 1_326 ∷ 1_326 ∷ []
no_larger = refl

-- the widest bounds that there are, in steps of three or more
abbrev widest : Discovery
widest = discovery_made 1 1 None (Some (record default_settings { upper_bound = 65_527; minimum_change = 3 }))

-- if every probe is lost, each of 14 sizes is probed three times
most_probes : length (sizes_after 1 widest 42) ≡ 42
most_probes = refl

least_end : search_runs (entries_by widest (played 1 widest 43)) ≡ false
least_end = refl

-- a link that carries all but the upper bound takes 16 sizes
most_sizes : distinct_count nat_eq (sizes_after 65_526 widest 18) ≡ 16
most_sizes = refl

most_mtu : mtu_after_turns 65_526 widest 19 ≡ 65_524
most_mtu = refl

-- ---- bursts

-- an acknowledgement as large as their packets refutes those that have closed
refuted : standing (entries_by usual (acks 5 1_300 ∷ losses_end 0 ∷ loses 4 1_300 ∷ loses 2 1_300 ∷ loses 0 1_300 ∷ []))
    ≡ []
refuted = refl

-- around a lost probe there are two bursts
apart : open_run (entries_by usual (loses 5 1_300 ∷ loses_probe ∷ loses 3 1_300 ∷ polls 0 4 ∷ []))
    ≡ record { number = 5; bytes = 1_300 } ∷ []
apart = refl

four : AreFourUnanswered usual (entries_by usual (loses 6 1_300 ∷ loses 4 1_300 ∷ loses 2 1_300 ∷ loses 0 1_300 ∷ []))
four = refl
