-- NewReno's window is reduced once a round trip.
use Rattle.std.proofs.Common.{◌≡◌, ℕ, ◌-◌, ◌≤◌, ◌⊎◌, inl, inr, arith, Bool, true, false, nat_le, nat_lt, List, refl}
use Rattle.std.proofs.lemmas.Bool.Decides.{nat_tests}
use Rattle.std.specs.Prelude.{if◌then◌else◌}
use Rattle.recovery_congestion.specs.declared.congestion.new_reno.NewReno.{NewReno}
use Rattle.recovery_congestion.specs.Calls.{ControllerCall, acks, congests, ends_acks, sends, takes_mtu}
use Rattle.recovery_congestion.specs.NewReno.{sum_to_most, is_ignored, slow_started, avoided, reno_after, reno_grown, reno_recovering, reno_words}
use Rattle.recovery_congestion.specs.Rounds.{AreInOrder, ReducesOncePerRound}
use Rattle.recovery_congestion.proofs.RoundLaws.{IsNoCongestion, KeepsRecovery, BeginsRecovery, ReducesInRecovery, falls_once}

abbrev start : NewReno → ℕ
start reno = reno.recovery_start_time

abbrev Keeps : NewReno → NewReno → Type 0
Keeps = KeepsRecovery reno_words start

stays : (reno : NewReno) → Keeps reno reno
stays reno = record { start_is = refl; window = λ within. omega arith }

keeps_avoiding : (counted : ℕ) (reno : NewReno) → Keeps reno (avoided counted reno)
keeps_avoiding counted reno =
    elim (nat_le reno.window counted) as (λ b. Keeps reno (if b
    then record reno { window = sum_to_most reno.window reno.current_mtu; bytes_acked = counted - reno.window }
    else record reno { bytes_acked = counted })) [
      | true ↦ record { start_is = refl; window = λ within. omega (arith, within) }
      | false ↦ record { start_is = refl; window = λ within. omega arith }
    ]

keeps_growing : (bytes : ℕ) (reno : NewReno) → Keeps reno (reno_grown bytes reno)
keeps_growing bytes reno =
    elim (nat_lt reno.window reno.ssthresh) as
    (λ b. Keeps reno (if b then slow_started bytes reno else avoided (sum_to_most reno.bytes_acked bytes) reno)) [
      | true ↦ record { start_is = refl; window = λ within. omega (arith, within) }
      | false ↦ keeps_avoiding (sum_to_most reno.bytes_acked bytes) reno
    ]

keeps : (call : ControllerCall) (reno : NewReno) → IsNoCongestion call → Keeps reno (reno_after call reno)
keeps (acks now sent bytes limited rtt) reno other =
    elim (is_ignored sent limited reno) as (λ b. Keeps reno (if b then reno else reno_grown bytes reno))
    [ true ↦ stays reno | false ↦ keeps_growing bytes reno ]
keeps (congests now sent persistent lost) reno other = absurd other
keeps (sends now bytes number) reno other = stays reno
keeps (ends_acks now bytes limited largest) reno other = stays reno
keeps (takes_mtu mtu) reno other = record { start_is = refl; window = λ within. omega arith }

congested : (now sent : ℕ) (persistent : Bool) (reno : NewReno) (test : Bool)
    → nat_le sent reno.recovery_start_time ≡ test
    → let new = (if test then reno else reno_recovering now persistent reno) in
    ((start new ≡ start reno) × (reno.window ≤ new.window)) ⊎ BeginsRecovery reno_words start now sent reno new
congested now sent persistent reno true is = inl (refl, omega arith)
congested now sent persistent reno false is = inr (record { later = grind (arith, nat_tests); start_is = refl })

pub reno_rounds : ReducesInRecovery reno_words start
reno_rounds = record {
  other = keeps;
  congested = λ now sent persistent lost reno.
      congested now sent persistent reno (nat_le sent reno.recovery_start_time) refl;
}

pub reno_falls_once : (built : NewReno) (call : ControllerCall) (calls : List ControllerCall) → AreInOrder calls
    → ReducesOncePerRound reno_words built call calls
reno_falls_once = falls_once reno_words start reno_rounds
