-- CUBIC's window is reduced once a round trip.
use Rattle.std.proofs.Common.{◌≡◌, ℕ, ◌≤◌, ◌⊎◌, inl, inr, arith, Bool, true, false, nat_eq, nat_le, nat_lt, List, refl}
use Rattle.std.proofs.lemmas.Bool.Decides.{nat_tests}
use Rattle.std.specs.Prelude.{if◌then◌else◌}
use Rattle.recovery_congestion.specs.Calls.{ControllerCall, acks, congests, ends_acks, sends, takes_mtu}
use Rattle.recovery_congestion.specs.Rounds.{AreInOrder, ReducesOncePerRound}
use Rattle.recovery_congestion.proofs.RoundLaws.{IsNoCongestion, KeepsRecovery, BeginsRecovery, ReducesInRecovery, falls_once}
use Rattle.recovery_cubic.specs.declared.cubic.Cubic.{Cubic}
use Rattle.recovery_cubic.specs.Stage.{uncounted}
use Rattle.recovery_cubic.specs.Cubic.{cubic_resumed, slow_started, avoided, cubic_after, cubic_made, cubic_recovering, cubic_words}

abbrev start : Cubic → ℕ
start cubic = cubic.recovery_start_time

abbrev Keeps : Cubic → Cubic → Type 0
Keeps = KeepsRecovery cubic_words start

stays : (cubic : Cubic) → Keeps cubic cubic
stays cubic = record { start_is = refl; window = λ within. omega arith }

keeps_open : (now bytes : ℕ) (limited slow : Bool) (cubic : Cubic)
    → Keeps cubic (if limited then record cubic { stage = uncounted now cubic.stage }
    else if slow then slow_started now bytes cubic else avoided now bytes cubic)
keeps_open now bytes true slow cubic = record { start_is = refl; window = λ within. omega arith }
keeps_open now bytes false true cubic = record { start_is = refl; window = λ within. omega (arith, within) }
keeps_open now bytes false false cubic = record { start_is = refl; window = λ within. omega arith }

keeps : (call : ControllerCall) (cubic : Cubic) → IsNoCongestion call → Keeps cubic (cubic_after call cubic)
keeps (acks now sent bytes limited rtt) cubic other =
    elim (nat_le sent cubic.recovery_start_time) as (λ b. Keeps cubic (if b then cubic
    else if limited then record cubic { stage = uncounted now cubic.stage }
    else if nat_lt cubic.window cubic.ssthresh then slow_started now bytes cubic else avoided now bytes cubic)) [
      | true ↦ stays cubic
      | false ↦ keeps_open now bytes limited (nat_lt cubic.window cubic.ssthresh) cubic
    ]
keeps (congests now sent persistent lost) cubic other = absurd other
keeps (sends now bytes number) cubic other =
    elim (nat_eq bytes 0) as (λ b. Keeps cubic (if b then cubic else cubic_resumed now cubic))
    [ true ↦ stays cubic | false ↦ record { start_is = refl; window = λ within. omega arith } ]
keeps (ends_acks now in_flight limited largest) cubic other =
    record { start_is = refl; window = λ within. omega arith }
keeps (takes_mtu mtu) cubic other = record { start_is = refl; window = λ within. omega arith }

congested : (now sent : ℕ) (persistent : Bool) (cubic : Cubic) (test : Bool)
    → nat_le sent cubic.recovery_start_time ≡ test
    → let new = (if test then cubic else cubic_recovering now persistent cubic) in
    ((start new ≡ start cubic) × (cubic.window ≤ new.window)) ⊎ BeginsRecovery cubic_words start now sent cubic new
congested now sent persistent cubic true is = inl (refl, omega arith)
congested now sent persistent cubic false is = inr (record { later = grind (arith, nat_tests); start_is = refl })

pub cubic_rounds : ReducesInRecovery cubic_words start
cubic_rounds = record {
  other = keeps;
  congested = λ now sent persistent lost cubic.
      congested now sent persistent cubic (nat_le sent cubic.recovery_start_time) refl;
}

pub cubic_falls_once : (window made mtu : ℕ) (call : ControllerCall) (calls : List ControllerCall) → AreInOrder calls
    → ReducesOncePerRound cubic_words (cubic_made window made mtu) call calls
cubic_falls_once window made mtu = falls_once cubic_words start cubic_rounds (cubic_made window made mtu)
