-- CUBIC satisfies the laws of controllers.
use Rattle.std.specs.Prelude.{◌≡◌, ℕ, ◌*◌, ◌/◌, ◌<◌, ◌≤◌, max, Bool, true, false, nat_eq, nat_le, nat_lt, if◌then◌else◌}
use Rattle.std.proofs.Common.{arith, refl}
use Rattle.std.proofs.lemmas.Bool.Decides.{nat_tests}
use Rattle.recovery_congestion.specs.Calls.{ControllerCall, acks, congests, ends_acks, sends, takes_mtu, IsPositive, congestion_time}
use Rattle.recovery_congestion.specs.Controllers.{ControllerLaws, HasLeastWindow}
use Rattle.recovery_cubic.specs.declared.cubic.Cubic.{Cubic}
use Rattle.recovery_cubic.specs.Stage.{uncounted}
use Rattle.recovery_cubic.specs.Cubic.{slow_started, avoided, cubic_grown, cubic_acked, cubic_recovering, cubic_congested, IsCubicSound, cubic_words, cubic_resumed, cubic_sent}
use Rattle.recovery_cubic.specs.Fractions.{beta_denominator, beta_numerator}

sound-sent : (now bytes : ℕ) (cubic : Cubic) → IsCubicSound cubic → IsCubicSound (cubic_sent now bytes cubic)
sound-sent now bytes cubic sound =
    elim (nat_eq bytes 0) as (λ b. IsCubicSound (if b then cubic else cubic_resumed now cubic))
    [ true ↦ sound | false ↦ sound ]

sound-grown : (now bytes : ℕ) (cubic : Cubic) → IsCubicSound cubic → IsCubicSound (cubic_grown now bytes cubic)
sound-grown now bytes cubic sound =
    elim (nat_lt cubic.window cubic.ssthresh) as
    (λ b. IsCubicSound (if b then slow_started now bytes cubic else avoided now bytes cubic))
    [ true ↦ omega (arith, sound) | false ↦ omega (arith, sound) ]

sound-counting : (now bytes : ℕ) (limited : Bool) (cubic : Cubic) → IsCubicSound cubic
    → IsCubicSound (if limited then record cubic { stage = uncounted now cubic.stage }
    else cubic_grown now bytes cubic)
sound-counting now bytes true cubic sound = sound
sound-counting now bytes false cubic sound = sound-grown now bytes cubic sound

sound-acked : (now sent bytes : ℕ) (limited : Bool) (cubic : Cubic) → IsCubicSound cubic
    → IsCubicSound (cubic_acked now sent bytes limited cubic)
sound-acked now sent bytes limited cubic sound =
    elim (nat_le sent cubic.recovery_start_time) as (λ b. IsCubicSound (if b then cubic
    else if limited then record cubic { stage = uncounted now cubic.stage }
    else cubic_grown now bytes cubic))
    [ true ↦ sound | false ↦ sound-counting now bytes limited cubic sound ]

positive-window : (reduced mtu : ℕ) (persistent : Bool)
    → 0 < (if persistent then 2 * max mtu 1 else max reduced (2 * max mtu 1))
positive-window reduced mtu true = omega arith
positive-window reduced mtu false = omega arith

sound-congested : (now sent : ℕ) (persistent : Bool) (cubic : Cubic) → IsCubicSound cubic
    → IsCubicSound (cubic_congested now sent persistent cubic)
sound-congested now sent persistent cubic sound =
    elim (nat_le sent cubic.recovery_start_time) as
    (λ b. IsCubicSound (if b then cubic else cubic_recovering now persistent cubic)) [
      | true ↦ sound
      | false ↦ positive-window (cubic.window * beta_numerator / beta_denominator) cubic.current_mtu persistent
    ]

sound-after : (call : ControllerCall) (cubic : Cubic) → IsPositive call → IsCubicSound cubic
    → IsCubicSound (cubic_words.after call cubic)
sound-after (sends now bytes number) cubic positive sound = sound-sent now bytes cubic sound
sound-after (acks now sent bytes limited rtt) cubic positive sound = sound-acked now sent bytes limited cubic sound
sound-after (ends_acks now in_flight limited largest) cubic positive sound = sound
sound-after (congests now sent persistent lost) cubic positive sound = sound-congested now sent persistent cubic sound
sound-after (takes_mtu mtu) cubic positive sound = omega (arith, sound)

-- ---- the start of the recovery

start-acked : (now bytes : ℕ) (limited slow : Bool) (cubic : Cubic)
    → (if limited then record cubic { stage = uncounted now cubic.stage }
    else if slow then slow_started now bytes cubic else avoided now bytes cubic).recovery_start_time
    ≤ max cubic.recovery_start_time 0
start-acked now bytes true slow cubic = omega arith
start-acked now bytes false true cubic = omega arith
start-acked now bytes false false cubic = omega arith

start-after : (call : ControllerCall) (cubic : Cubic)
    → (cubic_words.after call cubic).recovery_start_time ≤ max cubic.recovery_start_time (congestion_time call)
start-after (sends now bytes number) cubic =
    elim (nat_eq bytes 0) as (λ b. (if b then cubic else cubic_resumed now cubic).recovery_start_time
    ≤ max cubic.recovery_start_time 0)
    [ true ↦ omega arith | false ↦ omega arith ]
start-after (acks now sent bytes limited rtt) cubic =
    elim (nat_le sent cubic.recovery_start_time) as (λ b. (if b then cubic
    else if limited then record cubic { stage = uncounted now cubic.stage }
    else cubic_grown now bytes cubic).recovery_start_time ≤ max cubic.recovery_start_time 0)
    [ true ↦ omega arith | false ↦ start-acked now bytes limited (nat_lt cubic.window cubic.ssthresh) cubic ]
start-after (congests now sent persistent lost) cubic =
    elim (nat_le sent cubic.recovery_start_time) as (λ b. (if b then cubic
    else cubic_recovering now persistent cubic).recovery_start_time ≤ max cubic.recovery_start_time now)
    [ true ↦ omega arith | false ↦ omega arith ]
start-after (ends_acks now in_flight limited largest) cubic = omega arith
start-after (takes_mtu mtu) cubic = omega arith

-- ---- the minimum window

persists : (now sent : ℕ) (cubic : Cubic) (test : Bool) → nat_le sent cubic.recovery_start_time ≡ test
    → cubic.recovery_start_time < sent
    → HasLeastWindow cubic_words (if test then cubic else cubic_recovering now true cubic)
persists now sent cubic true is later = absurd (grind (arith, nat_tests))
persists now sent cubic false is later = refl

least-recovering : (now : ℕ) (persistent : Bool) (cubic : Cubic) → HasLeastWindow cubic_words cubic
    → HasLeastWindow cubic_words (cubic_recovering now persistent cubic)
least-recovering now true cubic is = refl
least-recovering now false cubic is = omega (arith, is)

least-after : (now sent : ℕ) (persistent : Bool) (cubic : Cubic) → HasLeastWindow cubic_words cubic
    → HasLeastWindow cubic_words (cubic_congested now sent persistent cubic)
least-after now sent persistent cubic is =
    elim (nat_le sent cubic.recovery_start_time) as
    (λ b. HasLeastWindow cubic_words (if b then cubic else cubic_recovering now persistent cubic))
    [ true ↦ is | false ↦ least-recovering now persistent cubic is ]

pub cubic_laws : ControllerLaws cubic_words IsCubicSound
cubic_laws = record {
  after = sound-after;
  window = λ cubic sound. sound;
  start = start-after;
  persistent = λ now sent lost cubic. persists now sent cubic (nat_le sent cubic.recovery_start_time) refl;
  least = λ now sent persistent lost cubic. least-after now sent persistent cubic;
}
