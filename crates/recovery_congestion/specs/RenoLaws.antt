-- NewReno (RFC 9002, 7.3) satisfies the laws of controllers.
use Rattle.std.specs.Prelude.{ℕ, ◌-◌, ◌*◌, ◌/◌, ◌<◌, min, max, Bool, true, false, nat_le, nat_lt, if◌then◌else◌, ◌≡◌, ◌≤◌}
use Rattle.std.proofs.Common.{arith, refl}
use Rattle.recovery_base.specs.Units.{largest_u64}
use Rattle.recovery_congestion.specs.declared.congestion.new_reno.NewReno.{NewReno}
use Rattle.recovery_congestion.specs.Calls.{ControllerCall, acks, congests, takes_mtu, IsPositive, ends_acks, sends, congestion_time}
use Rattle.recovery_congestion.specs.Controllers.{ControllerLaws, HasLeastWindow}
use Rattle.recovery_congestion.specs.NewReno.{sum_to_most, is_ignored, slow_started, avoided, reno_grown, reno_acked, reno_recovering, reno_congested, IsRenoSound, reno_words, minimum_window}
use Rattle.std.proofs.Math.Nat.{div-le_of_le-mul, mul-le-mul_left}
use Rattle.std.proofs.lemmas.Bool.Decides.{nat_tests}

sound-avoided : (counted : ℕ) (reno : NewReno) → IsRenoSound reno → IsRenoSound (avoided counted reno)
sound-avoided counted reno sound =
    elim (nat_le reno.window counted) as (λ b. IsRenoSound (if b
    then record reno { window = sum_to_most reno.window reno.current_mtu; bytes_acked = counted - reno.window }
    else record reno { bytes_acked = counted })) [ true ↦ (omega (arith, sound.0), sound.1) | false ↦ sound ]

sound-grown : (bytes : ℕ) (reno : NewReno) → IsRenoSound reno → IsRenoSound (reno_grown bytes reno)
sound-grown bytes reno sound =
    elim (nat_lt reno.window reno.ssthresh) as
    (λ b. IsRenoSound (if b then slow_started bytes reno else avoided (sum_to_most reno.bytes_acked bytes) reno))
    [ true ↦ (omega (arith, sound.0), sound.1) | false ↦ sound-avoided (sum_to_most reno.bytes_acked bytes) reno sound ]

sound-acked : (sent bytes : ℕ) (limited : Bool) (reno : NewReno) → IsRenoSound reno
    → IsRenoSound (reno_acked sent bytes limited reno)
sound-acked sent bytes limited reno sound =
    elim (is_ignored sent limited reno) as (λ b. IsRenoSound (if b then reno else reno_grown bytes reno))
    [ true ↦ sound | false ↦ sound-grown bytes reno sound ]

reduced-positive : (reduced mtu : ℕ) (persistent : Bool) → 0 < mtu
    → 0 < (if persistent then 2 * mtu else max (min reduced largest_u64) (2 * mtu))
reduced-positive reduced mtu true positive = omega (arith, positive)
reduced-positive reduced mtu false positive = omega (arith, positive)

sound-congested : (now sent : ℕ) (persistent : Bool) (reno : NewReno) → IsRenoSound reno
    → IsRenoSound (reno_congested now sent persistent reno)
sound-congested now sent persistent reno sound =
    elim (nat_le sent reno.recovery_start_time) as
    (λ b. IsRenoSound (if b then reno else reno_recovering now persistent reno)) [
      | true ↦ sound
      | false ↦ (
        reduced-positive (reno.window * reno.config.numerator / reno.config.denominator)
            reno.current_mtu persistent sound.1,
        sound.1,
      )
    ]

sound-after : (call : ControllerCall) (reno : NewReno) → IsPositive call → IsRenoSound reno
    → IsRenoSound (reno_words.after call reno)
sound-after (acks now sent bytes limited rtt) reno positive sound = sound-acked sent bytes limited reno sound
sound-after (congests now sent persistent lost) reno positive sound = sound-congested now sent persistent reno sound
sound-after (takes_mtu mtu) reno positive sound = (omega (arith, sound.0), positive)
sound-after call reno positive sound = sound

-- ---- the start of the recovery

same-start-grown : (bytes : ℕ) (reno : NewReno)
    → (reno_grown bytes reno).recovery_start_time ≡ reno.recovery_start_time
same-start-grown bytes reno =
    let counted = sum_to_most reno.bytes_acked bytes in
    let start = reno.recovery_start_time in
    elim (nat_lt reno.window reno.ssthresh) as
    (λ b. (if b then slow_started bytes reno else avoided counted reno).recovery_start_time ≡ start) [
      | true ↦ refl
      | false ↦
          elim (nat_le reno.window counted) as (λ b. (if b
          then record reno { window = sum_to_most reno.window reno.current_mtu; bytes_acked = counted - reno.window }
          else record reno { bytes_acked = counted }).recovery_start_time ≡ start)
          [ true ↦ refl | false ↦ refl ]
    ]

start-after : (call : ControllerCall) (reno : NewReno)
    → (reno_words.after call reno).recovery_start_time ≤ max reno.recovery_start_time (congestion_time call)
start-after (acks now sent bytes limited rtt) reno =
    elim (is_ignored sent limited reno) as
    (λ b. (if b then reno else reno_grown bytes reno).recovery_start_time ≤ max reno.recovery_start_time 0)
    [ true ↦ omega arith | false ↦ omega (arith, same-start-grown bytes reno) ]
start-after (congests now sent persistent lost) reno =
    elim (nat_le sent reno.recovery_start_time) as (λ b. (if b then reno
    else reno_recovering now persistent reno).recovery_start_time ≤ max reno.recovery_start_time now)
    [ true ↦ omega arith | false ↦ omega arith ]
start-after (takes_mtu mtu) reno = omega arith
start-after (sends now bytes number) reno = omega arith
start-after (ends_acks now in_flight limited largest) reno = omega arith

-- ---- the minimum window

persists : (now sent : ℕ) (reno : NewReno) (test : Bool) → nat_le sent reno.recovery_start_time ≡ test
    → reno.recovery_start_time < sent
    → HasLeastWindow reno_words (if test then reno else reno_recovering now true reno)
persists now sent reno true is later = absurd (grind (arith, nat_tests))
persists now sent reno false is later =
    elim (nat_le reno.config.numerator reno.config.denominator) as
    (λ b. minimum_window reno ≡ (if b then minimum_window reno else minimum_window reno))
    [ true ↦ refl | false ↦ refl ]

-- a factor of at most 1 does not reduce it further, or raise it
reduced-least : (window mtu numerator denominator : ℕ) → numerator ≤ denominator → window ≡ 2 * mtu
    → max (min (window * numerator / denominator) largest_u64) (2 * mtu) ≡ 2 * mtu
reduced-least window mtu numerator denominator small is =
    let all : window * numerator ≤ denominator * window = omega (arith, mul-le-mul_left window small) in
    let low : window * numerator / denominator ≤ window = div-le_of_le-mul denominator all in
    omega (arith, low, is)

least-window : (now : ℕ) (persistent : Bool) (reno : NewReno) (test : Bool)
    → nat_le reno.config.numerator reno.config.denominator ≡ test
    → reno.window ≡ (if test then minimum_window reno else reno.window)
    → let new = reno_recovering now persistent reno in
    new.window ≡ (if test then minimum_window new else new.window)
least-window now true reno true test is = refl
least-window now false reno true test is =
    reduced-least reno.window reno.current_mtu reno.config.numerator reno.config.denominator
    (grind (arith, nat_tests)) is
least-window now persistent reno false test is = refl

least-after : (now sent : ℕ) (persistent : Bool) (reno : NewReno) → HasLeastWindow reno_words reno
    → HasLeastWindow reno_words (reno_congested now sent persistent reno)
least-after now sent persistent reno is =
    elim (nat_le sent reno.recovery_start_time) as
    (λ b. HasLeastWindow reno_words (if b then reno else reno_recovering now persistent reno)) [
      | true ↦ is
      | false ↦
          least-window now persistent reno (nat_le reno.config.numerator reno.config.denominator) refl is
    ]

pub reno_laws : ControllerLaws reno_words IsRenoSound
reno_laws = record {
  after = sound-after;
  window = λ reno sound. sound.0;
  start = start-after;
  persistent = λ now sent lost reno. persists now sent reno (nat_le sent reno.recovery_start_time) refl;
  least = λ now sent persistent lost reno. least-after now sent persistent reno;
}
