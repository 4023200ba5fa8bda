-- The congestion controllers that a setting chooses between: each call is that of the chosen one.
use Rattle.std.specs.Prelude.{◌≡◌, ℕ, ◌<◌, ◌≤◌, max, Bool, true, None, refl}
use Rattle.std.proofs.Common.{zero-le}
use Rattle.std.proofs.Math.Nat.{le_refl}
use Rattle.recovery_congestion.specs.Calls.{ControllerCall, congests, IsPositive, congestion_time}
use Rattle.recovery_congestion.specs.Controllers.{ControllerSemantics, ControllerLaws, HasLeastWindow}
use Rattle.recovery_congestion.specs.NewReno.{reno_made, reno_words, IsRenoSound}
use Rattle.recovery_congestion.specs.RenoLaws.{reno_laws}
use Rattle.recovery_congestion.specs.declared.congestion.ControllerMetrics.{ControllerMetrics}
use Rattle.recovery_cubic.specs.Cubic.{cubic_made, cubic_words, IsCubicSound}
use Rattle.recovery_cubic.specs.CubicLaws.{cubic_laws}
use Rattle.recovery_engine.specs.declared.controllers.Chosen.{Chosen}
use Rattle.recovery_engine.specs.declared.controllers.Chosen.TheVariants.{Reno, Fixed, Cubic}
use Rattle.recovery_engine.specs.declared.controllers.ChosenConfig.{ChosenConfig}
use Rattle.recovery_engine.specs.declared.controllers.ChosenConfig.TheVariants as config

abbrev pub chosen_made : ChosenConfig → ℕ → ℕ → Chosen
chosen_made (config.Reno settings) now mtu = Reno (reno_made settings now mtu)
chosen_made (config.Fixed window) now mtu = Fixed window
chosen_made (config.Cubic window) now mtu = Cubic (cubic_made window now mtu)

-- a fixed window never changes
abbrev pub chosen_after : ControllerCall → Chosen → Chosen
chosen_after call (Reno reno) = Reno (reno_words.after call reno)
chosen_after call (Fixed window) = Fixed window
chosen_after call (Cubic cubic) = Cubic (cubic_words.after call cubic)

abbrev pub window_of : Chosen → ℕ
window_of (Reno reno) = reno_words.window reno
window_of (Fixed window) = window
window_of (Cubic cubic) = cubic_words.window cubic

abbrev pub least_window_of : Chosen → ℕ
least_window_of (Reno reno) = reno_words.least reno
least_window_of (Fixed window) = window
least_window_of (Cubic cubic) = cubic_words.least cubic

abbrev pub recovery_start_of : Chosen → ℕ
recovery_start_of (Reno reno) = reno_words.recovery_start reno
recovery_start_of (Fixed window) = 0
recovery_start_of (Cubic cubic) = cubic_words.recovery_start cubic

abbrev pub metrics_of : Chosen → ControllerMetrics
metrics_of (Reno reno) = reno_words.metrics reno
metrics_of (Fixed window) = record { congestion_window = window; ssthresh = None; pacing_rate = None }
metrics_of (Cubic cubic) = cubic_words.metrics cubic

abbrev pub initial_of : Chosen → ℕ
initial_of (Reno reno) = reno_words.initial reno
initial_of (Fixed window) = window
initial_of (Cubic cubic) = cubic_words.initial cubic

abbrev pub chosen_words : ControllerSemantics Chosen
chosen_words = record {
  after = chosen_after;
  window = window_of;
  least = least_window_of;
  recovery_start = recovery_start_of;
  metrics = metrics_of;
  initial = initial_of;
}

abbrev pub IsChosenSound : Chosen → Type 0
IsChosenSound (Reno reno) = IsRenoSound reno
IsChosenSound (Fixed window) = 0 < window
IsChosenSound (Cubic cubic) = IsCubicSound cubic

kept : (call : ControllerCall) (chosen : Chosen) → IsPositive call → IsChosenSound chosen
    → IsChosenSound (chosen_after call chosen)
kept call (Reno reno) positive sound = reno_laws.after call reno positive sound
kept call (Fixed window) positive sound = sound
kept call (Cubic cubic) positive sound = cubic_laws.after call cubic positive sound

positive : (chosen : Chosen) → IsChosenSound chosen → 0 < window_of chosen
positive (Reno reno) sound = reno_laws.window reno sound
positive (Fixed window) sound = sound
positive (Cubic cubic) sound = cubic_laws.window cubic sound

start : (call : ControllerCall) (chosen : Chosen)
    → recovery_start_of (chosen_after call chosen) ≤ max (recovery_start_of chosen) (congestion_time call)
start call (Reno reno) = reno_laws.start call reno
start call (Fixed window) = zero-le
start call (Cubic cubic) = cubic_laws.start call cubic

persists : (now sent lost : ℕ) (chosen : Chosen) → recovery_start_of chosen < sent
    → HasLeastWindow chosen_words (chosen_after (congests now sent true lost) chosen)
persists now sent lost (Reno reno) later = reno_laws.persistent now sent lost reno later
persists now sent lost (Fixed window) later = refl
persists now sent lost (Cubic cubic) later = cubic_laws.persistent now sent lost cubic later

least-kept : (now sent : ℕ) (persistent : Bool) (lost : ℕ) (chosen : Chosen) → HasLeastWindow chosen_words chosen
    → HasLeastWindow chosen_words (chosen_after (congests now sent persistent lost) chosen)
least-kept now sent persistent lost (Reno reno) is = reno_laws.least now sent persistent lost reno is
least-kept now sent persistent lost (Fixed window) is = refl
least-kept now sent persistent lost (Cubic cubic) is = cubic_laws.least now sent persistent lost cubic is

pub chosen_laws : ControllerLaws chosen_words IsChosenSound
chosen_laws = record { after = kept; window = positive; start = start; persistent = persists; least = least-kept }

pub chosen_starts_by_now : (factory : ChosenConfig) (now mtu : ℕ)
    → recovery_start_of (chosen_made factory now mtu) ≤ now
chosen_starts_by_now (config.Reno settings) now mtu = le_refl now
chosen_starts_by_now (config.Fixed window) now mtu = zero-le
chosen_starts_by_now (config.Cubic window) now mtu = le_refl now

pub chosen_starts : (factory : ChosenConfig) (now mtu : ℕ)
    → window_of (chosen_made factory now mtu) ≡ initial_of (chosen_made factory now mtu)
chosen_starts (config.Reno settings) now mtu = refl
chosen_starts (config.Fixed window) now mtu = refl
chosen_starts (config.Cubic window) now mtu = refl
