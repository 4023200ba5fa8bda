-- A window that congestion events halve, down to two MTUs, and that nothing else changes (RFC 9002, 7.2 and 7.3.2).
-- Persistent congestion leaves two MTUs (RFC 9002, 7.6.2). There are no recoveries.
use Rattle.std.specs.Prelude.{ℕ, ◌*◌, ◌/◌, ◌<◌, max, None, Bool, true, false, if◌then◌else◌}
use Rattle.std.proofs.Common.{arith, refl, zero-le}
use Rattle.recovery_congestion.specs.Calls.{ControllerCall, congests, takes_mtu, IsPositive}
use Rattle.recovery_congestion.specs.Controllers.{ControllerSemantics, ControllerLaws, HasLeastWindow}
use Rattle.recovery_parts_tests.specs.declared.halving.Halving.{Halving}

abbrev pub halving_made : ℕ → ℕ → Halving
halving_made initial mtu = record { initial = initial; window = initial; current_mtu = mtu }

abbrev pub two_mtus : Halving → ℕ
two_mtus halving = 2 * halving.current_mtu

abbrev pub halved : Bool → Halving → Halving
halved persistent halving = record halving {
  window = if persistent then two_mtus halving else max (halving.window / 2) (two_mtus halving);
}

abbrev pub IsHalvingSound : Halving → Type 0
IsHalvingSound halving = (0 < halving.window) × (0 < halving.current_mtu)

abbrev pub halving_after : ControllerCall → Halving → Halving
halving_after (congests now sent persistent lost) halving = halved persistent halving
halving_after (takes_mtu mtu) halving = record halving { current_mtu = mtu }
halving_after call halving = halving

abbrev pub halving_words : ControllerSemantics Halving
halving_words = record {
  after = halving_after;
  window = λ halving. halving.window;
  least = two_mtus;
  recovery_start = λ halving. 0;
  metrics = λ halving. record { congestion_window = halving.window; ssthresh = None; pacing_rate = None };
  initial = λ halving. halving.initial;
}

sound-after : (call : ControllerCall) (halving : Halving) → IsPositive call → IsHalvingSound halving
    → IsHalvingSound (halving_after call halving)
sound-after (congests now sent true lost) halving positive sound = (omega (arith, sound.1), sound.1)
sound-after (congests now sent false lost) halving positive sound = (omega (arith, sound.1), sound.1)
sound-after (takes_mtu mtu) halving positive sound = (sound.0, positive)
sound-after call halving positive sound = sound

least-halved : (persistent : Bool) (halving : Halving) → HasLeastWindow halving_words halving
    → HasLeastWindow halving_words (halved persistent halving)
least-halved true halving is = refl
least-halved false halving is = omega (arith, is)

pub halving_laws : ControllerLaws halving_words IsHalvingSound
halving_laws = record {
  after = sound-after;
  window = λ halving sound. sound.0;
  start = λ call halving. zero-le;
  persistent = λ now sent lost halving later. refl;
  least = λ now sent persistent lost halving. least-halved persistent halving;
}
