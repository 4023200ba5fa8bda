-- `Send` right after a probe timeout sends items that were passed, is blocked, or fails.
use Rattle.std.proofs.Common.{◌≡◌, true, [], ◌∷◌, length, length-append, Ok, refl, arith}
use Rattle.recovery_pair.specs.declared.steps.End.{End}
use Rattle.recovery_pair.specs.declared.steps.End.TheVariants.{Client, Server}
use Rattle.recovery_pair.specs.declared.steps.PairAnswer.TheVariants.{Held, Nothing, Sent}
use Rattle.recovery_pair.specs.Logs.{same_end}
use Rattle.recovery_pair.specs.Unprobed.{ProbesUnprobed}
use Rattle.recovery_pair.proofs.FilledLaws.{here_itself}

same_itself : (end : End) → same_end end end ≡ true
same_itself Client = refl
same_itself Server = refl

pub probes_unprobed : ProbesUnprobed
probes_unprobed validated log end space n now size (Ok (Sent number items eliciting window ack)) has keeps = (
  λ none. (
      let first = has.first in
      let filled = has.filled in
      let most = keeps.probes.1 (keeps.probes.0 has.asked) none has.keys has.tracks length
      (record { none = refl; joined = length-append }) (n ∷ []) (has.flies, refl, tt) in
      omega (arith, first, filled, most)),
  λ measure adds none. (
      let zero = rw (same_itself end, here_itself space) at (keeps.passed end measure adds space none) in
      omega (arith, zero)),
)
probes_unprobed validated log end space n now size (Ok (Held held)) has keeps = keeps.probes has.asked
probes_unprobed validated log end space n now size (Ok Nothing) has keeps = keeps.probes has.asked has.keys
probes_unprobed validated log end space n now size answer has keeps = tt
