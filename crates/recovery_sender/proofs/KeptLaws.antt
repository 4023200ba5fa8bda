-- The events of an ACK frame leave the sender's variables unchanged.
use Rattle.std.proofs.Common.{◌≡◌, ℕ, true, false, Bool, Option, None, Some, ◌∙◌}
use Rattle.recovery_base.specs.declared.below.SpaceId.{SpaceId}
use Rattle.recovery_base.specs.declared.below.frames.EcnCounts.{EcnCounts}
use Rattle.recovery_sender.specs.declared.sender.acks.EcnOutcome.{EcnOutcome}
use Rattle.recovery_sender.specs.declared.sender.acks.EcnOutcome.TheVariants.{Quiet, Marked, Failed}
use Rattle.recovery_sender.specs.declared.sender.Sender.{Sender}
use Rattle.recovery_sender.specs.Acking.{EcnCompared, EcnResult, SamplesRtt}

module _ {F Q R C K S M P : Type 0} {f : _} {c : _} {q : _} {m : _} {r : _} (space : SpaceId)
    (old new : Sender F Q R C K S M P f c q m r) where
  pub sample_keeps : (delay : ℕ) (rtt : Option ℕ) → SamplesRtt space delay old new rtt → new.variables ≡ old.variables
  sample_keeps delay None goes = goes.variables
  sample_keeps delay (Some rtt) samples = samples.2.variables ∙ samples.1.variables

  module _ (now newly : ℕ) (sent : Option ℕ) where
    compared_keeps : (counts : EcnCounts) (end : EcnOutcome) → EcnCompared space now newly sent old new counts end
        → new.variables ≡ old.variables
    compared_keeps counts Quiet compares = compares.2.variables
    compared_keeps counts Marked (answer, between, is, tells, congests) = congests.variables ∙ tells.variables
    compared_keeps counts Failed (between, refusal, tells, stops) = stops.variables ∙ tells.variables

    pub ecn_keeps : (sending : Bool) (counts : Option EcnCounts) (raised : Bool) (end : EcnOutcome)
        → EcnResult space now newly sent old new sending counts raised end → new.variables ≡ old.variables
    ecn_keeps false counts raised end comes = comes.1.variables
    ecn_keeps true counts false end comes = comes.1.variables
    ecn_keeps true None true end comes = comes.1.variables
    ecn_keeps true (Some counts) true end comes = compared_keeps counts end comes
