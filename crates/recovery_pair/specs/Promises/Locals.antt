-- A step without the network has an answer of its kind: items are accepted, the loss detection timer is handled, and
-- only the ACK delay timer may have nothing to do. An endpoint that ignores a step breaks this.
use Rattle.std.specs.Prelude.{Ok}
use Rattle.recovery_pair.specs.declared.steps.LocalStep.{LocalStep}
use Rattle.recovery_pair.specs.declared.steps.LocalStep.TheVariants.{Expire, Late}
use Rattle.recovery_pair.specs.declared.steps.PairAnswer.{PairAnswer}
use Rattle.recovery_pair.specs.declared.steps.PairAnswer.TheVariants.{Done, Expired, Nothing}
use Rattle.recovery_pair.specs.declared.steps.PairStep.TheVariants.{Local}
use Rattle.recovery_pair.specs.Logs.{PairEvent}

abbrev pub IsDone : PairAnswer → Type 0
IsDone Done = Unit {0}
IsDone answer = ⊥

abbrev pub IsDoneOrNothing : PairAnswer → Type 0
IsDoneOrNothing Done = Unit {0}
IsDoneOrNothing Nothing = Unit {0}
IsDoneOrNothing answer = ⊥

abbrev pub IsExpired : PairAnswer → Type 0
IsExpired (Expired timeout) = Unit {0}
IsExpired answer = ⊥

abbrev pub IsLocalAnswer : LocalStep → PairAnswer → Type 0
IsLocalAnswer (Expire now) answer = IsExpired answer
IsLocalAnswer (Late now) answer = IsDoneOrNothing answer
IsLocalAnswer step answer = IsDone answer

abbrev pub AnswersLocally : PairEvent → Type 0
AnswersLocally (Local end step, Ok answer) = IsLocalAnswer step answer
AnswersLocally event = Unit {0}
