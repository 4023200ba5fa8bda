-- Errors that follow from the history alone: for a discarded space (RFC 9002, 6.4), a packet that is not tracked (A.7),
-- a missing path (RFC 9000, 9.3), a late initial ID (7.2). Each occurs exactly if it has cause.
use Rattle.std.specs.Prelude.{◌≡◌, ◌==◌, Bool, is_some, Option, None, Some, Err, if◌then◌else◌}
use Rattle.recovery_base.specs.declared.below.SpaceId.{SpaceId}
use Rattle.recovery_base.specs.declared.below.SpaceId.TheVariants.{Data}
use Rattle.recovery_paths.specs.declared.path_pair.PathName.TheVariants.{Previous}
use Rattle.recovery_events.specs.declared.event.Event.{Event}
use Rattle.recovery_events.specs.declared.event.Event.TheVariants.{Received, Send, Acked, Lost, AckFrequencyIn, AcksSent, AckDelayTimeout, PollMtu, Ecn, CheckAck, QueueProbe, TakePending, DiscardSpace, DatagramIn, Validated, InFlight, DropPrevious, RevertPath, InitialId}
use Rattle.recovery_events.specs.declared.event.Refusal.{Refusal}
use Rattle.recovery_events.specs.declared.event.Refusal.TheVariants.{SpaceDiscarded, NotTracked, NoSuchPath, NotInitialId}
use Rattle.recovery_history.specs.History.{History, Reply}
use Rattle.recovery_history.specs.Promises.GivenIds.{active_id}
use Rattle.recovery_history.specs.Promises.NewNumbers.{is_discarded}
use Rattle.recovery_history.specs.Promises.Paths.{generation_by}
use Rattle.recovery_history.specs.Promises.Tracked.{is_tracked}

abbrev pub unless : Bool → Refusal → Option Refusal
unless fine refusal = if fine then None else Some refusal

module _ {Q S M P : Type 0} (history : History Q S M P) where
  abbrev pub in_space : SpaceId → Option Refusal → Option Refusal
  in_space space otherwise = if is_discarded space history then Some SpaceDiscarded else otherwise

  abbrev pub first_cause : Event Q S M P → Option Refusal
  first_cause (Acked space now number limited) = in_space space (unless (is_tracked space number history) NotTracked)
  first_cause (Lost space number) = in_space space (unless (is_tracked space number history) NotTracked)
  first_cause (Received space now number eliciting) = in_space space None
  first_cause (Send space now size eliciting largest queue frames) = in_space space None
  first_cause (AckFrequencyIn frame) = in_space Data None
  first_cause (AcksSent space) = in_space space None
  first_cause (AckDelayTimeout space) = in_space space None
  first_cause (PollMtu now) = in_space Data None
  first_cause (Ecn space newly counts) = in_space space None
  first_cause (CheckAck space low high) = in_space space None
  first_cause (QueueProbe space immediate streams) = in_space space None
  first_cause (TakePending space) = in_space space None
  first_cause (DiscardSpace space) = in_space space None
  first_cause (DatagramIn path bytes) = unless (is_some (generation_by path history)) NoSuchPath
  first_cause (Validated path) = unless (is_some (generation_by path history)) NoSuchPath
  first_cause (InFlight path) = unless (is_some (generation_by path history)) NoSuchPath
  first_cause DropPrevious = unless (is_some (generation_by Previous history)) NoSuchPath
  first_cause RevertPath = unless (is_some (generation_by Previous history)) NoSuchPath
  first_cause (InitialId id) = unless (active_id history == 0) NotInitialId
  first_cause event = None

  abbrev pub RejectsExactly : Event Q S M P → Reply Q → Type 0
  RejectsExactly event (Err SpaceDiscarded) = first_cause event ≡ Some SpaceDiscarded
  RejectsExactly event (Err NotTracked) = first_cause event ≡ Some NotTracked
  RejectsExactly event (Err NoSuchPath) = first_cause event ≡ Some NoSuchPath
  RejectsExactly event (Err NotInitialId) = first_cause event ≡ Some NotInitialId
  RejectsExactly event reply = first_cause event ≡ None
