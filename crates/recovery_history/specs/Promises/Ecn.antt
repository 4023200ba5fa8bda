-- ECN counts (RFC 9000, 13.4.2.1): those of an ACK frame are compared with the last ones of its space that were
-- accepted. They are rejected exactly if they fail the check, with the text of the first fault. Else the answer states
-- whether more packets were marked with ECN-CE.
use Rattle.std.specs.Prelude.{◌≡◌, nat_lt, [], ◌∷◌, None, Some, Ok, Err, if◌then◌else◌}
use Rattle.recovery_base.specs.declared.below.SpaceId.{SpaceId}
use Rattle.recovery_base.specs.declared.below.frames.EcnCounts.{EcnCounts}
use Rattle.recovery_base.specs.Ecn.{ecn_fault}
use Rattle.recovery_base.specs.Spaces.{same_space}
use Rattle.recovery_spaces.specs.Queued.{no_ecn}
use Rattle.recovery_events.specs.declared.event.Event.{Event}
use Rattle.recovery_events.specs.declared.event.Event.TheVariants.{Ecn}
use Rattle.recovery_events.specs.declared.event.Answer.TheVariants.{Flag}
use Rattle.recovery_events.specs.declared.event.Refusal.TheVariants as refusal
use Rattle.recovery_events.specs.declared.event.Refusal.TheVariants.{SpaceDiscarded}
use Rattle.recovery_history.specs.History.{History, Reply}

module _ {Q S M P : Type 0} where
  abbrev pub last_counts : SpaceId → History Q S M P → EcnCounts
  last_counts space [] = no_ecn
  last_counts space ((Ecn there newly counts, Ok answer) ∷ earlier) =
      if same_space there space then counts else last_counts space earlier
  last_counts space (happened ∷ earlier) = last_counts space earlier

  -- for discarded spaces see `rejections`
  abbrev pub ChecksEcn : History Q S M P → Event Q S M P → Reply Q → Type 0
  ChecksEcn history (Ecn space newly counts) (Ok given) =
      let last = last_counts space history in
      (ecn_fault last newly counts ≡ None) × (given ≡ Flag (nat_lt last.ce counts.ce))
  ChecksEcn history (Ecn space newly counts) (Err (refusal.Ecn text)) =
      ecn_fault (last_counts space history) newly counts ≡ Some text.now
  ChecksEcn history (Ecn space newly counts) (Err SpaceDiscarded) = Unit {0}
  ChecksEcn history (Ecn space newly counts) (Err other) = ⊥
  ChecksEcn history event reply = Unit {0}
