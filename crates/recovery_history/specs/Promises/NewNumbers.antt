-- New packet numbers (RFC 9000, 12.3): a packet is processed once. Its number is new if it exceeds all received in its
-- space, or is none of them and not too old.
use Rattle.std.specs.Prelude.{◌≡◌, ℕ, ◌+◌, Bool, true, false, not, ◌&&◌, ◌||◌, nat_eq, nat_lt, nat_le, List, [], ◌∷◌, Ok, Err, if◌then◌else◌}
use Rattle.std.specs.List.{list_all}
use Rattle.std.specs.Set.{is_member}
use Rattle.recovery_base.specs.declared.below.SpaceId.{SpaceId}
use Rattle.recovery_base.specs.Numbers.{most_below}
use Rattle.recovery_base.specs.Spaces.{same_space}
use Rattle.recovery_base.specs.Units.{number_limit}
use Rattle.recovery_events.specs.declared.event.Event.{Event}
use Rattle.recovery_events.specs.declared.event.Event.TheVariants.{Received, DiscardSpace}
use Rattle.recovery_events.specs.declared.event.Answer.TheVariants.{New, Duplicate}
use Rattle.recovery_events.specs.declared.event.Refusal.TheVariants.{SpaceDiscarded, NumberTooLarge, NoMemory}
use Rattle.recovery_history.specs.History.{History, Reply}

-- it exceeds every number received, or is none of them and at most 128 (`most_below`) below each
abbrev pub is_new : List ℕ → ℕ → Bool
is_new came n = list_all (λ m. nat_lt m n) came
    || (not (is_member nat_eq came n) && list_all (λ m. nat_le m (n + most_below)) came)

-- the reply to a packet: whether its space was discarded, its number is too large, and it is new
abbrev pub IsReceiveReply : {Q : Type 0} → Bool → Bool → Bool → Reply Q → Type 0
IsReceiveReply true too_large new reply = reply ≡ Err SpaceDiscarded
IsReceiveReply false true new reply = reply ≡ Err NumberTooLarge
IsReceiveReply false false new (Ok (New arm)) = new ≡ true
IsReceiveReply false false new (Ok Duplicate) = new ≡ false
IsReceiveReply false false new (Err NoMemory) = new ≡ true
IsReceiveReply false false new other = ⊥

module _ {Q S M P : Type 0} where
  -- the numbers received in a space
  abbrev pub came_in : SpaceId → History Q S M P → List ℕ
  came_in space [] = []
  came_in space ((Received there now number eliciting, Ok answer) ∷ earlier) =
      if same_space there space then number ∷ came_in space earlier else came_in space earlier
  came_in space (happened ∷ earlier) = came_in space earlier

  -- the keys of a space were dropped
  abbrev pub is_discarded : SpaceId → History Q S M P → Bool
  is_discarded space [] = false
  is_discarded space ((DiscardSpace there, Ok answer) ∷ earlier) = same_space there space || is_discarded space earlier
  is_discarded space (happened ∷ earlier) = is_discarded space earlier

  abbrev pub DetectsDuplicates : History Q S M P → Event Q S M P → Reply Q → Type 0
  DetectsDuplicates history (Received space now number eliciting) reply =
      IsReceiveReply (is_discarded space history) (nat_le number_limit number)
      (is_new (came_in space history) number) reply
  DetectsDuplicates history event reply = Unit {0}
