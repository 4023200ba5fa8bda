-- The retransmission queue of a space is what the history says was queued, in that order: the clause `pending` of
-- `run`.
use Rattle.std.proofs.Common.{◌≡◌, Bool, true, false, cond, List, [], ◌∷◌, ◌++◌, Option, None, Some, Ok, Err, option_map, refl, ap, ◌∙◌, arith}
use Rattle.std.specs.Prelude.{option_to_list}
use Rattle.recovery_base.specs.declared.below.SpaceId.{SpaceId}
use Rattle.recovery_base.specs.Spaces.{same_space}
use Rattle.recovery_spaces.specs.Packets.{Packet}
use Rattle.recovery_spaces.specs.Queued.{joined_with, queued_by}
use Rattle.recovery_spaces.specs.SpaceLog.{SpaceEntry, loses, probes, takes_pending, emptied}
use Rattle.recovery_events.specs.declared.event.Event.{Event}
use Rattle.recovery_events.specs.declared.event.Event.TheVariants.{Lost, QueueProbe, TakePending, DiscardSpace}
use Rattle.recovery_events.specs.declared.event.Answer.TheVariants.{Queue}
use Rattle.recovery_history.specs.Entries.{found_in}
use Rattle.recovery_history.specs.RepliesAfter.{logs_of, inputs_after, RepliesAfter}
use Rattle.recovery_history.specs.History.{Beginning, History, Reply}
use Rattle.recovery_history.specs.Logs.{onto}
use Rattle.recovery_history.specs.Promises.Pending.{joined_all, waiting, HandsOutInOrder}
use Rattle.recovery_history.proofs.EntryKinds.{SpaceKind, losing, probing, taking, emptying, space_kind, space_kept}
use Rattle.recovery_history.proofs.TrackedLaws.{one_space}

-- the queue is unchanged
abbrev waits_on : SpaceKind → Bool
waits_on losing = false
waits_on probing = false
waits_on taking = false
waits_on emptying = false
waits_on kind = true

module _ {F K Q S M P : Type 0} (beginning : Beginning F K Q S M P) where
  abbrev waits : List (SpaceEntry P M) → P
  waits log = (queued_by beginning.queue.words log).pending

  -- the contents of a packet are appended to those that wait
  comes : (packet : Option (Packet P M)) (pending : P) (before : List P) → pending ≡ joined_all beginning before
      → joined_with beginning.queue.words pending packet
      ≡ joined_all beginning (option_to_list (option_map (λ packet. packet.retransmits) packet) ++ before)
  comes None pending before is = is
  comes (Some packet) pending before is = ap (λ waits. beginning.queue.words.joined waits packet.retransmits) is

  module _ (earlier : History Q S M P) (space : SpaceId)
      (same : waits ((logs_of beginning earlier).spaces space) ≡ joined_all beginning (waiting beginning space earlier))
    where
      abbrev log : SpaceId → List (SpaceEntry P M)
      log = (logs_of beginning earlier).spaces

      -- in this space, or in another one
      here : (b : Bool) (entry : SpaceEntry P M) (after : List P)
          → (b ≡ true → waits (entry ∷ log space) ≡ joined_all beginning after)
          → waits (onto (cond b (Some entry) None) (log space))
          ≡ joined_all beginning (cond b after (waiting beginning space earlier))
      here true entry after is = is refl
      here false entry after is = same

      -- what adds and removes nothing leaves them unchanged
      stays : (entry : SpaceEntry P M) → waits_on (space_kind entry) ≡ true
          → waits (entry ∷ log space) ≡ joined_all beginning (waiting beginning space earlier)
      stays entry none = grind (arith, none, same)

  same_waits : (history : History Q S M P) (space : SpaceId)
      → waits ((logs_of beginning history).spaces space) ≡ joined_all beginning (waiting beginning space history)
  same_waits [] space = refl
  same_waits ((Lost there number, Ok answer) ∷ earlier) space =
      let same = same_waits earlier space in
      here earlier space same (same_space there space) (loses number) _ (λ at. comes _ _ _ same)
  same_waits ((QueueProbe there immediate streams, Ok answer) ∷ earlier) space =
      let same = same_waits earlier space in
      here earlier space same (same_space there space)
      (probes immediate (found_in (inputs_after beginning earlier) beginning.queue.words streams there)) _
      (λ at. rw (one_space there space at) (comes _ _ _ same))
  same_waits ((TakePending there, Ok answer) ∷ earlier) space =
      here earlier space (same_waits earlier space) (same_space there space) takes_pending [] (λ at. refl)
  same_waits ((DiscardSpace there, Ok answer) ∷ earlier) space =
      here earlier space (same_waits earlier space) (same_space there space) emptied [] (λ at. refl)
  same_waits ((event, Ok answer) ∷ earlier) space =
      let same = same_waits earlier space in
      space_kept beginning.queue (inputs_after beginning earlier) space
      (λ entry. waits (onto entry ((logs_of beginning earlier).spaces space))
      ≡ joined_all beginning (waiting beginning space earlier)) waits_on same
      (stays earlier space same) event (Ok answer) refl
  same_waits ((Lost there number, Err refusal) ∷ earlier) space = same_waits earlier space
  same_waits ((QueueProbe there immediate streams, Err refusal) ∷ earlier) space = same_waits earlier space
  same_waits ((TakePending there, Err refusal) ∷ earlier) space = same_waits earlier space
  same_waits ((DiscardSpace there, Err refusal) ∷ earlier) space = same_waits earlier space
  same_waits ((event, Err refusal) ∷ earlier) space = same_waits earlier space

  pub hands_out : (before : History Q S M P) (event : Event Q S M P) (reply : Reply Q)
      → RepliesAfter beginning before event reply → HandsOutInOrder beginning before event reply
  hands_out before (TakePending space) (Ok (Queue queue)) told = told.1 ∙ same_waits before space
  hands_out before event reply told = tt
