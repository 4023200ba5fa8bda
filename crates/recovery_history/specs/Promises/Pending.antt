-- The retransmission queue is returned in its order (RFC 9000, 13.3). It has the contents of packets that were lost, or
-- found by a probe, since it was last returned, joined in the order of these events. `Table.antt` defines what a packet
-- carries, and which one a probe finds.
use Rattle.std.specs.Prelude.{◌≡◌, ℕ, List, [], ◌∷◌, ◌++◌, Option, Some, option_map, option_to_list, Ok, if◌then◌else◌}
use Rattle.std.specs.Option.{option_and_then}
use Rattle.recovery_base.specs.declared.below.SpaceId.{SpaceId}
use Rattle.recovery_base.specs.Spaces.{same_space}
use Rattle.recovery_spaces.specs.Packets.{packet_at}
use Rattle.recovery_events.specs.declared.event.Event.{Event}
use Rattle.recovery_events.specs.declared.event.Event.TheVariants.{Lost, QueueProbe, TakePending, DiscardSpace}
use Rattle.recovery_events.specs.declared.event.Answer.TheVariants.{Queue}
use Rattle.recovery_history.specs.Entries.{found_in}
use Rattle.recovery_history.specs.History.{Beginning, History, Reply}
use Rattle.recovery_history.specs.ReplyInputs.{tracked_known}
use Rattle.recovery_history.specs.RepliesAfter.{inputs_after}

module _ {F K Q S M P : Type 0} (run : Beginning F K Q S M P) where
  -- these contents, joined; the newest are first in the list
  abbrev pub joined_all : List P → P
  joined_all [] = run.queue.words.empty
  joined_all (newest ∷ before) = run.queue.words.joined (joined_all before) newest

  module _ (space : SpaceId) where
    -- the contents of the packet of a number, if it is tracked, by `Table.antt`
    abbrev pub carried : Option ℕ → History Q S M P → List P
    carried n history = option_to_list (option_map (λ packet. packet.retransmits)
        (option_and_then (packet_at (tracked_known (inputs_after run history) space)) n))

    -- the packet whose contents a probe retransmits, if any, by `Table.antt`
    abbrev pub found : S → History Q S M P → Option ℕ
    found streams history = (found_in (inputs_after run history) run.queue.words streams space).moved

    -- what was queued since the queue was last returned, the newest first
    abbrev pub waiting : History Q S M P → List P
    waiting [] = []
    waiting ((Lost there n, Ok answer) ∷ earlier) =
        if same_space there space then carried (Some n) earlier ++ waiting earlier else waiting earlier
    waiting ((QueueProbe there immediate streams, Ok answer) ∷ earlier) =
        if same_space there space then carried (found streams earlier) earlier ++ waiting earlier else waiting earlier
    waiting ((TakePending there, Ok answer) ∷ earlier) = if same_space there space then [] else waiting earlier
    waiting ((DiscardSpace there, Ok answer) ∷ earlier) = if same_space there space then [] else waiting earlier
    waiting (happened ∷ earlier) = waiting earlier

  abbrev pub HandsOutInOrder : History Q S M P → Event Q S M P → Reply Q → Type 0
  HandsOutInOrder history (TakePending space) (Ok (Queue queue)) =
      run.queue.contents queue ≡ joined_all (waiting space history)
  HandsOutInOrder history event reply = Unit {0}
