-- Nothing is lost or duplicated (RFC 9000, 13.3): by each measure that adds up, what was sent is still held, or gone.
use Rattle.std.specs.Prelude.{◌≡◌, ℕ, [], ◌∷◌, Option, None, Some, Ok, if◌then◌else◌}
use Rattle.recovery_base.specs.declared.below.SpaceId.{SpaceId}
use Rattle.recovery_base.specs.Spaces.{same_space}
use Rattle.recovery_spaces.specs.Packets.{Packets, contents_or, packet_at}
use Rattle.recovery_events.specs.declared.event.Event.TheVariants.{Send, Acked, TakePending, DiscardSpace}
use Rattle.recovery_events.specs.declared.event.Answer.TheVariants.{Sent, Queue}
use Rattle.recovery_history.specs.RepliesAfter.{inputs_after}
use Rattle.recovery_history.specs.History.{Beginning, History}
use Rattle.recovery_history.specs.ReplyInputs.{SpaceReplyInputs}
use Rattle.recovery_history.specs.Promises.Measures.{AddsUp, Totals}

module _ {F K Q S M P T : Type 0} (run : Beginning F K Q S M P) (totals : Totals T) (measure : P → T) (space : SpaceId)
  where
    abbrev known : History Q S M P → SpaceReplyInputs P M
    known history = (inputs_after run history).spaces space

    -- the contents of the packet of a number, if any
    abbrev pub carried : Option ℕ → History Q S M P → T
    carried None history = totals.zero
    carried (Some n) history = measure (contents_or run.queue.words.empty (packet_at (known history).sent.tracked n))

    -- the contents of all packets, and with the retransmission queue, both by `Table.antt`
    abbrev pub all : Packets P M → T
    all [] = totals.zero
    all (sent ∷ packets) = totals.plus (measure sent.1.retransmits) (all packets)

    abbrev pub held : History Q S M P → T
    held history = totals.plus (all (known history).sent.tracked) (measure (known history).queued.pending)

    -- what is sent, and what is gone, by each event in the space
    abbrev pub in_it : SpaceId → T → T
    in_it there n = if same_space there space then n else totals.zero

    abbrev pub outgoing : History Q S M P → T
    outgoing [] = totals.zero
    outgoing ((Send there now size eliciting largest queue frames, Ok answer) ∷ earlier) =
        totals.plus (in_it there (measure (run.queue.contents queue))) (outgoing earlier)
    outgoing (happened ∷ earlier) = outgoing earlier

    abbrev pub gone : History Q S M P → T
    gone [] = totals.zero
    gone ((Acked there now n limited, Ok answer) ∷ earlier) =
        totals.plus (in_it there (carried (Some n) earlier)) (gone earlier)
    gone ((Send there now size eliciting largest queue frames, Ok (Sent n forgotten)) ∷ earlier) =
        totals.plus (in_it there (carried forgotten earlier)) (gone earlier)
    gone ((TakePending there, Ok (Queue pending)) ∷ earlier) =
        totals.plus (in_it there (measure (run.queue.contents pending))) (gone earlier)
    gone ((DiscardSpace there, Ok answer) ∷ earlier) = totals.plus (in_it there (held earlier)) (gone earlier)
    gone (happened ∷ earlier) = gone earlier

abbrev pub ConservesData : {F K Q S M P : Type 0} → Beginning F K Q S M P → History Q S M P → Type 0
ConservesData {P = P} run history = (totals : Totals ℕ) (measure : P → ℕ) → AddsUp run.queue.words totals measure →
    (space : SpaceId) → outgoing run totals measure space history
    ≡ totals.plus (held run totals measure space history) (gone run totals measure space history)
