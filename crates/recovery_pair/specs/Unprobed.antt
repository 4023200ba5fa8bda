-- The first probe has items (RFC 9002, 6.2.4). Premise: a packet with items is in flight in a space with keys, no probe
-- had any there, and each packet there was tracked. Then `Send` right after a probe timeout of the space sends a
-- packet, is blocked by the amplification limit (RFC 9000, 8.1), or fails. The packet has items, and only items that
-- were passed. So if one item was passed, the packet has that item.
use Rattle.std.specs.Prelude.{◌≡◌, ◌≢◌, ℕ, ◌<◌, Bool, false, List, [], ◌∷◌, length, Result, Ok}
use Rattle.recovery_base.specs.declared.below.SpaceId.{SpaceId}
use Rattle.recovery_sender.specs.declared.sender.SenderError.{SenderError}
use Rattle.recovery_sender.specs.declared.sender.packets.Transmission.TheVariants.{Blocked}
use Rattle.recovery_pair.specs.declared.steps.End.{End}
use Rattle.recovery_pair.specs.declared.steps.PairAnswer.{PairAnswer}
use Rattle.recovery_pair.specs.declared.steps.PairAnswer.TheVariants.{Held, Nothing, Sent}
use Rattle.recovery_pair.specs.declared.steps.PairStep.TheVariants.{Send}
use Rattle.recovery_pair.specs.Logs.{PairLog, handed, was_discarded}
use Rattle.recovery_pair.specs.Promises.{KeepsPromises}
use Rattle.recovery_pair.specs.Promises.Newly.{flight_of_one}
use Rattle.recovery_pair.specs.Promises.Probes.{IsAsked}
use Rattle.recovery_pair.specs.Promises.Repeats.{has_failed, probed_in}
use Rattle.recovery_pair.specs.Promises.Resends.{AddsItems, sent_under}

-- the last step asked for probes, the packet of a number is in flight with items, and no probe had any
pub record IsUnprobed (log : PairLog) (end : End) (space : SpaceId) (n : ℕ) : Type 0 where
  pub asked : IsAsked log end space
  pub flies : 0 < flight_of_one end space n log
  pub filled : 0 < sent_under end space length (n ∷ []) log
  pub first : probed_in end space length log ≡ 0
  pub keys : was_discarded end space log ≡ false
  pub tracks : has_failed end space log ≡ false

-- a packet is sent with items, all of them passed, or the amplification limit blocks it, or `Send` fails
-- (answers of another kind do not occur: `SendsAsPermitted`)
abbrev pub SendsPassedItems : PairLog → End → SpaceId → Result PairAnswer SenderError → Type 0
SendsPassedItems log end space (Ok (Sent number items eliciting window ack)) =
    (items.items ≢ []) × ((measure : List ℕ → ℕ) → AddsItems measure → handed end measure space log ≡ 0
    → measure items.items ≡ 0)
SendsPassedItems log end space (Ok (Held held)) = held ≡ Blocked
SendsPassedItems log end space (Ok Nothing) = ⊥
SendsPassedItems log end space answer = Unit {0}

abbrev pub ProbesUnprobed : Type 0
ProbesUnprobed = (validated : Bool) (log : PairLog) (end : End) (space : SpaceId) (n now size : ℕ)
    (answer : Result PairAnswer SenderError) → IsUnprobed log end space n
    → KeepsPromises validated log (Send end space now size, answer) → SendsPassedItems log end space answer
