-- Each tracked packet carries the ACK that the history says, up to a largest number. `AcknowledgedLaws` rest on it.
use Rattle.std.proofs.Common.{◌≡◌, ℕ, true, [], ◌∷◌, Option, None, Ok, refl, ap, ◌∙◌}
use Rattle.recovery_base.specs.declared.below.SpaceId.{SpaceId}
use Rattle.recovery_base.specs.Spaces.{same_space}
use Rattle.recovery_spaces.specs.Packets.{Packet, packet_at, largest_acked_by}
use Rattle.recovery_events.specs.declared.event.Event.{Event}
use Rattle.recovery_events.specs.declared.event.Event.TheVariants.{Send, PollMtu}
use Rattle.recovery_events.specs.declared.event.Answer.TheVariants as answers
use Rattle.recovery_events.specs.declared.event.Answer.TheVariants.{Probe}
use Rattle.recovery_history.specs.RepliesAfter.{RepliesAfter}
use Rattle.recovery_history.specs.History.{Beginning, History, Reply}
use Rattle.recovery_history.specs.Promises.Acknowledged.{largest_in}
use Rattle.recovery_history.proofs.AnswerLaws.{is_there}
use Rattle.recovery_history.proofs.FieldLaws.{IsSaid, said_found, said_then, said_told}
use Rattle.recovery_history.proofs.TrackedLaws.{one_space, sent_in}

-- the largest number in the ACK that a packet carries
abbrev carried_by : {P M : Type 0} → Packet P M → Option ℕ
carried_by packet = packet.largest_acked

module _ {F K Q S M P : Type 0} (beginning : Beginning F K Q S M P) where
  abbrev pub AllCarry : History Q S M P → Type 0
  AllCarry history = (space : SpaceId)
      → IsSaid carried_by (λ n. largest_in space n history) (sent_in beginning history space)

  pub none_carry : AllCarry []
  none_carry = λ space. tt

  -- an event preserves that
  pub keeps_carried : (before : History Q S M P) (event : Event Q S M P) (reply : Reply Q)
      → RepliesAfter beginning before event reply → AllCarry before → AllCarry ((event, reply) ∷ before)
  keeps_carried before event reply told all = λ space.
      said_told beginning space carried_by (λ contents packet. refl) before (λ n. largest_in space n before) (all space)
      event reply (λ n. largest_in space n ((event, reply) ∷ before)) told (same space event reply)
    where
      same : (space : SpaceId) (event : Event Q S M P) (reply : Reply Q) (n : ℕ)
          → said_then beginning space carried_by (λ contents packet. refl) before (λ n. largest_in space n before)
          (all space) event reply n ≡ largest_in space n ((event, reply) ∷ before)
      same space (Send there now size eliciting largest queue frames) (Ok (answers.Sent number forgotten)) n = refl
      same space (PollMtu now) (Ok (Probe number size)) n = refl
      same space event reply n = refl

  -- the packet of a tracked number carries what it was sent with
  pub carries_largest : (history : History Q S M P) → AllCarry history → (there space : SpaceId) (number : ℕ)
      → ¬ (packet_at (sent_in beginning history there).tracked number ≡ None) → same_space there space ≡ true
      → largest_acked_by (packet_at (sent_in beginning history space).tracked number) ≡ largest_in space number history
  carries_largest history all there space number tracked at =
      let sent = sent_in beginning history space in
      let found = is_there (packet_at sent.tracked number) (rw (one_space there space at) at tracked) in
      let largest : ℕ → Option ℕ = λ n. largest_in space n history in
      ap largest_acked_by found.1
      ∙ said_found carried_by largest sent.next sent.tracked (all space) number found.0 found.1
