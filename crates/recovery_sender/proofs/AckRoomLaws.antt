-- There is room for the losses that an ACK frame may find: it was allocated for all packets that may be tracked then.
use Rattle.std.proofs.Common.{◌≡◌, ◌≢◌, ℕ, ◌+◌, ◌≤◌, ◌<◌, zero, suc, true, Bool, List, [], ◌∷◌, length, get_or, Option, None, Some, Ok, refl, sym, ap, subst, ◌∙◌, inl, inr, arith}
use Rattle.std.specs.Option.{option_and_then, option_map_or}
use Rattle.std.specs.Vec.{vec_capacity}
use Rattle.recovery_base.specs.declared.below.SpaceId.{SpaceId}
use Rattle.recovery_events.specs.declared.event.Answer.{Answer}
use Rattle.recovery_events.specs.declared.event.Event.TheVariants.{EndAcks, Sample}
use Rattle.recovery_spaces.specs.Packets.{Packets, packet_at}
use Rattle.recovery_spaces.specs.Spaces.{Space, packets_of}
use Rattle.recovery_losses.specs.Frames.{IsInAckRanges, are_ranges, largest_of}
use Rattle.recovery_losses.specs.Losses.{AreIncreasing, IsOneOf, count_below, without_all}
use Rattle.recovery_losses.proofs.FrameLaws.{are_fine, small_all}
use Rattle.recovery_losses.proofs.RoomLaws.{below_fewer, below_without_all}
use Rattle.recovery_history.specs.History.{QueueModel, queue_model}
use Rattle.recovery_history.specs.RecoveryState.{RecoveryState}
use Rattle.recovery_history.specs.Transitions.{StateTransition}
use Rattle.recovery_sender.specs.declared.sender.acks.NewlyAcked.{NewlyAcked}
use Rattle.recovery_sender.specs.declared.sender.Sender.{Sender}
use Rattle.recovery_sender.specs.Acking.{AreAcked, HasRoomForLosses, IsWithin, SamplesRtt, first_marked, loss_end}
use Rattle.recovery_sender.specs.Acks.{AreNewlyAcked}
use Rattle.recovery_sender.specs.Losses.{largest_in}
use Rattle.recovery_sender.specs.Senders.{state_in}
use Rattle.recovery_sender.specs.Spaces.{packets_in, space_in}
use Rattle.recovery_sender.specs.Steps.{TakesSteps, occurs}
use Rattle.recovery_sender.proofs.LeadLaws.{space_same}

-- ---- what a frame newly acknowledges is below the end

in_range : (number : ℕ) (ranges : List (ℕ × ℕ)) → IsInAckRanges number ranges → (i : ℕ) × (i < length ranges)
    × (number ≤ (get_or ranges i (0, 0)).1)
in_range number [] never = absurd never
in_range number (range ∷ ranges) (inl inside) = (zero, omega arith, inside.1)
in_range number (range ∷ ranges) (inr there) =
    let rest = in_range number ranges there in (suc rest.0, omega (arith, rest.1), rest.2)

rising_to : (first end wider : ℕ) (numbers : List ℕ) → AreIncreasing first numbers end
    → ((number : ℕ) → IsOneOf number numbers → number < wider) → first ≤ wider → AreIncreasing first numbers wider
rising_to first end wider [] rising below within = within
rising_to first end wider (number ∷ numbers) rising below within = (
  rising.0,
  rising_to (number + 1) end wider numbers rising.1 (λ other there. below other (inr there))
      (omega (arith, below number (inl refl))),
)

pub numbers_below : {P M : Type 0} (packets : Packets P M) (ranges : List (ℕ × ℕ)) (numbers : List ℕ) (elicits : Bool)
    (before : Option ℕ) → are_ranges ranges ≡ true → AreNewlyAcked packets ranges 0 numbers elicits
    → AreIncreasing 0 numbers (loss_end before (largest_of ranges))
numbers_below packets [] numbers elicits before whole newly = absurd cc
numbers_below packets (range ∷ ranges) numbers elicits before whole newly =
    rising_to 0 newly.rising.0 (loss_end before (Some range.1)) numbers newly.rising.1 below (omega arith)
  where
    below : (number : ℕ) → IsOneOf number numbers → number < loss_end before (Some range.1)
    below number there =
        let found = in_range number (range ∷ ranges) ((newly.each number).0 there).0 in
        omega (
          arith,
          found.2,
          small_all (range ∷ ranges) (range.1 + 2) (are_fine None (range ∷ ranges) whole) (omega arith) found.0 found.1,
        )

-- ---- the packets of a space after the steps that follow the acknowledgements

module _ {K Q S M P : Type 0} (queue : QueueModel Q S M P) (space : SpaceId) (answer : Answer Q)
    (old new : RecoveryState K P M) where
  pub ended_same : (now : ℕ) (limited : Bool) (largest : Option ℕ)
      → StateTransition queue old (EndAcks now limited largest) (Ok answer) new
      → space_in new space ≡ space_in old space
  ended_same now limited largest changes = space_same space old new changes.steps.spaces changes.plain

  pub sampled_same : (delay rtt : ℕ) → StateTransition queue old (Sample delay rtt) (Ok answer) new
      → space_in new space ≡ space_in old space
  sampled_same delay rtt changes = space_same space old new changes.steps.spaces changes.plain

module _ {F Q R C K S M P : Type 0} {f : _} {c : _} {q : _} {m : _} {r : _} (space : SpaceId)
    (old new : Sender F Q R C K S M P f c q m r) where
  abbrev here_in : RecoveryState K P M → Option (Space P M)
  here_in recovery = space_in recovery space

  ends_same : (now : ℕ) (limited : Bool) (largest : Option ℕ)
      → TakesSteps (occurs (EndAcks now limited largest) ∷ []) old new
      → here_in (state_in new) ≡ here_in (state_in old)
  ends_same now limited largest goes = let leads = goes.leads in ap here_in leads.4
      ∙ ended_same (queue_model q.contents q.words q.blank) space leads.0 (state_in old) leads.1 now limited largest
      leads.2

  marks_same : (marked : Option (SpaceId × ℕ)) (here : Option (Space P M))
      → TakesSteps (first_marked (state_in old) space marked here) old new
      → here_in (state_in new) ≡ here_in (state_in old)
  marks_same None (Some here) goes = ap here_in goes.leads
  marks_same None None goes = ap here_in goes.leads
  marks_same (Some mark) here goes = ap here_in goes.leads

module _ {F Q R C K S M P : Type 0} {f : _} {c : _} {q : _} {m : _} {r : _} (space : SpaceId)
    (old new : Sender F Q R C K S M P f c q m r) where
  samples_same : (delay : ℕ) (rtt : Option ℕ) → SamplesRtt space delay old new rtt
      → space_in (state_in new) space ≡ space_in (state_in old) space
  samples_same delay None goes = ap (λ recovery. space_in recovery space) goes.leads
  samples_same delay (Some rtt) (between, samples, marks) =
      let leads = samples.leads in marks_same space between new _ _ marks
      ∙ ap (λ recovery. space_in recovery space) leads.4
      ∙ sampled_same (queue_model q.contents q.words q.blank) space leads.0 (state_in old) leads.1 _ rtt leads.2

-- ---- the room

within_end : (before : Option ℕ) (largest : Option ℕ) → IsWithin (loss_end before largest) before
within_end None largest = tt
within_end (Some known) largest = omega arith

module _ {F Q R C K S M P : Type 0} {f : _} {c : _} {q : _} {m : _} {r : _} (space : SpaceId) (ranges : List (ℕ × ℕ))
    (old taken ended sampled : Sender F Q R C K S M P f c q m r) (newly : NewlyAcked)
    (room : HasRoomForLosses space ranges old newly)
    (tracked : (number : ℕ) → IsOneOf number newly.numbers.items
    → packet_at (packets_in (state_in old) space) number ≢ None)
    (acked : AreAcked space newly.numbers.items old taken) where
  abbrev end : ℕ
  end = loss_end (largest_in (state_in old) space) (largest_of ranges)

  pub has_room : (now : ℕ) (limited : Bool) (largest : Option ℕ) (delay : ℕ) (rtt : Option ℕ)
      → TakesSteps (occurs (EndAcks now limited largest) ∷ []) taken ended
      → SamplesRtt space delay ended sampled rtt
      → (known : ℕ) → largest_in (state_in sampled) space ≡ Some known
      → count_below known (packets_in (state_in sampled) space) ≤ vec_capacity newly.lost
  has_room now limited largest delay rtt ends samples known is =
      let same = samples_same space ended sampled delay rtt samples ∙ ends_same space taken ended now limited largest
      ends in
      let packets = ap (λ here. option_map_or packets_of here []) same ∙ acked.packets in
      let is_known : largest_in (state_in taken) space ≡ Some known =
      ap (λ here. option_and_then (λ space. space.largest_acked_packet) here) (sym same) ∙ is in
      let within : known ≤ end = subst (IsWithin end) is_known
      (acked.largest end (within_end (largest_in (state_in old) space) (largest_of ranges)) room.below) in
      omega (
        arith,
        room.room,
        ap (count_below known) packets,
        below_fewer known end (without_all (packets_in (state_in old) space) newly.numbers.items) within,
        below_without_all 0 end newly.numbers.items (packets_in (state_in old) space) room.below tracked,
      )
