-- The inputs of a loss detection pass, and its result if nothing is lost (RFC 9002, 6.1, 7.6 and A.10).
use Rattle.std.specs.Prelude.{◌≡◌, ℕ, ◌+◌, ◌*◌, ◌≤◌, Bool, false, [], Option, None, Some, option_map, if◌then◌else◌}
use Rattle.std.specs.Global.{Vec}
use Rattle.std.specs.Vec.{vec_capacity}
use Rattle.std.specs.Option.{option_and_then}
use Rattle.recovery_base.specs.declared.below.SpaceId.{SpaceId}
use Rattle.recovery_base.specs.declared.below.SpaceId.TheVariants.{Data}
use Rattle.recovery_base.specs.Spaces.{same_space}
use Rattle.recovery_congestion.specs.Rtt.{rtt_get, pto_base_of}
use Rattle.recovery_losses.specs.Timeouts.{loss_delay_of}
use Rattle.recovery_mtud.specs.Discovery.{probe_of}
use Rattle.recovery_losses.specs.declared.looks.LossPass.{LossPass}
use Rattle.recovery_losses.specs.Losses.{count_below, first_sample_in, IsEarliestSent}
use Rattle.recovery_losses.specs.declared.looks.FirstSample.TheVariants.{Missing}
use Rattle.recovery_history.specs.RecoveryState.{RecoveryState}
use Rattle.recovery_sender.specs.declared.sender.losses.Losses.{Losses}
use Rattle.recovery_losses.specs.declared.variables.Variables.{Variables}
use Rattle.recovery_sender.specs.declared.sender.Sender.{Sender}
use Rattle.recovery_sender.specs.Senders.{state_in}
use Rattle.recovery_sender.specs.Spaces.{packets_in, space_in}
use Rattle.recovery_sender.specs.Timer.{behind, rtt_in}

-- nothing was lost
pub record IsEmptyLosses (losses : Losses) : Type 0 where
  pub numbers : losses.numbers.items ≡ []
  pub probe : losses.probe ≡ None
  pub congestion : losses.congestion ≡ None
  pub persistent : losses.is_persistent ≡ false
  pub black_hole : losses.is_black_hole ≡ false
  pub cut : losses.is_cut ≡ false

-- the largest number that was acknowledged in a space
abbrev pub largest_in : {K P M : Type 0} → RecoveryState K P M → SpaceId → Option ℕ
largest_in recovery space = option_and_then (λ here. here.largest_acked_packet) (space_in recovery space)

-- how long after its transmission a packet is lost, with the RTT of the path in use (RFC 9002, 6.1.2)
abbrev pub loss_delay_in : {K P M : Type 0} → RecoveryState K P M → Variables → ℕ
loss_delay_in recovery variables = let rtt = rtt_in recovery variables in
    loss_delay_of variables.thresholds.time (rtt_get rtt) rtt.latest

-- When the next packet of a space is lost by its age, with the RTT of the path in use (RFC 9002, 6.1.2 and A.10).
-- Never, unless a packet is tracked below the largest acknowledged.
abbrev pub IsNextLoss : {K P M : Type 0} → RecoveryState K P M → Variables → SpaceId → Option ℕ → Type 0
IsNextLoss recovery variables space time = (sent : Option ℕ)
    × (time ≡ option_map (λ first. behind first (loss_delay_in recovery variables)) sent)
    × ((largest : ℕ) → largest_in recovery space ≡ Some largest
    → IsEarliestSent (packets_in recovery space) largest sent)
    × (largest_in recovery space ≡ None → sent ≡ None)

-- the inputs of a pass over a space with this largest acknowledged number, which judges age by the time `at`; only a
-- pass after an ACK detects persistent congestion
abbrev pub look_of : {K P M : Type 0} → RecoveryState K P M → Variables → SpaceId → ℕ → Bool → ℕ → LossPass
look_of recovery variables space at due_to_ack largest = let path = recovery.paths.current in record {
  space = space;
  at = at;
  largest = largest;
  packet_threshold = variables.thresholds.packets;
  delay = loss_delay_in recovery variables;
  probe = (if same_space space Data then probe_of path.state.discovery else None);
  generation = path.ledger.generation;
  first_sample = (if due_to_ack then first_sample_in path.marks.first_after_sample variables.sampled space
      else Missing);
  skipped = (if same_space space Data then recovery.skipping.filter.last else None);
  period = variables.thresholds.persistent * (pto_base_of (rtt_in recovery variables) + variables.max_ack_delay);
}

-- there is room for the numbers of the packets that a space tracks below the largest number acknowledged
abbrev pub HasRoomBelowLargest : {F Q R C K S M P : Type 0} {f : _} {c : _} {q : _} {m : _} {r : _} → SpaceId
    → Sender F Q R C K S M P f c q m r → Vec ℕ → Type 0
HasRoomBelowLargest space sender room = (largest : ℕ) → largest_in (state_in sender) space ≡ Some largest
    → count_below largest (packets_in (state_in sender) space) ≤ vec_capacity room
