-- Readings of a recovery that cost a few instructions, in numbers.
use Rattle.std.specs.Prelude.{◌≡◌, ℕ, true, false, List, length, is_some, Option, None, Some}
use Rattle.std.specs.Option.{option_map_or}
use Rattle.recovery_congestion.specs.Rtt.{rtt_get, pto_base_of}
use Rattle.recovery_queue.specs.Items.{item_words}
use Rattle.recovery_spaces.specs.Packets.{HasSize, Packets, packet_at}
use Rattle.recovery_spaces.specs.Paths.{counters_of}
use Rattle.recovery_spaces.specs.Probes.{probe_found}
use Rattle.recovery_spaces.specs.Spaces.{Space, packets_of}
use Rattle.recovery_paths.specs.PathStates.{Path}
use Rattle.recovery_stack.specs.Codes.{nanos_shown}
use Rattle.recovery_engine.specs.Controllers.{window_of}
use Rattle.recovery_engine.specs.declared.controllers.Chosen.{Chosen}
use Rattle.recovery_sender.specs.RetransmitAll.{HasNoneFrom, IsLeastFrom}
use Rattle.recovery_stack.specs.declared.glances.NumberView.{NumberView}
use Rattle.recovery_stack.specs.declared.glances.RttView.{RttView}
use Rattle.recovery_stack.specs.declared.glances.TrackedView.{TrackedView}
use Rattle.recovery_stack.specs.declared.glances.WindowView.{WindowView}

abbrev pub window_shown : Path Chosen → WindowView
window_shown path =
    record { window = window_of path.state.controller; in_flight = (counters_of path.ledger).bytes }

abbrev pub no_window : WindowView
no_window = record { window = 0; in_flight = 0 }

abbrev pub rtt_shown : Path Chosen → RttView
rtt_shown path =
    record { rtt = nanos_shown (rtt_get path.state.rtt); pto_base = nanos_shown (pto_base_of path.state.rtt) }

abbrev pub no_rtt : RttView
no_rtt = record { rtt = 0; pto_base = 0 }

-- a tracked packet of a space has a size
abbrev pub HasInFlight : {P M : Type 0} → Option (Space P M) → Type 0
HasInFlight None = ⊥
HasInFlight (Some space) = HasSize (packets_of space)

-- how many packets a space tracks, and when the next of them is lost by its age
abbrev pub no_tracked : TrackedView
no_tracked = record { packets = 0; loss_time = 0; has_loss_time = false }

abbrev pub tracked_in : {P M : Type 0} → Option (Space P M) → TrackedView
tracked_in None = no_tracked
tracked_in (Some space) = record {
  packets = length (packets_of space);
  loss_time = option_map_or (λ time. time) space.loss_time 0;
  has_loss_time = is_some space.loss_time;
}

-- ---- the items that a space gives out

-- how many items wait for retransmission in a space
abbrev pub pending_items_in : {M : Type 0} → Option (Space (List ℕ) M) → ℕ
pending_items_in None = 0
pending_items_in (Some space) = length space.pending

-- how many items a packet has, if it is tracked
abbrev pub items_at : {M : Type 0} → Packets (List ℕ) M → ℕ → ℕ
items_at packets number = option_map_or (λ packet. length packet.retransmits) (packet_at packets number) 0

-- How many items a probe in a space carries: those that wait, or else those of the first packet that has any (RFC 9002,
-- 6.2.4).
abbrev pub probe_items_in : {M : Type 0} → Option (Space (List ℕ) M) → ℕ
probe_items_in None = 0
probe_items_in (Some space) =
    option_map_or (items_at (packets_of space)) (probe_found item_words (tt {0}) space.pending (packets_of space)).moved
    (length space.pending)

-- ---- the smallest number that a space tracks

abbrev pub number_shown : Option ℕ → NumberView
number_shown None = record { number = 0; is_some = false }
number_shown (Some number) = record { number = number; is_some = true }

abbrev pub no_number : NumberView
no_number = number_shown None

-- it is the smallest, if there is a space and it tracks a packet
abbrev pub IsSmallestIn : {P M : Type 0} → Option (Space P M) → Option ℕ → Type 0
IsSmallestIn None number = number ≡ None
IsSmallestIn (Some space) None = HasNoneFrom (packets_of space) 0
IsSmallestIn (Some space) (Some number) = IsLeastFrom (packets_of space) 0 number

pub record ShowsSmallest {P M : Type 0} (space : Option (Space P M)) (view : NumberView) : Type 0 where
  pub number : Option ℕ
  pub smallest : IsSmallestIn space number
  pub shown : view ≡ number_shown number
