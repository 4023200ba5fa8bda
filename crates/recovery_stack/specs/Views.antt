-- What can be read of a recovery, in numbers.
use Rattle.std.specs.Prelude.{◌≡◌, ℕ, List, [], length, true, false, IsTrue, Option, Some, None, is_some, option_and_then, option_map, if◌then◌else◌}
use Rattle.std.specs.Option.{option_map_or}
use Rattle.std.specs.declared.ops.Range.{Range}
use Rattle.recovery_acks.specs.Acks.{delay_at}
use Rattle.recovery_base.specs.Timers.{moment}
use Rattle.recovery_base.specs.declared.below.SpaceId.{SpaceId}
use Rattle.recovery_base.specs.declared.timer.TimerTable.{TimerTable}
use Rattle.recovery_congestion.specs.Rtt.{rtt_get, rtt_conservative, pto_base_of}
use Rattle.recovery_ids.specs.CidQueue.{active_of}
use Rattle.recovery_spaces.specs.Discarded.{is_discarded}
use Rattle.recovery_spaces.specs.Paths.{counters_of}
use Rattle.recovery_spaces.specs.Queued.{IsSendable}
use Rattle.recovery_spaces.specs.Spaces.{Space, space_of, acks_of, heard_of, next_number_of, queued_of}
use Rattle.recovery_paths.specs.PathStates.{Path}
use Rattle.recovery_queue.specs.Items.{item_words}
use Rattle.recovery_history.specs.RecoveryState.{RecoveryState}
use Rattle.recovery_stack.specs.Codes.{nanos_shown, space_coded, timer_coded}
use Rattle.recovery_engine.specs.Controllers.{metrics_of, window_of}
use Rattle.recovery_engine.specs.declared.controllers.Chosen.{Chosen}
use Rattle.recovery_stack.specs.declared.views.PathView.{PathView}
use Rattle.recovery_stack.specs.declared.views.SpaceView.{SpaceView}
use Rattle.recovery_stack.specs.declared.views.RangeView.{RangeView}
use Rattle.recovery_stack.specs.declared.views.TimeView.{TimeView}
use Rattle.recovery_stack.specs.declared.views.IdsView.{IdsView}

abbrev pub path_shown : Path Chosen → PathView
path_shown path = record {
  window = window_of path.state.controller;
  in_flight = (counters_of path.ledger).bytes;
  ack_eliciting = (counters_of path.ledger).ack_eliciting;
  total_sent = path.state.total_sent;
  total_recvd = path.state.total_recvd;
  rtt = nanos_shown (rtt_get path.state.rtt);
  rtt_conservative = nanos_shown (rtt_conservative path.state.rtt);
  rtt_min = nanos_shown path.state.rtt.least;
  rtt_latest = nanos_shown path.state.rtt.latest;
  rtt_variance = nanos_shown path.state.rtt.variance;
  pto_base = nanos_shown (pto_base_of path.state.rtt);
  pacer_capacity = path.state.pacer.capacity;
  pacer_tokens = path.state.pacer.tokens;
  ssthresh = option_map_or (λ bytes. bytes) (metrics_of path.state.controller).ssthresh 0;
  mtu = path.state.discovery.mtu;
  has_ssthresh = is_some (metrics_of path.state.controller).ssthresh;
  lives = true;
  validated = path.state.validated;
}

abbrev pub no_path : PathView
no_path = record {
  window = 0;
  in_flight = 0;
  ack_eliciting = 0;
  total_sent = 0;
  total_recvd = 0;
  rtt = 0;
  rtt_conservative = 0;
  rtt_min = 0;
  rtt_latest = 0;
  rtt_variance = 0;
  pto_base = 0;
  pacer_capacity = 0;
  pacer_tokens = 0;
  ssthresh = 0;
  mtu = 0;
  has_ssthresh = false;
  lives = false;
  validated = false;
}

-- of a path, if it exists
abbrev pub path_view : Option (Path Chosen) → PathView
path_view None = no_path
path_view (Some path) = path_shown path

-- a space, unless it is discarded
abbrev pub space_kept : {K P M : Type 0} → SpaceId → RecoveryState K P M → Option (Space P M)
space_kept space parts =
    if is_discarded space parts.discarded then None else Some (space_of space parts.spaces)

-- of the space with a number
abbrev pub space_named : {K P M : Type 0} → ℕ → RecoveryState K P M → Option (Space P M)
space_named code parts = option_and_then (λ space. space_kept space parts) (space_coded code)

abbrev pub no_space : SpaceView
no_space = record {
  largest_received = 0;
  ranges = 0;
  next_packet_number = 0;
  lives = false;
  acks = false;
  other = false;
}

-- of a space that is not discarded
abbrev pub IsSpaceShown : {M : Type 0} → Option (Space (List ℕ) M) → SpaceView → Type 0
IsSpaceShown None view = view ≡ no_space
IsSpaceShown (Some space) view =
    (view.largest_received ≡ space.rx_packet) × (view.ranges ≡ length (acks_of space).ranges)
    × (view.next_packet_number ≡ next_number_of space) × IsTrue view.lives
    × IsSendable item_words (tt {0}) (heard_of space) (queued_of space)
    (record { acks = view.acks; other = view.other })

-- the ranges of packet numbers to be acknowledged in a space that is not discarded
abbrev pub ranges_in : {P M : Type 0} → Option (Space P M) → List (Range ℕ)
ranges_in None = []
ranges_in (Some space) = (acks_of space).ranges

abbrev pub range_shown : Option (Range ℕ) → RangeView
range_shown (Some range) = record { start = range.start; end = range.end; some = true }
range_shown None = record { start = 0; end = 0; some = false }

abbrev pub moment_shown : Option ℕ → TimeView
moment_shown (Some moment) = record { nanos = moment; some = true }
moment_shown None = record { nanos = 0; some = false }

-- of the timer with a number
abbrev pub moment_named : ℕ → TimerTable → TimeView
moment_named code timers = moment_shown (option_and_then (λ timer. moment timer timers) (timer_coded code))

-- how long ago the largest packet was received in the space with a number
abbrev pub ack_delay_named : {K P M : Type 0} → ℕ → ℕ → RecoveryState K P M → TimeView
ack_delay_named code now parts =
    let delay_in : Space _ _ → ℕ = λ space. nanos_shown (delay_at now (acks_of space).counts.largest) in
    moment_shown (option_map delay_in (space_named code parts))

abbrev pub ids_shown : {K P M : Type 0} → RecoveryState K P M → IdsView
ids_shown parts = record {
  active = active_of parts.remote_cids;
  issued = parts.local_ids.issued;
  retire_prior_to = parts.local_ids.retire_prior_to;
  max_ack_delay = nanos_shown parts.frequency.max_ack_delay;
  peer_max_ack_delay = nanos_shown parts.frequency.peer_max_ack_delay;
}

abbrev pub no_ids : IdsView
no_ids = record { active = 0; issued = 0; retire_prior_to = 0; max_ack_delay = 0; peer_max_ack_delay = 0 }
