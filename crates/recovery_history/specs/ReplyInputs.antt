-- The inputs of replies: values, which the state and the history give alike.
use Rattle.std.specs.Prelude.{ℕ, Bool, Option}
use Rattle.recovery_base.specs.declared.below.SpaceId.{SpaceId}
use Rattle.recovery_base.specs.declared.below.SpaceId.TheVariants.{Initial, Handshake, Data}
use Rattle.recovery_base.specs.declared.timer.Timer.{Timer}
use Rattle.recovery_ids.specs.LocalIds.{LocalIds}
use Rattle.recovery_ids.specs.RemoteIds.{RemoteIds}
use Rattle.recovery_acks.specs.Acks.{AckCounts}
use Rattle.recovery_spaces.specs.declared.paths.InFlight.{InFlight}
use Rattle.recovery_spaces.specs.InFlight.{in_flight}
use Rattle.recovery_spaces.specs.Packets.{Packet, Packets}
use Rattle.recovery_spaces.specs.Queued.{QueuedState}
use Rattle.recovery_paths.specs.PathLog.{PathReplyInputs, PerPath}
use Rattle.recovery_spaces.specs.Tracked.{SentState, packet_sent}

-- what replies and entries depend on, except for the sets of numbers: values, equal by the state and by the history
pub record SpaceReplyInputs (P M : Type 0) : Type 0 where
  -- the space was discarded
  pub discarded : Bool
  -- the counts that decide about its next ACK
  pub counts : AckCounts
  -- its packets
  pub sent : SentState P M
  -- the retransmission queue, what probes ask for, and the ECN counts
  pub queued : QueuedState P

pub record ReplyInputs (K P M : Type 0) : Type 0 where
  pub spaces : SpaceId → SpaceReplyInputs P M
  -- of 1-RTT packets, some of which are skipped: the next number that is assigned, and the largest skip below the last
  -- one
  pub next_number : ℕ
  pub skipped : Option ℕ
  -- the number of the last ACK_FREQUENCY frame that was newer than those before it
  pub last_asked : Option ℕ
  -- the peer's IDs
  pub remote_ids : RemoteIds
  -- the IDs that the local endpoint issued
  pub local_ids : LocalIds
  -- the time for which a timer is set
  pub timer_value : Timer → Option ℕ
  -- the paths' values
  pub paths : PerPath (PathReplyInputs K)
  -- the largest datagram that the peer accepts, if it stated one
  pub peer_limit : Option ℕ

-- the packets that each space tracks
abbrev pub tracked_known : {K P M : Type 0} → ReplyInputs K P M → SpaceId → Packets P M
tracked_known known space = (known.spaces space).sent.tracked

-- a packet as it is sent on the path in use
abbrev pub packet_now : {K P M : Type 0} → ReplyInputs K P M → ℕ → ℕ → Bool → Option ℕ → P → M → Packet P M
packet_now known = packet_sent known.paths.current.generation

-- the number that a space assigns next
abbrev pub number_in : {K P M : Type 0} → ReplyInputs K P M → SpaceId → ℕ
number_in known Initial = (known.spaces Initial).sent.next
number_in known Handshake = (known.spaces Handshake).sent.next
number_in known Data = known.next_number

-- what is in flight on a path
abbrev pub in_flight_on : {K P M : Type 0} → ReplyInputs K P M → PathReplyInputs K → InFlight
in_flight_on known path = in_flight path.generation (tracked_known known)

-- what is in flight on the path in use
abbrev pub current_in_flight : {K P M : Type 0} → ReplyInputs K P M → InFlight
current_in_flight known = in_flight_on known known.paths.current
