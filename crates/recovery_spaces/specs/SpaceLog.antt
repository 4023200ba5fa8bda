-- The log of one packet number space (RFC 9000, 12.3).
use Rattle.std.specs.Prelude.{ℕ, Bool}
use Rattle.recovery_base.specs.declared.below.frames.AckFrequency.{AckFrequency}
use Rattle.recovery_base.specs.declared.below.frames.EcnCounts.{EcnCounts}
use Rattle.recovery_spaces.specs.Packets.{Packet}
use Rattle.recovery_spaces.specs.Probes.{ProbeFound}

-- P are the contents of the queue of a packet
pub data SpaceEntry (P M : Type 0) : Type 0 where
  -- a new packet was received
  heard : (now number : ℕ) (ack_eliciting : Bool) → SpaceEntry P M
  -- a packet was received that may have been received before
  heard_again : (number : ℕ) → SpaceEntry P M
  -- a packet is sent under a number (RFC 9002, A.5)
  sends : (number : ℕ) (packet : Packet P M) → SpaceEntry P M
  -- a tracked packet is acknowledged (RFC 9002, A.7)
  acknowledged : (number : ℕ) → SpaceEntry P M
  -- a tracked packet is lost (RFC 9002, A.10): its contents are queued for retransmission
  loses : (number : ℕ) → SpaceEntry P M
  -- a probe is requested (RFC 9002, 6.2.4), and perhaps an immediate ACK for it
  probes : (immediate : Bool) (found : ProbeFound) → SpaceEntry P M
  -- the retransmission queue is returned
  takes_pending : SpaceEntry P M
  -- an ACK frame's ECN counts are stored (RFC 9000, 13.4.2)
  feeds_back : (counts : EcnCounts) → SpaceEntry P M
  -- nothing is tracked any more (RFC 9002, 6.4)
  emptied : SpaceEntry P M
  -- an ACK is sent
  ack_goes : SpaceEntry P M
  -- the ACK delay timer expired
  ack_is_late : SpaceEntry P M
  -- the peer asks for other thresholds
  asked : (frame : AckFrequency) → SpaceEntry P M
