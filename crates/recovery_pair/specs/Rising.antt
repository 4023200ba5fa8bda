-- No ACK of an ACK drops the largest number that an endpoint received (RFC 9000, 13.2.4). A packet that acknowledges an
-- ACK was sent after the packets in that ACK, so its number is above theirs.
use Rattle.std.specs.Prelude.{◌≡◌, ℕ, ◌<◌, List, Some}
use Rattle.std.specs.List.{AllByRecursion}
use Rattle.recovery_base.specs.declared.below.SpaceId.{SpaceId}
use Rattle.recovery_losses.specs.Frames.{IsInAckRanges}
use Rattle.recovery_history.specs.History.{History}
use Rattle.recovery_history.specs.Promises.Acknowledged.{largest_in}
use Rattle.recovery_pair.specs.declared.steps.End.{End}
use Rattle.recovery_pair.specs.declared.steps.WirePacket.{WirePacket}
use Rattle.recovery_pair.specs.Logs.{other_end}
use Rattle.recovery_pair.specs.Pasts.{KeepsLargest, WasSentUnder}

module _ {Q S M P : Type 0} where
  -- a packet of an endpoint has a larger number than the ACK of each packet that it acknowledges
  abbrev pub RisesAbove : End → History Q S M P → WirePacket → Type 0
  RisesAbove from past packet = packet.from ≡ from → (n l : ℕ) → IsInAckRanges n packet.ranges.items
      → largest_in packet.space n past ≡ Some l → l < packet.number

  -- of an endpoint, by its past and the past of its peer
  pub record AcksRise (end : End) (past peer : History Q S M P) (wire : List WirePacket) : Type 0 where
    -- the peer sent the largest number of each ACK
    pub carried : (space : SpaceId) (n l : ℕ) → largest_in space n past ≡ Some l → WasSentUnder space l peer
    pub above : AllByRecursion (RisesAbove (other_end end) past) wire
    pub keeps : (space : SpaceId) → KeepsLargest space past
