-- What is promised of each step of two endpoints, by the steps and answers before it. The network is whoever chooses
-- the steps: it drops, duplicates, reorders and delays as it likes, but forges nothing. `validated` is whether the
-- server regards the client's address as validated from the start.
use Rattle.std.specs.Prelude.{◌∷◌, Bool}
use Rattle.recovery_pair.specs.Logs.{PairEvent, PairLog}
use Rattle.recovery_pair.specs.Promises.Arrivals.{ArrivesAsSent}
use Rattle.recovery_pair.specs.Promises.Delays.{ReportsDelay}
use Rattle.recovery_pair.specs.Promises.DeliveredOnce.{AcksDelivered}
use Rattle.recovery_pair.specs.Promises.Excess.{ExceedsByProbes}
use Rattle.recovery_pair.specs.Promises.Framed.{ArrivesFramed}
use Rattle.recovery_pair.specs.Promises.LargestAcked.{AcksLargest}
use Rattle.recovery_pair.specs.Promises.Locals.{AnswersLocally}
use Rattle.recovery_pair.specs.Promises.NeverAccused.{NeverAccuses}
use Rattle.recovery_pair.specs.Promises.Newly.{AcksInFlight}
use Rattle.recovery_pair.specs.Promises.Passed.{SendsWhatIsPassed}
use Rattle.recovery_pair.specs.Promises.Probes.{ProbesForFlight}
use Rattle.recovery_pair.specs.Promises.Repeats.{RepeatsWithCause}
use Rattle.recovery_pair.specs.Promises.Resends.{ResendsWhatIsLost}
use Rattle.recovery_pair.specs.Promises.RttSamples.{SamplesRoundTrips}
use Rattle.recovery_pair.specs.Promises.Sends.{SendsWhatWaits}
use Rattle.recovery_pair.specs.Promises.Threefold.{ServerSendsThreefold}
use Rattle.recovery_pair.specs.Promises.Window.{SendsWithinWindow}
pub mod Arrivals
pub mod Delays
pub mod DeliveredOnce
pub mod Excess
pub mod Framed
pub mod LargestAcked
pub mod Locals
pub mod NeverAccused
pub mod Newly
pub mod Passed
pub mod Probes
pub mod Repeats
pub mod Resends
pub mod RttSamples
pub mod Sends
pub mod Threefold
pub mod Window

pub record KeepsPromises (validated : Bool) (log : PairLog) (event : PairEvent) : Type 0 where
  -- An endpoint never accuses the other (RFC 9000, 13.1 and 21.4): it rejects no ACK frame for its contents.
  pub honest : NeverAccuses event
  -- What is acknowledged was sent once, received once, and all its items were delivered (RFC 9000, 12.3 and 13.2).
  pub delivered : AcksDelivered log event
  -- What arrives is what the other endpoint sent at that position. It is new at most once, and dropped only with cause
  -- (RFC 9000, 12.3 and 13.1; RFC 9001, 4.9).
  pub arrives : ArrivesAsSent log event
  -- Until it validates the client's address, the server sends at most three times the bytes that arrive (RFC 9000,
  -- 8.1).
  pub limited : ServerSendsThreefold validated (event ∷ log)
  -- A packet that is reported with a window fits into it with all that is in flight (RFC 9002, 7 and 7.5).
  pub window : SendsWithinWindow log event
  -- The bytes in flight are at most the largest window so far, plus the packets in flight that had none: probes (RFC
  -- 9002, 7 and 7.5).
  pub flight : ExceedsByProbes (event ∷ log)
  -- The ACK delay that an endpoint reports is the time since it received the largest number of the space, as new (RFC
  -- 9000, 13.2.5).
  pub delay : ReportsDelay log event
  -- Each packet has an ACK frame up to the largest number that its endpoint received in the space, as new; it has none
  -- exactly if no number was (RFC 9000, 13.2.1 and 13.2.3). So the ACK delay is the time since that packet arrived.
  pub largest : AcksLargest log event
  -- A new packet has an ACK frame exactly if it was sent with one (RFC 9000, 13.2 and 19.3).
  pub framed : ArrivesFramed log event
  -- An ACK frame newly acknowledges its largest number if the packet of that number is in flight (RFC 9002, A.7).
  pub newly : AcksInFlight log event
  -- An ACK frame gives an RTT sample exactly if it newly acknowledges its largest number and an ack-eliciting packet.
  -- The sample is the time since the packet of that largest number was sent (RFC 9002, 5.1).
  pub samples : SamplesRoundTrips log event
  -- Once an endpoint has nothing to send in a space, it has sent there no less than was passed to it (RFC 9000, 13). By
  -- every measure of the items of a packet.
  pub sends : SendsWhatWaits log event
  -- Nothing is invented (RFC 9000, 13). An endpoint sends in a space only what was passed to it there. By every measure
  -- of items that adds up.
  pub passed : SendsWhatIsPassed (event ∷ log)
  -- Nothing is lost (RFC 9000, 13.3). Once an endpoint has nothing to send in a space with keys, it has sent there what
  -- was passed to it, and once more what it reported as lost. By every measure of items that adds up.
  pub resends : ResendsWhatIsLost log event
  -- Nothing is sent again without cause (RFC 9000, 13.3; RFC 9002, 6.2.4). An endpoint sends in a space at most what
  -- was passed to it, what it reported as lost, and what its probes carry. By every measure of items that adds up.
  pub repeats : RepeatsWithCause (event ∷ log)
  -- `Send` right after a probe timeout of its space sends a probe, is blocked by the amplification limit, or fails. A
  -- probe has no items only if earlier ones had no fewer than are in flight, by every measure of items that adds up
  -- (RFC 9002, 6.2.4 and 7.5; RFC 9000, 8.1).
  pub probes : ProbesForFlight log event
  -- A step of one endpoint has an answer of its kind, never another (RFC 9002, 6.2 and 6.4).
  pub local : AnswersLocally event
