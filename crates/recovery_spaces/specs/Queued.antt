-- The retransmission queue of a space, and what probes ask for (RFC 9000, 13.3 and 13.4.2; RFC 9002, 6.2.4).
use Rattle.std.specs.Prelude.{ℕ, ◌≡◌, ◌↔◌, Bool, false, not, ◌||◌, ◌&&◌, IsTrue, List, [], ◌∷◌, Option}
use Rattle.std.specs.Option.{option_and_then, option_map_or}
use Rattle.recovery_base.specs.declared.below.frames.EcnCounts.{EcnCounts}
use Rattle.recovery_queue.specs.Queues.{QueueSemantics}
use Rattle.recovery_spaces.specs.declared.spaces.SendableFrames.{SendableFrames}
use Rattle.recovery_spaces.specs.Acks.{AckState}
use Rattle.recovery_spaces.specs.Packets.{Packet, Packets, packet_at}
use Rattle.recovery_spaces.specs.Probes.{ProbeFound}
use Rattle.recovery_spaces.specs.SpaceLog.{SpaceEntry, loses, probes, takes_pending, feeds_back, emptied}
use Rattle.recovery_spaces.specs.Tracked.{sent_by}

abbrev pub no_ecn : EcnCounts
no_ecn = record { ect0 = 0; ect1 = 0; ce = 0 }

pub record QueuedState (P : Type 0) : Type 0 where
  -- the retransmission queue
  pub pending : P
  -- a PING is to be sent: there was nothing else
  pub ping : Bool
  -- the peer is to be asked for an immediate ACK
  pub immediate : Bool
  -- the ECN counts of the last ACK frame that passed the check
  pub ecn : EcnCounts

module _ {P M S : Type 0} (words : QueueSemantics P S) where
  -- the queue with the contents of a packet appended, if it is tracked
  abbrev pub joined_with : P → Option (Packet P M) → P
  joined_with pending packet = option_map_or (λ there. words.joined pending there.retransmits) packet pending

  -- a probe finds this: a PING is requested only if no immediate ACK is
  abbrev pub probe_queued : Bool → ProbeFound → Packets P M → QueuedState P → QueuedState P
  probe_queued immediate found packets old = record old {
    pending = joined_with old.pending (option_and_then (packet_at packets) found.moved);
    ping = old.ping || (found.nothing && not (immediate || old.immediate));
    immediate = immediate || old.immediate;
  }

  -- what was lost or found by a probe since the queue was last returned; a discarded space has nothing to send
  abbrev pub queued_by : List (SpaceEntry P M) → QueuedState P
  queued_by [] = record { pending = words.empty; ping = false; immediate = false; ecn = no_ecn }
  queued_by (loses number ∷ earlier) = let lost = packet_at (sent_by words earlier).tracked number in
      record (queued_by earlier) { pending = joined_with (queued_by earlier).pending lost }
  queued_by (probes immediate found ∷ earlier) =
      probe_queued immediate found (sent_by words earlier).tracked (queued_by earlier)
  queued_by (takes_pending ∷ earlier) = record (queued_by earlier) { pending = words.empty }
  queued_by (emptied ∷ earlier) = record (queued_by earlier) { pending = words.empty }
  queued_by (feeds_back counts ∷ earlier) = record (queued_by earlier) { ecn = counts }
  queued_by (entry ∷ earlier) = queued_by earlier

module _ {P S : Type 0} (words : QueueSemantics P S) where
  -- ---- what can be sent

  -- something other than an ACK is to be sent
  abbrev pub has_other : S → QueuedState P → Bool
  has_other streams queued = not (words.is_empty queued.pending streams) || (queued.ping || queued.immediate)

  -- an ACK can be sent if one is required and some number waits for it
  abbrev pub IsSendable : S → AckState → QueuedState P → SendableFrames → Type 0
  IsSendable streams known queued frames =
      (IsTrue frames.acks ↔ (known.required × ((n : ℕ) × known.pending n))) × (frames.other ≡ has_other streams queued)
