-- What a space stores about sent packets for loss recovery and probes (RFC 9002, A.3 and 6.2.4).
use Rattle.std.specs.Prelude.{ℕ, ◌+◌, ◌-◌, min, List, [], ◌∷◌, Option, None, Some, if◌then◌else◌}
use Rattle.std.specs.Option.{option_map_or}
use Rattle.recovery_base.specs.Units.{largest_u32}
use Rattle.recovery_queue.specs.Queues.{QueueSemantics}
use Rattle.recovery_spaces.specs.Packets.{packet_at, is_above}
use Rattle.recovery_spaces.specs.SpaceLog.{SpaceEntry, sends, acknowledged, probes}
use Rattle.recovery_spaces.specs.Tracked.{sent_by}

-- when the last ack-eliciting packet was sent
abbrev pub last_eliciting_sent : {P M : Type 0} → List (SpaceEntry P M) → Option ℕ
last_eliciting_sent [] = None
last_eliciting_sent (sends number packet ∷ earlier) =
    if packet.ack_eliciting then Some packet.time_sent else last_eliciting_sent earlier
last_eliciting_sent (entry ∷ earlier) = last_eliciting_sent earlier

-- one more probe, up to the counter's maximum
abbrev pub one_more : ℕ → ℕ
one_more count = min (count + 1) largest_u32

-- how many probes are still to be sent: each ack-eliciting packet is one of them
abbrev pub probes_by : {P M : Type 0} → List (SpaceEntry P M) → ℕ
probes_by [] = 0
probes_by (sends number packet ∷ earlier) = if packet.ack_eliciting then probes_by earlier - 1 else probes_by earlier
probes_by (probes immediate found ∷ earlier) = one_more (probes_by earlier)
probes_by (entry ∷ earlier) = probes_by earlier

module _ {P M S : Type 0} (words : QueueSemantics P S) where
  -- the largest acknowledged number, and when its packet was sent; at first none, and the time when the space was made
  abbrev pub largest_acknowledged : ℕ → List (SpaceEntry P M) → Option ℕ × ℕ
  largest_acknowledged start [] = (None, start)
  largest_acknowledged start (acknowledged number ∷ earlier) = let old = largest_acknowledged start earlier in
      option_map_or (λ packet. if is_above old.0 number then (Some number, packet.time_sent) else old)
      (packet_at (sent_by words earlier).tracked number) old
  largest_acknowledged start (entry ∷ earlier) = largest_acknowledged start earlier
