-- What a probe finds to send (RFC 9002, 6.2.4).
use Rattle.std.specs.Prelude.{ℕ, Bool, not, ◌&&◌, filter, Option, None, if◌then◌else◌}
use Rattle.std.specs.Option.{is_none}
use Rattle.recovery_queue.specs.Queues.{QueueSemantics}
use Rattle.recovery_spaces.specs.Packets.{Packets, least_number}

pub record ProbeFound : Type 0 where
  -- the tracked packet whose contents are retransmitted, if the queue is empty
  pub moved : Option ℕ
  -- there is nothing to retransmit
  pub nothing : Bool

module _ {P M S : Type 0} (words : QueueSemantics P S) (streams : S) where
  -- the smallest number of a packet with contents
  abbrev pub first_filled : Packets P M → Option ℕ
  first_filled packets = least_number (filter (λ entry. not (words.is_empty entry.1.retransmits streams)) packets)

  -- what a probe finds, with this retransmission queue
  abbrev pub probe_found : P → Packets P M → ProbeFound
  probe_found pending packets = let none_pending = words.is_empty pending streams in
      let moved = if none_pending then first_filled packets else None in
      record { moved = moved; nothing = none_pending && is_none moved }
