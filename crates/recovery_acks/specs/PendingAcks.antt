-- The value of a `PendingAcks` in contracts.
use Rattle.recovery_acks.specs.Acks.{Acks}
use Rattle.recovery_acks.specs.declared.pending.PendingAcks.TheInside.{Inside}

abbrev pub acks_in : Inside → Acks
acks_in acks = record {
  required = acks.immediate_ack_required;
  base = acks.earliest_ack_eliciting_since_last_ack_sent;
  ranges = acks.ranges;
  counts = record {
    eliciting = acks.ack_eliciting_since_last_ack_sent;
    silent = acks.non_ack_eliciting_since_last_ack_sent;
    thresholds = (acks.ack_eliciting_threshold, acks.reordering_threshold);
    largest = acks.largest_packet;
    greatest = acks.largest_ack_eliciting_packet;
    acknowledged = acks.largest_acked;
  };
}
