-- The value of a `Bottleneck` in contracts.
use Rattle.recovery_network.specs.declared.bottleneck.Bottleneck.TheInside.{Inside}
use Rattle.recovery_network.specs.Bottlenecks.{Queue}

abbrev pub queue_in : Inside → Queue
queue_in queue = record {
  rate = queue.rates.first;
  changes = queue.rates.changes.items;
  room = queue.room;
  waiting = queue.waiting.items;
  bytes = queue.bytes;
  free = queue.free;
  most = queue.most;
}
