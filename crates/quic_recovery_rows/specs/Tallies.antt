-- The contents of a tally: how many bytes wait for retransmission (RFC 9000, 13.3).
use Rattle.std.specs.Prelude.{ℕ, ◌+◌, ◌==◌, ◌||◌, not, Bool}
use Rattle.recovery_queue.specs.Queues.{QueueSemantics}

-- bytes are added up; if their stream is closed nothing is to be sent
abbrev pub tally_words : QueueSemantics ℕ Bool
tally_words = record {
  empty = 0;
  joined = λ bytes others. bytes + others;
  is_empty = λ bytes is_open. (bytes == 0) || not is_open;
}
