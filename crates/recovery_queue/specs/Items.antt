-- The contents of a queue of item numbers: the items, in the order in which they were added (RFC 9000, 13.3).
use Rattle.std.specs.Prelude.{ℕ, List, [], ◌++◌, length, ◌==◌}
use Rattle.recovery_queue.specs.Queues.{QueueSemantics}

-- the others are appended; the streams are ignored
abbrev pub item_words : {S : Type 0} → QueueSemantics (List ℕ) S
item_words = record {
  empty = [];
  joined = λ items others. items ++ others;
  is_empty = λ items _. length items == 0;
}
