-- Measures of the contents of packets (RFC 9000, 13.3): how many items, how many bytes, which flags, which streams.
use Rattle.std.specs.Prelude.{◌≡◌}
use Rattle.recovery_queue.specs.Queues.{QueueSemantics}

-- by what measures are added up: sums of numbers, flags by 'or', sets by their unions
pub record Totals (T : Type 0) : Type 0 where
  pub zero : T
  pub plus : T → T → T
  pub unit : (a : T) → plus zero a ≡ a
  pub commutes : (a b : T) → plus a b ≡ plus b a
  pub associates : (a b c : T) → plus (plus a b) c ≡ plus a (plus b c)

-- the empty contents measure nothing, and joined ones the total
pub record AddsUp {P S T : Type 0} (words : QueueSemantics P S) (totals : Totals T) (measure : P → T) : Type 0 where
  pub empty : measure words.empty ≡ totals.zero
  pub joined : (p r : P) → measure (words.joined p r) ≡ totals.plus (measure p) (measure r)
