use Rattle.std.proofs.Common.{◌≡◌, ℕ, ◌+◌, ◌%◌, ◌<◌, ◌≤◌, max, None, get_or}
use Rattle.recovery_ids.specs.declared.window.TheConstants.{LEN}
use Rattle.recovery_ids.proofs.window.Window.drop_below.Given as goal

abbrev pub invariant-loop-number : goal.invariant-loop-number
invariant-loop-number l = record {
  start : l.self.start ≡ l.fn.self.start;
  fresh : (n : ℕ) → max (l.fn.self.start + LEN) l.low ≤ n → n < l.number → get_or l.self.entries (n % LEN) None ≡ None;
  kept : (n : ℕ) → l.low ≤ n → n < l.fn.self.start + LEN
      → get_or l.self.entries (n % LEN) None ≡ get_or l.fn.self.entries (n % LEN) None;
}
