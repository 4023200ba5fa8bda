-- Spans of time, in nanoseconds.
use Rattle.std.specs.Prelude.{ℕ, ◌-◌, ◌*◌}
use Rattle.recovery_base.specs.Units.{seconds, u64_limit}

-- every `Duration` is below it
abbrev pub span_limit : ℕ
span_limit = u64_limit * seconds

-- the longest `Duration`
abbrev pub longest_span : ℕ
longest_span = span_limit - 1
