-- The earlier of two times, each with what is due at it (RFC 9002, A.8).
use Rattle.std.specs.Prelude.{ℕ, nat_lt, Option, None, Some, if◌then◌else◌}
use Rattle.recovery_losses.specs.declared.due.Due.{Due}

-- the first, if both are equal
abbrev pub sooner : Option (ℕ × Due) → Option (ℕ × Due) → Option (ℕ × Due)
sooner None second = second
sooner first None = first
sooner (Some one) (Some other) = if nat_lt other.0 one.0 then Some other else Some one
