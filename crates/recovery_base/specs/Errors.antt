-- Error codes of a connection that is closed.
use Rattle.std.specs.Prelude.{ℕ}

-- PROTOCOL_VIOLATION (RFC 9000, 20.1)
abbrev pub protocol_violation : ℕ
protocol_violation = 10
