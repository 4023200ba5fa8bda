-- The value of a `CubicConfig` in contracts: the initial window, in bytes.
use Rattle.std.specs.Prelude.{ℕ}
use Rattle.recovery_cubic.specs.declared.cubic.CubicConfig.TheInside.{Inside}

abbrev pub window_in : Inside → ℕ
window_in config = config.initial_window

abbrev pub window_back : ℕ → Inside
window_back window = record { initial_window = window }

-- RFC 9002, 7.2, for datagrams of 1200 bytes
abbrev pub default_window : ℕ
default_window = 12000
