-- The settings of NewReno: its initial window, and how a loss reduces the window (RFC 9002, 7.2 and 7.3.2).
use Rattle.std.specs.Prelude.{ℕ, ◌<◌}

pub record RenoSettings : Type 0 where
  -- the initial window, in bytes
  pub initial_window : ℕ
  -- the factor of the window at a loss
  pub numerator : ℕ
  pub denominator : ℕ

-- the window and the denominator are above zero
abbrev pub ArePositive : RenoSettings → Type 0
ArePositive settings = (0 < settings.initial_window) × (0 < settings.denominator)

-- RFC 9002, 7.2, for datagrams of 1200 bytes, and half the window at a loss (RFC 9002, 7.3.2)
abbrev pub default_reno : RenoSettings
default_reno = record { initial_window = 12000; numerator = 1; denominator = 2 }
