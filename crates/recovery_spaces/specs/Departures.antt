-- How often a number occurs among others.
use Rattle.std.specs.Prelude.{ℕ, ◌==◌, if◌then◌else◌}

abbrev pub one_if_same : ℕ → ℕ → ℕ
one_if_same number other = if number == other then 1 else 0
