-- The fractions of RFC 9438, each as a numerator and a denominator.
use Rattle.std.specs.Prelude.{ℕ}

-- beta_cubic, 0.7 (4.6): the factor of the window in a reduction
abbrev pub beta_numerator : ℕ
beta_numerator = 7

abbrev pub beta_denominator : ℕ
beta_denominator = 10

-- (1 + beta_cubic) / 2, 0.85 (4.7): the factor of W_max in fast convergence
abbrev pub convergence_numerator : ℕ
convergence_numerator = 17

abbrev pub convergence_denominator : ℕ
convergence_denominator = 20

-- alpha_cubic, 9/17 (4.3): how fast the Reno-friendly estimate grows
abbrev pub alpha_numerator : ℕ
alpha_numerator = 9

abbrev pub alpha_denominator : ℕ
alpha_denominator = 17
