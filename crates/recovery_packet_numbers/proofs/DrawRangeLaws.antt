-- The ranges from which skips are drawn are not empty, and their bounds fit 64 bits. `PacketNumberFilter` and
-- `DrawLaws` rest on it.
use Rattle.std.proofs.Common.{◌≡◌, ℕ, ◌+◌, ◌*◌, ◌%◌, ◌<◌, ◌≤◌, ◌^◌, max, arith, add-one}
use Rattle.std.proofs.Math.Pow.{pow_mono, pow-lt}
use Rattle.std.proofs.Math.Nat.{pow-suc}
use Rattle.std.specs.Prelude.{◌≢◌}
use Rattle.recovery_packet_numbers.specs.Filters.{Filter, number_by, IsFilterSound}

twice : (exponent : ℕ) → 2 ^ (exponent + 1) ≡ 2 ^ exponent * 2
twice _ = rw (add-one, pow-suc)

-- a number that is not the next one follows a skip, and if it is below the limit, the next skip can be drawn
pub can_draw : (filter : Filter) → IsFilterSound filter → (n number : ℕ) → number ≡ number_by filter n → number ≢ n
    → number < 2 ^ 62
    → (filter.exponent ≤ 62) × (n < 2 ^ filter.exponent)
can_draw filter sound n _ is other small =
    grind arith

pub range_wide : (exponent skip : ℕ) → 6 ≤ exponent → skip < 2 ^ exponent
    → max (2 ^ exponent) (skip + 2) < 2 ^ (exponent + 1)
range_wide exponent _ first below =
    let power : 2 ^ 6 ≤ 2 ^ exponent = pow_mono first in rw twice (omega arith)

-- ---- the bounds as the code computes them

pub power_fits : (exponent : ℕ) → exponent ≤ 62 → 1 * 2 ^ exponent % 18446744073709551616 ≡ 2 ^ exponent
power_fits exponent last =
    let small : exponent < 64 = omega arith in
    let power : 2 ^ exponent < 2 ^ 64 = pow-lt small in omega arith

pub power_doubles : (exponent : ℕ) → exponent ≤ 62 → 1 * 2 ^ (exponent + 1) % 18446744073709551616 ≡ 2 ^ exponent * 2
power_doubles exponent last =
    let small : exponent + 1 < 64 = omega arith in
    let power : 2 ^ (exponent + 1) < 2 ^ 64 = pow-lt small in omega (arith, twice exponent)

pub power_least : (exponent : ℕ) → 6 ≤ exponent → 2 ^ 6 ≤ 2 ^ exponent
power_least _ first = pow_mono first

pub ruleset powers = (power_fits, power_doubles, power_least)
