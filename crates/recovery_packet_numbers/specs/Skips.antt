-- Packet numbers that are skipped (RFC 9000, 21.4). They follow only from how skips begin and from the random words of
-- a generator.
use Rattle.std.specs.Prelude.{ℕ, zero, suc, ◌≡◌, ◌+◌, ◌-◌, ◌<◌, ◌^◌, ◌==◌, max, ⊤, Bool, true, false, if◌then◌else◌, Option, None, Some, List}
use Rattle.std.specs.Option.{option_map_or}
use Rattle.rand_core.specs.Stream.{Call, Stream, next_u64}
use Rattle.rand.specs.Draw.{draw_map}
use Rattle.rand.specs.Uniform.{canon}
use Rattle.recovery_base.specs.Units.{u64_limit}
use Rattle.recovery_packet_numbers.specs.declared.filter.Skips.{Skips}
use Rattle.recovery_packet_numbers.specs.declared.filter.Skips.TheVariants.{Drawn, Starting, Disabled}

-- each word of a stream fits 64 bits, as those of every generator do
abbrev pub AreWords : Stream → Type 0
AreWords words = (calls : List Call) → words.u64_after calls < u64_limit

-- a number from low up to below end, as `random_range` draws it from the stream, and the rest of the stream
abbrev pub draw : ℕ → ℕ → Stream → ℕ × Stream
draw low end words = draw_map (λ above. low + above) (canon u64_limit next_u64 (end - low)) words

-- ---- the sequence of skips

-- the first skip is below 2 to this power
abbrev pub first_exponent : ℕ
first_exponent = 6

-- the first skip is below it
abbrev pub first_skip_limit : ℕ
first_skip_limit = 2 ^ first_exponent

-- `Starting(n)` requires n below 64
abbrev pub IsSkips : Skips → Type 0
IsSkips Drawn = ⊤
IsSkips (Starting n) = n < first_skip_limit
IsSkips Disabled = ⊤

-- a skip drawn in this way
abbrev pub drawn : ℕ → ℕ → Stream → Option ℕ × Stream
drawn low end = draw_map Some (draw low end)

-- the first skip, if there is one, and the rest of the stream
abbrev pub first_skip : Skips → Stream → Option ℕ × Stream
first_skip Drawn words = drawn 0 first_skip_limit words
first_skip (Starting n) words = (Some n, words)
first_skip Disabled words = (None, words)

-- the skip after s is above s + 1, which was sent; without a skip there is no next one
abbrev pub next_skip : ℕ → Option ℕ × Stream → Option ℕ × Stream
next_skip exponent (None, words) = (None, words)
next_skip exponent (Some s, words) = drawn (max (2 ^ exponent) (s + 2)) (2 ^ (exponent + 1)) words

-- the skips, counted from 0
abbrev pub skip_at : Skips → Stream → ℕ → Option ℕ × Stream
skip_at skips words zero = first_skip skips words
skip_at skips words (suc k) = next_skip (first_exponent + k) (skip_at skips words k)

-- ---- the numbers

abbrev pub is_at : ℕ → Option ℕ → Bool
is_at n skip = option_map_or (λ s. n == s) skip false

-- the count of skips below n
abbrev pub skips_below : Skips → Stream → ℕ → ℕ
skips_below skips words zero = 0
skips_below skips words (suc n) =
    let count = skips_below skips words n in
    if is_at n (skip_at skips words count).0 then suc count else count

abbrev pub is_skipped : Skips → Stream → ℕ → Bool
is_skipped skips words n = is_at n (skip_at skips words (skips_below skips words n)).0

-- the smallest number from n on that is not skipped
abbrev pub number_from : Skips → Stream → ℕ → ℕ
number_from skips words n = if is_skipped skips words n then n + 1 else n

-- the largest skip below n
abbrev pub skip_before : Skips → Stream → ℕ → Option ℕ
skip_before skips words zero = None
skip_before skips words (suc n) = if is_skipped skips words n then Some n else skip_before skips words n

-- it is the largest skip below n, or there is none
abbrev pub IsGreatestBelow : Skips → Stream → ℕ → Option ℕ → Type 0
IsGreatestBelow skips words n None = (m : ℕ) → m < n → is_skipped skips words m ≡ false
IsGreatestBelow skips words n (Some s) =
    (s < n)
    × (is_skipped skips words s ≡ true)
    × ((m : ℕ) → s < m → m < n → is_skipped skips words m ≡ false)
