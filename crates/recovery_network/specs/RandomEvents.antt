-- Random events: they follow only from the chances and from a generator's outputs.
use Rattle.std.specs.Prelude.{ℕ, ◌-◌, ◌*◌, ◌%◌, ◌==◌, min, Bool, true, false, not, nat_lt, nat_le, if◌then◌else◌}
use Rattle.rand_core.specs.Stream.{Stream, next_u64}
use Rattle.recovery_base.specs.Units.{largest_u64}
use Rattle.recovery_network.specs.declared.draws.Chances.{Chances}

-- the whole of which chances are parts
abbrev pub million : ℕ
million = 1000000

-- An event with a chance of parts among all happens if the next output's rest is one of the parts. It uses up that
-- output; an event without a chance uses up none.
abbrev pub happens_by : ℕ → ℕ → ℕ × Stream → Bool × Stream
happens_by parts all (word, words) = (nat_lt (word % all) parts, words)

abbrev pub happens : ℕ → ℕ → Stream → Bool × Stream
happens parts all words = if parts == 0 then (false, words) else happens_by parts all (next_u64 words)

-- ---- losses: of each packet by itself, or in bursts

-- whether the packet is lost, whether those after it are in a burst, and the outputs that are left
abbrev pub alone : Bool → Bool × Stream → Bool × Bool × Stream
alone is_bad (is_lost, words) = (is_lost, is_bad, words)

abbrev pub burst_begins : Bool × Stream → Bool × Bool × Stream
burst_begins (begins, words) = (begins, begins, words)

abbrev pub burst_ends : Bool × Stream → Bool × Bool × Stream
burst_ends (ends, words) = (not ends, not ends, words)

-- A burst ends with a chance of one in its average length after each packet. It begins with the chance by which as many
-- packets as asked for are lost in all (Gilbert and Elliott).
abbrev pub in_bursts : Chances → Bool → Stream → Bool × Bool × Stream
in_bursts chances true words = burst_ends (happens 1 chances.burst words)
in_bursts chances false words =
    burst_begins (happens chances.loss (min largest_u64 ((million - chances.loss) * chances.burst)) words)

abbrev pub are_alone : Chances → Bool
are_alone chances = if chances.burst == 0 then true else nat_le million chances.loss

abbrev pub lost : Chances → Bool → Stream → Bool × Bool × Stream
lost chances is_bad words =
    if are_alone chances then alone is_bad (happens chances.loss million words) else in_bursts chances is_bad words
