-- Worked rows: the results of issues, timeouts and retirements, computed. Nothing rests on them.
use Rattle.std.proofs.Common.{◌≡◌, ℕ, [], ◌∷◌, Some, refl}
use Rattle.recovery_ids.specs.LocalIds.{LocalIds, no_ids, timed_out, with_issued, without_number}

-- two IDs at first, of eight bytes, each for ten seconds
abbrev first : LocalIds
first = with_issued 2 0 (no_ids 8 (Some 10_000_000_000))

-- two more after a second
abbrev more : LocalIds
more = with_issued 2 1_000_000_000 first

-- the first deadline passes, and the peer retires number 0
abbrev retired : LocalIds
retired = without_number 0 (timed_out more)

-- the second deadline passes, while number 1 is not retired
abbrev waiting : LocalIds
waiting = timed_out retired

one_deadline_at_first : first.deadlines ≡ record { sequence = 1; timestamp = 10_000_000_000 } ∷ []
one_deadline_at_first = refl

count : waiting.issued ≡ 4
count = refl

-- the peer retired number 0, and not number 1
others_are_unretired : waiting.unretired ≡ 1 ∷ 2 ∷ 3 ∷ []
others_are_unretired = refl

one_deadline_each_batch : more.deadlines
    ≡ record { sequence = 1; timestamp = 10_000_000_000 } ∷ record { sequence = 3; timestamp = 11_000_000_000 } ∷ []
one_deadline_each_batch = refl

none_is_left : waiting.deadlines ≡ []
none_is_left = refl

abbrev marks : LocalIds → ℕ × ℕ
marks ids = (ids.retired_below, ids.retire_prior_to)

mark_moves : marks retired ≡ (0, 2)
mark_moves = refl

mark_waits : marks waiting ≡ (0, 2)
mark_waits = refl

-- after number 1 is retired too, a timeout moves the first mark
mark_follows : marks (timed_out (without_number 1 retired)) ≡ (2, 4)
mark_follows = refl
