-- When to ask the peer to retire IDs, by the lifetimes that run and the numbers that it retired. `OwnIdsLaws` rest on
-- it for the clause `retirement_requests` of `run`.
use Rattle.std.proofs.lemmas.Bool.Decides.{nat_tests}
use Rattle.std.proofs.Common.{arith, ◌≡◌, ◌≤◌, ◌<◌, ◌+◌, ℕ, zero, suc, true, false, ◌==◌, ◌&&◌, nat_lt, nat_le, not, Bool, List, [], ◌∷◌, map, filter, refl, ap, sym, ◌∙◌}
use Rattle.std.specs.Prelude.{drop, if◌then◌else◌}
use Rattle.std.specs.List.{list_any, range_with_len}
use Rattle.recovery_ids.specs.declared.state.CidTimestamp.{CidTimestamp}
use Rattle.recovery_ids.specs.LocalIds.{LocalIds, AreIncreasingWithin, deadlines_with_last, holds_unretired, next_mark, timed_out, with_issued}
use Rattle.recovery_ids.proofs.DeadlineLaws.{deadlines_with-rise}
use Rattle.recovery_ids.proofs.RiseLaws.{Rise-bound, Rise-wider}

-- ---- numbers of a range that pass a test

same_bool : (a b : Bool) → (a ≡ true → b ≡ true) → (b ≡ true → a ≡ true) → a ≡ b
same_bool true b there back = sym (there refl)
same_bool false true there back = back refl
same_bool false false there back = refl

any_left : (q p : ℕ → Bool) (xs : List ℕ) → list_any q (filter p xs) ≡ list_any (λ n. p n && q n) xs
any_left q p [] = refl
any_left q p (x ∷ xs) = grind (arith, any_left q p xs)

abbrev Found : (ℕ → Bool) → ℕ → ℕ → Type 0
Found q from end = (n : ℕ) × (from ≤ n) × (n < end) × (q n ≡ true)

any_found : (q : ℕ → Bool) (from count : ℕ) → list_any q (range_with_len from count) ≡ true
    → Found q from (from + count)
any_found q from zero some = absurd (cc)
any_found q from (suc count) some = go (q from) refl (λ rest. any_found q (from + 1) count rest)
  where
    go : (b : Bool) → q from ≡ b
        → (list_any q (range_with_len (from + 1) count) ≡ true → Found q (from + 1) (from + 1 + count))
        → Found q from (from + suc count)
    go true is later = (from, omega arith, omega arith, is)
    go false is later =
        let rest = later (grind (arith, some, is)) in
        (rest.0, omega (arith, rest.1), omega (arith, rest.2), rest.3)

found_any : (q : ℕ → Bool) (from count n : ℕ) → from ≤ n → n < from + count → q n ≡ true
    → list_any q (range_with_len from count) ≡ true
found_any q from zero n above below is = absurd (omega (arith, above, below))
found_any q from (suc count) n above below is =
    go (q from) refl (λ past. found_any q (from + 1) count n past (omega (arith, below)) is)
  where
    go : (b : Bool) → q from ≡ b → (from + 1 ≤ n → list_any q (range_with_len (from + 1) count) ≡ true)
        → list_any q (range_with_len from (suc count)) ≡ true
    go true first later = grind (arith, first)
    go false first later =
        let other : ¬ (from ≡ n) = λ same. absurd (grind (arith, same, is, first)) in
        grind (arith, first, later (omega (arith, above, other)))

-- ---- the local IDs

abbrev pub numbers_of : List CidTimestamp → List ℕ
numbers_of deadlines = map (λ deadline. deadline.sequence) deadlines

-- the IDs that are left pass a test, which all do that are not issued yet
abbrev pub AreLeft : (ℕ → Bool) → LocalIds → Type 0
AreLeft p ids = (ids.unretired ≡ filter p (range_with_len 0 ids.issued))
    × ((n : ℕ) → ids.issued ≤ n → p n ≡ true)

-- the marks increase, followed by the numbers of the lifetimes that run
abbrev pub AreMarked : LocalIds → Type 0
AreMarked ids =
    (ids.retired_below ≤ ids.retire_prior_to) × AreIncreasingWithin ids.retire_prior_to ids.issued
    (numbers_of ids.deadlines)

-- by the numbers that the peer retired, and the one below which it was asked to: all below the first mark are retired,
-- and so are those from there up to the second
pub record AreAsked (p : ℕ → Bool) (asked : ℕ) (ids : LocalIds) : Type 0 where
  pub first : (n : ℕ) → n < ids.retired_below → p n ≡ false
  pub low : asked ≤ ids.retire_prior_to
  pub second : (n : ℕ) → asked ≤ n → n < ids.retire_prior_to → p n ≡ false

mark_rises : (mark count : ℕ) (deadlines : List CidTimestamp) → AreIncreasingWithin mark count (numbers_of deadlines)
    → (mark ≤ next_mark mark deadlines) × AreIncreasingWithin (next_mark mark deadlines) count
    (numbers_of (drop 1 deadlines))
    × AreIncreasingWithin mark count (numbers_of (drop 1 deadlines))
mark_rises mark count [] rise = (omega arith, rise, rise)
mark_rises mark count (oldest ∷ later) rise = grind (
  arith,
  rise,
  Rise-wider (oldest.sequence + 1) count mark count (numbers_of later),
)

module _ (p : ℕ → Bool) (asked : ℕ) (ids : LocalIds) (left : AreLeft p ids) (marked : AreMarked ids)
    (here : AreAsked p asked ids) where
  abbrev pub lives : ℕ → Bool
  lives end = list_any p (range_with_len 0 end)

  abbrev pub answer : Bool
  answer = let later = timed_out ids in holds_unretired ids.retire_prior_to later.retire_prior_to later

  -- one that is left between two numbers
  held_found : (low high : ℕ) → holds_unretired low high ids ≡ true → Found p low high
  held_found low high holds =
      let q : ℕ → Bool = λ n. nat_le low n && nat_lt n high in
      let one = any_found (λ n. p n && q n) 0 ids.issued
      (sym (any_left q p (range_with_len 0 ids.issued)) ∙ ap (λ ns. list_any q ns) (sym left.0) ∙ holds) in
      let both = one.3 in
      (one.0, grind (arith, nat_tests, both), grind (arith, nat_tests, both), grind (arith, nat_tests, both))

  found_held : (low high n : ℕ) → low ≤ n → n < high → high ≤ ids.issued → p n ≡ true
      → holds_unretired low high ids ≡ true
  found_held low high n above below small is =
      let q : ℕ → Bool = λ n. nat_le low n && nat_lt n high in
      ap (λ ns. list_any q ns) left.0 ∙ any_left q p (range_with_len 0 ids.issued)
      ∙ found_any (λ n. p n && q n) 0 ids.issued n (omega arith) (omega (arith, below, small))
      (grind (arith, nat_tests, above, below, is))

  nowhere : (at : ℕ) → holds_unretired at at ids ≡ false
  nowhere at = go (holds_unretired at at ids) refl
    where
      go : (b : Bool) → holds_unretired at at ids ≡ b → holds_unretired at at ids ≡ false
      go false is = is
      go true is = let none = held_found at at is in absurd (omega (arith, none.1, none.2))

  -- if it waits for some that the peer was asked to retire before
  waits : holds_unretired ids.retired_below ids.retire_prior_to ids ≡ true → (answer ≡ false) × (lives asked ≡ true)
  waits holds =
      let one = held_found ids.retired_below ids.retire_prior_to holds in (
        grind (arith, holds, nowhere ids.retire_prior_to),
        found_any p 0 asked one.0 (omega arith) (below one.0 one.2 one.3) one.3,
      )
    where
      below : (n : ℕ) → n < ids.retire_prior_to → p n ≡ true → n < 0 + asked
      below n small is = grind (arith, here.second n, small, is)

  -- all that it was asked before are retired: so are all below the second mark
  module _ (none : holds_unretired ids.retired_below ids.retire_prior_to ids ≡ false) where
    all_retired : (n : ℕ) → n < ids.retire_prior_to → p n ≡ false
    all_retired n below = go (p n) refl
      where
        go : (b : Bool) → p n ≡ b → p n ≡ false
        go false is = is
        go true is = go_low (nat_lt n ids.retired_below) refl
          where
            go_low : (b : Bool) → nat_lt n ids.retired_below ≡ b → p n ≡ false
            go_low true low = here.first n (grind (arith, nat_tests, low))
            go_low false high =
                let holds = found_held ids.retired_below ids.retire_prior_to n (grind (arith, nat_tests, high)) below
                (Rise-bound ids.retire_prior_to ids.issued (numbers_of ids.deadlines) marked.1) is in
                cc

    none_lives : lives asked ≡ false
    none_lives = go (lives asked) refl
      where
        go : (b : Bool) → lives asked ≡ b → lives asked ≡ false
        go false is = is
        go true is =
            let one = any_found p 0 asked is in
            let retired = all_retired one.0 (omega (arith, here.low, one.2)) in
            let lives = one.3 in
            cc

    -- it is asked for those up to the oldest lifetime
    abbrev end : ℕ
    end = next_mark 0 ids.deadlines

    moved : answer ≡ holds_unretired ids.retire_prior_to (next_mark ids.retire_prior_to ids.deadlines) ids
    moved = grind (arith, none)

    mark_now : (timed_out ids).retire_prior_to ≡ next_mark ids.retire_prior_to ids.deadlines
    mark_now = grind (arith, none)

    first_now : (timed_out ids).retired_below ≡ ids.retire_prior_to
    first_now = grind (arith, none)

    within : (deadlines : List CidTimestamp) → AreIncreasingWithin ids.retire_prior_to ids.issued (numbers_of deadlines)
        → next_mark ids.retire_prior_to deadlines ≤ ids.issued
    within deadlines rise =
        let rises = mark_rises ids.retire_prior_to ids.issued deadlines rise in
        Rise-bound (next_mark ids.retire_prior_to deadlines) ids.issued (numbers_of (drop 1 deadlines)) rises.1

    asks : (deadlines : List CidTimestamp) → AreIncreasingWithin ids.retire_prior_to ids.issued (numbers_of deadlines)
        → holds_unretired ids.retire_prior_to (next_mark ids.retire_prior_to deadlines) ids
        ≡ lives (next_mark 0 deadlines)
    asks [] rise = nowhere ids.retire_prior_to
    asks (oldest ∷ later) rise = same_bool _ _
        (
        λ some. (
        let one = held_found ids.retire_prior_to (oldest.sequence + 1) some in
        found_any p 0 (oldest.sequence + 1) one.0 (omega arith) (omega (arith, one.2)) one.3
        )
        )
        (
        λ some. (
        let one = any_found p 0 (oldest.sequence + 1) some in
        found_held ids.retire_prior_to (oldest.sequence + 1) one.0 (above one.0 one.3) (omega (arith, one.2))
        (within (oldest ∷ later) rise) one.3
        )
        )
      where
        above : (n : ℕ) → p n ≡ true → ids.retire_prior_to ≤ n
        above n is = grind (arith, nat_tests, all_retired n, is)

    unasked : holds_unretired ids.retire_prior_to (next_mark ids.retire_prior_to ids.deadlines) ids ≡ false
        → (n : ℕ) → n < next_mark ids.retire_prior_to ids.deadlines → p n ≡ false
    unasked quiet n below = go (p n) refl
      where
        go : (b : Bool) → p n ≡ b → p n ≡ false
        go false is = is
        go true is = from (nat_lt n ids.retire_prior_to) refl
          where
            from : (b : Bool) → nat_lt n ids.retire_prior_to ≡ b → p n ≡ false
            from true low = all_retired n (grind (arith, nat_tests, low))
            from false high =
                let holds = found_held ids.retire_prior_to (next_mark ids.retire_prior_to ids.deadlines) n
                (grind (arith, nat_tests, high)) below (within ids.deadlines marked.1) is in
                cc

    yes_same : (deadlines : List CidTimestamp)
        → holds_unretired ids.retire_prior_to (next_mark ids.retire_prior_to deadlines) ids ≡ true
        → next_mark 0 deadlines ≡ next_mark ids.retire_prior_to deadlines
    yes_same [] does = let idle = nowhere ids.retire_prior_to in cc
    yes_same (oldest ∷ later) does = refl

    asked_on : (flag : Bool) → answer ≡ flag
        → AreAsked p (if flag then next_mark 0 ids.deadlines else asked) (timed_out ids)
    asked_on true does =
        let same = yes_same ids.deadlines (sym moved ∙ does) in record {
          first = λ n below. all_retired n (omega (arith, below, first_now));
          low = omega (arith, same, mark_now);
          second = λ n above below. absurd (omega (arith, above, below, same, mark_now));
        }
    asked_on false idle =
        let rises = mark_rises ids.retire_prior_to ids.issued ids.deadlines marked.1 in record {
          first = λ n below. all_retired n (omega (arith, below, first_now));
          low = omega (arith, here.low, rises.0, mark_now);
          second = λ n above below. unasked (sym moved ∙ idle) n (omega (arith, below, mark_now));
        }

  -- the answer is what the history says
  pub is_asked : answer ≡ (not (lives asked) && lives (next_mark 0 ids.deadlines))
  is_asked = go (holds_unretired ids.retired_below ids.retire_prior_to ids) refl
    where
      go : (b : Bool) → holds_unretired ids.retired_below ids.retire_prior_to ids ≡ b
          → answer ≡ (not (lives asked) && lives (next_mark 0 ids.deadlines))
      go true holds = let both = waits holds in grind (arith, both)
      go false none =
          let asked_now = asks none ids.deadlines marked.1 in
          grind (arith, none_lives none, asked_now, moved none)

  -- the state after a timeout
  pub timed_marked : AreMarked (timed_out ids)
  timed_marked =
      let rises = mark_rises ids.retire_prior_to ids.issued ids.deadlines marked.1 in grind (arith, rises, marked.0)

  pub timed_asked : (flag : Bool) → answer ≡ flag
      → AreAsked p (if flag then next_mark 0 ids.deadlines else asked) (timed_out ids)
  timed_asked flag is = go (holds_unretired ids.retired_below ids.retire_prior_to ids) refl flag is
    where
      waiting : (flag : Bool) → answer ≡ flag → holds_unretired ids.retired_below ids.retire_prior_to ids ≡ true
          → AreAsked p (if flag then next_mark 0 ids.deadlines else asked) (timed_out ids)
      waiting true is holds = let idle = (waits holds).0 in cc
      waiting false is holds = grind (arith, holds, here.first, here.low, here.second)

      go : (b : Bool) → holds_unretired ids.retired_below ids.retire_prior_to ids ≡ b → (flag : Bool) → answer ≡ flag
          → AreAsked p (if flag then next_mark 0 ids.deadlines else asked) (timed_out ids)
      go true holds flag is = waiting flag is holds
      go false none flag is = asked_on none flag is

-- ---- IDs that are issued

pub marked_more : (count now : ℕ) (ids : LocalIds) → AreMarked ids → AreMarked (with_issued count now ids)
marked_more zero now ids marked = marked
marked_more (suc count) now ids marked =
    let end : ids.issued + suc count ≡ ids.issued + count + 1 = omega arith in (
      marked.0,
      rw end (deadlines_with-rise ids.cid_lifetime now ids.retire_prior_to (ids.issued + count) ids.deadlines
          (Rise-wider ids.retire_prior_to ids.issued ids.retire_prior_to (ids.issued + count)
          (numbers_of ids.deadlines) marked.1 (omega arith) (omega arith))),
    )

pub asked_more : (p : ℕ → Bool) (asked count now : ℕ) (ids : LocalIds) → AreAsked p asked ids
    → AreAsked p asked (with_issued count now ids)
asked_more p asked zero now ids here = here
asked_more p asked (suc count) now ids here =
    record { first = here.first; low = here.low; second = here.second }

pub lifetime_stays : (count now : ℕ) (ids : LocalIds) → (with_issued count now ids).cid_lifetime ≡ ids.cid_lifetime
lifetime_stays zero now ids = refl
lifetime_stays (suc count) now ids = refl

pub deadlines_more : (count now : ℕ) (ids : LocalIds)
    → (with_issued count now ids).deadlines ≡ (if count == 0 then ids.deadlines
    else deadlines_with_last ids.cid_lifetime now (ids.issued + count) ids.deadlines)
deadlines_more zero now ids = refl
deadlines_more (suc count) now ids =
    let end : ids.issued + suc count ≡ suc (ids.issued + count) = omega arith in grind (arith, nat_tests, end)

-- a number that the peer retires
pub asked_less : (p q : ℕ → Bool) (asked : ℕ) (ids less : LocalIds) → ((n : ℕ) → p n ≡ false → q n ≡ false)
    → less.retired_below ≡ ids.retired_below → less.retire_prior_to ≡ ids.retire_prior_to → AreAsked p asked ids
    → AreAsked q asked less
asked_less p q asked ids less goes first second here = record {
  first = λ n below. goes n (here.first n (omega (arith, below, first)));
  low = omega (arith, here.low, second);
  second = λ n above below. goes n (here.second n above (omega (arith, below, second)));
}
