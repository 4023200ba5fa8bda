-- The local IDs (RFC 9000, 5.1.2 and 19.16): those that the peer did not retire, and when to ask it to retire them.
use Rattle.std.specs.Prelude.{ℕ, zero, suc, ◌≡◌, ◌≢◌, ◌+◌, ◌<◌, ◌≤◌, ◌==◌, ◌&&◌, nat_lt, nat_le, not, Bool, IsTrue, ◌↔◌, List, [], ◌∷◌, ◌++◌, length, map, filter, drop, Option, None, Some, if◌then◌else◌}
use Rattle.std.specs.List.{list_any, range_with_len}
use lib.Chars.{codes}
use Rattle.recovery_base.specs.Units.{number_limit, u64_limit}
use Rattle.recovery_ids.specs.declared.state.CidTimestamp.{CidTimestamp}
use Rattle.recovery_ids.specs.declared.state.RetireError.{RetireError}
use Rattle.recovery_ids.specs.declared.state.RetireError.TheVariants.{CidsNotInUse, UnissuedCid}

-- the numbers issued and not retired, in order; the mark below which all are retired, and the mark below which the peer
-- is asked to retire. The deadlines, the oldest first, are a number each, and when those up to it are to be retired
pub record LocalIds : Type 0 where
  pub cid_len : ℕ
  pub cid_lifetime : Option ℕ
  pub issued : ℕ
  pub unretired : List ℕ
  pub retired_below : ℕ
  pub retire_prior_to : ℕ
  pub deadlines : List CidTimestamp

-- the list without its last deadline, if that has this time
abbrev pub without_last_at : ℕ → List CidTimestamp → List CidTimestamp
without_last_at moment [] = []
without_last_at moment (last ∷ []) = if last.timestamp == moment then [] else last ∷ []
without_last_at moment (first ∷ next ∷ later) = first ∷ without_last_at moment (next ∷ later)

-- the list with a deadline appended; it replaces a last one with the same time
abbrev pub with_deadline : CidTimestamp → List CidTimestamp → List CidTimestamp
with_deadline deadline deadlines = without_last_at deadline.timestamp deadlines ++ deadline ∷ []

-- the deadlines after a number is issued: one more, a lifetime later, if there is a lifetime and the clock has that
-- time
abbrev pub deadlines_with : Option ℕ → ℕ → ℕ → List CidTimestamp → List CidTimestamp
deadlines_with None now number deadlines = deadlines
deadlines_with (Some lifetime) now number deadlines =
    if nat_lt (now + lifetime) u64_limit
    then with_deadline record { sequence = number; timestamp = now + lifetime } deadlines
    else deadlines

-- the deadlines after numbers below a count are issued, with one for the last of them
abbrev pub deadlines_with_last : Option ℕ → ℕ → ℕ → List CidTimestamp → List CidTimestamp
deadlines_with_last lifetime now zero deadlines = deadlines
deadlines_with_last lifetime now (suc number) deadlines = deadlines_with lifetime now number deadlines

-- no IDs yet; they will have this length, and this lifetime, if there is one
abbrev pub no_ids : ℕ → Option ℕ → LocalIds
no_ids cid_len lifetime = record {
  cid_len = cid_len;
  cid_lifetime = lifetime;
  issued = 0;
  unretired = [];
  retired_below = 0;
  retire_prior_to = 0;
  deadlines = [];
}

-- this many more IDs, with one deadline, for the last of them
abbrev pub with_issued : ℕ → ℕ → LocalIds → LocalIds
with_issued zero now ids = ids
with_issued (suc count) now ids = record ids {
  issued = ids.issued + suc count;
  unretired = ids.unretired ++ range_with_len ids.issued (suc count);
  deadlines = deadlines_with ids.cid_lifetime now (ids.issued + count) ids.deadlines;
}

-- whether one of the numbers low to high - 1 is not retired
abbrev pub holds_unretired : ℕ → ℕ → LocalIds → Bool
holds_unretired low high ids = list_any (λ n. nat_le low n && nat_lt n high) ids.unretired

-- the mark after the number of the oldest deadline; without a deadline it is unchanged
abbrev pub next_mark : ℕ → List CidTimestamp → ℕ
next_mark mark [] = mark
next_mark mark (oldest ∷ later) = oldest.sequence + 1

-- a timeout removes the oldest deadline; the marks move if all numbers between them are retired
abbrev pub timed_out : LocalIds → LocalIds
timed_out ids =
    let later = record ids { deadlines = drop 1 ids.deadlines } in
    let mark = ids.retire_prior_to in
    if holds_unretired ids.retired_below mark ids then later
    else record later { retired_below = mark; retire_prior_to = next_mark mark ids.deadlines }

-- the IDs without a number that the peer retires
abbrev pub without_number : ℕ → LocalIds → LocalIds
without_number number ids = record ids { unretired = filter (λ n. not (n == number)) ids.unretired }

-- the errors of a retirement
abbrev pub RefusesRetirement : LocalIds → ℕ → RetireError → Type 0
RefusesRetirement ids number CidsNotInUse = ids.cid_len ≡ 0
RefusesRetirement ids number UnissuedCid = (ids.cid_len ≢ 0) × (ids.issued ≤ number)

-- the texts of these errors
abbrev pub retire_text : RetireError → List ℕ
retire_text CidsNotInUse = codes "RETIRE_CONNECTION_ID when CIDs aren't in use"
retire_text UnissuedCid = codes "RETIRE_CONNECTION_ID for unissued sequence number"

-- an accepted retirement: the answer states whether the limit leaves room for one more ID
pub record AcceptsRetirement (old : LocalIds) (number limit : ℕ) (more : Bool) (new : LocalIds) : Type 0 where
  pub in_use : old.cid_len ≢ 0
  pub issued : number < old.issued
  pub retired : new ≡ without_number number old
  pub room : IsTrue more ↔ (length new.unretired < limit)

-- the numbers increase, from low up to high - 1
abbrev pub AreIncreasingWithin : ℕ → ℕ → List ℕ → Type 0
AreIncreasingWithin low high [] = low ≤ high
AreIncreasingWithin low high (n ∷ ns) = (low ≤ n) × AreIncreasingWithin (n + 1) high ns

-- the unretired numbers increase from the first mark, the deadlines' numbers from the second, all below the count
-- issued
pub record AreSoundIds (ids : LocalIds) : Type 0 where
  pub small : ids.issued ≤ number_limit
  pub marks : ids.retired_below ≤ ids.retire_prior_to
  pub unretired : AreIncreasingWithin ids.retired_below ids.issued ids.unretired
  pub deadlines : AreIncreasingWithin ids.retire_prior_to ids.issued (map (λ deadline. deadline.sequence) ids.deadlines)

-- the time of the oldest deadline
abbrev pub first_moment : List CidTimestamp → Option ℕ
first_moment [] = None
first_moment (oldest ∷ later) = Some oldest.timestamp
