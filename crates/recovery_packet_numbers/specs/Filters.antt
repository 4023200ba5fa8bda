-- The state of a filter of packet numbers, and which acknowledgements it rejects (RFC 9000, 13.1 and 21.4).
use Rattle.std.specs.Prelude.{ℕ, ◌≡◌, ◌+◌, ◌-◌, ◌<◌, ◌≤◌, ◌^◌, nat_lt, nat_le, IsTrue, Bool, ◌&&◌, if◌then◌else◌, Option, Some}
use Rattle.std.specs.Option.{IsSomeAnd}
use Rattle.std.specs.declared.ops.RangeInclusive.{RangeInclusive}
use Rattle.std.specs.Range.{range_inclusive_start, range_inclusive_end, range_inclusive_exhausted}
use lib.Chars.{codes}
use Rattle.rand_core.specs.Stream.{Stream}
use Rattle.recovery_base.specs.declared.below.SpaceId.{SpaceId}
use Rattle.recovery_base.specs.declared.below.SpaceId.TheVariants.{Data}
use Rattle.recovery_base.specs.declared.below.frames.TransportError.{TransportError}
use Rattle.recovery_base.specs.Errors.{protocol_violation}
use Rattle.recovery_packet_numbers.specs.declared.filter.Skips.{Skips}
use Rattle.recovery_packet_numbers.specs.Skips.{next_skip, skip_at, is_at, skips_below, skip_before, first_exponent}

pub record Filter : Type 0 where
  -- the next number to skip
  pub skip : Option ℕ
  -- the last one
  pub last : Option ℕ
  -- the skip after the next one is from 2 to this power up to below twice that
  pub exponent : ℕ

-- a filter, and the remaining random words of its generator
pub record SkipState : Type 0 where
  pub filter : Filter
  pub words : Stream

-- both if the next number is n: one above the last one assigned, or 0
abbrev pub skipping_at : Skips → Stream → ℕ → SkipState
skipping_at skips words n =
    let count = skips_below skips words n in
    let next = skip_at skips words count in
    let filter : Filter = record {
      skip = next.0;
      last = skip_before skips words n;
      exponent = first_exponent + count;
    } in
    record { filter = filter; words = next.1 }

-- the number that a filter assigns if the next one is n
abbrev pub number_by : Filter → ℕ → ℕ
number_by filter n = if is_at n filter.skip then n + 1 else n

-- n was skipped: the next skip is drawn
abbrev pub skipped : ℕ → SkipState → SkipState
skipped n old =
    let next = next_skip old.filter.exponent (Some n, old.words) in
    let filter : Filter = record { skip = next.0; last = Some n; exponent = old.filter.exponent + 1 } in
    record { filter = filter; words = next.1 }

-- a number was assigned when the next one was n
abbrev pub passed : ℕ → SkipState → SkipState
passed n old = if is_at n old.filter.skip then skipped n old else old

-- invariants of every filter: the exponent is from 6 to 63. The next skip is below 2 to the exponent, and, if it is not
-- the first, not below half of that
pub record IsFilterSound (filter : Filter) : Type 0 where
  pub first : first_exponent ≤ filter.exponent
  pub last : filter.exponent ≤ 63
  pub below : (s : ℕ) → filter.skip ≡ Some s → s < 2 ^ filter.exponent
  pub above : (s : ℕ) → filter.skip ≡ Some s → first_exponent < filter.exponent → 2 ^ (filter.exponent - 1) ≤ s

-- ---- acknowledgements

-- whether a number is not above the end of a range; an exhausted range has lost its end
abbrev pub is_to_end : RangeInclusive ℕ → ℕ → Bool
is_to_end range n =
    let end = range_inclusive_end range in
    if range_inclusive_exhausted range then nat_lt n end else nat_le n end

abbrev pub range_holds : RangeInclusive ℕ → ℕ → Bool
range_holds range n = nat_le (range_inclusive_start range) n && is_to_end range n

-- the peer acknowledges the last number that was skipped, if there is one
pub record AcksSkippedNumber (space : SpaceId) (range : RangeInclusive ℕ) (last : Option ℕ) : Type 0 where
  pub in_data : space ≡ Data
  pub holds : IsSomeAnd last (λ s. IsTrue (range_holds range s))

-- a protocol violation, with its text
pub record IsUnsentAcked (error : TransportError) : Type 0 where
  pub code : error.code ≡ protocol_violation
  pub reason : error.reason.now ≡ codes "unsent packet acked"
