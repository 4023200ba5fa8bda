-- The IDs that a line issues. `FormLaws` rest on it.
use Rattle.std.proofs.Common.{◌≡◌, ℕ, zero, suc, length, refl}
use Rattle.std.proofs.lemmas.List.FromFn.{length-map-range_with_len}
use Rattle.recovery_script_syntax.specs.Lines.{zero_id, zero_ids, first_number}

pub ids_count : (first count : ℕ) → length (zero_ids first count) ≡ count
ids_count first count = length-map-range_with_len zero_id first count

pub ids_first : (first count : ℕ) → first_number first (zero_ids first count) ≡ first
ids_first first zero = refl
ids_first first (suc count) = refl
