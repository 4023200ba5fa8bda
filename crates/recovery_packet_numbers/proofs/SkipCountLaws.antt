-- Which numbers are skipped: exactly those in the sequence of skips. A law for users rests on it.
use Rattle.std.proofs.Common.{◌≡◌, ℕ, zero, suc, ◌<◌, ◌↔◌, Option, None, Some, Bool, true, false, refl, arith, inl, inr}
use Rattle.std.specs.Prelude.{if◌then◌else◌}
use Rattle.std.proofs.lemmas.Bool.{cases_lt}
use Rattle.rand_core.specs.Stream.{Stream}
use Rattle.recovery_packet_numbers.specs.declared.filter.Skips.{Skips}
use Rattle.recovery_packet_numbers.specs.Skips.{skip_at, skips_below, is_skipped, skip_before, IsGreatestBelow}
use Rattle.recovery_packet_numbers.proofs.SkipLaws.{is_at-some, is_at-self, skip_above}

module _ (skips : Skips) (words : Stream) where
  -- the skips before one exist, and are below it
  lower : (j k t : ℕ) → j < k → (skip_at skips words k).0 ≡ Some t
      → (s : ℕ) × ((skip_at skips words j).0 ≡ Some s) × (s < t)
  lower j zero t less is = absurd (omega arith)
  lower j (suc k) t less is =
      let before = skip_above _ _ k t is in
      elim (cases_lt j k) [
        | inl further ↦
            let found = lower j k _ further before.1 in (found.0, found.1, omega arith)
        | inr near ↦ let same : j ≡ k = omega arith in
            (before.0, rw same before.1, omega arith)
      ]

  -- exactly this many skips are below n
  abbrev Counts : ℕ → ℕ → Type 0
  Counts n count = (k s : ℕ) → (skip_at skips words k).0 ≡ Some s → (s < n) ↔ (k < count)

  -- the skip counted by those below n is the only one that can be n
  only_at : (n count : ℕ) → Counts n count → (k : ℕ) → (skip_at skips words k).0 ≡ Some n → k ≡ count
  only_at n count counts k here =
      elim (cases_lt count k) [
        | inl further ↦
            let found = lower _ k n further here in absurd (grind (arith, counts count found.0 found.1))
        | inr near ↦ grind (arith, counts k n here)
      ]

  -- a skip is below n exactly if its position is below their count
  pub below_counts : (n k s : ℕ) → (skip_at skips words k).0 ≡ Some s
      → (s < n) ↔ (k < skips_below skips words n)
  below_counts zero k s is = grind arith
  below_counts (suc n) k s is = go (below_counts n) (is_skipped skips words n) refl
    where
      go : Counts n (skips_below skips words n) → (here : Bool) → is_skipped skips words n ≡ here
          → (s < suc n) ↔ (k < (if here then suc (skips_below skips words n) else skips_below skips words n))
      go counts here at =
          let only = only_at n (skips_below skips words n) counts k in
          let some = is_at-some n (skip_at skips words (skips_below skips words n)).0 in
          let self = is_at-self n (skip_at skips words (skips_below skips words n)).0 in
          grind arith

  -- a number is skipped exactly if it is in the sequence
  pub skipped_in_sequence : (n : ℕ) → (is_skipped skips words n ≡ true)
      ↔ ((k : ℕ) × ((skip_at skips words k).0 ≡ Some n))
  skipped_in_sequence n = (
    λ here. (skips_below skips words n, is_at-some n _ here),
    λ found. is_at-self n _
        (rw (only_at n _ (below_counts n) found.0 found.1) at found.1),
  )

  pub skip_before_greatest : (n : ℕ) → IsGreatestBelow skips words n (skip_before skips words n)
  skip_before_greatest zero = λ m less. absurd (omega arith)
  skip_before_greatest (suc n) = go (is_skipped skips words n) refl (skip_before skips words n) (skip_before_greatest n)
    where
      go : (here : Bool) → is_skipped skips words n ≡ here → (last : Option ℕ) → IsGreatestBelow skips words n last
          → IsGreatestBelow skips words (suc n) (if here then Some n else last)
      go true here last greatest = (omega arith, here, λ m above less. absurd (omega arith))
      go false free None none = λ m less. grind arith
      go false free (Some s) greatest =
          (omega arith, greatest.1, λ m above less. grind arith)
