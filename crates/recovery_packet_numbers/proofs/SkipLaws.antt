-- Laws of skipped packet numbers: what one step does, how skips increase, and which numbers they are. The driver's laws
-- of numbers rest on it, and the laws for users.
use Rattle.std.proofs.Common.{◌≡◌, ℕ, suc, ◌+◌, ◌≤◌, ◌^◌, Option, None, Some, Bool, true, false, refl, ap, sym, ◌∙◌, arith, add-one}
use Rattle.std.specs.Prelude.{if◌then◌else◌}
use Rattle.std.proofs.lemmas.Option.{none-some, same_Some}
use Rattle.rand_core.specs.Stream.{Stream}
use Rattle.recovery_packet_numbers.specs.declared.filter.Skips.{Skips}
use Rattle.recovery_packet_numbers.specs.Skips.{next_skip, skip_at, is_at, skips_below, is_skipped, number_from, skip_before}
use Rattle.recovery_packet_numbers.specs.Filters.{SkipState, skipping_at, number_by, skipped, passed}

pub is_at-some : (n : ℕ) (skip : Option ℕ) → is_at n skip ≡ true → skip ≡ Some n
is_at-some n None is = cc
is_at-some n (Some s) is = grind arith

pub is_at-self : (n : ℕ) (skip : Option ℕ) → skip ≡ Some n → is_at n skip ≡ true
is_at-self n _ is = rw is (grind arith)

-- ---- skips increase

next_above : (exponent t : ℕ) (skip : Option ℕ) (words : Stream) → (next_skip exponent (skip, words)).0 ≡ Some t
    → (s : ℕ) × (skip ≡ Some s) × (s + 2 ≤ t) × (2 ^ exponent ≤ t)
next_above _ t None _ is = absurd (none-some t is)
next_above _ t (Some s) _ is =
    let drawn = same_Some _ t is in (s, refl, omega arith, omega arith)

module _ (skips : Skips) (words : Stream) where
  -- each skip but the first is two or more above the one before, and not below a power of two
  pub skip_above : (k t : ℕ) → (skip_at skips words (suc k)).0 ≡ Some t
      → (s : ℕ) × ((skip_at skips words k).0 ≡ Some s) × (s + 2 ≤ t) × (2 ^ (6 + k) ≤ t)
  skip_above k t is = next_above _ t _ _ is

  pub skips_ascend : (k s t : ℕ) → (skip_at skips words k).0 ≡ Some s
      → (skip_at skips words (suc k)).0 ≡ Some t → s + 2 ≤ t
  skips_ascend k s t here next =
      let above = skip_above k t next in omega (arith, same_Some _ s (sym above.1 ∙ here))

  pub skip_from_power : (k t : ℕ) → (skip_at skips words (suc k)).0 ≡ Some t → 2 ^ (6 + k) ≤ t
  skip_from_power k t is = (skip_above k t is).3

  -- ---- one step

  -- no number right after a skip is one
  pub behind_not_skipped : (n : ℕ) → is_skipped skips words n ≡ true → is_skipped skips words (suc n) ≡ false
  behind_not_skipped n here = rw here (go (skip_at skips words (suc (skips_below skips words n))).0 refl)
    where
      go : (skip : Option ℕ) → (skip_at skips words (suc (skips_below skips words n))).0 ≡ skip
          → is_at (suc n) skip ≡ false
      go None next = refl
      go (Some t) next =
          grind arith

  behind_it : (n : ℕ) → is_skipped skips words n ≡ true → is_skipped skips words (n + 1) ≡ false
  behind_it n = rw add-one (behind_not_skipped n)

  -- a number that is assigned is no skip
  pub number_not_skipped : (n : ℕ) → is_skipped skips words (number_from skips words n) ≡ false
  number_not_skipped n = go (is_skipped skips words n) refl
    where
      go : (is : Bool) → is_skipped skips words n ≡ is → is_skipped skips words (if is then n + 1 else n) ≡ false
      go true here = behind_it n here
      go _ here = here

  -- and it is not below n
  pub number_from_above : (n : ℕ) → n ≤ number_from skips words n
  number_from_above n = grind arith

  -- the filter and the random words follow the numbers: they stay those of the next number
  pub passed_step : (n : ℕ)
      → passed n (skipping_at skips words n) ≡ skipping_at skips words (number_from skips words n + 1)
  passed_step n = go (is_skipped skips words n) refl
    where
      old : SkipState
      old = skipping_at skips words n

      go : (is : Bool) → is_skipped skips words n ≡ is
          → (if is then skipped n old else old) ≡ skipping_at skips words ((if is then n + 1 else n) + 1)
      go true here =
          let free = behind_not_skipped n here in
          let number : (skip_at skips words (skips_below skips words n)).0 ≡ Some n = is_at-some n _ here in
          let next : n + 1 + 1 ≡ suc (suc n) = omega arith in
          rw next (grind arith)
      go false here = rw add-one (rw here refl)

  -- ---- for the filter if the next number is n

  pub number_at : (n : ℕ) (old : SkipState) → old ≡ skipping_at skips words n
      → number_by old.filter n ≡ number_from skips words n
  number_at n _ is = ap (λ (s : SkipState). number_by s.filter n) is

  pub last_at : (n : ℕ) (old : SkipState) → old ≡ skipping_at skips words n → old.filter.last
      ≡ skip_before skips words n
  last_at n _ is = ap (λ (s : SkipState). s.filter.last) is

  -- a number was assigned
  pub allocated : (n number : ℕ) (old new : SkipState) → old ≡ skipping_at skips words n
      → number ≡ number_by old.filter n → new ≡ passed n old
      → (number ≡ number_from skips words n) × (new ≡ skipping_at skips words (number + 1))
  allocated n number old _ is given after =
      let from : number ≡ number_from skips words n = given ∙ number_at n old is in
      (from, after ∙ ap (λ (s : SkipState). passed n s) is ∙ rw from (passed_step n))
