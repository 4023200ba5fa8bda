-- The earliest time for which a timer is set is the minimum over the list of all timers. The answer of `next_timeout`
-- rests on it.
use Rattle.std.proofs.Common.{◌≡◌, ◌≤◌, ℕ, min, map, option_map, unwrap_or, List, [], ◌∷◌, Option, None, Some, ◌⊎◌, inl, inr, refl, sym, ◌∙◌, ap, arith}
use Rattle.std.proofs.lemmas.Option.{none-some}
use Rattle.recovery_base.specs.declared.timer.Timer.{Timer}
use Rattle.recovery_base.specs.declared.timer.Timer.TheVariants.{LossDetection}
use Rattle.recovery_base.specs.Timers.{IsLeastMoment}
use Rattle.recovery_history.specs.Promises.Timeouts.{every_timer, least}

-- ---- the minimum

abbrev In : Option ℕ → List (Option ℕ) → Type 0
In m [] = ⊥
In m (n ∷ ms) = (m ≡ n) ⊎ In m ms

abbrev IsLeast : List (Option ℕ) → Option ℕ → Type 0
IsLeast ms None = (y : ℕ) → ¬ In (Some y) ms
IsLeast ms (Some x) = In (Some x) ms × ((y : ℕ) → In (Some y) ms → x ≤ y)

skips : (ms : List (Option ℕ)) (m : Option ℕ) → IsLeast ms m → IsLeast (None ∷ ms) m
skips ms None is = grind (arith, is)
skips ms (Some x) is = grind (arith, is)

takes : (ms : List (Option ℕ)) (n : ℕ) (m : Option ℕ) → IsLeast ms m
    → IsLeast (Some n ∷ ms) (Some (unwrap_or (option_map (min n) m) n))
takes ms n None is = grind (arith, is)
takes ms n (Some x) is = grind (arith, is)

least_is : (ms : List (Option ℕ)) → IsLeast ms (least ms)
least_is [] = λ y there. absurd there
least_is (None ∷ ms) = skips ms (least ms) (least_is ms)
least_is (Some n ∷ ms) = takes ms n (least ms) (least_is ms)

module _ (f : Timer → Option ℕ) where
  from_timer : (timers : List Timer) (m : Option ℕ) → In m (map f timers) → (timer : Timer) × (m ≡ f timer)
  from_timer [] m there = absurd there
  from_timer (timer ∷ timers) m (inl is) = (timer, is)
  from_timer (timer ∷ timers) m (inr there) = from_timer timers m there

  each_in : (timer : Timer) → In (f timer) (map f every_timer)
  each_in LossDetection = inl refl
  each_in timer = grind arith

  set_in : (timer : Timer) (time : ℕ) → f timer ≡ Some time → In (Some time) (map f every_timer)
  set_in timer time is = rw is at (each_in timer)

  one_least : (told found : Option ℕ) → IsLeastMoment f told → IsLeast (map f every_timer) found → told ≡ found
  one_least None None told is = refl
  one_least None (Some x) told is =
      let t = from_timer every_timer (Some x) is.0 in absurd (none-some _ (sym (t.1 ∙ told t.0)))
  one_least (Some y) None told is = absurd (is y (set_in told.0.0 y told.0.1))
  one_least (Some y) (Some x) told is =
      let t = from_timer every_timer (Some x) is.0 in
      let above = told.1 t.0 x (sym t.1) in
      let below = is.1 y (set_in told.0.0 y told.0.1) in
      ap Some (omega (arith, above, below))

  -- the earliest time for which a timer is set is the minimum over all timers
  pub least_moment : (told : Option ℕ) → IsLeastMoment f told → told ≡ least (map f every_timer)
  least_moment told is = one_least told (least (map f every_timer)) is (least_is (map f every_timer))
