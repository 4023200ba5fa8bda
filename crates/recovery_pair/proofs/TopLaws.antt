-- The largest number that was received is still to be acknowledged: what keeps it so, event by event.
use Rattle.std.proofs.Common.{◌≡◌, ℕ, ◌<◌, ◌≤◌, ◌⊎◌, inl, inr, ◌==◌, ◌&&◌, nat_lt, Bool, true, false, true≢false, cond, [], ◌∷◌, Option, None, Some, Ok, IfSome, IsSomeAnd, refl, sym, subst, arith}
use Rattle.std.specs.Prelude.{if◌then◌else◌}
use Rattle.std.proofs.lemmas.Bool.Decides.{nat_tests}
use Rattle.recovery_acks.specs.Acks.{largest_with, most_ranges}
use Rattle.recovery_acks.specs.Runs.{Ascend, AtMost, EndsRun, LiesBelow}
use Rattle.recovery_base.specs.declared.below.SpaceId.{SpaceId}
use Rattle.recovery_base.specs.Numbers.{InsertNumber}
use Rattle.recovery_base.specs.Spaces.{same_space}
use Rattle.recovery_events.specs.declared.event.Answer.TheVariants.{New}
use Rattle.recovery_events.specs.declared.event.Event.TheVariants.{Acked, Received}
use Rattle.recovery_events.specs.declared.event.Answer.{Answer}
use Rattle.recovery_history.specs.History.{History}
use Rattle.recovery_history.specs.Promises.Acknowledged.{WasDropped, WasReceived, largest_in}
use Rattle.recovery_pair.specs.Pasts.{KeepsLargest, largest_came}

-- ---- a number is at most the largest one

abbrev pub IsWithin : ℕ → Option (ℕ × ℕ) → Type 0
IsWithin n largest = IsSomeAnd largest (λ it. n ≤ it.0)

within_itself : (before : Option (ℕ × ℕ)) (m now : ℕ) → IsWithin m (largest_with before m now)
within_itself None m now = omega arith
within_itself (Some largest) m now = by (nat_lt largest.0 m) refl
  where
    by : (test : Bool) → nat_lt largest.0 m ≡ test → IsWithin m (cond test (Some (m, now)) (Some largest))
    by true is = omega arith
    by false is = grind (arith, nat_tests, is)

within_still : (before : Option (ℕ × ℕ)) (m now n : ℕ) → IsWithin n before → IsWithin n (largest_with before m now)
within_still None m now n is = absurd is
within_still (Some largest) m now n is = by (nat_lt largest.0 m) refl
  where
    by : (test : Bool) → nat_lt largest.0 m ≡ test → IsWithin n (cond test (Some (m, now)) (Some largest))
    by true above = grind (arith, nat_tests, is, above)
    by false above = is

pub within_here : (here : Bool) (before : Option (ℕ × ℕ)) (m now n : ℕ)
    → ((here && m == n) ≡ true) ⊎ IsWithin n before
    → IsWithin n (if here then largest_with before m now else before)
within_here true before m now n (inl same) =
    let equal : m ≡ n = grind (arith, nat_tests, same) in
    subst (λ k. IsWithin k (largest_with before m now)) equal (within_itself before m now)
within_here true before m now n (inr is) = within_still before m now n is
within_here false before m now n (inl never) = absurd (true≢false (sym never))
within_here false before m now n (inr is) = is

pub received_within : {Q S M P : Type 0} (space : SpaceId) (past : History Q S M P) (n : ℕ) → WasReceived space n past
    → IsWithin n (largest_came space past)
received_within space [] n was = absurd was
received_within space ((Received there now m eliciting, Ok (New arm)) ∷ earlier) n (inl here) =
    within_here (same_space there space) (largest_came space earlier) m now n (inl here)
received_within space ((Received there now m eliciting, Ok (New arm)) ∷ earlier) n (inr was) =
    within_here (same_space there space) (largest_came space earlier) m now n
    (inr (received_within space earlier n was))
received_within space (happened ∷ earlier) n was = received_within space earlier n was

-- ---- at most one run of a set ends at its largest number

top_few : (Numbers : ℕ → Type 0) (top : ℕ) → ((n : ℕ) → Numbers n → n ≤ top)
    → AtMost most_ranges (λ end. (top ≤ end) × EndsRun Numbers end)
unfolding Ascend
top_few Numbers top most [] up = omega arith
top_few Numbers top most (n ∷ []) up = omega arith
top_few Numbers top most (n ∷ m ∷ others) up =
    let low = up.1.0 in
    let at = up.1.1.0 in
    let above = most m up.2.1.1.0 in
    let next = up.2.0 in
    absurd (omega (arith, at, above, next))

-- ---- a new number

module _ (Came Dropped : ℕ → Type 0) (m : ℕ) where
  abbrev Drops : Bool → ℕ → Type 0
  Drops here n =
      ((here ≡ true) × LiesBelow most_ranges (InsertNumber m (λ k. Came k × ¬ Dropped k)) n)
      ⊎ (((here && m == n) ≡ false) × Dropped n)

  not_below : (top : ℕ) → ((n : ℕ) → InsertNumber m (λ k. Came k × ¬ Dropped k) n → n ≤ top)
      → LiesBelow most_ranges (InsertNumber m (λ k. Came k × ¬ Dropped k)) top → ⊥
  not_below top most low = low (top_few (InsertNumber m (λ k. Came k × ¬ Dropped k)) top most)

  -- it is the largest
  first_kept : ((n : ℕ) → Came n → n ≤ m) → Drops true m → ⊥
  first_kept most (inl low) = not_below m all low.1
    where
      all : (n : ℕ) → InsertNumber m (λ k. Came k × ¬ Dropped k) n → n ≤ m
      all n (inl same) = omega (arith, same)
      all n (inr was) = most n was.0
  first_kept most (inr other) = let is = other.0 in grind (arith, nat_tests, is)

  -- another one is
  other_kept : (largest : ℕ) → ((n : ℕ) → Came n → n ≤ largest) → m ≤ largest → ¬ Dropped largest
      → Drops true largest → ⊥
  other_kept largest most above kept (inl low) = not_below largest all low.1
    where
      all : (n : ℕ) → InsertNumber m (λ k. Came k × ¬ Dropped k) n → n ≤ largest
      all n (inl same) = omega (arith, same, above)
      all n (inr was) = most n was.0
  other_kept largest most above kept (inr other) = kept other.1

received_kept : (Came Dropped : ℕ → Type 0) (before : Option (ℕ × ℕ)) → ((n : ℕ) → Came n → IsWithin n before)
    → IfSome before (λ largest. ¬ Dropped largest.0) → (m now : ℕ)
    → IfSome (largest_with before m now) (λ largest. ¬ Drops Came Dropped m true largest.0)
received_kept Came Dropped None within keeps m now = first_kept Came Dropped m (λ n was. absurd (within n was))
received_kept Came Dropped (Some largest) within keeps m now = by (nat_lt largest.0 m) refl
  where
    by : (test : Bool) → nat_lt largest.0 m ≡ test → IfSome (cond test (Some (m, now)) (Some largest))
        (λ it. ¬ Drops Came Dropped m true it.0)
    by true above = first_kept Came Dropped m
        (λ n was. (let low = within n was in grind (arith, nat_tests, low, above)))
    by false below = other_kept Came Dropped m largest.0 within (grind (arith, nat_tests, below)) keeps

-- what was not dropped stays so if nothing new comes in the space
not_dropped_there : (Came Dropped : ℕ → Type 0) (m n : ℕ) → ¬ Dropped n → Drops Came Dropped m false n → ⊥
not_dropped_there Came Dropped m n kept (inl low) = true≢false (sym low.0)
not_dropped_there Came Dropped m n kept (inr was) = kept was.1

-- or if the ACK of a packet that is acknowledged has smaller numbers
not_dropped_by : (here : Bool) (acked : Option ℕ) (top : ℕ) (Dropped : Type 0)
    → ((l : ℕ) → here ≡ true → acked ≡ Some l → l < top) → ¬ Dropped
    → ((here ≡ true) × IsSomeAnd acked (λ l. top ≤ l)) ⊎ Dropped → ⊥
not_dropped_by here None top Dropped low kept (inl dropped) = dropped.1
not_dropped_by here (Some l) top Dropped low kept (inl dropped) =
    let less = low l dropped.0 refl in let high = dropped.1 in omega (arith, less, high)
not_dropped_by here acked top Dropped low kept (inr was) = kept was

module _ {Q S M P : Type 0} (past : History Q S M P) (space : SpaceId) (keeps : KeepsLargest space past) where
  received_by : (there : SpaceId) (now m : ℕ) (eliciting arm here : Bool) → same_space there space ≡ here
      → IfSome (if here then largest_with (largest_came space past) m now else largest_came space past)
      (λ largest. ¬ Drops (λ n. WasReceived space n past) (λ n. WasDropped space n past) m here largest.0)
  received_by there now m eliciting arm true is =
      received_kept (λ n. WasReceived space n past) (λ n. WasDropped space n past) (largest_came space past)
      (received_within space past) keeps m now
  received_by there now m eliciting arm false is = other (largest_came space past) keeps
    where
      other : (largest : Option (ℕ × ℕ)) → IfSome largest (λ it. ¬ WasDropped space it.0 past)
          → IfSome largest (λ it. ¬ Drops (λ n. WasReceived space n past) (λ n. WasDropped space n past) m false it.0)
      other None kept = tt
      other (Some it) kept =
          not_dropped_there (λ n. WasReceived space n past) (λ n. WasDropped space n past) m it.0 kept

  pub received_top : (there : SpaceId) (now m : ℕ) (eliciting arm : Bool)
      → KeepsLargest space ((Received there now m eliciting, Ok (New arm)) ∷ past)
  received_top there now m eliciting arm = received_by there now m eliciting arm (same_space there space) refl

  -- a packet is acknowledged, whose ACK has only numbers below the largest
  pub acked_top : (there : SpaceId) (now m : ℕ) (limited : Bool) (answer : Answer Q)
      → ((l : ℕ) → same_space there space ≡ true → largest_in space m past ≡ Some l
      → IsSomeAnd (largest_came space past) (λ largest. l < largest.0))
      → KeepsLargest space ((Acked there now m limited, Ok answer) ∷ past)
  acked_top there now m limited answer below = by (largest_came space past) below keeps
    where
      by : (largest : Option (ℕ × ℕ)) → ((l : ℕ) → same_space there space ≡ true → largest_in space m past ≡ Some l
          → IsSomeAnd largest (λ it. l < it.0)) → IfSome largest (λ it. ¬ WasDropped space it.0 past)
          → IfSome largest (λ it. ¬ (((same_space there space ≡ true)
          × IsSomeAnd (largest_in space m past) (λ l. it.0 ≤ l)) ⊎ WasDropped space it.0 past))
      by None low kept = tt
      by (Some it) low kept = not_dropped_by (same_space there space) (largest_in space m past) it.0
          (WasDropped space it.0 past) low kept
