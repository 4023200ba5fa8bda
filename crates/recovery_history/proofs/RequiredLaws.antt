-- Whether an ACK is required at once can be decided from the log of its space: a gap is sought between two numbers.
-- `AckDutyLaws` rest on it.
use Rattle.std.proofs.Common.{◌≤◌, ◌<◌, ◌+◌, ◌-◌, ℕ, zero, suc, List, [], ◌∷◌, Option, None, Some, ◌⊎◌, inl, inr, max, arith}
use Rattle.std.proofs.lemmas.Bool.{cases_eq, cases_lt}
use Rattle.recovery_acks.specs.Acks.{AckCounts, RequiresImmediateAck, IsOutOfOrder, IsReported}
use Rattle.std.specs.Option.{unwrap_or}
use Rattle.recovery_base.specs.Numbers.{InsertNumber, IsInWindow, IsLeastMissing, IsMissing}
use Rattle.recovery_base.proofs.WindowLaws.{HasGreatest}
use Rattle.recovery_spaces.specs.Acks.{IsRequired, counts_by}
use Rattle.recovery_spaces.specs.Received.{ReceivedNumbers}
use Rattle.recovery_spaces.specs.SpaceLog.{SpaceEntry, heard, heard_again}
use Rattle.recovery_spaces.proofs.ReceivedLaws.{came_greatest}

-- ---- what can be decided

abbrev pub Decided : Type 0 → Type 0
Decided A = A ⊎ (¬ A)

both : {A B : Type 0} → Decided A → Decided B → Decided (A × B)
both first second = grind arith

pub either : {A B : Type 0} → Decided A → Decided B → Decided (A ⊎ B)
either first second = grind arith

-- ---- the smallest missing number, by a search

module _ (Missing : ℕ → Type 0) (decided : (n : ℕ) → Decided (Missing n)) (low : ℕ) where
  abbrev IsFirst : ℕ → ℕ → Type 0
  IsFirst high n = (low < n) × (n < high) × Missing n × ((m : ℕ) → low < m → m < high → Missing m → n ≤ m)

  abbrev Found : ℕ → Type 0
  Found high = ((n : ℕ) × IsFirst high n) ⊎ ((m : ℕ) → low < m → m < high → ¬ Missing m)

  found : (high : ℕ) → Found high
  found zero = inr (λ m above below missing. omega (arith, below))
  found (suc high) = go (found high) (both (grind arith) (decided high))
    where
      go : Found high → Decided ((low < high) × Missing high) → Found (suc high)
      go (inl first) last =
          inl (
            first.0,
            (
              first.1.0,
              omega (arith, first.1.1),
              first.1.2,
              λ m above inside missing. grind (
                arith,
                first.1.1,
                first.1.3 m above,
              ),
            ),
          )
      go (inr none) (inl last) =
          inl (high, (last.0, omega arith, last.1, λ m above inside missing. grind (arith, none m above)))
      go (inr none) (inr other) = inr (λ m above inside missing. grind (arith, none m above))

-- ---- over the numbers received

module _ (Numbers : ℕ → Type 0) (greatest : HasGreatest Numbers) (came : (n : ℕ) → Decided (Numbers n)) where
  is_near : HasGreatest Numbers → (n : ℕ) → Decided (IsInWindow Numbers n)
  is_near (inl none) n = inl (λ m here. absurd (none m here))
  is_near (inr most) n = elim (cases_lt (n + 128) most.0) [
    | inl far ↦ inr (λ near. grind (arith, far, near most.0 most.1))
    | inr near ↦ inl (λ m here. grind (arith, near, most.2 m here))
  ]

  is_missing : (n : ℕ) → Decided (IsMissing Numbers n)
  is_missing n = grind (arith, came n, is_near greatest n)

  is_reported : (threshold greatest : ℕ) (acknowledged : Option ℕ)
      → Decided (IsReported Numbers threshold greatest acknowledged)
  is_reported threshold greatest None = inr (λ h. h)
  is_reported threshold greatest (Some k) =
      both (grind arith) (go (found (IsMissing Numbers) is_missing (k - threshold + 1) greatest))
    where
      go : Found (IsMissing Numbers) is_missing (k - threshold + 1) greatest
          → Decided ((m : ℕ) × IsLeastMissing Numbers (k - threshold + 1) greatest (Some m)
          × (threshold ≤ greatest - m))
      go (inl first) = elim (cases_lt (greatest - first.0) threshold) [
        | inl below ↦ inr (λ h. (
            let up = first.1.3 h.0 h.1.0 h.1.1 h.1.2 in
            let down = h.1.3 first.0 first.1.0 first.1.1 first.1.2 in
            omega (arith, up, down, below, h.2)
            ))
        | inr is ↦ inl (first.0, first.1, is)
      ]
      go (inr none) = inr (λ h. none h.0 h.1.0 h.1.1 h.1.2)

  is_out_of_order : (threshold : ℕ) (acknowledged : Option ℕ) (before greatest number : ℕ)
      → Decided (IsOutOfOrder Numbers threshold acknowledged before greatest number)
  is_out_of_order threshold acknowledged before greatest number =
      either
      (both (cases_eq threshold 1) (either (grind arith) (gap (found (IsMissing Numbers) is_missing before number))))
      (both (grind arith) (is_reported threshold greatest acknowledged))
    where
      gap : Found (IsMissing Numbers) is_missing before number
          → Decided ((m : ℕ) × IsLeastMissing Numbers before number (Some m))
      gap (inl first) = inl first
      gap (inr none) = inr (λ h. none h.0 h.1.0 h.1.1 h.1.2)

module _ {P M : Type 0} where
  has_come : (log : List (SpaceEntry P M)) (n : ℕ) → Decided (ReceivedNumbers log n)
  has_come [] n = inr (λ h. h)
  has_come (heard now number eliciting ∷ earlier) n = grind (arith, has_come earlier n)
  has_come (entry ∷ earlier) n = grind (arith, has_come earlier n)

  pub asks : (log : List (SpaceEntry P M)) (counts : AckCounts) (number : ℕ)
      → Decided (RequiresImmediateAck (InsertNumber number (ReceivedNumbers log)) counts number)
  asks log counts number =
      let longer : List (SpaceEntry P M) = heard_again number ∷ log in
      either (grind arith)
      (is_out_of_order (ReceivedNumbers longer) (came_greatest longer)
      (has_come longer) counts.thresholds.1 counts.acknowledged
      (unwrap_or counts.greatest 0) (max (unwrap_or counts.greatest 0) number) number)

  -- an ACK is required at once, or not
  pub is_required : (log : List (SpaceEntry P M)) → Decided (IsRequired log)
  is_required [] = inr (λ h. h)
  is_required (heard now number eliciting ∷ earlier) =
      either (is_required earlier) (both (grind arith) (asks earlier (counts_by earlier) number))
  is_required (entry ∷ earlier) = grind (arith, is_required earlier)
