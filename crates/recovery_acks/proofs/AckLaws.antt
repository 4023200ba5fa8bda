-- The state after an ack-eliciting packet: the call `packet_received` and the log of a space (`HeardLaws`) rest on it.
use Rattle.std.proofs.Common.{◌≡◌, ℕ, ◌+◌, ◌-◌, ◌<◌, max, inl, inr, ◌⊎◌, ◌↔◌, Bool, true, false, nat_lt, not, cond, Option, None, Some, refl, arith}
use Rattle.std.specs.Prelude.{◌≢◌, IsTrue, IfSome, Decides, MatchBool}
use Rattle.std.specs.Option.{unwrap_or}
use Rattle.std.proofs.lemmas.Bool.{false≢true, cases_lt}
use Rattle.std.proofs.lemmas.Bool.Decides.{nat_tests}
use Rattle.recovery_base.specs.Numbers.{IsMissing}
use Rattle.recovery_base.proofs.MissingLaws.{least_missing_by}
use Rattle.recovery_base.specs.Ranges.{InRanges}
use Rattle.recovery_acks.specs.Acks.{Acks, IsAtLeastSome, IsOutOfOrder, ReceivesPacket, ReceivesEliciting, counted}

-- the largest number has been reached if both have
pub reaches : (Known : ℕ → Type 0) (before : Option ℕ) (number : ℕ) → IsAtLeastSome Known number
    → IfSome before (IsAtLeastSome Known) → IsAtLeastSome Known (max (unwrap_or before 0) number)
reaches Known None number reached earlier = (reached.0, reached.1, omega arith)
reaches Known (Some k) number reached earlier = elim (cases_lt k number) [
  | inl below ↦ (reached.0, reached.1, omega arith)
  | inr above ↦ (earlier.0, earlier.1, omega arith)
]

pub eliciting_receives : (Known : ℕ → Type 0) (old new : Acks) (now number : ℕ) (ack_eliciting arm : Bool)
    → ack_eliciting ≡ true → ReceivesEliciting Known old now number arm new
    → ReceivesPacket Known old now number ack_eliciting arm new
eliciting_receives Known old new now number true arm is received = received
eliciting_receives Known old new now number false arm is received = absurd (false≢true is)

-- the two answers for an ack-eliciting packet, over plain tests
required_by : (Out : Type 0) (threshold count : ℕ) (required out req : Bool) → Decides out Out
    → Decides req (IsTrue required ⊎ (IsTrue (nat_lt threshold count) ⊎ IsTrue out))
    → IsTrue req ↔ (IsTrue required ⊎ ((threshold < count) ⊎ Out))
required_by Out threshold count required out req out_is req_is = grind (arith, nat_tests)

armed_by : (Free Sends : Type 0) (can noticed arm : Bool) → Decides can Sends → arm ≡ not noticed
    → MatchBool noticed ((¬ Free) ⊎ IsTrue can) (Free × ¬ IsTrue can) → IsTrue arm ↔ (Free × ¬ Sends)
armed_by Free Sends can noticed arm can_is is told = grind arith

module _ {Known : ℕ → Type 0} {old : Acks} {now number greatest count : ℕ} {out req can : Bool} (noticed : Bool)
    (greatest_is : greatest ≡ max (unwrap_or old.counts.greatest 0) number)
    (count_is : count ≡ counted old.counts.eliciting)
    (out_is : Decides out (IsOutOfOrder Known old.counts.thresholds.1 old.counts.acknowledged
    (unwrap_or old.counts.greatest 0) greatest number))
    (req_is : Decides req (IsTrue old.required ⊎ (IsTrue (nat_lt old.counts.thresholds.0 count) ⊎ IsTrue out)))
    (can_is : Decides can (IsTrue req × ((n : ℕ) × InRanges old.ranges n)))
    (noticed_is : MatchBool noticed ((old.base ≢ None) ⊎ IsTrue can) ((old.base ≡ None) × ¬ IsTrue can)) where
  -- whether the base changes is what `is_noticed` returned
  pub received : (arm : Bool) → arm ≡ not noticed → ReceivesEliciting Known old now number arm
      (record old {
        required = req;
        base = cond arm (Some now) old.base;
        counts = record old.counts { eliciting = count; greatest = Some greatest };
      })
  received arm is = record {
    counts = rw (greatest_is, count_is) refl;
    required = rw (← greatest_is, ← count_is) (required_by _ _ _ _ _ _ out_is req_is);
    armed = armed_by (old.base ≡ None) _ can noticed arm can_is is noticed_is;
    base = refl;
    ranges = refl;
  }

-- what is out of order by one set is so by another, from which the same numbers are missing
out_of_order_by : {A B : ℕ → Type 0} → ((m : ℕ) → IsMissing A m ↔ IsMissing B m) → (threshold : ℕ)
    (acknowledged : Option ℕ) (before greatest number : ℕ)
    → IsOutOfOrder A threshold acknowledged before greatest number
    → IsOutOfOrder B threshold acknowledged before greatest number
out_of_order_by same threshold acknowledged before greatest number (inl (many, inl below)) = inl (many, inl below)
out_of_order_by same threshold acknowledged before greatest number (inl (many, inr (gap, least))) =
    inl (many, inr (gap, least_missing_by _ _ same before number (Some gap) least))
out_of_order_by same threshold (Some k) before greatest number (inr (many, (ahead, (gap, least, far)))) =
    inr (many, (ahead, (gap, least_missing_by _ _ same (k - threshold + 1) greatest (Some gap) least, far)))
out_of_order_by same threshold None before greatest number (inr more) = absurd more.1

pub out_of_order_alike : {A B : ℕ → Type 0} → ((m : ℕ) → IsMissing A m ↔ IsMissing B m) → (threshold : ℕ)
    (acknowledged : Option ℕ) (before greatest number : ℕ)
    → IsOutOfOrder A threshold acknowledged before greatest number
    ↔ IsOutOfOrder B threshold acknowledged before greatest number
out_of_order_alike same threshold acknowledged before greatest number = (
  out_of_order_by same threshold acknowledged before greatest number,
  out_of_order_by (λ m. ((same m).1, (same m).0)) threshold acknowledged before greatest number,
)
