-- The pending ACKs of a space, one event at a time. `receive` rests on it, and the driver's `acked`.
use Rattle.std.proofs.Common.{◌≡◌, ℕ, ◌<◌, ◌≤◌, ◌⊎◌, inl, inr, ◌↔◌, Bool, true, false, cond, IsTrue, IfSome, Option, None, Some, refl, sym, ap, ◌∙◌, arith}
use Rattle.recovery_base.specs.Numbers.{RecentNumbers, InsertNumber, Exceeds}
use Rattle.std.proofs.lemmas.Option.{none-some}
use Rattle.recovery_base.specs.Received.{HasReceived}
use Rattle.recovery_base.proofs.WindowLaws.{HasGreatest, greatest_with}
use Rattle.recovery_base.proofs.MissingLaws.{has_greatest, reached, stays_reached, missing_left}
use Rattle.recovery_acks.specs.Acks.{Acks, RequiresImmediateAck, AddsPending, IsAtLeastSome, ReceivesPacket, ReceivesEliciting, CanSend, counts_received}
use Rattle.recovery_acks.proofs.AckLaws.{out_of_order_alike}
use Rattle.recovery_spaces.specs.Packets.{Packet}
use Rattle.recovery_spaces.specs.Spaces.{Space, acks_of, with_acks, after_acknowledging, heard_with, ArmsBy, HasGreatestCome, AddsReceivedNumber, ReceivesNew, SubtractsLargest}

-- ---- a timer that is started or continues

is_none : (base : Option ℕ) → (base ≡ None) ↔ (¬ ((m : ℕ) × (base ≡ Some m)))
is_none None = (λ is set. none-some set.0 set.1, λ unset. refl)
is_none (Some m) = (λ is set. none-some m (sym is), λ unset. absurd (unset (m, refl)))

starts : (arm : Bool) (now : ℕ) (before after : Option ℕ) (Armed : Type 0) → after ≡ cond arm (Some now) before
    → IsTrue arm ↔ Armed → (Armed → before ≡ None)
    → (m : ℕ) → (after ≡ Some m) ↔ ((before ≡ Some m) ⊎ ((m ≡ now) × Armed))
starts arm now before after Armed is arms free m = grind (arith, is, arms, free)

-- an ACK is required at once, by equivalent sets of numbers
required_by : {Required Was Many New Old : Type 0} → Required ↔ (Was ⊎ (Many ⊎ New)) → New ↔ Old
    → Required ↔ (Was ⊎ (IsTrue true × (Many ⊎ Old)))
required_by same order = grind (arith, same, order)

-- and starts the ACK delay timer if none runs
armed_by : {Arm Unset Set Can Required Was Asks : Type 0} → Arm ↔ (Unset × ¬ Can) → Unset ↔ (¬ Set)
    → (Can → Required) → (Required → Can) → Required ↔ (Was ⊎ (IsTrue true × Asks))
    → Arm ↔ (IsTrue true × (¬ Set) × ¬ (Was ⊎ Asks))
armed_by arms unset only can required = grind (arith, arms, unset, only, can, required)

-- ---- what a new packet does, from the clauses of the two calls that it makes

module _ (Old New : ℕ → Type 0) (number : ℕ) (greatest : HasGreatest Old)
    (numbers : (n : ℕ) → New n ↔ RecentNumbers (InsertNumber number Old) n) (old added new : Acks) (now : ℕ)
    (arm : Bool)
    (adds : AddsPending old number now added) where
  abbrev Armed : Bool → Type 0
  Armed = ArmsBy (heard_with Old old) old.counts number

  module _ (receives : ReceivesEliciting New added now number arm new) where
    required_eliciting : IsTrue new.required
        ↔ (IsTrue old.required ⊎ (IsTrue true × RequiresImmediateAck (InsertNumber number Old) old.counts number))
    required_eliciting =
        required_by (rw (adds.others.0, adds.counts) at receives.required) (out_of_order_alike
        (missing_left (InsertNumber number Old) New (greatest_with Old number greatest) numbers) _ _ _ _ _)

    arms_eliciting : IsTrue arm ↔ Armed true
    arms_eliciting =
        armed_by (rw (adds.others.1) at receives.armed) (is_none old.base) (λ (send : CanSend new). send.0)
        (λ required. (required, rw receives.ranges adds.some)) required_eliciting

  -- what it does, and when it starts the ACK delay timer
  pub hears : (ack_eliciting : Bool) → ReceivesPacket New added now number ack_eliciting arm new
      → AddsReceivedNumber Old old now number ack_eliciting new × (IsTrue arm ↔ Armed ack_eliciting)
  hears true receives = (
    record {
      pending = λ n. rw receives.ranges (adds.pending n);
      required = required_eliciting receives;
      started = starts arm now old.base new.base (Armed true) (rw (adds.others.1) at receives.base)
          (arms_eliciting receives) (λ should. (is_none old.base).1 should.1);
      counts = receives.counts ∙ ap (counts_received true number) adds.counts;
    },
    arms_eliciting receives,
  )
  hears false receives = (
    rw (receives.1) (record {
      pending = adds.pending;
      required = grind (arith, adds);
      started = starts false now old.base added.base (Armed false) adds.others.1 (grind arith) (grind arith);
      counts = ap (counts_received false number) adds.counts;
    }),
    grind (arith, receives.0),
  )

-- the largest ack-eliciting number was reached by the numbers before, and is by those after
pub still_reached : (Old New : ℕ → Type 0) (number : ℕ) → HasGreatest Old → HasGreatest New
    → ((n : ℕ) → New n ↔ RecentNumbers (InsertNumber number Old) n) → (earlier now : Option ℕ) → now ≡ earlier
    → ((n : ℕ) → earlier ≡ Some n → ¬ Exceeds Old n) → IfSome now (IsAtLeastSome New)
still_reached Old New number greatest after numbers earlier None same within = tt
still_reached Old New number greatest after numbers earlier (Some n) same within =
    reached New after n (stays_reached Old New number greatest numbers n (within n (sym same)))

-- the largest ack-eliciting number was received, also after one more
pub heard_greatest : {P M : Type 0} → (old new : Space P M) (now number : ℕ) (ack_eliciting : Bool)
    → HasGreatestCome old → ReceivesNew old now number ack_eliciting new → HasGreatestCome new
heard_greatest old new now number ack_eliciting come step n is exceeds =
    grind (
      arith,
      step.hears.counts,
      is,
      here (greatest_with (HasReceived old.dedup) number (has_greatest old.dedup)),
      below,
    )
  where
    below : (k : ℕ) → (acks_of old).counts.greatest ≡ Some k → k ≡ n → ⊥
    below k was same = stays_reached (HasReceived old.dedup) (HasReceived new.dedup) number
        (has_greatest old.dedup) step.numbers k
        (come k was) (rw same exceeds)

    -- n is not the number itself
    here : HasGreatest (InsertNumber number (HasReceived old.dedup)) → number ≡ n → ⊥
    here (inl none) same = none number (inl refl)
    here (inr g) same =
        let le : number ≤ g.0 = g.2 number (inl refl) in
        let lt : g.0 < n = exceeds g.0 ((step.numbers g.0).1 (g.1, λ k there. omega (arith, g.2 k there))) in
        omega (arith, same)

-- what is acknowledged does not change the largest ack-eliciting number
pub acked_greatest : {P M : Type 0} → (number : ℕ) (packet : Packet P M) (old new : Space P M) → HasGreatestCome old
    → SubtractsLargest packet.largest_acked (acks_of old) (acks_of new)
    → new ≡ with_acks (acks_of new) (after_acknowledging number packet.time_sent old) → HasGreatestCome new
acked_greatest number packet old new come subtracts others n is =
    rw others (come n (grind (arith, subtracts, is)))
