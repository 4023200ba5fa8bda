-- What probes, losses, queues and ECN counts change preserves the balance of the paths. The calls for these rest on it.
use Rattle.std.proofs.Common.{◌∙◌, ◌≡◌, ℕ, ◌≤◌, nat_le, Bool, false, ◌&&◌, IsTrue, Option, None, Some, Result, Ok, Err, OnOk, OnErr, refl, ap, arith}
use Rattle.std.proofs.lemmas.Bool.Decides.{nat_tests}
use Rattle.std.specs.Option.{IsSomeAnd}
use Rattle.std.specs.declared.ops.RangeInclusive.{RangeInclusive}
use Rattle.std.specs.Range.{range_inclusive_start, range_inclusive_end, range_inclusive_exhausted}
use Rattle.recovery_base.specs.declared.below.SpaceId.TheVariants.{Initial, Handshake, Data}
use Rattle.recovery_base.specs.declared.below.SpaceId.{SpaceId}
use Rattle.recovery_base.specs.declared.below.frames.EcnCounts.{EcnCounts}
use Rattle.recovery_spaces.specs.Packets.{Tracking}
use Rattle.recovery_spaces.specs.Probes.{ProbeFound}
use Rattle.recovery_spaces.specs.SpaceLog.{probes, feeds_back}
use Rattle.recovery_spaces.specs.Spaces.{Space, Spaces, space_of, with_space, tracking_of, acks_of, next_number_of, SpaceStep}
use Rattle.recovery_spaces.proofs.CoherentLaws.{coherent_kept, come_kept}
use Rattle.recovery_paths.specs.Balance.{AreBalanced}
use Rattle.recovery_paths.specs.PathLog.{PerPath}
use Rattle.recovery_paths.specs.PathStates.{Path}
use Rattle.recovery_paths.proofs.BalanceLaws.{kept, probed}
use Rattle.recovery_queue.specs.Queues.{QueueSemantics}
use Rattle.recovery_packet_numbers.specs.Filters.{AcksSkippedNumber, range_holds}
use Rattle.recovery_history.specs.ReplyInputs.{ReplyInputs}
use Rattle.recovery_history.specs.PartReplies.{skipped_in}
use Rattle.recovery_history.proofs.DriverLaws.{with_same_space}

-- nothing that is tracked or was received changes
pub record Stays {P M : Type 0} (old new : Space P M) : Type 0 where
  pub tracking : tracking_of new ≡ tracking_of old
  pub next : next_number_of new ≡ next_number_of old
  pub acks : acks_of new ≡ acks_of old
  pub dedup : new.dedup ≡ old.dedup

pub stays_as : {P M : Type 0} (like old new : Space P M) → new ≡ like → Stays old like → Stays old new
stays_as like old new same stays = rw same stays

module _ {K P M : Type 0} (spaces : Spaces P M) (paths : PerPath (Path K)) (balanced : AreBalanced spaces paths) where
  pub stays_balanced : (space : SpaceId) (here : Space P M) → Stays (space_of space spaces) here
      → AreBalanced (with_space spaces space here) paths
  stays_balanced space here stays =
      kept spaces paths balanced space here (ap (λ (t : Tracking P M). t.packets) stays.tracking)
      (coherent_kept (space_of space spaces) here (balanced.coherent space)
      (come_kept (space_of space spaces) here (balanced.coherent space).received stays.acks stays.dedup)
      stays.tracking stays.next)

  -- the ACKs change, and no packet is sent or leaves
  pub acks_balanced : (space : SpaceId) (before here : Space P M) → before ≡ space_of space spaces
      → tracking_of here ≡ tracking_of before → next_number_of here ≡ next_number_of before
      → here.dedup ≡ before.dedup → (acks_of here).counts.greatest ≡ (acks_of before).counts.greatest
      → AreBalanced (with_space spaces space here) paths
  acks_balanced space before here is tracking next dedup greatest =
      let was = balanced.coherent space in
      kept spaces paths balanced space here (grind (arith, is, tracking))
      (coherent_kept _ here was (λ n g. grind (arith, was.received n, is, dedup, greatest, g))
      (tracking ∙ ap tracking_of is)
      (next ∙ ap next_number_of is))

  -- a probe is requested, unless an allocation fails
  pub probe_balanced : {S A B : Type 0} (words : QueueSemantics P S) (space : SpaceId) (immediate : Bool)
      (found : ProbeFound) (result : Result A B) (here : Space P M)
      → OnOk result (SpaceStep words (probes immediate found) (space_of space spaces) here)
      → OnErr result (here ≡ space_of space spaces) → AreBalanced (with_space spaces space here) paths
  probe_balanced words space immediate found (Ok answer) here step same =
      rw step (probed spaces paths balanced words space immediate found)
  probe_balanced words space immediate found (Err error) here step same =
      rw (with_same_space spaces space here same) balanced

-- ECN counts are stored, or rejected
pub fed_back_stays : {P M S A B : Type 0} (words : QueueSemantics P S) (counts : EcnCounts) (result : Result A B)
    (old new : Space P M) → OnOk result (SpaceStep words (feeds_back counts) old new) → OnErr result (new ≡ old)
    → Stays old new
fed_back_stays words counts result old new step same = grind (arith, step, same)

-- ---- acknowledgements of skipped numbers

module _ {K P M : Type 0} (known : ReplyInputs K P M) (range : RangeInclusive ℕ) (low high : ℕ)
    (start : range_inclusive_start range ≡ low) (end : range_inclusive_end range ≡ high)
    (whole : range_inclusive_exhausted range ≡ false) where
  -- if the range is not empty, it has what is between its ends
  holds_between : (n : ℕ) → range_holds range n ≡ (nat_le low n && nat_le n high)
  holds_between n = grind (arith, start, end, whole)

  pub skip_acked : (space : SpaceId) → AcksSkippedNumber space range known.skipped
      → IsSomeAnd (skipped_in known space) (λ s. (low ≤ s) × (s ≤ high))
  skip_acked Data acks = go known.skipped acks.holds
    where
      go : (last : Option ℕ) → IsSomeAnd last (λ s. IsTrue (range_holds range s))
          → IsSomeAnd last (λ s. (low ≤ s) × (s ≤ high))
      go None is = is
      go (Some s) is = grind (arith, nat_tests, holds_between s)
  skip_acked Initial acks = let elsewhere = acks.in_data in absurd (cc)
  skip_acked Handshake acks = let elsewhere = acks.in_data in absurd (cc)

  pub acks_skip : (space : SpaceId) → IsSomeAnd (skipped_in known space) (λ s. (low ≤ s) × (s ≤ high))
      → AcksSkippedNumber space range known.skipped
  acks_skip Data is = record { in_data = refl; holds = go known.skipped is }
    where
      go : (last : Option ℕ) → IsSomeAnd last (λ s. (low ≤ s) × (s ≤ high))
          → IsSomeAnd last (λ s. IsTrue (range_holds range s))
      go None is = is
      go (Some s) is = grind (arith, nat_tests, holds_between s)
  acks_skip Initial is = absurd is
  acks_skip Handshake is = absurd is
