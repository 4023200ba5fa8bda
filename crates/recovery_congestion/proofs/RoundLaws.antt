-- A controller that reduces its window only when it begins a recovery does so once a round trip.
use Rattle.std.proofs.Common.{◌≡◌, ℕ, ◌+◌, ◌<◌, ◌≤◌, ◌⊎◌, inl, inr, arith, Bool, List, [], ◌∷◌}
use Rattle.recovery_congestion.specs.Calls.{ControllerCall, acks, congests, ends_acks, sends, takes_mtu}
use Rattle.recovery_congestion.specs.Controllers.{ControllerSemantics}
use Rattle.recovery_base.specs.Units.{largest_u64}
use Rattle.recovery_congestion.specs.Rounds.{AreInOrder, IsBehind, content_by, LowersWindow, ReducedBefore, ReducesOncePerRound}

-- all calls but those of congestion
abbrev pub IsNoCongestion : ControllerCall → Type 0
IsNoCongestion (congests now sent persistent lost) = ⊥
IsNoCongestion call = Unit {0}

module _ {K : Type 0} (words : ControllerSemantics K) (start : K → ℕ) where
  -- a call begins no recovery and reduces no window of 64 bits
  pub record KeepsRecovery (old new : K) : Type 0 where
    pub start_is : start new ≡ start old
    pub window : words.window old ≤ largest_u64 → words.window old ≤ words.window new

  -- a call begins a recovery, for a packet that was sent after the start of the recovery before
  pub record BeginsRecovery (now sent : ℕ) (old new : K) : Type 0 where
    pub later : start old < sent
    pub start_is : start new ≡ now

  -- what a controller proves: only congestion begins a recovery, and nothing else reduces the window
  pub record ReducesInRecovery : Type 0 where
    pub other : (call : ControllerCall) (k : K) → IsNoCongestion call → KeepsRecovery k (words.after call k)
    pub congested : (now sent : ℕ) (persistent : Bool) (lost : ℕ) (k : K)
        → let new = words.after (congests now sent persistent lost) k in
        ((start new ≡ start k) × (words.window k ≤ words.window new)) ⊎ BeginsRecovery now sent k new

  module _ (reduces : ReducesInRecovery) (built : K) where
    before_later : (time later : ℕ) (calls : List ControllerCall) → time ≤ later
        → ReducedBefore words built time calls → ReducedBefore words built later calls
    before_later time later [] less fell = tt
    before_later time later (congests now sent persistent lost ∷ earlier) less fell =
        (λ lowers. let here = fell.0 lowers in omega (arith, here, less), before_later time later earlier less fell.1)
    before_later time later (sends now bytes number ∷ earlier) less fell = before_later time later earlier less fell
    before_later time later (acks now sent bytes limited rtt ∷ earlier) less fell =
        before_later time later earlier less fell
    before_later time later (ends_acks now bytes limited largest ∷ earlier) less fell =
        before_later time later earlier less fell
    before_later time later (takes_mtu mtu ∷ earlier) less fell = before_later time later earlier less fell

    -- in the order of time
    behind_all : (now : ℕ) (calls : List ControllerCall) → IsBehind now calls
        → ReducedBefore words built (now + 1) calls
    behind_all now [] behind = tt
    behind_all now (congests before sent persistent lost ∷ earlier) behind =
        (λ lowers. let here = behind.0 in omega (arith, here), behind_all now earlier behind.1)
    behind_all now (sends at bytes number ∷ earlier) behind = behind_all now earlier behind
    behind_all now (acks at sent bytes limited rtt ∷ earlier) behind = behind_all now earlier behind
    behind_all now (ends_acks at bytes limited largest ∷ earlier) behind = behind_all now earlier behind
    behind_all now (takes_mtu mtu ∷ earlier) behind = behind_all now earlier behind

    abbrev start_by : List ControllerCall → ℕ
    start_by calls = start (content_by words built calls)

    by_start : (new old : ℕ) (calls : List ControllerCall) → new ≡ old → ReducedBefore words built (old + 1) calls
        → ReducedBefore words built (new + 1) calls
    by_start new old calls is fell = rw is fell

    kept : (call : ControllerCall) (earlier : List ControllerCall) → IsNoCongestion call
        → ReducedBefore words built (start_by earlier + 1) earlier
        → ReducedBefore words built (start_by (call ∷ earlier) + 1) earlier
    kept call earlier other fell =
        by_start _ _ earlier (reduces.other call (content_by words built earlier) other).start_is fell

    -- each reduction happened up to the start of the recovery
    fell_by : (calls : List ControllerCall) → AreInOrder calls → ReducedBefore words built (start_by calls + 1) calls
    fell_by [] order = tt
    fell_by (congests now sent persistent lost ∷ earlier) order =
        elim (reduces.congested now sent persistent lost (content_by words built earlier)) [
          | inl same ↦ (
            λ lowers. absurd (omega (arith, lowers, same.1)),
            by_start _ _ earlier same.0 (fell_by earlier order.1),
          )
          | inr begins ↦ (
            λ lowers. omega (arith, begins.start_is),
            by_start _ _ earlier begins.start_is (behind_all now earlier order.0),
          )
        ]
    fell_by (sends now bytes number ∷ earlier) order =
        kept (sends now bytes number) earlier tt (fell_by earlier order)
    fell_by (acks now sent bytes limited rtt ∷ earlier) order =
        kept (acks now sent bytes limited rtt) earlier tt (fell_by earlier order)
    fell_by (ends_acks now bytes limited largest ∷ earlier) order =
        kept (ends_acks now bytes limited largest) earlier tt (fell_by earlier order)
    fell_by (takes_mtu mtu ∷ earlier) order = kept (takes_mtu mtu) earlier tt (fell_by earlier order)

    never_lowers : (call : ControllerCall) (calls : List ControllerCall) → IsNoCongestion call
        → words.window (content_by words built calls) ≤ largest_u64 → LowersWindow words built call calls → ⊥
    never_lowers call calls other within lowers =
        let up = (reduces.other call (content_by words built calls) other).window within in omega (arith, up, lowers)

    pub falls_once : (call : ControllerCall) (calls : List ControllerCall) → AreInOrder calls
        → ReducesOncePerRound words built call calls
    falls_once (congests now sent persistent lost) calls order = λ lowers.
        elim (reduces.congested now sent persistent lost (content_by words built calls)) [
          | inl same ↦ absurd (omega (arith, lowers, same.1))
          | inr begins ↦
              before_later (start_by calls + 1) sent calls (omega (arith, begins.later)) (fell_by calls order)
        ]
    falls_once (acks now sent bytes limited rtt) calls order = never_lowers (acks now sent bytes limited rtt) calls tt
    falls_once (sends now bytes number) calls order = never_lowers (sends now bytes number) calls tt
    falls_once (ends_acks now bytes limited largest) calls order =
        never_lowers (ends_acks now bytes limited largest) calls tt
    falls_once (takes_mtu mtu) calls order = never_lowers (takes_mtu mtu) calls tt
