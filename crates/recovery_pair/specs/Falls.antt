-- Windows fall once a round trip (RFC 9002, 7.3.2 and B.6). A step reduces the window of an endpoint, or its slow start
-- threshold, only if it begins a recovery period there. For this it reports as lost a packet that the endpoint sent
-- after its last recovery period began, or it reports persistent congestion (7.6.2).
use Rattle.std.specs.Prelude.{◌≡◌, ℕ, ◌<◌, ◌≤◌, ◌⊎◌, min, Bool, true, List}
use Rattle.recovery_base.specs.declared.below.SpaceId.{SpaceId}
use Rattle.recovery_base.specs.Units.{largest_u64}
use Rattle.recovery_congestion.specs.Calls.{ControllerCall, congests as reports_congestion}
use Rattle.recovery_congestion.specs.Controllers.{ControllerSemantics}
use Rattle.recovery_losses.specs.Losses.{IsOneOf}
use Rattle.recovery_history.specs.History.{History}
use Rattle.recovery_sender.specs.Bounds.{latest_start}
use Rattle.recovery_sender.specs.Promises.Lost.{sent_at}
use Rattle.recovery_sender.specs.Promises.Pasts.{ForEveryPast}
use Rattle.recovery_sender.specs.Senders.{state_in}
use Rattle.recovery_sender.specs.declared.sender.Sender.{Sender}
use Rattle.recovery_pair.specs.declared.steps.End.{End}
use Rattle.recovery_pair.specs.declared.steps.End.TheVariants.{Client, Server}
use Rattle.recovery_pair.specs.declared.steps.LocalStep.TheVariants.{Expire}
use Rattle.recovery_pair.specs.declared.steps.PairStep.{PairStep}
use Rattle.recovery_pair.specs.declared.steps.PairStep.TheVariants.{Arrive, Local}
use Rattle.recovery_pair.specs.Congested.{Congestions}
use Rattle.recovery_pair.specs.LeastWindows.{persists_at}
use Rattle.recovery_pair.specs.Logs.{PairEvent, PairLog, time_sent}
use Rattle.recovery_pair.specs.Pasts.{Continues}
use Rattle.recovery_pair.specs.Promises.Resends.{lost_by}

-- ---- controllers

-- it reports no congestion
abbrev pub IsNoCongestion : ControllerCall → Type 0
IsNoCongestion (reports_congestion now sent persistent lost) = ⊥
IsNoCongestion call = Unit {0}

module _ {K : Type 0} (words : ControllerSemantics K) where
  -- no recovery period begins, the window, of 64 bits, does not fall, and the slow start threshold stays
  pub record KeepsRecovery (old new : K) : Type 0 where
    pub start : words.recovery_start new ≡ words.recovery_start old
    pub window : min (words.window old) largest_u64 ≤ words.window new
    pub threshold : (words.metrics new).ssthresh ≡ (words.metrics old).ssthresh

  -- both fall only if congestion begins a recovery period, for a packet that was sent after the last one began;
  -- so NewReno does (`new_reno_recovers`)
  pub record FallsByRecovery : Type 0 where
    pub other : (call : ControllerCall) (k : K) → IsNoCongestion call → KeepsRecovery k (words.after call k)
    pub congested : (now sent : ℕ) (persistent : Bool) (lost : ℕ) (k : K)
        → let new = words.after (reports_congestion now sent persistent lost) k in
        KeepsRecovery k new ⊎ (words.recovery_start k < sent) × (words.recovery_start new ≡ now)

-- ---- endpoints

-- when congestion may be found: when a packet arrives, or when the loss detection timer is handled
abbrev pub found_at : PairStep → ℕ
found_at (Arrive at now) = now
found_at (Local end (Expire now)) = now
found_at step = 0

-- a recovery period begins then
abbrev pub BeginsAt : PairStep → ℕ → Type 0
BeginsAt (Arrive at now) start = start ≡ min now latest_start
BeginsAt (Local end (Expire now)) start = start ≡ min now latest_start
BeginsAt step start = ⊥

module _ {F Q R C K S M P : Type 0} {f : _} {c : _} {q : _} {m : _} {r : _} where
  abbrev pub controller_in : Sender F Q R C K S M P f c q m r → K
  controller_in sender = (state_in sender).paths.current.state.controller

  -- when its last recovery period began
  abbrev pub recovery_start_in : Sender F Q R C K S M P f c q m r → ℕ
  recovery_start_in sender = c.words.recovery_start (controller_in sender)

  -- of an endpoint, by a step
  pub record BeginsRecovery (log : PairLog) (event : PairEvent) (end : End) (old new : Sender F Q R C K S M P f c q m r)
      : Type 0 where
    pub begins : BeginsAt event.0 (recovery_start_in new)
    pub cause : (persists_at end event ≡ true) ⊎ (space : SpaceId) × (n : ℕ) × IsOneOf n (lost_by end space event)
        × (recovery_start_in old < time_sent end space n log)

  abbrev pub FallsAt : PairLog → PairEvent → End → Sender F Q R C K S M P f c q m r
      → Sender F Q R C K S M P f c q m r → Type 0
  FallsAt log event end old new =
      KeepsRecovery c.words (controller_in old) (controller_in new) ⊎ BeginsRecovery log event end old new

  -- of both
  abbrev pub FallOnce : PairLog → PairEvent → Sender F Q R C K S M P f c q m r → Sender F Q R C K S M P f c q m r
      → Sender F Q R C K S M P f c q m r → Sender F Q R C K S M P f c q m r → Type 0
  FallOnce log event client server client_after server_after = FallsByRecovery c.words
      → FallsAt log event Client client client_after × FallsAt log event Server server server_after

  -- one of these lost packets was sent at this time
  abbrev pub WasLost : Sender F Q R C K S M P f c q m r → (SpaceId → List ℕ) → ℕ → Type 0
  WasLost sender lost sent = (space : SpaceId) × (n : ℕ) × IsOneOf n (lost space)
      × ForEveryPast sender (λ past. sent ≡ sent_at space past n)

  -- A call finds congestion at this time at most. If it is not persistent, the last lost packet is one of these. `Goes`
  -- is what the call adds to a past, by the congestion that is found.
  pub record FindsWithCause (persistent : Bool) (lost : SpaceId → List ℕ) (now : ℕ)
      (Goes : Congestions → History Q S M P → History Q S M P → Type 0) (old new : Sender F Q R C K S M P f c q m r)
      : Type 0 where
    pub congests : Congestions
    pub goes : Continues (Goes congests) old new
    pub at : (found sent : ℕ) → congests found sent ≡ true → found ≡ min now latest_start
    pub cause : (found sent : ℕ) → congests found sent ≡ true → (persistent ≡ true) ⊎ WasLost old lost sent
