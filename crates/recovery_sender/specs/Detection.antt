-- The outcome of the packets that a loss detection pass scans, in order.
use Rattle.std.specs.Prelude.{◌≡◌, ◌≢◌, ◌↔◌, ℕ, ◌<◌, ◌⊎◌, Decides, min, List, [], ◌∷◌, ◌++◌, Bool, false, Option, None, Some, option_map, Ok, if◌then◌else◌}
use Rattle.std.specs.Option.{ForSome}
use Rattle.recovery_base.specs.declared.below.SpaceId.{SpaceId}
use Rattle.recovery_base.specs.Units.{largest_u64, last_time}
use Rattle.recovery_events.specs.declared.event.Answer.{Answer}
use Rattle.recovery_events.specs.declared.event.Answer.TheVariants.{BlackHole}
use Rattle.recovery_events.specs.declared.event.Event.TheVariants.{LossesDone, Congestion}
use Rattle.recovery_spaces.specs.Packets.{Packet, Packets, packet_at}
use Rattle.recovery_losses.specs.declared.looks.Candidate.{Candidate}
use Rattle.recovery_losses.specs.declared.looks.LossPass.{LossPass}
use Rattle.recovery_losses.specs.declared.tally.Tally.{Tally}
use Rattle.recovery_losses.specs.Losses.{AreLost, IsEarliest, IsLost, IsLostBelow, IsDeclaredLost, HasCounted, bytes_counted, counting, cutting, finding_probe, last_counted, lost_at, waiting}
use Rattle.recovery_losses.specs.DetectionPass.{PassSoFar, TriesEachLost}
use Rattle.recovery_losses.specs.PersistentCongestion.{IsEndAt, IsPersistentCongestion}
use Rattle.recovery_history.specs.RecoveryState.{RecoveryState}
use Rattle.recovery_sender.specs.declared.sender.losses.Losses.{Losses}
use Rattle.recovery_sender.specs.declared.sender.Sender.{Sender}
use Rattle.recovery_sender.specs.Bounds.{latest_start}
use Rattle.recovery_sender.specs.Attempts.{LossAttempt, declared_in, is_cut_in, probe_attempts, tried_in, trying}
use Rattle.recovery_sender.specs.Losses.{largest_in, look_of, IsEmptyLosses}
use Rattle.recovery_sender.specs.Promises.Lost.{LosesTracked}
use Rattle.recovery_sender.specs.Promises.Pasts.{ForEveryExplainedPast, ForEveryPast}
use Rattle.recovery_sender.specs.Promises.Persistent.{PersistsByEvents}
use Rattle.recovery_sender.specs.Senders.{state_in}
use Rattle.recovery_sender.specs.Spaces.{packets_in}
use Rattle.recovery_sender.specs.Steps.{SenderStep, loss_time, occurs, told, TakesSteps}

module _ {F Q R C K S M P : Type 0} {f : _} {c : _} {q : _} {m : _} {r : _} (look : LossPass) (packet : Candidate)
    (old : Sender F Q R C K S M P f c q m r) (before : List ℕ) (found : Tally) (new : Sender F Q R C K S M P f c q m r)
    (behind : List ℕ) (now : Tally) where
  -- it is not lost yet
  pub record IsNotYetLost : Type 0 where
    pub goes : TakesSteps [] old new
    pub numbers : behind ≡ before
    pub kept : ¬ IsLost look packet.number packet.time_sent
    pub tally : now ≡ waiting (lost_at look packet.time_sent) found

  -- it is the MTU probe, which is tried last
  pub record IsLostMtuProbe : Type 0 where
    pub goes : TakesSteps [] old new
    pub numbers : behind ≡ before
    pub lost : IsLost look packet.number packet.time_sent
    pub probe : look.probe ≡ Some packet.number
    pub tally : now ≡ finding_probe look packet found

  -- it is declared lost, or allocation fails
  pub record IsTried (is_refused : Bool) : Type 0 where
    pub goes : TakesSteps (trying look.space ((packet.number, is_refused) ∷ [])) old new
    pub numbers : behind ≡ (if is_refused then before else before ++ packet.number ∷ [])
    pub lost : IsLost look packet.number packet.time_sent
    pub other : look.probe ≢ Some packet.number
    pub tally : now ≡ (if is_refused then cutting look found else counting look packet found)

  abbrev pub ClassifiesPacket : Type 0
  ClassifiesPacket = IsNotYetLost ⊎ (IsLostMtuProbe ⊎ (is_refused : Bool) × IsTried is_refused)

-- the packets below a number were scanned: each lost packet was tried once, except the MTU probe
pub record HasScanned {F Q R C K S M P : Type 0} {f : _} {c : _} {q : _} {m : _} {r : _} (look : LossPass)
    (start : Sender F Q R C K S M P f c q m r) (end : ℕ) (numbers : List ℕ) (found : Tally)
    (now : Sender F Q R C K S M P f c q m r) : Type 0 where
  pub looked : PassSoFar look (packets_in (state_in start) look.space) end numbers found
      (packets_in (state_in now) look.space)
  pub attempts : List LossAttempt
  pub tries : TriesEachLost look (packets_in (state_in start) look.space) end (tried_in attempts) found.probe
  pub declared : numbers ≡ declared_in attempts
  pub cut : found.is_cut ≡ is_cut_in attempts
  pub goes : TakesSteps (trying look.space attempts) start now

-- ---- after the scan

-- an answer reports a black hole
abbrev pub is_reported : {Q : Type 0} → Answer Q → Bool
is_reported (BlackHole reported) = reported
is_reported answer = false

-- the losses are ended, if any; the answer reports whether there is a black hole (RFC 8899, 4.3)
abbrev pub ended : {Q S M P : Type 0} → ℕ → Bool → List ℕ → List (SenderStep Q S M P)
ended now reported [] = []
ended now reported (number ∷ numbers) = told (LossesDone now) (Ok (BlackHole reported)) ∷ []

-- Congestion is reported, if the last packet that counts was sent at this time (RFC 9002, 7.3.2). If it is persistent,
-- it is reported as of a packet sent after the start of every recovery period: the window falls to its minimum (7.6.2).
abbrev pub congested : {Q S M P : Type 0} → ℕ → Bool → ℕ → Option ℕ → List (SenderStep Q S M P)
congested now persistent bytes None = []
congested now persistent bytes (Some sent) =
    occurs (Congestion (min now latest_start) (if persistent then last_time else sent) persistent bytes) ∷ []

-- ---- a whole pass

-- the result of a pass, and when the next one is due
pub record PassResult {P M : Type 0} (look : LossPass) (packets : Packets P M) (attempts : List LossAttempt)
    (losses : Losses) (time : Option ℕ) : Type 0
  where
    -- the MTU probe, if it is lost
    pub found : Option ℕ
    -- each lost packet is tried once, in the order of the numbers, and the MTU probe last
    pub tries : TriesEachLost look packets look.largest (tried_in attempts) found
    pub declared : losses.numbers.items ≡ declared_in attempts
    pub is_found : ForSome found (λ number. (look.probe ≡ Some number) × IsLostBelow look packets number)
    pub lost : AreLost look packets look.largest losses.numbers.items
    pub probe : ForSome losses.probe (λ number. found ≡ Some number)
    -- it is cut exactly if allocation failed for one of them
    pub cut : losses.is_cut ≡ is_cut_in (attempts ++ probe_attempts found losses.probe)
    -- the next pass is due when the next packet is lost by its age, or at once if this pass is cut
    pub earliest : IsEarliest look packets look.largest (IsDeclaredLost losses.numbers.items losses.probe) time
    -- whether congestion is persistent (RFC 9002, 7.6)
    pub persistent : Decides losses.is_persistent (IsPersistentCongestion (IsDeclaredLost losses.numbers.items found)
        (IsEndAt look packets losses.numbers.items) look.skipped look.period)
    -- the bytes of the packets that count, if any
    pub congestion : losses.congestion
        ≡ option_map (λ sent. min (bytes_counted look packets losses.numbers.items) largest_u64)
        (last_counted look packets losses.numbers.items)
    -- in short: it is reported exactly if one of those declared lost counts
    pub reported : (losses.congestion ≢ None) ↔ HasCounted look packets losses.numbers.items
    -- if nothing was declared lost, no black hole is reported
    pub black_hole : losses.numbers.items ≡ [] → losses.is_black_hole ≡ false

-- the events of a pass made at `now`, in order (RFC 9002, A.10; RFC 9000, 14.4)
abbrev pub detecting : {Q S M P : Type 0} → LossPass → ℕ → List LossAttempt → Option ℕ → Losses → ℕ → Option ℕ
    → Option ℕ → List (SenderStep Q S M P)
detecting look now attempts found losses bytes sent time = trying look.space attempts
    ++ (ended now losses.is_black_hole losses.numbers.items
    ++ (congested now losses.is_persistent bytes sent
    ++ (trying look.space (probe_attempts found losses.probe) ++ loss_time look.space time ∷ [])))

-- nothing was acknowledged, or nothing is tracked below the largest acknowledged
abbrev pub HasNoGap : {K P M : Type 0} → RecoveryState K P M → SpaceId → Type 0
HasNoGap {K} {P} {M} recovery space = (largest : ℕ) → largest_in recovery space ≡ Some largest → (number : ℕ)
    (packet : Packet P M) → packet_at (packets_in recovery space) number ≡ Some packet → number < largest → ⊥

-- the pass over a space that is made at `now` and judges age by the time `at`, with these losses
pub record DetectsLosses {F Q R C K S M P : Type 0} {f : _} {c : _} {q : _} {m : _} {r : _} (space : SpaceId)
    (now at : ℕ) (due_to_ack : Bool) (old : Sender F Q R C K S M P f c q m r) (losses : Losses)
    (new : Sender F Q R C K S M P f c q m r) : Type 0 where
  pub looks : (largest : ℕ) → largest_in (state_in old) space ≡ Some largest →
      (let look : LossPass = look_of (state_in old) old.variables space at due_to_ack largest in
      let packets = packets_in (state_in old) space in
      (attempts : List LossAttempt) × (time : Option ℕ)
      × (result : PassResult look packets attempts losses time) × ForEveryPast old (LosesTracked look losses time)
      × TakesSteps (detecting look now attempts result.found losses
      (min (bytes_counted look packets losses.numbers.items) largest_u64)
      (last_counted look packets losses.numbers.items) time) old new)
  pub none : largest_in (state_in old) space ≡ None
      → IsEmptyLosses losses × TakesSteps (loss_time space None ∷ []) old new
  -- persistent congestion is reported only with cause, by the events so far (RFC 9002, 7.6)
  pub persists : (largest : ℕ) → largest_in (state_in old) space ≡ Some largest
      → ForEveryExplainedPast old (PersistsByEvents (look_of (state_in old) old.variables space at due_to_ack largest)
      losses old.variables.sampled)
