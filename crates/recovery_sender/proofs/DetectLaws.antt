-- A loss detection pass as a whole: its parts in order.
use Rattle.std.proofs.Common.{◌≡◌, ◌≢◌, ℕ, min, Bool, true, false, true≢false, Decides, List, [], ◌∷◌, ◌++◌, Option, None, Some, option_map, IfSome, IfNone, ◌⊎◌, inl, inr, refl, sym, ap, subst, ◌∙◌, append-nil, arith}
use Rattle.std.proofs.lemmas.Option.{none-some, same_Some}
use Rattle.std.specs.Option.{ForSome}
use Rattle.recovery_base.specs.declared.below.SpaceId.{SpaceId}
use Rattle.recovery_base.specs.Units.{largest_u64}
use Rattle.recovery_spaces.specs.Discarded.{is_discarded}
use Rattle.recovery_spaces.specs.Packets.{Packets}
use Rattle.recovery_losses.specs.declared.looks.LossPass.{LossPass}
use Rattle.recovery_losses.specs.declared.tally.Tally.{Tally}
use Rattle.recovery_losses.specs.Losses.{IsEarliest, IsDeclaredLost, bytes_counted, cutting, last_counted, waiting}
use Rattle.recovery_losses.specs.DetectionPass.{PassSoFar}
use Rattle.recovery_losses.specs.PersistentCongestion.{IsEndAt, IsPersistentCongestion}
use Rattle.recovery_losses.proofs.DetectionPassLaws.{probe_waits}
use Rattle.recovery_losses.proofs.PersistentCongestionLaws.{reports_counted}
use Rattle.recovery_history.specs.History.{queue_model}
use Rattle.recovery_history.specs.RecoveryState.{RecoveryState}
use Rattle.recovery_sender.specs.Attempts.{LossAttempt, is_cut_in, probe_attempts, trying}
use Rattle.recovery_sender.proofs.AttemptLaws.{cut_more}
use Rattle.recovery_sender.specs.declared.sender.losses.Losses.{Losses}
use Rattle.recovery_sender.specs.declared.sender.Sender.{Sender}
use Rattle.recovery_sender.specs.Detection.{DetectsLosses, HasScanned, HasNoGap, PassResult, congested, detecting, ended}
use Rattle.recovery_sender.specs.Losses.{largest_in, look_of, IsEmptyLosses}
use Rattle.recovery_sender.specs.Promises.Lost.{LosesTracked}
use Rattle.recovery_sender.specs.Promises.Pasts.{ForEveryExplainedPast, ForEveryPast}
use Rattle.recovery_sender.specs.Promises.Persistent.{PersistsByEvents}
use Rattle.recovery_sender.specs.Senders.{state_in}
use Rattle.recovery_sender.specs.Spaces.{packets_in}
use Rattle.recovery_sender.specs.Steps.{SenderStep, TakesSteps, StepsLeadTo, loss_time}
use Rattle.recovery_sender.proofs.LeadLaws.{leads_on}
use Rattle.recovery_sender.proofs.PersistentLaws.{persists_by_events}
use Rattle.recovery_sender.proofs.PromiseLaws.{loses_tracked}

-- the outcome of the MTU probe
module _ {P M : Type 0} (look : LossPass) (packets : Packets P M) (numbers : List ℕ) (tally : Tally) (now : Packets P M)
    (looked : PassSoFar look packets look.largest numbers tally now) where
  pub earliest_behind : (probe : Option ℕ) (after : Tally)
      → IfSome probe (λ number. (tally.probe ≡ Some number) × (after ≡ tally))
      → IfNone probe ((tally.probe ≡ None) × (after ≡ tally) ⊎ (tally.probe ≢ None) × (after ≡ cutting look tally))
      → IsEarliest look packets look.largest (IsDeclaredLost numbers probe) after.loss_time
  earliest_behind (Some number) after told waits =
      let same : IsEarliest look packets look.largest (IsDeclaredLost numbers (Some number)) tally.loss_time =
      subst (λ probe. IsEarliest look packets look.largest (IsDeclaredLost numbers probe) tally.loss_time) told.0
      looked.earliest in
      rw told.1 same
  earliest_behind None after told (inl none) =
      let same : IsEarliest look packets look.largest (IsDeclaredLost numbers None) tally.loss_time =
      subst (λ probe. IsEarliest look packets look.largest (IsDeclaredLost numbers probe) tally.loss_time) none.0
      looked.earliest in
      rw none.1 same
  earliest_behind None after told (inr some) = rw some.1 (one_waits tally.probe refl)
    where
      one_waits : (probe : Option ℕ) → tally.probe ≡ probe
          → IsEarliest look packets look.largest (IsDeclaredLost numbers None) (waiting look.at tally).loss_time
      one_waits None none = absurd (some.0 none)
      one_waits (Some probe) is = probe_waits look packets look.largest numbers tally now looked probe is

  pub cut_behind : (attempts : List LossAttempt) → tally.is_cut ≡ is_cut_in attempts → (probe : Option ℕ)
      (after : Tally) → IfSome probe (λ number. (tally.probe ≡ Some number) × (after ≡ tally))
      → IfNone probe ((tally.probe ≡ None) × (after ≡ tally) ⊎ (tally.probe ≢ None) × (after ≡ cutting look tally))
      → after.is_cut ≡ is_cut_in (attempts ++ probe_attempts tally.probe probe)
  cut_behind attempts cut (Some number) after told waits =
      rw (told.1, told.0) (cut ∙ sym (cut_more attempts number false))
  cut_behind attempts cut None after told (inl none) =
      rw (none.1, none.0) (cut ∙ ap is_cut_in (sym (append-nil attempts)))
  cut_behind attempts cut None after told (inr some) = rw some.1 (by tally.probe refl)
    where
      by : (probe : Option ℕ) → tally.probe ≡ probe → true ≡ is_cut_in (attempts ++ probe_attempts probe None)
      by None none = absurd (some.0 none)
      by (Some probe) is = sym (cut_more attempts probe true)

-- all steps, in order
module _ {F Q R C K S M P : Type 0} {f : _} {c : _} {q : _} {m : _} {r : _} (look : LossPass) (now : ℕ)
    (start found told shown probed new : Sender F Q R C K S M P f c q m r) (attempts last : List LossAttempt)
    (numbers : List ℕ) (reported persistent : Bool) (bytes : ℕ) (sent time : Option ℕ) where
  on : (steps more : List (SenderStep Q S M P)) (old between new : Sender F Q R C K S M P f c q m r)
      → StepsLeadTo f.built c.words (queue_model q.contents q.words q.blank) steps (state_in old) (state_in between)
      → StepsLeadTo f.built c.words (queue_model q.contents q.words q.blank) more (state_in between) (state_in new)
      → StepsLeadTo f.built c.words (queue_model q.contents q.words q.blank) (steps ++ more) (state_in old)
      (state_in new)
  on steps more old between new = leads_on f.built c.words (queue_model q.contents q.words q.blank) steps more
      (state_in old) (state_in between) (state_in new)

  pub goes_all : TakesSteps (trying look.space attempts) start found → TakesSteps
      (ended now reported numbers) found told
      → TakesSteps (congested now persistent bytes sent) told shown → TakesSteps
      (trying look.space last) shown probed → TakesSteps (loss_time look.space time ∷ []) probed new
      → TakesSteps (trying look.space attempts ++ (ended now reported numbers ++
      (congested now persistent bytes sent
      ++ (trying look.space last ++ loss_time look.space time ∷ [])))) start new
  goes_all finds ends congests probes times = record {
    leads = on (trying look.space attempts) _ start found new finds.leads
        (on (ended now reported numbers) _ found told new ends.leads
        (on (congested now persistent bytes sent) _ told shown new congests.leads
        (on (trying look.space last) (loss_time look.space time ∷ []) shown probed new probes.leads times.leads)));
    variables = times.variables ∙ probes.variables ∙ congests.variables ∙ ends.variables ∙ finds.variables;
  }

-- a space in which something was acknowledged is not discarded
kept_where : {K P M : Type 0} (recovery : RecoveryState K P M) (space : SpaceId) (largest : ℕ)
    → largest_in recovery space ≡ Some largest → is_discarded space recovery.discarded ≡ false
kept_where recovery space largest is = by (is_discarded space recovery.discarded) refl
  where
    by : (test : Bool) → is_discarded space recovery.discarded ≡ test
        → is_discarded space recovery.discarded ≡ false
    by true gone = absurd (none-some largest (rw gone at is))
    by false kept = kept

-- if nothing is lost, congestion is not persistent
no_persistence : {P M : Type 0} (look : LossPass) (packets : Packets P M)
    → Decides false (IsPersistentCongestion (IsDeclaredLost [] None) (IsEndAt look packets []) look.skipped look.period)
no_persistence look packets = ((λ never. absurd (true≢false (sym never))), λ persists. absurd persists.begins.told)

-- ---- the pass, by the state before and after

module _ {F Q R C K S M P : Type 0} {f : _} {c : _} {q : _} {m : _} {r : _} (space : SpaceId) (now at : ℕ) (due : Bool)
    (old : Sender F Q R C K S M P f c q m r) (losses : Losses) (new : Sender F Q R C K S M P f c q m r) where
  abbrev look_for : ℕ → LossPass
  look_for largest = look_of (state_in old) old.variables space at due largest

  -- the bytes of the packets that count
  abbrev counted_in : ℕ → ℕ
  counted_in largest =
      min (bytes_counted (look_for largest) (packets_in (state_in old) space) losses.numbers.items) largest_u64

  abbrev IsLook : ℕ → Type 0
  IsLook largest = let look = look_for largest in let packets = packets_in (state_in old) space in
      (attempts : List LossAttempt) × (time : Option ℕ)
      × (result : PassResult look packets attempts losses time) × TakesSteps (detecting look now attempts result.found
      losses (min (bytes_counted look packets losses.numbers.items) largest_u64)
      (last_counted look packets losses.numbers.items) time) old new

  -- by the events before
  promised : (largest : ℕ) → largest_in (state_in old) space ≡ Some largest → (attempts : List LossAttempt)
      (time : Option ℕ) → PassResult (look_for largest) (packets_in (state_in old) space) attempts losses time
      → ForEveryPast old (LosesTracked (look_for largest) losses time)
  promised largest is attempts time are = loses_tracked space old (kept_where (state_in old) space largest is)
      (look_for largest) attempts losses time refl are

  persists_then : (largest : ℕ) → largest_in (state_in old) space ≡ Some largest → (attempts : List LossAttempt)
      (time : Option ℕ) → PassResult (look_for largest) (packets_in (state_in old) space) attempts losses time
      → ForEveryExplainedPast old (PersistsByEvents (look_for largest) losses old.variables.sampled)
  persists_then largest is attempts time =
      persists_by_events space at due old (kept_where (state_in old) space largest is) largest attempts losses time

  -- nothing is tracked below the largest acknowledged
  pub detects_none : HasNoGap (state_in old) space → IsEmptyLosses losses
      → TakesSteps (loss_time space None ∷ []) old new → DetectsLosses space now at due old losses new
  detects_none none nothing goes = record {
    looks = λ largest is. (
      [],
      None,
      nothing_found largest is,
      promised largest is [] None (nothing_found largest is),
      rw nothing.numbers goes,
    );
    none = λ is. (nothing, goes);
    persists = λ largest is. persists_then largest is [] None (nothing_found largest is);
  }
    where
      nothing_found : (largest : ℕ) → largest_in (state_in old) space ≡ Some largest
          → PassResult (look_for largest) (packets_in (state_in old) space) [] losses None
      nothing_found largest is = record {
        found = None;
        tries = record {
          lost = record { rising = omega arith; lost = λ number never. absurd never };
          each = λ number lost small. absurd (none largest is number lost.0 lost.1.0 lost.1.1);
        };
        declared = nothing.numbers;
        is_found = λ number never. absurd (none-some number never);
        persistent = rw (nothing.numbers, nothing.persistent) (no_persistence _ _);
        lost = rw nothing.numbers (record { rising = omega arith; lost = λ number never. absurd never });
        probe = λ number is. absurd (none-some number (sym nothing.probe ∙ is));
        cut = nothing.cut;
        earliest = record {
          one = λ least never. absurd (none-some least never);
          least = λ number packet at below small untold is_due. absurd (none largest is number packet below.0 below.1);
        };
        congestion = rw nothing.numbers nothing.congestion;
        reported = reports_counted (look_for largest) (packets_in (state_in old) space) losses.numbers.items
            (counted_in largest) losses.congestion (rw nothing.numbers nothing.congestion);
        black_hole = λ none. nothing.black_hole;
      }

  -- all packets were scanned
  pub detects_all : (largest : ℕ) → largest_in (state_in old) space ≡ Some largest → IsLook largest
      → DetectsLosses space now at due old losses new
  detects_all largest known look = record {
    looks = λ other is. (let found = subst IsLook (same_Some largest other (sym known ∙ is)) look in
        (found.0, found.1, found.2, promised other is found.0 found.1 found.2, found.3));
    none = λ is. absurd (none-some largest (sym is ∙ known));
    persists = λ other is. (let found = subst IsLook (same_Some largest other (sym known ∙ is)) look in
        persists_then other is found.0 found.1 found.2);
  }

  pub found_all : (largest : ℕ) (tally : Tally) (found told shown probed : Sender F Q R C K S M P f c q m r)
      (after : Tally) → HasScanned (look_for largest) old largest losses.numbers.items tally found
      → TakesSteps (ended now losses.is_black_hole losses.numbers.items) found told
      → (losses.numbers.items ≡ [] → losses.is_black_hole ≡ false)
      → TakesSteps (congested now losses.is_persistent tally.bytes tally.last_sent) told shown
      → IfSome losses.probe (λ number. (tally.probe ≡ Some number) × (after ≡ tally))
      → IfNone losses.probe ((tally.probe ≡ None) × (after ≡ tally)
      ⊎ (tally.probe ≢ None) × (after ≡ cutting (look_for largest) tally))
      → TakesSteps (trying space (probe_attempts tally.probe losses.probe)) shown probed
      → TakesSteps (loss_time space after.loss_time ∷ []) probed new
      → losses.congestion ≡ option_map (λ sent. tally.bytes) tally.last_sent
      → losses.is_persistent ≡ tally.run.is_persistent → losses.is_cut ≡ after.is_cut → IsLook largest
  found_all largest tally found told shown probed after finds ends unreported congests is_lost kept probes times
      congestion persistent cut =
      let look = look_for largest in let looked = finds.looked in (
        finds.attempts,
        after.loss_time,
        record {
          found = tally.probe;
          tries = finds.tries;
          declared = finds.declared;
          is_found = λ number told. (let was = looked.probe number told in (was.0, was.2));
          persistent = rw persistent looked.run.persists;
          lost = looked.lost;
          probe = probe_found losses.probe is_lost;
          cut = cut ∙ cut_behind look _ losses.numbers.items tally _ looked finds.attempts finds.cut losses.probe after
              is_lost kept;
          earliest = earliest_behind look _ losses.numbers.items tally _ looked losses.probe after is_lost kept;
          congestion = rw (← looked.bytes, ← looked.last_sent) congestion;
          reported = reports_counted look (packets_in (state_in old) space) losses.numbers.items
              (counted_in largest) losses.congestion (rw (← looked.bytes, ← looked.last_sent) congestion);
          black_hole = unreported;
        },
        rw (← looked.bytes, ← looked.last_sent) (goes_all look now old found told shown probed new finds.attempts
            (probe_attempts tally.probe losses.probe) losses.numbers.items losses.is_black_hole losses.is_persistent
            tally.bytes tally.last_sent after.loss_time finds.goes ends congests probes times),
      )
    where
      probe_found : (probe : Option ℕ) → IfSome probe (λ number. (tally.probe ≡ Some number) × (after ≡ tally))
          → ForSome probe (λ number. tally.probe ≡ Some number)
      probe_found None told number none = absurd (none-some number none)
      probe_found (Some probe) told number is = told.0 ∙ is

  -- the variables are unchanged
  pub variables_kept : DetectsLosses space now at due old losses new → new.variables ≡ old.variables
  variables_kept detects = by_largest (largest_in (state_in old) space) refl
    where
      by_largest : (largest : Option ℕ) → largest_in (state_in old) space ≡ largest → new.variables ≡ old.variables
      by_largest None none = (detects.none none).1.variables
      by_largest (Some largest) is = (detects.looks largest is).4.variables
