-- Packets that are declared lost, in order: which are tried, which are declared lost, and which stay tracked.
use Rattle.std.proofs.Common.{◌≡◌, ◌≢◌, ℕ, true, false, Bool, List, [], ◌∷◌, ◌++◌, Option, None, Some, Err, refl, sym, ap, subst, ◌∙◌, inl, inr, true≢false, arith}
use Rattle.std.specs.Prelude.{if◌then◌else◌}
use Rattle.std.specs.Option.{ForSome}
use Rattle.recovery_base.specs.declared.below.SpaceId.{SpaceId}
use Rattle.recovery_events.specs.declared.event.Event.TheVariants.{Lost}
use Rattle.recovery_events.specs.declared.event.Refusal.{Refusal}
use Rattle.recovery_events.specs.declared.event.Refusal.TheVariants.{NoMemory, NotTracked, SpaceDiscarded}
use Rattle.recovery_spaces.specs.Discarded.{is_discarded}
use Rattle.recovery_spaces.specs.Packets.{packet_at, without}
use Rattle.recovery_spaces.specs.Spaces.{space_of, packets_of}
use Rattle.recovery_losses.specs.Losses.{IsOneOf}
use Rattle.recovery_history.specs.History.{queue_model}
use Rattle.recovery_history.specs.Table.{ReplyTable}
use Rattle.recovery_history.specs.Transitions.{acks_to, inputs_of}
use Rattle.recovery_sender.specs.declared.sender.Sender.{Sender}
use Rattle.recovery_sender.specs.Attempts.{LossAttempt, declared_in, is_cut_in, probe_attempts, tried_in, trying}
use Rattle.recovery_sender.specs.Senders.{state_in}
use Rattle.recovery_sender.specs.Spaces.{packets_in}
use Rattle.recovery_sender.specs.Steps.{TakesSteps, occurs, told}
use Rattle.recovery_sender.proofs.LeadLaws.{packets_lost}

-- ---- lists of attempts

pub tried_more : (attempts : List LossAttempt) (number : ℕ) (refused : Bool)
    → tried_in (attempts ++ (number, refused) ∷ []) ≡ tried_in attempts ++ number ∷ []
tried_more [] number refused = refl
tried_more (attempt ∷ attempts) number refused =
    ap (λ numbers. attempt.0 ∷ numbers) (tried_more attempts number refused)

pub declared_more : (attempts : List LossAttempt) (number : ℕ) (refused : Bool)
    → declared_in (attempts ++ (number, refused) ∷ [])
    ≡ (if refused then declared_in attempts else declared_in attempts ++ number ∷ [])
declared_more [] number true = refl
declared_more [] number false = refl
declared_more ((first, true) ∷ attempts) number refused = declared_more attempts number refused
declared_more ((first, false) ∷ attempts) number true =
    ap (λ numbers. first ∷ numbers) (declared_more attempts number true)
declared_more ((first, false) ∷ attempts) number false =
    ap (λ numbers. first ∷ numbers) (declared_more attempts number false)

pub cut_more : (attempts : List LossAttempt) (number : ℕ) (refused : Bool)
    → is_cut_in (attempts ++ (number, refused) ∷ []) ≡ (if refused then true else is_cut_in attempts)
cut_more [] number true = refl
cut_more [] number false = refl
cut_more ((first, true) ∷ attempts) number true = refl
cut_more ((first, true) ∷ attempts) number false = refl
cut_more ((first, false) ∷ attempts) number refused = cut_more attempts number refused

pub declared_tried : (attempts : List LossAttempt) (number : ℕ) → IsOneOf number (declared_in attempts)
    → IsOneOf number (tried_in attempts)
declared_tried [] number never = never
declared_tried ((first, true) ∷ attempts) number there = inr (declared_tried attempts number there)
declared_tried ((first, false) ∷ attempts) number (inl same) = inl same
declared_tried ((first, false) ∷ attempts) number (inr there) = inr (declared_tried attempts number there)

-- if none is cut, all that was tried is declared
pub all_declared : (attempts : List LossAttempt) → is_cut_in attempts ≡ false
    → tried_in attempts ≡ declared_in attempts
all_declared [] none = refl
all_declared ((first, true) ∷ attempts) none = absurd (true≢false none)
all_declared ((first, false) ∷ attempts) none = ap (λ numbers. first ∷ numbers) (all_declared attempts none)

-- what is not declared was cut
pub declared_or_cut : (attempts : List LossAttempt) (number : ℕ) → IsOneOf number (tried_in attempts)
    → (IsOneOf number (declared_in attempts) → ⊥) → is_cut_in attempts ≡ true
declared_or_cut attempts number there other = by (is_cut_in attempts) refl
  where
    by : (cut : Bool) → is_cut_in attempts ≡ cut → is_cut_in attempts ≡ true
    by true is = is
    by false is = absurd (other (subst (λ numbers. IsOneOf number numbers) (all_declared attempts is) there))

pub cut_first : (attempts more : List LossAttempt) → is_cut_in attempts ≡ true → is_cut_in (attempts ++ more) ≡ true
cut_first [] more cut = absurd (true≢false (sym cut))
cut_first ((first, true) ∷ attempts) more cut = refl
cut_first ((first, false) ∷ attempts) more cut = cut_first attempts more cut

-- the MTU probe was found lost and is not declared so: it was cut
pub probe_cut : (attempts : List LossAttempt) (found probe : Option ℕ) (number : ℕ) → found ≡ Some number
    → (probe ≡ Some number → ⊥) → ForSome probe (λ n. found ≡ Some n)
    → is_cut_in (attempts ++ probe_attempts found probe) ≡ true
probe_cut attempts found None number is other same = rw is (cut_more attempts number true)
probe_cut attempts found (Some probe) number is other same = absurd (other (sym (same probe refl) ∙ is))

pub trying_more : {Q S M P : Type 0} (space : SpaceId) (attempts more : List LossAttempt)
    → trying {Q = Q} {S = S} {M = M} {P = P} space (attempts ++ more) ≡ trying space attempts ++ trying space more
trying_more space [] more = refl
trying_more space ((first, true) ∷ attempts) more =
    ap (λ steps. told (Lost space first) (Err NoMemory) ∷ steps) (trying_more space attempts more)
trying_more space ((first, false) ∷ attempts) more =
    ap (λ steps. occurs (Lost space first) ∷ steps) (trying_more space attempts more)

-- ---- one attempt

module _ {F Q R C K S M P : Type 0} {f : _} {c : _} {q : _} {m : _} {r : _} (space : SpaceId) (number : ℕ)
    (old : Sender F Q R C K S M P f c q m r) (tracked : packet_at (packets_in (state_in old) space) number ≢ None)
    (new : Sender F Q R C K S M P f c q m r) where
  there : packet_at (packets_of (space_of space (state_in old).spaces)) number ≡ None → ⊥
  there none = by (is_discarded space (state_in old).discarded) refl
    where
      by : (test : Bool) → is_discarded space (state_in old).discarded ≡ test → ⊥
      by true gone = tracked (grind (arith, gone))
      by false kept = tracked (rw kept none)

  -- it fails for want of memory alone
  pub refused_so : (refusal : Refusal) → TakesSteps (told (Lost space number) (Err refusal) ∷ []) old new
      → TakesSteps (trying space ((number, true) ∷ [])) old new
  refused_so refusal goes = by refusal goes goes.leads.1.told
    where
      by : (refusal : Refusal) → TakesSteps (told (Lost space number) (Err refusal) ∷ []) old new
          → ReplyTable (queue_model q.contents q.words q.blank) (state_in old).settings.words (acks_to (state_in old))
          (inputs_of (state_in old)) (Lost space number) (Err refusal)
          → TakesSteps (trying space ((number, true) ∷ [])) old new
      by NoMemory goes said = goes
      by SpaceDiscarded goes gone = absurd (tracked (grind (arith, gone)))
      by NotTracked goes (kept, none) = absurd (there none)
      by refusal goes (kept, (found, never)) = absurd never

  -- the packets that are still tracked
  pub left_after : (refused : Bool) → TakesSteps (trying space ((number, refused) ∷ [])) old new
      → packets_in (state_in new) space
      ≡ (if refused then packets_in (state_in old) space else without (packets_in (state_in old) space) number)
  left_after true goes = let leads = goes.leads in
      ap (λ recovery. packets_in recovery space) leads.3 ∙ ap (λ recovery. packets_in recovery space) leads.1.refused
  left_after false goes = let leads = goes.leads in
      ap (λ recovery. packets_in recovery space) leads.4
      ∙ packets_lost f.built c.words (queue_model q.contents q.words q.blank) space number leads.0 (state_in old)
      leads.1 leads.2 tracked
