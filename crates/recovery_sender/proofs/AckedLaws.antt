-- The tracked packets after an acknowledgement.
use Rattle.std.proofs.Common.{◌≡◌, ◌≢◌, ℕ, ◌+◌, ◌≤◌, ◌<◌, zero, suc, true, false, Bool, List, [], ◌∷◌, length, take, get_or, Option, None, Some, Ok, Err, refl, sym, ap, subst, ◌∙◌, inl, inr, arith}
use Rattle.std.proofs.lemmas.Bool.Decides.{eqb_tells}
use Rattle.std.proofs.lemmas.List.{map-append, take_more}
use Rattle.recovery_base.specs.declared.below.SpaceId.{SpaceId}
use Rattle.recovery_base.specs.declared.below.SpaceId.TheVariants.{Initial, Handshake, Data}
use Rattle.recovery_events.specs.declared.event.Answer.{Answer}
use Rattle.recovery_events.specs.declared.event.Event.TheVariants.{Acked}
use Rattle.recovery_events.specs.declared.event.Refusal.{Refusal}
use Rattle.recovery_events.specs.declared.event.Refusal.TheVariants.{NoMemory, NotTracked, SpaceDiscarded}
use Rattle.recovery_spaces.specs.Discarded.{is_discarded}
use Rattle.std.specs.Prelude.{if◌then◌else◌}
use Rattle.recovery_spaces.specs.Packets.{Packet, packet_at, without, is_above}
use Rattle.recovery_spaces.specs.Spaces.{space_of, packets_of}
use Rattle.recovery_losses.specs.Losses.{AreIncreasing, IsOneOf, without_all}
use Rattle.recovery_losses.proofs.DetectionPassLaws.{all_other, first_rises, rising_below, without_more}
use Rattle.quic_recovery.specs.declared.driver.Recovery.{Recovery}
use Rattle.recovery_history.specs.History.{QueueModel, queue_model}
use Rattle.recovery_history.specs.RecoveryState.{RecoveryState}
use Rattle.recovery_history.specs.Unlogged.{UnloggedState}
use Rattle.recovery_history.specs.Transitions.{StateTransition}
use Rattle.quic_recovery.specs.State.{ReadOnlyTransition, state_of}
use Rattle.recovery_sender.specs.declared.sender.Sender.{Sender}
use Rattle.recovery_sender.specs.Acking.{IsWithin, acking, sent_here}
use Rattle.recovery_sender.specs.Losses.{largest_in}
use Rattle.recovery_sender.specs.Senders.{state_in}
use Rattle.recovery_sender.specs.Spaces.{packets_in}
use Rattle.recovery_sender.specs.Steps.{TakesSteps, occurs}
use Rattle.recovery_sender.proofs.LeadLaws.{leads_on}

-- ---- a tracked packet is acknowledged, and is no longer tracked

module _ {F Q R C K S M P : Type 0} {f : _} {c : _} {q : _} {m : _} {r : _} (space : SpaceId) (now number : ℕ)
    (app_limited : Bool) (recovery : Recovery F Q R C K S M P f c q m r)
    (tracked : packet_at (packets_in (state_of recovery) space) number ≢ None) where
  not_discarded : is_discarded space (state_of recovery).discarded ≡ true → ⊥
  not_discarded gone = tracked (grind (arith, gone))

  is_there : packet_at (packets_of (space_of space (state_of recovery).spaces)) number ≡ None → ⊥
  is_there none = by (is_discarded space (state_of recovery).discarded) refl
    where
      by : (test : Bool) → is_discarded space (state_of recovery).discarded ≡ test → ⊥
      by true gone = not_discarded gone
      by false kept = tracked (rw kept none)

  pub acked_answered : (refusal : Refusal) → ReadOnlyTransition (Acked space now number app_limited) recovery
      (Err refusal) → ⊥
  acked_answered SpaceDiscarded told = not_discarded told
  acked_answered NotTracked (kept, none) = is_there none
  acked_answered NoMemory (kept, (found, never)) = never
  acked_answered refusal (kept, (found, never)) = never

module _ {K Q S M P : Type 0} (queue : QueueModel Q S M P) where
  taken_in : (space : SpaceId) (now number : ℕ) (app_limited : Bool) (answer : Answer Q) (old new : RecoveryState K P M)
      → StateTransition queue old (Acked space now number app_limited) (Ok answer) new
      → packets_of (space_of space new.spaces) ≡ without (packets_of (space_of space old.spaces)) number
  taken_in Initial now number app_limited answer old new changes = ap packets_of (changes.steps.spaces Initial).others
  taken_in Handshake now number app_limited answer old new changes =
      ap packets_of (changes.steps.spaces Handshake).others
  taken_in Data now number app_limited answer old new changes = ap packets_of (changes.steps.spaces Data).others

  pub packets_acked : (space : SpaceId) (now number : ℕ) (app_limited : Bool) (answer : Answer Q)
      (old new : RecoveryState K P M)
      → StateTransition queue old (Acked space now number app_limited) (Ok answer) new
      → packet_at (packets_in old space) number ≢ None
      → packets_in new space ≡ without (packets_in old space) number
  packets_acked space now number app_limited answer old new changes tracked =
      by_test (is_discarded space old.discarded) refl
    where
      same : is_discarded space new.discarded ≡ is_discarded space old.discarded
      same = ap (λ (plain : UnloggedState). is_discarded space plain.discarded) changes.plain

      by_test : (test : Bool) → is_discarded space old.discarded ≡ test
          → packets_in new space ≡ without (packets_in old space) number
      by_test true gone = absurd (tracked (grind (arith, gone)))
      by_test false kept = rw (same, kept) (taken_in space now number app_limited answer old new changes)

  largest_taken : (space : SpaceId) (now number : ℕ) (app_limited : Bool) (answer : Answer Q)
      (old new : RecoveryState K P M)
      → StateTransition queue old (Acked space now number app_limited) (Ok answer) new
      → (space_of space new.spaces).largest_acked_packet ≡ (if is_above
      (space_of space old.spaces).largest_acked_packet number then Some number
      else (space_of space old.spaces).largest_acked_packet)
  largest_taken Initial now number app_limited answer old new changes =
      ap (λ here. here.largest_acked_packet) (changes.steps.spaces Initial).others
  largest_taken Handshake now number app_limited answer old new changes =
      ap (λ here. here.largest_acked_packet) (changes.steps.spaces Handshake).others
  largest_taken Data now number app_limited answer old new changes =
      ap (λ here. here.largest_acked_packet) (changes.steps.spaces Data).others

  -- the largest number acknowledged is at most as large as it was, or this one
  pub largest_within : (space : SpaceId) (now number : ℕ) (app_limited : Bool) (answer : Answer Q)
      (old new : RecoveryState K P M)
      → StateTransition queue old (Acked space now number app_limited) (Ok answer) new → (bound : ℕ)
      → IsWithin bound (largest_in old space) → number ≤ bound → IsWithin bound (largest_in new space)
  largest_within space now number app_limited answer old new changes bound within small =
      by_test (is_discarded space old.discarded) refl
    where
      same : is_discarded space new.discarded ≡ is_discarded space old.discarded
      same = ap (λ (plain : UnloggedState). is_discarded space plain.discarded) changes.plain

      either : (test : Bool) (known : Option ℕ) → IsWithin bound known
          → IsWithin bound (if test then Some number else known)
      either true known is = small
      either false known is = is

      by_test : (test : Bool) → is_discarded space old.discarded ≡ test → IsWithin bound (largest_in new space)
      by_test true gone = rw (same, gone) tt
      by_test false kept = rw (same, kept, largest_taken space now number app_limited answer old new changes)
          (either (is_above (space_of space old.spaces).largest_acked_packet number) _ (rw kept at within))

-- ---- increasing numbers

pub one_at : (numbers : List ℕ) (at : ℕ) → at < length numbers → IsOneOf (get_or numbers at 0) numbers
one_at [] at within = absurd (omega (arith, within))
one_at (number ∷ numbers) zero within = inl refl
one_at (number ∷ numbers) (suc at) within = inr (one_at numbers at (omega (arith, within)))

pub not_before : (first end : ℕ) (numbers : List ℕ) (at : ℕ) → AreIncreasing first numbers end → at < length numbers
    → IsOneOf (get_or numbers at 0) (take at numbers) → ⊥
not_before first end [] at rising within there = absurd (omega (arith, within))
not_before first end (number ∷ numbers) zero rising within there = there
not_before first end (number ∷ numbers) (suc at) rising within (inl is) =
    absurd (omega (
      arith,
      is,
      first_rises (number + 1) end numbers (get_or numbers at 0) rising.1
          (one_at numbers at (omega (arith, within))),
    ))
not_before first end (number ∷ numbers) (suc at) rising within (inr there) =
    not_before (number + 1) end numbers at rising.1 (omega (arith, within)) there

-- ---- when a packet was sent on the path in use

module _ {K P M : Type 0} (recovery : RecoveryState K P M) (packet : Packet P M) where
  pub sent_elsewhere : (packet.path_generation ≡ recovery.paths.current.ledger.generation → ⊥)
      → None ≡ sent_here recovery (Some packet)
  sent_elsewhere other = elim (eqb_tells packet.path_generation recovery.paths.current.ledger.generation) [
    | inl same ↦ absurd (other same.1)
    | inr apart ↦ rw apart.0 refl
  ]

  pub sent_there : packet.path_generation ≡ recovery.paths.current.ledger.generation
      → Some packet.time_sent ≡ sent_here recovery (Some packet)
  sent_there same = elim (eqb_tells packet.path_generation recovery.paths.current.ledger.generation) [
    | inl is ↦ rw is.0 refl
    | inr apart ↦ absurd (apart.1 same)
  ]

-- ---- all of a list are acknowledged, in order

module _ {F Q R C K S M P : Type 0} {f : _} {c : _} {q : _} {m : _} {r : _} (space : SpaceId) (now : ℕ)
    (app_limited : Bool) (numbers : List ℕ) (start between : Sender F Q R C K S M P f c q m r) (at : ℕ)
    (within : at < length numbers)
    (tracked : (number : ℕ) → IsOneOf number numbers → packet_at (packets_in (state_in start) space) number ≢ None)
    (rising : (end : ℕ) × AreIncreasing 0 numbers end)
    (packets : packets_in (state_in between) space
    ≡ without_all (packets_in (state_in start) space) (take at numbers)) where
  abbrev number : ℕ
  number = get_or numbers at 0

  pub still_tracked : packet_at (packets_in (state_in between) space) number ≢ None
  still_tracked none = tracked number (one_at numbers at within)
      (sym (ap (λ there. packet_at there number) packets ∙ all_other (packets_in (state_in start) space)
      (take at numbers) number (not_before 0 rising.0 numbers at rising.1 within)) ∙ none)

  pub largest_on : (new : Sender F Q R C K S M P f c q m r)
      → TakesSteps (occurs (Acked space now number app_limited) ∷ []) between new
      → ((bound : ℕ) → IsWithin bound (largest_in (state_in start) space) → AreIncreasing 0 numbers bound
      → IsWithin bound (largest_in (state_in between) space))
      → (bound : ℕ) → IsWithin bound (largest_in (state_in start) space) → AreIncreasing 0 numbers bound
      → IsWithin bound (largest_in (state_in new) space)
  largest_on new one so_far bound known below =
      let leads = one.leads in
      subst (λ recovery. IsWithin bound (largest_in recovery space)) (sym leads.4)
      (largest_within (queue_model q.contents q.words q.blank) space now number app_limited leads.0 (state_in between)
      leads.1 leads.2 bound (so_far bound known below)
      (omega (arith, rising_below 0 bound numbers number below (one_at numbers at within))))

  pub acked_on : (new : Sender F Q R C K S M P f c q m r)
      → TakesSteps (acking space now app_limited (take at numbers)) start between
      → TakesSteps (occurs (Acked space now number app_limited) ∷ []) between new
      → TakesSteps (acking space now app_limited (take (at + 1) numbers)) start new
      × (packets_in (state_in new) space ≡ without_all (packets_in (state_in start) space) (take (at + 1) numbers))
  acked_on new goes one =
      let more = take_more numbers at 0 within in let leads = one.leads in (
        rw (more, map-append _ (take at numbers) (number ∷ [])) (record {
          leads = leads_on f.built c.words (queue_model q.contents q.words q.blank)
              (acking space now app_limited (take at numbers)) _ (state_in start) (state_in between) (state_in new)
              goes.leads leads;
          variables = one.variables ∙ goes.variables;
        }),
        ap (λ recovery. packets_in recovery space) leads.4
            ∙ packets_acked (queue_model q.contents q.words q.blank) space now number app_limited leads.0
            (state_in between) leads.1 leads.2 still_tracked
            ∙ ap (λ there. without there number) packets
            ∙ sym (without_more (packets_in (state_in start) space) (take at numbers) number)
            ∙ ap (λ list. without_all (packets_in (state_in start) space) list) (sym more),
      )
