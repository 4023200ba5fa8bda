-- The bytes in flight by the events of a sender: what one event adds, and what it ends.
use Rattle.std.proofs.Common.{◌≡◌, ℕ, ◌+◌, ◌≤◌, ◌⊎◌, inl, inr, ◌&&◌, ◌||◌, ◌==◌, Bool, true, false, List, [], ◌∷◌, ◌++◌, Option, None, Some, Ok, refl, sym, ap, subst, ◌∙◌, arith, true≢false}
use Rattle.std.specs.Prelude.{if◌then◌else◌}
use Rattle.std.proofs.lemmas.Bool.Decides.{nat_tests}
use Rattle.recovery_base.specs.declared.below.SpaceId.{SpaceId}
use Rattle.recovery_base.specs.declared.below.SpaceId.TheVariants.{Data}
use Rattle.recovery_base.specs.Spaces.{same_space}
use Rattle.recovery_events.specs.declared.event.Answer.TheVariants.{Probe, Sent}
use Rattle.recovery_events.specs.declared.event.Event.{Event}
use Rattle.recovery_events.specs.declared.event.Event.TheVariants.{PollMtu, Send}
use Rattle.recovery_losses.specs.Losses.{IsOneOf}
use Rattle.recovery_spaces.specs.declared.paths.InFlight.{InFlight}
use Rattle.recovery_paths.specs.PathLog.{PathReplyInputs, PerPath}
use Rattle.recovery_history.specs.History.{Beginning, History, Reply}
use Rattle.recovery_history.specs.Promises.Counted.{sum_on, weight}
use Rattle.recovery_history.specs.Promises.Fates.{HaveOneOutcome, is_given, more_if, times}
use Rattle.recovery_history.specs.Promises.Forgotten.{ForgetsOldestNonEliciting, elicits, oldest, silent_since, with_silent}
use Rattle.recovery_history.specs.Promises.Paths.{generations}
use Rattle.recovery_history.specs.Promises.Tracked.{goes_out, leaves}
use Rattle.recovery_history.specs.Reachability.{ReachedBy}
use Rattle.recovery_history.specs.RecoveryState.{RecoveryState}
use Rattle.recovery_history.specs.ReplyInputs.{in_flight_on}
use Rattle.recovery_history.specs.RepliesAfter.{RepliesAfter, inputs_after}
use Rattle.recovery_history.proofs.CountedLaws.{Kept, flight_now, keeps_counts, none_counted}
use Rattle.recovery_history.proofs.Runs.{kept_after}
use Rattle.recovery_history.proofs.TrackedLaws.{one_space}
use Rattle.recovery_sender.specs.Calls.{bytes_in_flight}
use Rattle.recovery_pair.specs.Flights.{Numbers, counted_if, no_numbers}
use Rattle.recovery_pair.specs.Pasts.{added, flight_in}

-- ---- tests

pub or_right : (a b : Bool) → (a || b) ≡ false → b ≡ false
or_right true b is = absurd (true≢false is)
or_right false b is = is

pub or_left : (a b : Bool) → (a || b) ≡ false → a ≡ false
or_left true b is = absurd (true≢false is)
or_left false b is = refl

-- one more number is gone on both sides
gone_both : (left fewer gone : Bool) (Silent : Type 0) → (fewer ≡ true → (gone ≡ true) ⊎ Silent)
    → (left || fewer) ≡ true → ((left || gone) ≡ true) ⊎ Silent
gone_both true fewer gone Silent by is = inl refl
gone_both false fewer gone Silent by is = by is

gone_by : (left ends gone : Bool) (Silent : Type 0) → (left ≡ true → (ends ≡ true) ⊎ Silent)
    → (left || gone) ≡ true → ((ends || gone) ≡ true) ⊎ Silent
gone_by true true gone Silent by is = inl refl
gone_by true false true Silent by is = inl refl
gone_by true false false Silent by is = by refl
gone_by false true gone Silent by is = inl refl
gone_by false false gone Silent by is = inl is

pub or_gone : (ends gone : Bool) → gone ≡ true → (ends || gone) ≡ true
or_gone true gone is = refl
or_gone false gone is = is

pub gone_again : (ends gone : Bool) → (ends || (ends || gone)) ≡ true → (ends || gone) ≡ true
gone_again true gone is = refl
gone_again false gone is = is

pub sums : (a b x y : ℕ) → a ≤ x → b ≤ y → a + b ≤ x + y
sums a b x y one two = omega (arith, one, two)

pub zero_more : (a b : ℕ) → a ≤ b → 0 + a ≤ b
zero_more a b less = omega (arith, less)

if_less : (here : Bool) (a b : ℕ) → a ≤ b → (if here then a else 0) ≤ (if here then b else 0)
if_less true a b less = less
if_less false a b less = omega arith

-- a number that is gone on the right is gone on the left, or does not count
weight_if : (fewer gone eliciting : Bool) (size : ℕ) → (fewer ≡ true → (gone ≡ true) ⊎ (eliciting ≡ false))
    → (if gone then 0 else counted_if eliciting size) ≤ (if fewer then 0 else counted_if eliciting size)
weight_if false true eliciting size by = omega arith
weight_if false false eliciting size by = omega arith
weight_if true true eliciting size by = omega arith
weight_if true false eliciting size by = none (by refl)
  where
    none : (false ≡ true) ⊎ (eliciting ≡ false) → counted_if eliciting size ≤ 0
    none (inl never) = absurd (true≢false (sym never))
    none (inr silent) = rw silent (omega arith)

itself_gone : (space : SpaceId) (n : ℕ) (eliciting : Bool) (w : Bool)
    → (((same_space space space && n == n) && (same_space space space && eliciting)) || w) ≡ false
    → eliciting ≡ false
itself_gone space n eliciting w is = grind (arith, nat_tests, is)

itself_probed : (n : ℕ) (w : Bool) → (((same_space Data Data && n == n) && same_space Data Data) || w) ≡ false → ⊥
itself_probed n w is = grind (arith, nat_tests, is)

none_given : (given elicited was : Bool) (t : ℕ) → more_if given t ≡ 0 → (t ≡ 0 → was ≡ false)
    → ((given && elicited) || was) ≡ false
none_given true elicited was t none by = absurd (omega (arith, none))
none_given false elicited was t none by = by none

of_pushed : (n : ℕ) (before : List ℕ) (k : ℕ) → IsOneOf n (before ++ k ∷ []) → IsOneOf n before ⊎ (k ≡ n)
of_pushed n [] k (inl is) = inr is
of_pushed n [] k (inr never) = absurd never
of_pushed n (first ∷ before) k (inl is) = inl (inl is)
of_pushed n (first ∷ before) k (inr is) = more (of_pushed n before k is)
  where
    more : IsOneOf n before ⊎ (k ≡ n) → IsOneOf n (first ∷ before) ⊎ (k ≡ n)
    more (inl there) = inl (inr there)
    more (inr here) = inr here

silent_one : (same silent : Bool) (n k : ℕ) (before : List ℕ)
    → IsOneOf n (if same && silent then before ++ k ∷ [] else before)
    → IsOneOf n before ⊎ ((same && k == n) ≡ true)
silent_one true true n k before is = by (of_pushed n before k is)
  where
    by : IsOneOf n before ⊎ (k ≡ n) → IsOneOf n before ⊎ ((true && k == n) ≡ true)
    by (inl there) = inl there
    by (inr here) = inr (grind (arith, nat_tests, here))
silent_one true false n k before is = inl is
silent_one false silent n k before is = inl is

silent_by : (n : ℕ) (elicited given was : Bool) (t : ℕ) (all before : List ℕ)
    → (IsOneOf n all → IsOneOf n before ⊎ (given ≡ true)) → (IsOneOf n before → t ≤ 1 → was ≡ false)
    → (t ≡ 0 → was ≡ false) → more_if given t ≤ 1 → IsOneOf n (if elicited then [] else all)
    → ((given && elicited) || was) ≡ false
silent_by n true given was t all before one two three once is = absurd is
silent_by n false true was t all before one two three once is = three (omega (arith, once))
silent_by n false false was t all before one two three once is = by (one is)
  where
    by : IsOneOf n before ⊎ (false ≡ true) → was ≡ false
    by (inl there) = two there once
    by (inr never) = absurd (true≢false (sym never))

oldest_one : (n : ℕ) (silent : List ℕ) → oldest silent ≡ Some n → IsOneOf n silent
oldest_one n [] is = absurd cc
oldest_one n (first ∷ silent) is = inl (let same = is in cc)

chosen_one : (asked : Bool) (first : Option ℕ) (n : ℕ)
    → ◌≡◌ {A = Option ℕ} (Some n) (if asked then first else None) → first ≡ Some n
chosen_one true first n is = sym is
chosen_one false first n is = absurd cc

here_if : (g w : ℕ) → w ≤ (if g == g then w else 0)
here_if g w = grind (arith, nat_tests)

counted_less : (eliciting : Bool) (size : ℕ) → counted_if eliciting size ≤ size
counted_less true size = omega arith
counted_less false size = omega arith

-- ---- numbers of ack-eliciting packets

module _ {Q S M P : Type 0} where
  -- an ack-eliciting packet was sent under the number
  abbrev pub was_elicited : SpaceId → ℕ → History Q S M P → Bool
  was_elicited space n [] = false
  was_elicited space n (happened ∷ earlier) =
      (goes_out happened space n && elicits space happened) || was_elicited space n earlier

  unsent_silent : (space : SpaceId) (n : ℕ) (past : History Q S M P) → times (is_given space n) past ≡ 0
      → was_elicited space n past ≡ false
  unsent_silent space n [] none = refl
  unsent_silent space n (happened ∷ earlier) none = none_given (goes_out happened space n) (elicits space happened)
      (was_elicited space n earlier) (times (is_given space n) earlier) none (unsent_silent space n earlier)

  -- ---- what is forgotten is not ack-eliciting

  silent_before : (space : SpaceId) (n : ℕ) (gone : ℕ → Bool) (happened : Event Q S M P × Reply Q) (before : List ℕ)
      → IsOneOf n (with_silent space gone happened before) → IsOneOf n before ⊎ (goes_out happened space n ≡ true)
  silent_before space n gone (Send there now size eliciting largest queue frames, Ok (Sent number forgotten)) before
      is =
      silent_one (same_space there space) _ n number before is
  silent_before space n gone happened before is = inl is

  silent_not_elicited : (space : SpaceId) (n : ℕ) (past : History Q S M P) (gone : ℕ → Bool)
      → times (is_given space n) past ≤ 1 → IsOneOf n (silent_since space gone past)
      → was_elicited space n past ≡ false
  silent_not_elicited space n [] gone once is = absurd is
  silent_not_elicited space n (happened ∷ earlier) gone once is =
      let behind : ℕ → Bool = λ m. leaves happened space m || gone m in
      silent_by n (elicits space happened) (goes_out happened space n) (was_elicited space n earlier)
      (times (is_given space n) earlier) (with_silent space gone happened (silent_since space behind earlier))
      (silent_since space behind earlier)
      (silent_before space n gone happened (silent_since space behind earlier))
      (λ there most. silent_not_elicited space n earlier behind most there) (unsent_silent space n earlier) once is

  -- ---- fewer numbers are gone

  module _ (generation : ℕ) where
    weight_less : (gone fewer : Numbers) (happened : Event Q S M P × Reply Q) (earlier : History Q S M P)
        → ((space : SpaceId) (n : ℕ) → fewer space n ≡ true
        → (gone space n ≡ true) ⊎ (was_elicited space n (happened ∷ earlier) ≡ false))
        → weight (λ size eliciting. counted_if eliciting size) gone happened
        ≤ weight (λ size eliciting. counted_if eliciting size) fewer happened
    weight_less gone fewer (Send there now size eliciting largest queue frames, Ok (Sent number forgotten)) earlier by =
        weight_if (fewer there number) (gone there number) eliciting size (λ is. silent (by there number is))
      where
        silent : (gone there number ≡ true) ⊎ (was_elicited there number
            ((Send there now size eliciting largest queue frames, Ok (Sent number forgotten)) ∷ earlier) ≡ false)
            → (gone there number ≡ true) ⊎ (eliciting ≡ false)
        silent (inl is) = inl is
        silent (inr is) = inr (itself_gone there number eliciting (was_elicited there number earlier) is)
    weight_less gone fewer (PollMtu now, Ok (Probe number size)) earlier by =
        weight_if (fewer Data number) (gone Data number) true size (λ is. silent (by Data number is))
      where
        silent : (gone Data number ≡ true) ⊎ (was_elicited Data number ((PollMtu now, Ok (Probe number size)) ∷ earlier)
            ≡ false) → (gone Data number ≡ true) ⊎ (true ≡ false)
        silent (inl is) = inl is
        silent (inr is) = absurd (itself_probed number (was_elicited Data number earlier) is)
    weight_less gone fewer happened earlier by = omega arith

    pub sum_less : (gone fewer : Numbers) (past : History Q S M P)
        → ((space : SpaceId) (n : ℕ) → fewer space n ≡ true
        → (gone space n ≡ true) ⊎ (was_elicited space n past ≡ false))
        → sum_on (λ size eliciting. counted_if eliciting size) generation gone past
        ≤ sum_on (λ size eliciting. counted_if eliciting size) generation fewer past
    sum_less gone fewer [] by = omega arith
    sum_less gone fewer (happened ∷ earlier) by =
        sums _ _ _ _ (if_less ((generations earlier).current == generation) _ _
        (weight_less gone fewer happened earlier by))
        (sum_less (λ space n. leaves happened space n || gone space n) (λ space n. leaves happened space n
        || fewer space n) earlier (λ space n. gone_both (leaves happened space n) (fewer space n) (gone space n)
        (was_elicited space n earlier ≡ false) (λ is. before space n (by space n is))))
      where
        before : (space : SpaceId) (n : ℕ)
            → (gone space n ≡ true) ⊎ (was_elicited space n (happened ∷ earlier) ≡ false)
            → (gone space n ≡ true) ⊎ (was_elicited space n earlier ≡ false)
        before space n (inl is) = inl is
        before space n (inr is) = inr (or_right (goes_out happened space n && elicits space happened)
            (was_elicited space n earlier) is)

  pub flight_less : (gone fewer : Numbers) (past : History Q S M P)
      → ((space : SpaceId) (n : ℕ) → fewer space n ≡ true → gone space n ≡ true)
      → flight_in gone past ≤ flight_in fewer past
  flight_less gone fewer past by =
      sum_less (generations past).current gone fewer past (λ space n is. inl (by space n is))

  -- ---- one event

  pub flight_event : (past : History Q S M P) (event : Event Q S M P) (reply : Reply Q)
      (counts : Option (SpaceId × ℕ × ℕ)) (ends : Numbers)
      → (generations ((event, reply) ∷ past)).current ≡ (generations past).current
      → ((gone : Numbers) → added counts gone ≤ weight (λ size eliciting. counted_if eliciting size) gone (
        event,
        reply,
      ))
      → ((space : SpaceId) (n : ℕ) → leaves (event, reply) space n ≡ true
      → (ends space n ≡ true) ⊎ (was_elicited space n past ≡ false))
      → (gone : Numbers) → added counts gone + flight_in (λ space n. ends space n || gone space n) past
      ≤ flight_in gone ((event, reply) ∷ past)
  flight_event past event reply counts ends same adds leave gone =
      subst (λ (g : ℕ). added counts gone + flight_in (λ space n. ends space n || gone space n) past
      ≤ sum_on (λ size eliciting. counted_if eliciting size) g gone ((event, reply) ∷ past)) (sym same)
      (sums _ _ _ _ (both (adds gone) (here_if (generations past).current _))
      (sum_less (generations past).current (λ space n. ends space n || gone space n)
      (λ space n. leaves (event, reply) space n || gone space n) past
      (λ space n. gone_by (leaves (event, reply) space n) (ends space n) (gone space n)
      (was_elicited space n past ≡ false) (leave space n))))
    where
      both : {a b d : ℕ} → a ≤ b → b ≤ d → a ≤ d
      both one two = omega (arith, one, two)

  -- ---- a packet is sent

  forgotten_silent : (past : History Q S M P) (space : SpaceId) (now size : ℕ) (eliciting : Bool) (largest : Option ℕ)
      (queue : Q) (frames : M) (number forgotten : ℕ)
      → HaveOneOutcome ((Send space now size eliciting largest queue frames, Ok (Sent number (Some forgotten))) ∷ past)
      → ForgetsOldestNonEliciting past (Send space now size eliciting largest queue frames)
      (Ok (Sent number (Some forgotten))) → was_elicited space forgotten past ≡ false
  forgotten_silent past space now size eliciting largest queue frames number forgotten once forgets =
      silent_not_elicited space forgotten past (λ n. false)
      (fewer (same_space space space && number == forgotten) (times (is_given space forgotten) past)
      (once space forgotten).0)
      (oldest_one forgotten (silent_since space (λ n. false) past) (chosen_one _ _ forgotten forgets))
    where
      fewer : (happens : Bool) (t : ℕ) → more_if happens t ≤ 1 → t ≤ 1
      fewer true t most = omega (arith, most)
      fewer false t most = most

  pub sent_leaves : (past : History Q S M P) (space : SpaceId) (now size : ℕ) (eliciting : Bool) (largest : Option ℕ)
      (queue : Q) (frames : M) (number : ℕ) (forgotten : Option ℕ)
      → HaveOneOutcome ((Send space now size eliciting largest queue frames, Ok (Sent number forgotten)) ∷ past)
      → ForgetsOldestNonEliciting past (Send space now size eliciting largest queue frames)
      (Ok (Sent number forgotten)) → (there : SpaceId) (n : ℕ)
      → leaves {Q = Q} {S = S} {M = M} {P = P}
      (Send space now size eliciting largest queue frames, Ok (Sent number forgotten)) there n ≡ true
      → was_elicited there n past ≡ false
  sent_leaves past space now size eliciting largest queue frames number None once forgets there n is =
      absurd (true≢false (sym is))
  sent_leaves past space now size eliciting largest queue frames number (Some forgotten) once forgets there n is =
      let same : space ≡ there = one_space space there (grind (arith, nat_tests, is)) in
      let equal : forgotten ≡ n = grind (arith, nat_tests, is) in
      rw (← same, ← equal) (forgotten_silent past space now size eliciting largest queue frames number forgotten once
      forgets)

-- ---- the counter

module _ {Q S M P : Type 0} (generation : ℕ) where
  weight_most : (gone : Numbers) (happened : Event Q S M P × Reply Q)
      → weight (λ size eliciting. counted_if eliciting size) gone happened
      ≤ weight (λ size eliciting. size) gone happened
  weight_most gone (Send there now size eliciting largest queue frames, Ok (Sent number forgotten)) =
      by (gone there number) eliciting
    where
      by : (is_gone elicits : Bool) → (if is_gone then 0 else counted_if elicits size) ≤ (if is_gone then 0 else size)
      by true elicits = omega arith
      by false elicits = counted_less elicits size
  weight_most gone (PollMtu now, Ok (Probe number size)) = omega arith
  weight_most gone happened = omega arith

  sum_most : (gone : Numbers) (past : History Q S M P)
      → sum_on (λ size eliciting. counted_if eliciting size) generation gone past
      ≤ sum_on (λ size eliciting. size) generation gone past
  sum_most gone [] = omega arith
  sum_most gone (happened ∷ earlier) = sums _ _ _ _
      (if_less ((generations earlier).current == generation) _ _ (weight_most gone happened))
      (sum_most (λ space n. leaves happened space n || gone space n) earlier)

pub flight_sum : {F K Q S M P : Type 0} (beginning : Beginning F K Q S M P) (past : History Q S M P)
    (recovery : RecoveryState K P M) → ReachedBy beginning past recovery
    → bytes_in_flight recovery ≡ sum_on (λ size eliciting. size) (generations past).current no_numbers past
flight_sum {K = K} beginning past recovery came =
    let counts = kept_after (RepliesAfter beginning) (Kept beginning) (keeps_counts beginning)
    (none_counted beginning) past came.replies in
    ap (λ (flight : InFlight). flight.bytes) came.state_after.in_flight.current
    ∙ ap (λ (paths : PerPath (PathReplyInputs K)). (in_flight_on (inputs_after beginning past) paths.current).bytes)
    came.state_after.paths ∙ sym (flight_now beginning past counts.1).0

pub flight_counted : {F K Q S M P : Type 0} (beginning : Beginning F K Q S M P) (past : History Q S M P)
    (recovery : RecoveryState K P M) → ReachedBy beginning past recovery
    → flight_in no_numbers past ≤ bytes_in_flight recovery
flight_counted beginning past recovery came =
    subst (λ (bytes : ℕ). flight_in no_numbers past ≤ bytes) (sym (flight_sum beginning past recovery came))
    (sum_most (generations past).current no_numbers past)
