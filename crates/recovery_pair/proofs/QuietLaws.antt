-- The calls of a sender by which no packet is received.
use Rattle.std.proofs.Common.{◌≡◌, ℕ, inl, inr, ◌==◌, ◌&&◌, ◌||◌, nat_eq, Bool, true, false, true≢false, List, [], ◌∷◌, ◌++◌, Option, None, Some, Result, Ok, Err, refl, sym, ap, ◌∙◌, arith}
use Rattle.std.specs.Prelude.{min, if◌then◌else◌}
use Rattle.std.specs.Option.{ForSome, option_and_then, option_map_or}
use Rattle.std.specs.Set.{is_member}
use Rattle.std.proofs.lemmas.Bool.Decides.{nat_tests}
use Rattle.recovery_base.specs.declared.below.SpaceId.{SpaceId}
use Rattle.recovery_events.specs.declared.event.Event.TheVariants as events
use Rattle.recovery_events.specs.declared.event.Refusal.TheVariants.{NoMemory, SpaceDiscarded}
use Rattle.recovery_losses.specs.Frames.{received_at}
use Rattle.recovery_losses.specs.declared.frames.Ack.{Ack}
use Rattle.recovery_losses.specs.declared.variables.Variables.{Variables}
use Rattle.recovery_sender.specs.Acking.{AckResult, Acknowledges, acking}
use Rattle.recovery_losses.specs.declared.looks.LossPass.{LossPass}
use Rattle.recovery_sender.specs.Attempts.{LossAttempt, declared_in, probe_attempts, trying}
use Rattle.recovery_sender.specs.Bounds.{latest_start}
use Rattle.recovery_sender.specs.Calls.{EventResult, ProbeResult}
use Rattle.recovery_sender.specs.Detection.{DetectsLosses, congested, detecting, ended}
use Rattle.recovery_base.specs.Spaces.{same_space}
use Rattle.recovery_base.specs.Units.{largest_u64, last_time}
use Rattle.recovery_losses.specs.Losses.{IsOneOf, bytes_counted, last_counted}
use Rattle.recovery_sender.specs.Losses.{largest_in, look_of}
use Rattle.recovery_sender.specs.Spaces.{packets_in}
use Rattle.recovery_sender.specs.Senders.{state_in}
use Rattle.recovery_sender.specs.Steps.{CompletesCall, SenderStep, TakesSteps, loss_time, marked, occurs, told}
use Rattle.recovery_sender.specs.Timeouts.{DetectsByTime, TimeoutResult}
use Rattle.recovery_sender.specs.declared.sender.Sender.{Sender}
use Rattle.recovery_sender.specs.declared.sender.SenderError.{SenderError}
use Rattle.recovery_sender.specs.declared.sender.SenderError.TheVariants as refused
use Rattle.recovery_sender.specs.declared.sender.acks.Acknowledged.{Acknowledged}
use Rattle.recovery_sender.specs.declared.sender.losses.Losses.{Losses}
use Rattle.recovery_sender.specs.declared.sender.probes.Timeout.{Timeout}
use Rattle.recovery_sender.specs.declared.sender.probes.Timeout.TheVariants.{Nothing, Lost, Probe}
use Rattle.recovery_pair.specs.declared.steps.AckOutcome.TheVariants.{Taken}
use Rattle.recovery_pair.specs.declared.steps.PairAnswer.TheVariants.{Expired}
use Rattle.recovery_pair.specs.Congested.{Congestions, any_congestion}
use Rattle.recovery_pair.specs.Flights.{ends_by_timer, is_lost_in}
use Rattle.recovery_pair.specs.Pasts.{Continues, Endings, GoesOn, GoesOnQuietly, ending, endings_by_ack, leaving, losing, no_endings, quiet, with_congestion}
use Rattle.recovery_pair.specs.Turns.{timeout_turn}
use Rattle.recovery_pair.proofs.AlongLaws.{AreSo, Extends, call_so, ecn_so, joined, same_so, samples_so, steps_so}
use Rattle.recovery_pair.proofs.GoingLaws.{IsEndingEvent, ending_event, ending_none, ending_then, quiet_ends, quiet_then, same_itself}

-- ---- steps

-- by which no other packets than these end
abbrev pub AreEnding : {Q S M P : Type 0} → Endings → List (SenderStep Q S M P) → Type 0
AreEnding ends = AreSo (IsEndingEvent ends)

abbrev pub AreQuiet : {Q S M P : Type 0} → List (SenderStep Q S M P) → Type 0
AreQuiet = AreEnding no_endings

pub ending_along : {Q S M P : Type 0} (ends : Endings)
    → Extends (IsEndingEvent {Q = Q} {S = S} {M = M} {P = P} ends) (GoesOn (ending ends))
ending_along ends = record {
  none = ending_none ends;
  one = λ event reply is past. ending_event ends past event reply is;
  joins = ending_then ends;
  sets = λ time. tt;
  stops = tt;
}

-- ---- the events of calls

-- congestion may be found then, while the last packet that is lost was sent at such a time
abbrev pub MayCongest : Congestions → ℕ → Bool → Option ℕ → Type 0
MayCongest congests now persistent last = (sent : ℕ) → last ≡ Some sent
    → congests (min now latest_start) (if persistent then last_time else sent) ≡ true

-- the endings of a frame that is taken, if no other congestion is found
abbrev pub acked_with : SpaceId → Acknowledged → Congestions → Endings
acked_with space acked congests = with_congestion congests (endings_by_ack space (Taken acked))

pub one_of_member : (n : ℕ) (numbers : List ℕ) → IsOneOf n numbers → is_member nat_eq numbers n ≡ true
one_of_member n [] is = absurd is
one_of_member n (first ∷ numbers) (inl is) = grind (arith, nat_tests, is)
one_of_member n (first ∷ numbers) (inr is) = let more = one_of_member n numbers is in grind (arith, nat_tests, more)

ends_within : (same one other : Bool) → same ≡ true → one ≡ true → (same && (one || other)) ≡ true
ends_within true true other is_same is = refl
ends_within true false other is_same is = absurd (true≢false (sym is))
ends_within false one other is_same is = absurd (true≢false (sym is_same))

both_true : (same one : Bool) → same ≡ true → one ≡ true → (same && one) ≡ true
both_true true one is_same is = is
both_true false one is_same is = absurd (true≢false (sym is_same))

ends_beyond : (same one other : Bool) → same ≡ true → other ≡ true → (same && (one || other)) ≡ true
ends_beyond true true other is_same is = refl
ends_beyond true false other is_same is = is
ends_beyond false one other is_same is = absurd (true≢false (sym is_same))

module _ (Q S M P : Type 0) (ends : Endings) where
  ending_append : (steps more : List (SenderStep Q S M P)) → AreEnding ends steps → AreEnding ends more
      → AreEnding ends (steps ++ more)
  ending_append [] more first second = second
  ending_append (told event reply ∷ steps) more first second = (first.0, ending_append steps more first.1 second)
  ending_append (occurs event ∷ steps) more first second = (first.0, ending_append steps more first.1 second)
  ending_append (loss_time space time ∷ steps) more first second = ending_append steps more first second
  ending_append (marked marks ∷ steps) more first second = ending_append steps more first second

  trying_ending : (space : SpaceId) (attempts : List LossAttempt)
      → ((n : ℕ) → IsOneOf n (declared_in attempts) → ends.gone space n ≡ true)
      → AreEnding {Q = Q} {S = S} {M = M} {P = P} ends (trying space attempts)
  trying_ending space [] each = tt
  trying_ending space ((number, false) ∷ attempts) each =
      (λ answer. each number (inl refl), trying_ending space attempts (λ n is. each n (inr is)))
  trying_ending space ((number, true) ∷ attempts) each = (tt, trying_ending space attempts each)

  ended_ending : (now : ℕ) (reported : Bool) (numbers : List ℕ)
      → AreEnding {Q = Q} {S = S} {M = M} {P = P} ends (ended now reported numbers)
  ended_ending now reported [] = tt
  ended_ending now reported (number ∷ numbers) = (tt, tt)

  congested_ending : (now : ℕ) (persistent : Bool) (bytes : ℕ) (sent : Option ℕ)
      → MayCongest ends.congests now persistent sent
      → AreEnding {Q = Q} {S = S} {M = M} {P = P} ends (congested now persistent bytes sent)
  congested_ending now persistent bytes None may = tt
  congested_ending now persistent bytes (Some sent) may = (λ answer. may sent refl, tt)

  acking_ending : (space : SpaceId) (now : ℕ) (limited : Bool) (numbers : List ℕ)
      → ((n : ℕ) → IsOneOf n numbers → (ends.gone space n ≡ true) × (ends.acked space n ≡ true))
      → AreEnding {Q = Q} {S = S} {M = M} {P = P} ends (acking space now limited numbers)
  acking_ending space now limited [] each = tt
  acking_ending space now limited (number ∷ numbers) each =
      (λ answer. each number (inl refl), acking_ending space now limited numbers (λ n is. each n (inr is)))

  -- the MTU probe
  probe_declared : (found declared : Option ℕ) → ForSome declared (λ number. found ≡ Some number) → (n : ℕ)
      → IsOneOf n (declared_in (probe_attempts found declared))
      → option_map_or (λ probe. probe == n) declared false ≡ true
  probe_declared None declared same n never = absurd never
  probe_declared (Some number) None same n never = absurd never
  probe_declared (Some number) (Some probe) same n (inl is) =
      let joined : ◌≡◌ {A = Option ℕ} (Some number) (Some probe) = same probe refl in
      let equal : number ≡ probe = cc in grind (arith, nat_tests, is, equal)
  probe_declared (Some number) (Some probe) same n (inr never) = absurd never

  detecting_ending : (look : LossPass) (now : ℕ) (attempts : List LossAttempt) (found : Option ℕ) (losses : Losses)
      (bytes : ℕ) (sent time : Option ℕ) → losses.numbers.items ≡ declared_in attempts
      → ForSome losses.probe (λ number. found ≡ Some number)
      → ((n : ℕ) → is_lost_in losses n ≡ true → ends.gone look.space n ≡ true)
      → MayCongest ends.congests now losses.is_persistent sent
      → AreEnding {Q = Q} {S = S} {M = M} {P = P} ends (detecting look now attempts found losses bytes sent time)
  detecting_ending look now attempts found losses bytes sent time declared probe each may =
      let last : List (SenderStep Q S M P) = trying look.space (probe_attempts found losses.probe)
      ++ loss_time look.space time ∷ [] in
      let later : List (SenderStep Q S M P) = congested now losses.is_persistent bytes sent ++ last in
      ending_append (trying look.space attempts) (ended now losses.is_black_hole losses.numbers.items ++ later)
      (trying_ending look.space attempts (λ n is. each n (ends_within true _ _ refl
      (one_of_member n losses.numbers.items (rw declared is)))))
      (ending_append (ended now losses.is_black_hole losses.numbers.items) later
      (ended_ending now losses.is_black_hole losses.numbers.items)
      (ending_append (congested now losses.is_persistent bytes sent) last
      (congested_ending now losses.is_persistent bytes sent may)
      (ending_append (trying look.space (probe_attempts found losses.probe)) (loss_time look.space time ∷ [])
      (trying_ending look.space (probe_attempts found losses.probe)
      (λ n is. each n (ends_beyond true (is_member nat_eq losses.numbers.items n) _ refl
      (probe_declared found losses.probe probe n is))))
      tt)))

-- ---- calls

module _ {F Q R C K S M P : Type 0} {f : _} {c : _} {q : _} {m : _} {r : _} where
  pub same_quietly : (old new : Sender F Q R C K S M P f c q m r) → new ≡ old → Continues GoesOnQuietly old new
  same_quietly = same_so (ending_along no_endings)

  pub quietly_then : (old between new : Sender F Q R C K S M P f c q m r) → Continues GoesOnQuietly old between
      → Continues GoesOnQuietly between new → Continues GoesOnQuietly old new
  quietly_then = joined GoesOnQuietly GoesOnQuietly GoesOnQuietly (quiet_then quiet)

  -- then a datagram is counted
  pub quietly_leaves : (size : ℕ) (old between new : Sender F Q R C K S M P f c q m r)
      → Continues GoesOnQuietly old between → Continues (GoesOn (leaving size)) between new
      → Continues (GoesOn (leaving size)) old new
  quietly_leaves size = joined GoesOnQuietly (GoesOn (leaving size)) (GoesOn (leaving size)) (quiet_then (leaving size))

  -- no other packets than these end
  abbrev pub EndsWithin : Endings → Sender F Q R C K S M P f c q m r → Sender F Q R C K S M P f c q m r → Type 0
  EndsWithin ends = Continues (GoesOn (ending ends))

  pub steps_ending : (ends : Endings) (steps : List (SenderStep Q S M P)) (old new : Sender F Q R C K S M P f c q m r)
      → TakesSteps steps old new → AreEnding ends steps → EndsWithin ends old new
  steps_ending ends steps old new = steps_so (ending_along ends) old new steps

  pub steps_quietly : (steps : List (SenderStep Q S M P)) (old new : Sender F Q R C K S M P f c q m r)
      → TakesSteps steps old new → AreQuiet steps → Continues GoesOnQuietly old new
  steps_quietly = steps_ending no_endings

  -- quietly none of them does
  pub within_any : (ends : Endings) (old new : Sender F Q R C K S M P f c q m r) → Continues GoesOnQuietly old new
      → EndsWithin ends old new
  within_any ends old new goes = record {
    from = λ config start random past came. (
        let one = goes.from config start random past came in
        (one.0, one.1, quiet_ends ends past one.0 one.2));
  }

  pub ends_then : (ends : Endings) (old between new : Sender F Q R C K S M P f c q m r) → EndsWithin ends old between
      → EndsWithin ends between new → EndsWithin ends old new
  ends_then ends = joined (GoesOn (ending ends)) (GoesOn (ending ends)) (GoesOn (ending ends)) (ending_then ends)

  pub call_quietly : (steps : List (SenderStep Q S M P)) (kept : Variables) (old new : Sender F Q R C K S M P f c q m r)
      → CompletesCall steps kept old new → AreQuiet steps → Continues GoesOnQuietly old new
  call_quietly steps kept old new = call_so (ending_along no_endings) old new steps kept

  -- a packet that is not sent
  pub unsent_quietly : (space : SpaceId) (now size : ℕ) (eliciting : Bool) (largest : Option ℕ) (queue : Q) (frames : M)
      (old new : Sender F Q R C K S M P f c q m r) (refusal : SenderError)
      → EventResult (events.Send space now size eliciting largest queue frames) old new (Err refusal)
      → Continues GoesOnQuietly old new
  unsent_quietly space now size eliciting largest queue frames old new (refused.Event refusal) takes =
      steps_quietly _ old new takes (tt, tt)
  unsent_quietly space now size eliciting largest queue frames old new other never = absurd never

  -- ---- a probe

  pub probe_quietly : (space : SpaceId) (immediate : Bool) (streams : S) (old new : Sender F Q R C K S M P f c q m r)
      (result : Result Q SenderError) → ProbeResult space immediate streams old new result
      → Continues GoesOnQuietly old new
  probe_quietly space immediate streams old new (Ok queue) is =
      call_quietly _ old.variables old new is.2 (tt, (tt, tt))
  probe_quietly space immediate streams old new (Err (refused.Event SpaceDiscarded)) is = same_quietly old new is.1
  probe_quietly space immediate streams old new (Err (refused.Event NoMemory)) is =
      steps_quietly _ old new is.1 (tt, tt)
  probe_quietly space immediate streams old new (Err other) is = absurd is

  -- ---- losses

  -- when the last lost packet was sent that indicates congestion
  abbrev pub last_lost : SpaceId → ℕ → Bool → Losses → Sender F Q R C K S M P f c q m r → Option ℕ
  last_lost space at due_to_ack losses sender =
      option_and_then (λ largest. last_counted (look_of (state_in sender) sender.variables space at due_to_ack largest)
      (packets_in (state_in sender) space) losses.numbers.items) (largest_in (state_in sender) space)

  pub detects_ending : (ends : Endings) (space : SpaceId) (now at : ℕ) (due_to_ack : Bool) (losses : Losses)
      (old new : Sender F Q R C K S M P f c q m r) → ((n : ℕ) → is_lost_in losses n ≡ true → ends.gone space n ≡ true)
      → MayCongest ends.congests now losses.is_persistent (last_lost space at due_to_ack losses old)
      → DetectsLosses space now at due_to_ack old losses new → EndsWithin ends old new
  detects_ending ends space now at due_to_ack losses old new each may detects =
      by (largest_in (state_in old) space) refl
    where
      by : (found : Option ℕ) → largest_in (state_in old) space ≡ found → EndsWithin ends old new
      by None none = steps_ending ends _ old new (detects.none none).1 tt
      by (Some largest) is =
          let looked = detects.looks largest is in
          let look : LossPass = look_of (state_in old) old.variables space at due_to_ack largest in
          let packets = packets_in (state_in old) space in
          steps_ending ends _ old new looked.4
          (detecting_ending Q S M P ends look now looked.0 looked.2.found losses
          (min (bytes_counted look packets losses.numbers.items) largest_u64)
          (last_counted look packets losses.numbers.items) looked.1 looked.2.declared looked.2.probe each
          (λ sent found. may sent (ap (λ (known : Option ℕ). option_and_then (λ largest. last_counted (look_of
          (state_in old) old.variables space at due_to_ack largest) packets losses.numbers.items) known) is ∙ found)))

  pub by_time_ending : (congests : Congestions) (space : SpaceId) (now : ℕ) (losses : Losses)
      (old new : Sender F Q R C K S M P f c q m r)
      → MayCongest congests now losses.is_persistent (last_lost space now false losses old)
      → DetectsByTime space now old losses new
      → EndsWithin (with_congestion congests (losing (ends_by_timer (Ok (Expired (Lost space losses)))))) old new
  by_time_ending congests space now losses old new may by =
      let ends : Endings = with_congestion congests (losing (ends_by_timer (Ok (Expired (Lost space losses))))) in
      ends_then ends old by.behind new
      (detects_ending ends space now now false losses old by.behind
      (λ n lost. both_true (same_space space space) (is_lost_in losses n) (same_itself space) lost) may by.detects)
      (within_any ends by.behind new (call_quietly [] _ by.behind new by.does tt))

  pub timeout_ending : (now : ℕ) (old new : Sender F Q R C K S M P f c q m r) (result : Result Timeout SenderError)
      → TimeoutResult now old new result → Continues (GoesOn (timeout_turn result)) old new
  timeout_ending now old new (Ok Nothing) is = within_any _ old new (same_quietly old new is.1)
  timeout_ending now old new (Ok (Lost space losses)) is =
      by_time_ending any_congestion space now losses old new (λ sent found. refl) is.1
  timeout_ending now old new (Ok (Probe space count)) is =
      within_any _ old new (call_quietly [] _ old new is.1 tt)
  timeout_ending now old new (Err refusal) is = within_any _ old new (same_quietly old new is.2)

  -- ---- an ACK frame

  module _ (space : SpaceId) (now : ℕ) (ranges : List (ℕ × ℕ)) (ack : Ack) (elicits : Bool)
      (old new : Sender F Q R C K S M P f c q m r) (acked : Acknowledged)
      (is : Acknowledges space now ranges ack elicits old acked new) (congests : Congestions) where
    -- up to the detection of losses
    pub sampled_ending : EndsWithin (acked_with space acked congests) old is.sampled
    sampled_ending =
        let ends = acked_with space acked congests in
        ends_then ends old is.taken is.sampled
        (steps_ending ends _ old is.taken is.acks (acking_ending Q S M P ends space now _ acked.numbers.items
        (λ n one. (let member = one_of_member n acked.numbers.items one in (
          ends_within (same_space space space) (is_member nat_eq acked.numbers.items n) _ (same_itself space) member,
          both_true (same_space space space) (is_member nat_eq acked.numbers.items n) (same_itself space) member,
        )))))
        (within_any ends is.taken is.sampled (quietly_then is.taken is.ended is.sampled
        (steps_quietly _ is.taken is.ended is.ends (λ answer. tt, tt))
        (samples_so (ending_along no_endings) is.ended is.sampled (λ delay rtt answer. tt) space ack.delay _
        is.samples)))

    pub acknowledges_ending : ack.ecn ≡ None
        → MayCongest congests now acked.losses.is_persistent
        (last_lost space (received_at ack now) true acked.losses is.sampled)
        → EndsWithin (acked_with space acked congests) old new
    acknowledges_ending unmarked may =
        let ends = acked_with space acked congests in
        ends_then ends old is.sampled new sampled_ending
        (ends_then ends is.sampled is.looked new
        (detects_ending ends space now (received_at ack now) true acked.losses is.sampled is.looked
        (λ n lost. ends_beyond (same_space space space) (is_member nat_eq acked.numbers.items n) _ (same_itself space)
        lost) may is.detects)
        (within_any ends is.looked new (quietly_then is.looked is.heard new
        (ecn_so (ending_along no_endings) is.looked is.heard space now _ _ _ _ _ _ unmarked is.compares)
        (call_quietly [] _ is.heard new is.does tt))))

  pub ack_ending : (space : SpaceId) (now : ℕ) (ranges : List (ℕ × ℕ)) (ack : Ack)
      (old new : Sender F Q R C K S M P f c q m r) (acked : Acknowledged)
      → AckResult space now ranges ack old new (Ok acked) → ack.ecn ≡ None
      → EndsWithin (endings_by_ack space (Taken acked)) old new
  ack_ending space now ranges ack old new acked is unmarked = by acked.numbers.items refl
    where
      by : (numbers : List ℕ) → acked.numbers.items ≡ numbers → EndsWithin (endings_by_ack space (Taken acked)) old new
      by [] none = within_any (endings_by_ack space (Taken acked)) old new
          (call_quietly [] old.variables old new (is.none none).does tt)
      by (number ∷ numbers) some = acknowledges_ending space now ranges ack is.elicits old new acked
          (is.some (λ none. absurd cc)) any_congestion unmarked (λ sent found. refl)
