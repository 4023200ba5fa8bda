-- What is due is due in a space that is not discarded.
use Rattle.std.proofs.Common.{◌≡◌, ℕ, true, false, Bool, ◌||◌, Option, None, Some, option_map, Result, Ok, Err, inl, inr, refl, sym, subst, ◌∙◌, arith}
use Rattle.std.proofs.lemmas.Bool.Decides.{nat_tests}
use Rattle.std.proofs.lemmas.Option.{none-some}
use Rattle.std.specs.Prelude.{if◌then◌else◌, nat_le, nat_lt}
use Rattle.std.specs.Option.{option_and_then, option_or}
use Rattle.recovery_base.specs.declared.below.SpaceId.{SpaceId}
use Rattle.recovery_base.specs.declared.below.SpaceId.TheVariants.{Initial, Handshake, Data}
use Rattle.recovery_spaces.specs.declared.discarded.DiscardedSpaces.{DiscardedSpaces}
use Rattle.recovery_spaces.specs.Discarded.{is_discarded}
use Rattle.recovery_spaces.specs.Spaces.{Space, space_of}
use Rattle.recovery_paths.specs.PathStates.{is_blocked}
use Rattle.recovery_history.specs.RecoveryState.{RecoveryState}
use Rattle.recovery_losses.specs.declared.due.Due.{Due}
use Rattle.recovery_losses.specs.declared.due.Due.TheVariants.{Losses, Probes, AntiDeadlock}
use Rattle.recovery_losses.specs.Due.{sooner}
use Rattle.recovery_losses.specs.declared.variables.Variables.{Variables}
use Rattle.recovery_losses.specs.Variables.{is_address_validated}
use Rattle.recovery_sender.specs.declared.sender.SenderError.{SenderError}
use Rattle.recovery_sender.specs.declared.sender.Sender.{Sender}
use Rattle.recovery_sender.specs.declared.sender.probes.Timeout.{Timeout}
use Rattle.recovery_sender.specs.declared.sender.probes.Timeout.TheVariants.{Nothing, Lost, Probe}
use Rattle.recovery_sender.specs.Senders.{state_in}
use Rattle.recovery_sender.specs.Timeouts.{IsEarly, TimeoutResult, WaitsForItsTime}
use Rattle.recovery_sender.specs.Calls.{due_now, space_due}
use Rattle.recovery_sender.specs.Timer.{soonest, loss_due, probe_in, probe_due, waits, deadlock_space, due_of, behind, pto_of, least_datagram}

-- ---- the earliest of several

module _ (Has : ℕ × Due → Type 0) where
  abbrev pub IfDue : Option (ℕ × Due) → Type 0
  IfDue None = Unit {0}
  IfDue (Some due) = Has due

  one_has : (test : Bool) (one other : ℕ × Due) → Has one → Has other
      → IfDue (if test then Some other else Some one)
  one_has true one other first second = second
  one_has false one other first second = first

  sooner_has : (one other : Option (ℕ × Due)) → IfDue one → IfDue other → IfDue (sooner one other)
  sooner_has None other first second = second
  sooner_has (Some one) None first second = first
  sooner_has (Some one) (Some other) first second = one_has (nat_lt other.0 one.0) one other first second

  pub soonest_has : (due : SpaceId → Option (ℕ × Due)) → ((space : SpaceId) → IfDue (due space)) → IfDue (soonest due)
  soonest_has due all = sooner_has _ _ (sooner_has _ _ (all Initial) (all Handshake)) (all Data)

  pub or_has : (one other : Option (ℕ × Due)) → IfDue one → IfDue other → IfDue (option_or one other)
  or_has None other first second = second
  or_has (Some one) other first second = first

  pub unless_has : (test : Bool) (due : Option (ℕ × Due)) → IfDue due → IfDue (if test then None else due)
  unless_has true due has = tt {0}
  unless_has false due has = has

-- ---- what is due is so in a space that is not discarded

module _ (discarded : DiscardedSpaces) where
  abbrev Lives : ℕ × Due → Type 0
  Lives due = is_discarded (space_due due.1) discarded ≡ false

  abbrev IsThere : Option (ℕ × Due) → Type 0
  IsThere = IfDue Lives

  -- what is due in a space by its state, if it is not discarded
  within : {P M : Type 0} (gone : Bool) (here : Space P M) (due : Space P M → Option (ℕ × Due))
      → (gone ≡ false → IsThere (due here)) → IsThere (option_and_then due (if gone then None else Some here))
  within true here due there = tt {0}
  within false here due there = there refl

  mapped : (space : SpaceId) (time : Option ℕ) → is_discarded space discarded ≡ false
      → IsThere (option_map (λ time. (time, Losses space)) time)
  mapped space None kept = tt {0}
  mapped space (Some time) kept = kept

  probed : (space : SpaceId) (due : ℕ → ℕ) (start : Option ℕ) → is_discarded space discarded ≡ false
      → IsThere (option_map (λ start. (due start, Probes space)) start)
  probed space due None kept = tt {0}
  probed space due (Some start) kept = kept

  lost : {P M : Type 0} (space : SpaceId) (gone : Bool) (here : Space P M) → is_discarded space discarded ≡ gone
      → IsThere (option_map (λ time. (time, Losses space))
      (option_and_then (λ (here : Space P M). here.loss_time) (if gone then None else Some here)))
  lost space true here is = tt {0}
  lost space false here is = mapped space here.loss_time is

  ended : (space : SpaceId) (validated gone : Bool) (time : ℕ) → is_discarded space discarded ≡ gone
      → IsThere (if validated || gone then None else Some (time, AntiDeadlock space))
  ended space true gone time is = tt {0}
  ended space false true time is = tt {0}
  ended space false false time is = is

module _ {K P M : Type 0} (recovery : RecoveryState K P M) (variables : Variables) where
  probe_there : (space : SpaceId) → IsThere recovery.discarded (probe_due recovery variables space)
  probe_there space =
      let here = space_of space recovery.spaces in
      unless_has (Lives recovery.discarded) (waits recovery variables space) _
      (within recovery.discarded (is_discarded space recovery.discarded) here (probe_in recovery variables space)
      (λ kept. probed recovery.discarded space (λ start. behind start (pto_of recovery variables space)) _ kept))

  due_there_or_none : IsThere recovery.discarded (due_of recovery variables)
  due_there_or_none =
      let gone = recovery.discarded in let last = deadlock_space recovery variables in
      let Here = Lives gone in
      or_has Here _ _ (soonest_has Here (loss_due recovery)
      (λ space. lost gone space (is_discarded space gone) (space_of space recovery.spaces) refl))
      (unless_has Here (is_blocked recovery.paths.current.state least_datagram) _
      (or_has Here _ _ (soonest_has Here (probe_due recovery variables) probe_there)
      (ended gone last (is_address_validated variables) (is_discarded last gone) _ refl)))

  pub due_there : (due : ℕ × Due) → due_of recovery variables ≡ Some due
      → is_discarded (space_due due.1) recovery.discarded ≡ false
  due_there due is = rw is at due_there_or_none

-- ---- before its time

early_none : (now : ℕ) (due : Option (ℕ × Due)) → IsEarly now (option_map (λ due. due.0) due)
    → option_and_then (λ (due : ℕ × Due). if nat_le due.0 now then Some due.1 else None) due ≡ None
early_none now None early = refl
early_none now (Some due) early = grind (arith, nat_tests, early)

module _ {F Q R C K S M P : Type 0} {f : _} {c : _} {q : _} {m : _} {r : _} (now : ℕ)
    (old new : Sender F Q R C K S M P f c q m r) where
  nothing_then : (reply : Result Timeout SenderError) → TimeoutResult now old new reply
      → due_now now (state_in old) old.variables ≡ None → (reply ≡ Ok Nothing) × (new ≡ old)
  nothing_then (Ok Nothing) comes none = (refl, comes.1)
  nothing_then (Ok (Lost space losses)) comes none = absurd (none-some _ (sym none ∙ comes.0))
  nothing_then (Ok (Probe space count)) (inl probes, does) none = absurd (none-some _ (sym none ∙ probes.0))
  nothing_then (Ok (Probe space count)) (inr deadlock, does) none = absurd (none-some _ (sym none ∙ deadlock.0))
  nothing_then (Err refusal) comes none = absurd (none-some _ (sym none ∙ comes.0.1))

  pub waits_for_its_time : (reply : Result Timeout SenderError) → TimeoutResult now old new reply
      → WaitsForItsTime now old new reply
  waits_for_its_time reply comes set early = nothing_then reply comes
      (early_none now (due_of (state_in old) old.variables) (subst (IsEarly now) set early))
