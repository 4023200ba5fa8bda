-- A datagram goes out, or is held back, by what the sender says of it.
use Rattle.std.proofs.lemmas.Bool.Decides.{nat_tests}
use Rattle.std.proofs.Common.{◌≡◌, ℕ, ◌&&◌, Bool, true, false, true≢false, nat_lt, ◌<◌, List, Option, None, Some, Result, Ok, Err, inl, inr, ap, refl, sym, ◌∙◌, arith}
use Rattle.std.specs.Prelude.{IfOk, not, if◌then◌else◌}
use Rattle.std.specs.Option.{option_or}
use Rattle.std.specs.Global.{Vec}
use Rattle.recovery_base.specs.declared.below.SpaceId.{SpaceId}
use Rattle.recovery_base.specs.declared.below.SpaceId.TheVariants.{Data, Handshake, Initial}
use Rattle.recovery_base.specs.Spaces.{same_space}
use Rattle.recovery_losses.specs.declared.variables.Variables.{Variables}
use Rattle.recovery_losses.specs.Variables.{is_probe_due, since_in}
use Rattle.recovery_spaces.specs.Discarded.{is_discarded}
use Rattle.recovery_sender.specs.Calls.{PermitsAckAlone, PermitsAlone, after_transmit, is_checked, is_full, paced_to, transmit_steps}
use Rattle.recovery_sender.specs.Senders.{state_in}
use Rattle.recovery_sender.specs.Steps.{CompletesCall}
use Rattle.recovery_sender.specs.declared.sender.Sender.{Sender}
use Rattle.recovery_sender.specs.declared.sender.SenderError.{SenderError}
use Rattle.recovery_sender.specs.declared.sender.packets.Transmission.{Transmission}
use Rattle.recovery_sender.specs.declared.sender.packets.Transmission.TheVariants.{Blocked, Delayed, Full, Transmitted}
use Rattle.recovery_pair.specs.declared.endpoint.Outgoing.{Outgoing}
use Rattle.recovery_pair.specs.declared.endpoint.Outgoing.TheVariants.{Failed, Held, Nothing, Sent}
use Rattle.recovery_pair.specs.declared.endpoint.Waiting.{Waiting}
use Rattle.recovery_pair.specs.declared.steps.End.{End}
use Rattle.recovery_pair.specs.declared.steps.End.TheVariants.{Client, Server}
use Rattle.recovery_pair.specs.declared.steps.PairAnswer.{PairAnswer}
use Rattle.recovery_pair.specs.declared.steps.PairAnswer.TheVariants as answers
use Rattle.recovery_pair.specs.declared.steps.SentAck.{SentAck}
use Rattle.recovery_pair.specs.AddressKnown.{known_of}
use Rattle.recovery_pair.specs.Permits.{AgreesWith, HoldsAt, IsIdle, PermitsAnswer, SaysOf, SendsAckAlone, WaitsFor, answer_of, requires_ack, window_checked}
use Rattle.recovery_pair.specs.Pasts.{Continues, GoesOnQuietly}
use Rattle.recovery_pair.specs.Promises.Repeats.{is_probe}
use Rattle.recovery_pair.specs.Turns.{PackTurn, TransmitTurn}
use Rattle.recovery_pair.specs.Waits.{PackWaits}

-- what the sender says of a datagram, by what it checks
module _ (first second : SenderError) where
  abbrev pub said_of : (discarded room blocked checked full ack : Bool) (delay : Option ℕ)
      → Result Transmission SenderError
  said_of discarded room blocked checked full ack delay = if discarded then Err first
      else if room then Ok (if blocked then Blocked else if checked then (if full then Full ack
      else paced_to ack delay) else Transmitted) else Err second

  pub said_blocked : (discarded room blocked checked full ack : Bool) (delay : Option ℕ)
      → said_of discarded room blocked checked full ack delay ≡ Ok Blocked → blocked ≡ true
  said_blocked discarded room blocked checked full ack None is = grind (arith, is)
  said_blocked discarded room blocked checked full ack (Some until) is = grind (arith, is)

  pub said_full : (discarded room blocked checked full ack : Bool) (delay : Option ℕ) (given : Bool)
      → said_of discarded room blocked checked full ack delay ≡ Ok (Full given) → (full ≡ true) × (checked ≡ true)
  said_full discarded room blocked checked full ack None given is = (grind (arith, is), grind (arith, is))
  said_full discarded room blocked checked full ack (Some until) given is = (grind (arith, is), grind (arith, is))

  -- only the amplification limit holds back what is not checked
  pub said_unchecked : (discarded room blocked checked full ack : Bool) (delay : Option ℕ) (held : Transmission)
      → checked ≡ false → said_of discarded room blocked checked full ack delay ≡ Ok held → (held ≡ Transmitted → ⊥)
      → held ≡ Blocked
  said_unchecked discarded room blocked checked full ack delay held none is kept = grind (arith, none, is, kept)

-- a permitted packet is sent, or fails
module _ {F Q R C K S M P : Type 0} {f : _} {c : _} {q : _} {m : _} {r : _}
    (before after : Sender F Q R C K S M P f c q m r) (from : End) (space : SpaceId) (now size : ℕ) (eliciting : Bool)
    (checked : Option ℕ) (Idle : Type 0) (ranges : List (ℕ × ℕ)) (delay : ℕ)
    (Says : Result Transmission SenderError → Type 0)
    (old new : List Waiting) where
  pub packed_agrees : (outcome : Outgoing) → (eliciting ≡ false → Idle) → Says (Ok Transmitted)
      → PackTurn before after from space now size eliciting checked ranges delay outcome
      → PackWaits old new space outcome → AgreesWith Idle eliciting checked Says (answer_of (Ok outcome))
  packed_agrees (Sent packet items window) idle is turn waits = inl (is, turn.elicits, turn.window_is, idle)
  packed_agrees (Failed refusal) idle is turn waits = inl is
  packed_agrees (Held held) idle is turn waits = absurd waits
  packed_agrees Nothing idle is turn waits = absurd waits

-- or an ACK alone is
module _ {F Q R C K S M P : Type 0} {f : _} {c : _} {q : _} {m : _} {r : _}
    (before after : Sender F Q R C K S M P f c q m r) (from : End) (space : SpaceId) (now size : ℕ) (in_flight : Bool)
    (checked : Option ℕ) (Idle : Type 0) (ranges : List (ℕ × ℕ)) (delay : ℕ)
    (Says : Result Transmission SenderError → Type 0)
    (old new : List Waiting) where
  pub ack_agrees : (outcome : Outgoing) → SendsAckAlone Idle in_flight checked Says
      → PackTurn before after from space now size false None ranges delay outcome
      → PackWaits old new space outcome → AgreesWith Idle in_flight checked Says (answer_of (Ok outcome))
  ack_agrees (Sent packet items window) held turn waits = inr (held, turn.elicits, turn.window_is)
  ack_agrees (Failed refusal) held turn waits = inr held
  ack_agrees (Held held) waits_for turn waits = absurd waits
  ack_agrees Nothing held turn waits = absurd waits

module _ {F Q R C K S M P : Type 0} {f : _} {c : _} {q : _} {m : _} {r : _} where
  -- of an answer that says nothing
  pub permits_none : (end : End) (space : SpaceId)
      (now size : ℕ) (answer : Result PairAnswer SenderError) (client server : Sender F Q R C K S M P f c q m r)
      → ((Idle : Type 0) (in_flight : Bool) (checked : Option ℕ) (Says : Result Transmission SenderError → Type 0)
      → AgreesWith Idle in_flight checked Says answer)
      → HoldsAt end (PermitsAnswer space now size answer) client server
  permits_none Client space now size answer client server agrees = (
    false,
    agrees (IsIdle client space) false (window_checked client space false)
        (SaysOf client space now size false),
  )
  permits_none Server space now size answer client server agrees = (
    false,
    agrees (IsIdle server space) false (window_checked server space false)
        (SaysOf server space now size false),
  )

-- ---- while a probe is due

unchecked : (in_flight due : Bool) → due ≡ true → (in_flight && not due) ≡ false
unchecked true due is = rw is refl
unchecked false due is = refl

module _ {F Q R C K S M P : Type 0} {f : _} {c : _} {q : _} {m : _} {r : _} (space : SpaceId) (now size : ℕ)
    (sender : Sender F Q R C K S M P f c q m r) (due : is_probe_due sender.variables space ≡ true) where
  -- no ACK is sent alone in its place
  never_alone : (in_flight : Bool) (held : Transmission) → SaysOf sender space now size in_flight (Ok held)
      → requires_ack held ≡ true → ⊥
  never_alone in_flight held says requires =
      let blocked = said_unchecked _ _ _ _ _ (is_checked sender.variables space in_flight)
      (is_full c.words (state_in sender) size) says.0 _ held (unchecked in_flight _ due) (sym says.2)
      (λ sent. true≢false (sym requires ∙ ap requires_ack sent)) in
      true≢false (sym requires ∙ ap requires_ack blocked)

  -- a packet that is sent is one
  pub sent_if_due : (number : ℕ) (items : Vec ℕ) (eliciting : Bool) (window : Option ℕ) (ack : SentAck)
      → PermitsAnswer space now size (Ok (answers.Sent number items eliciting window ack)) sender
      → is_probe eliciting window ≡ true
  sent_if_due number items eliciting window ack (in_flight, inr (held, silent, unasked)) =
      absurd (never_alone in_flight held.0 held.1 held.2)
  sent_if_due number items eliciting window ack (in_flight, inl permits) = by in_flight refl
    where
      kept : (gone : Bool) → is_discarded space (state_in sender).discarded ≡ gone → gone ≡ false
      kept true is = absurd (let said = rw is at permits.0.2 in cc)
      kept false is = refl

      by : (flies : Bool) → in_flight ≡ flies → is_probe eliciting window ≡ true
      by true is = rw (permits.1, permits.2, is, due) refl
      by false is = absurd (true≢false (sym due ∙ (permits.3 is (kept _ refl)).0))

  -- only the amplification limit holds it back
  pub held_if_due : (held : Transmission) → PermitsAnswer space now size (Ok (answers.Held held)) sender
      → held ≡ Blocked
  held_if_due held permits = said_unchecked _ _ _ _ _ (is_checked sender.variables space permits.0)
      (is_full c.words (state_in sender) size) permits.1.0.0 _ held (unchecked permits.0 _ due) (sym permits.1.0.2)
      permits.1.1

-- ---- what does not count in flight, and what waits

-- whether a packet waits is nothing that an endpoint knows of the handshake
pub known_same : (now : ℕ) (space : SpaceId) (in_flight : Bool) (sent : Transmission) (variables : Variables)
    → known_of (after_transmit now space in_flight sent variables) ≡ known_of variables
known_same now space true (Full ack) variables = refl
known_same now space true Transmitted variables = refl
known_same now space true (Delayed until ack) variables = refl
known_same now space true Blocked variables = refl
known_same now space false sent variables = refl

module _ {F Q R C K S M P : Type 0} {f : _} {c : _} {q : _} {m : _} {r : _} where
  -- an ACK alone may be sent
  pub alone_said : (sender : Sender F Q R C K S M P f c q m r) (space : SpaceId) (now size : ℕ)
      (reply : Result Transmission SenderError) → PermitsAlone (state_in sender) space size
      → SaysOf sender space now size false reply → reply ≡ Ok Transmitted
  alone_said sender space now size reply permits says =
      says.2 ∙ rw (permits.keys, fits_of _ _ permits.total, permits.limit) refl
    where
      fits_of : (one other : ℕ) → one < other → nat_lt one other ≡ true
      fits_of one other less = grind (arith, nat_tests, less)

  -- a handshake packet that the window holds back waits for room
  pub waits_for : (old new : Sender F Q R C K S M P f c q m r) (space : SpaceId) (now size : ℕ) (in_flight : Bool)
      (result : Result Transmission SenderError) → SaysOf old space now size in_flight result
      → IfOk result (λ sent. CompletesCall (transmit_steps now size (is_checked old.variables space in_flight) sent)
      (after_transmit now space in_flight sent old.variables) old new)
      → IfOk result (λ sent. PermitsAckAlone (state_in new) space size sent)
      → IfOk result (λ sent. WaitsFor space sent new)
  waits_for old new space now size in_flight (Ok (Full ack)) says does alone = λ handshake.
      let checked = (said_full _ _ _ _ _ (is_checked old.variables space in_flight)
      (is_full c.words (state_in old) size)
      says.0 _ ack (sym says.2)).1 in
      let since = waits_since space in_flight old.variables (counts in_flight _ checked) handshake in (
        since.0,
        ap (λ (variables : Variables). since_in space variables.full_since) does.variables ∙ since.1,
        alone.keys,
      )
    where
      counts : (in_flight due : Bool) → (in_flight && not due) ≡ true → in_flight ≡ true
      counts true due is = refl
      counts false due is = is

      some_of : (since : Option ℕ) → (time : ℕ) × (option_or since (Some now) ≡ Some time)
      some_of None = (now, refl)
      some_of (Some since) = (since, refl)

      waits_since : (space : SpaceId) (in_flight : Bool) (variables : Variables) → in_flight ≡ true
          → same_space space Data ≡ false → (time : ℕ)
          × (since_in space (after_transmit now space in_flight (Full ack) variables).full_since ≡ Some time)
      waits_since Initial true variables counts handshake = some_of variables.full_since.initial
      waits_since Handshake true variables counts handshake = some_of variables.full_since.handshake
      waits_since Data true variables counts handshake = absurd (true≢false handshake)
      waits_since space false variables counts handshake = absurd (true≢false (sym counts))
  waits_for old new space now size in_flight (Ok sent) says does alone = tt
  waits_for old new space now size in_flight (Err refusal) says does alone = tt

  -- what is held back is not counted, and leaves room for an ACK alone
  pub held_quietly : (old new : Sender F Q R C K S M P f c q m r) (size : ℕ) (said : Transmission)
      → requires_ack said ≡ true → TransmitTurn old new size (Ok said) → Continues GoesOnQuietly old new
  held_quietly old new size (Full ack) is goes = goes
  held_quietly old new size (Delayed until ack) is goes = goes
  held_quietly old new size Blocked is goes = absurd (true≢false (sym is))
  held_quietly old new size Transmitted is goes = absurd (true≢false (sym is))

  pub held_alone : (sender : Sender F Q R C K S M P f c q m r) (space : SpaceId) (size : ℕ) (said : Transmission)
      → requires_ack said ≡ true → PermitsAckAlone (state_in sender) space size said
      → PermitsAlone (state_in sender) space size
  held_alone sender space size (Full ack) is alone = alone
  held_alone sender space size (Delayed until ack) is alone = alone
  held_alone sender space size Blocked is alone = absurd (true≢false (sym is))
  held_alone sender space size Transmitted is alone = absurd (true≢false (sym is))
