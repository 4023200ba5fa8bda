-- Since when a handshake space waits follows from the calls and their replies.
use Rattle.std.proofs.Common.{◌≡◌, ◌&&◌, ℕ, Bool, true, false, true≢false, List, [], ◌∷◌, Option, None, Some, option_map, Result, Ok, Err, inl, inr, ap, refl, sym, ◌∙◌}
use Rattle.std.specs.Option.{option_or}
use Rattle.std.specs.Prelude.{if◌then◌else◌}
use Rattle.recovery_base.specs.declared.below.SpaceId.{SpaceId}
use Rattle.recovery_base.specs.declared.below.SpaceId.TheVariants.{Data, Handshake, Initial}
use Rattle.recovery_base.specs.Spaces.{same_space}
use Rattle.recovery_events.specs.declared.event.Answer.{Answer}
use Rattle.recovery_events.specs.declared.event.Event.{Event}
use Rattle.recovery_events.specs.declared.event.Refusal.{Refusal}
use Rattle.recovery_events.specs.declared.event.Refusal.TheVariants.{NoMemory, SpaceDiscarded}
use Rattle.recovery_losses.specs.declared.frames.Ack.{Ack}
use Rattle.recovery_losses.specs.declared.variables.FullSince.{FullSince}
use Rattle.recovery_losses.specs.declared.variables.Variables.{Variables}
use Rattle.recovery_losses.specs.Variables.{based, probed, since_in, timed_out, with_since}
use Rattle.recovery_sender.specs.declared.calls.Call.{Call}
use Rattle.recovery_sender.specs.declared.calls.Call.TheVariants as calls
use Rattle.recovery_sender.specs.declared.calls.CallRecord.{CallRecord}
use Rattle.recovery_sender.specs.declared.calls.CallReplyValue.{CallReplyValue}
use Rattle.recovery_sender.specs.declared.calls.CallReplyValue.TheVariants as replies
use Rattle.recovery_sender.specs.declared.sender.Sender.{Sender}
use Rattle.recovery_sender.specs.declared.sender.SenderError.{SenderError}
use Rattle.recovery_sender.specs.declared.sender.SenderError.TheVariants as refused
use Rattle.recovery_sender.specs.declared.sender.acks.Acknowledged.{Acknowledged}
use Rattle.recovery_sender.specs.declared.sender.packets.Transmission.{Transmission}
use Rattle.recovery_sender.specs.declared.sender.packets.Transmission.TheVariants.{Blocked, Delayed, Full, Transmitted}
use Rattle.recovery_sender.specs.declared.sender.probes.Timeout.TheVariants.{Lost, Nothing, Probe}
use Rattle.recovery_sender.specs.Acking.{ProcessesAck}
use Rattle.recovery_sender.specs.CallReplies.{CallReply}
use Rattle.recovery_sender.specs.Calls.{IsAnsweredEvent, after_event, after_transmit, backdated, changes_path, elicits_in, sent_at, sent_in, to_send}
use Rattle.recovery_sender.specs.PathChanges.{IsFailedEvent, is_decided}
use Rattle.recovery_sender.specs.Promises.Waiting.{WaitsByAnswers, since_after, since_by, since_by_all}
use Rattle.recovery_sender.specs.Senders.{state_in}
use Rattle.recovery_sender.specs.Runs.{RunsCalls}

-- ---- the variables

-- those that this rule reads
abbrev full_in : Variables → FullSince
full_in variables = variables.full_since

another_since : (there space : SpaceId) (time : Option ℕ) (full : FullSince) → same_space space Data ≡ false
    → since_in space (with_since there time full) ≡ (if same_space there space then time else since_in space full)
another_since Initial Initial time full handshake = refl
another_since Initial Handshake time full handshake = refl
another_since Handshake Initial time full handshake = refl
another_since Handshake Handshake time full handshake = refl
another_since Data Initial time full handshake = refl
another_since Data Handshake time full handshake = refl
another_since there Data time full handshake = absurd (true≢false handshake)

not_counted : (here : Bool) (one other : Option ℕ) → one ≡ (if here && false then other else one)
not_counted true one other = refl
not_counted false one other = refl

counted : (here : Bool) (one other : Option ℕ)
    → (if here then other else one) ≡ (if here && true then other else one)
counted true one other = refl
counted false one other = refl

unchanged : (here : Bool) (one : Option ℕ) → one ≡ (if here && true then one else one)
unchanged true one = refl
unchanged false one = refl

module _ (now : ℕ) (space : SpaceId) (handshake : same_space space Data ≡ false) where
  full_since : (there : SpaceId) (full : FullSince)
      → since_in space (with_since there (option_or (since_in there full) (Some now)) full)
      ≡ (if same_space there space && true then option_or (since_in space full) (Some now) else since_in space full)
  full_since there full = by there space handshake
    where
      by : (there space : SpaceId) → same_space space Data ≡ false
          → since_in space (with_since there (option_or (since_in there full) (Some now)) full)
          ≡ (if same_space there space && true then option_or (since_in space full) (Some now)
          else since_in space full)
      by Initial Initial is = refl
      by Initial Handshake is = refl
      by Handshake Initial is = refl
      by Handshake Handshake is = refl
      by Data Initial is = refl
      by Data Handshake is = refl
      by there Data is = absurd (true≢false is)

  sent_since : (there : SpaceId) (in_flight : Bool) (sent : Transmission) (variables : Variables)
      → since_in space (full_in (after_transmit now there in_flight sent variables))
      ≡ (if same_space there space && in_flight then since_after now sent (since_in space (full_in variables))
      else since_in space (full_in variables))
  sent_since there false sent variables = not_counted (same_space there space) _ _
  sent_since there true (Full ack) variables = full_since there (full_in variables)
  sent_since there true Transmitted variables =
      another_since there space None (full_in variables) handshake ∙ counted (same_space there space) _ _
  sent_since there true (Delayed until ack) variables =
      another_since there space None (full_in variables) handshake ∙ counted (same_space there space) _ _
  sent_since there true Blocked variables = unchanged (same_space there space) _

timed_since : (space there : SpaceId) (count now : ℕ) (variables : Variables) → same_space space Data ≡ false
    → since_in space (full_in (timed_out there count now variables))
    ≡ option_map (λ before. now) (since_in space (full_in variables))
timed_since Initial there count now variables handshake = refl
timed_since Handshake there count now variables handshake = refl
timed_since Data there count now variables handshake = absurd (true≢false handshake)

event_since : (elicits : Option SpaceId) (time : Option ℕ) (variables : Variables)
    → full_in (probed elicits (based time variables)) ≡ full_in variables
event_since None None variables = refl
event_since None (Some time) variables = refl
event_since (Some space) None variables = refl
event_since (Some space) (Some time) variables = refl

-- ---- each call

module _ {F Q R C K S M P : Type 0} {f : _} {c : _} {q : _} {m : _} {r : _} (old new : Sender F Q R C K S M P f c q m r)
    (space : SpaceId) (handshake : same_space space Data ≡ false) where
  abbrev IsSince : Option ℕ → Type 0
  IsSince since = since_in space (full_in new.variables) ≡ since

  abbrev before : Option ℕ
  before = since_in space (full_in old.variables)

  same_sender : new ≡ old → IsSince before
  same_sender is = ap (λ (at : Sender F Q R C K S M P f c q m r). since_in space (full_in at.variables)) is

  by_variables : (kept : Variables) → new.variables ≡ kept → IsSince (since_in space (full_in kept))
  by_variables kept is = ap (λ (variables : Variables). since_in space (full_in variables)) is

  same_full : (kept : Variables) → new.variables ≡ kept → full_in kept ≡ full_in old.variables → IsSince before
  same_full kept is same = by_variables kept is ∙ ap (λ (full : FullSince). since_in space full) same

  acked_since : (space_of : SpaceId) (now : ℕ) (ranges : List (ℕ × ℕ)) (ack : Ack) (acked : Acknowledged)
      (numbers : List ℕ) → acked.numbers.items ≡ numbers → ProcessesAck space_of now ranges ack old new acked
      → IsSince before
  acked_since space_of now ranges ack acked [] none is = same_full old.variables (is.none none).does.variables refl
  acked_since space_of now ranges ack acked (n ∷ numbers) some is =
      by_variables _ (is.some (λ none. cons_nil n numbers (sym some ∙ none))).does.variables
    where
      cons_nil : (n : ℕ) (numbers : List ℕ) → ◌≡◌ {A = List ℕ} (n ∷ numbers) [] → ⊥
      cons_nil n numbers is = cc

  event_kept : (event : Event Q S M P) (answer : Answer Q) (changes : Bool)
      → IsAnsweredEvent event old new answer changes → IsSince before
  event_kept event answer true is = by_variables _ is.renews.does.variables
      ∙ ap (λ (variables : Variables). since_in space (full_in variables)) is.goes.variables
  event_kept event answer false is = same_full (after_event event answer old.variables) is.variables
      (event_since (sent_in (elicits_in event) answer) (sent_at (to_send event) answer) old.variables)

  failed_kept : (event : Event Q S M P) (refusal : Refusal) (decided : Bool)
      → IsFailedEvent event old new refusal decided → IsSince before
  failed_kept event refusal true is = same_sender is.1
  failed_kept event refusal false is = same_full old.variables is.variables refl

  waits_kept : (call : Call Q S M P) (reply : Result (CallReplyValue Q) SenderError) → CallReply call old new reply
      → IsSince (since_by space call reply before)
  waits_kept (calls.Transmit datagram) (Ok (replies.Transmission sent)) is =
      by_variables _ is.steps.variables
      ∙ sent_since datagram.now space handshake datagram.space datagram.in_flight sent old.variables
  waits_kept (calls.Transmit datagram) (Err refusal) is = same_sender is.stays
  waits_kept (calls.Ack frame) (Ok (replies.Acknowledged acked)) is =
      acked_since frame.space frame.now frame.ranges.items frame.ack acked acked.numbers.items refl is
  waits_kept (calls.Ack frame) (Err refusal) is = same_sender is.0
  waits_kept (calls.Timeout now) (Ok (replies.Timeout Nothing)) is = same_sender is.0.1
  waits_kept (calls.Timeout now) (Ok (replies.Timeout (Lost there losses))) is =
      same_full _ is.0.1.does.variables refl
  waits_kept (calls.Timeout now) (Ok (replies.Timeout (Probe there count))) is =
      by_variables _ is.0.1.variables ∙ timed_since space there count now old.variables handshake
  waits_kept (calls.Timeout now) (Err refusal) is = same_sender is.0.2
  waits_kept (calls.Probe asking) (Ok (replies.Probe queue)) is = same_full _ is.2.variables refl
  waits_kept (calls.Probe asking) (Err (refused.Event SpaceDiscarded)) is = same_sender is.1
  waits_kept (calls.Probe asking) (Err (refused.Event NoMemory)) is = same_full _ is.1.variables refl
  waits_kept (calls.Datagram bytes) (Ok replies.Done) is = same_full _ is.steps.variables refl
  waits_kept (calls.Datagram bytes) (Err refusal) is = same_sender is.stays
  waits_kept calls.HandshakeKeys (Ok replies.Done) is = same_full _ is.variables refl
  waits_kept calls.HandshakeConfirmed (Ok replies.Done) is = same_full _ is.variables refl
  waits_kept calls.AddressValidated (Ok replies.Done) is = same_full _ is.variables refl
  waits_kept (calls.PeerDelay span) (Ok replies.Done) is = same_full _ is.variables refl
  waits_kept (calls.InitialRtt rtt) (Ok replies.Done) is = same_full _ is.does.variables refl
  waits_kept (calls.Challenge challenge pending) (Ok replies.Done) is = same_full _ is.variables refl
  waits_kept (calls.NewlyAcked asked) (Ok (replies.Newly newly)) is = same_sender is.1
  waits_kept (calls.NewlyAcked asked) (Err refusal) is = same_sender is.1
  waits_kept (calls.Discard there now) (Ok replies.Done) is =
      by_variables _ is.steps.variables ∙ another_since there space None (full_in old.variables) handshake
  waits_kept (calls.Discard there now) (Err refusal) is = same_sender is.stays
  waits_kept (calls.Abandon there now) (Ok (replies.Retransmitted all)) is =
      by_variables _ is.4.variables ∙ another_since there space None (full_in old.variables) handshake
  waits_kept (calls.Abandon there now) (Err refusal) is = same_sender is.0
  waits_kept (calls.Event event) (Ok (replies.Answer answer)) is =
      event_kept (backdated event) answer (changes_path (backdated event)) is.1
  waits_kept (calls.Event event) (Err (refused.Event refusal)) is =
      failed_kept (backdated event) refusal (is_decided (backdated event) (state_in old)) is.1
  waits_kept (calls.Event event) (Err refused.Unsent) is = absurd is.1
  waits_kept (calls.Event event) (Err refused.DataSpace) is = absurd is.1
  waits_kept (calls.Event event) (Ok replies.Decided) is = same_sender is.1
  waits_kept call reply is = absurd is

-- ---- all calls

module _ {F Q R C K S M P : Type 0} {f : _} {c : _} {q : _} {m : _} {r : _} where
  pub waits_by_answers : (calls : List (Call Q S M P)) (said : List (CallRecord Q))
      (old new : Sender F Q R C K S M P f c q m r) → RunsCalls calls said old new → WaitsByAnswers calls said old new
  waits_by_answers [] [] old new is space handshake = same_sender old new space handshake is
  waits_by_answers (call ∷ calls) (one ∷ said) old new is space handshake =
      waits_by_answers calls said is.0 new is.2 space handshake
      ∙ ap (since_by_all space calls said) (waits_kept old is.0 space handshake call one.reply is.1.says)
  waits_by_answers [] (one ∷ said) old new is space handshake = absurd is
  waits_by_answers (call ∷ calls) [] old new is space handshake = absurd is
