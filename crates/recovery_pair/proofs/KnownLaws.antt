-- What an endpoint knows of the handshake: how each call of its sender changes it, and that what a client knows of its
-- address has a cause.
use Rattle.std.proofs.Common.{◌≡◌, ℕ, ◌==◌, ◌⊎◌, inl, inr, ◌&&◌, ◌||◌, Bool, true, false, List, [], ◌∷◌, Option, None, Some, Ok, refl, sym, ap, subst, ◌∙◌, arith, true≢false}
use Rattle.std.specs.Prelude.{if◌then◌else◌}
use Rattle.recovery_base.specs.declared.below.SpaceId.{SpaceId}
use Rattle.recovery_base.specs.declared.below.SpaceId.TheVariants.{Handshake}
use Rattle.recovery_base.specs.Spaces.{same_space}
use Rattle.recovery_losses.specs.Losses.{IsOneOf}
use Rattle.recovery_losses.specs.Variables.{based, heard_in, is_server, probed, sampled_first}
use Rattle.recovery_losses.specs.declared.variables.Variables.{Variables}
use Rattle.recovery_history.proofs.TrackedLaws.{one_space}
use Rattle.recovery_pair.specs.declared.steps.AckOutcome.TheVariants.{Taken}
use Rattle.recovery_pair.specs.declared.steps.End.{End}
use Rattle.recovery_pair.specs.declared.steps.End.TheVariants.{Client, Server}
use Rattle.recovery_pair.specs.declared.steps.Fate.TheVariants.{New}
use Rattle.recovery_pair.specs.declared.steps.LocalStep.TheVariants.{AddressValidated, HandshakeConfirmed, HandshakeKeys}
use Rattle.recovery_pair.specs.declared.steps.PairAnswer.TheVariants.{Arrived, Done}
use Rattle.recovery_pair.specs.declared.steps.PairStep.TheVariants.{Arrive, Local}
use Rattle.recovery_pair.specs.AddressKnown.{Known, KnowsWithCause, acks_handshake, before_last, has_received, known_at, known_of, with_confirmation}
use Rattle.recovery_pair.specs.Logs.{PairEvent, PairLog, deliveries_of, has_validated, is_number, same_end}
use Rattle.recovery_pair.specs.Promises.DeliveredOnce.{AcksDelivered, IsDeliveredOnce}

-- ---- tests

or_true : (a : Bool) → (a || true) ≡ true
or_true true = refl
or_true false = refl

or_turned : (a b c : Bool) → (a || (b || c)) ≡ (c || (a || b))
or_turned a b c = grind arith

pub or_cases : (a b : Bool) → (a || b) ≡ true → (a ≡ true) ⊎ (b ≡ true)
or_cases true b is = inl refl
or_cases false b is = inr is

-- ---- the variables of a sender

-- what is sent changes none of it
pub sent_known : (space : Option SpaceId) (time : Option ℕ) (variables : Variables)
    → known_of (probed space (based time variables)) ≡ known_of variables
sent_known None None variables = refl
sent_known None (Some time) variables = refl
sent_known (Some space) None variables = refl
sent_known (Some space) (Some time) variables = refl

abbrev with_address : Variables → Bool → Known
with_address variables address = record {
  keys = variables.has_handshake_keys;
  confirmed = variables.is_handshake_confirmed;
  address = address;
}

-- a frame newly acknowledges some numbers
pub heard_known : (space : SpaceId) (now : ℕ) (is_first : Bool) (variables : Variables)
    → known_of (heard_in space now (sampled_first is_first now variables))
    ≡ record (known_of variables) { address = same_space space Handshake || (known_of variables).address }
heard_known space now is_first variables = ap (with_address variables)
    (or_turned (is_server variables.side) variables.is_address_known (same_space space Handshake))

pub confirmed_known : (variables : Variables)
    → known_of (record variables { is_handshake_confirmed = true; is_address_known = true })
    ≡ with_confirmation (known_of variables)
confirmed_known variables = ap (with_address (record variables { is_handshake_confirmed = true }))
    (or_true (is_server variables.side))

-- ---- what a client knows, by the log

-- its peer's address is validated from the start
pub client_validated : (log : PairLog) → has_validated Client true log ≡ true
client_validated [] = refl
client_validated ((Local at AddressValidated, Ok Done) ∷ earlier) =
    rw (client_validated earlier) (or_true (same_end at Client))
client_validated (event ∷ earlier) = client_validated earlier

received_here : (to there same before : Bool) → (to && (there && same)) ≡ true → ((to && there) || before) ≡ true
received_here to there same before is = grind (arith, is)

-- what was delivered was received
pub delivered_received : (end : End) (space : SpaceId) (n : ℕ) (log : PairLog) (items : List ℕ) (more : List (List ℕ))
    → deliveries_of end space n log ≡ items ∷ more → has_received end space log ≡ true
delivered_received end space n [] items more is = absurd cc
delivered_received end space n ((step, Ok (Arrived to there number size (New heard acked))) ∷ earlier) items more is =
    by (delivered_received end space n earlier items more) (is_number end space n to there number) refl is
  where
    by : (deliveries_of end space n earlier ≡ items ∷ more → has_received end space earlier ≡ true) → (here : Bool)
        → is_number end space n to there number ≡ here
        → (if here then heard.items ∷ deliveries_of end space n earlier else deliveries_of end space n earlier)
        ≡ items ∷ more
        → ((same_end to end && same_space there space) || has_received end space earlier) ≡ true
    by before true here delivered = received_here (same_end to end) (same_space there space) (number == n) _ here
    by before false other delivered = rw (before delivered) (or_true (same_end to end && same_space there space))
delivered_received end space n (event ∷ earlier) items more is = delivered_received end space n earlier items more is

received_on : (end : End) (space : SpaceId) (event : PairEvent) (log : PairLog) → has_received end space log ≡ true
    → has_received end space (event ∷ log) ≡ true
received_on end space (step, Ok (Arrived to there number size (New items acked))) log is =
    rw is (or_true (same_end to end && same_space there space))
received_on end space event log is = is

-- an acknowledged Handshake packet was received
acked_received : (log : PairLog) (space : SpaceId) (numbers : List ℕ)
    → ((n : ℕ) → IsOneOf n numbers → IsDeliveredOnce log Client space n) → acks_handshake space numbers ≡ true
    → has_received Server Handshake log ≡ true
acked_received log space [] delivered never = absurd (true≢false (sym never))
acked_received log space (n ∷ numbers) delivered is =
    let one = delivered n (inl refl) in
    subst (λ (at : SpaceId). has_received Server at log ≡ true) (one_space space Handshake is)
    (delivered_received Server space n log one.items [] one.delivered)

abbrev HasCause : PairLog → Type 0
HasCause log =
    ((known_at Client log).confirmed ≡ true) ⊎ (has_received Server Handshake (before_last log) ≡ true)

received_last : (log : PairLog) → has_received Server Handshake (before_last log) ≡ true
    → has_received Server Handshake log ≡ true
received_last [] is = is
received_last (event ∷ log) is = received_on Server Handshake event log is

cause_on : (log : PairLog) (event : PairEvent)
    → (known_at Client (event ∷ log)).confirmed ≡ (known_at Client log).confirmed → HasCause log
    → HasCause (event ∷ log)
cause_on log event same (inl confirmed) = inl (same ∙ confirmed)
cause_on log event same (inr received) = inr (received_last log received)

pub cause_kept : (log : PairLog) (event : PairEvent) → AcksDelivered log event → KnowsWithCause log
    → KnowsWithCause (event ∷ log)
cause_kept log (Arrive at now, Ok (Arrived Client there number size (New items (Taken acked)))) delivered before is =
    elim (or_cases (acks_handshake there acked.numbers.items) (known_at Client log).address is) [
      | inl here ↦ inr (acked_received log there acked.numbers.items delivered here)
      | inr was ↦ cause_on log (Arrive at now, Ok (Arrived Client there number size (New items (Taken acked)))) refl
          (before was)
    ]
cause_kept log (Local Client HandshakeConfirmed, Ok Done) delivered before is = inl refl
cause_kept log (Local Client HandshakeKeys, Ok Done) delivered before is =
    cause_on log (Local Client HandshakeKeys, Ok Done) refl (before is)
cause_kept log event delivered before is = cause_on log event refl (before is)
