-- What each endpoint knows of the handshake, by the log: whether it has Handshake keys, whether the handshake is
-- confirmed, and whether its peer validated its address. A client knows the last once an ACK acknowledges a Handshake
-- packet of it, or the handshake is confirmed (RFC 9002, 6.2.2.1 and A.8).
use Rattle.std.specs.Prelude.{◌≡◌, ℕ, ◌⊎◌, ◌&&◌, ◌||◌, Bool, true, false, List, [], ◌∷◌, Result, Ok, if◌then◌else◌}
use Rattle.recovery_base.specs.declared.below.SpaceId.{SpaceId}
use Rattle.recovery_base.specs.declared.below.SpaceId.TheVariants.{Handshake}
use Rattle.recovery_base.specs.Spaces.{same_space}
use Rattle.recovery_losses.specs.declared.variables.Variables.{Variables}
use Rattle.recovery_losses.specs.Variables.{is_address_validated}
use Rattle.recovery_sender.specs.declared.sender.SenderError.{SenderError}
use Rattle.recovery_pair.specs.declared.steps.AckOutcome.{AckOutcome}
use Rattle.recovery_pair.specs.declared.steps.AckOutcome.TheVariants.{Taken}
use Rattle.recovery_pair.specs.declared.steps.End.{End}
use Rattle.recovery_pair.specs.declared.steps.End.TheVariants.{Client, Server}
use Rattle.recovery_pair.specs.declared.steps.Fate.{Fate}
use Rattle.recovery_pair.specs.declared.steps.Fate.TheVariants.{New}
use Rattle.recovery_pair.specs.declared.steps.LocalStep.{LocalStep}
use Rattle.recovery_pair.specs.declared.steps.LocalStep.TheVariants.{HandshakeConfirmed, HandshakeKeys}
use Rattle.recovery_pair.specs.declared.steps.PairAnswer.{PairAnswer}
use Rattle.recovery_pair.specs.declared.steps.PairAnswer.TheVariants.{Arrived, Done}
use Rattle.recovery_pair.specs.declared.steps.PairStep.TheVariants.{Arrive, Local}
use Rattle.recovery_pair.specs.Logs.{PairEvent, PairLog, same_end}

pub record Known : Type 0 where
  -- there are Handshake keys
  pub keys : Bool
  -- the handshake is confirmed
  pub confirmed : Bool
  -- the peer validated the address of this endpoint; a client does so from the start
  pub address : Bool

-- by the variables of a sender
abbrev pub known_of : Variables → Known
known_of variables = record {
  keys = variables.has_handshake_keys;
  confirmed = variables.is_handshake_confirmed;
  address = is_address_validated variables;
}

-- ---- by the log

-- if these numbers of a space are newly acknowledged, a Handshake packet is
abbrev pub acks_handshake : SpaceId → List ℕ → Bool
acks_handshake space [] = false
acks_handshake space (n ∷ numbers) = same_space space Handshake

-- after an ACK frame
abbrev pub known_by_ack : SpaceId → AckOutcome → Known → Known
known_by_ack space (Taken acked) known =
    record known { address = acks_handshake space acked.numbers.items || known.address }
known_by_ack space outcome known = known

-- after a packet arrived
abbrev pub known_by_fate : SpaceId → Result Fate SenderError → Known → Known
known_by_fate space (Ok (New items acked)) known = known_by_ack space acked known
known_by_fate space fate known = known

-- after Handshake keys are reported, and after confirmation is
abbrev pub with_keys : Known → Known
with_keys known = record known { keys = true }

abbrev pub with_confirmation : Known → Known
with_confirmation known = record known { confirmed = true; address = true }

-- after a step without the network
abbrev pub known_by_step : LocalStep → Result PairAnswer SenderError → Known → Known
known_by_step HandshakeKeys (Ok Done) known = with_keys known
known_by_step HandshakeConfirmed (Ok Done) known = with_confirmation known
known_by_step step answer known = known

module _ (end : End) where
  -- after a step with this answer
  abbrev pub known_after : PairEvent → Known → Known
  known_after (Arrive at now, Ok (Arrived to there number size fate)) known =
      if same_end to end then known_by_fate there (Ok fate) known else known
  known_after (Local at step, answer) known = if same_end at end then known_by_step step answer known else known
  known_after event known = known

  -- after all steps, by what it knew first
  abbrev pub known_from : Known → PairLog → Known
  known_from first [] = first
  known_from first (event ∷ earlier) = known_after event (known_from first earlier)

  -- what a new endpoint knows
  abbrev pub known_first : Known
  known_first = record { keys = false; confirmed = false; address = same_end end Server }

  abbrev pub known_at : PairLog → Known
  known_at log = known_from known_first log

  -- a packet of the space arrived as new
  abbrev pub has_received : SpaceId → PairLog → Bool
  has_received space [] = false
  has_received space ((step, Ok (Arrived to there number size (New items acked))) ∷ earlier) =
      (same_end to end && same_space there space) || has_received space earlier
  has_received space (event ∷ earlier) = has_received space earlier

-- without the last step
abbrev pub before_last : PairLog → PairLog
before_last [] = []
before_last (event ∷ earlier) = earlier

-- A client knows its address validated only if its handshake is confirmed, or the server received a Handshake packet of
-- it as new in an earlier step (RFC 9000, 8.1).
abbrev pub KnowsWithCause : PairLog → Type 0
KnowsWithCause log = (known_at Client log).address ≡ true
    → ((known_at Client log).confirmed ≡ true) ⊎ (has_received Server Handshake (before_last log) ≡ true)
