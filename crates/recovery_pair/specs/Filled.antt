-- A probe has items if one of these has (RFC 9002, 6.2.4): the retransmission queue, a packet in flight whose items no
-- probe took, or what waits longest.
use Rattle.std.specs.Prelude.{◌≡◌, ℕ, Bool, true, List, [], ◌∷◌, get_or, Option, None, Some, Result, Ok, if◌then◌else◌}
use Rattle.recovery_base.specs.declared.below.SpaceId.{SpaceId}
use Rattle.recovery_base.specs.Spaces.{same_space}
use Rattle.recovery_spaces.specs.Packets.{Packets}
use Rattle.recovery_spaces.specs.Spaces.{packets_of, space_of}
use Rattle.recovery_sender.specs.Senders.{state_in}
use Rattle.recovery_sender.specs.declared.sender.Sender.{Sender}
use Rattle.recovery_sender.specs.declared.sender.SenderError.{SenderError}
use Rattle.recovery_pair.specs.declared.endpoint.Outgoing.{Outgoing}
use Rattle.recovery_pair.specs.declared.endpoint.Waiting.{Waiting}
use Rattle.recovery_pair.specs.declared.steps.End.{End}
use Rattle.recovery_pair.specs.declared.steps.End.TheVariants.{Client, Server}
use Rattle.recovery_pair.specs.declared.steps.PairAnswer.{PairAnswer}
use Rattle.recovery_pair.specs.declared.steps.PairAnswer.TheVariants.{Sent}
use Rattle.recovery_pair.specs.declared.steps.PairStep.{PairStep}
use Rattle.recovery_pair.specs.declared.steps.PairStep.TheVariants.{Send}
use Rattle.recovery_pair.specs.Pasts.{HasPast}
use Rattle.recovery_pair.specs.Permits.{answer_of}
use Rattle.recovery_pair.specs.Promises.Repeats.{is_probe}

-- what waits longest in a space, if anything does
abbrev pub next_in : SpaceId → List Waiting → List ℕ
next_in space [] = []
next_in space (one ∷ all) = if same_space one.space space then one.queue else next_in space all

-- it has this place
abbrev pub IsNextAt : SpaceId → List Waiting → Option ℕ → Type 0
IsNextAt space all None = next_in space all ≡ []
IsNextAt space all (Some at) = (default : Waiting) → next_in space all ≡ (get_or all at default).queue

-- no packet has items
abbrev pub CarryNone : {M : Type 0} → Packets (List ℕ) M → Type 0
CarryNone [] = Unit {0}
CarryNone (entry ∷ packets) = (entry.1.retransmits ≡ []) × CarryNone packets

-- of one endpoint
abbrev pub AtEnd : {A : Type 0} → End → (A → Type 0) → A → A → Type 0
AtEnd Client Holds client server = Holds client
AtEnd Server Holds client server = Holds server

-- a call leaves all spaces as they are
abbrev pub KeepsSpaces : {F Q R C K S M P : Type 0} {f : _} {c : _} {q : _} {m : _} {r : _}
    → Sender F Q R C K S M P f c q m r → Sender F Q R C K S M P f c q m r → Type 0
KeepsSpaces old new = (space : SpaceId) → space_of space (state_in new).spaces ≡ space_of space (state_in old).spaces

module _ {F Q R C K S M : Type 0} {f : _} {c : _} {q : _} {m : _} {r : _} where
  -- in a space: the retransmission queue and the packets in flight have no items
  abbrev pub RepeatsNone : SpaceId → Sender F Q R C K S M (List ℕ) f c q m r → Type 0
  RepeatsNone space sender = let here = space_of space (state_in sender).spaces in
      (here.pending ≡ []) × CarryNone (packets_of here)

  -- if a probe has none, then these have none, nor has what waits longest in the space
  abbrev pub IsFilled : Bool → SpaceId → List ℕ → Sender F Q R C K S M (List ℕ) f c q m r × List Waiting → Type 0
  IsFilled probe space items here = probe ≡ true → items ≡ [] → HasPast here.0
      → RepeatsNone space here.0 × (next_in space here.1 ≡ [])

  abbrev pub FillsAnswer : SpaceId → Result PairAnswer SenderError
      → Sender F Q R C K S M (List ℕ) f c q m r × List Waiting → Type 0
  FillsAnswer space (Ok (Sent number items eliciting window ack)) =
      IsFilled (is_probe eliciting window) space items.items
  FillsAnswer space answer = λ here. Unit {0}

  abbrev pub FillsOutcome : SpaceId → Result Outgoing SenderError
      → Sender F Q R C K S M (List ℕ) f c q m r × List Waiting → Type 0
  FillsOutcome space outcome = FillsAnswer space (answer_of outcome)

  -- of an endpoint that sends
  abbrev pub FillsProbes : PairStep → Result PairAnswer SenderError
      → Sender F Q R C K S M (List ℕ) f c q m r × List Waiting
      → Sender F Q R C K S M (List ℕ) f c q m r × List Waiting → Type 0
  FillsProbes (Send end space now size) answer = AtEnd end (FillsAnswer space answer)
  FillsProbes step answer = λ client server. Unit {0}
