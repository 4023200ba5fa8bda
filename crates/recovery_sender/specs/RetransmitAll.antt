-- The packets of a space that will not be acknowledged are all declared lost (RFC 9002, 6.3 and 6.4).
use Rattle.std.specs.Prelude.{◌≡◌, ◌≢◌, ℕ, ◌≤◌, ◌⊎◌, ◌↔◌, Bool, true, false, List, None, Some, Result, Ok, Err, [], ◌∷◌}
use Rattle.recovery_base.specs.declared.below.SpaceId.{SpaceId}
use Rattle.recovery_base.specs.Units.{u64_limit}
use Rattle.recovery_events.specs.declared.event.Refusal.TheVariants.{NoMemory, SpaceDiscarded}
use Rattle.recovery_spaces.specs.Discarded.{is_discarded}
use Rattle.recovery_spaces.specs.Packets.{Packet, Packets, packet_at}
use Rattle.recovery_losses.specs.Losses.{AreIncreasing, IsOneOf}
use Rattle.recovery_sender.specs.declared.sender.SenderError.{SenderError}
use Rattle.recovery_sender.specs.declared.sender.SenderError.TheVariants as refused
use Rattle.recovery_sender.specs.declared.sender.ends.Retransmitted.{Retransmitted}
use Rattle.recovery_sender.specs.declared.sender.Sender.{Sender}
use Rattle.recovery_losses.specs.Variables.{begun_anew}
use Rattle.recovery_sender.specs.Attempts.{LossAttempt, declared_in, is_cut_in, tried_in, trying}
use Rattle.recovery_sender.specs.Promises.Acked.{LosesWholeSpace}
use Rattle.recovery_sender.specs.Promises.Pasts.{ForEveryPast}
use Rattle.recovery_sender.specs.Senders.{state_in}
use Rattle.recovery_sender.specs.Spaces.{packets_in}
use Rattle.recovery_sender.specs.Steps.{TakesSteps, CompletesCall, loss_time}

-- no packet is tracked from a number on
abbrev pub HasNoneFrom : {P M : Type 0} → Packets P M → ℕ → Type 0
HasNoneFrom {P} {M} packets from =
    (number : ℕ) (packet : Packet P M) → packet_at packets number ≡ Some packet → from ≤ number → ⊥

-- a packet is tracked with this number, and none with a smaller one at or above `from`
pub record IsLeastFrom {P M : Type 0} (packets : Packets P M) (from number : ℕ) : Type 0 where
  pub tracked : packet_at packets number ≢ None
  pub from_on : from ≤ number
  pub least : (other : ℕ) (packet : Packet P M) → packet_at packets other ≡ Some packet → from ≤ other → number ≤ other

module _ {F Q R C K S M P : Type 0} {f : _} {c : _} {q : _} {m : _} {r : _} (space : SpaceId)
    (old : Sender F Q R C K S M P f c q m r) where
  -- each packet of the space is tried once, in the order of the numbers
  pub record TriesAllTracked (numbers : List ℕ) (is_cut : Bool) (new : Sender F Q R C K S M P f c q m r) : Type 0 where
    pub attempts : List LossAttempt
    pub rising : AreIncreasing 0 (tried_in attempts) u64_limit
    pub each : (number : ℕ) → IsOneOf number (tried_in attempts)
        ↔ (packet_at (packets_in (state_in old) space) number ≢ None)
    pub declared : numbers ≡ declared_in attempts
    pub cut : is_cut ≡ is_cut_in attempts
    pub goes : TakesSteps (trying space attempts) old new

  -- All are declared lost, by the events before too, except those for which allocation failed, and the space has no
  -- loss time. Or nothing changes, for a discarded space or for want of memory.
  abbrev pub DeclaresAllLost : ℕ → Sender F Q R C K S M P f c q m r → Result Retransmitted SenderError → Type 0
  DeclaresAllLost now new (Ok all) = (is_discarded space (state_in old).discarded ≡ false)
      × (between : Sender F Q R C K S M P f c q m r) × TriesAllTracked all.numbers.items all.is_cut between
      × ForEveryPast old (LosesWholeSpace space all)
      × CompletesCall (loss_time space None ∷ []) (begun_anew space now old.variables) between new
  DeclaresAllLost now new (Err refusal) = (new ≡ old)
      × ((refusal ≡ refused.Event SpaceDiscarded) × (is_discarded space (state_in old).discarded ≡ true)
      ⊎ (refusal ≡ refused.Event NoMemory) × (is_discarded space (state_in old).discarded ≡ false))
