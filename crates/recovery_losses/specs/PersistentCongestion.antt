-- Persistent congestion (RFC 9002, 7.6), by the packets that are lost now.
use Rattle.std.specs.Prelude.{◌≡◌, ℕ, ◌-◌, ◌<◌, ◌≤◌, ◌⊎◌, IsTrue, Decides, List, Option, Some}
use Rattle.recovery_spaces.specs.Packets.{Packet, Packets, packet_at}
use Rattle.recovery_losses.specs.declared.looks.LossPass.{LossPass}
use Rattle.recovery_losses.specs.declared.tally.Run.{Run}
use Rattle.recovery_losses.specs.Losses.{IsOneOf, is_counted, is_end}

-- a packet that was declared lost may begin or end persistent congestion: it counts, is ack-eliciting, was sent after
-- the first RTT sample, and was sent at this time (RFC 9002, 7.6.2)
pub record IsEndAt {P M : Type 0} (look : LossPass) (packets : Packets P M) (numbers : List ℕ)
    (number sent : ℕ) : Type 0
  where
    pub told : IsOneOf number numbers
    pub packet : Packet P M
    pub is : packet_at packets number ≡ Some packet
    pub counts : IsTrue (is_counted look packet.size packet.path_generation)
    pub ends : IsTrue (is_end look number packet.time_sent packet.ack_eliciting)
    pub sent_then : packet.time_sent ≡ sent

-- a number is lost now, or was skipped, so that no packet has it (RFC 9000, 21.4)
abbrev pub IsLostOrSkipped : (ℕ → Type 0) → Option ℕ → ℕ → Type 0
IsLostOrSkipped IsLostNow skipped number = IsLostNow number ⊎ (skipped ≡ Some number)

-- two such packets, the higher sent more than `period` after the lower, with all packets between them lost now
pub record IsPersistentCongestion (IsLostNow : ℕ → Type 0) (IsEnd : ℕ → ℕ → Type 0) (skipped : Option ℕ)
    (period : ℕ) : Type 0
  where
    pub first : ℕ
    pub last : ℕ
    pub first_sent : ℕ
    pub last_sent : ℕ
    pub rises : first < last
    pub begins : IsEnd first first_sent
    pub ends : IsEnd last last_sent
    pub between : (number : ℕ) → first ≤ number → number ≤ last → IsLostOrSkipped IsLostNow skipped number
    pub long : period < last_sent - first_sent

-- the result for the numbers below `end`, in a run of numbers that are lost now
module _ (IsLostNow : ℕ → Type 0) (IsEnd : ℕ → ℕ → Type 0) (skipped : Option ℕ) (period end : ℕ) (run : Run) where
  -- all numbers from this one to the last lost one are lost or skipped
  abbrev pub IsInRun : ℕ → Type 0
  IsInRun number = (last : ℕ) → run.previous ≡ Some last → (other : ℕ) → number ≤ other → other ≤ last
      → IsLostOrSkipped IsLostNow skipped other

  pub record IsLossRun : Type 0 where
    pub previous : (last : ℕ) → run.previous ≡ Some last → IsLostNow last × (last < end)
    pub last : (number : ℕ) → IsLostNow number → (last : ℕ) × (run.previous ≡ Some last) × (number ≤ last)
    pub told : (number sent : ℕ) → IsEnd number sent → IsLostNow number
    pub one : (time : ℕ) → run.oldest ≡ Some time → (number : ℕ) × IsEnd number time × IsInRun number
    pub oldest : (number sent : ℕ) → IsEnd number sent → IsInRun number
        → (time : ℕ) × (run.oldest ≡ Some time) × (time ≤ sent)
    pub persists : Decides run.is_persistent (IsPersistentCongestion IsLostNow IsEnd skipped period)
