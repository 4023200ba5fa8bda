-- Which packets are lost, when the next one is lost, and what follows (RFC 9002, 6.1, 7.6 and A.10).
use Rattle.std.specs.Prelude.{◌≡◌, ◌≢◌, ℕ, ◌+◌, ◌-◌, ◌<◌, ◌≤◌, ◌⊎◌, ◌&&◌, ◌||◌, ◌==◌, min, max, nat_lt, nat_le, Bool, true, false, List, [], ◌∷◌, filter, length, Option, None, Some, if◌then◌else◌}
use Rattle.std.specs.Option.{ForSome, option_map_or}
use Rattle.recovery_base.specs.declared.below.SpaceId.{SpaceId}
use Rattle.recovery_base.specs.Spaces.{same_space}
use Rattle.recovery_base.specs.Timers.{earlier_of}
use Rattle.recovery_base.specs.Units.{largest_u64, last_time}
use Rattle.recovery_queue.specs.Slots.{is_below}
use Rattle.recovery_spaces.specs.Packets.{Packet, Packets, packet_at, without}
use Rattle.recovery_losses.specs.declared.looks.Candidate.{Candidate}
use Rattle.recovery_losses.specs.declared.looks.FirstSample.{FirstSample}
use Rattle.recovery_losses.specs.declared.looks.FirstSample.TheVariants.{Elsewhere, InSpace, Missing}
use Rattle.recovery_losses.specs.declared.looks.LossPass.{LossPass}
use Rattle.recovery_losses.specs.declared.tally.Run.{Run}
use Rattle.recovery_losses.specs.declared.tally.Tally.{Tally}

-- ---- numbers

abbrev pub IsOneOf : ℕ → List ℕ → Type 0
IsOneOf number [] = ⊥
IsOneOf number (first ∷ numbers) = (first ≡ number) ⊎ IsOneOf number numbers

-- numbers are increasing, at least `first`, and below `end`
abbrev pub AreIncreasing : ℕ → List ℕ → ℕ → Type 0
AreIncreasing first [] end = first ≤ end
AreIncreasing first (number ∷ numbers) end = (first ≤ number) × AreIncreasing (number + 1) numbers end

-- ---- which are lost (RFC 9002, 6.1)

-- how a path's mark, the first packet after an RTT sample, divides the packets of a space: in the mark's space by
-- number, in another space by the time of that sample (RFC 9002, 7.6.2 and B.8)
abbrev pub first_sample_in : Option (SpaceId × ℕ) → ℕ → SpaceId → FirstSample
first_sample_in None sampled space = Missing
first_sample_in (Some mark) sampled space = if same_space mark.0 space then InSpace mark.1 else Elsewhere sampled

-- a packet was sent after the first RTT sample
abbrev pub is_after_sample : FirstSample → ℕ → ℕ → Bool
is_after_sample Missing number sent = false
is_after_sample (InSpace first) number sent = nat_le first number
is_after_sample (Elsewhere sampled) number sent = nat_lt sampled sent

-- when a packet sent at this time is lost by its age (RFC 9002, 6.1.2), capped at the last time of the clock
abbrev pub lost_at : LossPass → ℕ → ℕ
lost_at look sent = min (sent + look.delay) last_time

-- a number was skipped between two others, so that no packet has it (RFC 9000, 21.4)
abbrev pub is_skipped_between : Option ℕ → ℕ → ℕ → Bool
is_skipped_between None low high = false
is_skipped_between (Some skipped) low high = nat_lt low skipped && nat_lt skipped high

-- how many packets were sent after this number, up to the largest acknowledged one
abbrev pub packets_after : LossPass → ℕ → ℕ
packets_after look number =
    look.largest - number - (if is_skipped_between look.skipped number look.largest then 1 else 0)

-- enough packets were sent after it, up to the largest acknowledged one, or it was sent long enough ago (RFC 9002,
-- 6.1.1 and 6.1.2)
abbrev pub IsLost : LossPass → ℕ → ℕ → Type 0
IsLost look number sent = (look.packet_threshold ≤ packets_after look number) ⊎ (lost_at look sent ≤ look.at)

-- when a packet is due: once it is lost by its age, or now, if it is lost and allocation failed
abbrev pub IsDueAt : LossPass → ℕ → ℕ → ℕ → Type 0
IsDueAt look number sent time = ((¬ IsLost look number sent) × (time ≡ lost_at look sent))
    ⊎ (IsLost look number sent × (time ≡ look.at))

-- a packet with a size, sent on the path in use: its loss indicates congestion (RFC 9002, 7; RFC 9000, 9.4)
abbrev pub is_counted : LossPass → ℕ → ℕ → Bool
is_counted look size generation = nat_lt 0 size && (generation == look.generation)

-- the later of two times, if any
abbrev pub later_of : Option ℕ → Option ℕ → Option ℕ
later_of None second = second
later_of (Some first) None = Some first
later_of (Some first) (Some second) = Some (max first second)

-- the packets except those with these numbers
abbrev pub without_all : {P M : Type 0} → Packets P M → List ℕ → Packets P M
without_all packets [] = packets
without_all packets (number ∷ numbers) = without_all (without packets number) numbers

-- how many packets are tracked below a number
abbrev pub count_below : {P M : Type 0} → ℕ → Packets P M → ℕ
count_below end packets = length (filter (is_below end) packets)

module _ {P M : Type 0} (look : LossPass) (packets : Packets P M) where
  -- tracked below the largest acknowledged
  abbrev pub IsBelow : ℕ → Packet P M → Type 0
  IsBelow number packet = (packet_at packets number ≡ Some packet) × (number < look.largest)

  -- and lost
  abbrev pub IsLostBelow : ℕ → Type 0
  IsLostBelow number = (packet : Packet P M) × IsBelow number packet × IsLost look number packet.time_sent

  -- the bytes of the packets that count
  abbrev pub size_counted : Option (Packet P M) → ℕ
  size_counted None = 0
  size_counted (Some packet) = if is_counted look packet.size packet.path_generation then packet.size else 0

  abbrev pub bytes_counted : List ℕ → ℕ
  bytes_counted [] = 0
  bytes_counted (number ∷ numbers) = size_counted (packet_at packets number) + bytes_counted numbers

  -- when the last packet that counts was sent, if any
  abbrev pub sent_counted : Option (Packet P M) → Option ℕ
  sent_counted None = None
  sent_counted (Some packet) =
      if is_counted look packet.size packet.path_generation then Some packet.time_sent else None

  abbrev pub last_counted : List ℕ → Option ℕ
  last_counted [] = None
  last_counted (number ∷ numbers) = later_of (sent_counted (packet_at packets number)) (last_counted numbers)

  -- one of these packets counts
  abbrev pub HasCounted : List ℕ → Type 0
  HasCounted numbers = (number : ℕ) × (packet : Packet P M) × IsOneOf number numbers
      × (packet_at packets number ≡ Some packet) × (is_counted look packet.size packet.path_generation ≡ true)

  -- the earliest time at which a packet below `end` that was not declared lost is due, if any
  pub record IsEarliest (end : ℕ) (IsDeclaredLost : ℕ → Type 0) (time : Option ℕ) : Type 0 where
    pub one : ForSome time (λ least. (number : ℕ) × (packet : Packet P M) × IsBelow number packet × (number < end)
        × (IsDeclaredLost number → ⊥) × IsDueAt look number packet.time_sent least)
    pub least : (number : ℕ) (packet : Packet P M) (due : ℕ) → IsBelow number packet → number < end
        → (IsDeclaredLost number → ⊥) → IsDueAt look number packet.time_sent due → (t : ℕ) × (time ≡ Some t) × (t ≤ due)

-- when the first of the packets that are tracked below a number was sent, if any
pub record IsEarliestSent {P M : Type 0} (packets : Packets P M) (end : ℕ) (time : Option ℕ) : Type 0 where
  pub one : ForSome time (λ least. (number : ℕ) × (packet : Packet P M) × (packet_at packets number ≡ Some packet)
      × (number < end) × (packet.time_sent ≡ least))
  pub least : (number : ℕ) (packet : Packet P M) → packet_at packets number ≡ Some packet → number < end
      → (t : ℕ) × (time ≡ Some t) × (t ≤ packet.time_sent)

-- the numbers that are declared lost: increasing, each of them lost, and none the MTU probe
pub record AreLost {P M : Type 0} (look : LossPass) (packets : Packets P M) (end : ℕ) (numbers : List ℕ) : Type 0 where
  pub rising : AreIncreasing 0 numbers end
  pub lost : (number : ℕ) → IsOneOf number numbers → IsLostBelow look packets number × (look.probe ≢ Some number)

-- ---- how a pass proceeds from packet to packet

-- a candidate is the packet of its number
pub record IsCandidateOf {P M : Type 0} (packet : Packet P M) (candidate : Candidate) : Type 0 where
  pub time_sent : candidate.time_sent ≡ packet.time_sent
  pub size : candidate.size ≡ packet.size
  pub ack_eliciting : candidate.ack_eliciting ≡ packet.ack_eliciting
  pub path_generation : candidate.path_generation ≡ packet.path_generation

-- the first packet below the largest acknowledged, at or above a number
pub record IsNextLossCandidate {P M : Type 0} (look : LossPass) (packets : Packets P M) (from : ℕ)
    (candidate : Candidate) : Type 0 where
  pub packet : Packet P M
  pub is : IsCandidateOf packet candidate
  pub below : IsBelow look packets candidate.number packet
  pub from_on : from ≤ candidate.number
  pub first : (number : ℕ) (other : Packet P M) → packet_at packets number ≡ Some other → from ≤ number
      → candidate.number ≤ number

-- there is none
abbrev pub NoneFrom : {P M : Type 0} → LossPass → Packets P M → ℕ → Type 0
NoneFrom {P} {M} look packets from =
    (number : ℕ) (packet : Packet P M) → IsBelow look packets number packet → from ≤ number → ⊥

-- the result so far, if a packet becomes lost at this time
abbrev pub waiting : ℕ → Tally → Tally
waiting time tally = record tally { loss_time = earlier_of tally.loss_time (Some time) }

-- the result so far, if allocation failed for a lost packet: it is due again at once
abbrev pub cutting : LossPass → Tally → Tally
cutting look tally = record (waiting look.at tally) { is_cut = true }

-- a number continues a run: it directly follows the last one, or only the skipped number lies between
abbrev pub follows : Option ℕ → Option ℕ → ℕ → Bool
follows skipped None number = false
follows None (Some last) number = last + 1 == number
follows (Some skipped) (Some last) number = last + 1 == number || (last + 1 == skipped && skipped + 1 == number)

-- a number is lost: it continues the run, or begins one
abbrev pub going_on : LossPass → ℕ → Run → Run
going_on look number run = record {
  previous = Some number;
  oldest = (if follows look.skipped run.previous number then run.oldest else None);
  is_persistent = run.is_persistent;
}

-- a packet with which persistent congestion may begin or end (RFC 9002, 7.6.2)
abbrev pub is_end : LossPass → ℕ → ℕ → Bool → Bool
is_end look number sent eliciting = eliciting && is_after_sample look.first_sample number sent

-- such a packet of the run was sent at this time: congestion is persistent if the oldest one was sent more than the
-- period before
abbrev pub ending : LossPass → ℕ → Run → Run
ending look sent run = record run {
  oldest = Some (option_map_or (λ oldest. min oldest sent) run.oldest sent);
  is_persistent = run.is_persistent || option_map_or (λ oldest. nat_lt look.period (sent - oldest)) run.oldest false;
}

-- if the MTU probe is lost
abbrev pub finding_probe : LossPass → Candidate → Tally → Tally
finding_probe look packet tally = record tally { probe = look.probe; run = going_on look packet.number tally.run }

-- if a packet was declared lost
abbrev pub counting : LossPass → Candidate → Tally → Tally
counting look packet tally = let run = going_on look packet.number tally.run in
    if is_counted look packet.size packet.path_generation then record tally {
      last_sent = later_of tally.last_sent (Some packet.time_sent);
      bytes = min (tally.bytes + packet.size) largest_u64;
      run = (if is_end look packet.number packet.time_sent packet.ack_eliciting then ending look packet.time_sent run
          else run);
    } else record tally { run = run }

-- a number was declared lost, or is that of the MTU probe, which is declared lost last
abbrev pub IsDeclaredLost : List ℕ → Option ℕ → ℕ → Type 0
IsDeclaredLost numbers probe number = IsOneOf number numbers ⊎ (probe ≡ Some number)

abbrev pub no_run : Run
no_run = record { previous = None; oldest = None; is_persistent = false }

abbrev pub nothing_found : Tally
nothing_found = record {
  loss_time = None;
  probe = None;
  last_sent = None;
  bytes = 0;
  run = no_run;
  is_cut = false;
}
