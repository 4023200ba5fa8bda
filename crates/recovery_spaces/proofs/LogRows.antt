-- Worked rows of what happened in a space, each computed: the newest entry comes first. Nothing rests on them.
use Rattle.std.proofs.Common.{◌≡◌, ℕ, Bool, true, false, List, [], ◌∷◌, ◌++◌, None, Some, refl}
use Rattle.recovery_base.specs.declared.below.SpaceId.{SpaceId}
use Rattle.recovery_base.specs.declared.below.SpaceId.TheVariants.{Data}
use Rattle.recovery_queue.specs.Queues.{QueueSemantics}
use Rattle.recovery_spaces.specs.Acks.{counts_by}
use Rattle.recovery_spaces.specs.InFlight.{in_flight}
use Rattle.recovery_spaces.specs.Kept.{largest_acknowledged, last_eliciting_sent, probes_by}
use Rattle.recovery_spaces.specs.Packets.{Packet, Packets}
use Rattle.recovery_spaces.specs.Probes.{ProbeFound, probe_found}
use Rattle.recovery_spaces.specs.Queued.{has_other, queued_by}
use Rattle.recovery_spaces.specs.SpaceLog.{SpaceEntry, heard, heard_again, sends, acknowledged, loses, probes, takes_pending, ack_goes}
use Rattle.recovery_spaces.specs.Tracked.{packet_sent, sent_by}

abbrev is_nil : List ℕ → Bool
is_nil [] = true
is_nil (n ∷ rest) = false

-- contents that are lists of numbers, joined end to end
abbrev words : QueueSemantics (List ℕ) (Unit {0})
words = record { empty = []; joined = λ first last. first ++ last; is_empty = λ contents streams. is_nil contents }

-- an ack-eliciting packet of 500 bytes at 7, and a non-ack-eliciting one of 40 bytes at 8, on the first path; 30 and 31
-- are stored with them
abbrev first : Packet (List ℕ) ℕ
first = packet_sent 0 7 500 true None (1 ∷ 2 ∷ []) 30

abbrev second : Packet (List ℕ) ℕ
second = packet_sent 0 8 40 false (Some 3) [] 31

-- what a probe finds: the retransmission queue, a packet, or nothing
abbrev pending_stands : ProbeFound
pending_stands = record { moved = None; nothing = false }

abbrev moves : ℕ → ProbeFound
moves number = record { moved = Some number; nothing = false }

abbrev nothing_found : ProbeFound
nothing_found = record { moved = None; nothing = true }

abbrev both_sent : List (SpaceEntry (List ℕ) ℕ)
both_sent = sends 1 second ∷ sends 0 first ∷ []

sent_by-both : (sent_by words both_sent).tracked ≡ (0, first) ∷ (1, second) ∷ []
sent_by-both = refl

sent_by-one_lost : (sent_by words (loses 0 ∷ both_sent)).tracked ≡ (1, second) ∷ []
sent_by-one_lost = refl

sent_by-next : (sent_by words (loses 0 ∷ both_sent)).next ≡ 2
sent_by-next = refl

sent_by-last : (sent_by words both_sent).last ≡ Some 0
sent_by-last = refl

-- a number that is skipped counts as assigned
sent_by-skipped : (sent_by words (sends 4 first ∷ both_sent)).next ≡ 5
sent_by-skipped = refl

abbrev pending_by : List (SpaceEntry (List ℕ) ℕ) → List ℕ
pending_by log = (queued_by words log).pending

-- the first is lost, or a probe finds it
pending_by-lost : pending_by (loses 0 ∷ both_sent) ≡ 1 ∷ 2 ∷ []
pending_by-lost = refl

pending_by-moved : pending_by (loses 0 ∷ probes false (moves 0) ∷ both_sent) ≡ 1 ∷ 2 ∷ []
pending_by-moved = refl

pending_by-taken : pending_by (takes_pending ∷ loses 0 ∷ both_sent) ≡ []
pending_by-taken = refl

probe_found-first : probe_found words tt (pending_by both_sent) (sent_by words both_sent).tracked ≡ moves 0
probe_found-first = refl

probe_found-nothing : probe_found words tt [] (sent_by words (probes false (moves 0) ∷ both_sent)).tracked
    ≡ nothing_found
probe_found-nothing = refl

probe_found-pending : probe_found {M = ℕ} words tt (pending_by (loses 0 ∷ both_sent)) [] ≡ pending_stands
probe_found-pending = refl

-- a PING is requested only if no immediate ACK is
abbrev marks_by : List (SpaceEntry (List ℕ) ℕ) → Bool × Bool
marks_by log = ((queued_by words log).ping, (queued_by words log).immediate)

marks_by-ping : marks_by (probes false nothing_found ∷ both_sent) ≡ (true, false)
marks_by-ping = refl

marks_by-immediate : marks_by (probes false nothing_found ∷ probes true nothing_found ∷ both_sent)
    ≡ (false, true)
marks_by-immediate = refl

probes_by-two : probes_by (probes false nothing_found ∷ probes true nothing_found ∷ both_sent) ≡ 2
probes_by-two = refl

has_other-marked : has_other words tt (queued_by words (probes true (moves 0) ∷ both_sent)) ≡ true
has_other-marked = refl

-- both are in flight, and one of them is ack-eliciting
in_data : List (SpaceEntry (List ℕ) ℕ) → SpaceId → Packets (List ℕ) ℕ
in_data log Data = (sent_by words log).tracked
in_data log other = []

in_flight-both : in_flight 0 (in_data both_sent) ≡ record { bytes = 540; ack_eliciting = 1 }
unfolding in_data
in_flight-both = refl

in_flight-other_path : in_flight 1 (in_data both_sent) ≡ record { bytes = 0; ack_eliciting = 0 }
unfolding in_data
in_flight-other_path = refl

-- the largest acknowledged number, and when its packet was sent
largest_acknowledged-none : largest_acknowledged words 5 both_sent ≡ (None, 5)
largest_acknowledged-none = refl

largest_acknowledged-second : largest_acknowledged words 5 (acknowledged 0 ∷ acknowledged 1 ∷ both_sent)
    ≡ (Some 1, 8)
largest_acknowledged-second = refl

last_eliciting_sent-both : last_eliciting_sent both_sent ≡ Some 7
last_eliciting_sent-both = refl

-- packets 4 and 9 were received, then 9 again, and an ACK was sent; then 6 was received
abbrev came_in : List (SpaceEntry (List ℕ) ℕ)
came_in = heard 3 6 false ∷ ack_goes ∷ heard_again 9 ∷ heard 2 9 true ∷ heard 1 4 true ∷ []

counts_by-row : counts_by came_in ≡ record {
  eliciting = 0;
  silent = 1;
  thresholds = (1, 1);
  largest = Some (9, 2);
  greatest = Some 9;
  acknowledged = Some 9;
}
counts_by-row = refl
