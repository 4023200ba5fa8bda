-- The detection of black holes over all calls and answers of a discovery (RFC 8899, 4.3). Every list here has the
-- newest entry first.
use Rattle.std.specs.Prelude.{◌≡◌, ℕ, ◌+◌, ◌≤◌, ◌==◌, nat_lt, nat_eq, Bool, true, false, ◌||◌, if◌then◌else◌, Option, is_some, List, [], ◌∷◌, ◌++◌, drop, length, filter, ◌-◌}
use Rattle.std.specs.List.{list_all, list_any}
use Rattle.std.specs.Set.{is_member}
use Rattle.recovery_mtud.specs.Discovery.{Discovery}
use Rattle.recovery_mtud.specs.MtuEntries.{MtuEntry, acked, lost, losses_over, reported, reset, MtuProbe, probe_in_flight, size_at, min_mtu_in_use}
use Rattle.recovery_mtud.specs.Bursts.{black_hole_bursts}

-- ---- bursts: 1-RTT packets with consecutive numbers that were lost, none of them the probe in flight

pub record Loss : Type 0 where
  pub number : ℕ
  pub bytes : ℕ

abbrev pub follows : ℕ → List Loss → Bool
follows number [] = false
follows number (last ∷ burst) = number == last.number + 1

-- the open burst: the longest run of consecutive numbers up to the one lost last, since the last end of a loss
-- detection pass or restart
abbrev pub open_run : List MtuEntry → List Loss
open_run [] = []
open_run (lost number bytes ∷ earlier) =
    record { number = number; bytes = bytes } ∷ (if follows number (open_run earlier) then open_run earlier else [])
open_run (losses_over ∷ earlier) = []
open_run (reported now ∷ earlier) = []
open_run (reset mtu min_mtu ∷ earlier) = []
open_run (entry ∷ earlier) = open_run earlier

-- the burst that an entry closes, empty if none was open: a lost number that does not follow closes it, and so does the
-- end of a loss detection pass
abbrev pub closed_by : MtuEntry → List MtuEntry → List (List Loss)
closed_by (lost number bytes) earlier = if follows number (open_run earlier) then [] else open_run earlier ∷ []
closed_by losses_over earlier = open_run earlier ∷ []
closed_by (reported now) earlier = open_run earlier ∷ []
closed_by entry earlier = []

-- it is not empty, and all its packets are larger than this
abbrev pub is_above : ℕ → List Loss → Bool
is_above size [] = false
is_above size burst = list_all (λ loss. nat_lt size loss.bytes) burst

-- ---- bursts that have closed

-- an acknowledged packet refutes the bursts before it whose smallest packet is not larger; the probe in flight refutes
-- all of them
abbrev pub unrefuted : ℕ → ℕ → Option MtuProbe → List (List Loss) → List (List Loss)
unrefuted number bytes probe bursts = if is_some (size_at number probe) then [] else filter (is_above bytes) bursts

-- those that closed since the last report or reset, and were not refuted since
abbrev pub standing : List MtuEntry → List (List Loss)
standing [] = []
standing (acked number bytes ∷ earlier) = unrefuted number bytes (probe_in_flight earlier) (standing earlier)
standing (reported now ∷ earlier) = []
standing (reset mtu min_mtu ∷ earlier) = []
standing (entry ∷ earlier) = closed_by entry earlier ++ standing earlier

-- ---- numbers

abbrev pub acked_numbers : List MtuEntry → List ℕ
acked_numbers [] = []
acked_numbers (acked number bytes ∷ earlier) = number ∷ acked_numbers earlier
acked_numbers (entry ∷ earlier) = acked_numbers earlier

-- without those of probes
abbrev pub lost_numbers : List MtuEntry → List ℕ
lost_numbers [] = []
lost_numbers (lost number bytes ∷ earlier) = number ∷ lost_numbers earlier
lost_numbers (entry ∷ earlier) = lost_numbers earlier

-- no number is reported both as acknowledged and as lost
abbrev pub AreFatesApart : List MtuEntry → Type 0
AreFatesApart entries =
    (number : ℕ) → is_member nat_eq (acked_numbers entries) number ≡ true
    → is_member nat_eq (lost_numbers entries) number ≡ false

-- the last number of the burst exceeds all of these
abbrev pub is_past : List ℕ → List Loss → Bool
is_past numbers [] = false
is_past numbers (last ∷ burst) = list_all (λ number. nat_lt number last.number) numbers

-- ---- larger packets that were acknowledged

-- the probe in flight is one, and so is a packet larger than this
abbrev pub is_larger : ℕ → ℕ → ℕ → Option MtuProbe → Bool
is_larger size number bytes probe = is_some (size_at number probe) || nat_lt size bytes

module _ (size : ℕ) where
  abbrev pub larger_acked : List MtuEntry → List ℕ
  larger_acked [] = []
  larger_acked (acked number bytes ∷ earlier) =
      if is_larger size number bytes (probe_in_flight earlier) then number ∷ larger_acked earlier else larger_acked
      earlier
  larger_acked (entry ∷ earlier) = larger_acked earlier

  -- the bursts that closed since the last report, reset or acknowledgement of a larger packet
  abbrev pub unanswered : List MtuEntry → List (List Loss)
  unanswered [] = []
  unanswered (acked number bytes ∷ earlier) =
      if is_larger size number bytes (probe_in_flight earlier) then [] else unanswered earlier
  unanswered (reported now ∷ earlier) = []
  unanswered (reset mtu min_mtu ∷ earlier) = []
  unanswered (entry ∷ earlier) = closed_by entry earlier ++ unanswered earlier

-- ---- reports: they are made at the end of a loss detection pass, which closes the open burst

module _ (made : Discovery) where
  -- there are four unrefuted bursts whose packets are all larger than the minimum MTU
  abbrev pub AreFourStanding : List MtuEntry → Type 0
  AreFourStanding entries =
      black_hole_bursts ≤ length (filter (is_above (min_mtu_in_use made entries)) (open_run entries ∷ standing entries))

  -- such a burst ends above every larger packet that was acknowledged; three more have closed after it, and no larger
  -- packet was acknowledged since it closed
  abbrev pub AreFourUnanswered : List MtuEntry → Type 0
  AreFourUnanswered entries =
      let least = min_mtu_in_use made entries in
      let bursts = filter (is_above least) (open_run entries ∷ unanswered least entries) in
      list_any (is_past (larger_acked least entries)) (drop (black_hole_bursts - 1) bursts) ≡ true
