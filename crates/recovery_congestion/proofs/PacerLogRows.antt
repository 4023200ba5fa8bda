-- A worked row: the results of one pacer's history, computed. Nothing rests on it.
use Rattle.std.proofs.Common.{◌≡◌, ℕ, zero, suc, ◌-◌, ◌*◌, true, List, [], ◌∷◌, Some, refl, arith}
use Rattle.recovery_congestion.specs.Pacing.{Bucket, PacerCall, bucket_made, next_moment, paced, pacer_delay}
use Rattle.recovery_congestion.specs.PacerLog.{PacerEntry, asked, took, bucket_by, AreChecked, PacerMark, bytes_in, capacity_in, greatest_moment, balance_in, marks_by, marks_asking}

-- at an RTT of 333 ms, a window of 12,000 bytes and an MTU of 1,200
abbrev asks : ℕ → PacerCall
asks now = record { bytes = 1_200; rtt = 333_000_000; mtu = 1_200; window = 12_000; now = now }

abbrev made : Bucket
made = bucket_made 333_000_000 12_000 1_200 0

-- this many packets are checked and sent at one time
abbrev sends : ℕ → ℕ → List PacerEntry → List PacerEntry
sends zero now earlier = earlier
sends (suc count) now earlier = took 1_200 true ∷ asked (asks now) ∷ sends count now earlier

-- ten packets; the eleventh is delayed; ten more at the reported time
abbrev first_ten : List PacerEntry
first_ten = sends 10 0 []

abbrev all_twenty : List PacerEntry
all_twenty = sends 10 266_400_000 (asked (asks 0) ∷ first_ten)

-- after them one more is delayed
abbrev history : List PacerMark
history = marks_by made (asked (asks 266_400_000) ∷ all_twenty)

-- the row satisfies the premise
sends_checked : (count now : ℕ) (earlier : List PacerEntry) → AreChecked earlier → AreChecked (sends count now earlier)
sends_checked zero now earlier checked = checked
sends_checked (suc count) now earlier checked =
    (refl, ((omega arith, omega arith), sends_checked count now earlier checked))

all_checked : AreChecked (asked (asks 266_400_000) ∷ all_twenty)
all_checked = (
  (omega arith, omega arith),
  sends_checked 10 266_400_000 (asked (asks 0) ∷ first_ten)
      ((omega arith, omega arith), sends_checked 10 0 [] tt),
)

-- until when a call is delayed, by the balance
abbrev moment_by : PacerCall → List PacerMark → ℕ
moment_by call past = next_moment call (capacity_in made past) (balance_in made past) (greatest_moment made past)

first_moment : moment_by (asks 0) (marks_asking made (asks 0) (marks_by made first_ten)) ≡ 266_400_000
unfolding balance_in
first_moment = refl

second_balance : balance_in made history ≡ 0
unfolding balance_in
second_balance = refl

second_moment : moment_by (asks 266_400_000) (marks_asking made (asks 266_400_000) (marks_by made all_twenty))
    ≡ 532_800_000
unfolding balance_in
second_moment = refl

second_delay : pacer_delay (asks 266_400_000) (paced (asks 266_400_000) (bucket_by made all_twenty)) ≡ Some 532_800_000
second_delay = refl

-- from the making the bound is met with equality, at this RTT, this window and the last time
rate_met : 4 * 333_000_000 * (bytes_in history - made.capacity) ≡ 5 * 12_000 * (266_400_000 - made.last)
unfolding balance_in
rate_met = refl

rate_is : 4 * 333_000_000 * (bytes_in history - made.capacity) ≡ 15_984_000_000_000
unfolding balance_in
rate_is = refl
