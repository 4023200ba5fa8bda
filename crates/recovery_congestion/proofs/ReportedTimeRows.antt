-- Worked rows: the room that the reported time needs, met and missed by one byte, computed. Nothing rests on them.
use Rattle.std.proofs.Common.{◌≡◌, ℕ, true, List, [], ◌∷◌, None, Some, refl, arith}
use Rattle.recovery_congestion.specs.ReportedTime.{HasRoom}
use Rattle.recovery_congestion.specs.PacerLog.{PacerEntry, asked, took, bucket_by}
use Rattle.recovery_congestion.specs.Pacing.{Bucket, PacerCall, bucket_made, paced, pacer_delay}

-- at an RTT of 4 ns, a window of 3 bytes and an MTU of 1; 256 bytes fit and 191 were sent
abbrev asks : ℕ → ℕ → PacerCall
asks bytes now = record { bytes = bytes; rtt = 4; mtu = 1; window = 3; now = now }

abbrev after : List PacerEntry → Bucket
after = bucket_by (bucket_made 4 3 1 0)

abbrev took_191 : List PacerEntry
took_191 = took 191 true ∷ asked (asks 191 0) ∷ []

-- 252 bytes and the 15 / 4 of four nanoseconds fit, and pass at the reported time
has_room : HasRoom (asks 252 0) 0 (paced (asks 252 0) (after took_191))
has_room = (omega arith, omega arith, omega arith)

until : pacer_delay (asks 252 0) (paced (asks 252 0) (after took_191)) ≡ Some 200
until = refl

passes : pacer_delay (asks 252 200) (paced (asks 252 200) (after (asked (asks 252 0) ∷ took_191))) ≡ None
passes = refl

-- 253 bytes do not fit in addition to them, and are delayed again
no_room : ¬ HasRoom (asks 253 0) 0 (paced (asks 253 0) (after took_191))
no_room room = omega (arith, room.2)

until_too : pacer_delay (asks 253 0) (paced (asks 253 0) (after took_191)) ≡ Some 200
until_too = refl

delayed_again : pacer_delay (asks 253 200) (paced (asks 253 200) (after (asked (asks 253 0) ∷ took_191))) ≡ Some 204
delayed_again = refl

-- each call in between may cost a byte: with two of them 251 bytes have no room, and are delayed again
abbrev sent_less : List PacerEntry
sent_less = took 251 true ∷ asked (asks 251 0) ∷ []

abbrev asked_thrice : List PacerEntry
asked_thrice = asked (asks 251 2) ∷ asked (asks 251 1) ∷ asked (asks 251 0) ∷ sent_less

no_room_behind_two : ¬ HasRoom (asks 251 0) 2 (paced (asks 251 0) (after sent_less))
no_room_behind_two room = omega (arith, room.2)

until_there : pacer_delay (asks 251 0) (paced (asks 251 0) (after sent_less)) ≡ Some 264
until_there = refl

delayed_behind_two : pacer_delay (asks 251 264) (paced (asks 251 264) (after asked_thrice)) ≡ Some 268
delayed_behind_two = refl
