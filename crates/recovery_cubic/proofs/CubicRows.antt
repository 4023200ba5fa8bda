-- Worked rows: a loss at a window of 120,000 bytes with datagrams of 1,200, and what is acknowledged after it. Nothing
-- rests on them.
use Rattle.std.proofs.Common.{◌≡◌, true, false, [], ◌∷◌, None, Some, refl, lit<, lit≤, arith}
use Rattle.recovery_congestion.specs.Calls.{ControllerCall, acks, congests, ends_acks, sends, takes_mtu}
use Rattle.recovery_congestion.specs.Controllers.{ControllerSemantics}
use Rattle.recovery_congestion.specs.Rounds.{ReducesOncePerRound}
use Rattle.recovery_congestion.specs.Rtt.{Rtt}
use Rattle.recovery_cubic.specs.declared.cubic.Cubic.{Cubic}
use Rattle.recovery_cubic.specs.Cubic.{cubic_after, cubic_made, cubic_recovering, cubic_words}
use Rattle.recovery_cubic.specs.Curve.{micros, IsGreatestK}
use Rattle.recovery_cubic.specs.Growth.{ContinuesEpochThrough, floor_by}
use Rattle.recovery_cubic.specs.History.{window_by}
use Rattle.recovery_cubic.specs.RealCurve.{IsNearReal}
use Rattle.recovery_cubic.specs.Epochs.{BeginsEpoch, time_by, curve_of, curve_then}
use Rattle.recovery_cubic.proofs.FollowingLaws.{goes_to_curve, real_curve}

abbrev rtt : Rtt
rtt = record { latest = 0; smoothed = None; variance = 0; least = 0 }

-- a loss at one second, an acknowledgement a second later, and one long after it, application-limited
abbrev loss : ControllerCall
loss = congests 1_000_000_000 1 false 1_200

abbrev acked : ControllerCall
acked = acks 2_000_000_000 1_500_000_000 84_000 false rtt

abbrev limited : ControllerCall
limited = acks 100_000_000_000 1_500_000_000 84_000 true rtt

-- 30 datagrams are missing: K is the cube root of 75, 4.217163 seconds
k_is : IsGreatestK micros 1_200 36_000 4_217_163
k_is = record { fits = lit≤ tt; greatest = lit< tt }

k_above_is_wrong : ¬ IsGreatestK micros 1_200 36_000 4_217_164
k_above_is_wrong k = let fits = k.fits in omega (arith, fits)

falls : window_by 120_000 0 1_200 (loss ∷ []) ≡ 84_000
falls = refl

begins : BeginsEpoch 120_000 0 1_200 loss [] 4_217_163
begins = record {
  moment = 1_000_000_000;
  reduced = refl;
  before = lit≤ tt;
  after = lit≤ tt;
  k_is = k_is;
}

-- a second counts, and application-limited time does not
second_counts : time_by 120_000 0 1_200 (acked ∷ loss ∷ []) ≡ 1_000_000_000
second_counts = refl

limited_does_not : time_by 120_000 0 1_200 (limited ∷ acked ∷ loss ∷ []) ≡ 1_000_000_000
limited_does_not = refl

-- 100 seconds from an ACK that leaves nothing in flight to the next packet do not count, although a packet of size 0
-- was sent in between: 1 second and 100 ms are left. With a packet in flight they count
abbrev empties : ControllerCall
empties = ends_acks 2_000_000_000 0 false (Some 1)

abbrev leaves_one : ControllerCall
leaves_one = ends_acks 2_000_000_000 1_200 false (Some 1)

abbrev void : ControllerCall
void = sends 50_000_000_000 0 2

abbrev sent : ControllerCall
sent = sends 102_000_000_000 1_200 3

abbrev acked_later : ControllerCall
acked_later = acks 102_100_000_000 102_000_000_000 1_200 false rtt

idle_does_not : time_by 120_000 0 1_200 (acked_later ∷ sent ∷ void ∷ empties ∷ loss ∷ []) ≡ 1_100_000_000
idle_does_not = refl

in_flight_does : time_by 120_000 0 1_200 (acked_later ∷ sent ∷ void ∷ leaves_one ∷ loss ∷ []) ≡ 101_100_000_000
in_flight_does = refl

-- 120,000 - 480 (4.217163 - 1)^3 bytes
curve_is : curve_then 120_000 0 1_200 (acked ∷ []) loss [] 4_217_163 ≡ 104_017
curve_is = refl

goes_there : window_by 120_000 0 1_200 (acked ∷ loss ∷ []) ≡ 104_017
goes_there =
    (goes_to_curve 120_000 0 1_200 loss [] 4_217_163 begins acked [] 2_000_000_000 84_000 tt refl).on
    (lit≤ tt) (lit≤ tt) (lit≤ tt)

-- within a datagram of the real one, for every number of fractions of a nanosecond
near : IsNearReal (curve_of 120_000 0 1_200 loss [] 4_217_163) 84_000 1_000_000_000
near = real_curve 120_000 0 1_200 loss [] 4_217_163 begins (acked ∷ []) (lit< tt) (lit≤ tt)

-- the MTU becomes 45,000 bytes in congestion avoidance, which continues: what grows counts from two datagrams
abbrev resized : ControllerCall
resized = takes_mtu 45_000

continues : ContinuesEpochThrough 120_000 0 1_200 (acked ∷ resized ∷ []) (loss ∷ [])
continues = (tt, (tt, tt))

counts_from : floor_by 120_000 0 1_200 (acked ∷ resized ∷ []) (loss ∷ []) ≡ 90_000
counts_from = refl

smaller_is_no_floor : floor_by 120_000 0 1_200 (takes_mtu 1_500 ∷ []) (loss ∷ []) ≡ 84_000
smaller_is_no_floor = refl

-- Persistent congestion does not end the recovery period, as RFC 9002, B.8 would have it. If it did, a packet sent
-- before could reduce the window again: from 40,000 to 2,400 at 2,330 ms, up to 7,400 by old packets, then down to
-- 5,180. That is twice in a round trip (`cubic_falls_once`)
abbrev ends_period : ControllerCall → Cubic → Cubic
ends_period (congests now from true lost) cubic =
    record (cubic_recovering now true cubic) { recovery_start_time = 0 }
ends_period call cubic = cubic_after call cubic

abbrev ending_words : ControllerSemantics Cubic
ending_words = record cubic_words { after = ends_period }

abbrev persistent : ControllerCall
persistent = congests 2_330_000_000 18_446_744_073_709_551_615 true 3_000

abbrev acked_before : ControllerCall
acked_before = acks 2_335_000_000 2_221_000_000 5_000 false rtt

abbrev lost_before : ControllerCall
lost_before = congests 2_340_000_000 2_226_000_000 false 1_000

ending_it_reduces_twice :
    ¬ ReducesOncePerRound ending_words (cubic_made 40_000 1 1_200) lost_before (acked_before ∷ persistent ∷ [])
ending_it_reduces_twice once =
    let before = (once (lit< tt)).0 (lit< tt) in
    omega (arith, before)
