-- The value of an `RttEstimator` in contracts.
use Rattle.recovery_congestion.specs.Rtt.{Rtt}
use Rattle.recovery_congestion.specs.declared.rtt.RttEstimator.TheInside.{Inside}

abbrev pub rtt_in : Inside → Rtt
rtt_in rtt = record { latest = rtt.latest; smoothed = rtt.smoothed; variance = rtt.variance; least = rtt.min }

abbrev pub rtt_back : Rtt → Inside
rtt_back rtt = record { latest = rtt.latest; smoothed = rtt.smoothed; variance = rtt.variance; min = rtt.least }
