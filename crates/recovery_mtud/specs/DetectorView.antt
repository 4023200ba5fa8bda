-- The value of a `Detector` in contracts.
use Rattle.recovery_mtud.specs.Bursts.{LossBursts}
use Rattle.recovery_mtud.specs.declared.detector.Detector.TheInside.{Inside}

abbrev pub bursts_in : Inside → LossBursts
bursts_in detector = record {
  kept = detector.bursts;
  open_burst = detector.current;
  acked = detector.acked_mtu;
  newest = detector.newest;
  min_mtu = detector.min_mtu;
}

abbrev pub bursts_back : LossBursts → Inside
bursts_back bursts = record {
  bursts = bursts.kept;
  current = bursts.open_burst;
  acked_mtu = bursts.acked;
  newest = bursts.newest;
  min_mtu = bursts.min_mtu;
}
