-- The values of a `Pacer` and a `PacerState` in contracts.
use Rattle.recovery_congestion.specs.Pacing.{Bucket}
use Rattle.recovery_congestion.specs.declared.pacing.Pacer.TheInside.{Inside}
use Rattle.recovery_congestion.specs.declared.pacing.PacerState.{PacerState}

abbrev pub bucket_in : Inside → Bucket
bucket_in pacer = record {
  capacity = pacer.capacity;
  window = pacer.last_window;
  mtu = pacer.last_mtu;
  tokens = pacer.tokens;
  last = pacer.prev;
}

abbrev pub bucket_of : PacerState → Bucket
bucket_of state = record {
  capacity = state.capacity;
  window = state.last_window;
  mtu = state.last_mtu;
  tokens = state.tokens;
  last = state.prev;
}
