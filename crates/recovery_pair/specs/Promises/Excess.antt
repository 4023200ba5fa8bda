-- The bytes in flight are at most the largest window reported so far, plus the packets in flight that had none (RFC
-- 9002, 7 and 7.5). These are probes (`SendsAsPermitted`).
use Rattle.std.specs.Prelude.{◌+◌, ◌≤◌, is_some, not}
use Rattle.recovery_pair.specs.declared.steps.End.{End}
use Rattle.recovery_pair.specs.Flights.{flight, flight_of, largest_window, no_numbers}
use Rattle.recovery_pair.specs.Logs.{PairLog}

abbrev pub ExceedsByProbes : PairLog → Type 0
ExceedsByProbes log = (end : End) →
    flight end log ≤ largest_window end log + flight_of end (λ window. not (is_some window)) no_numbers log
