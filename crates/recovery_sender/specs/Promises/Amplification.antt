-- Amplification (RFC 9000, 8.1): until the address of a path is validated, the bytes transmitted on it are at most
-- three times the bytes received on it, by the events so far. There is no premise about checks: the sender itself
-- checks the limit for each datagram.
use Rattle.std.specs.Prelude.{◌≡◌, ◌*◌, ◌≤◌, false, sum_by}
use Rattle.recovery_paths.specs.declared.path_pair.PathName.{PathName}
use Rattle.recovery_paths.specs.PathStates.{amplification_factor}
use Rattle.recovery_history.specs.History.{Beginning, History}
use Rattle.recovery_history.specs.Promises.Datagrams.{bytes_in, bytes_out, datagrams_on, is_validated}

module _ {F K Q S M P : Type 0} where
  -- for each path, whether or not the first one is validated at the start
  abbrev pub SendsThreefold : Beginning F K Q S M P → History Q S M P → Type 0
  SendsThreefold beginning past = (name : PathName) →
      is_validated beginning.config.validated name past ≡ false →
      sum_by bytes_out (datagrams_on name past) ≤ amplification_factor * sum_by bytes_in (datagrams_on name past)
