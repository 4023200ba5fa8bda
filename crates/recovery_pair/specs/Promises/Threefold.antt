-- Amplification (RFC 9000, 8.1): until the server validates the client's address, the bytes that it sent are at most
-- three times those of the datagrams that arrived at it, duplicates and dropped packets included.
use Rattle.std.specs.Prelude.{◌≡◌, ◌*◌, ◌≤◌, Bool, false}
use Rattle.recovery_paths.specs.PathStates.{amplification_factor}
use Rattle.recovery_pair.specs.declared.steps.End.TheVariants.{Server}
use Rattle.recovery_pair.specs.Logs.{PairLog, bytes_arrived, bytes_sent, has_validated}

-- `validated` says whether it takes the address for validated from the start, as after a Retry
abbrev pub ServerSendsThreefold : Bool → PairLog → Type 0
ServerSendsThreefold validated log = has_validated Server validated log ≡ false →
    bytes_sent Server log ≤ amplification_factor * bytes_arrived Server log
