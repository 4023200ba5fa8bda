-- Amplification (RFC 9000, 8.1): until the address of a path is validated, if all that was sent on it was checked, at
-- most three times the bytes received on it were sent.
use Rattle.std.specs.Prelude.{◌≡◌, ◌∷◌, ◌*◌, ◌≤◌, Bool, true, false, sum_by}
use Rattle.std.specs.List.{list_all}
use Rattle.recovery_paths.specs.declared.path_pair.PathName.{PathName}
use Rattle.recovery_paths.specs.PathStates.{amplification_factor}
use Rattle.recovery_events.specs.declared.event.Event.{Event}
use Rattle.recovery_events.specs.declared.event.Event.TheVariants.{Transmit}
use Rattle.recovery_history.specs.History.{History, Reply}
use Rattle.recovery_history.specs.Promises.Datagrams.{datagrams_on, bytes_in, bytes_out, is_validated}

module _ {Q S M P : Type 0} where
  abbrev pub is_checked : Event Q S M P × Reply Q → Bool
  is_checked (Transmit now bytes checked, reply) = checked
  is_checked happened = true

  -- for each existing path; the flag states whether the first one is validated at the start
  abbrev pub IsWithinAmplificationLimit : Bool → History Q S M P → Type 0
  IsWithinAmplificationLimit first history = (name : PathName) →
      let here = datagrams_on name history in
      is_validated first name history ≡ false → list_all is_checked here ≡ true
      → sum_by bytes_out here ≤ amplification_factor * sum_by bytes_in here

  -- after an event
  abbrev pub LimitsAmplification : Bool → History Q S M P → Event Q S M P → Reply Q → Type 0
  LimitsAmplification first history event reply = IsWithinAmplificationLimit first ((event, reply) ∷ history)
