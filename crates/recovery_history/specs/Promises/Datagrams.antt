-- The datagrams received and sent on a path since it was made (RFC 9000, 8.1); and whether its address is validated.
use Rattle.std.specs.Prelude.{ℕ, Bool, true, false, [], ◌∷◌, Ok, if◌then◌else◌}
use Rattle.recovery_paths.specs.declared.path_pair.PathName.{PathName}
use Rattle.recovery_paths.specs.declared.path_pair.PathName.TheVariants.{Current, Previous}
use Rattle.recovery_events.specs.declared.event.Event.{Event}
use Rattle.recovery_events.specs.declared.event.Event.TheVariants.{DatagramIn, Validated, Transmit, NewPath, DropPrevious, RevertPath}
use Rattle.recovery_events.specs.declared.event.Answer.TheVariants.{Transmitted}
use Rattle.recovery_history.specs.History.{History, Reply}

module _ {Q S M P : Type 0} where
  -- a datagram was received or sent on this path
  abbrev pub is_on : PathName → Event Q S M P × Reply Q → Bool
  is_on Current (DatagramIn Current bytes, Ok answer) = true
  is_on Previous (DatagramIn Previous bytes, Ok answer) = true
  is_on Current (Transmit now bytes checked, Ok Transmitted) = true
  is_on name happened = false

  -- the datagrams of a path since it was made: it is the current path until another is made, and then the previous one,
  -- until it is dropped or used again (RFC 9000, 9.3.2)
  abbrev pub datagrams_on : PathName → History Q S M P → History Q S M P
  datagrams_on name [] = []
  datagrams_on Current ((NewPath now remote is_fresh, Ok answer) ∷ earlier) = []
  datagrams_on Previous ((NewPath now remote is_fresh, Ok answer) ∷ earlier) = datagrams_on Current earlier
  datagrams_on Previous ((DropPrevious, Ok answer) ∷ earlier) = []
  datagrams_on Current ((RevertPath, Ok answer) ∷ earlier) = datagrams_on Previous earlier
  datagrams_on Previous ((RevertPath, Ok answer) ∷ earlier) = []
  datagrams_on name (happened ∷ earlier) =
      let more = datagrams_on name earlier in if is_on name happened then happened ∷ more else more

  abbrev pub bytes_in : Event Q S M P × Reply Q → ℕ
  bytes_in (DatagramIn path bytes, reply) = bytes
  bytes_in happened = 0

  abbrev pub bytes_out : Event Q S M P × Reply Q → ℕ
  bytes_out (Transmit now bytes checked, reply) = bytes
  bytes_out happened = 0

  -- its address was validated since the path was made, or, if it is the first path, from the start
  abbrev pub is_validated : Bool → PathName → History Q S M P → Bool
  is_validated first name [] = first
  is_validated first Current ((NewPath now remote is_fresh, Ok answer) ∷ earlier) = false
  is_validated first Previous ((NewPath now remote is_fresh, Ok answer) ∷ earlier) = is_validated first Current earlier
  is_validated first Current ((RevertPath, Ok answer) ∷ earlier) = is_validated first Previous earlier
  is_validated first Current ((Validated Current, Ok answer) ∷ earlier) = true
  is_validated first Previous ((Validated Previous, Ok answer) ∷ earlier) = true
  is_validated first name (happened ∷ earlier) = is_validated first name earlier
