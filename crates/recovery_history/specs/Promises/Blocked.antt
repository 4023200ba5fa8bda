-- Amplification (RFC 9000, 8.1): a checked datagram is blocked exactly if the path in use is not validated and with
-- these bytes more than three times those received on it would be sent. An unchecked one is never blocked.
use Rattle.std.specs.Prelude.{◌≡◌, ◌+◌, ◌*◌, Bool, true, false, not, ◌&&◌, nat_lt, nat_le, sum_by, Ok, Err}
use Rattle.recovery_base.specs.Units.{u64_limit}
use Rattle.recovery_paths.specs.declared.path_pair.PathName.TheVariants.{Current}
use Rattle.recovery_paths.specs.PathStates.{amplification_factor}
use Rattle.recovery_events.specs.declared.event.Event.{Event}
use Rattle.recovery_events.specs.declared.event.Event.TheVariants.{Transmit}
use Rattle.recovery_events.specs.declared.event.Answer.TheVariants.{Transmitted, Blocked, Delayed}
use Rattle.recovery_events.specs.declared.event.Refusal.TheVariants.{Overflow}
use Rattle.recovery_history.specs.History.{History, Reply}
use Rattle.recovery_history.specs.Promises.Datagrams.{datagrams_on, bytes_in, bytes_out, is_validated}

-- the reply to a datagram: whether the total overflows, it is checked, and the limit forbids it; a checked one that the
-- limit allows may still be delayed by the pacer (RFC 9002, 7.7)
abbrev pub IsTransmitReply : {Q : Type 0} → Bool → Bool → Bool → Reply Q → Type 0
IsTransmitReply true checked forbidden reply = reply ≡ Err Overflow
IsTransmitReply false false forbidden reply = reply ≡ Ok Transmitted
IsTransmitReply false true true reply = reply ≡ Ok Blocked
IsTransmitReply false true false (Ok Transmitted) = Unit {0}
IsTransmitReply false true false (Ok (Delayed until)) = Unit {0}
IsTransmitReply false true false other = ⊥

module _ {Q S M P : Type 0} where
  -- the flag states whether the first path is validated at the start
  abbrev pub BlocksExactly : Bool → History Q S M P → Event Q S M P → Reply Q → Type 0
  BlocksExactly first history (Transmit now bytes checked) reply =
      let here = datagrams_on Current history in
      let total = sum_by bytes_out here + bytes in
      let forbidden =
      not (is_validated first Current history) && nat_lt (amplification_factor * sum_by bytes_in here) total in
      IsTransmitReply (nat_le u64_limit total) checked forbidden reply
  BlocksExactly first history event reply = Unit {0}
