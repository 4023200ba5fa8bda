-- The variables that a sender has next to its recovery, and how they change (RFC 9002, A.3).
use Rattle.std.specs.Prelude.{ℕ, ◌+◌, ◌||◌, min, max, Bool, true, false, Option, None, Some, option_map, if◌then◌else◌, ◌-◌, nat_le}
use Rattle.std.specs.Option.{option_and_then, option_map_or, option_or}
use Rattle.recovery_base.specs.declared.below.SpaceId.{SpaceId}
use Rattle.recovery_base.specs.declared.below.SpaceId.TheVariants.{Initial, Handshake, Data}
use Rattle.recovery_base.specs.Spaces.{same_space}
use Rattle.recovery_base.specs.Units.{assumed_ack_delay, largest_u32}
use Rattle.recovery_losses.specs.Timeouts.{probe_timeout_of}
use Rattle.recovery_losses.specs.declared.variables.Side.{Side}
use Rattle.recovery_losses.specs.declared.variables.Side.TheVariants.{Client, Server}
use Rattle.recovery_losses.specs.declared.thresholds.Thresholds.{Thresholds}
use Rattle.recovery_losses.specs.declared.variables.DueProbes.{DueProbes}
use Rattle.recovery_losses.specs.declared.variables.FullSince.{FullSince}
use Rattle.recovery_losses.specs.declared.variables.Variables.{Variables}

-- nothing is known of the connection, and no probe timeout expired; the peer's max_ack_delay is 25 ms until it is
-- reported (RFC 9000, 18.2)
abbrev pub fresh : Side → Thresholds → ℕ → Variables
fresh side thresholds now = record {
  side = side;
  max_ack_delay = assumed_ack_delay;
  pto_count = 0;
  is_handshake_confirmed = false;
  is_address_known = false;
  has_handshake_keys = false;
  base = now;
  thresholds = thresholds;
  sampled = now;
  due_probes = None;
  initial_rtt = None;
  full_since = record { initial = None; handshake = None };
}

-- The thresholds of the settings; 0 counts as 1. With a packet threshold of 0 a packet would be lost with its own ACK,
-- with a persistent congestion threshold of 0 any two packets would do (RFC 9002, 6.1.1 and 7.6.1).
abbrev pub thresholds_of : ℕ → ℕ × ℕ → ℕ → Thresholds
thresholds_of packets time persistent = record {
  packets = max packets 1;
  time = time;
  persistent = max persistent 1;
}

abbrev pub is_server : Side → Bool
is_server Server = true
is_server Client = false

-- a server, or a client that knows that its address is validated (RFC 9002, A.8: PeerCompletedAddressValidation)
abbrev pub is_address_validated : Variables → Bool
is_address_validated variables = is_server variables.side || variables.is_address_known

-- the peer delays its ACKs in the space of 1-RTT packets alone (RFC 9002, 6.2.1)
abbrev pub ack_delay_in : Variables → SpaceId → ℕ
ack_delay_in variables Data = variables.max_ack_delay
ack_delay_in variables space = 0

-- how many times a probe timeout doubles at most
abbrev pub most_doublings : ℕ
most_doublings = 16

-- the probe timeout, twice as long for each consecutive timeout, 16 times at most (RFC 9002, 6.2.1)
abbrev pub pto_by : ℕ → Variables → SpaceId → ℕ
pto_by base variables space =
    probe_timeout_of base (ack_delay_in variables space) (min variables.pto_count most_doublings)

-- the count of probe timeouts is reset, except at a client that does not know its address validated; an ACK of a
-- Handshake packet validates it (RFC 9002, 6.2.1 and 6.2.2.1). The anti-deadlock timer restarts.
abbrev pub heard_in : SpaceId → ℕ → Variables → Variables
heard_in space now variables =
    let known : Variables = record variables {
      is_address_known = variables.is_address_known || same_space space Handshake;
      base = now;
    } in
    record known { pto_count = (if is_address_validated known then 0 else variables.pto_count) }

-- if this is the first RTT sample of the path in use, its time (RFC 9002, 7.6.2 and B.8: first_rtt_sample)
abbrev pub sampled_first : Bool → ℕ → Variables → Variables
sampled_first is_first now variables = record variables { sampled = (if is_first then now else variables.sampled) }

-- the anti-deadlock timer restarts at this time, if any (RFC 9002, 6.2.2.1)
abbrev pub based : Option ℕ → Variables → Variables
based None variables = variables
based (Some now) variables = record variables { base = now }

-- ---- the probes that the last probe timeout asked for and that were not sent yet (RFC 9002, 6.2.4)

-- an ack-eliciting packet of their space counts as one of them
abbrev pub due_after_packet : SpaceId → DueProbes → Option DueProbes
due_after_packet space due = if same_space due.space space then
    (if nat_le due.count 1 then None else Some (record due { count = due.count - 1 })) else Some due

-- if their space is discarded, none is left
abbrev pub due_after_end : SpaceId → DueProbes → Option DueProbes
due_after_end space due = if same_space due.space space then None else Some due

-- an ack-eliciting packet of a space was sent, if any
abbrev pub probed : Option SpaceId → Variables → Variables
probed None variables = variables
probed (Some space) variables =
    record variables { due_probes = option_and_then (due_after_packet space) variables.due_probes }

-- a probe is due in a space
abbrev pub is_probe_due : Variables → SpaceId → Bool
is_probe_due variables space = option_map_or (λ due. same_space due.space space) variables.due_probes false

-- ---- since when packets of the handshake spaces wait for room in the window (RFC 9002, 7 and 7.5)

-- 1-RTT packets never do: they have no probe timeout before the handshake is confirmed (RFC 9002, 6.2.1)
abbrev pub since_in : SpaceId → FullSince → Option ℕ
since_in Initial full = full.initial
since_in Handshake full = full.handshake
since_in Data full = None

-- with another time for a space
abbrev pub with_since : SpaceId → Option ℕ → FullSince → FullSince
with_since Initial time full = record full { initial = time }
with_since Handshake time full = record full { handshake = time }
with_since Data time full = full

-- a packet found no room: it waits since the first time
abbrev pub found_full : SpaceId → ℕ → Variables → Variables
found_full space now variables = record variables {
  full_since = with_since space (option_or (since_in space variables.full_since) (Some now)) variables.full_since;
}

-- a packet found room: none waits
abbrev pub found_room : SpaceId → Variables → Variables
found_room space variables = record variables { full_since = with_since space None variables.full_since }

-- each space that waits does so from now on
abbrev pub restarted : ℕ → FullSince → FullSince
restarted now full = record {
  initial = option_map (λ since. now) full.initial;
  handshake = option_map (λ since. now) full.handshake;
}

-- until the handshake is confirmed
abbrev pub waiting_since : Variables → SpaceId → Option ℕ
waiting_since variables space =
    if variables.is_handshake_confirmed then None else since_in space variables.full_since

-- a space was discarded, or all its packets were declared lost: the count of probe timeouts is reset, no probe is due
-- there, and no packet waits for room (RFC 9002, 6.2.2 and A.11)
abbrev pub begun_anew : SpaceId → ℕ → Variables → Variables
begun_anew space now variables = record variables {
  pto_count = 0;
  base = now;
  due_probes = option_and_then (due_after_end space) variables.due_probes;
  full_since = with_since space None variables.full_since;
}

-- a probe timeout expired: `count` probes are due in a space and replace those that were due (RFC 9002, 6.2.1 and
-- 6.2.4); a space that waits for room does so from now on
abbrev pub timed_out : SpaceId → ℕ → ℕ → Variables → Variables
timed_out space count now variables = record variables {
  pto_count = min (variables.pto_count + 1) largest_u32;
  base = now;
  due_probes = Some (record { space = space; count = count });
  full_since = restarted now variables.full_since;
}
