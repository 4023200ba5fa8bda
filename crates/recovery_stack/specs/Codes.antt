-- Enums and other values of the interface, by numbers.
use Rattle.std.specs.Prelude.{◌≡◌, ℕ, ◌+◌, ◌*◌, ◌&&◌, Bool, IsTrue, IsFalse, List, length, Option, Some, None, option_map, option_and_then, min, take, slice_get, if◌then◌else◌, ◌==◌, nat_lt, nat_le}
use Rattle.std.specs.Net.Addr.{ipv4_octets, ipv6_segments, segments_of}
use Rattle.std.specs.Net.Socket.{v4_ip, v4_port, v6_ip, v6_port, v6_flowinfo, v6_scope_id}
use Rattle.std.specs.declared.net.socket_addr.SocketAddr.{SocketAddr}
use Rattle.std.specs.declared.net.socket_addr.SocketAddr.TheVariants.{V4, V6}
use Rattle.recovery_base.specs.declared.below.SpaceId.{SpaceId}
use Rattle.recovery_base.specs.declared.below.SpaceId.TheVariants.{Initial, Handshake, Data}
use Rattle.recovery_base.specs.declared.below.frames.AckFrequency.{AckFrequency}
use Rattle.recovery_base.specs.declared.below.frames.EcnCounts.{EcnCounts}
use Rattle.recovery_base.specs.declared.below.ids.IssuedCid.{IssuedCid}
use Rattle.recovery_base.specs.declared.below.ids.NewConnectionId.{NewConnectionId}
use Rattle.recovery_base.specs.declared.timer.Timer.{Timer}
use Rattle.recovery_base.specs.declared.timer.TheConstants.Timer.{VALUES}
use Rattle.recovery_base.specs.Units.{largest_u64, number_limit, seconds}
use Rattle.recovery_base.specs.Ids.{longest_cid}
use Rattle.recovery_paths.specs.declared.path_pair.PathName.{PathName}
use Rattle.recovery_paths.specs.declared.path_pair.PathName.TheVariants.{Current, Previous}
use Rattle.recovery_losses.specs.declared.variables.Side.{Side}
use Rattle.recovery_losses.specs.declared.variables.Side.TheVariants.{Client, Server}
use Rattle.recovery_stack.specs.declared.codes.Address.{Address}
use Rattle.recovery_stack.specs.declared.codes.Id.{Id}

-- ---- the value of a number, if any

abbrev pub space_coded : ℕ → Option SpaceId
space_coded code =
    if code == 0 then Some Initial else (if code == 1 then Some Handshake else (if code == 2 then Some Data else None))

abbrev pub timer_coded : ℕ → Option Timer
timer_coded = slice_get VALUES

abbrev pub path_coded : Bool → PathName
path_coded previous = if previous then Previous else Current

abbrev pub side_coded : Bool → Side
side_coded client = if client then Client else Server

abbrev pub maybe : Bool → ℕ → Option ℕ
maybe some number = if some then Some number else None

-- nanoseconds, capped at 64 bits
abbrev pub nanos_shown : ℕ → ℕ
nanos_shown span = min span largest_u64

-- the given address
abbrev pub IsSocketAddress : Address → SocketAddr → Type 0
IsSocketAddress given (V4 address) =
    IsFalse given.v6 × (ipv4_octets (v4_ip address) ≡ take 4 given.octets) × (v4_port address ≡ given.port)
IsSocketAddress given (V6 address) =
    IsTrue given.v6 × (ipv6_segments (v6_ip address) ≡ segments_of given.octets) × (v6_port address ≡ given.port)
    × (v6_flowinfo address ≡ given.flowinfo) × (v6_scope_id address ≡ given.scope_id)

-- an ID in the form in which it is issued
abbrev pub issued_of : Id → IssuedCid
issued_of given = record { sequence = given.sequence; id = take given.len given.bytes; reset_token = given.token }

-- ---- durations, IDs and frames from their numbers and bytes, if these are in range

-- seconds and nanoseconds, which are below 10^9
abbrev pub span : ℕ → ℕ → Option ℕ
span secs nanos = if nat_lt nanos seconds then Some (secs * seconds + nanos) else None

abbrev pub spans : ℕ → ℕ → ℕ → ℕ → Option (ℕ × ℕ)
spans delay_secs delay_nanos rtt_secs rtt_nanos =
    option_and_then (λ delay. option_map (λ rtt. (delay, rtt)) (span rtt_secs rtt_nanos)) (span delay_secs delay_nanos)

-- an id has at most 20 bytes
abbrev pub cid : List ℕ → Option (List ℕ)
cid bytes = if nat_le (length bytes) longest_cid then Some bytes else None

-- the numbers of a frame are below 2^62
abbrev pub request : ℕ → ℕ → ℕ → ℕ → Option AckFrequency
request sequence threshold micros reordering =
    if nat_lt sequence number_limit && nat_lt threshold number_limit && nat_lt micros number_limit
    && nat_lt reordering number_limit
    then Some (record {
      sequence = sequence;
      ack_eliciting_threshold = threshold;
      request_max_ack_delay = micros;
      reordering_threshold = reordering;
    })
    else None

abbrev pub counts : ℕ → ℕ → ℕ → EcnCounts
counts ect0 ect1 ce = record { ect0 = ect0; ect1 = ect1; ce = ce }

abbrev pub frame : ℕ → ℕ → List ℕ → List ℕ → NewConnectionId
frame sequence retire_prior_to id token = record {
  sequence = sequence;
  retire_prior_to = retire_prior_to;
  id = id;
  reset_token = token;
}
