-- The responses to path challenges to send, and what the calls do to them (RFC 9000, 8.2.2).
use Rattle.std.specs.Prelude.{ℕ, ◌-◌, ◌≤◌, Bool, false, ◌&&◌, ◌==◌, bytes_eq, nat_lt, nat_le, if◌then◌else◌, List, [], ◌∷◌, ◌++◌, length, map, take, slice_get, Option, None, Some}
use Rattle.std.specs.List.{IsDistinct, list_any}
use Rattle.std.specs.Net.Addr.{ipv4_octets, ipv6_segments}
use Rattle.std.specs.Net.Socket.{v4_ip, v4_port, v6_ip, v6_port, v6_flowinfo, v6_scope_id}
use Rattle.std.specs.declared.net.socket_addr.SocketAddr.{SocketAddr}
use Rattle.std.specs.declared.net.socket_addr.SocketAddr.TheVariants.{V4, V6}
use Rattle.recovery_paths.specs.declared.responses.PathResponse.{PathResponse}

-- the same IP address and port, and for IPv6 the same flow information and scope
abbrev pub same_address : SocketAddr → SocketAddr → Bool
same_address (V4 a) (V4 b) =
    bytes_eq (ipv4_octets (v4_ip a)) (ipv4_octets (v4_ip b)) && (v4_port a == v4_port b)
same_address (V6 a) (V6 b) =
    bytes_eq (ipv6_segments (v6_ip a)) (ipv6_segments (v6_ip b))
    && ((v6_port a == v6_port b)
    && ((v6_flowinfo a == v6_flowinfo b) && (v6_scope_id a == v6_scope_id b)))
same_address _ _ = false

abbrev pub goes_to : SocketAddr → PathResponse → Bool
goes_to remote response = same_address response.remote remote

abbrev pub remotes : List PathResponse → List SocketAddr
remotes responses = map (λ response. response.remote) responses

-- the most PATH_RESPONSE frames that wait
abbrev pub most_responses : ℕ
most_responses = 16

-- at most 16 wait, and no two are for the same address
pub record AreSoundResponses (responses : List PathResponse) : Type 0 where
  pub few : length responses ≤ most_responses
  pub apart : IsDistinct same_address (remotes responses)

-- a response after a new one: the new one replaces it if both are for one address, unless the challenge of the old one
-- was received in a newer packet
abbrev pub renewed : PathResponse → PathResponse → PathResponse
renewed new kept =
    if goes_to new.remote kept && nat_le kept.packet new.packet
    then record kept { packet = new.packet; token = new.token }
    else kept

-- a challenge was received: its response replaces the one to its address, or is appended if there is none and fewer
-- than 16 wait
abbrev pub with_response : PathResponse → List PathResponse → List PathResponse
with_response new responses =
    if list_any (goes_to new.remote) responses then map (renewed new) responses
    else if nat_lt (length responses) most_responses then responses ++ new ∷ []
    else responses

abbrev pub last_of : List PathResponse → Option PathResponse
last_of responses = slice_get responses (length responses - 1)

-- the last response if it is for another address than this one: its token and its address
abbrev pub sent_off_path : SocketAddr → Option PathResponse → Option (ℕ × SocketAddr)
sent_off_path remote None = None
sent_off_path remote (Some last) = if goes_to remote last then None else Some (last.token, last.remote)

-- the last response if it is for this address: its token
abbrev pub sent_on_path : SocketAddr → Option PathResponse → Option ℕ
sent_on_path remote None = None
sent_on_path remote (Some last) = if goes_to remote last then Some last.token else None

-- the last response is removed if something was sent
abbrev pub responses_left : {Sent : Type 0} → Option Sent → List PathResponse → List PathResponse
responses_left None responses = responses
responses_left (Some sent) responses = take (length responses - 1) responses
