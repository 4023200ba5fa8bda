-- The state of a network path (RFC 9000, 8 and 9; RFC 9002, 5 to 7).
use Rattle.std.specs.Prelude.{ℕ, ◌+◌, ◌*◌, ◌&&◌, ◌==◌, not, nat_lt, Bool, true, Option, List, if◌then◌else◌}
use Rattle.std.specs.declared.net.socket_addr.SocketAddr.{SocketAddr}
use Rattle.recovery_base.specs.declared.below.SpaceId.{SpaceId}
use Rattle.recovery_base.specs.declared.below.SpaceId.TheVariants.{Data}
use Rattle.recovery_base.specs.Spaces.{same_space}
use Rattle.recovery_congestion.specs.Calls.{ControllerCall, acks, takes_mtu}
use Rattle.recovery_congestion.specs.Controllers.{ControllerSemantics}
use Rattle.recovery_spaces.specs.Packets.{Packet}
use Rattle.recovery_spaces.specs.Paths.{PathLedger, generation_of, after_leaving}
use Rattle.recovery_mtud.specs.Discovery.{Discovery, is_probe}
use Rattle.recovery_mtud.specs.DiscoveryLog.{MtuCall, acks as acks_packet, loses_probe, loses, discovery_after}
use Rattle.recovery_congestion.specs.Pacing.{Bucket, PacerCall, paced, pacer_delay, less_tokens, IsPacerRoom}
use Rattle.recovery_paths.specs.declared.responses.PathResponse.{PathResponse}
use Rattle.recovery_congestion.specs.Rtt.{Rtt, rtt_updated, rtt_get}

-- the state of a path without its ledger; K is the value of its controller in contracts
pub record PathState (K : Type 0) : Type 0 where
  pub remote : SocketAddr
  -- the peer's address was validated
  pub validated : Bool
  -- the bytes of the datagrams received, and of those transmitted
  pub total_recvd : ℕ
  pub total_sent : ℕ
  -- the MTU in use, and the search for a larger one
  pub discovery : Discovery
  pub rtt : Rtt
  pub controller : K
  pub pacer : Bucket

-- the caller's marks of a path (RFC 9000, 8.2 and 13.4; RFC 9002, 7.6)
pub record PathMarks : Type 0 where
  -- the data of its challenge, if one was sent, and whether one is to be sent
  pub challenge : Option ℕ
  pub challenge_pending : Bool
  pub responses : List PathResponse
  -- packets on it are marked with an ECT codepoint
  pub sending_ecn : Bool
  -- the first packet that was sent after an RTT sample
  pub first_after_sample : Option (SpaceId × ℕ)

pub record Path (K : Type 0) : Type 0 where
  -- its generation, and what it has in flight
  pub ledger : PathLedger
  pub state : PathState K
  pub marks : PathMarks

-- a change of the state
abbrev pub on_state : {K : Type 0} → (PathState K → PathState K) → Path K → Path K
on_state change path = record path { state = change path.state }

-- the caller sets other marks
abbrev pub with_marks : {K : Type 0} → PathMarks → Path K → Path K
with_marks marks path = record path { marks = marks }

-- the probe in flight is lost, or another packet
abbrev pub loss_call : ℕ → ℕ → Discovery → MtuCall
loss_call number bytes discovery = if is_probe number discovery then loses_probe else loses number bytes

-- how many bytes are sent to an unvalidated address for each byte received from it (RFC 9000, 8.1)
abbrev pub amplification_factor : ℕ
amplification_factor = 3

module _ {K : Type 0} where
  -- ---- the anti-amplification limit (RFC 9000, 8.1)

  -- with this many bytes more, more than three times the bytes received would be sent to an unvalidated address
  abbrev pub is_blocked : PathState K → ℕ → Bool
  is_blocked path bytes =
      not path.validated && nat_lt (amplification_factor * path.total_recvd) (path.total_sent + bytes)

  -- ---- what changes a path, whatever its controller

  abbrev pub after_receiving : ℕ → PathState K → PathState K
  after_receiving bytes path = record path { total_recvd = path.total_recvd + bytes }

  abbrev pub after_validation : PathState K → PathState K
  after_validation path = record path { validated = true }

  abbrev pub after_sample : ℕ → ℕ → PathState K → PathState K
  after_sample delay rtt path = record path { rtt = rtt_updated delay rtt path.rtt }

  -- the MTU search gets a report (RFC 8899, 5; RFC 9000, 14.3)
  abbrev pub after_searching : MtuCall → PathState K → PathState K
  after_searching call path = record path { discovery = discovery_after call path.discovery }

  -- the search has this state
  abbrev pub with_discovery : Discovery → PathState K → PathState K
  with_discovery discovery path = record path { discovery = discovery }

  abbrev pub after_transmitting : ℕ → PathState K → PathState K
  after_transmitting bytes path =
      record path { total_sent = path.total_sent + bytes; pacer = less_tokens bytes path.pacer }

  -- ---- the reports to the search

  abbrev pub is_path_probe : SpaceId → ℕ → PathState K → Bool
  is_path_probe space number path = same_space space Data && is_probe number path.discovery

  abbrev pub path_lost : {P M : Type 0} → SpaceId → ℕ → Packet P M → Path K → Path K
  path_lost space number packet path = record path {
    ledger = after_leaving path.ledger packet;
    state = (if same_space space Data
        then after_searching (loss_call number packet.size path.state.discovery) path.state else path.state);
  }

module _ {K : Type 0} (words : ControllerSemantics K) where
  -- the controller gets a report (RFC 9002, 7)
  abbrev pub after_telling : ControllerCall → PathState K → PathState K
  after_telling call path = record path { controller = words.after call path.controller }

  -- if the search changes the MTU, the controller is notified
  abbrev pub after_search : Bool → MtuCall → PathState K → PathState K
  after_search changes call path =
      let after = after_searching call path in
      if changes then after_telling (takes_mtu after.discovery.mtu) after else after

  -- the report to the search of an acknowledged packet
  abbrev pub acked_by_search : SpaceId → ℕ → ℕ → PathState K → PathState K
  acked_by_search space number bytes path =
      if same_space space Data then after_search (is_path_probe space number path) (acks_packet number bytes) path
      else path

  -- an acknowledged ack-eliciting packet of the path is reported to the controller
  abbrev pub acked_by_controller : {P M : Type 0} → ℕ → Bool → Packet P M → PathLedger → PathState K → PathState K
  acked_by_controller now app_limited packet ledger path =
      let call = acks now packet.time_sent packet.size app_limited path.rtt in
      if packet.path_generation == generation_of ledger && packet.ack_eliciting then after_telling call path else path

  abbrev pub path_acked : {P M : Type 0} → SpaceId → ℕ → ℕ → Bool → Packet P M → Path K → Path K
  path_acked space number now app_limited packet path = record path {
    ledger = after_leaving path.ledger packet;
    state = acked_by_controller now app_limited packet path.ledger
        (acked_by_search space number packet.size path.state);
  }

  -- ---- pacing (RFC 9002, 7.7)

  -- the pacer is asked for this many bytes with the RTT, MTU and window of the path
  abbrev pub pacer_call : PathState K → ℕ → ℕ → PacerCall
  pacer_call path now bytes = record {
    bytes = bytes;
    rtt = rtt_get path.rtt;
    mtu = path.discovery.mtu;
    window = words.window path.controller;
    now = now;
  }

  abbrev pub after_asking : ℕ → ℕ → PathState K → PathState K
  after_asking now bytes path = record path { pacer = paced (pacer_call path now bytes) path.pacer }

  -- what the pacer permits now, in bytes: exactly that many and fewer are not delayed
  abbrev pub IsRoomInPacer : ℕ → PathState K → ℕ → Type 0
  IsRoomInPacer now path =
      IsPacerRoom (rtt_get path.rtt) path.discovery.mtu (words.window path.controller) now path.pacer

  -- when to ask again, if the bytes may not be sent yet
  abbrev pub path_delay : ℕ → ℕ → PathState K → Option ℕ
  path_delay now bytes path = let call = pacer_call path now bytes in pacer_delay call (paced call path.pacer)
