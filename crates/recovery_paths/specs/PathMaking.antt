-- How a network path is made: fresh, from the one before it, or reset (RFC 9000, 9; RFC 9002, 5 to 7).
use Rattle.std.specs.Prelude.{ℕ, Bool, true, false, Option, None, [], if◌then◌else◌}
use Rattle.std.specs.declared.net.socket_addr.SocketAddr.{SocketAddr}
use Rattle.recovery_base.specs.declared.below.SpaceId.{SpaceId}
use Rattle.recovery_congestion.specs.Controllers.{ControllerSemantics}
use Rattle.recovery_config.specs.declared.config.TransportConfig.{TransportConfig}
use Rattle.recovery_config.specs.Settings.{initial_mtu_of}
use Rattle.recovery_mtud.specs.Discovery.{Discovery, discovery_made, within}
use Rattle.recovery_mtud.specs.DiscoveryLog.{resets, discovery_after}
use Rattle.recovery_congestion.specs.Pacing.{Bucket, bucket_made}
use Rattle.recovery_paths.specs.PathStates.{PathState, PathMarks}
use Rattle.recovery_congestion.specs.Rtt.{rtt_made, rtt_get}

-- no challenge was sent, and packets are marked
abbrev pub marks_made : Option (SpaceId × ℕ) → PathMarks
marks_made first = record {
  challenge = None;
  challenge_pending = false;
  responses = [];
  sending_ecn = true;
  first_after_sample = first;
}

-- the settings of all paths, and what their controllers do
pub record PathSettings (K : Type 0) : Type 0 where
  pub words : ControllerSemantics K
  -- the controller that is built at a time, for the initial MTU
  pub built : ℕ → K
  -- the initial MTU, and the minimum
  pub mtu : ℕ
  pub min_mtu : ℕ
  -- the RTT before the first sample
  pub rtt : ℕ
  -- the initial MTU and its search, within the peer's limit for datagrams
  pub discovery : Option ℕ → Discovery

-- the MTU of a new path, and its search, if it is allowed and configured
abbrev pub first_discovery : {F : Type 0} → Bool → Option ℕ → TransportConfig F → Discovery
first_discovery allowed limit config =
    discovery_made (initial_mtu_of config) config.min_mtu limit (if allowed then config.mtu_discovery_config else None)

abbrev pub path_settings : {F K : Type 0} → (F → ℕ → ℕ → K) → ControllerSemantics K → Bool → TransportConfig F
    → PathSettings K
path_settings built words allowed config = record {
  words = words;
  built = λ now. built config.congestion_controller_factory now (initial_mtu_of config);
  mtu = initial_mtu_of config;
  min_mtu = config.min_mtu;
  rtt = config.initial_rtt;
  discovery = λ limit. first_discovery allowed limit config;
}

-- ---- a path that follows another one

module _ {K : Type 0} (words : ControllerSemantics K) where
  -- a path to another address inherits RTT, controller and search (RFC 9000, 9.4); its pacer is full, for the RTT,
  -- window and MTU of that one
  abbrev pub state_going_on : SocketAddr → ℕ → PathState K → PathState K
  state_going_on remote now old = record old {
    remote = remote;
    validated = false;
    total_recvd = 0;
    total_sent = 0;
    pacer = bucket_made (rtt_get old.rtt) (words.window old.controller) old.discovery.mtu now;
  }

-- ---- by the settings

module _ {K : Type 0} (settings : PathSettings K) where
  -- the pacer is made full, for the initial RTT and window
  abbrev pub pacer_at_first : ℕ → ℕ → Bucket
  pacer_at_first mtu now = bucket_made settings.rtt (settings.words.initial (settings.built now)) mtu now

  -- a fresh path, within the peer's limit for datagrams
  abbrev pub state_fresh : SocketAddr → Bool → Option ℕ → ℕ → PathState K
  state_fresh remote validated limit now = record {
    remote = remote;
    validated = validated;
    total_recvd = 0;
    total_sent = 0;
    discovery = settings.discovery limit;
    rtt = rtt_made settings.rtt;
    controller = settings.built now;
    pacer = pacer_at_first settings.mtu now;
  }

  -- a path that is used again has its MTU, within the peer's limit. Its search starts again from there, since the
  -- outcome of its probe, and that limit, were not reported to it
  abbrev pub discovery_resumed : Option ℕ → ℕ → Discovery
  discovery_resumed limit mtu = record (settings.discovery limit) { mtu = within mtu limit }

  abbrev pub state_resumed : Option ℕ → PathState K → PathState K
  state_resumed limit old = record old { discovery = discovery_resumed limit old.discovery.mtu }

  -- RTT, controller and pacer start again, the pacer for this MTU
  abbrev pub begun_anew : ℕ → ℕ → PathState K → PathState K
  begun_anew mtu now old =
      record old { rtt = rtt_made settings.rtt; controller = settings.built now; pacer = pacer_at_first mtu now }

  -- and so does the search, within the peer's limit; the resulting MTU is the pacer's
  abbrev pub state_reset : ℕ → PathState K → PathState K
  state_reset now old =
      let discovery = discovery_after (resets settings.mtu settings.min_mtu) old.discovery in
      record (begun_anew discovery.mtu now old) { discovery = discovery }
