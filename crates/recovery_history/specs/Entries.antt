-- What an event may be to the spaces and to the paths: the definitions that `Table.antt` uses.
use Rattle.std.specs.declared.net.socket_addr.SocketAddr.{SocketAddr}
use Rattle.recovery_queue.specs.Queues.{QueueSemantics}
use Rattle.std.specs.Prelude.{ℕ, ◌+◌, Bool, true, false, ◌&&◌, ◌==◌, List, ◌∷◌, Option, None, Some, if◌then◌else◌, []}
use Rattle.recovery_base.specs.declared.below.SpaceId.{SpaceId}
use Rattle.recovery_base.specs.declared.below.SpaceId.TheVariants.{Data}
use Rattle.recovery_history.specs.ReplyInputs.{ReplyInputs, number_in, packet_now}
use Rattle.recovery_congestion.specs.Calls.{sends as sends_bytes, acks, takes_mtu}
use Rattle.recovery_spaces.specs.Packets.{Packet}
use Rattle.recovery_spaces.specs.Probes.{ProbeFound, probe_found}
use Rattle.recovery_mtud.specs.DiscoveryLog.{MtuCall, discovery_after, acks as acks_packet}
use Rattle.recovery_paths.specs.PathStates.{loss_call, is_path_probe}
use Rattle.recovery_paths.specs.PathLog.{PathsEntry, PathOrigin, fresh, extends, on_current, searches, tells}
use Rattle.recovery_base.specs.Spaces.{same_space}
use Rattle.recovery_spaces.specs.SpaceLog.{SpaceEntry, sends}

-- an entry of one space; another space gets none
abbrev pub here : {P M : Type 0} → SpaceId → SpaceId → SpaceEntry P M → Option (SpaceEntry P M)
here other space entry = if same_space other space then Some entry else None

-- the entries that one event makes in each part, if any
pub record Entries (P M : Type 0) : Type 0 where
  pub spaces : SpaceId → Option (SpaceEntry P M)
  -- perhaps several, the newest first
  pub paths : List PathsEntry

abbrev pub nothing : {P M : Type 0} → Entries P M
nothing = record { spaces = λ space. None; paths = [] }

-- an entry in one space, and entries on the paths
abbrev pub happens : {P M : Type 0} → SpaceId → SpaceEntry P M → List PathsEntry → Entries P M
happens space entry paths = record { spaces = λ other. here space other entry; paths = paths }

-- an entry in one space only
abbrev pub in_space : {P M : Type 0} → SpaceId → SpaceEntry P M → Entries P M
in_space space entry = happens space entry []

-- an entry on the paths only
abbrev pub on_path : {P M : Type 0} → PathsEntry → Entries P M
on_path entry = record nothing { paths = entry ∷ [] }

module _ {K P M : Type 0} (known : ReplyInputs K P M) where
  -- ---- what is reported to the controller of the path in use (RFC 9002, 7)

  -- an acknowledged packet, if it was tracked, was sent on the path and is ack-eliciting
  abbrev pub acked_entry : ℕ → Bool → Option (Packet P M) → List PathsEntry
  acked_entry now app_limited None = []
  acked_entry now app_limited (Some packet) =
      let rtt = known.paths.current.state.rtt in
      if packet.path_generation == known.paths.current.generation && packet.ack_eliciting
      then on_current (tells (acks now packet.time_sent packet.size app_limited rtt)) ∷ []
      else []

  -- ---- what is reported to the MTU search of the path in use (RFC 8899, 5; RFC 9000, 14.3): 1-RTT packets only

  -- what is reported to the search, and to the controller if that changes the MTU
  abbrev pub searched : Bool → MtuCall → List PathsEntry
  searched changes call =
      let after = discovery_after call known.paths.current.state.discovery in
      let seen = on_current (searches call) ∷ [] in
      if changes then on_current (tells (takes_mtu after.mtu)) ∷ seen else seen

  abbrev pub acked_search : SpaceId → ℕ → Option (Packet P M) → List PathsEntry
  acked_search space number None = []
  acked_search space number (Some packet) =
      let probed = is_path_probe space number known.paths.current.state in
      if same_space space Data then searched probed (acks_packet number packet.size) else []

  abbrev pub lost_search : SpaceId → ℕ → Option (Packet P M) → List PathsEntry
  lost_search space number None = []
  lost_search space number (Some packet) =
      let call = loss_call number packet.size known.paths.current.state.discovery in
      if same_space space Data then searched false call else []

  -- ---- packets

  -- a packet is sent on the path in use
  abbrev pub sending : SpaceId → ℕ → ℕ → Bool → Option ℕ → P → M → Entries P M
  sending space now size eliciting largest contents frames =
      let packet = packet_now known now size eliciting largest contents frames in
      let number = number_in known space in
      happens space (sends number packet) (on_current (tells (sends_bytes now size number)) ∷ [])

  -- what a probe finds in a space (RFC 9002, 6.2.4)
  abbrev pub found_in : {S : Type 0} → QueueSemantics P S → S → SpaceId → ProbeFound
  found_in words streams space =
      let here = known.spaces space in probe_found words streams here.queued.pending here.sent.tracked

  -- ---- paths

  abbrev pub following : ℕ → SocketAddr → Bool → PathOrigin
  following now remote true = fresh (known.paths.made + 1) remote known.peer_limit now
  following now remote false = extends (known.paths.made + 1) remote now
