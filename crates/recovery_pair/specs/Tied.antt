-- The log of two ends is tied to what their senders know: what came is on the wire, and what is on the wire went out.
use Rattle.std.specs.Prelude.{◌≡◌, ℕ, ◌<◌, ◌≤◌, ◌⊎◌, Bool, true, List, [], ◌∷◌, map, is_some}
use Rattle.std.specs.List.{AllByRecursion}
use Rattle.recovery_base.specs.declared.below.SpaceId.{SpaceId}
use Rattle.recovery_base.specs.Units.{number_limit}
use Rattle.recovery_losses.specs.Variables.{is_probe_due}
use Rattle.recovery_losses.specs.Frames.{IsInAckRanges, largest_of}
use Rattle.recovery_history.specs.History.{History}
use Rattle.recovery_history.specs.Promises.Acknowledged.{WasReceived}
use Rattle.recovery_history.specs.Promises.Datagrams.{is_validated}
use Rattle.recovery_history.specs.Promises.NewNumbers.{came_in, is_discarded}
use Rattle.recovery_history.specs.Promises.Paths.{paths_made}
use Rattle.recovery_paths.specs.declared.path_pair.PathName.TheVariants.{Current}
use Rattle.recovery_sender.specs.Promises.Lost.{elicits_by, sent_at}
use Rattle.recovery_sender.specs.declared.sender.Sender.{Sender}
use Rattle.recovery_pair.specs.declared.endpoint.Waiting.{Waiting}
use Rattle.recovery_pair.specs.declared.steps.End.{End}
use Rattle.recovery_pair.specs.declared.steps.End.TheVariants.{Client, Server}
use Rattle.recovery_pair.specs.declared.steps.WirePacket.{WirePacket}
use Rattle.recovery_pair.specs.Flights.{Numbers, flight_of, largest_window, no_numbers}
use Rattle.recovery_pair.specs.Frames.{IsSoundFrame}
use Rattle.recovery_pair.specs.Logs.{PairLog, LoggedPacket, bytes_arrived, bytes_sent, deliveries_of, has_validated, is_eliciting, numbers_at, other_end, sends_of, time_sent, was_discarded, wire_of}
use Rattle.recovery_pair.specs.Carried.{CarriesItems}
use Rattle.recovery_pair.specs.Waits.{AreQueued}
use Rattle.recovery_pair.specs.Pasts.{Came, HasPast, WasSentUnder, bytes_received, bytes_transmitted, flight_in, largest_came, silent_bytes}
use Rattle.recovery_pair.specs.Promises.Delays.{largest_new}
use Rattle.recovery_pair.specs.Promises.Probes.{IsAsked}
use Rattle.recovery_pair.specs.Rising.{AcksRise}

-- ---- one number, from one end to the other

module _ {Q S M P : Type 0} (log : PairLog) (from : End) (space : SpaceId) (n : ℕ) (past peer : History Q S M P) where
  -- the other end knows nothing of it
  pub record IsNotThere : Type 0 where
    pub undelivered : deliveries_of (other_end from) space n log ≡ []
    pub unheard : WasReceived space n peer → ⊥

  -- nothing was sent under it
  pub record IsUnsent : Type 0 where
    pub none : sends_of from space n log ≡ []
    pub away : IsNotThere

  -- it arrived, and its items were delivered
  pub record HasArrived (items : List ℕ) : Type 0 where
    pub delivered : deliveries_of (other_end from) space n log ≡ items ∷ []
    pub came : Came space n peer

  -- one packet was sent under it, with these items
  pub record WasSentWith (items : List ℕ) : Type 0 where
    pub once : sends_of from space n log ≡ items ∷ []
    pub given : WasSentUnder space n past
    pub small : n < number_limit
    pub arrival : IsNotThere ⊎ HasArrived items

  abbrev pub Travels : Type 0
  Travels = IsUnsent ⊎ (items : List ℕ) × WasSentWith items

-- all numbers of an end
pub record Flows {Q S M P : Type 0} (log : PairLog) (from : End) (past peer : History Q S M P) : Type 0 where
  pub each : (space : SpaceId) (n : ℕ) → Travels log from space n past peer

-- ---- the wire

-- a packet was sent with its items under its number, and all that it acknowledges was delivered to its sender
pub record IsOnWire (log : PairLog) (packet : WirePacket) : Type 0 where
  pub sent : sends_of packet.from packet.space packet.number log ≡ packet.items.items ∷ []
  pub sound : IsSoundFrame packet.ranges.items
  pub acks : (n : ℕ) → IsInAckRanges n packet.ranges.items
      → (items : List ℕ) × (deliveries_of packet.from packet.space n log ≡ items ∷ [])

-- as the log records it
abbrev pub sent_as : WirePacket → LoggedPacket
sent_as packet = record {
  from = packet.from;
  space = packet.space;
  number = packet.number;
  size = packet.size;
  items = packet.items.items;
  largest = largest_of packet.ranges.items;
}

-- ---- one end

-- the address of a client's peer is validated from the start (RFC 9000, 8.1)
abbrev pub validated_first : End → Bool → Bool
validated_first Client validated = true
validated_first Server validated = validated

-- The log and the history of an endpoint agree on what it received, discarded and validated, and on when it sent which
-- ack-eliciting packets, all on its first path. The history counts no more bytes as received than arrived, no fewer as
-- transmitted than were sent, and no fewer in flight. All packets that count in flight are ack-eliciting.
pub record IsLogged {Q S M P : Type 0} (validated : Bool) (log : PairLog) (end : End) (first : Bool)
    (past : History Q S M P) : Type 0 where
  pub came : (space : SpaceId) → came_in space past ≡ numbers_at end space log
  pub discarded : (space : SpaceId) → is_discarded space past ≡ was_discarded end space log
  pub address : is_validated first Current past ≡ has_validated end (validated_first end validated) log
  pub arrived : bytes_received past ≤ bytes_arrived end log
  pub left : bytes_sent end log ≤ bytes_transmitted past
  pub largest : (space : SpaceId) → largest_came space past ≡ largest_new end space log
  pub times : (space : SpaceId) (n : ℕ) → sent_at space past n ≡ time_sent end space n log
  pub elicits : (space : SpaceId) (n : ℕ) → elicits_by space past n ≡ is_eliciting end space n log
  pub paths : paths_made past ≡ 0
  pub flight : (gone : Numbers) → flight_of end (λ window. true) gone log ≤ flight_in gone past
  pub silent : silent_bytes past ≤ 0

module _ {F Q R C K S M P : Type 0} {f : _} {c : _} {q : _} {m : _} {r : _} where
  -- if the last step asked an endpoint for probes in a space, they are due there
  abbrev pub AsksProbes : PairLog → End → Sender F Q R C K S M P f c q m r → Type 0
  AsksProbes log end sender =
      (space : SpaceId) → IsAsked log end space → is_probe_due sender.variables space ≡ true

  -- ---- both ends, as one of them sees it

  pub record IsTiedAt (validated : Bool) (end : End) (log : PairLog) (here there : Sender F Q R C K S M P f c q m r)
      (wire : List WirePacket) : Type 0 where
    pub own : HasPast here
    pub peer : HasPast there
    pub out : Flows log end own.past peer.past
    pub back : Flows log (other_end end) peer.past own.past
    pub logged : IsLogged validated log end own.config.validated own.past
    pub peer_logged : IsLogged validated log (other_end end) peer.config.validated peer.past
    pub listed : wire_of log ≡ map sent_as wire
    pub wired : AllByRecursion (IsOnWire log) wire
    pub within : (one : End) → flight_of one is_some no_numbers log ≤ largest_window one log
    pub own_rise : AcksRise end own.past peer.past wire
    pub peer_rise : AcksRise (other_end end) peer.past own.past wire

-- and what waits at each
module _ {F Q R C K S M : Type 0} {f : _} {c : _} {q : _} {m : _} {r : _} where
  pub record IsTied (validated : Bool) (log : PairLog) (client server : Sender F Q R C K S M (List ℕ) f c q m r)
      (wire : List WirePacket) (client_waits server_waits : List Waiting) : Type 0 where
    pub ends : IsTiedAt validated Client log client server wire
    pub own_waits : AreQueued log Client client_waits
    pub peer_waits : AreQueued log Server server_waits
    pub own_items : CarriesItems log Client (client, client_waits)
    pub peer_items : CarriesItems log Server (server, server_waits)
    pub own_asked : AsksProbes log Client client
    pub peer_asked : AsksProbes log Server server
