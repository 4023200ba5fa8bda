-- How a line encodes an event: this is the grammar of scripts.
use Rattle.std.specs.Prelude.{◌≡◌, ℕ, ◌+◌, ◌<◌, ◌≤◌, ◌⊎◌, List, [], ◌∷◌, length, map, get_or, replicate, decimal, refl}
use Rattle.std.specs.List.{range_with_len}
use Rattle.std.specs.Global.{Vec}
use Rattle.std.specs.declared.net.ip_addr.IpAddr.TheVariants.{V4}
use Rattle.std.specs.declared.net.ipv4_addr.Ipv4Addr.{Ipv4Addr}
use Rattle.std.specs.declared.net.socket_addr.SocketAddr.{SocketAddr}
use Rattle.std.specs.Net.Addr.{ipv4_octets}
use Rattle.std.specs.Net.Socket.{socket_ip, socket_port}
use lib.Chars.{codes}
use Rattle.recovery_base.specs.declared.below.ids.IssuedCid.{IssuedCid}
use Rattle.recovery_events.specs.declared.event.Event.{Event}
use Rattle.recovery_events.specs.declared.event.Event.TheVariants.{Received, Send, Acked, Lost}
use Rattle.recovery_events.specs.declared.event.Event.TheVariants.{NewId, NextId, InitialId, IssueIds}
use Rattle.recovery_events.specs.declared.event.Event.TheVariants.{IdTimeout, PeerRetired}
use Rattle.recovery_events.specs.declared.event.Event.TheVariants.{AckFrequencyIn, AcksSent}
use Rattle.recovery_events.specs.declared.event.Event.TheVariants.{AckDelayTimeout, SetTimer}
use Rattle.recovery_events.specs.declared.event.Event.TheVariants.{StopTimer, NextTimeout}
use Rattle.recovery_events.specs.declared.event.Event.TheVariants.{DiscardSpace, InFlight}
use Rattle.recovery_events.specs.declared.event.Event.TheVariants.{Sample, DatagramIn, Validated}
use Rattle.recovery_events.specs.declared.event.Event.TheVariants.{Transmit, PacerCheck}
use Rattle.recovery_events.specs.declared.event.Event.TheVariants.{Congestion, EndAcks}
use Rattle.recovery_events.specs.declared.event.Event.TheVariants.{PollMtu, PeerLimit, MtuFound, LossesDone}
use Rattle.recovery_events.specs.declared.event.Event.TheVariants.{Ecn, CheckAck}
use Rattle.recovery_events.specs.declared.event.Event.TheVariants.{QueueProbe, TakePending}
use Rattle.recovery_events.specs.declared.event.Event.TheVariants.{NewPath, ResetPath, DropPrevious, RevertPath}
use Rattle.recovery_base.specs.declared.timer.Timer.TheVariants.{Idle}
use Rattle.recovery_base.specs.Units.{u64_limit}
use Rattle.recovery_base.specs.Ids.{reset_token_size}
use Rattle.recovery_script_syntax.specs.declared.forms.Line.{Line}
use Rattle.recovery_script_syntax.specs.declared.forms.Line.TheVariants.{Said, Ids, Path}
use Rattle.recovery_script_syntax.specs.Fields.{Field, Values, words_for, AllFitFieldTypes}
use Rattle.recovery_script_syntax.specs.Forms.{Form, FormValues, plain_form}
use Rattle.recovery_script_syntax.specs.Fields.{Tail, no_tail, an_item_tail}
use Rattle.recovery_script_syntax.specs.Fields.{a_space, a_timer, a_path, a_flag, a_largest}
use Rattle.recovery_script_syntax.specs.Fields.{a_u64, a_span, a_u16, a_var_int, a_byte, a_count}
use Rattle.recovery_script_syntax.specs.Words.{words_of, longest_line, most_ids}

-- the events of a script: the contents of a packet are a list of items
abbrev pub ItemEvent : Type 0
ItemEvent = Event (List ℕ) (Unit {0}) (Unit {0}) (List ℕ)

-- ---- ids

-- the ID and the token that a byte fills
abbrev pub id_of : ℕ → List ℕ
id_of byte = replicate 8 byte

abbrev pub token_of : ℕ → List ℕ
token_of byte = replicate reset_token_size byte

-- the first byte of an ID
abbrev pub byte_of : List ℕ → ℕ
byte_of id = get_or id 0 0

-- IDs of zero bytes that the local endpoint issues, this many from a number on
abbrev pub zero_id : ℕ → IssuedCid
zero_id number = record { sequence = number; id = id_of 0; reset_token = token_of 0 }

abbrev pub zero_ids : ℕ → ℕ → List IssuedCid
zero_ids first count = map zero_id (range_with_len first count)

-- the number of the first ID; if there is none, the line has one that the event does not store
abbrev pub first_number : ℕ → List IssuedCid → ℕ
first_number unkept [] = unkept
first_number unkept (id ∷ ids) = id.sequence

-- ---- addresses

-- the address is 192.0.2.1, which is reserved for documentation (RFC 5737, 3), with this port
pub record IsDocumentationAddress (port : ℕ) (remote : SocketAddr) : Type 0 where
  pub ip : Ipv4Addr
  pub octets : ipv4_octets ip ≡ 192 ∷ 0 ∷ 2 ∷ 1 ∷ []
  pub address : socket_ip remote ≡ V4 ip
  pub at : socket_port remote ≡ port

-- ---- lines

-- What a parsed line means: an event, an event with IDs whose last one has a number, or one of a path to a port.
abbrev pub DenotesEvent : Line → ItemEvent → Type 0
DenotesEvent (Said said) event = event ≡ said
DenotesEvent (Ids now first count) event =
    (ids : Vec IssuedCid) × (event ≡ IssueIds now ids) × (ids.items ≡ zero_ids first count)
    × (first + count ≤ u64_limit)
DenotesEvent (Path now port fresh) event =
    (remote : SocketAddr) × (event ≡ NewPath now remote fresh) × IsDocumentationAddress port remote

-- the forms of events
abbrev pub EventForm : Type 0
EventForm = Form Line

-- fields that make an event, after a name
abbrev pub form_of : List ℕ → (fields : List Field) → (Values no_tail fields → ItemEvent) → EventForm
form_of name fields event = plain_form name fields (λ x. Said (event x))

abbrev pub received : EventForm
received = form_of (codes "received") (a_space ∷ a_u64 ∷ a_u64 ∷ a_flag ∷ [])
    (λ x. Received x.0 x.1.0 x.1.1.0 x.1.1.1.0)

-- its fields are followed by the items of the packet's queue, in their order
abbrev pub send : EventForm
send = record {
  name = codes "send";
  fields = a_space ∷ a_u64 ∷ a_u16 ∷ a_flag ∷ a_largest ∷ [];
  tail = an_item_tail;
  make = λ x. Said (Send x.0 x.1.0 x.1.1.0 x.1.1.1.0 x.1.1.1.1.0 x.1.1.1.1.1 tt);
}

abbrev pub acked : EventForm
acked = form_of (codes "acked") (a_space ∷ a_u64 ∷ a_u64 ∷ a_flag ∷ []) (λ x. Acked x.0 x.1.0 x.1.1.0 x.1.1.1.0)

abbrev pub lost : EventForm
lost = form_of (codes "lost") (a_space ∷ a_u64 ∷ []) (λ x. Lost x.0 x.1.0)

abbrev pub new_id : EventForm
new_id = form_of (codes "new-id") (a_u64 ∷ a_u64 ∷ a_byte ∷ [])
    (λ x. NewId (record {
      sequence = x.0;
      retire_prior_to = x.1.0;
      id = id_of x.1.1.0;
      reset_token = token_of x.1.1.0;
    }))

abbrev pub next_id : EventForm
next_id = form_of (codes "next-id") [] (λ x. NextId)

abbrev pub initial_id : EventForm
initial_id = form_of (codes "initial-id") (a_byte ∷ []) (λ x. InitialId (id_of x.0))

abbrev pub issue_ids : EventForm
issue_ids = record {
  name = codes "issue-ids";
  fields = a_u64 ∷ a_u64 ∷ a_count ∷ [];
  tail = no_tail;
  make = λ x. Ids x.0 x.1.0 x.1.1.0;
}

abbrev pub id_timeout : EventForm
id_timeout = form_of (codes "id-timeout") [] (λ x. IdTimeout)

abbrev pub peer_retired : EventForm
peer_retired = form_of (codes "peer-retired") (a_u64 ∷ a_u64 ∷ []) (λ x. PeerRetired x.0 x.1.0)

abbrev pub ack_frequency : EventForm
ack_frequency = form_of (codes "ack-frequency") (a_var_int ∷ a_var_int ∷ a_var_int ∷ a_var_int ∷ [])
    (λ x. AckFrequencyIn (record {
      sequence = x.0;
      ack_eliciting_threshold = x.1.0;
      request_max_ack_delay = x.1.1.0;
      reordering_threshold = x.1.1.1.0;
    }))

abbrev pub acks_sent : EventForm
acks_sent = form_of (codes "acks-sent") (a_space ∷ []) (λ x. AcksSent x.0)

abbrev pub ack_delay_timeout : EventForm
ack_delay_timeout = form_of (codes "ack-delay-timeout") (a_space ∷ []) (λ x. AckDelayTimeout x.0)

abbrev pub set_timer : EventForm
set_timer = form_of (codes "set-timer") (a_timer ∷ a_u64 ∷ []) (λ x. SetTimer x.0 x.1.0)

abbrev pub stop_timer : EventForm
stop_timer = form_of (codes "stop-timer") (a_timer ∷ []) (λ x. StopTimer x.0)

abbrev pub next_timeout : EventForm
next_timeout = form_of (codes "next-timeout") [] (λ x. NextTimeout)

abbrev pub discard : EventForm
discard = form_of (codes "discard") (a_space ∷ []) (λ x. DiscardSpace x.0)

abbrev pub in_flight : EventForm
in_flight = form_of (codes "in-flight") (a_path ∷ []) (λ x. InFlight x.0)

abbrev pub sample : EventForm
sample = form_of (codes "sample") (a_span ∷ a_span ∷ []) (λ x. Sample x.0 x.1.0)

abbrev pub datagram_in : EventForm
datagram_in = form_of (codes "datagram-in") (a_path ∷ a_u64 ∷ []) (λ x. DatagramIn x.0 x.1.0)

abbrev pub validated : EventForm
validated = form_of (codes "validated") (a_path ∷ []) (λ x. Validated x.0)

abbrev pub transmit : EventForm
transmit = form_of (codes "transmit") (a_u64 ∷ a_u16 ∷ a_flag ∷ [])
    (λ x. Transmit x.0 x.1.0 x.1.1.0)

abbrev pub pacer_check : EventForm
pacer_check = form_of (codes "pacer-check") (a_u64 ∷ a_u64 ∷ []) (λ x. PacerCheck x.0 x.1.0)

abbrev pub congestion : EventForm
congestion = form_of (codes "congestion") (a_u64 ∷ a_u64 ∷ a_flag ∷ a_u64 ∷ [])
    (λ x. Congestion x.0 x.1.0 x.1.1.0 x.1.1.1.0)

abbrev pub end_acks : EventForm
end_acks = form_of (codes "end-acks") (a_u64 ∷ a_flag ∷ a_largest ∷ [])
    (λ x. EndAcks x.0 x.1.0 x.1.1.0)

abbrev pub poll_mtu : EventForm
poll_mtu = form_of (codes "poll-mtu") (a_u64 ∷ []) (λ x. PollMtu x.0)

abbrev pub peer_limit : EventForm
peer_limit = form_of (codes "peer-limit") (a_u16 ∷ []) (λ x. PeerLimit x.0)

abbrev pub mtu_found : EventForm
mtu_found = form_of (codes "mtu-found") (a_u16 ∷ []) (λ x. MtuFound x.0)

abbrev pub losses_done : EventForm
losses_done = form_of (codes "losses-done") (a_u64 ∷ []) (λ x. LossesDone x.0)

abbrev pub ecn : EventForm
ecn = form_of (codes "ecn") (a_space ∷ a_u64 ∷ a_u64 ∷ a_u64 ∷ a_u64 ∷ [])
    (λ x. Ecn x.0 x.1.0 (record { ect0 = x.1.1.0; ect1 = x.1.1.1.0; ce = x.1.1.1.1.0 }))

abbrev pub check_ack : EventForm
check_ack = form_of (codes "check-ack") (a_space ∷ a_u64 ∷ a_u64 ∷ [])
    (λ x. CheckAck x.0 x.1.0 x.1.1.0)

abbrev pub queue_probe : EventForm
queue_probe = form_of (codes "queue-probe") (a_space ∷ a_flag ∷ []) (λ x. QueueProbe x.0 x.1.0 tt)

abbrev pub take_pending : EventForm
take_pending = form_of (codes "take-pending") (a_space ∷ []) (λ x. TakePending x.0)

abbrev pub new_path : EventForm
new_path = record {
  name = codes "new-path";
  fields = a_u64 ∷ a_u16 ∷ a_flag ∷ [];
  tail = no_tail;
  make = λ x. Path x.0 x.1.0 x.1.1.0;
}

abbrev pub reset_path : EventForm
reset_path = form_of (codes "reset-path") (a_u64 ∷ []) (λ x. ResetPath x.0)

abbrev pub drop_previous : EventForm
drop_previous = form_of (codes "drop-previous") [] (λ x. DropPrevious)

abbrev pub revert_path : EventForm
revert_path = form_of (codes "revert-path") [] (λ x. RevertPath)

-- those that have no items
abbrev pub forms_without_items : List EventForm
forms_without_items = received ∷ acked ∷ lost
    ∷ new_id ∷ next_id ∷ initial_id ∷ issue_ids ∷ id_timeout ∷ peer_retired
    ∷ ack_frequency ∷ acks_sent ∷ ack_delay_timeout
    ∷ set_timer ∷ stop_timer ∷ next_timeout
    ∷ discard ∷ in_flight
    ∷ sample ∷ datagram_in ∷ validated ∷ transmit ∷ pacer_check ∷ congestion ∷ end_acks
    ∷ poll_mtu ∷ peer_limit ∷ mtu_found ∷ losses_done
    ∷ ecn ∷ check_ack ∷ queue_probe ∷ take_pending ∷ new_path ∷ reset_path ∷ drop_previous
    ∷ revert_path ∷ []

abbrev pub forms : List EventForm
forms = send ∷ forms_without_items

-- ---- how an event is encoded

-- the form of an event's line and the values of its fields, with a number for what an event does not store
abbrev pub saying : ℕ → ItemEvent → (form : EventForm) × FormValues form
saying unkept (Received space now number ack_eliciting) = (received, (space, (now, (number, (ack_eliciting, tt)))))
saying unkept (Send space now size ack_eliciting largest_acked items none) =
    (send, (space, (now, (size, (ack_eliciting, (largest_acked, items))))))
saying unkept (Acked space now number app_limited) = (acked, (space, (now, (number, (app_limited, tt)))))
saying unkept (Lost space number) = (lost, (space, (number, tt)))
saying unkept (NewId frame) = (new_id, (frame.sequence, (frame.retire_prior_to, (byte_of frame.id, tt))))
saying unkept NextId = (next_id, tt)
saying unkept (InitialId id) = (initial_id, (byte_of id, tt))
saying unkept (IssueIds now ids) =
    (issue_ids, (now, (first_number unkept ids.items, (length ids.items, tt))))
saying unkept IdTimeout = (id_timeout, tt)
saying unkept (PeerRetired sequence limit) = (peer_retired, (sequence, (limit, tt)))
saying unkept (AckFrequencyIn frame) = (
  ack_frequency,
  (
    frame.sequence,
    (frame.ack_eliciting_threshold, (frame.request_max_ack_delay, (frame.reordering_threshold, tt))),
  ),
)
saying unkept (AcksSent space) = (acks_sent, (space, tt))
saying unkept (AckDelayTimeout space) = (ack_delay_timeout, (space, tt))
saying unkept (SetTimer timer time) = (set_timer, (timer, (time, tt)))
saying unkept (StopTimer timer) = (stop_timer, (timer, tt))
saying unkept NextTimeout = (next_timeout, tt)
saying unkept (DiscardSpace space) = (discard, (space, tt))
saying unkept (InFlight path) = (in_flight, (path, tt))
saying unkept (Sample delay rtt) = (sample, (delay, (rtt, tt)))
saying unkept (DatagramIn path bytes) = (datagram_in, (path, (bytes, tt)))
saying unkept (Validated path) = (validated, (path, tt))
saying unkept (Transmit now bytes checked) = (transmit, (now, (bytes, (checked, tt))))
saying unkept (PacerCheck now bytes) = (pacer_check, (now, (bytes, tt)))
saying unkept (Congestion now sent persistent bytes) =
    (congestion, (now, (sent, (persistent, (bytes, tt)))))
saying unkept (EndAcks now app_limited largest) =
    (end_acks, (now, (app_limited, (largest, tt))))
saying unkept (PollMtu now) = (poll_mtu, (now, tt))
saying unkept (PeerLimit size) = (peer_limit, (size, tt))
saying unkept (MtuFound mtu) = (mtu_found, (mtu, tt))
saying unkept (LossesDone now) = (losses_done, (now, tt))
saying unkept (Ecn space newly_acked counts) =
    (ecn, (space, (newly_acked, (counts.ect0, (counts.ect1, (counts.ce, tt))))))
saying unkept (CheckAck space low high) = (check_ack, (space, (low, (high, tt))))
saying unkept (QueueProbe space immediate_ack none) = (queue_probe, (space, (immediate_ack, tt)))
saying unkept (TakePending space) = (take_pending, (space, tt))
saying unkept (NewPath now remote fresh) = (new_path, (now, (socket_port remote, (fresh, tt))))
saying unkept (ResetPath now) = (reset_path, (now, tt))
saying unkept DropPrevious = (drop_previous, tt)
saying unkept RevertPath = (revert_path, tt)

-- a form with values, as words
abbrev pub words_said : (form : EventForm) × FormValues form → List (List ℕ)
words_said said = said.0.name ∷ words_for said.0.tail said.0.fields said.1

-- an event as words
abbrev pub encoding_of : ℕ → ItemEvent → List (List ℕ)
encoding_of unkept event = words_said (saying unkept event)

-- as in 'set-timer idle 50'
set_timer-spelling : encoding_of 0 (SetTimer Idle 50) ≡ codes "set-timer" ∷ codes "idle" ∷ decimal 50 ∷ []
set_timer-spelling = refl

-- The values of an event's line are within the types of their fields, and the line with these values means the event.
-- One byte fills an ID and its token, issued IDs have zero bytes and consecutive numbers, and a path is to 192.0.2.1.
abbrev pub IsWithinTypes : ℕ → ItemEvent → Type 0
IsWithinTypes unkept event =
    let said = saying unkept event in
    AllFitFieldTypes said.0.tail said.0.fields said.1 × DenotesEvent (said.0.make said.1) event

-- a line encodes an event
pub record EncodesEvent (line : List ℕ) (event : ItemEvent) : Type 0 where
  pub unkept : ℕ
  pub words : words_of line ≡ encoding_of unkept event
  pub within : IsWithinTypes unkept event
  pub short : length line ≤ longest_line

-- the line issues one or more IDs, of which each has a number
pub record IsIssueLine (line : List ℕ) : Type 0 where
  pub now : ℕ
  pub first : ℕ
  pub count : ℕ
  pub words : words_of line ≡ words_said (issue_ids, (now, (first, (count, tt))))
  pub time : now < u64_limit
  pub some : 0 < count
  pub few : count ≤ most_ids
  pub bound : first + count ≤ u64_limit
  pub short : length line ≤ longest_line

-- the line sends a packet with one or more items
pub record SendsItems (line : List ℕ) : Type 0 where
  pub values : FormValues send
  pub words : words_of line ≡ words_said (send, values)
  pub fit : AllFitFieldTypes send.tail send.fields values
  pub some : 0 < length values.1.1.1.1.1
  pub short : length line ≤ longest_line

-- the line has one or more items, for which memory was allocated
abbrev pub TookMemory : Line → Type 0
TookMemory (Said (Send space now size ack_eliciting largest items none)) = 0 < length items
TookMemory line = ⊥

-- the line's event has a non-empty list of IDs or items
abbrev pub HoldsList : List ℕ → Type 0
HoldsList line = IsIssueLine line ⊎ SendsItems line

-- the same IDs are issued at the same time, wherever their list is in memory
abbrev pub IssueAlike : ItemEvent → ItemEvent → Type 0
IssueAlike (IssueIds now ids) (IssueIds then others) = (now ≡ then) × (ids.items ≡ others.items)
IssueAlike first second = ⊥

-- Two values of the same event. Only the items of a queue are visible, so that packets with the same items are equal.
abbrev pub IsSameEvent : ItemEvent → ItemEvent → Type 0
IsSameEvent first second = (first ≡ second) ⊎ IssueAlike first second
