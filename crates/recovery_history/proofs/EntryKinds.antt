-- The kinds of entries that an event may make in the log of a space and in that of the paths. A law over such a log
-- names the events of the kinds that it reads; other events preserve it (`space_kept`, `paths_kept`).
use Rattle.std.proofs.Common.{arith, ◌≡◌, ◌==◌, ℕ, ◌&&◌, Bool, true, false, cond, List, [], ◌∷◌, ◌++◌, Option, None, Some, Ok, Err}
use Rattle.std.proofs.lemmas.Bool.{and_parts}
use Rattle.recovery_base.specs.declared.below.SpaceId.{SpaceId}
use Rattle.recovery_base.specs.declared.below.SpaceId.TheVariants.{Data}
use Rattle.recovery_base.specs.Spaces.{same_space}
use Rattle.recovery_spaces.specs.Packets.{Packet, packet_at}
use Rattle.recovery_spaces.specs.SpaceLog.{SpaceEntry, heard, heard_again, sends, acknowledged, loses, probes, takes_pending, feeds_back, emptied, ack_goes, ack_is_late, asked}
use Rattle.recovery_congestion.specs.Calls.{ControllerCall, congests}
use Rattle.recovery_mtud.specs.Discovery.{reports}
use Rattle.recovery_mtud.specs.DiscoveryLog.{MtuCall, is_found, is_limited, losses_end, acks as acks_packet, loses as loses_packet, loses_probe}
use Rattle.recovery_paths.specs.declared.path_pair.PathName.TheVariants.{Current, Previous}
use Rattle.recovery_paths.specs.PathLog.{PathsEntry, on, moves, drops_previous, on_current, receives, is_validated, samples, tells, searches, asks, transmits, passes, is_reset, reverts}
use Rattle.recovery_paths.specs.PathStates.{is_path_probe}
use Rattle.recovery_events.specs.declared.event.Event.{Event}
use Rattle.recovery_events.specs.declared.event.Event.TheVariants.{Received, Send, Acked, Lost, AckFrequencyIn, AcksSent, AckDelayTimeout, DiscardSpace, DatagramIn, Validated, Sample, Transmit, PacerCheck, Congestion, EndAcks, PollMtu, PeerLimit, MtuFound, LossesDone, Ecn, QueueProbe, TakePending, NewPath, ResetPath, DropPrevious, RevertPath}
use Rattle.recovery_events.specs.declared.event.Answer.TheVariants.{New, Flag, Transmitted, Delayed, Probe}
use Rattle.recovery_history.specs.Table.{entries_of}
use Rattle.recovery_history.specs.Entries.{acked_entry, acked_search, lost_search, searched}
use Rattle.recovery_history.specs.History.{QueueModel, Reply}
use Rattle.recovery_history.specs.ReplyInputs.{ReplyInputs, tracked_known}

-- ---- kinds

pub data SpaceKind : Type 0 where
  hearing sending acknowledging losing probing taking : SpaceKind
  counting emptying answering delaying requesting idling : SpaceKind

abbrev pub space_kind : {P M : Type 0} → SpaceEntry P M → SpaceKind
space_kind (heard now number eliciting) = hearing
space_kind (heard_again number) = hearing
space_kind (sends number packet) = sending
space_kind (acknowledged number) = acknowledging
space_kind (loses number) = losing
space_kind (probes immediate found) = probing
space_kind takes_pending = taking
space_kind (feeds_back counts) = counting
space_kind emptied = emptying
space_kind ack_goes = answering
space_kind ack_is_late = delaying
space_kind (asked frame) = requesting

-- no packet is sent
abbrev pub sends_none : SpaceKind → Bool
sends_none sending = false
sends_none kind = true

-- nor does one leave
abbrev pub keeps_packets : SpaceKind → Bool
keeps_packets sending = false
keeps_packets acknowledging = false
keeps_packets losing = false
keeps_packets emptying = false
keeps_packets kind = true

-- the search gets a report that a packet left, of a limit, or another one; what happens on the previous path is
-- elsewhere
pub data PathKind : Type 0 where
  receiving validating sampling telling congesting departing limiting searching : PathKind
  asking transmitting passing resetting moving dropping returning elsewhere : PathKind

abbrev pub call_kind : MtuCall → PathKind
call_kind (acks_packet number bytes) = departing
call_kind (loses_packet number bytes) = departing
call_kind loses_probe = departing
call_kind (is_limited limit) = limiting
call_kind call = searching

-- the controller is told of congestion, or of something else
abbrev pub tell_kind : ControllerCall → PathKind
tell_kind (congests now sent persistent lost) = congesting
tell_kind call = telling

abbrev pub path_kind : PathsEntry → PathKind
path_kind (on name (receives bytes)) = receiving
path_kind (on name is_validated) = validating
path_kind (on Previous entry) = elsewhere
path_kind (on Current (samples delay rtt)) = sampling
path_kind (on Current (tells call)) = tell_kind call
path_kind (on Current (searches call)) = call_kind call
path_kind (on Current (asks now bytes)) = asking
path_kind (on Current (transmits bytes)) = transmitting
path_kind (on Current (passes now bytes)) = passing
path_kind (on Current (is_reset now)) = resetting
path_kind (moves following) = moving
path_kind drops_previous = dropping
path_kind (reverts limit) = returning

-- ---- the kinds of an event, by the event alone

module _ {Q S M P : Type 0} where
  abbrev pub kind_of : Event Q S M P → SpaceKind
  kind_of (Received space now number eliciting) = hearing
  kind_of (Send space now size eliciting largest queue frames) = sending
  kind_of (Acked space now number app_limited) = acknowledging
  kind_of (Lost space number) = losing
  kind_of (AckFrequencyIn frame) = requesting
  kind_of (AcksSent space) = answering
  kind_of (AckDelayTimeout space) = delaying
  kind_of (DiscardSpace space) = emptying
  kind_of (PollMtu now) = sending
  kind_of (Ecn space newly counts) = counting
  kind_of (QueueProbe space immediate streams) = probing
  kind_of (TakePending space) = taking
  kind_of event = idling

  -- whether all its entries in the paths are of these kinds
  abbrev pub is_by : (PathKind → Bool) → Event Q S M P → Bool
  is_by is (Send space now size eliciting largest queue frames) = is telling
  is_by is (Acked space now number app_limited) = is telling && is departing
  is_by is (Lost space number) = is departing
  is_by is (DatagramIn path bytes) = is receiving
  is_by is (Validated path) = is validating
  is_by is (Sample delay rtt) = is sampling
  is_by is (Transmit now bytes checked) = is transmitting && (is passing && is asking)
  is_by is (PacerCheck now bytes) = is asking
  is_by is (Congestion now sent persistent bytes) = is congesting
  is_by is (EndAcks now app_limited largest) = is telling
  is_by is (PollMtu now) = is telling && is searching
  is_by is (PeerLimit size) = is limiting
  is_by is (MtuFound mtu) = is telling && is searching
  is_by is (LossesDone now) = is telling && is searching
  is_by is (NewPath now remote is_fresh) = is moving
  is_by is (ResetPath now) = is resetting
  is_by is DropPrevious = is dropping
  is_by is RevertPath = is returning
  is_by is event = true

-- ---- in one space

module _ {K Q S M P : Type 0} (q : QueueModel Q S M P) (known : ReplyInputs K P M) (space : SpaceId)
    (IsKept : Option (SpaceEntry P M) → Type 0) (is_idle : SpaceKind → Bool)
    (none : IsKept None)
    (each : (entry : SpaceEntry P M) → is_idle (space_kind entry) ≡ true → IsKept (Some entry)) where
  pick : (there : SpaceId) (entry : SpaceEntry P M) → is_idle (space_kind entry) ≡ true
      → IsKept (cond (same_space there space) (Some entry) None)
  pick there entry idle = grind (arith, each entry idle, none)

  -- what holds for no entry, and for entries of some kinds, holds for the entries of events of those kinds
  pub space_kept : (event : Event Q S M P) (reply : Reply Q) → is_idle (kind_of event) ≡ true
      → IsKept ((entries_of q known event reply).spaces space)
  space_kept (Received there now number eliciting) (Ok (New arm)) idle = pick there _ idle
  space_kept (AckFrequencyIn frame) (Ok (Flag true)) idle = pick Data _ idle
  space_kept (PollMtu now) (Ok (Probe number size)) idle = pick Data _ idle
  space_kept (Transmit now bytes true) (Ok Transmitted) idle = none
  space_kept event (Ok answer) idle = search (pick, none)
  space_kept event (Err refusal) idle = none

-- ---- on the paths

module _ {K Q S M P : Type 0} (q : QueueModel Q S M P) (known : ReplyInputs K P M) (IsKept : List PathsEntry → Type 0)
    (is : PathKind → Bool) (none : IsKept [])
    (each : (entry : PathsEntry) (earlier : List PathsEntry) → is (path_kind entry) ≡ true → IsKept earlier
    → IsKept (entry ∷ earlier)) where
  told : (call : ControllerCall) (earlier : List PathsEntry) → is (tell_kind call) ≡ true → IsKept earlier
      → IsKept (on_current (tells call) ∷ earlier)
  told call earlier quiet kept = each _ earlier quiet kept

  one : (entry : PathsEntry) → is (path_kind entry) ≡ true → IsKept (entry ∷ [])
  one entry quiet = each entry [] quiet none

  changed : (changes : Bool) (call : MtuCall) → is telling ≡ true → is (call_kind call) ≡ true
      → IsKept (searched known changes call)
  changed true call quiet sees = told _ _ quiet (one _ sees)
  changed false call quiet sees = one _ sees

  told_if : (own : Bool) (call : ControllerCall) (earlier : List PathsEntry) → is (tell_kind call) ≡ true
      → IsKept earlier
      → IsKept (cond own (on_current (tells call) ∷ []) [] ++ earlier)
  told_if own call earlier quiet kept = grind (arith, told call earlier quiet kept, kept)

  in_data : (is_data : Bool) (entries : List PathsEntry) → IsKept entries → IsKept (cond is_data entries [])
  in_data is_data entries kept = grind (arith, kept, none)

  acked_kept : (space : SpaceId) (now number : ℕ) (app_limited : Bool) (packet : Option (Packet P M))
      → is telling ≡ true → is departing ≡ true
      → IsKept (acked_entry known now app_limited packet ++ acked_search known space number packet)
  acked_kept space now number app_limited None quiet departs = none
  acked_kept space now number app_limited (Some packet) quiet departs =
      told_if (packet.path_generation == known.paths.current.generation && packet.ack_eliciting) _
      (acked_search known space number (Some packet)) quiet
      (in_data (same_space space Data) _ (changed (is_path_probe space number known.paths.current.state)
      (acks_packet number packet.size) quiet departs))

  lost_kept : (space : SpaceId) (number : ℕ) (packet : Option (Packet P M)) → is departing ≡ true
      → IsKept (lost_search known space number packet)
  lost_kept space number None departs = none
  lost_kept space number (Some packet) departs =
      in_data (same_space space Data) _ (grind (
        arith,
        one (on_current (searches loses_probe)) departs,
        one (on_current (searches (loses_packet number packet.size))) departs,
      ))

  -- what holds for no entry, and for one more of some kinds, holds for the entries of events of those kinds
  pub paths_kept : (event : Event Q S M P) (reply : Reply Q) → is_by is event ≡ true
      → IsKept (entries_of q known event reply).paths
  paths_kept (Acked space now number app_limited) (Ok answer) quiet =
      acked_kept space now number app_limited (packet_at (tracked_known known space) number) (grind (arith, quiet))
      (grind (arith, quiet))
  paths_kept (Lost space number) (Ok answer) quiet =
      lost_kept space number (packet_at (tracked_known known space) number) quiet
  paths_kept (Transmit now bytes true) (Ok Transmitted) quiet =
      one (on_current (passes now bytes)) (grind (arith, quiet))
  paths_kept (Transmit now bytes true) (Ok (Delayed until)) quiet =
      one (on_current (asks now bytes)) (grind (arith, quiet))
  paths_kept (Transmit now bytes false) (Ok answer) quiet = one (on_current (transmits bytes)) (grind (arith, quiet))
  paths_kept (PollMtu now) (Ok (Probe number size)) quiet =
      let both = and_parts (is telling) (is searching) quiet in each _ _ both.1 (one _ both.0)
  paths_kept (PollMtu now) (Ok answer) quiet = one _ (and_parts (is telling) (is searching) quiet).1
  paths_kept (MtuFound mtu) (Ok answer) quiet =
      let both = and_parts (is telling) (is searching) quiet in changed true (is_found mtu) both.0 both.1
  paths_kept (LossesDone now) (Ok answer) quiet =
      let both = and_parts (is telling) (is searching) quiet in
      changed (reports known.paths.current.state.discovery) (losses_end now) both.0 both.1
  paths_kept (Received space now number eliciting) (Ok (New arm)) quiet = none
  paths_kept (AckFrequencyIn frame) (Ok (Flag true)) quiet = none
  paths_kept event (Ok answer) quiet = search (one, none)
  paths_kept event (Err refusal) quiet = none
