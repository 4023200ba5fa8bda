-- The engine of a stack: a bare recovery, or one of a sender.
use Rattle.std.specs.Prelude.{◌≡◌, ℕ, Bool, false, IsFalse, List, [], ◌∷◌, ◌++◌, length, None, is_some, Result, Ok, Err, if◌then◌else◌}
use Rattle.std.specs.Option.{option_map_or}
use Rattle.rand_core.specs.Stream.{Stream}
use Rattle.recovery_events.specs.declared.event.Answer.{Answer}
use Rattle.recovery_events.specs.declared.event.Event.{Event}
use Rattle.recovery_events.specs.declared.event.Event.TheVariants.{Send}
use Rattle.recovery_spaces.specs.Packets.{Packets, packet_at}
use Rattle.recovery_paths.specs.PathStates.{PathMarks}
use Rattle.recovery_paths.specs.declared.path_pair.PathName.{PathName}
use Rattle.recovery_queue.specs.Items.{item_words}
use Rattle.recovery_sender.specs.Calls.{IsNewSender, IsPassedThrough, EventResult}
use Rattle.recovery_sender.specs.Senders.{state_in}
use Rattle.recovery_sender.specs.Established.{IsEstablishedSender}
use Rattle.recovery_sender.specs.declared.sender.acks.Acknowledged.{Acknowledged}
use Rattle.recovery_sender.specs.declared.sender.acks.EcnOutcome.TheVariants.{Quiet}
use Rattle.recovery_sender.specs.declared.sender.losses.Losses.{Losses}
use Rattle.recovery_sender.specs.declared.sender.SenderError.{SenderError}
use Rattle.recovery_sender.specs.declared.sender.SenderError.TheVariants as refused
use Rattle.recovery_losses.specs.declared.variables.Side.{Side}
use Rattle.recovery_history.specs.CallerState.{marks_at, with_marks_at}
use Rattle.recovery_history.specs.History as History
use Rattle.recovery_history.specs.History.{Beginning, begins, queue_model}
use Rattle.recovery_history.specs.RecoveryState.{RecoveryState}
use Rattle.quic_recovery.specs.Live.{AppliesEvent, PreservesPasts}
use Rattle.recovery_history.specs.Reachability.{ReachedBy}
use Rattle.quic_recovery.specs.State.{state_of}
use Rattle.quic_recovery.specs.declared.driver.Recovery.{Recovery}
use Rattle.recovery_history.specs.declared.config.RecoveryConfig.{RecoveryConfig}
use Rattle.recovery_engine.specs.Controllers.{chosen_made, chosen_words}
use Rattle.recovery_engine.specs.declared.controllers.Chosen.{Chosen}
use Rattle.recovery_engine.specs.declared.controllers.ChosenConfig.{ChosenConfig}
use Rattle.recovery_engine.specs.declared.kept.Engine.{Engine}
use Rattle.recovery_engine.specs.declared.kept.Engine.TheVariants.{Alone, Sends}
use Rattle.recovery_engine.specs.declared.kept.Form.{Form}
use Rattle.recovery_engine.specs.declared.kept.Form.TheVariants.{Bare, Handshaking, Established}
use Rattle.recovery_engine.specs.declared.kept.ItemPacket.{ItemPacket}
use Rattle.recovery_engine.specs.declared.sending.LastOutcome.{LastOutcome}

abbrev pub ItemEvent : Type 0
ItemEvent = Event (List ℕ) (Unit {0}) (Unit {0}) (List ℕ)

-- the readable state of an engine
abbrev pub parts_kept : Engine → RecoveryState Chosen (List ℕ) (Unit {0})
parts_kept (Alone recovery) = state_of recovery.recovery
parts_kept (Sends sending) = state_in sending.sender

-- ---- events

-- the event of a sent packet (RFC 9002, A.5)
abbrev pub sends : ItemPacket → ItemEvent
sends packet =
    Send packet.space packet.now packet.size packet.ack_eliciting packet.largest_acked packet.queue tt

-- a bare recovery accepts each event, and a sender those that pass
abbrev pub AcceptsEvent : Engine → ItemEvent → Type 0
AcceptsEvent (Alone recovery) event = Unit {0}
AcceptsEvent (Sends sending) event = IsPassedThrough event

-- a sender passes the event
abbrev pub PassesEvent : Engine → ItemEvent → Type 0
PassesEvent (Alone recovery) event = ⊥
PassesEvent (Sends sending) event = IsPassedThrough event

-- the reply in a sender's form
abbrev pub by_sender : {Q : Type 0} → History.Reply Q → Result (Answer Q) SenderError
by_sender (Ok answer) = Ok answer
by_sender (Err refusal) = Err (refused.Event refusal)

-- a bare recovery applies an event by `LiveRecovery::apply`, one of a sender by `Sender::on_event`
abbrev pub EventOutcome : Engine → ItemEvent → History.Reply (List ℕ) → Engine → Type 0
EventOutcome (Alone old) event reply (Alone new) = AppliesEvent old.recovery event reply new.recovery
EventOutcome (Sends old) event reply (Sends new) =
    EventResult event old.sender new.sender (by_sender reply) × (new.told ≡ old.told)
EventOutcome (Alone old) event reply (Sends new) = ⊥
EventOutcome (Sends old) event reply (Alone new) = ⊥

-- ---- construction

-- the beginning of a run, with the chosen controller and queues of items
abbrev pub beginning : RecoveryConfig ChosenConfig → ℕ → Stream
    → Beginning ChosenConfig Chosen (List ℕ) (Unit {0}) (Unit {0}) (List ℕ)
beginning config now words =
    begins chosen_made chosen_words (queue_model (λ items. items) item_words tt) config now words

-- the outcome has these losses, and no acknowledged numbers
pub record HasLossesOnly (lost : Losses) (told : LastOutcome) : Type 0 where
  pub numbers : told.acked.numbers.items ≡ []
  pub losses : told.acked.losses ≡ lost
  pub ecn : told.acked.ecn ≡ Quiet
  pub packets : told.packets.items ≡ []

-- there was no ACK frame and no loss yet
pub record IsEmptyOutcome (told : LastOutcome) : Type 0 where
  pub numbers : told.acked.numbers.items ≡ []
  pub lost : told.acked.losses.numbers.items ≡ []
  pub probe : told.acked.losses.probe ≡ None
  pub congestion : told.acked.losses.congestion ≡ None
  pub persistent : told.acked.losses.is_persistent ≡ false
  pub black_hole : told.acked.losses.is_black_hole ≡ false
  pub cut : told.acked.losses.is_cut ≡ false
  pub ecn : told.acked.ecn ≡ Quiet
  pub packets : told.packets.items ≡ []

-- a bare recovery without any event
abbrev pub IsFreshAlone : RecoveryConfig ChosenConfig → ℕ → Stream → Engine → Type 0
IsFreshAlone config now words (Alone recovery) = ReachedBy (beginning config now words) [] (state_of recovery.recovery)
IsFreshAlone config now words (Sends sending) = ⊥

-- a sender without any event
abbrev pub IsFreshSender : Side → RecoveryConfig ChosenConfig → ℕ → Stream → Engine → Type 0
IsFreshSender side config now words (Sends sending) =
    IsNewSender side config now words sending.sender × IsEmptyOutcome sending.told
IsFreshSender side config now words (Alone recovery) = ⊥

-- a sender whose handshake is confirmed
abbrev pub IsFreshEstablished : Side → RecoveryConfig ChosenConfig → ℕ → Stream → Engine → Type 0
IsFreshEstablished side config now words (Sends sending) =
    IsEstablishedSender side config now words sending.sender × IsEmptyOutcome sending.told
IsFreshEstablished side config now words (Alone recovery) = ⊥

-- each form without any event
abbrev pub IsFresh : Form → RecoveryConfig ChosenConfig → ℕ → Stream → Engine → Type 0
IsFresh Bare config now words kept = IsFreshAlone config now words kept
IsFresh (Handshaking side) config now words kept = IsFreshSender side config now words kept
IsFresh (Established side) config now words kept = IsFreshEstablished side config now words kept

-- the number of a sender's consecutive probe timeouts (RFC 9002, 6.2.1)
abbrev pub pto_count_of : Engine → ℕ
pto_count_of (Alone recovery) = 0
pto_count_of (Sends sending) = sending.sender.variables.pto_count

-- ---- the caller's marks of a path

-- marks are stored with a path, if it exists; the rest is unchanged, and the properties of the past still hold
pub record MarksRecovery {F Q R C K S M P : Type 0} {f : _} {c : _} {q : _} {m : _} {r : _} (name : PathName)
    (marks : PathMarks) (is_set : Bool) (old new : Recovery F Q R C K S M P f c q m r) : Type 0 where
  pub set : is_set ≡ is_some (marks_at name (state_of old))
  pub after : state_of new ≡ with_marks_at name marks (state_of old)
  pub stays : PreservesPasts old new

-- a sender sets its marks itself
abbrev pub MarksKept : PathName → PathMarks → Bool → Engine → Engine → Type 0
MarksKept name marks is_set (Alone old) (Alone new) = MarksRecovery name marks is_set old.recovery new.recovery
MarksKept name marks is_set (Alone old) (Sends new) = ⊥
MarksKept name marks is_set (Sends old) new = IsFalse is_set × (new ≡ Sends old)

-- ---- the last outcome

-- the numbers that are newly acknowledged, or lost
abbrev pub numbers_of : Bool → Acknowledged → List ℕ
numbers_of lost told = if lost then told.losses.numbers.items else told.numbers.items

abbrev pub numbers_told : Bool → Engine → List ℕ
numbers_told lost (Alone recovery) = []
numbers_told lost (Sends sending) = numbers_of lost sending.told.acked

-- the items that a tracked packet carries
abbrev pub items_of : Packets (List ℕ) (Unit {0}) → ℕ → List ℕ
items_of packets number = option_map_or (λ packet. packet.retransmits) (packet_at packets number) []

-- for each packet: its number, its item count, and its items
abbrev pub packets_listed : Packets (List ℕ) (Unit {0}) → List ℕ → List ℕ
packets_listed packets [] = []
packets_listed packets (number ∷ numbers) =
    (number ∷ length (items_of packets number) ∷ items_of packets number) ++ packets_listed packets numbers

abbrev pub packets_told : Engine → List ℕ
packets_told (Alone recovery) = []
packets_told (Sends sending) = sending.told.packets.items
