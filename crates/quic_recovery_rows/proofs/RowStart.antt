-- How the runs of worked rows begin: with the settings of the replay program, over NewReno and queues of numbered
-- items. The rows of the table of replies begin so.
use Rattle.std.proofs.Common.{ℕ, ◌++◌, List, [], ◌∷◌, ◌==◌, length, replicate}
use Rattle.std.specs.declared.net.socket_addr.SocketAddr.{SocketAddr}
use Rattle.rand_core.specs.Stream.{Stream}
use Rattle.recovery_base.specs.declared.below.frames.AckFrequency.{AckFrequency}
use Rattle.recovery_config.specs.Settings.{settings_with}
use Rattle.recovery_congestion.specs.declared.congestion.new_reno.NewReno.{NewReno}
use Rattle.recovery_congestion.specs.NewReno.{reno_made, reno_words}
use Rattle.recovery_congestion.specs.RenoSettings.{RenoSettings, default_reno}
use Rattle.recovery_queue.specs.Queues.{QueueSemantics}
use Rattle.recovery_packet_numbers.specs.declared.filter.Skips.{Skips}
use Rattle.recovery_history.specs.declared.config.RecoveryConfig.{RecoveryConfig}
use Rattle.recovery_events.specs.declared.event.Event.{Event}
use Rattle.recovery_history.specs.Config.{config_with}
use Rattle.recovery_history.specs.History.{Beginning, History, QueueModel, Reply, begins, queue_model}
use Rattle.recovery_history.specs.RepliesAfter.{RepliesAfter}

-- numbered items; others are appended
abbrev pub item_words : QueueSemantics (List ℕ) (Unit {0})
item_words = record {
  empty = [];
  joined = λ items others. items ++ others;
  is_empty = λ items streams.
      length items == 0;
}

abbrev pub items : QueueModel (List ℕ) (Unit {0}) (Unit {0}) (List ℕ)
items = queue_model (λ queue. queue) item_words tt

abbrev pub RowEvent : Type 0
RowEvent = Event (List ℕ) (Unit {0}) (Unit {0}) (List ℕ)

abbrev pub RowReply : Type 0
RowReply = Reply (List ℕ)

abbrev pub RowHistory : Type 0
RowHistory = History (List ℕ) (Unit {0}) (Unit {0}) (List ℕ)

-- ACKs may wait for three packets, and for a gap of two
abbrev pub ack_frame : ℕ → ℕ → AckFrequency
ack_frame sequence delay = record {
  sequence = sequence;
  ack_eliciting_threshold = 3;
  request_max_ack_delay = delay;
  reordering_threshold = 2;
}

-- a run begins with IDs of this length, and with these skips
abbrev pub row_config : SocketAddr → ℕ → Skips → RecoveryConfig RenoSettings
row_config remote cid_len skips = record (config_with (settings_with default_reno) remote (replicate 8 255)) {
  cid_len = cid_len;
  skips = skips;
}

abbrev pub RowStart : Type 0
RowStart = Beginning RenoSettings NewReno (List ℕ) (Unit {0}) (Unit {0}) (List ℕ)

-- whatever the peer's address and the random words from which skips are drawn
abbrev pub row_start : SocketAddr → Stream → ℕ → Skips → RowStart
row_start remote random cid_len skips = begins reno_made reno_words items (row_config remote cid_len skips) 0 random

-- each event of a history has a reply that follows from those before it
abbrev pub AllTold : RowStart → RowHistory → Type 0
AllTold start [] = Unit {0}
AllTold start (happened ∷ earlier) = AllTold start earlier × RepliesAfter start earlier happened.0 happened.1

-- what was before, followed by what is next
infixl 5 ◌⊳◌
pub ◌⊳◌ : {A B : Type 0} → A → B → A × B
before ⊳ next = (before, next)
