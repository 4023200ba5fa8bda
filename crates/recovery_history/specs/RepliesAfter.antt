-- The inputs that a history gives, and the reply to an event by them.
use Rattle.std.specs.Prelude.{None, List, ◌∷◌, ◌++◌, []}
use Rattle.recovery_base.specs.declared.below.SpaceId.{SpaceId}
use Rattle.recovery_base.specs.declared.below.SpaceId.TheVariants.{Data}
use Rattle.recovery_spaces.specs.Acks.{acks_by, counts_by}
use Rattle.recovery_paths.specs.PathStates.{PathState}
use Rattle.recovery_events.specs.declared.event.Event.{Event}
use Rattle.recovery_history.specs.History.{Beginning, History, Reply}
use Rattle.recovery_history.specs.ReplyInputs.{ReplyInputs}
use Rattle.recovery_history.specs.Logs.{onto}
use Rattle.recovery_paths.specs.PathLog.{PathsEntry, PerPath, PathHistory, pasts_by, paths_known_by}
use Rattle.recovery_spaces.specs.SpaceLog.{SpaceEntry}
use Rattle.recovery_ids.specs.LocalIds.{LocalIds, no_ids, with_issued}
use Rattle.recovery_spaces.specs.Queued.{queued_by}
use Rattle.recovery_packet_numbers.specs.Skips.{number_from, skip_before}
use Rattle.recovery_paths.specs.PathMaking.{PathSettings, path_settings, state_fresh}
use Rattle.recovery_spaces.specs.Tracked.{sent_by}
use Rattle.recovery_history.specs.Table.{last_asked, limit, own_ids, ReplyTable, entries_of}
use Rattle.recovery_history.specs.Promises.GivenIds.{ids_held}
use Rattle.recovery_history.specs.Promises.NewNumbers.{is_discarded}
use Rattle.recovery_history.specs.Promises.Timeouts.{timer_value}
use Rattle.recovery_history.specs.Entries.{Entries}

-- ---- the logs of spaces and paths

pub record Logs (P M : Type 0) : Type 0 where
  pub spaces : SpaceId → List (SpaceEntry P M)
  pub paths : List PathsEntry

abbrev pub no_logs : {P M : Type 0} → Logs P M
no_logs = record { spaces = λ space. []; paths = [] }

-- the local IDs at the start
abbrev pub first_ids : {F K Q S M P : Type 0} → Beginning F K Q S M P → LocalIds
first_ids beginning =
    let config = beginning.config in
    with_issued config.issued beginning.start (no_ids config.cid_len config.cid_lifetime)

-- how all paths are made
abbrev pub settings_of : {F K Q S M P : Type 0} → Beginning F K Q S M P → PathSettings K
settings_of beginning =
    path_settings beginning.built beginning.words beginning.config.allow_mtud beginning.config.transport

-- the first path
abbrev pub first_path : {F K Q S M P : Type 0} → Beginning F K Q S M P → PathState K
first_path beginning =
    state_fresh (settings_of beginning) beginning.config.remote beginning.config.validated None beginning.start

-- the inputs after a history with these logs
abbrev pub inputs_with_logs : {F K Q S M P : Type 0} → Beginning F K Q S M P → History Q S M P → Logs P M
    → ReplyInputs K P M
inputs_with_logs beginning history logs =
    let words = beginning.queue.words in let next = (sent_by words (logs.spaces Data)).next in
    record {
      spaces = λ space. record {
        discarded = is_discarded space history;
        counts = counts_by (logs.spaces space);
        sent = sent_by words (logs.spaces space);
        queued = queued_by words (logs.spaces space);
      };
      next_number = number_from beginning.config.skips beginning.random next;
      skipped = skip_before beginning.config.skips beginning.random next;
      last_asked = last_asked history;
      remote_ids = ids_held beginning.config.initial_cid history;
      local_ids = own_ids (first_ids beginning) history;
      timer_value = timer_value history;
      paths = paths_known_by (settings_of beginning) (first_path beginning) logs.paths;
      peer_limit = limit history;
    }

abbrev pub logs_with : {P M : Type 0} → Entries P M → Logs P M → Logs P M
logs_with entries logs =
    record { spaces = λ space. onto (entries.spaces space) (logs.spaces space); paths = entries.paths ++ logs.paths }

-- the logs of a history: the entries of each event, by the inputs from the logs before it
abbrev pub logs_of : {F K Q S M P : Type 0} → Beginning F K Q S M P → History Q S M P → Logs P M
logs_of beginning [] = no_logs
logs_of beginning (happened ∷ earlier) =
    let logs = logs_of beginning earlier in
    logs_with (entries_of beginning.queue (inputs_with_logs beginning earlier logs) happened.0 happened.1) logs

-- the inputs after a history
abbrev pub inputs_after : {F K Q S M P : Type 0} → Beginning F K Q S M P → History Q S M P → ReplyInputs K P M
inputs_after beginning history = inputs_with_logs beginning history (logs_of beginning history)

-- the history of each existing path
abbrev pub pasts_of : {F K Q S M P : Type 0} → Beginning F K Q S M P → History Q S M P → PerPath (PathHistory K)
pasts_of beginning history = pasts_by (settings_of beginning) (first_path beginning) (logs_of beginning history).paths

-- the reply to an event, by the history before it
abbrev pub RepliesAfter : {F K Q S M P : Type 0} → Beginning F K Q S M P → History Q S M P → Event Q S M P → Reply Q
    → Type 0
RepliesAfter beginning history = ReplyTable beginning.queue beginning.words
    (λ space. acks_by beginning.queue.words ((logs_of beginning history).spaces space)) (inputs_after beginning history)
