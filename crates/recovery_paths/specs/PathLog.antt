-- The log of the paths. A path's own part knows no other path.
use Rattle.std.specs.Prelude.{ℕ, ◌≡◌, ◌+◌, Bool, true, false, List, [], ◌∷◌, Option, None, Some, option_map}
use Rattle.std.specs.Option.{ForSome, option_map_or}
use Rattle.std.specs.declared.net.socket_addr.SocketAddr.{SocketAddr}
use Rattle.recovery_congestion.specs.Calls.{ControllerCall}
use Rattle.recovery_mtud.specs.DiscoveryLog.{MtuCall, resets, discovery_by}
use Rattle.recovery_congestion.specs.PacerLog.{PacerEntry, asked, took, bucket_by}
use Rattle.recovery_paths.specs.declared.path_pair.PathName.{PathName}
use Rattle.recovery_paths.specs.declared.path_pair.PathName.TheVariants.{Current, Previous}
use Rattle.recovery_paths.specs.PathMaking.{PathSettings, begun_anew, discovery_resumed, state_fresh, state_going_on, state_reset, state_resumed}
use Rattle.recovery_paths.specs.PathStates.{PathState, PathMarks, Path, pacer_call, after_asking, after_transmitting, after_receiving, after_sample, after_searching, after_telling, after_validation}

-- ---- the paths, whatever is stored for each

-- at most two: the one in use, and the one that was in use before it, until that is dropped (RFC 9000, 9.3)
pub record PerPath (P : Type 0) : Type 0 where
  pub current : P
  pub previous : Option P
  -- how many were made after the first one, including those that were dropped
  pub made : ℕ

-- what is stored for a path, if it exists
abbrev pub path_of : {P : Type 0} → PathName → PerPath P → Option P
path_of Current paths = Some paths.current
path_of Previous paths = paths.previous

abbrev pub on_path_of : {P : Type 0} → PathName → (P → P) → PerPath P → PerPath P
on_path_of Current change paths = record paths { current = change paths.current }
on_path_of Previous change paths = record paths { previous = option_map change paths.previous }

-- another path is in use, and the one that was is the previous one
abbrev pub moved_to : {P : Type 0} → P → PerPath P → PerPath P
moved_to path paths = record { current = path; previous = Some paths.current; made = paths.made + 1 }

-- the previous path, if it exists, is in use again, changed so, and the one that was in use is dropped (9.3.2)
abbrev pub reverted : {P : Type 0} → (P → P) → PerPath P → PerPath P
reverted change paths =
    option_map_or (λ path. record paths { current = change path; previous = None }) paths.previous paths

-- it holds for each existing path
abbrev pub OnEachPath : {P : Type 0} → (P → Type 0) → PerPath P → Type 0
OnEachPath Holds paths = Holds paths.current × ForSome paths.previous Holds

abbrev pub each_path : {P Q : Type 0} → (P → Q) → PerPath P → PerPath Q
each_path f paths = record { current = f paths.current; previous = option_map f paths.previous; made = paths.made }

-- ---- what happens on one path

pub data PathEntry : Type 0 where
  -- a datagram was received
  receives : (bytes : ℕ) → PathEntry
  -- the peer's address was validated
  is_validated : PathEntry
  -- an ACK gave an RTT sample
  samples : (delay rtt : ℕ) → PathEntry
  -- the controller gets a report
  tells : (call : ControllerCall) → PathEntry
  -- the MTU search gets a report
  searches : (call : MtuCall) → PathEntry
  -- the pacer is asked for bytes, and nothing is transmitted
  asks : (now bytes : ℕ) → PathEntry
  -- a datagram is transmitted that was not checked
  transmits : (bytes : ℕ) → PathEntry
  -- a datagram is transmitted that was checked: the pacer was asked for it first
  passes : (now bytes : ℕ) → PathEntry
  -- RTT, controller, search and pacer start again
  is_reset : (now : ℕ) → PathEntry

-- how a new path follows another one: fresh, within the peer's limit for datagrams, or inheriting RTT, controller and
-- search
pub data PathOrigin : Type 0 where
  fresh : (generation : ℕ) (remote : SocketAddr) (limit : Option ℕ) (now : ℕ) → PathOrigin
  extends : (generation : ℕ) (remote : SocketAddr) (now : ℕ) → PathOrigin
  -- or how a path is used again: as it was left, within the peer's limit
  returns : (limit : Option ℕ) → PathOrigin

pub data PathsEntry : Type 0 where
  -- something happens on an existing path
  on : (name : PathName) (entry : PathEntry) → PathsEntry
  -- another path is used
  moves : (following : PathOrigin) → PathsEntry
  -- the previous path is dropped
  drops_previous : PathsEntry
  -- the previous path is used again, within the peer's limit
  reverts : (limit : Option ℕ) → PathsEntry

abbrev pub on_current : PathEntry → PathsEntry
on_current entry = on Current entry

-- the paths after an entry, given how an entry changes a path, and how a path follows another
abbrev pub paths_with : {P : Type 0} → (PathEntry → P → P) → (PathOrigin → P → P) → PathsEntry → PerPath P → PerPath P
paths_with change follow (on name entry) old = on_path_of name (change entry) old
paths_with change follow (moves following) old = moved_to (follow following old.current) old
paths_with change follow drops_previous old = record old { previous = None }
paths_with change follow (reverts limit) old = reverted (follow (returns limit)) old

-- entries, the newest first, change the paths one after another
abbrev pub paths_after : {P : Type 0} → (PathEntry → P → P) → (PathOrigin → P → P) → List PathsEntry → PerPath P
    → PerPath P
paths_after change follow [] old = old
paths_after change follow (entry ∷ earlier) old = paths_with change follow entry (paths_after change follow earlier old)

-- ---- the history of one path since it was made; a path that is not fresh inherits that of the other

pub record PathHistory (K : Type 0) : Type 0 where
  -- how many paths were made before it
  pub generation : ℕ
  -- its state, with search and pacer as they were made; a path that is used again has a new search
  pub kept : PathState K
  -- the calls of the MTU search since, the newest first (RFC 8899, 5)
  pub searched : List MtuCall
  -- the calls of the pacer since, and the tokens removed, the newest first (RFC 9002, 7.7)
  pub pacing : List PacerEntry

abbrev pub past_made : {K : Type 0} → ℕ → PathState K → PathHistory K
past_made generation kept = record { generation = generation; kept = kept; searched = []; pacing = [] }

-- the state after all that
abbrev pub path_state_of : {K : Type 0} → PathHistory K → PathState K
path_state_of past = record past.kept {
  discovery = discovery_by past.kept.discovery past.searched;
  pacer = bucket_by past.kept.pacer past.pacing;
}

abbrev pub past_transmitting : {K : Type 0} → ℕ → Bool → PathHistory K → PathHistory K
past_transmitting bytes checked past = record past {
  kept = record past.kept { total_sent = past.kept.total_sent + bytes };
  pacing = took bytes checked ∷ past.pacing;
}

module _ {K : Type 0} (settings : PathSettings K) where
  -- the pacer is asked with the RTT, MTU and window of that state
  abbrev pub past_asking : ℕ → ℕ → PathHistory K → PathHistory K
  past_asking now bytes past =
      record past { pacing = asked (pacer_call settings.words (path_state_of past) now bytes) ∷ past.pacing }

  abbrev pub past_with : PathEntry → PathHistory K → PathHistory K
  past_with (searches call) past = record past { searched = call ∷ past.searched }
  past_with (asks now bytes) past = past_asking now bytes past
  past_with (transmits bytes) past = past_transmitting bytes false past
  past_with (passes now bytes) past = past_transmitting bytes true (past_asking now bytes past)
  past_with (is_reset now) past =
      let searched = resets settings.mtu settings.min_mtu ∷ past.searched in
      let mtu = (discovery_by past.kept.discovery searched).mtu in
      record past { kept = begun_anew settings mtu now past.kept; searched = searched; pacing = [] }
  past_with (receives bytes) past = record past { kept = after_receiving bytes past.kept }
  past_with is_validated past = record past { kept = after_validation past.kept }
  past_with (samples delay rtt) past = record past { kept = after_sample delay rtt past.kept }
  past_with (tells call) past = record past { kept = after_telling settings.words call past.kept }

  -- the history of a path that follows another one
  abbrev pub past_following : PathOrigin → PathHistory K → PathHistory K
  past_following (fresh generation remote limit now) past =
      past_made generation (state_fresh settings remote false limit now)
  past_following (extends generation remote now) past = record past {
    generation = generation;
    kept = record (state_going_on settings.words remote now (path_state_of past)) { discovery = past.kept.discovery };
    pacing = [];
  }
  past_following (returns limit) past =
      let discovery = discovery_resumed settings limit (path_state_of past).discovery.mtu in
      record past { kept = record past.kept { discovery = discovery }; searched = [] }

  -- ---- what an entry changes in the state

  abbrev pub state_with : PathEntry → PathState K → PathState K
  state_with (receives bytes) old = after_receiving bytes old
  state_with is_validated old = after_validation old
  state_with (samples delay rtt) old = after_sample delay rtt old
  state_with (tells call) old = after_telling settings.words call old
  state_with (searches call) old = after_searching call old
  state_with (asks now bytes) old = after_asking settings.words now bytes old
  state_with (transmits bytes) old = after_transmitting bytes old
  state_with (passes now bytes) old = after_transmitting bytes (after_asking settings.words now bytes old)
  state_with (is_reset now) old = state_reset settings now old

  abbrev pub state_following : PathOrigin → PathState K → PathState K
  state_following (fresh generation remote limit now) old = state_fresh settings remote false limit now
  state_following (extends generation remote now) old = state_going_on settings.words remote now old
  state_following (returns limit) old = state_resumed settings limit old

-- the generation of a path that follows another one
abbrev pub generation_following : PathOrigin → ℕ → ℕ
generation_following (fresh generation remote limit now) old = generation
generation_following (extends generation remote now) old = generation
generation_following (returns limit) old = old

-- ---- the inputs from the paths

pub record PathReplyInputs (K : Type 0) : Type 0 where
  -- how many paths were made before it
  pub generation : ℕ
  pub state : PathState K

abbrev pub known_of : {K : Type 0} → PathHistory K → PathReplyInputs K
known_of past = record { generation = past.generation; state = path_state_of past }

module _ {K : Type 0} (settings : PathSettings K) where
  abbrev pub path_known_with : PathEntry → PathReplyInputs K → PathReplyInputs K
  path_known_with entry old = record old { state = state_with settings entry old.state }

  abbrev pub known_following : PathOrigin → PathReplyInputs K → PathReplyInputs K
  known_following following old = record {
    generation = generation_following following old.generation;
    state = state_following settings following old.state;
  }

  -- the history of each path, if the first is made so
  abbrev pub pasts_by : PathState K → List PathsEntry → PerPath (PathHistory K)
  pasts_by first log = paths_after (past_with settings) (past_following settings) log
      (record { current = past_made 0 first; previous = None; made = 0 })

  abbrev pub paths_known_by : PathState K → List PathsEntry → PerPath (PathReplyInputs K)
  paths_known_by first log = each_path known_of (pasts_by first log)

  -- an event may be several entries to the paths, the newest first
  abbrev pub PathsStep : List PathsEntry → PerPath (PathReplyInputs K) → PerPath (PathReplyInputs K) → Type 0
  PathsStep entries old new = new ≡ paths_after path_known_with known_following entries old

  abbrev pub PathsAfter : PathState K → List PathsEntry → PerPath (PathReplyInputs K) → Type 0
  PathsAfter first log paths = paths ≡ paths_known_by first log

-- ---- the state of the paths, and the inputs from them

abbrev pub path_known : {K : Type 0} → Path K → PathReplyInputs K
path_known path = record { generation = path.ledger.generation; state = path.state }

abbrev pub paths_known : {K : Type 0} → PerPath (Path K) → PerPath (PathReplyInputs K)
paths_known paths = each_path path_known paths

-- the caller's marks
abbrev pub paths_marks : {K : Type 0} → PerPath (Path K) → PerPath PathMarks
paths_marks paths = each_path (λ path. path.marks) paths
