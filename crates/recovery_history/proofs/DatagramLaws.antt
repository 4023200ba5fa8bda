-- The datagrams of each path by the history are those of its log, and observe the bound on what is sent to an address
-- that is not validated. `AmplificationLaws` and `BlockedLaws` rest on it.
use Rattle.std.proofs.Common.{ℕ, ◌≡◌, ◌≤◌, ◌*◌, ◌+◌, Bool, true, false, List, [], ◌∷◌, ◌++◌, Option, None, Some, Ok, Err, refl, ap, arith}
use Rattle.std.proofs.lemmas.Bool.{false≢true}
use Rattle.std.specs.Prelude.{option_map, sum_by}
use Rattle.std.specs.List.{list_all}
use Rattle.std.proofs.lemmas.Bool.Decides.{nat_tests}
use Rattle.std.proofs.lemmas.List.Sums.{sum_by-cons}
use Rattle.recovery_paths.specs.declared.path_pair.PathName.TheVariants.{Current, Previous}
use Rattle.recovery_paths.specs.PathLog.{PerPath, PathsEntry, PathHistory, each_path, known_of, on, receives, past_following, pasts_by, returns, reverted}
use Rattle.recovery_events.specs.declared.event.Event.{Event}
use Rattle.recovery_events.specs.declared.event.Event.TheVariants.{Transmit, DatagramIn, Validated, NewPath, DropPrevious, RevertPath}
use Rattle.recovery_events.specs.declared.event.Answer.{Answer}
use Rattle.recovery_events.specs.declared.event.Answer.TheVariants.{Transmitted}
use Rattle.recovery_history.specs.RepliesAfter.{logs_of, pasts_of, inputs_after, first_path, settings_of, RepliesAfter}
use Rattle.recovery_history.specs.History.{Beginning, History, Reply}
use Rattle.recovery_history.specs.ReplyInputs.{ReplyInputs}
use Rattle.recovery_history.specs.PartReplies.{AnswersDone, UnlessPathMissing}
use Rattle.recovery_history.specs.Table.{limit}
use Rattle.recovery_history.specs.Promises.Datagrams.{datagrams_on, bytes_in, bytes_out, is_validated}
use Rattle.recovery_history.specs.Promises.Amplification.{is_checked}
use Rattle.recovery_history.proofs.AllowedEntryLaws.{sent_freely}
use Rattle.recovery_history.proofs.EntryKinds.{PathKind, receiving, validating, transmitting, passing, moving, dropping, returning, elsewhere, path_kind, paths_kept}
use Rattle.recovery_history.proofs.SearchSaid.{Keeps}

-- ---- what the bound reads of a path

pub record Flow : Type 0 where
  pub validated : Bool
  pub came : ℕ
  pub went : ℕ

abbrev flow : Bool → ℕ → ℕ → Flow
flow validated came went = record { validated = validated; came = came; went = went }

-- by its history in the logs
abbrev pub flow_of : {K : Type 0} → PathHistory K → Flow
flow_of past = flow past.kept.validated past.kept.total_recvd past.kept.total_sent

module _ {Q S M P : Type 0} where
  abbrev pub flow_by : Bool → History Q S M P → Flow
  flow_by validated here = flow validated (sum_by bytes_in here) (sum_by bytes_out here)

  -- both are the same, and the bound on what is sent to an address that is not validated holds
  abbrev pub IsBounded : Bool → History Q S M P → Type 0
  IsBounded validated here =
      validated ≡ false → list_all is_checked here ≡ true → sum_by bytes_out here ≤ 3 * sum_by bytes_in here

  abbrev IsFlow : Bool → History Q S M P → Flow → Type 0
  IsFlow validated here found = (flow_by validated here ≡ found) × IsBounded validated here

  -- one was sent, within the bound if it was checked
  went_more : (validated : Bool) (here : History Q S M P) (now bytes : ℕ) (checked : Bool) (reply : Reply Q)
      (old : Flow) → (validated ≡ false → checked ≡ true → old.went + bytes ≤ 3 * old.came) → IsFlow validated here old
      → IsFlow validated ((Transmit now bytes checked, reply) ∷ here) (flow old.validated old.came (old.went + bytes))
  went_more validated here now bytes checked reply old within same =
      let happened : Event Q S M P × Reply Q = (Transmit now bytes checked, reply) in
      grind (arith, same, within, sum_by-cons bytes_in happened here, sum_by-cons bytes_out happened here)

  -- it holds for each path, and a missing path has no datagrams
  abbrev pub IsFlowWhereLives : Bool → History Q S M P → Option Flow → Type 0
  IsFlowWhereLives validated here None = here ≡ []
  IsFlowWhereLives validated here (Some found) = IsFlow validated here found

  abbrev pub AreFlows : Bool → History Q S M P → PerPath Flow → Type 0
  AreFlows first history flows =
      IsFlow (is_validated first Current history) (datagrams_on Current history) flows.current
      × IsFlowWhereLives (is_validated first Previous history) (datagrams_on Previous history) flows.previous

-- ---- entries that are no datagrams

abbrev is_quiet : PathKind → Bool
is_quiet receiving = false
is_quiet validating = false
is_quiet transmitting = false
is_quiet passing = false
is_quiet moving = false
is_quiet dropping = false
is_quiet returning = false
is_quiet elsewhere = false
is_quiet kind = true

-- ---- the table

module _ {F K Q S M P : Type 0} (beginning : Beginning F K Q S M P) (earlier : History Q S M P) where
  abbrev log : List PathsEntry
  log = (logs_of beginning earlier).paths

  abbrev known : ReplyInputs K P M
  known = inputs_after beginning earlier

  abbrev first : Bool
  first = beginning.config.validated

  abbrev flows : List PathsEntry → PerPath Flow
  flows log = each_path flow_of (pasts_by (settings_of beginning) (first_path beginning) log)

  abbrev pasts : PerPath (PathHistory K)
  pasts = pasts_by (settings_of beginning) (first_path beginning) log

  -- the previous path is used again, with all that it had
  flows_returned : (answer : Answer Q) (previous : Option (PathHistory K))
      → UnlessPathMissing (option_map known_of previous) (λ there. AnswersDone {Q = Q}) (Ok answer)
      → IsFlowWhereLives (is_validated first Previous earlier) (datagrams_on Previous earlier)
      (option_map flow_of previous)
      → (let old : PerPath (PathHistory K) = record pasts { previous = previous } in
      AreFlows first ((RevertPath, Ok answer) ∷ earlier) (each_path flow_of
      (reverted (past_following (settings_of beginning) (returns (limit earlier))) old)))
  flows_returned answer None told lived = absurd told.1
  flows_returned answer (Some past) told lived = (lived, refl)

  module _ (same : AreFlows first earlier (flows log)) where
    -- what is no datagram on a path
    one_more : (entry : PathsEntry) (entries : List PathsEntry) → is_quiet (path_kind entry) ≡ true
        → AreFlows first earlier (flows (entries ++ log)) → AreFlows first earlier (flows (entry ∷ entries ++ log))
    one_more (on Current (receives bytes)) entries quiet flows = absurd (false≢true quiet)
    one_more (on Previous (receives bytes)) entries quiet flows = absurd (false≢true quiet)
    one_more entry entries quiet flows = grind (arith, quiet, flows)

    -- one more event
    pub reply_flows : (event : Event Q S M P) (reply : Reply Q) → RepliesAfter beginning earlier event reply
        → AreFlows first ((event, reply) ∷ earlier) (each_path flow_of (pasts_of beginning ((event, reply) ∷ earlier)))
    reply_flows (DatagramIn Current bytes) (Ok answer) told =
        let happened : Event Q S M P × Reply Q = (DatagramIn Current bytes, Ok answer) in
        let before = datagrams_on Current earlier in
        (grind (arith, same.0, sum_by-cons bytes_in happened before, sum_by-cons bytes_out happened before), same.1)
    reply_flows (DatagramIn Previous bytes) (Ok answer) told =
        let happened : Event Q S M P × Reply Q = (DatagramIn Previous bytes, Ok answer) in
        let before = datagrams_on Previous earlier in (
          same.0,
          grind (arith, told, same.1, sum_by-cons bytes_in happened before, sum_by-cons bytes_out happened before),
        )
    reply_flows (Validated Current) (Ok answer) told =
        ((ap (λ (f : Flow). flow true f.came f.went) same.0.0, λ unproved. absurd cc), same.1)
    reply_flows (Validated Previous) (Ok answer) told = (same.0, grind (arith, told, same.1))
    reply_flows (Transmit now bytes true) (Ok Transmitted) told =
        let free = (sent_freely beginning.words _ _ told.1).0 in (
          went_more _ (datagrams_on Current earlier) now bytes true (Ok Transmitted) (flow_of pasts.current)
              (grind (arith, nat_tests, free, same.0.0)) same.0,
          same.1,
        )
    reply_flows (Transmit now bytes true) (Ok answer) told = same
    reply_flows (Transmit now bytes false) (Ok answer) told =
        rw told.1 (
          went_more _ (datagrams_on Current earlier) now bytes false (Ok Transmitted) _
              (λ unproved checked. absurd cc) same.0,
          same.1,
        )
    reply_flows (NewPath now remote true) (Ok answer) told = ((refl, λ unproved checked. omega arith), same.0)
    reply_flows (NewPath now remote false) (Ok answer) told = ((refl, λ unproved checked. omega arith), same.0)
    reply_flows DropPrevious (Ok answer) told = (same.0, refl)
    reply_flows RevertPath (Ok answer) told = flows_returned answer pasts.previous told same.1
    reply_flows event (Ok answer) told =
        paths_kept beginning.queue known (λ entries. AreFlows first earlier (flows (entries ++ log))) is_quiet same
        one_more event (Ok answer) refl
    reply_flows (DatagramIn Current bytes) (Err refusal) told = same
    reply_flows (Validated Current) (Err refusal) told = same
    reply_flows event (Err refusal) told = same

module _ {F K Q S M P : Type 0} (beginning : Beginning F K Q S M P) where
  -- after any history, the flows by events and answers are those of the logs
  abbrev pub FlowsAgree : History Q S M P → Type 0
  FlowsAgree history = AreFlows beginning.config.validated history (each_path flow_of (pasts_of beginning history))

  pub flows_at_first : FlowsAgree []
  flows_at_first = ((refl, λ unproved checked. omega arith), refl)

  pub flows_after : Keeps (RepliesAfter beginning) FlowsAgree
  flows_after before event reply told same = reply_flows beginning before same event reply told
