-- What an event does to one space is a step of all three. The steps of calls (`SendLaws`, `ProbeStepLaws`,
-- `PathStepLaws`, `AckedLostLaws`) rest on it.
use Rattle.recovery_paths.proofs.BalanceLaws.{kept}
use Rattle.recovery_events.specs.declared.event.Event.{Event}
use Rattle.recovery_events.specs.declared.event.Refusal.{Refusal}
use Rattle.recovery_history.specs.Table.{UnloggedStep, ReplyTable}
use Rattle.recovery_history.specs.Unlogged.{plain_of}
use Rattle.recovery_history.proofs.CallerStateLaws.{marks_refused}
use Rattle.std.proofs.Common.{◌≡◌, ℕ, arith, Bool, false, List, Some, Result, IfOk, OnErr, Ok, Err, refl, ap, sym}
use Rattle.recovery_base.specs.declared.below.SpaceId.{SpaceId}
use Rattle.recovery_base.specs.declared.below.SpaceId.TheVariants.{Initial, Handshake, Data}
use Rattle.recovery_spaces.specs.declared.spaces.ReceiveError.{ReceiveError}
use Rattle.recovery_spaces.specs.declared.spaces.ReceiveError.TheVariants.{NumberTooLarge, NoMemory}
use Rattle.recovery_spaces.specs.declared.spaces.Receipt.{Receipt}
use Rattle.recovery_spaces.specs.declared.spaces.Receipt.TheVariants.{New, Duplicate}
use Rattle.recovery_spaces.specs.Discarded.{is_discarded}
use Rattle.recovery_spaces.specs.SpaceLog.{SpaceEntry}
use Rattle.recovery_spaces.specs.Spaces.{Space, Spaces, space_of, with_space, tracking_of, acks_of, next_number_of, HasGreatestCome, ReceiveReply, heard_of, SpaceStep, arrives}
use Rattle.recovery_spaces.proofs.SpaceAckLaws.{heard_greatest}
use Rattle.recovery_paths.specs.PathLog.{PathsEntry, PerPath, PathsStep, paths_known, paths_marks}
use Rattle.recovery_paths.specs.PathStates.{Path}
use Rattle.recovery_queue.specs.Queues.{QueueSemantics}
use Rattle.recovery_packet_numbers.specs.Filters.{SkipState}
use Rattle.recovery_events.specs.declared.event.Event.TheVariants.{Received}
use Rattle.recovery_history.specs.Entries.{here, in_space, nothing}
use Rattle.recovery_history.specs.History.{QueueModel}
use Rattle.recovery_history.specs.Logs.{OptionalStep}
use Rattle.recovery_history.specs.RecoveryState.{RecoveryState}
use Rattle.recovery_history.specs.Replies.{reply_to}
use Rattle.recovery_history.specs.Transitions.{StateTransition, ComponentSteps, SkippingStep, inputs_of, acks_to}

-- a space that is put back unchanged
pub with_same_space : {P M : Type 0} (spaces : Spaces P M) (space : SpaceId) (there : Space P M)
    → there ≡ space_of space spaces → with_space spaces space there ≡ spaces
with_same_space spaces Initial there same = ap (with_space spaces Initial) same
with_same_space spaces space there same = ap (with_space spaces space) same

-- anything but a sent 1-RTT packet leaves the skipped numbers unchanged
pub skips_nothing : {P M : Type 0} (space : SpaceId) (entry : SpaceEntry P M) (n : ℕ) (skipping : SkipState)
    → SkippingStep (Some entry) n skipping skipping → SkippingStep (here space Data entry) n skipping skipping
skips_nothing Data entry n skipping same = same
skips_nothing space entry n skipping same = refl

module _ {P M S : Type 0} (words : QueueSemantics P S) where
  -- one space changes, and the others are unchanged
  pub spaces_step : (entry : SpaceEntry P M) (spaces : Spaces P M) (changed : SpaceId) (there : Space P M)
      → SpaceStep words entry (space_of changed spaces) there
      → (space : SpaceId) → OptionalStep (SpaceStep words) (here changed space entry) (space_of space spaces)
      (space_of space (with_space spaces changed there))
  spaces_step entry spaces Initial there change Initial = change
  spaces_step entry spaces Handshake there change Handshake = change
  spaces_step entry spaces Data there change Data = change
  spaces_step entry spaces changed there change space = refl

-- ---- frames: what an event with few entries does to all parts

module _ {K P M S : Type 0} (words : QueueSemantics P S) where
  -- an event without entries
  pub nothing_changes : (old new : RecoveryState K P M) → new ≡ old → ComponentSteps words nothing old new
  nothing_changes old new same = rw same (grind arith)

  -- an event in one space, which may draw the next skip, and have entries on the paths
  pub space_changes : (old : RecoveryState K P M) (space : SpaceId) (entry : SpaceEntry P M) (there : Space P M)
      (skipping : SkipState) (entries : List PathsEntry) (paths : PerPath (Path K))
      → SpaceStep words entry (space_of space old.spaces) there
      → SkippingStep (here space Data entry) (next_number_of (space_of Data old.spaces)) old.skipping skipping
      → PathsStep old.settings entries (paths_known old.paths) (paths_known paths)
      → ComponentSteps words (record (in_space space entry) { paths = entries }) old
      (record old { spaces = with_space old.spaces space there; skipping = skipping; paths = paths })
  space_changes old space entry there skipping entries paths step skips same =
      grind (arith, spaces_step words entry old.spaces space there step, skips, same)

-- an error after which a space is put back unchanged
pub put_back : {K Q S M P : Type 0} (q : QueueModel Q S M P) (old : RecoveryState K P M) (event : Event Q S M P)
    (refusal : Refusal) (space : SpaceId) (there : Space P M) → there ≡ space_of space old.spaces
    → UnloggedStep event (Err refusal) (plain_of old) (plain_of old)
    → ReplyTable q old.settings.words (acks_to old) (inputs_of old) event (Err refusal)
    → StateTransition q old event (Err refusal) (record old { spaces = with_space old.spaces space there })
put_back {K} {Q} {S} {M} {P} q old event refusal space there same plain told =
    let new : RecoveryState K P M = record old { spaces = with_space old.spaces space there } in
    let kept : new ≡ old =
    ap (λ (spaces : Spaces P M). record old { spaces = spaces }) (with_same_space old.spaces space there same) in
    record {
      told = told;
      steps = nothing_changes q.words old new kept;
      plain = plain;
      marks = sym (marks_refused event refusal (paths_marks old.paths));
      refused = kept;
    }

-- ---- a received packet

module _ {K Q S M P : Type 0} (q : QueueModel Q S M P) (old : RecoveryState K P M) (space : SpaceId) (now number : ℕ)
    (ack_eliciting : Bool) (there : Space P M) (live : is_discarded space old.discarded ≡ false) where
  pub received_changes : (receipt : Result Receipt ReceiveError)
      → ReceiveReply (heard_of (space_of space old.spaces)) (acks_of (space_of space old.spaces)).counts number
      ack_eliciting receipt
      → IfOk receipt (λ r. SpaceStep q.words (arrives now number ack_eliciting r) (space_of space old.spaces) there)
      → OnErr receipt (there ≡ space_of space old.spaces)
      → StateTransition {M = M} q old (Received space now number ack_eliciting) (reply_to receipt)
      (record old { spaces = with_space old.spaces space there })
  received_changes (Ok (New arm)) is step kept = record {
    told = grind (arith, live, is);
    steps = space_changes _ _ _ _ _ _ _ _ step
        (skips_nothing space _ _ _ refl) refl;
    plain = refl;
    marks = refl;
    refused = tt;
  }
  received_changes (Ok Duplicate) is step kept = record {
    told = grind (arith, live, is);
    steps = space_changes _ _ _ _ _ _ _ _ step (skips_nothing space _ _ _ refl) refl;
    plain = refl;
    marks = refl;
    refused = tt;
  }
  received_changes (Err NumberTooLarge) is step kept =
      put_back q old (Received space now number ack_eliciting) _ space there kept refl (grind (arith, live, is))
  received_changes (Err NoMemory) is step kept =
      put_back q old (Received space now number ack_eliciting) _ space there kept refl (grind (arith, live, is))

-- what a received packet changes leaves the tracked packets, and the largest ack-eliciting number was received
pub received_keeps : {P M S : Type 0} (words : QueueSemantics P S) (now number : ℕ) (ack_eliciting : Bool)
    (receipt : Result Receipt ReceiveError) (old new : Space P M) → HasGreatestCome old
    → IfOk receipt (λ r. SpaceStep words (arrives now number ack_eliciting r) old new) → OnErr receipt (new ≡ old)
    → (tracking_of new ≡ tracking_of old) × (next_number_of new ≡ next_number_of old) × HasGreatestCome new
received_keeps words now number ack_eliciting (Ok (New arm)) old new come step kept =
    grind (arith, step.others, heard_greatest old new now number ack_eliciting come step)
received_keeps words now number ack_eliciting receipt old new come step kept = grind (arith, step, kept, come)
