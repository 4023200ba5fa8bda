-- The window of an endpoint falls only if it begins a recovery period.
use Rattle.std.proofs.Common.{◌≡◌, ℕ, ◌<◌, ◌⊎◌, inl, inr, ◌==◌, ◌&&◌, Bool, true, false, List, [], ◌∷◌, ◌++◌, Option, None, Some, Result, Ok, Err, refl, ap, subst, ◌∙◌, arith}
use Rattle.std.specs.Prelude.{min, max, nat_le, option_to_list, if◌then◌else◌}
use Rattle.std.specs.Global.{Vec}
use Rattle.std.specs.List.{AllByRecursion}
use Rattle.std.proofs.lemmas.Bool.{false≢true}
use Rattle.std.proofs.lemmas.Bool.Decides.{nat_tests}
use Rattle.std.proofs.lemmas.Option.{none-some}
use Rattle.recovery_base.specs.declared.below.SpaceId.{SpaceId}
use Rattle.recovery_base.specs.Units.{last_time}
use Rattle.recovery_congestion.specs.declared.congestion.new_reno.NewReno.{NewReno}
use Rattle.recovery_congestion.specs.Calls.{ControllerCall, congests as reports_congestion}
use Rattle.recovery_congestion.specs.Controllers.{ControllerSemantics}
use Rattle.recovery_congestion.specs.NewReno.{reno_after, reno_recovering, reno_words}
use Rattle.recovery_congestion.proofs.RenoRounds.{reno_rounds}
use Rattle.recovery_paths.specs.declared.path_pair.PathName.TheVariants.{Current}
use Rattle.recovery_paths.specs.PathLog.{PathReplyInputs, PathsEntry, PerPath, is_reset, moves, on, past_following, past_made, past_with, paths_after, reverts, tells}
use Rattle.recovery_events.specs.declared.event.Event.{Event}
use Rattle.recovery_events.specs.declared.event.Event.TheVariants.{Congestion, NewPath, ResetPath, RevertPath}
use Rattle.recovery_spaces.specs.Discarded.{is_discarded}
use Rattle.recovery_spaces.specs.Packets.{Packet, Packets, packet_at}
use Rattle.recovery_losses.specs.Frames.{received_at}
use Rattle.recovery_losses.specs.declared.frames.Ack.{Ack}
use Rattle.recovery_losses.specs.declared.looks.LossPass.{LossPass}
use Rattle.recovery_losses.specs.Losses.{IsOneOf, is_counted, last_counted, later_of, sent_counted}
use Rattle.recovery_history.specs.History.{Beginning, History, Reply, begins}
use Rattle.recovery_history.specs.Reachability.{ReachedBy}
use Rattle.recovery_history.specs.RecoveryState.{RecoveryState}
use Rattle.recovery_history.specs.RepliesAfter.{first_path, inputs_after, logs_of, settings_of}
use Rattle.recovery_history.proofs.EntryKinds.{PathKind, congesting, moving, path_kind, paths_kept, resetting, returning}
use Rattle.recovery_sender.specs.Acking.{AckResult}
use Rattle.recovery_sender.specs.Bounds.{latest_start}
use Rattle.recovery_sender.specs.Losses.{largest_in, look_of}
use Rattle.recovery_sender.specs.Promises.Lost.{sent_at}
use Rattle.recovery_sender.specs.Promises.Pasts.{ForEveryPast}
use Rattle.recovery_sender.specs.Senders.{state_in}
use Rattle.recovery_sender.specs.Spaces.{packets_in}
use Rattle.recovery_sender.specs.Timeouts.{TimeoutResult}
use Rattle.recovery_sender.specs.declared.sender.Sender.{Sender}
use Rattle.recovery_sender.specs.declared.sender.SenderError.{SenderError}
use Rattle.recovery_sender.specs.declared.sender.acks.Acknowledged.{Acknowledged}
use Rattle.recovery_sender.specs.declared.sender.losses.Losses.{Losses}
use Rattle.recovery_sender.specs.declared.sender.probes.Timeout.{Timeout}
use Rattle.recovery_sender.specs.declared.sender.probes.Timeout.TheVariants.{Lost, Nothing, Probe}
use Rattle.recovery_sender.proofs.PastLaws.{sent_by_past}
use Rattle.recovery_pair.specs.declared.steps.AckOutcome.{AckOutcome}
use Rattle.recovery_pair.specs.declared.steps.AckOutcome.TheVariants.{Taken}
use Rattle.recovery_pair.specs.declared.steps.End.{End}
use Rattle.recovery_pair.specs.declared.steps.End.TheVariants.{Client, Server}
use Rattle.recovery_pair.specs.declared.steps.Fate.TheVariants.{New}
use Rattle.recovery_pair.specs.declared.steps.LocalStep.{LocalStep}
use Rattle.recovery_pair.specs.declared.steps.LocalStep.TheVariants.{AddressValidated, Discard, Expire}
use Rattle.recovery_pair.specs.declared.steps.PairAnswer.{PairAnswer}
use Rattle.recovery_pair.specs.declared.steps.PairAnswer.TheVariants.{Arrived, Done, Expired}
use Rattle.recovery_pair.specs.declared.steps.PairStep.TheVariants.{Arrive, Local}
use Rattle.recovery_pair.specs.declared.steps.WirePacket.{WirePacket}
use Rattle.recovery_pair.specs.Carried.{lost_by_ack, lost_by_local, lost_by_timeout}
use Rattle.recovery_pair.specs.Congested.{AddsCongestion, Congestions, IsCongestedBy, any_congestion, no_congestion}
use Rattle.recovery_pair.specs.Falls.{BeginsAt, FallsAt, FallsByRecovery, FindsWithCause, IsNoCongestion, KeepsRecovery, WasLost, controller_in, found_at, recovery_start_in}
use Rattle.recovery_pair.specs.LeastWindows.{persists_at, persists_by_ack, persists_by_timeout, persists_by_timer}
use Rattle.recovery_pair.specs.Logs.{PairEvent, PairLog, same_end, time_sent}
use Rattle.recovery_pair.specs.Pasts.{Continues, Endings, GoesOn, GoesOnQuietly, HearsNumber, discarding, ending, endings_by_ack, no_endings, validating, with_congestion}
use Rattle.recovery_pair.specs.Promises.Resends.{lost_by, lost_of}
use Rattle.recovery_pair.specs.Tied.{IsTiedAt}
use Rattle.recovery_pair.specs.Turns.{FindsByTimer, local_turn, timeout_turn}
use Rattle.recovery_pair.proofs.AlongLaws.{beginning_of, went}
use Rattle.recovery_pair.proofs.GoingLaws.{no_acks, same_itself}
use Rattle.recovery_pair.proofs.QuietLaws.{EndsWithin, MayCongest, acked_with, acknowledges_ending, by_time_ending, call_quietly, last_lost, sampled_ending, same_quietly, within_any}

-- ---- by a past

-- entries that keep the recovery period
abbrev keeps_recovery : PathKind → Bool
keeps_recovery congesting = false
keeps_recovery resetting = false
keeps_recovery moving = false
keeps_recovery returning = false
keeps_recovery kind = true

module _ {K : Type 0} (words : ControllerSemantics K) where
  pub keeps_same : (k : K) → KeepsRecovery words k k
  keeps_same k = record { start = refl; window = omega arith; threshold = refl }

  keeps_then : (one two three : K) → KeepsRecovery words one two → KeepsRecovery words two three
      → KeepsRecovery words one three
  keeps_then one two three first second = record {
    start = second.start ∙ first.start;
    window = let a = first.window in let b = second.window in omega (arith, a, b);
    threshold = second.threshold ∙ first.threshold;
  }

  -- a recovery period begins with such congestion, or none does
  pub record Begins (congests : Congestions) (old new : K) : Type 0 where
    pub later : (found : ℕ) × (sent : ℕ) × (congests found sent ≡ true) × (words.recovery_start old < sent)
    pub begins : (found : ℕ) × (sent : ℕ) × (congests found sent ≡ true) × (words.recovery_start new ≡ found)

  abbrev pub Recovers : Congestions → K → K → Type 0
  Recovers congests old new = KeepsRecovery words old new ⊎ Begins congests old new

  recovers_then : (congests : Congestions) (one two three : K) → Recovers congests one two
      → Recovers congests two three → Recovers congests one three
  recovers_then congests one two three (inl first) (inl second) = inl (keeps_then one two three first second)
  recovers_then congests one two three (inl first) (inr second) =
      let (found, sent, may, less) = second.later in
      let same = first.start in
      inr (record { later = (found, sent, may, omega (arith, same, less)); begins = second.begins })
  recovers_then congests one two three (inr first) (inl second) =
      let (found, sent, may, is) = first.begins in
      inr (record { later = first.later; begins = (found, sent, may, second.start ∙ is) })
  recovers_then congests one two three (inr first) (inr second) =
      inr (record { later = first.later; begins = second.begins })

module _ {F K Q S M P : Type 0} (beginning : Beginning F K Q S M P) (falls : FallsByRecovery beginning.words) where
  abbrev controller_by : List PathsEntry → K
  controller_by log = (paths_after (past_with (settings_of beginning)) (past_following (settings_of beginning)) log
      (record { current = past_made 0 (first_path beginning); previous = None; made = 0 })).current.kept.controller

  abbrev controller_after : History Q S M P → K
  controller_after past = controller_by (logs_of beginning past).paths

  module _ (log : List PathsEntry) where
    abbrev IsKept : List PathsEntry → Type 0
    IsKept entries = KeepsRecovery beginning.words (controller_by log) (controller_by (entries ++ log))

    entry_keeps : (entry : PathsEntry) (earlier : List PathsEntry) → keeps_recovery (path_kind entry) ≡ true
        → IsKept earlier → IsKept (entry ∷ earlier)
    entry_keeps (on Current (tells (reports_congestion now sent persistent lost))) earlier is kept = absurd (false≢true
        is)
    entry_keeps (on Current (tells call)) earlier is kept =
        keeps_then beginning.words _ _ _ kept (falls.other call (controller_by (earlier ++ log)) tt)
    entry_keeps (on Current (is_reset now)) earlier is kept = absurd (false≢true is)
    entry_keeps (moves following) earlier is kept = absurd (false≢true is)
    entry_keeps (reverts limit) earlier is kept = absurd (false≢true is)
    entry_keeps entry earlier is kept = kept

  event_recovers : (congests : Congestions) (event : Event Q S M P) (reply : Reply Q) (past : History Q S M P)
      → IsCongestedBy congests event
      → Recovers beginning.words congests (controller_after past) (controller_after ((event, reply) ∷ past))
  event_recovers congests (Congestion found sent persistent bytes) (Ok answer) past may =
      elim (falls.congested found sent persistent bytes (controller_after past)) [
        | inl kept ↦ inl kept
        | inr both ↦ inr (record { later = (found, sent, may, both.0); begins = (found, sent, may, both.1) })
      ]
  event_recovers congests (Congestion found sent persistent bytes) (Err refusal) past may =
      inl (keeps_same beginning.words (controller_after past))
  event_recovers congests (NewPath now remote is_fresh) reply past never = absurd never
  event_recovers congests (ResetPath now) reply past never = absurd never
  event_recovers congests RevertPath reply past never = absurd never
  event_recovers congests event reply past may = inl (paths_kept beginning.queue (inputs_after beginning past)
      (IsKept (logs_of beginning past).paths) keeps_recovery (keeps_same beginning.words (controller_after past))
      (entry_keeps (logs_of beginning past).paths) event reply refl)

  events_recover : (congests : Congestions) (events past : History Q S M P)
      → AllByRecursion (λ happened. IsCongestedBy congests happened.0) events
      → Recovers beginning.words congests (controller_after past) (controller_after (events ++ past))
  events_recover congests [] past all = inl (keeps_same beginning.words (controller_after past))
  events_recover congests ((event, reply) ∷ events) past all = recovers_then beginning.words congests _ _ _
      (events_recover congests events past all.1) (event_recovers congests event reply (events ++ past) all.0)

  controller_is : (past : History Q S M P) (recovery : RecoveryState K P M) → ReachedBy beginning past recovery
      → recovery.paths.current.state.controller ≡ controller_after past
  controller_is past recovery came =
      ap (λ (paths : PerPath (PathReplyInputs K)). paths.current.state.controller) came.state_after.paths

  pub past_recovers : (congests : Congestions) (past after : History Q S M P) (old new : RecoveryState K P M)
      → ReachedBy beginning past old → ReachedBy beginning after new → AddsCongestion congests past after
      → Recovers beginning.words congests old.paths.current.state.controller new.paths.current.state.controller
  past_recovers congests past after old new came reached (events, is, all) =
      rw (controller_is past old came, controller_is after new reached, is) (events_recover congests events past all)

-- ---- the last packet that is lost

either : (one other : Option ℕ) (sent : ℕ) → later_of one other ≡ Some sent → (one ≡ Some sent) ⊎ (other ≡ Some sent)
either None other sent is = inr is
either (Some one) None sent is = inl is
either (Some one) (Some other) sent is =
    let most : max one other ≡ sent = cc in
    let which : (one ≡ sent) ⊎ (other ≡ sent) = grind (arith, nat_tests, most) in
    elim which [ inl same ↦ inl (ap Some same) | inr same ↦ inr (ap Some same) ]

module _ {P M : Type 0} (look : LossPass) (packets : Packets P M) (sent : ℕ) where
  counted_is : (n : ℕ) (found : Option (Packet P M)) → packet_at packets n ≡ found
      → sent_counted look packets found ≡ Some sent
      → (packet : Packet P M) × (packet_at packets n ≡ Some packet) × (packet.time_sent ≡ sent)
  counted_is n None at is = absurd cc
  counted_is n (Some packet) at is = (
    packet,
    at,
    if_some (is_counted look packet.size packet.path_generation) packet.time_sent is,
  )
    where
      if_some : (counts : Bool) (time : ℕ) → (if counts then Some time else None) ≡ Some sent → time ≡ sent
      if_some true time same = cc
      if_some false time same = absurd cc

  -- it was sent when one of these packets was
  last_is : (numbers : List ℕ) → last_counted look packets numbers ≡ Some sent → (n : ℕ) × (packet : Packet P M)
      × IsOneOf n numbers × (packet_at packets n ≡ Some packet) × (packet.time_sent ≡ sent)
  last_is [] is = absurd cc
  last_is (first ∷ numbers) is =
      elim (either (sent_counted look packets (packet_at packets first)) (last_counted look packets numbers) sent is) [
        | inl here ↦ (let (packet, at, same) = counted_is first (packet_at packets first) refl here in
            (first, packet, inl refl, at, same))
        | inr more ↦ (let (n, packet, one, at, same) = last_is numbers more in (n, packet, inr one, at, same))
      ]

one_among : (n : ℕ) (some more : List ℕ) → IsOneOf n some → IsOneOf n (some ++ more)
one_among n [] more is = absurd is
one_among n (first ∷ some) more (inl is) = inl is
one_among n (first ∷ some) more (inr is) = inr (one_among n some more is)

lost_here : (space : SpaceId) (losses : Losses) (n : ℕ) → IsOneOf n losses.numbers.items
    → IsOneOf n (lost_of space space losses)
lost_here space losses n one =
    rw (same_itself space) (one_among n losses.numbers.items (option_to_list losses.probe) one)

-- ---- the calls of a sender

-- only this
abbrev exactly : ℕ → ℕ → Congestions
exactly at last found sent = (at == found) && (last == sent)

module _ {F Q R C K S M P : Type 0} {f : _} {c : _} {q : _} {m : _} {r : _} (old new : Sender F Q R C K S M P f c q m r)
  where
    module _ (Goes : Congestions → History Q S M P → History Q S M P → Type 0) (persistent : Bool)
        (lost : SpaceId → List ℕ) (now : ℕ) where
      pub finds_none : Continues (Goes no_congestion) old new → FindsWithCause persistent lost now Goes old new
      finds_none goes = record {
        congests = no_congestion;
        goes = goes;
        at = λ found sent never. no_acks never;
        cause = λ found sent never. no_acks never;
      }

      finds : (last : Option ℕ)
          → ((congests : Congestions) → MayCongest congests now persistent last → Continues (Goes congests) old new)
          → ((sent : ℕ) → last ≡ Some sent → WasLost old lost sent) → FindsWithCause persistent lost now Goes old new
      finds None goes cause = finds_none (goes no_congestion (λ sent found. absurd cc))
      finds (Some last) goes cause = record {
        congests = exactly (min now latest_start) (if persistent then last_time else last);
        goes = goes (exactly (min now latest_start) (if persistent then last_time else last))
            (λ sent found. (let same : last ≡ sent = cc in rw same (both (min now latest_start)
            (if persistent then last_time else sent))));
        at = λ found sent is. grind (arith, nat_tests, is);
        cause = λ found sent is. by persistent (grind (arith, nat_tests, is));
      }
        where
          both : (at sent : ℕ) → ((at == at) && (sent == sent)) ≡ true
          both at sent = grind (arith, nat_tests)

          by : (persists : Bool) {sent : ℕ} → (if persists then last_time else last) ≡ sent
              → (persists ≡ true) ⊎ WasLost old lost sent
          by true is = inl refl
          by false is = inr (cause _ (ap Some is))

    -- the last lost packet was sent when a number that is declared lost was
    was_lost : (space : SpaceId) (now : ℕ) (due : Bool) (losses : Losses) (ends : Endings)
        (at : Sender F Q R C K S M P f c q m r) → EndsWithin ends old at → (sent : ℕ)
        → last_lost space now due losses at ≡ Some sent → (n : ℕ) × IsOneOf n losses.numbers.items
        × ForEveryPast old (λ past. sent ≡ sent_at space past n)
    was_lost space now due losses ends at goes sent is = by (largest_in (state_in at) space) refl
      where
        kept : (n : ℕ) (packet : Packet P M) → packet_at (packets_in (state_in at) space) n ≡ Some packet
            → (gone : Bool) → is_discarded space (state_in at).discarded ≡ gone → gone ≡ false
        kept n packet found true gone = absurd (none-some packet (rw gone at found))
        kept n packet found false gone = refl

        by : (largest : Option ℕ) → largest_in (state_in at) space ≡ largest → (n : ℕ) × IsOneOf n losses.numbers.items
            × ForEveryPast old (λ past. sent ≡ sent_at space past n)
        by None none = absurd (none-some sent (rw none at is))
        by (Some largest) some =
            let (n, packet, one, found, time) = last_is (look_of (state_in at) at.variables space now due largest)
            (packets_in (state_in at) space) sent losses.numbers.items (rw some at is) in (
              n,
              one,
              λ config start random past came. (
                  let on = goes.from config start random past came in
                  let same = sent_by_past at config start random on.0 on.1 space (kept n packet found _ refl) n packet
                  found in
                  let still = on.2.timed space n in
                  omega (arith, time, same, still)),
            )

    -- an ACK frame
    pub ack_finds : (space : SpaceId) (now : ℕ) (ranges : List (ℕ × ℕ)) (ack : Ack) (acked : Acknowledged)
        → AckResult space now ranges ack old new (Ok acked) → ack.ecn ≡ None
        → FindsWithCause acked.losses.is_persistent (lost_by_ack space (Taken acked)) now
        (λ congests. GoesOn (ending (acked_with space acked congests))) old new
    ack_finds space now ranges ack acked is unmarked = by acked.numbers.items refl
      where
        by : (numbers : List ℕ) → acked.numbers.items ≡ numbers
            → FindsWithCause acked.losses.is_persistent (lost_by_ack space (Taken acked)) now
            (λ congests. GoesOn (ending (acked_with space acked congests))) old new
        by [] none = finds_none _ _ _ now (within_any (acked_with space acked no_congestion) old new
            (call_quietly [] old.variables old new (is.none none).does tt))
        by (number ∷ numbers) some =
            let does = is.some (λ none. absurd cc) in
            finds _ _ _ now (last_lost space (received_at ack now) true acked.losses does.sampled)
            (λ congests may. acknowledges_ending space now ranges ack is.elicits old new acked does congests unmarked
            may)
            (λ sent found. (
            let (n, one, time) = was_lost space (received_at ack now) true acked.losses
            (acked_with space acked any_congestion) does.sampled
            (sampled_ending space now ranges ack is.elicits old new acked does any_congestion) sent found
            in (space, n, lost_here space acked.losses n one, time)))

    -- the loss detection timer
    pub timeout_finds : (now : ℕ) (result : Result Timeout SenderError) → TimeoutResult now old new result
        → FindsWithCause (persists_by_timeout result) (lost_by_timeout result) now
        (λ congests. GoesOn (record (timeout_turn result) { congests = congests })) old new
    timeout_finds now (Ok (Lost space losses)) is =
        finds _ _ _ now (last_lost space now false losses old)
        (λ congests may. by_time_ending congests space now losses old new may is.1)
        (λ sent found. (
        let (n, one, time) = was_lost space now false losses no_endings old
        (within_any _ old old (same_quietly old old refl)) sent found in
        (space, n, lost_here space losses n one, time)))
    timeout_finds now (Ok Nothing) is = finds_none _ _ _ now (within_any _ old new (same_quietly old new is.1))
    timeout_finds now (Ok (Probe space count)) is =
        finds_none _ _ _ now (within_any _ old new (call_quietly [] _ old new is.1 tt))
    timeout_finds now (Err refusal) is = finds_none _ _ _ now (within_any _ old new (same_quietly old new is.2))

-- ---- a step of an endpoint

to_itself : (end : End) (is : Bool) → is ≡ true → (same_end end end && is) ≡ true
to_itself Client is same = same
to_itself Server is same = same

module _ (at now : ℕ) (there : SpaceId) (number size : ℕ) (items : Vec ℕ) where
  lost_by_frame : (end : End) (acked : AckOutcome) (space : SpaceId) (n : ℕ) → IsOneOf n (lost_by_ack there acked space)
      → IsOneOf n (lost_by end space (Arrive at now, Ok (Arrived end there number size (New items acked))))
  lost_by_frame Client (Taken acked) space n one = one
  lost_by_frame Server (Taken acked) space n one = one
  lost_by_frame end acked space n one = absurd one

lost_by_timer : (now : ℕ) (end : End) (result : Result PairAnswer SenderError) (space : SpaceId) (n : ℕ)
    → IsOneOf n (lost_by_local (Expire now) result space)
    → IsOneOf n (lost_by end space (Local end (Expire now), result))
lost_by_timer now Client (Ok (Expired (Lost there losses))) space n one = one
lost_by_timer now Server (Ok (Expired (Lost there losses))) space n one = one
lost_by_timer now end result space n one = absurd one

module _ {F Q R C K S M P : Type 0} {f : _} {c : _} {q : _} {m : _} {r : _} (validated : Bool) (end : End)
    (log : PairLog) (here there after : Sender F Q R C K S M P f c q m r) (wire : List WirePacket)
    (tied : IsTiedAt validated end log here there wire) (falls : FallsByRecovery c.words) where
  recovers_by : (Goes : History Q S M P → History Q S M P → Type 0) (congests : Congestions)
      → ((past next : History Q S M P) → Goes past next → AddsCongestion congests past next)
      → Continues Goes here after → Recovers c.words congests (controller_in here) (controller_in after)
  recovers_by Goes congests adds goes =
      let own = went tied.own goes in
      past_recovers (beginning_of tied.own) falls congests tied.own.past own.0 (state_in here) (state_in after)
      tied.own.came own.1 (adds tied.own.past own.0 own.2)

  -- no congestion is found
  pub calm_falls : (event : PairEvent) (Goes : History Q S M P → History Q S M P → Type 0)
      → ((past next : History Q S M P) → Goes past next → AddsCongestion no_congestion past next)
      → Continues Goes here after → FallsAt log event end here after
  calm_falls event Goes adds goes = elim (recovers_by Goes no_congestion adds goes)
      [ inl kept ↦ inl kept | inr begun ↦ no_acks begun.later.2 ]

  found_falls : (event : PairEvent) (persistent : Bool) (lost : SpaceId → List ℕ)
      (Goes : Congestions → History Q S M P → History Q S M P → Type 0)
      → ((congests : Congestions) (past next : History Q S M P) → Goes congests past next
      → AddsCongestion congests past next)
      → ((start : ℕ) → start ≡ min (found_at event.0) latest_start → BeginsAt event.0 start)
      → (persistent ≡ true → persists_at end event ≡ true)
      → ((space : SpaceId) (n : ℕ) → IsOneOf n (lost space) → IsOneOf n (lost_by end space event))
      → FindsWithCause persistent lost (found_at event.0) Goes here after → FallsAt log event end here after
  found_falls event persistent lost Goes adds starts persists named finds =
      by (recovers_by (Goes finds.congests) finds.congests (adds finds.congests) finds.goes)
    where
      caused : (sent : ℕ) → recovery_start_in here < sent → (persistent ≡ true) ⊎ WasLost here lost sent
          → (persists_at end event ≡ true) ⊎ (space : SpaceId) × (n : ℕ) × IsOneOf n (lost_by end space event)
          × (recovery_start_in here < time_sent end space n log)
      caused sent less (inl is) = inl (persists is)
      caused sent less (inr (space, n, one, time)) =
          let own = tied.own in
          let same = time own.config own.start own.random own.past own.came ∙ tied.logged.times space n in
          inr (space, n, named space n one, subst (λ (at : ℕ). recovery_start_in here < at) same less)

      by : Recovers c.words finds.congests (controller_in here) (controller_in after)
          → FallsAt log event end here after
      by (inl kept) = inl kept
      by (inr begun) =
          let (found, sent, may, less) = begun.later in
          let (at, last, is, begins) = begun.begins in
          inr (record {
            begins = starts _ (begins ∙ finds.at at last is);
            cause = caused sent less (finds.cause found
                sent may);
          })

  -- a packet arrives
  pub arrived_falls : (at now : ℕ) (space : SpaceId) (number size : ℕ) (items : Vec ℕ) (acked : AckOutcome)
      → FindsWithCause (persists_by_ack acked) (lost_by_ack space acked) now (λ congests. HearsNumber now size space
      number (Ok true) (with_congestion congests (endings_by_ack space acked))) here after
      → FallsAt log (Arrive at now, Ok (Arrived end space number size (New items acked))) end here after
  arrived_falls at now space number size items acked =
      found_falls (Arrive at now, Ok (Arrived end space number size (New items acked))) _ _ _
      (λ congests past next goes. goes.goes.congested) (λ start is. is) (to_itself end (persists_by_ack acked))
      (lost_by_frame at now space number size items end acked)

  -- a step without the network
  pub local_falls : (step : LocalStep) (result : Result PairAnswer SenderError)
      → Continues (GoesOn (local_turn step result)) here after → FindsByTimer step result here after
      → FallsAt log (Local end step, result) end here after
  local_falls (Expire now) result goes finds =
      found_falls (Local end (Expire now), result) _ _ _ (λ congests past next goes. goes.congested)
      (λ start is. is) (to_itself end (persists_by_timer result)) (lost_by_timer now end result) finds
  local_falls (Discard space now) (Ok Done) goes finds =
      calm_falls _ (GoesOn (discarding space)) (λ past next goes. goes.congested) goes
  local_falls (Discard space now) result goes finds = calm_falls _ GoesOnQuietly (λ past next goes. goes.congested) goes
  local_falls AddressValidated (Ok Done) goes finds =
      calm_falls _ (GoesOn validating) (λ past next goes. goes.congested) goes
  local_falls AddressValidated result goes finds = calm_falls _ GoesOnQuietly (λ past next goes. goes.congested) goes
  local_falls step result goes finds = calm_falls _ GoesOnQuietly (λ past next goes. goes.congested) goes

-- ---- NewReno

pub reno_falls : FallsByRecovery reno_words
reno_falls = record { other = other; congested = congested }
  where
    other : (call : ControllerCall) (reno : NewReno) → IsNoCongestion call
        → KeepsRecovery reno_words reno (reno_after call reno)
    other (reports_congestion now sent persistent lost) reno never = absurd never
    other call reno is = record {
      start = (reno_rounds.other call reno tt).start_is;
      window = grind (arith, nat_tests);
      threshold = grind (arith, nat_tests);
    }

    begun : (now sent : ℕ) (persistent : Bool) (reno : NewReno) (early : Bool)
        → nat_le sent reno.recovery_start_time ≡ early
        → (let new = if early then reno else reno_recovering now persistent reno in
        KeepsRecovery reno_words reno new
        ⊎ (reno.recovery_start_time < sent) × (new.recovery_start_time ≡ now))
    begun now sent persistent reno true is = inl (keeps_same reno_words reno)
    begun now sent persistent reno false is = inr (grind (arith, nat_tests, is), refl)

    congested : (now sent : ℕ) (persistent : Bool) (lost : ℕ) (reno : NewReno)
        → (let new = reno_words.after (reports_congestion now sent persistent lost) reno in
        KeepsRecovery reno_words reno new ⊎ (reno.recovery_start_time < sent) × (new.recovery_start_time ≡ now))
    congested now sent persistent lost reno =
        begun now sent persistent reno (nat_le sent reno.recovery_start_time) refl
