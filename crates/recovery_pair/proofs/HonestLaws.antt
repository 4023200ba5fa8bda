-- An ACK frame of numbers that were all sent is not refused for what it says.
use Rattle.std.proofs.Common.{◌≡◌, ℕ, ◌<◌, ◌≤◌, ◌⊎◌, zero, suc, inl, inr, true, false, true≢false, List, [], ◌∷◌, length, get_or, None, Ok, Err, refl, sym, ap, subst, ◌∙◌, arith}
use Rattle.std.specs.Global.{Vec}
use Rattle.std.specs.Prelude.{◌==◌, is_some}
use Rattle.std.proofs.lemmas.Bool.{cases_lt}
use Rattle.std.proofs.lemmas.Bool.Decides.{nat_tests}
use Rattle.rand_core.specs.Stream.{Stream}
use Rattle.recovery_base.specs.declared.below.SpaceId.{SpaceId}
use Rattle.recovery_events.specs.declared.event.Event.TheVariants.{CheckAck}
use Rattle.recovery_events.specs.declared.event.Refusal.{Refusal}
use Rattle.recovery_events.specs.declared.event.Refusal.TheVariants.{SpaceDiscarded, NumberTooLarge, BadRange, SkippedAcked, NoMemory}
use Rattle.recovery_spaces.specs.Tracked.{SentState}
use Rattle.recovery_losses.specs.Frames.{are_ranges, IsInAckRanges, largest_of}
use Rattle.recovery_losses.proofs.FrameLaws.{are_fine, ranges_are}
use Rattle.recovery_history.specs.declared.config.RecoveryConfig.{RecoveryConfig}
use Rattle.recovery_history.specs.History.{Beginning, History, begins, queue_model}
use Rattle.recovery_history.specs.Promises.Skipped.{RejectsSkippedAcks}
use Rattle.recovery_history.specs.Reachability.{ReachedBy}
use Rattle.recovery_history.specs.RecoveryState.{RecoveryState}
use Rattle.recovery_history.specs.ReplyInputs.{ReplyInputs}
use Rattle.recovery_history.specs.Table.{ReplyTable}
use Rattle.recovery_history.specs.Transitions.{acks_to}
use Rattle.recovery_history.specs.RepliesAfter.{RepliesAfter}
use Rattle.recovery_history.proofs.ReachabilityLaws.{keeps}
use Rattle.recovery_history.proofs.RepliesAfterLaws.{told_by_logs}
use Rattle.recovery_history.proofs.Runs.{kept_after}
use Rattle.recovery_history.proofs.SkippedLaws.{AllGiven, keeps_given, none_given}
use Rattle.recovery_history.proofs.StateAfterLaws.{known_same}
use Rattle.recovery_history.proofs.TrackedLaws.{sent_in}
use Rattle.quic_recovery.specs.State.{ReadOnlyTransition}
use Rattle.recovery_sender.specs.Acking.{AckResult}
use Rattle.recovery_sender.specs.Acks.{AckChecked, WereSent}
use Rattle.recovery_sender.specs.Senders.{state_in}
use Rattle.recovery_sender.specs.declared.sender.Sender.{Sender}
use Rattle.recovery_sender.specs.declared.sender.SenderError.{SenderError}
use Rattle.recovery_sender.specs.declared.sender.SenderError.TheVariants as refused
use Rattle.recovery_losses.specs.declared.frames.Ack.{Ack}
use Rattle.recovery_sender.specs.declared.sender.acks.Acknowledged.{Acknowledged}
use Rattle.recovery_pair.specs.declared.steps.AckOutcome.TheVariants.{Refused, Taken}
use Rattle.recovery_pair.specs.Frames.{IsSoundFrame}
use Rattle.recovery_pair.specs.Pasts.{AcksWithin, NoAccusation, WasSentUnder, WereSentUnder}
use Rattle.recovery_pair.specs.Promises.NeverAccused.{IsSpared}

-- ---- numbers in ranges

in_range_at : (ranges : List (ℕ × ℕ)) (at n : ℕ) → at < length ranges → (get_or ranges at (0, 0)).0 ≤ n
    → n ≤ (get_or ranges at (0, 0)).1 → IsInAckRanges n ranges
in_range_at [] at n within low high = absurd (omega (arith, within))
in_range_at (range ∷ ranges) zero n within low high = inl (low, high)
in_range_at (range ∷ ranges) (suc at) n within low high =
    inr (in_range_at ranges at n (omega (arith, within)) low high)

some_range : (ranges : List (ℕ × ℕ)) → are_ranges ranges ≡ true → 0 < length ranges
some_range [] fine = absurd (true≢false (sym fine))
some_range (range ∷ ranges) fine = omega arith

module _ (ranges : List (ℕ × ℕ)) (fine : are_ranges ranges ≡ true) where
  range_whole : (at : ℕ) → at < length ranges → (get_or ranges at (0, 0)).0 ≤ (get_or ranges at (0, 0)).1
  range_whole = (are_fine None ranges (sym (ranges_are ranges (some_range ranges fine)) ∙ fine)).whole

-- ---- numbers that were sent

module _ {F K Q S M P : Type 0} (beginning : Beginning F K Q S M P) (past : History Q S M P)
    (recovery : RecoveryState K P M) (came : ReachedBy beginning past recovery) where
  given_below : (space : SpaceId) (n : ℕ) → WasSentUnder space n past → n < (sent_in beginning past space).next
  given_below space n some = elim (cases_lt n (sent_in beginning past space).next) [
    | inl below ↦ below
    | inr up ↦ (
        let all : AllGiven beginning past = kept_after (RepliesAfter beginning) (AllGiven beginning)
        (keeps_given beginning) (none_given beginning) past came.replies in
        let none = (all space n).late up in
        absurd (omega (arith, none, some))
        )
  ]

module _ {F Q R C K S M P : Type 0} {f : _} {c : _} {q : _} {m : _} {r : _} (sender : Sender F Q R C K S M P f c q m r)
    (config : RecoveryConfig F) (start : ℕ) (random : Stream) (past : History Q S M P)
    (came : ReachedBy (begins f.built c.words (queue_model q.contents q.words q.blank) config start random) past
    (state_in sender)) (space : SpaceId) (ranges : List (ℕ × ℕ)) (fine : are_ranges ranges ≡ true)
    (sent : WereSentUnder space ranges past) where
  abbrev origin : Beginning F K Q S M P
  origin = begins f.built c.words (queue_model q.contents q.words q.blank) config start random

  abbrev IsSpare : SenderError → Type 0
  IsSpare refusal = (refusal ≡ refused.Event NoMemory) ⊎ (refusal ≡ refused.Event SpaceDiscarded)

  all_sent : (these : List (ℕ × ℕ)) → these ≡ ranges → WereSent space these sender.recovery.recovery
  all_sent [] same = tt
  all_sent (range ∷ more) same =
      let whole = range_whole (range ∷ more) (ap are_ranges same ∙ fine) 0 (omega arith) in
      let one = sent range.1 (rw (← same) (inl (whole, omega arith))) in
      let next = ap (λ (s : SentState P M). s.next) (came.state_after.spaces space).sent in
      let below = given_below origin past (state_in sender) came space range.1 one.0 in
      omega (arith, next, below)

  -- no range is refused
  checked : (at : ℕ) (refusal : Refusal) → at < length ranges
      → (let range = get_or ranges at (0, 0) in
      ReadOnlyTransition (CheckAck space range.0 range.1) sender.recovery.recovery (Err refusal))
      → IsSpare (refused.Event refusal)
  checked at refusal within said =
      let range = get_or ranges at (0, 0) in
      let here : RepliesAfter origin past (CheckAck space range.0 range.1) (Err refusal) =
      told_by_logs origin past (state_in sender) came.state_after (CheckAck space range.0 range.1) (Err refusal)
      (subst (λ (known : ReplyInputs K P M). ReplyTable (queue_model q.contents q.words q.blank)
      (state_in sender).settings.words (acks_to (state_in sender)) known (CheckAck space range.0 range.1) (Err refusal))
      (known_same origin past (state_in sender) came.state_after) said) in
      let promise = (keeps origin came.small past (CheckAck space range.0 range.1) (Err refusal)
      (here, came.replies)).skipped_acks in
      by range refl refusal promise
    where
      high_in : IsInAckRanges (get_or ranges at (0, 0)).1 ranges
      high_in = in_range_at ranges at (get_or ranges at (0, 0)).1 within (range_whole ranges fine at within) (omega
          arith)

      by : (range : ℕ × ℕ) → range ≡ get_or ranges at (0, 0) → (refusal : Refusal)
          → RejectsSkippedAcks past (CheckAck space range.0 range.1) (Err refusal) → IsSpare (refused.Event refusal)
      by range same SpaceDiscarded promise = inr refl
      by range same NumberTooLarge promise =
          let small = (sent (get_or ranges at (0, 0)).1 high_in).1 in absurd (omega (arith, rw same at promise, small))
      by range same BadRange promise =
          let whole = range_whole ranges fine at within in absurd (omega (arith, rw same at promise.1, whole))
      by range same SkippedAcked promise =
          let skip = promise.1 in
          let some = (sent skip.0 (in_range_at ranges at skip.0 within (rw same at skip.3) (rw same at skip.4))).0 in
          let none = skip.1.0 in
          absurd (omega (arith, none, some))
      by range same other promise = absurd promise

  pub spared : (refusal : SenderError) → AckChecked space ranges sender.recovery.recovery (Err refusal)
      ⊎ (refusal ≡ refused.Event NoMemory) → IsSpare refusal
  spared refusal (inr memory) = inl memory
  spared refused.Unsent (inl (whole, unsent)) = absurd (unsent (all_sent ranges refl))
  spared refused.DataSpace (inl never) = absurd never
  spared (refused.Event refusal) (inl (inl (gone, is))) = inr (ap (λ (r : Refusal). refused.Event r) is)
  spared (refused.Event refusal) (inl (inr (inl (kept, bad, is)))) = absurd (true≢false (sym fine ∙ bad))
  spared (refused.Event refusal) (inl (inr (inr (whole, were, at, within, said)))) = checked at refusal within said

module _ {F Q R C K S M P : Type 0} {f : _} {c : _} {q : _} {m : _} {r : _} (space : SpaceId) (now : ℕ)
    (ranges : List (ℕ × ℕ)) (ack : Ack) (old new : Sender F Q R C K S M P f c q m r) where
  pub refused_spared : (refusal : SenderError) → (ranges ≡ [] → ⊥)
      → AckResult space now ranges ack old new (Err refusal)
      → NoAccusation space ranges old (Refused refusal)
  refused_spared refusal some is sound config start random past came were = by sound
    where
      by : IsSoundFrame ranges → IsSpared (Refused refusal)
      by (inl none) = absurd (some none)
      by (inr fine) = spared old config start random past came space ranges fine were refusal is.1

  pub taken_within : (acked : Acknowledged) → AckResult space now ranges ack old new (Ok acked)
      → AcksWithin ranges (Taken acked)
  taken_within acked is n there = ((is.newly.each n).0 there).0

pub some_items : {T : Type 0} (all : Vec T) → false ≡ (all.len == 0) → all.items ≡ [] → ⊥
some_items {T} all some none = let length_is = all.ok.0 in
    let empty = ap (λ (items : List T). length items) none in grind (arith, nat_tests, some, length_is, empty)

-- a packet has an ACK frame exactly if it has ranges
pub no_largest : (all : Vec (ℕ × ℕ)) → true ≡ (all.len == 0) → largest_of all.items ≡ None
no_largest all none = by all.items refl
  where
    by : (items : List (ℕ × ℕ)) → all.items ≡ items → largest_of items ≡ None
    by [] is = refl
    by (range ∷ ranges) is = let length_is = all.ok.0 in
        let some = ap (λ (items : List (ℕ × ℕ)). length items) is in absurd (grind (
          arith,
          nat_tests,
          none,
          length_is,
          some,
        ))

pub has_largest : (ranges : List (ℕ × ℕ)) → (ranges ≡ [] → ⊥) → is_some (largest_of ranges) ≡ true
has_largest [] some = absurd (some refl)
has_largest (range ∷ ranges) some = refl
