-- An ACK_FREQUENCY frame is accepted if the history says that it is the newest: the clause `frequency` of `run`.
use Rattle.std.proofs.lemmas.Bool.Decides.{nat_tests}
use Rattle.std.proofs.Common.{◌≡◌, ◌<◌, ◌^◌, ℕ, ◌&&◌, ◌↔◌, not, nat_lt, Bool, true, false, ◌∷◌, Option, None, Some, Ok, Err, refl, arith, if◌then◌else◌, IsTrue}
use Rattle.recovery_base.specs.declared.below.SpaceId.TheVariants.{Data}
use Rattle.recovery_acks.specs.AckFrequencies.{IsStale, delay_of}
use Rattle.recovery_spaces.specs.Packets.{is_above}
use Rattle.recovery_events.specs.declared.event.Event.{Event}
use Rattle.recovery_events.specs.declared.event.Event.TheVariants.{AckFrequencyIn}
use Rattle.recovery_events.specs.declared.event.Answer.TheVariants.{Flag}
use Rattle.recovery_events.specs.declared.event.Refusal.TheVariants.{SpaceDiscarded, DelayTooSmall}
use Rattle.recovery_history.specs.Table.{last_asked}
use Rattle.recovery_history.specs.RepliesAfter.{RepliesAfter}
use Rattle.recovery_history.specs.History.{Beginning, History, Reply}
use Rattle.recovery_history.specs.Replies.{IsFlag, RejectsWhen, AlwaysAnswers}
use Rattle.recovery_history.specs.Promises.Frequency.{is_newest, AppliesNewestFrequency}
use Rattle.recovery_history.specs.Promises.NewNumbers.{is_discarded}
use Rattle.recovery_history.proofs.Runs.{AllAlong, throughout_kept}

-- ---- numbers above the last one

-- what is no newer than the last is not above it
above_or_stale : (last : Option ℕ) (n : ℕ) → (is_above last n ≡ true) ↔ (¬ IsStale last n)
above_or_stale None n = (λ is stale. stale, λ other. refl)
above_or_stale (Some m) n = grind (arith, nat_tests)

module _ (last : Option ℕ) (sequence n : ℕ) (newest : Bool) (same : newest ≡ is_above last n) where
  -- a newer frame was received
  newer_came : ¬ IsStale last sequence → (nat_lt sequence n && newest) ≡ is_above (Some sequence) n
  newer_came newer = grind (arith, nat_tests, same, newer)

  -- one was received that is no newer
  older_came : ¬ (¬ IsStale last sequence) → (nat_lt sequence n && newest) ≡ is_above last n
  older_came older = grind (arith, nat_tests, same, older)

-- ---- one reply

-- the table, if tests decide its causes
by_tests : {Q : Type 0} (discarded newest small : Bool) (Newer Small : Type 0) → (newest ≡ true) ↔ Newer
    → (small ≡ true) ↔ Small → (reply : Reply Q)
    → RejectsWhen SpaceDiscarded (IsTrue discarded)
    (RejectsWhen DelayTooSmall (Newer × Small) (AlwaysAnswers (IsFlag Newer))) reply
    → reply ≡ (if discarded then Err SpaceDiscarded
    else if not newest then Ok (Flag false)
    else if small then Err DelayTooSmall
    else Ok (Flag true))
by_tests discarded newest small Newer Small news smalls reply told = grind (arith, told, news, smalls)

module _ {F K Q S M P : Type 0} (beginning : Beginning F K Q S M P) where
  -- the last frame that was newer is the newest
  abbrev Newest : History Q S M P → Type 0
  Newest history = (n : ℕ) → is_newest n history ≡ is_above (last_asked history) n

  newest_after : (before : History Q S M P) (event : Event Q S M P) (reply : Reply Q)
      → RepliesAfter beginning before event reply → Newest before → Newest ((event, reply) ∷ before)
  newest_after before (AckFrequencyIn frame) (Ok (Flag true)) told same n =
      let flag = told.1.1 in
      newer_came (last_asked before) frame.sequence n (is_newest n before) (same n) (flag.0 refl)
  newest_after before (AckFrequencyIn frame) (Ok (Flag false)) told same n =
      let flag = told.1.1 in
      older_came (last_asked before) frame.sequence n (is_newest n before) (same n)
      (λ newer. (let is = flag.1 newer in cc))
  newest_after before (AckFrequencyIn frame) (Ok answer) told same n = absurd told.1.1
  newest_after before (AckFrequencyIn frame) (Err DelayTooSmall) told same n =
      let small = told.1 in
      newer_came (last_asked before) frame.sequence n (is_newest n before) (same n) small.0
  newest_after before event reply told same n = same n

  takes : (before : History Q S M P) (event : Event Q S M P) (reply : Reply Q)
      → RepliesAfter beginning before event reply
      → Newest before → AppliesNewestFrequency before event reply
  takes before (AckFrequencyIn frame) reply told same =
      let last = last_asked before in
      let sequence = frame.sequence in
      by_tests (is_discarded Data before) (is_newest sequence before) (nat_lt (delay_of frame) (10 ^ 6))
      (¬ IsStale last sequence) (delay_of frame < 10 ^ 6) (rw (same sequence) (above_or_stale last sequence))
      (grind (arith, nat_tests)) reply told
  takes before event reply told same = tt

  pub takes_newest : AllAlong beginning AppliesNewestFrequency
  takes_newest = throughout_kept beginning Newest AppliesNewestFrequency newest_after takes (λ n. refl)
