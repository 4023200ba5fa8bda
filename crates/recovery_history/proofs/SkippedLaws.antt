-- The number under which a packet is sent, which numbers were skipped, and which packets are rejected, by the history:
-- the clauses `next_number`, `no_skips`, `skipped_acks` and `send_result` of `run`.
use Rattle.std.proofs.lemmas.Bool.Decides.{nat_tests}
use Rattle.std.proofs.lemmas.Bool.{cases_lt, false≢true}
use Rattle.std.proofs.Common.{◌≡◌, ◌<◌, ◌≤◌, ◌+◌, ◌-◌, ◌^◌, ℕ, zero, suc, ◌==◌, ◌&&◌, nat_lt, Bool, true, false, cond, List, [], ◌∷◌, Option, None, Some, Ok, Err, ◌⊎◌, inl, inr, ◌↔◌, if◌then◌else◌, refl, sym, ap, ◌∙◌, arith}
use Rattle.std.specs.Prelude.{IsSomeAnd}
use Rattle.rand_core.specs.Stream.{Stream}
use Rattle.recovery_base.specs.declared.below.SpaceId.{SpaceId}
use Rattle.recovery_base.specs.declared.below.SpaceId.TheVariants.{Data}
use Rattle.recovery_base.specs.Spaces.{same_space}
use Rattle.recovery_spaces.specs.Packets.{Packet}
use Rattle.recovery_spaces.specs.SpaceLog.{SpaceEntry, sends}
use Rattle.recovery_spaces.specs.Tracked.{sent_by}
use Rattle.recovery_packet_numbers.specs.Skips.{is_at, is_skipped, next_skip, skip_at, skips_below, skip_before, number_from, IsGreatestBelow}
use Rattle.recovery_packet_numbers.specs.declared.filter.Skips.TheVariants.{Disabled}
use Rattle.recovery_packet_numbers.proofs.SkipCountLaws.{skip_before_greatest}
use Rattle.recovery_packet_numbers.proofs.SkipLaws.{number_not_skipped}
use Rattle.recovery_events.specs.declared.event.Event.{Event}
use Rattle.recovery_events.specs.declared.event.Event.TheVariants.{Send, PollMtu, CheckAck}
use Rattle.recovery_events.specs.declared.event.Answer.TheVariants as answers
use Rattle.recovery_events.specs.declared.event.Answer.TheVariants.{Probe}
use Rattle.recovery_events.specs.declared.event.Refusal.TheVariants.{SpaceDiscarded, NumberTooLarge, BadRange, SkippedAcked, NumbersExhausted, Overflow, NoMemory}
use Rattle.recovery_history.specs.RepliesAfter.{logs_of, inputs_after, RepliesAfter}
use Rattle.recovery_history.specs.History.{Beginning, History, Reply}
use Rattle.recovery_history.specs.ReplyInputs.{ReplyInputs, number_in, packet_now, current_in_flight}
use Rattle.recovery_history.specs.Logs.{onto}
use Rattle.recovery_history.specs.PartReplies.{skipped_in}
use Rattle.recovery_history.specs.Promises.Fates.{more_if, times, is_given}
use Rattle.recovery_history.specs.Promises.Sends.{OverflowsInFlight, SendsOrRejects}
use Rattle.recovery_history.specs.Promises.Skipped.{IsAboveAllSent, IsNextNumber, AssignsNextNumber, RejectsSkippedAcks}
use Rattle.recovery_history.specs.Promises.Tracked.{goes_out}
use Rattle.recovery_history.specs.Promises.Unskipped.{SkipsNoNumbers}
use Rattle.recovery_history.proofs.AnswerLaws.{past_four}
use Rattle.recovery_history.proofs.CountedLaws.{Kept, keeps_counts, none_counted, flight_now}
use Rattle.recovery_history.proofs.EntryKinds.{sends_none, space_kind, space_kept}
use Rattle.recovery_history.proofs.Runs.{AllAlong, throughout_kept}
use Rattle.recovery_history.proofs.TrackedLaws.{one_space, probe_number, sent_in}

-- ---- the numbers of a space, by how often each was assigned

-- of one: below the next it was assigned, unless it is skipped; from there on it was not; and the last one was no skip
pub record Gives (skip : ℕ → Bool) (next n count : ℕ) : Type 0 where
  pub given : n < next → skip n ≡ false → 0 < count
  pub left_out : skip n ≡ true → count ≡ 0
  pub last : n + 1 ≡ next → skip n ≡ false
  pub late : next ≤ n → count ≡ 0

-- a number that is sent: the next one, or the one after it if that is skipped
abbrev MayGo : (ℕ → Bool) → ℕ → ℕ → Type 0
MayGo skip next number = (skip number ≡ false) × ((number ≡ next) ⊎ ((number ≡ next + 1) × (skip next ≡ true)))

module _ (skip : ℕ → Bool) (next n count : ℕ) (here : Gives skip next n count) where
  -- the one number in between
  between_skipped : (number : ℕ) → MayGo skip next number → n < number → next ≤ n → skip n ≡ true
  between_skipped number goes below up =
      let is : n ≡ next = grind (arith, goes.1, below, up) in rw is (grind (arith, goes.1, below, up))

  gives_more : (number : ℕ) → MayGo skip next number → Gives skip (number + 1) n (more_if (number == n) count)
  gives_more number goes = grind (arith, nat_tests, here, goes, between_skipped number goes)

module _ (skip : ℕ → Bool) (next : ℕ) (count : ℕ → ℕ) (all : (n : ℕ) → Gives skip next n (count n)) where
  abbrev Above : ℕ → Type 0
  Above n = (m : ℕ) → n ≤ m → count m ≡ 0

  last_given : (k : ℕ) → k + 1 ≡ next → 0 < count k
  last_given k is = (all k).given (omega (arith, is)) ((all k).last is)

  -- what is above all assigned numbers is not below the next number
  not_below : (m : ℕ) → Above m → next ≤ m
  not_below m above = elim (cases_lt m next) [
    | inl less ↦ grind (arith, less, last_given (next - 1), above (next - 1))
    | inr up ↦ up
  ]

  above_all : (number : ℕ) → MayGo skip next number → Above number
  above_all number goes m up = (all m).late (grind (arith, goes.1, up))

  between : (number m : ℕ) → MayGo skip next number → Above m → m < number → (skip next ≡ true) × (m + 1 ≡ number)
  between number m goes above less = let up = not_below m above in grind (arith, goes.1, up, less)

  -- ---- those that were skipped

  abbrev Skipped : ℕ → Type 0
  Skipped n = (count n ≡ 0) × ((m : ℕ) × (n < m) × (0 < count m))

  to_skipped : (n : ℕ) → n < next → skip n ≡ true → Skipped n
  to_skipped n below is =
      let last : next - 1 + 1 ≡ next = omega (arith, below) in
      let free = (all (next - 1)).last last in
      ((all n).left_out is, (next - 1, grind (arith, below, is, free), last_given (next - 1) last))

  from_skipped : (n : ℕ) → Skipped n → (n < next) × (skip n ≡ true)
  from_skipped n was = grind (arith, was, all n, all was.1.0)

  -- the largest below the next number, if there is one
  abbrev IsGreatest : Option ℕ → Type 0
  IsGreatest None = (m : ℕ) → m < next → skip m ≡ false
  IsGreatest (Some s) = (s < next) × (skip s ≡ true) × ((m : ℕ) → s < m → m < next → skip m ≡ false)

  abbrev Holds : ℕ → ℕ → Type 0
  Holds low high = (n : ℕ) × Skipped n × ((m : ℕ) → Skipped m → m ≤ n) × (low ≤ n) × (n ≤ high)

  at_most : (s : ℕ) → IsGreatest (Some s) → (m : ℕ) → Skipped m → m ≤ s
  at_most s greatest m was = grind (arith, greatest, from_skipped m was)

  holds_to : (found : Option ℕ) → IsGreatest found → (low high : ℕ)
      → IsSomeAnd found (λ s. (low ≤ s) × (s ≤ high)) → Holds low high
  holds_to None greatest low high within = absurd within
  holds_to (Some s) greatest low high within =
      (s, to_skipped s greatest.0 greatest.1, at_most s greatest, within.0, within.1)

  holds_from : (found : Option ℕ) → IsGreatest found → (low high : ℕ) → Holds low high
      → IsSomeAnd found (λ s. (low ≤ s) × (s ≤ high))
  holds_from None greatest low high holds = grind (arith, greatest, from_skipped holds.0 holds.1)
  holds_from (Some s) greatest low high holds =
      grind (arith, holds, to_skipped s greatest.0 greatest.1, at_most s greatest holds.0 holds.1)

-- ---- if skipping is disabled

behind_none : (exponent : ℕ) (at : Option ℕ × Stream) → at.0 ≡ None → (next_skip exponent at).0 ≡ None
behind_none exponent (None, words) none = refl
behind_none exponent (Some s, words) none = absurd (cc)

no_skip : (words : Stream) (k : ℕ) → (skip_at Disabled words k).0 ≡ None
no_skip words zero = refl
no_skip words (suc k) = behind_none (6 + k) (skip_at Disabled words k) (no_skip words k)

none_is_skipped : (words : Stream) (n : ℕ) → is_skipped Disabled words n ≡ false
none_is_skipped words n = ap (is_at n) (no_skip words (skips_below Disabled words n))

-- ---- what an event does to them

module _ {F K Q S M P : Type 0} (beginning : Beginning F K Q S M P) where
  -- of the numbers of 1-RTT packets some are skipped
  abbrev skip_in : SpaceId → ℕ → Bool
  skip_in Data n = is_skipped beginning.config.skips beginning.random n
  skip_in space n = false

  -- if skipping is disabled, no number is skipped
  never : beginning.config.skips ≡ Disabled → (space : SpaceId) (n : ℕ) → skip_in space n ≡ false
  never none Data n = rw none (none_is_skipped beginning.random n)
  never none space n = refl

  only_data : (space : SpaceId) (n : ℕ) → skip_in space n ≡ true → space ≡ Data
  only_data Data n is = refl
  only_data space n is = absurd (false≢true is)

  from_or_behind : (n : ℕ) → (number_from beginning.config.skips beginning.random n ≡ n)
      ⊎ ((number_from beginning.config.skips beginning.random n ≡ n + 1) × (skip_in Data n ≡ true))
  from_or_behind n = go (is_skipped beginning.config.skips beginning.random n) refl
    where
      go : (is : Bool) → is_skipped beginning.config.skips beginning.random n ≡ is
          → (cond is (n + 1) n ≡ n) ⊎ ((cond is (n + 1) n ≡ n + 1) × (skip_in Data n ≡ true))
      go true here = inr (refl, here)
      go false here = inl refl

  -- the number that is assigned may be sent
  may_go : (history : History Q S M P) (space : SpaceId)
      → MayGo (skip_in space) (sent_in beginning history space).next (number_in (inputs_after beginning history) space)
  may_go history Data =
      let next = (sent_in beginning history Data).next in
      (number_not_skipped beginning.config.skips beginning.random next, from_or_behind next)
  may_go history space = (refl, inl refl)

  abbrev pub GivesIn : History Q S M P → SpaceId → ℕ → Type 0
  GivesIn history space n =
      Gives (skip_in space) (sent_in beginning history space).next n (times (is_given space n) history)

  abbrev pub AllGiven : History Q S M P → Type 0
  AllGiven history = (space : SpaceId) (n : ℕ) → GivesIn history space n

  module _ (before : History Q S M P) (space : SpaceId) (n : ℕ) (here : GivesIn before space n) where
    abbrev log : List (SpaceEntry P M)
    log = (logs_of beginning before).spaces space

    abbrev known : ReplyInputs K P M
    known = inputs_after beginning before

    abbrev count_now : ℕ
    count_now = times (is_given space n) before

    abbrev After : Option (SpaceEntry P M) → ℕ → Type 0
    After entry count = Gives (skip_in space) (sent_by beginning.queue.words (onto entry log)).next n count

    unmoved : (entry : SpaceEntry P M) → sends_none (space_kind entry) ≡ true → After (Some entry) count_now
    unmoved entry none = grind (arith, none, here)

    -- a packet is sent, in this space or in another one
    goes_told : (there : SpaceId) (packet : Packet P M) (number : ℕ) → number ≡ number_in known there → (b : Bool)
        → same_space there space ≡ b
        → After (cond b (Some (sends (number_in known there) packet)) None) (more_if (b && number == n) count_now)
    goes_told there packet number is true at =
        rw (is, one_space there space at)
        (gives_more (skip_in space) _ n count_now here (number_in known space) (may_go before space))
    goes_told there packet number is false at = here

    reply_gives : (event : Event Q S M P) (reply : Reply Q) → RepliesAfter beginning before event reply
        → GivesIn ((event, reply) ∷ before) space n
    reply_gives (Send there now size eliciting largest queue frames) (Ok (answers.Sent number forgotten)) told =
        let is = past_four told in
        goes_told there (packet_now known now size eliciting largest (beginning.queue.contents queue) frames) number
        (cc) (same_space there space) refl
    reply_gives (Send there now size eliciting largest queue frames) (Ok answer) told = let is = past_four told in cc
    reply_gives (PollMtu now) (Ok (Probe number size)) told =
        goes_told Data (packet_now known now size true None beginning.queue.words.empty beginning.queue.blank) number
        (probe_number beginning.queue known now _ number size told.1.1) (same_space Data space) refl
    reply_gives (PollMtu now) (Ok answer) told = here
    reply_gives event (Ok answer) told =
        space_kept beginning.queue known space (λ entry. After entry count_now) sends_none here unmoved event
        (Ok answer) refl
    reply_gives (PollMtu now) (Err refusal) told = here
    reply_gives event (Err refusal) told = here

  -- ---- throughout a run

  pub keeps_given : (before : History Q S M P) (event : Event Q S M P) (reply : Reply Q)
      → RepliesAfter beginning before event reply → AllGiven before → AllGiven ((event, reply) ∷ before)
  keeps_given before event reply told all = λ space n. reply_gives before space n (all space n) event reply told

  pub none_given : AllGiven []
  none_given = λ space n. grind arith

  module _ (before : History Q S M P) (all : AllGiven before) where
    pub is_next : (space : SpaceId) → IsNextNumber space (number_in (inputs_after beginning before) space) before
    is_next space =
        let skip = skip_in space in
        let next = (sent_in beginning before space).next in
        let count : ℕ → ℕ = λ n. times (is_given space n) before in
        let number = number_in (inputs_after beginning before) space in
        let goes = may_go before space in (
          above_all skip next count (all space) number goes,
          λ m above less. (
              let is = between skip next count (all space) number m goes above less in
              (only_data space next is.0, is.1)
              ),
        )

    -- a packet that is sent has that number
    goes_as : (there : SpaceId) (given : ℕ) → given ≡ number_in (inputs_after beginning before) there
        → (space : SpaceId) (number : ℕ) → (same_space there space && given == number) ≡ true
        → number ≡ number_in (inputs_after beginning before) space
    goes_as there given is space number goes =
        let same : number ≡ given = grind (arith, nat_tests, goes) in
        let at = one_space there space (grind (arith, nat_tests, goes)) in
        rw (same, is, ← at) refl

    number_told : (event : Event Q S M P) (reply : Reply Q) → RepliesAfter beginning before event reply
        → (space : SpaceId) (number : ℕ) → goes_out (event, reply) space number ≡ true
        → number ≡ number_in (inputs_after beginning before) space
    number_told (Send there now size eliciting largest queue frames) (Ok (answers.Sent number forgotten)) told =
        let is = past_four told in goes_as there number (cc)
    number_told (PollMtu now) (Ok (Probe number size)) told =
        goes_as Data number (probe_number beginning.queue (inputs_after beginning before) now _ number size told.1.1)
    number_told event reply told = λ space number goes. absurd (false≢true goes)

    gives_next : (event : Event Q S M P) (reply : Reply Q) → RepliesAfter beginning before event reply
        → AssignsNextNumber before event reply
    gives_next event reply told = λ space number goes.
        rw (number_told event reply told space number goes) (is_next space)

    -- ---- if none is skipped

    is_first : beginning.config.skips ≡ Disabled → (space : SpaceId) (m : ℕ) → IsAboveAllSent space m before
        → number_in (inputs_after beginning before) space ≤ m
    is_first none space m above = go (nat_lt m number) refl
      where
        number : ℕ
        number = number_in (inputs_after beginning before) space

        go : (b : Bool) → nat_lt m number ≡ b → number_in (inputs_after beginning before) space ≤ m
        go false least = grind (arith, nat_tests, least)
        go true less =
            let next = (sent_in beginning before space).next in
            let is = between (skip_in space) next (λ n. times (is_given space n) before) (all space) number m
            (may_go before space) above (grind (arith, nat_tests, less)) in
            absurd (false≢true (sym (never none space next) ∙ is.0))

    first_told : (event : Event Q S M P) (reply : Reply Q) → RepliesAfter beginning before event reply
        → SkipsNoNumbers beginning before event reply
    first_told event reply told none space number goes m above =
        rw (number_told event reply told space number goes) (is_first none space m above)

    -- ---- the last skip

    abbrev IsLast : SpaceId → Option ℕ → Type 0
    IsLast space = IsGreatest (skip_in space) (sent_in beginning before space).next
        (λ n. times (is_given space n) before) (all space)

    last_skip : (space : SpaceId) → IsLast space (skipped_in (inputs_after beginning before) space)
    last_skip Data =
        let next = (sent_in beginning before Data).next in
        go (skip_before beginning.config.skips beginning.random next)
        (skip_before_greatest beginning.config.skips beginning.random next)
      where
        go : (found : Option ℕ)
            → IsGreatestBelow beginning.config.skips beginning.random (sent_in beginning before Data).next found
            → IsLast Data found
        go None greatest = greatest
        go (Some s) greatest = greatest
    last_skip space = λ m below. refl

    checks : (space : SpaceId) (low high : ℕ) (reply : Reply Q)
        → RepliesAfter beginning before (CheckAck space low high) reply → RejectsSkippedAcks before
        (CheckAck space low high) reply
    checks space low high (Ok given) told =
        let behind = told.1.1 in
        let last = behind.1 in (
          last.1,
          omega (arith, told.1.0),
          omega (arith, behind.0),
          λ holds. last.0 (holds_from (skip_in space) _ _ (all space) (skipped_in (inputs_after beginning before) space)
              (last_skip space) low high holds),
        )
    checks space low high (Err SpaceDiscarded) told = tt
    checks space low high (Err NumberTooLarge) told = told.1
    checks space low high (Err BadRange) told = (omega (arith, told.1.0), told.1.1)
    checks space low high (Err SkippedAcked) told =
        let behind = told.1.1 in (
          omega (arith, told.1.0),
          holds_to (skip_in space) _ _ (all space) (skipped_in (inputs_after beginning before) space)
              (last_skip space) low
              high behind.1,
        )
    checks space low high (Err other) told = absurd (past_four told)

    checks_acks : (event : Event Q S M P) (reply : Reply Q) → RepliesAfter beginning before event reply
        → RejectsSkippedAcks before event reply
    checks_acks (CheckAck space low high) reply told = checks space low high reply told
    checks_acks event reply told = tt

  pub keeps_next : AllAlong beginning AssignsNextNumber
  keeps_next = throughout_kept beginning AllGiven AssignsNextNumber keeps_given
      (λ before event reply here all. gives_next before all event reply here) none_given

  pub skips_none : AllAlong beginning (SkipsNoNumbers beginning)
  skips_none = throughout_kept beginning AllGiven (SkipsNoNumbers beginning) keeps_given
      (λ before event reply here all. first_told before all event reply here) none_given

  pub keeps_skipped : AllAlong beginning RejectsSkippedAcks
  keeps_skipped = throughout_kept beginning AllGiven RejectsSkippedAcks keeps_given
      (λ before event reply here all. checks_acks before all event reply here) none_given

-- ---- packets that are rejected

-- a counter would reach 2^64
abbrev pub Passes : ℕ → ℕ → ℕ → Bool → Type 0
Passes bytes count size eliciting = (2 ^ 64 ≤ bytes + size) ⊎ (2 ^ 64 ≤ count + (if eliciting then 1 else 0))

same_passes : (bytes count b c size : ℕ) (eliciting : Bool) → bytes ≡ b → count ≡ c
    → Passes bytes count size eliciting ↔ Passes b c size eliciting
same_passes bytes count b c size eliciting e f = rw (e, f) (λ h. h, λ h. h)

module _ {F K Q S M P : Type 0} (beginning : Beginning F K Q S M P) where
  abbrev Both : History Q S M P → Type 0
  Both history = AllGiven beginning history × Kept beginning history

  -- the history and the table agree on overflow
  pub same_cause : (before : History Q S M P) → Kept beginning before → (size : ℕ) (eliciting : Bool)
      → (let now = current_in_flight (inputs_after beginning before) in
      OverflowsInFlight before size eliciting ↔ Passes now.bytes now.ack_eliciting size eliciting)
  same_cause before kept size eliciting =
      let flight = flight_now beginning before kept.1 in
      let now = current_in_flight (inputs_after beginning before) in
      same_passes _ _ now.bytes now.ack_eliciting size eliciting flight.0 flight.1

  module _ (before : History Q S M P) (both : Both before) where
    abbrev known_now : ReplyInputs K P M
    known_now = inputs_after beginning before

    unless_told : (event : Event Q S M P) (reply : Reply Q) → RepliesAfter beginning before event reply
        → SendsOrRejects before event reply
    unless_told (Send space now size eliciting largest queue frames) (Ok (answers.Sent number forgotten)) told =
        let behind = told.1.1 in (told.1.0, λ over. behind.1.0 ((same_cause before both.1 size eliciting).0 over))
    unless_told (Send space now size eliciting largest queue frames) (Ok answer) told = let is = past_four told in cc
    unless_told (Send space now size eliciting largest queue frames) (Err SpaceDiscarded) told = tt
    unless_told (Send space now size eliciting largest queue frames) (Err NumberTooLarge) told = told.1
    unless_told (Send space now size eliciting largest queue frames) (Err NumbersExhausted) told =
        (told.1.0, (number_in known_now space, is_next beginning before both.0 space, told.1.1))
    unless_told (Send space now size eliciting largest queue frames) (Err Overflow) told =
        let behind = told.1.1 in (told.1.0, (same_cause before both.1 size eliciting).1 behind.1)
    unless_told (Send space now size eliciting largest queue frames) (Err NoMemory) told = tt
    unless_told (Send space now size eliciting largest queue frames) (Err other) told = absurd (past_four told)
    unless_told (PollMtu now) (Err NumbersExhausted) told =
        (number_in known_now Data, is_next beginning before both.0 Data, told.1)
    unless_told event reply told = tt

  pub sends_unless : AllAlong beginning SendsOrRejects
  sends_unless =
      throughout_kept beginning Both SendsOrRejects
      (λ before event reply here both. (
        keeps_given beginning before event reply here both.0,
        keeps_counts beginning before event reply here both.1,
      ))
      (λ before event reply here both. unless_told before both event reply here)
      (none_given beginning, none_counted beginning)
