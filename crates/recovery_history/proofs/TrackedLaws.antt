-- A packet is tracked by its space exactly if the history says so; and each number that was assigned, at most once, has
-- one outcome. The promises on what is tracked rest on it.
use Rattle.std.proofs.Common.{◌≡◌, ◌<◌, ◌≤◌, ◌+◌, ◌^◌, ℕ, ◌==◌, ◌&&◌, ◌||◌, not, Bool, true, false, cond, List, [], ◌∷◌, Option, None, Some, Ok, Err, refl, ap, arith}
use Rattle.std.proofs.lemmas.Bool.{false≢true}
use Rattle.std.specs.Prelude.{is_some, sum_by}
use Rattle.std.specs.BTreeMap.{is_at}
use Rattle.std.specs.Cmp.{nat_cmp_total, tied_itself}
use Rattle.std.specs.Ordering.{nat_cmp, is_eq}
use Rattle.std.proofs.lemmas.Bool.Decides.{nat_tests}
use Rattle.std.proofs.lemmas.List.Sums.{sum_by-cons}
use Rattle.recovery_base.specs.declared.below.SpaceId.{SpaceId}
use Rattle.recovery_base.specs.declared.below.SpaceId.TheVariants.{Initial, Data}
use Rattle.recovery_base.specs.Spaces.{same_space}
use Rattle.recovery_spaces.specs.Departures.{one_if_same}
use Rattle.recovery_spaces.specs.Packets.{Packet, Packets, packet_at, least_number, silent_above}
use Rattle.recovery_spaces.specs.SpaceLog.{SpaceEntry, sends, acknowledged, loses, probes, emptied}
use Rattle.recovery_spaces.specs.Tracked.{SentState, sent_by, sent_less, sent_more, forgotten_by}
use Rattle.recovery_spaces.proofs.CarryLaws.{sum-carrying}
use Rattle.recovery_spaces.proofs.LedgerLaws.{sum-sent_onto}
use Rattle.recovery_spaces.proofs.PacketLaws.{number_at, sum-without}
use Rattle.recovery_packet_numbers.proofs.SkipLaws.{number_from_above}
use Rattle.recovery_events.specs.declared.event.Event.{Event}
use Rattle.recovery_events.specs.declared.event.Event.TheVariants.{Send, Acked, Lost, DiscardSpace, PollMtu}
use Rattle.recovery_events.specs.declared.event.Answer.TheVariants as answers
use Rattle.recovery_events.specs.declared.event.Answer.TheVariants.{Probe}
use Rattle.recovery_history.specs.RepliesAfter.{logs_of, inputs_after, RepliesAfter}
use Rattle.recovery_history.specs.History.{Beginning, History, QueueModel, Reply}
use Rattle.recovery_history.specs.ReplyInputs.{ReplyInputs, number_in, packet_now}
use Rattle.recovery_history.specs.Logs.{onto}
use Rattle.recovery_history.specs.Promises.Fates.{more_if, times as times_in, is_given, is_acked, is_lost, is_forgotten as is_forgotten_in, goes_with_space}
use Rattle.recovery_history.specs.Promises.Increasing.{NumbersIncrease}
use Rattle.recovery_history.specs.Promises.Tracked.{is_tracked}
use Rattle.recovery_history.specs.PartReplies.{MtuProbeReply}
use Rattle.recovery_history.proofs.EntryKinds.{keeps_packets, space_kind, space_kept}
use Rattle.recovery_history.proofs.AnswerLaws.{is_there, past_four}
use Rattle.recovery_history.proofs.Runs.{AllAlong, throughout_kept}

-- ---- a number among those that are tracked

-- how often it occurs there
abbrev pub times : {P M : Type 0} → ℕ → Packets P M → ℕ
times n packets = sum_by (λ entry. one_if_same entry.0 n) packets

pub at_itself : (n : ℕ) → is_at (nat_cmp n) n ≡ true
at_itself n = ap is_eq (tied_itself nat_cmp_total n)

module _ (n : ℕ) where
  -- it is the number that is forgotten
  abbrev is_it : Option ℕ → Bool
  is_it None = false
  is_it (Some m) = m == n

-- ---- the outcome of a number that was assigned

module _ {P M : Type 0} (n : ℕ) where
  -- the number occurs once if it is tracked, and else not; it was assigned at most once, and not yet from the next one
  -- on; and if it was it is tracked, or gone
  pub record Tracks (sent : SentState P M) (tracked : Bool) (given departed : ℕ) : Type 0 where
    pub same : times n sent.tracked ≡ cond tracked 1 0
    pub adds : given ≡ more_if tracked departed
    pub once : given ≤ 1
    pub late : sent.next ≤ n → given ≡ 0

  abbrev pub counts : ℕ × Packet P M → ℕ
  counts entry = one_if_same entry.0 n

  -- a number does not occur if it is not found, and otherwise occurs
  abbrev pub Stands : Option (Packet P M) → ℕ → Type 0
  Stands None count = count ≡ 0
  Stands (Some packet) count = 1 ≤ count

  pub stands : (packets : Packets P M) → Stands (packet_at packets n) (times n packets)
  stands [] = refl
  stands (entry ∷ packets) =
      grind (
        arith,
        nat_tests,
        sum_by-cons counts entry packets,
        number_at n entry.0,
        at_itself n,
        stands packets,
      )

  -- what is forgotten occurs there
  least_counts : (last : Option ℕ) (packets : Packets P M) → least_number (silent_above last packets) ≡ Some n
      → 1 ≤ times n packets
  least_counts last [] is = cc
  least_counts last (entry ∷ packets) is =
      grind (
        arith,
        nat_tests,
        sum_by-cons counts entry packets,
        least_counts last packets,
        is,
      )

  module _ (sent : SentState P M) (tracked : Bool) (given departed : ℕ)
      (here : Tracks sent tracked given departed) where
    -- a packet is sent under a number that was not assigned, and perhaps another is forgotten
    sent_tracks : (number : ℕ) (packet : Packet P M) → sent.next ≤ number
        → let forgotten = is_it n (forgotten_by sent packet) in
        Tracks (sent_more number packet sent) (number == n || (not forgotten && tracked)) (more_if (number == n) given)
        (more_if forgotten departed)
    sent_tracks number packet new =
        grind (
          arith,
          nat_tests,
          sum-sent_onto counts sent.last number packet sent.tracked,
          stands sent.tracked,
          least_counts sent.last sent.tracked,
          here.same,
          here.adds,
          here.once,
          here.late,
        )

-- ---- what an event does to it

-- the packets of a space after a history
abbrev pub sent_in : {F K Q S M P : Type 0} → Beginning F K Q S M P → History Q S M P → SpaceId → SentState P M
sent_in beginning history space = sent_by beginning.queue.words ((logs_of beginning history).spaces space)

-- the number that is assigned was not assigned before
pub is_new : {F K Q S M P : Type 0} (beginning : Beginning F K Q S M P) (before : History Q S M P) (space : SpaceId)
    → (sent_in beginning before space).next ≤ number_in (inputs_after beginning before) space
is_new beginning before Data =
    number_from_above beginning.config.skips beginning.random (sent_in beginning before Data).next
is_new beginning before space = omega arith

pub one_space : (there space : SpaceId) → same_space there space ≡ true → there ≡ space
one_space Initial Initial e = refl
one_space there space e = grind (arith, e)

pub probe_number : {K Q S M P : Type 0} (q : QueueModel Q S M P) (known : ReplyInputs K P M) (now : ℕ) (due : Option ℕ)
    (number size : ℕ)
    → MtuProbeReply q known now due (Ok (Probe number size)) → number ≡ known.next_number
probe_number q known now due number size told = grind (arith, told)

-- how often a number of a space is gone
abbrev departed_in : {Q S M P : Type 0} → SpaceId → ℕ → History Q S M P → ℕ
departed_in space n history =
    times_in (is_acked space n) history + times_in (is_lost space n) history + times_in (is_forgotten_in space n)
    history
    + times_in (goes_with_space space n) history

-- the number is as the history says
abbrev TracksIn : {F K Q S M P : Type 0} → Beginning F K Q S M P → History Q S M P → SpaceId → ℕ → Type 0
TracksIn beginning history space n =
    Tracks n (sent_in beginning history space) (is_tracked space n history) (times_in (is_given space n) history)
    (departed_in space n history)

module _ {F K Q S M P : Type 0} (beginning : Beginning F K Q S M P) (before : History Q S M P) (space : SpaceId) (n : ℕ)
    (here : TracksIn beginning before space n) where
  abbrev log : List (SpaceEntry P M)
  log = (logs_of beginning before).spaces space

  abbrev known : ReplyInputs K P M
  known = inputs_after beginning before

  abbrev tracked_now : Bool
  tracked_now = is_tracked space n before

  abbrev given_now : ℕ
  given_now = times_in (is_given space n) before

  abbrev departed_now : ℕ
  departed_now = departed_in space n before

  abbrev After : Option (SpaceEntry P M) → Bool → ℕ → ℕ → Type 0
  After entry tracked given departed = Tracks n (sent_by beginning.queue.words (onto entry log)) tracked given departed

  -- an entry that leaves what is tracked unchanged
  unmoved : (entry : SpaceEntry P M) → keeps_packets (space_kind entry) ≡ true
      → After (Some entry) tracked_now given_now departed_now
  unmoved (probes immediate found) keeps =
      grind (
        arith,
        here,
        λ (number : ℕ). sum-carrying (sent_in beginning before space).tracked number (counts n)
            beginning.queue.words.empty (λ m packet. refl),
      )
  unmoved entry keeps = grind (arith, keeps, here)

  -- an entry in one space, by which a number may be sent or leave
  step : (b out left : Bool) (entry : SpaceEntry P M) (tracked : Bool) (given departed : ℕ)
      → (b ≡ true → After (Some entry) (out || (not left && tracked_now)) (more_if out given_now)
      (more_if left departed_now))
      → (tracked ≡ ((b && out) || (not (b && left) && tracked_now))) × (given ≡ more_if (b && out) given_now)
      × (departed ≡ more_if (b && left) departed_now) → After (cond b (Some entry) None) tracked given departed
  step b out left entry tracked given departed first same = grind (arith, first, here, same)

  -- a packet is sent
  goes_told : (there : SpaceId) (packet : Packet P M) (number : ℕ) (forgotten : Option ℕ)
      → same_space there space ≡ true
      → number ≡ number_in known there → forgotten ≡ forgotten_by (known.spaces there).sent packet
      → After (Some (sends (number_in known there) packet)) (number == n || (not (is_it n forgotten) && tracked_now))
      (more_if (number == n) given_now) (more_if (is_it n forgotten) departed_now)
  goes_told there packet number forgotten is same_number same_forgotten =
      rw (same_number, same_forgotten, one_space there space is)
      (sent_tracks n _ _ _ _ here (number_in known space) packet (is_new beginning before space))

  -- a tracked packet leaves
  leaves_told : (there : SpaceId) (number : ℕ) → ¬ (packet_at (known.spaces there).sent.tracked number ≡ None)
      → same_space there space ≡ true
      → Tracks n (sent_less number (sent_in beginning before space)) (not (number == n) && tracked_now) given_now
      (more_if (number == n) departed_now)
  leaves_told there number told is =
      let found = is_there (packet_at (sent_in beginning before space).tracked number)
      (rw (← one_space there space is) told) in
      let sum = sum-without (counts n) (sent_in beginning before space).tracked number found.0 found.1 in
      grind (arith, nat_tests, sum, here.same, here.adds, here.once, here.late)

  reply_tracks : (event : Event Q S M P) (reply : Reply Q) → RepliesAfter beginning before event reply
      → TracksIn beginning ((event, reply) ∷ before) space n
  reply_tracks (Acked there now number app_limited) (Ok answer) told =
      step (same_space there space) false (number == n) (acknowledged number) _ _ _ (leaves_told there number told.1.0)
      (grind (arith, nat_tests))
  reply_tracks (Lost there number) (Ok answer) told =
      step (same_space there space) false (number == n) (loses number) _ _ _ (leaves_told there number told.1.0)
      (grind (arith, nat_tests))
  reply_tracks (Send there now size eliciting largest queue frames) (Ok (answers.Sent number None)) told =
      let packet = packet_now known now size eliciting largest (beginning.queue.contents queue) frames in
      let is = past_four told in
      step (same_space there space) (number == n) false _ _ _ _
      (λ at. goes_told there packet number None at (cc) (cc)) (grind (arith, nat_tests))
  reply_tracks (Send there now size eliciting largest queue frames) (Ok (answers.Sent number (Some forgotten))) told =
      let packet = packet_now known now size eliciting largest (beginning.queue.contents queue) frames in
      let is = past_four told in
      step (same_space there space) (number == n) (forgotten == n) _ _ _ _
      (λ at. goes_told there packet number (Some forgotten) at (cc) (cc)) (grind (arith, nat_tests))
  reply_tracks (Send there now size eliciting largest queue frames) (Ok answer) told = let is = past_four told in cc
  reply_tracks (PollMtu now) (Ok (Probe number size)) told =
      let packet = packet_now known now size true None beginning.queue.words.empty beginning.queue.blank in
      let is = probe_number beginning.queue known now _ number size told.1.1 in
      step (same_space Data space) (number == n) false _ _ _ _ (λ at. goes_told Data packet number None at is refl)
      (grind (arith, nat_tests))
  reply_tracks (PollMtu now) (Ok answer) told = here
  reply_tracks (DiscardSpace there) (Ok answer) told =
      step (same_space there space) false tracked_now emptied _ _ _
      (λ at. grind (arith, nat_tests, here.same, here.adds, here.once, here.late)) (grind (arith, nat_tests))
  reply_tracks event (Ok answer) told =
      space_kept beginning.queue known space (λ entry. After entry tracked_now given_now departed_now) keeps_packets
      here unmoved event (Ok answer) refl
  reply_tracks (PollMtu now) (Err refusal) told = here
  reply_tracks event (Err refusal) told =
      here

-- ---- throughout a run

module _ {F K Q S M P : Type 0} (beginning : Beginning F K Q S M P) where
  -- each number of each space is tracked if the history says so
  abbrev pub AllTracked : History Q S M P → Type 0
  AllTracked history = (space : SpaceId) (n : ℕ) → TracksIn beginning history space n

  -- an event preserves that
  pub keeps_tracked : (before : History Q S M P) (event : Event Q S M P) (reply : Reply Q)
      → RepliesAfter beginning before event reply
      → AllTracked before → AllTracked ((event, reply) ∷ before)
  keeps_tracked before event reply told all =
      λ space n. reply_tracks beginning before space n (all space n) event reply told

  pub none_tracked : AllTracked []
  none_tracked = λ space n. grind arith

  -- a packet is found if its number is tracked
  pub tracked_found : (history : History Q S M P) → AllTracked history → (space : SpaceId) (n : ℕ)
      → is_some (packet_at (sent_in beginning history space).tracked n) ≡ is_tracked space n history
  tracked_found history all space n =
      grind (arith, nat_tests, stands n (sent_in beginning history space).tracked, (all space n).same)

-- ---- numbers increase

module _ {F K Q S M P : Type 0} (beginning : Beginning F K Q S M P) where
  module _ (before : History Q S M P) (all : AllTracked beginning before) where
    abbrev known_before : ReplyInputs K P M
    known_before = inputs_after beginning before

    -- the next number of a space is above all that were assigned there
    next_rises : (there : SpaceId) (given : ℕ) → given ≡ number_in known_before there
        → ¬ (2 ^ 62 ≤ number_in known_before there) → (space : SpaceId) (number : ℕ)
        → (same_space there space && given == number) ≡ true
        → (number < 2 ^ 62) × ((n : ℕ) → number ≤ n → times_in (is_given space n) before ≡ 0)
    next_rises there given is few space number goes =
        let same : number ≡ given = grind (arith, nat_tests, goes) in
        let at = one_space there space (grind (arith, nat_tests, goes)) in
        rw (same, is, ← at) (
          omega (arith, few),
          λ n above. (all there n).late (omega (arith, is_new beginning before there, above)),
        )

    rises : (event : Event Q S M P) (reply : Reply Q) → RepliesAfter beginning before event reply
        → NumbersIncrease before event reply
    rises (Send there now size eliciting largest queue frames) (Ok (answers.Sent number forgotten)) told =
        let is = past_four told in next_rises there number (cc) told.1.1.0
    rises (PollMtu now) (Ok (Probe number size)) told =
        next_rises Data number (probe_number beginning.queue known_before now _ number size told.1.1) told.1.0
    rises event reply told = λ space number goes. absurd (false≢true goes)

  pub keeps_rising : AllAlong beginning NumbersIncrease
  keeps_rising =
      throughout_kept beginning (AllTracked beginning) NumbersIncrease (keeps_tracked beginning)
      (λ before event reply here all. rises before all event reply here) (none_tracked beginning)
