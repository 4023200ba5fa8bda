-- Bytes in flight by events and answers are the sums over what the spaces track: the clause `counted` of `run`.
use Rattle.std.proofs.Common.{◌≡◌, ◌≤◌, ◌+◌, ℕ, ◌==◌, ◌&&◌, ◌||◌, Bool, true, false, cond, if◌then◌else◌, List, [], ◌∷◌, Option, None, Some, Ok, Err, refl, ◌∙◌, arith}
use Rattle.std.specs.Prelude.{sum_by, option_map}
use Rattle.std.proofs.lemmas.Bool.Decides.{nat_tests}
use Rattle.std.proofs.lemmas.List.Sums.{sum_by-cons, sum_by_push}
use Rattle.recovery_base.specs.declared.below.SpaceId.{SpaceId}
use Rattle.recovery_base.specs.declared.below.SpaceId.TheVariants.{Initial, Handshake, Data}
use Rattle.recovery_base.specs.Spaces.{same_space}
use Rattle.recovery_spaces.specs.Departures.{one_if_same}
use Rattle.recovery_spaces.specs.InFlight.{over_spaces, size_in, eliciting_in}
use Rattle.recovery_spaces.specs.Packets.{Packet, Packets, without, without_some}
use Rattle.recovery_spaces.specs.SpaceLog.{SpaceEntry, sends, acknowledged, loses, probes, emptied}
use Rattle.recovery_spaces.specs.Tracked.{SentState, sent_by, sent_less, sent_more, sent_moved, forgotten_by}
use Rattle.recovery_spaces.proofs.CarryLaws.{sum-carrying}
use Rattle.recovery_spaces.proofs.PacketLaws.{number_at}
use Rattle.recovery_paths.specs.PathLog.{PathReplyInputs, path_of}
use Rattle.recovery_paths.specs.declared.path_pair.PathName.TheVariants.{Current}
use Rattle.recovery_events.specs.declared.event.Event.{Event}
use Rattle.recovery_events.specs.declared.event.Event.TheVariants.{Send, Acked, Lost, DiscardSpace, PollMtu, InFlight}
use Rattle.recovery_events.specs.declared.event.Answer.TheVariants as answers
use Rattle.recovery_events.specs.declared.event.Answer.TheVariants.{Probe}
use Rattle.recovery_events.specs.declared.event.Refusal.TheVariants.{NoSuchPath}
use Rattle.recovery_history.specs.Entries.{here}
use Rattle.recovery_history.specs.Table.{answered, entries_of}
use Rattle.recovery_history.specs.RepliesAfter.{logs_of, inputs_after, RepliesAfter}
use Rattle.recovery_history.specs.History.{Beginning, History, Reply}
use Rattle.recovery_history.specs.ReplyInputs.{ReplyInputs, number_in, packet_now, in_flight_on, current_in_flight}
use Rattle.recovery_history.specs.Logs.{onto}
use Rattle.recovery_history.specs.Replies.{AlwaysAnswers}
use Rattle.recovery_history.specs.PartReplies.{EqualsAnswer, UnlessPathMissing}
use Rattle.recovery_history.specs.Promises.Counted.{sum_on, IsTally, CountsInFlight}
use Rattle.recovery_history.specs.Promises.Paths.{generations}
use Rattle.recovery_history.proofs.AnswerLaws.{past_four}
use Rattle.recovery_history.proofs.Runs.{AllAlong, throughout_kept}
use Rattle.recovery_history.proofs.EntryKinds.{keeps_packets, space_kind, space_kept}
use Rattle.recovery_history.proofs.PathLaws.{generation_told}
use Rattle.recovery_history.proofs.TrackedLaws.{at_itself, AllTracked, keeps_tracked, none_tracked, probe_number, one_space, sent_in, times}

-- ---- sums over tracked packets, except for the numbers that are gone

-- a number is gone too
abbrev pub gone_too : (ℕ → Bool) → ℕ → ℕ → Bool
gone_too gone number n = number == n || gone n

-- perhaps one is forgotten, in this space or in another one
abbrev pub gone_with : Bool → Option ℕ → (ℕ → Bool) → ℕ → Bool
gone_with b None gone n = gone n
gone_with b (Some m) gone n = (b && m == n) || gone n

module _ {P M : Type 0} (weigh : ℕ → Bool → ℕ) (generation : ℕ) where
  abbrev pub weigh_in : (ℕ → Bool) → ℕ × Packet P M → ℕ
  weigh_in gone entry =
      if entry.1.path_generation == generation then (if gone entry.0 then 0 else weigh entry.1.size
      entry.1.ack_eliciting) else 0

  abbrev pub sum_in : (ℕ → Bool) → Packets P M → ℕ
  sum_in gone packets = sum_by (weigh_in gone) packets

  -- if all numbers are gone
  sum_of_none : (packets : Packets P M) → sum_in (λ n. true) packets ≡ 0
  sum_of_none [] = refl
  sum_of_none (entry ∷ packets) =
      grind (arith, nat_tests, sum_by-cons (weigh_in (λ n. true)) entry packets, sum_of_none packets)

  module _ (gone : ℕ → Bool) (number : ℕ) where
    -- a number that is not there
    sum_of_others : (packets : Packets P M) → times number packets ≡ 0
        → sum_in (gone_too gone number) packets ≡ sum_in gone packets
    sum_of_others [] none = refl
    sum_of_others (entry ∷ packets) none =
        grind (
          arith,
          nat_tests,
          none,
          sum_by-cons (λ (e : ℕ × Packet P M). one_if_same e.0 number) entry packets,
          sum_by-cons (weigh_in gone) entry packets,
          sum_by-cons (weigh_in (gone_too gone number)) entry packets,
          sum_of_others packets,
        )

    -- the packet of a number, if that occurs at most once
    sum_without : (packets : Packets P M) → times number packets ≤ 1
        → sum_in gone (without packets number) ≡ sum_in (gone_too gone number) packets
    sum_without [] once = refl
    sum_without (entry ∷ packets) once =
        grind (
          arith,
          nat_tests,
          once,
          number_at number entry.0,
          at_itself number,
          sum_by-cons (λ (e : ℕ × Packet P M). one_if_same e.0 number) entry packets,
          sum_by-cons (weigh_in gone) entry (without packets number),
          sum_by-cons (weigh_in (gone_too gone number)) entry packets,
          sum_of_others packets,
          sum_without packets,
        )

  -- ---- one more entry, in this space or in another one

  -- a packet is sent
  sum_sent : (sent : SentState P M) (gone : ℕ → Bool) (number : ℕ) (packet : Packet P M) (forgotten : Option ℕ)
      → forgotten ≡ forgotten_by sent packet → ((m : ℕ) → times m sent.tracked ≤ 1)
      → sum_in gone (sent_more number packet sent).tracked ≡ sum_in (λ n. gone_with true forgotten gone n) sent.tracked
      + weigh_in gone (number, packet)
  sum_sent sent gone number packet None is once =
      rw (← is) (sum_by_push (weigh_in gone) (without_some sent.tracked None) (number, packet))
  sum_sent sent gone number packet (Some m) is once =
      let push = sum_by_push (weigh_in gone) (without_some sent.tracked (Some m)) (number, packet) in
      rw (← is) (omega (arith, push, sum_without gone m sent.tracked (once m)))

  sum_moved : (sent : SentState P M) (gone : ℕ → Bool) (empty : P) (moved : Option ℕ)
      → sum_in gone sent.tracked ≡ sum_in gone (sent_moved empty moved sent).tracked
  sum_moved sent gone empty moved =
      grind (arith, λ (number : ℕ). sum-carrying sent.tracked number (weigh_in gone) empty (λ m packet. refl))

-- ---- over all spaces

spaces_same : (f g : SpaceId → ℕ) → ((space : SpaceId) → f space ≡ g space) → over_spaces f ≡ over_spaces g
spaces_same f g same = omega (arith, same Initial, same Handshake, same Data)

-- ---- the table

-- the sum over what spaces track is what the history says, whatever numbers are gone
abbrev pub Counts : {F K Q S M P : Type 0} → Beginning F K Q S M P → History Q S M P → Type 0
Counts beginning history = (weigh : ℕ → Bool → ℕ) (generation : ℕ) (gone : SpaceId → ℕ → Bool)
    → sum_on weigh generation gone history ≡ over_spaces
    (λ space. sum_in weigh generation (gone space) (sent_in beginning history space).tracked)

module _ {F K Q S M P : Type 0} (beginning : Beginning F K Q S M P) (before : History Q S M P)
    (all : AllTracked beginning before)
    (same : Counts beginning before) (weigh : ℕ → Bool → ℕ) (generation : ℕ) (gone : SpaceId → ℕ → Bool) where
  abbrev log : SpaceId → List (SpaceEntry P M)
  log = (logs_of beginning before).spaces

  abbrev known : ReplyInputs K P M
  known = inputs_after beginning before

  abbrev sent : SpaceId → SentState P M
  sent = sent_in beginning before

  abbrev sum_of : SpaceId → SentState P M → ℕ
  sum_of space sent = sum_in weigh generation (gone space) sent.tracked

  -- after an entry, or none
  abbrev sum_after : (SpaceId → Option (SpaceEntry P M)) → SpaceId → ℕ
  sum_after entries space = sum_of space (sent_by beginning.queue.words (onto (entries space) (log space)))

  abbrev only : SpaceId → SpaceEntry P M → SpaceId → Option (SpaceEntry P M)
  only there entry space = here there space entry

  abbrev is_path : Bool
  is_path = (generations before).current == generation

  once : (space : SpaceId) (m : ℕ) → times m (sent space).tracked ≤ 1
  once space m = grind (arith, nat_tests, (all space m).same)

  nothing : cond is_path 0 0 + sum_on weigh generation gone before ≡ over_spaces (λ space. sum_of space (sent space))
  nothing = grind (arith, nat_tests, same weigh generation gone)

  -- an entry of a space that preserves the sum
  unmoved : (space : SpaceId) (entry : SpaceEntry P M) → keeps_packets (space_kind entry) ≡ true
      → sum_of space (sent space) ≡ sum_of space (sent_by beginning.queue.words (entry ∷ log space))
  unmoved space (probes immediate found) keeps =
      sum_moved weigh generation (sent space) (gone space) beginning.queue.words.empty found.moved
  unmoved space entry keeps = grind (arith, keeps)

  -- an entry of one space, by which numbers there are gone and a packet may be sent
  changes : (there : SpaceId) (entry : SpaceEntry P M) (left : Bool → SpaceId → ℕ → Bool) (weight : ℕ)
      → ((space : SpaceId) → same_space there space ≡ true → sum_of space
      (sent_by beginning.queue.words (entry ∷ log space))
      ≡ sum_in weigh generation (left true space) (sent space).tracked + weight)
      → ((space : SpaceId) → sum_of space (sent space)
      ≡ sum_in weigh generation (left false space) (sent space).tracked)
      → weight + sum_on weigh generation (λ space. left (same_space there space) space) before
      ≡ over_spaces (sum_after (only there entry))
  changes Initial entry left weight each others =
      let sum = same weigh generation (λ space. left (same_space Initial space) space) in
      omega (arith, sum, each Initial refl, others Handshake, others Data)
  changes there entry left weight each others =
      let sum = same weigh generation (λ space. left (same_space there space) space) in
      omega (arith, sum, each there refl, others Initial, others Handshake, others Data)

  -- one number of a space is gone too
  leaves_one : (there : SpaceId) (number : ℕ) (entry : SpaceEntry P M)
      → ((space : SpaceId) → sent_by beginning.queue.words (entry ∷ log space) ≡ sent_less number (sent space))
      → cond is_path 0 0 + sum_on weigh generation (λ space n. (same_space there space && number == n) || gone space n)
      before
      ≡ over_spaces (sum_after (only there entry))
  leaves_one there number entry less =
      changes there entry (λ b space n. (b && number == n) || gone space n) (cond is_path 0 0)
      (λ space at. grind (
        arith,
        less space,
        sum_without weigh generation (gone space) number (sent space).tracked (once space number),
      ))
      (λ space. refl)

  -- a packet is sent
  made_now : (generations before).current ≡ known.paths.current.generation
  made_now = let told = generation_told beginning before Current in cc

  goes_out : (there : SpaceId) (number : ℕ) (packet : Packet P M) (forgotten : Option ℕ)
      → number ≡ number_in known there → forgotten ≡ forgotten_by (sent there) packet
      → packet.path_generation ≡ known.paths.current.generation
      → cond is_path (cond (gone there number) 0 (weigh packet.size packet.ack_eliciting)) 0
      + sum_on weigh generation (λ space n. gone_with (same_space there space) forgotten (gone space) n) before
      ≡ over_spaces (sum_after (only there (sends (number_in known there) packet)))
  goes_out there number packet forgotten is forgets on_path =
      changes there (sends (number_in known there) packet) (λ b space. gone_with b forgotten (gone space)) _
      (λ space at. (
      let same_space = one_space there space at in
      let sum = sum_sent weigh generation (sent space) (gone space) (number_in known there) packet forgotten
      (rw (← same_space) forgets) (once space) in
      grind (arith, sum, is, on_path, made_now, same_space)))
      (λ space. others space forgotten)
    where
      others : (space : SpaceId) (f : Option ℕ) → sum_of space (sent space)
          ≡ sum_in weigh generation (gone_with false f (gone space)) (sent space).tracked
      others space None = refl
      others space (Some m) = refl

  reply_counts : (event : Event Q S M P) (reply : Reply Q) → RepliesAfter beginning before event reply
      → sum_on weigh generation gone ((event, reply) ∷ before) ≡ over_spaces
      (sum_after (entries_of beginning.queue known event reply).spaces)
  reply_counts (Send there now size eliciting largest queue frames) (Ok (answers.Sent number None)) told =
      let is = past_four told in
      goes_out there number (packet_now known now size eliciting largest (beginning.queue.contents queue) frames)
      None (cc) (cc) refl
  reply_counts (Send there now size eliciting largest queue frames) (Ok (answers.Sent number (Some forgotten))) told =
      let is = past_four told in
      goes_out there number (packet_now known now size eliciting largest (beginning.queue.contents queue) frames)
      (Some forgotten) (cc) (cc) refl
  reply_counts (Send there now size eliciting largest queue frames) (Ok answer) told = let is = past_four told in cc
  reply_counts (PollMtu now) (Ok (Probe number size)) told =
      goes_out Data number (packet_now known now size true None beginning.queue.words.empty beginning.queue.blank) None
      (probe_number beginning.queue known now _ number size told.1.1) refl refl
  reply_counts (PollMtu now) (Ok answer) told = nothing
  reply_counts (Acked there now number app_limited) (Ok answer) told =
      leaves_one there number (acknowledged number) (λ space. refl)
  reply_counts (Lost there number) (Ok answer) told = leaves_one there number (loses number) (λ space. refl)
  reply_counts (DiscardSpace there) (Ok answer) told =
      changes there emptied (λ b space n. b || gone space n) (cond is_path 0 0)
      (λ space at. grind (arith, sum_of_none weigh generation (sent space).tracked)) (λ space. refl)
  reply_counts event (Ok answer) told =
      nothing ∙ spaces_same _ (sum_after (answered beginning.queue known event answer).spaces) (λ space.
      space_kept beginning.queue known space
      (λ entry. sum_of space (sent space) ≡ sum_of space (sent_by beginning.queue.words (onto entry (log space))))
      keeps_packets refl (unmoved space) event (Ok answer) refl)
  reply_counts (PollMtu now) (Err refusal) told = nothing
  reply_counts event (Err refusal) told =
      nothing

-- ---- the replies

module _ {F K Q S M P : Type 0} (beginning : Beginning F K Q S M P) where
  abbrev pub Kept : History Q S M P → Type 0
  Kept history = AllTracked beginning history × Counts beginning history

  module _ (before : History Q S M P) (counts : Counts beginning before) where
    abbrev known_then : ReplyInputs K P M
    known_then = inputs_after beginning before

    eliciting_same : (generation : ℕ) (packets : Packets P M)
        → sum_in (λ size eliciting. if eliciting then 1 else 0) generation (λ n. false) packets
        ≡ sum_by (eliciting_in generation) packets
    eliciting_same generation [] = refl
    eliciting_same generation (entry ∷ packets) =
        let weighs : ℕ × Packet P M → ℕ =
        weigh_in (λ size eliciting. if eliciting then 1 else 0) generation (λ n. false) in
        grind (
          arith,
          nat_tests,
          sum_by-cons weighs entry packets,
          sum_by-cons (eliciting_in generation) entry packets,
          eliciting_same generation packets,
        )

    count_same : (generation : ℕ)
        → sum_on (λ size eliciting. if eliciting then 1 else 0) generation (λ space n. false) before
        ≡ over_spaces (λ space. sum_by (eliciting_in generation) (sent_in beginning before space).tracked)
    count_same generation = counts (λ size eliciting. if eliciting then 1 else 0) generation (λ space n. false)
        ∙ spaces_same _ _ (λ space. eliciting_same generation (sent_in beginning before space).tracked)

    -- what is in flight on the path in use
    pub flight_now : (sum_on (λ size eliciting. size) (generations before).current (λ space n. false) before
        ≡ (current_in_flight known_then).bytes)
        × (sum_on (λ size eliciting. if eliciting then 1 else 0) (generations before).current (λ space n. false) before
        ≡ (current_in_flight known_then).ack_eliciting)
    flight_now =
        let generation = known_then.paths.current.generation in
        let made : (generations before).current ≡ generation =
        (let told = generation_told beginning before Current in cc) in
        rw made (counts (λ size eliciting. size) generation (λ space n. false), count_same generation)

    tally : (path : Option (PathReplyInputs K)) (reply : Reply Q)
        → UnlessPathMissing path (λ there. AlwaysAnswers (EqualsAnswer
        (answers.InFlight (in_flight_on known_then there).bytes
        (in_flight_on known_then there).ack_eliciting))) reply
        → IsTally before (option_map (λ p. p.generation) path) reply
    tally None (Err NoSuchPath) told = refl
    tally (Some path) (Ok answer) told =
        let bytes : sum_on (λ size eliciting. size) path.generation (λ space n. false) before
        ≡ over_spaces (λ space. sum_by (size_in path.generation) (sent_in beginning before space).tracked) =
        counts (λ size eliciting. size) path.generation (λ space n. false) in
        grind (arith, told, bytes, count_same path.generation)
    tally path reply told = grind (arith, told)

  holds : (before : History Q S M P) (event : Event Q S M P) (reply : Reply Q)
      → RepliesAfter beginning before event reply
      → Kept before → CountsInFlight before event reply
  holds before (InFlight name) reply told kept =
      rw (← generation_told beginning before name)
      (tally before kept.1 (path_of name (inputs_after beginning before).paths) reply told)
  holds before event reply told kept = tt

  -- throughout a run
  pub keeps_counts : (before : History Q S M P) (event : Event Q S M P) (reply : Reply Q)
      → RepliesAfter beginning before event reply → Kept before → Kept ((event, reply) ∷ before)
  keeps_counts before event reply here kept = (
    keeps_tracked beginning before event reply here kept.0,
    λ weigh generation gone. reply_counts beginning before kept.0 kept.1 weigh generation gone event reply here,
  )

  pub none_counted : Kept []
  none_counted = (none_tracked beginning, λ weigh generation gone. refl)

  pub counts_in_flight : AllAlong beginning CountsInFlight
  counts_in_flight = throughout_kept beginning Kept CountsInFlight keeps_counts holds none_counted
