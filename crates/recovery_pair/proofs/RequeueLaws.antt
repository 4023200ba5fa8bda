-- What is declared lost is in the retransmission queue, or was taken from it (RFC 9000, 13.3). A probe may have moved
-- the contents of a packet there before the packet is lost: so what its number was sent with, less what it still
-- carries, is there already.
use Rattle.std.proofs.Common.{◌≡◌, ◌<◌, ◌≤◌, ◌+◌, ◌-◌, ℕ, ◌==◌, ◌&&◌, ◌||◌, Bool, true, false, true≢false, cond, List, [], ◌∷◌, ◌++◌, Option, None, Some, Ok, Err, option_map, refl, sym, ap, subst, ◌∙◌, arith}
use Rattle.std.proofs.lemmas.Bool.Decides.{nat_tests}
use Rattle.std.specs.Option.{option_and_then}
use Rattle.recovery_base.specs.declared.below.SpaceId.{SpaceId}
use Rattle.recovery_base.specs.declared.below.SpaceId.TheVariants.{Data}
use Rattle.recovery_base.specs.Spaces.{same_space}
use Rattle.recovery_queue.specs.Queues.{QueueSemantics}
use Rattle.recovery_spaces.specs.Packets.{Packet, Packets, contents_or, packet_at, replaced, with_contents, without, without_some}
use Rattle.recovery_spaces.specs.Queued.{joined_with, queued_by}
use Rattle.recovery_spaces.specs.SpaceLog.{SpaceEntry, acknowledged, emptied, loses, probes, sends, takes_pending}
use Rattle.recovery_spaces.specs.Tracked.{SentState, forgotten_by, sent_by, sent_moved}
use Rattle.recovery_spaces.proofs.PacketLaws.{none_found, number_at}
use Rattle.recovery_events.specs.declared.event.Answer.TheVariants as answers
use Rattle.recovery_events.specs.declared.event.Answer.TheVariants.{Probe}
use Rattle.recovery_events.specs.declared.event.Event.{Event}
use Rattle.recovery_events.specs.declared.event.Event.TheVariants.{DiscardSpace, Lost, PollMtu, Send, TakePending}
use Rattle.recovery_history.specs.History.{AtEach, Beginning, History, Reply}
use Rattle.recovery_history.specs.Logs.{onto}
use Rattle.recovery_history.specs.Promises.Fates.{is_given, more_if, times}
use Rattle.recovery_history.specs.Promises.NewNumbers.{is_discarded}
use Rattle.recovery_history.specs.ReplyInputs.{ReplyInputs, number_in, packet_now}
use Rattle.recovery_history.specs.RepliesAfter.{RepliesAfter, inputs_after, logs_of}
use Rattle.recovery_history.proofs.AnswerLaws.{is_there, past_four}
use Rattle.recovery_history.proofs.CarriedLaws.{AllCarry, keeps_carried, none_carry}
use Rattle.recovery_history.proofs.EntryKinds.{SpaceKind, emptying, losing, sending, space_kept, space_kind, taking}
use Rattle.recovery_history.proofs.FieldLaws.{AreSaid}
use Rattle.recovery_history.proofs.Runs.{kept_after}
use Rattle.recovery_history.proofs.TrackedLaws.{AllTracked, is_new, keeps_tracked, none_tracked, one_space, sent_in}
use Rattle.recovery_pair.specs.Carried.{AddsContents, lost_there, sent_with, taken_there}
use Rattle.recovery_pair.specs.Logs.{part}

-- ---- tests

more_none : (b : Bool) (t amount more : ℕ) → more_if b t ≡ 0 → (t ≡ 0 → more ≡ 0) → part b amount + more ≡ 0
more_none true t amount more none rest = absurd (omega (arith, none))
more_none false t amount more none rest = let is = rest none in omega (arith, is)

more_before : (b : Bool) (t : ℕ) → more_if b t ≡ 0 → t ≡ 0
more_before true t none = absurd (omega (arith, none))
more_before false t none = none

pub or_first : (a b : Bool) → (a || b) ≡ false → a ≡ false
or_first true b is = absurd (true≢false is)
or_first false b is = refl

pub or_second : (a b : Bool) → (a || b) ≡ false → b ≡ false
or_second true b is = absurd (true≢false is)
or_second false b is = is

-- a number above others is another one
pub other_number : (b : Bool) (k n limit amount rest : ℕ) → (b ≡ true → limit ≤ k) → n < limit
    → part (b && k == n) amount + rest ≡ rest
other_number true k n limit amount rest above below = let up = above refl in grind (arith, nat_tests, up, below)
other_number false k n limit amount rest above below = omega arith

-- ---- what tracked packets no longer carry of what was sent with them

module _ {P M : Type 0} (measure : P → ℕ) where
  abbrev pub owed : (ℕ → ℕ) → Packets P M → ℕ
  owed by [] = 0
  owed by (entry ∷ packets) = (by entry.0 - measure entry.1.retransmits) + owed by packets

  module _ (by : ℕ → ℕ) where
    owed_without : (packets : Packets P M) (n : ℕ) → owed by (without packets n) ≤ owed by packets
    owed_without [] n = omega arith
    owed_without (entry ∷ packets) n = grind (arith, owed_without packets n)

    owed_without_some : (packets : Packets P M) (n : Option ℕ) → owed by (without_some packets n) ≤ owed by packets
    owed_without_some packets None = omega arith
    owed_without_some packets (Some n) = owed_without packets n

    -- a packet is lost
    pub owed_lost : (packets : Packets P M) (n : ℕ) (packet : Packet P M) → packet_at packets n ≡ Some packet
        → by n + owed by (without packets n) ≤ owed by packets + measure packet.retransmits
    owed_lost [] n packet found = none_found packet found
    owed_lost (entry ∷ packets) n packet found =
        grind (arith, found, number_at n entry.0, owed_lost packets n packet)

    -- its contents are moved out
    owed_replaced : (packets : Packets P M) (n : ℕ) (packet other : Packet P M) → packet_at packets n ≡ Some packet
        → owed by (replaced n (Some other) packets) ≤ owed by packets + measure packet.retransmits
    owed_replaced [] n packet other found = none_found packet found
    owed_replaced (entry ∷ packets) n packet other found =
        grind (arith, found, number_at n entry.0, owed_replaced packets n packet other)

    -- one is appended
    owed_pushed : (packets : Packets P M) (n : ℕ) (packet : Packet P M)
        → owed by (packets ++ (n, packet) ∷ []) ≡ owed by packets + (by n - measure packet.retransmits)
    owed_pushed [] n packet = omega arith
    owed_pushed (entry ∷ packets) n packet = let rest = owed_pushed packets n packet in omega (arith, rest)

  -- by another function, the same below a limit
  owed_as : {A : Type 0} (says : Packet P M → A) (field : ℕ → A) (limit : ℕ) (by then_by : ℕ → ℕ)
      → ((n : ℕ) → n < limit → then_by n ≡ by n) → (packets : Packets P M) → AreSaid says field limit packets
      → owed then_by packets ≡ owed by packets
  owed_as says field limit by then_by same [] said = refl
  owed_as says field limit by then_by same (entry ∷ packets) said =
      let one = same entry.0 said.1 in
      let rest = owed_as says field limit by then_by same packets said.2 in
      omega (arith, one, rest)

-- ---- nothing was sent under a number that was not assigned

none_sent : {Q S M P : Type 0} (contents : Q → P) (measure : P → ℕ) (space : SpaceId) (n : ℕ) (past : History Q S M P)
    → times (is_given space n) past ≡ 0 → sent_with contents measure space n past ≡ 0
none_sent contents measure space n [] none = refl
none_sent contents measure space n
    ((Send there now size eliciting largest queue frames, Ok (answers.Sent number forgotten)) ∷ earlier) none =
    more_none (same_space there space && number == n) (times (is_given space n) earlier) (measure (contents queue))
    (sent_with contents measure space n earlier) none (none_sent contents measure space n earlier)
none_sent contents measure space n ((PollMtu now, Ok (Probe number size)) ∷ earlier) none =
    none_sent contents measure space n earlier
    (more_before (same_space Data space && number == n) (times (is_given space n) earlier) none)
none_sent contents measure space n (happened ∷ earlier) none = none_sent contents measure space n earlier none

-- ---- one event

-- what is owed does not grow
abbrev owes_on : SpaceKind → Bool
owes_on sending = false
owes_on losing = false
owes_on taking = false
owes_on emptying = false
owes_on kind = true

module _ {F K Q S M P : Type 0} (beginning : Beginning F K Q S M P) (measure : P → ℕ)
    (adds : AddsContents beginning.queue.words measure) (space : SpaceId) where
  abbrev words : QueueSemantics P S
  words = beginning.queue.words

  abbrev lost_now : History Q S M P → ℕ
  lost_now = lost_there beginning.queue.contents measure space

  abbrev taken_now : History Q S M P → ℕ
  taken_now = taken_there beginning.queue.contents measure space

  abbrev sent_now : History Q S M P → ℕ → ℕ
  sent_now history n = sent_with beginning.queue.contents measure space n history

  -- by a log of the space
  abbrev Owes : List (SpaceEntry P M) → (ℕ → ℕ) → ℕ → ℕ → Type 0
  Owes log by lost taken = lost + owed measure by (sent_by words log).tracked
      ≤ taken + measure (queued_by words log).pending

  abbrev OwesIn : History Q S M P → Type 0
  OwesIn history = Owes ((logs_of beginning history).spaces space) (sent_now history) (lost_now history)
      (taken_now history)

  abbrev measured : Option (Packet P M) → ℕ
  measured packet = measure (contents_or words.empty packet)

  joins : (pending : P) (found : Option (Packet P M))
      → measure (joined_with words pending found) ≡ measure pending + measured found
  joins pending None = let none = adds.none in omega (arith, none)
  joins pending (Some packet) = adds.joined pending packet.retransmits

  moves : (by : ℕ → ℕ) (pending : P) (n : ℕ) (tracked : Packets P M) (found : Option (Packet P M))
      → packet_at tracked n ≡ found
      → owed measure by (replaced n (option_map (with_contents words.empty) found) tracked)
      ≤ owed measure by tracked + measured found
  moves by pending n tracked None is = omega arith
  moves by pending n tracked (Some packet) is =
      owed_replaced measure by tracked n packet (with_contents words.empty packet) is

  moves_some : (by : ℕ → ℕ) (pending : P) (moved : Option ℕ) (sent : SentState P M)
      → owed measure by (sent_moved words.empty moved sent).tracked
      ≤ owed measure by sent.tracked + measured (option_and_then (packet_at sent.tracked) moved)
  moves_some by pending (Some n) sent = moves by pending n sent.tracked (packet_at sent.tracked n) refl
  moves_some by pending None sent = omega arith

  module _ (before : History Q S M P) (all : AllTracked beginning before) (carry : AllCarry beginning before)
      (here : Owes ((logs_of beginning before).spaces space) (sent_now before) (lost_now before) (taken_now before))
    where
      abbrev log : List (SpaceEntry P M)
      log = (logs_of beginning before).spaces space

      abbrev known : ReplyInputs K P M
      known = inputs_after beginning before

      abbrev sent : SentState P M
      sent = sent_in beginning before space

      abbrev pending : P
      pending = (queued_by words log).pending

      abbrev OwesAfter : Option (SpaceEntry P M) → (ℕ → ℕ) → ℕ → ℕ → Type 0
      OwesAfter entry = Owes (onto entry log)

      unsent : (n : ℕ) → sent.next ≤ n → sent_now before n ≡ 0
      unsent n up = none_sent beginning.queue.contents measure space n before ((all space n).late up)

      less_or : (a b d e : ℕ) → a + b ≤ d + e → (c : ℕ) → c ≤ b → a + c ≤ d + e
      less_or a b d e most c less = omega (arith, most, less)

      -- a packet is sent in this space, with these contents
      pushes : (k : ℕ) (packet : Packet P M) (then_by : ℕ → ℕ) → sent.next ≤ k
          → ((n : ℕ) → n < sent.next → then_by n ≡ sent_now before n) → then_by k ≤ measure packet.retransmits
          → OwesAfter (Some (sends k packet)) then_by (lost_now before) (taken_now before)
      pushes k packet then_by above same most =
          let left = without_some sent.tracked (forgotten_by sent packet) in
          let one = owed_pushed measure then_by left k packet in
          let two = owed_without_some measure then_by sent.tracked (forgotten_by sent packet) in
          let three = owed_as measure _ _ sent.next (sent_now before) then_by same sent.tracked (carry space) in
          let four = here in
          omega (arith, one, two, three, four, most)

      pushes_if : (b : Bool) (k : ℕ) (packet : Packet P M) (then_by : ℕ → ℕ)
          → (b ≡ true → sent.next ≤ k)
          → ((n : ℕ) → n < sent.next → then_by n ≡ sent_now before n)
          → (b ≡ true → then_by k ≤ measure packet.retransmits)
          → OwesAfter (cond b (Some (sends k packet)) None) then_by (lost_now before) (taken_now before)
      pushes_if true k packet then_by above same most = pushes k packet then_by (above refl) same (most refl)
      pushes_if false k packet then_by above same most =
          let three = owed_as measure _ _ sent.next (sent_now before) then_by same sent.tracked (carry space) in
          let four = here in
          omega (arith, three, four)

      above_all : (there : SpaceId) → same_space there space ≡ true → sent.next ≤ number_in known there
      above_all there at = subst (λ s. (sent_in beginning before s).next ≤ number_in known there)
          (one_space there space at)
          (is_new beginning before there)

      this_number : (b : Bool) (k amount rest : ℕ) → rest ≡ 0 → part (b && k == k) amount + rest ≤ amount
      this_number true k amount rest none = grind (arith, nat_tests, none)
      this_number false k amount rest none = omega (arith, none)

      -- a packet is sent
      sends_one : (there : SpaceId) (number : ℕ) (packet : Packet P M) → number ≡ number_in known there
          → OwesAfter (cond (same_space there space) (Some (sends (number_in known there) packet)) None)
          (λ n. part (same_space there space && number == n) (measure packet.retransmits) + sent_now before n)
          (lost_now before) (taken_now before)
      sends_one there number packet is = rw is
          (pushes_if (same_space there space) (number_in known there) packet
          (λ n. part (same_space there space && number_in known there == n) (measure packet.retransmits)
          + sent_now before n) (above_all there)
          (λ n below. other_number (same_space there space) (number_in known there) n sent.next
          (measure packet.retransmits) (sent_now before n) (above_all there) below)
          (λ at. this_number (same_space there space) (number_in known there) (measure packet.retransmits)
          (sent_now before (number_in known there)) (unsent (number_in known there) (above_all there at))))

      -- an MTU probe is sent, which has no contents
      sends_probe : (packet : Packet P M)
          → OwesAfter (cond (same_space Data space) (Some (sends (number_in known Data) packet)) None)
          (sent_now before) (lost_now before) (taken_now before)
      sends_probe packet = pushes_if (same_space Data space) (number_in known Data) packet (sent_now before)
          (above_all Data) (λ n below. refl)
          (λ at. let none = unsent (number_in known Data) (above_all Data at) in omega (arith, none))

      -- a packet is declared lost
      loses_one : (b : Bool) (n : ℕ) → (b ≡ true → ¬ (packet_at sent.tracked n ≡ None))
          → OwesAfter (cond b (Some (loses n)) None) (sent_now before) (part b (sent_now before n) + lost_now before)
          (taken_now before)
      loses_one true n tracked =
          let found = is_there (packet_at sent.tracked n) (tracked refl) in
          let one = owed_lost measure (sent_now before) sent.tracked n found.0 found.1 in
          let two : measure (joined_with words pending (packet_at sent.tracked n)) ≡ measure pending
          + measure found.0.retransmits = joins pending (packet_at sent.tracked n) ∙ ap (λ (one : Option (Packet P M)).
          measure pending + measured one) found.1 in
          let three = here in
          omega (arith, one, two, three)
      loses_one false n tracked = let same = here in omega (arith, same)

      -- the retransmission queue is taken
      takes_all : (b : Bool) (out : P) → (b ≡ true → out ≡ pending)
          → OwesAfter (cond b (Some takes_pending) None) (sent_now before) (lost_now before)
          (part b (measure out) + taken_now before)
      takes_all true out is =
          let none = adds.none in
          let same = ap measure (is refl) in
          let three = here in
          omega (arith, none, same, three)
      takes_all false out is = let same = here in omega (arith, same)

      -- an entry by which nothing is sent, lost or taken
      stays : (entry : SpaceEntry P M) → owes_on (space_kind entry) ≡ true
          → OwesAfter (Some entry) (sent_now before) (lost_now before) (taken_now before)
      stays (acknowledged number) on = less_or (lost_now before) _ (taken_now before) (measure pending) here _
          (owed_without measure (sent_now before) sent.tracked number)
      stays (probes immediate found) on =
          let one = moves_some (sent_now before) pending found.moved sent in
          let two = joins pending (option_and_then (packet_at sent.tracked) found.moved) in
          let three = here in
          omega (arith, one, two, three)
      stays entry on = grind (arith, on, here)

      reply_owes : (event : Event Q S M P) (reply : Reply Q) → RepliesAfter beginning before event reply
          → is_discarded space ((event, reply) ∷ before) ≡ false → OwesIn ((event, reply) ∷ before)
      reply_owes (Send there now size eliciting largest queue frames) (Ok (answers.Sent number forgotten)) told keys =
          let is = past_four told in
          sends_one there number
          (packet_now known now size eliciting largest (beginning.queue.contents queue) frames) cc
      reply_owes (Send there now size eliciting largest queue frames) (Ok answer) told keys =
          let is = past_four told in cc
      reply_owes (PollMtu now) (Ok (Probe number size)) told keys =
          sends_probe (packet_now known now size true None words.empty beginning.queue.blank)
      reply_owes (PollMtu now) (Ok answer) told keys = here
      reply_owes (Lost there number) (Ok answer) told keys =
          loses_one (same_space there space) number (λ at. rw (one_space there space at) at told.1.0)
      reply_owes (TakePending there) (Ok (answers.Queue queue)) told keys =
          takes_all (same_space there space) (beginning.queue.contents queue)
          (λ at. rw (← one_space there space at) told.1)
      reply_owes (TakePending there) (Ok answer) told keys = absurd told.1
      reply_owes (DiscardSpace there) (Ok answer) told keys =
          subst (λ (b : Bool). OwesAfter (cond b (Some emptied) None) (sent_now before) (lost_now before)
          (taken_now before)) (sym (or_first (same_space there space) (is_discarded space before) keys)) here
      reply_owes event (Ok answer) told keys =
          space_kept beginning.queue known space
          (λ entry. OwesAfter entry (sent_now before) (lost_now before) (taken_now before)) owes_on here stays event
          (Ok answer) refl
      reply_owes (PollMtu now) (Err refusal) told keys = here
      reply_owes event (Err refusal) told keys = here

-- ---- throughout a history

module _ {F K Q S M P : Type 0} (beginning : Beginning F K Q S M P) (measure : P → ℕ)
    (adds : AddsContents beginning.queue.words measure) (space : SpaceId) where
  keys_before : (event : Event Q S M P) (reply : Reply Q) (before : History Q S M P)
      → is_discarded space ((event, reply) ∷ before) ≡ false → is_discarded space before ≡ false
  keys_before (DiscardSpace there) (Ok answer) before keys =
      or_second (same_space there space) (is_discarded space before) keys
  keys_before (DiscardSpace there) (Err refusal) before keys = keys
  keys_before event reply before keys = keys

  pub record Requeues (history : History Q S M P) : Type 0 where
    pub tracked : AllTracked beginning history
    pub carry : AllCarry beginning history
    pub owes : is_discarded space history ≡ false → OwesIn beginning measure adds space history

  keeps_owed : (before : History Q S M P) (event : Event Q S M P) (reply : Reply Q)
      → RepliesAfter beginning before event reply → Requeues before → Requeues ((event, reply) ∷ before)
  keeps_owed before event reply told kept = record {
    tracked = keeps_tracked beginning before event reply told kept.tracked;
    carry = keeps_carried beginning before event reply told kept.carry;
    owes = λ keys. reply_owes beginning measure adds space before kept.tracked kept.carry
        (kept.owes (keys_before event reply before keys)) event reply told keys;
  }

  -- what packets in flight have no more, and what was lost, waits or was taken
  pub owes_now : (history : History Q S M P) → AtEach (RepliesAfter beginning) history
      → is_discarded space history ≡ false → OwesIn beginning measure adds space history
  owes_now history replies = (kept_after (RepliesAfter beginning) Requeues keeps_owed (record {
    tracked = none_tracked beginning;
    carry = none_carry beginning;
    owes = λ keys. omega arith;
  }) history replies).owes

  -- so does what was lost
  pub requeues_lost : (history : History Q S M P) → AtEach (RepliesAfter beginning) history
      → is_discarded space history ≡ false
      → lost_there beginning.queue.contents measure space history
      ≤ taken_there beginning.queue.contents measure space history
      + measure (queued_by beginning.queue.words ((logs_of beginning history).spaces space)).pending
  requeues_lost history replies keys =
      let owes = owes_now history replies keys in
      omega (arith, owes)
