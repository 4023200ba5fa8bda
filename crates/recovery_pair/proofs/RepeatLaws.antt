-- What is taken from the retransmission queue was lost, or was taken by a probe (RFC 9000, 13.3; RFC 9002, 6.2.4). Only
-- a loss or a probe puts contents there, and a packet carries at most what was sent under its number.
use Rattle.std.proofs.Common.{◌≡◌, ◌<◌, ◌≤◌, ◌+◌, ℕ, ◌==◌, ◌&&◌, ◌||◌, Bool, true, false, cond, List, [], ◌∷◌, ◌++◌, Option, None, Some, Ok, Err, option_map, refl, ap, ◌∙◌, subst, arith}
use Rattle.std.proofs.lemmas.Bool.Decides.{nat_tests}
use Rattle.std.specs.Prelude.{not, if◌then◌else◌}
use Rattle.std.specs.Option.{option_and_then}
use Rattle.recovery_base.specs.declared.below.SpaceId.{SpaceId}
use Rattle.recovery_base.specs.declared.below.SpaceId.TheVariants.{Data}
use Rattle.recovery_base.specs.Spaces.{same_space}
use Rattle.recovery_queue.specs.Queues.{QueueSemantics}
use Rattle.recovery_spaces.specs.Packets.{Packet, Packets, packet_at, replaced, with_contents, without, without_some}
use Rattle.recovery_spaces.specs.Probes.{ProbeFound}
use Rattle.recovery_spaces.specs.Queued.{joined_with, queued_by}
use Rattle.recovery_spaces.specs.SpaceLog.{SpaceEntry, acknowledged, emptied, loses, probes, sends, takes_pending}
use Rattle.recovery_spaces.specs.Tracked.{SentState, forgotten_by, sent_by, sent_moved}
use Rattle.recovery_spaces.proofs.PacketLaws.{none_found, number_at}
use Rattle.recovery_events.specs.declared.event.Answer.TheVariants as answers
use Rattle.recovery_events.specs.declared.event.Answer.TheVariants.{Probe}
use Rattle.recovery_events.specs.declared.event.Event.{Event}
use Rattle.recovery_events.specs.declared.event.Event.TheVariants.{DiscardSpace, Lost, PollMtu, QueueProbe, Send, TakePending}
use Rattle.recovery_history.specs.Entries.{found_in}
use Rattle.recovery_history.specs.History.{AtEach, Beginning, History, Reply}
use Rattle.recovery_history.specs.Logs.{onto}
use Rattle.recovery_history.specs.ReplyInputs.{ReplyInputs, number_in, packet_now}
use Rattle.recovery_history.specs.RepliesAfter.{RepliesAfter, inputs_after, logs_of}
use Rattle.recovery_history.proofs.AnswerLaws.{is_there, past_four}
use Rattle.recovery_history.proofs.CarriedLaws.{AllCarry, keeps_carried, none_carry}
use Rattle.recovery_history.proofs.EntryKinds.{SpaceKind, emptying, losing, probing, sending, space_kept, space_kind, taking}
use Rattle.recovery_history.proofs.FieldLaws.{AreSaid}
use Rattle.recovery_history.proofs.Runs.{kept_after}
use Rattle.recovery_history.proofs.TrackedLaws.{is_new, one_space, sent_in}
use Rattle.recovery_pair.specs.Carried.{AddsContents, is_probing, lost_there, probed_there, sent_with, taken_there}
use Rattle.recovery_pair.specs.Logs.{part}
use Rattle.recovery_pair.proofs.RequeueLaws.{other_number}

-- ---- what tracked packets carry

module _ {P M : Type 0} (measure : P → ℕ) where
  -- at most this
  abbrev pub Fits : (ℕ → ℕ) → Packets P M → Type 0
  Fits by [] = Unit {0}
  Fits by (entry ∷ packets) = (measure entry.1.retransmits ≤ by entry.0) × Fits by packets

  module _ (by : ℕ → ℕ) where
    fits_found : (packets : Packets P M) → Fits by packets → (n : ℕ) (packet : Packet P M)
        → packet_at packets n ≡ Some packet → measure packet.retransmits ≤ by n
    fits_found [] fits n packet found = none_found packet found
    fits_found (entry ∷ packets) fits n packet found =
        grind (arith, nat_tests, fits, found, number_at n entry.0, fits_found packets fits.1 n packet)

    fits_without : (packets : Packets P M) (n : ℕ) → Fits by packets → Fits by (without packets n)
    fits_without [] n fits = tt
    fits_without (entry ∷ packets) n fits = grind (arith, nat_tests, fits, fits_without packets n fits.1)

    fits_without_some : (packets : Packets P M) (n : Option ℕ) → Fits by packets → Fits by (without_some packets n)
    fits_without_some packets None fits = fits
    fits_without_some packets (Some n) fits = fits_without packets n fits

    fits_replaced : (packets : Packets P M) (n : ℕ) (other : Packet P M) → measure other.retransmits ≤ by n
        → Fits by packets → Fits by (replaced n (Some other) packets)
    fits_replaced [] n other most fits = tt
    fits_replaced (entry ∷ packets) n other most fits =
        grind (arith, nat_tests, fits, most, number_at n entry.0, fits_replaced packets n other most fits.1)

    fits_pushed : (packets : Packets P M) (n : ℕ) (packet : Packet P M) → measure packet.retransmits ≤ by n
        → Fits by packets → Fits by (packets ++ (n, packet) ∷ [])
    fits_pushed [] n packet most fits = (most, tt)
    fits_pushed (entry ∷ packets) n packet most fits = (fits.0, fits_pushed packets n packet most fits.1)

    -- the contents of a packet are moved out
    fits_moved : (empty : P) → measure empty ≡ 0 → (moved : Option ℕ) (sent : SentState P M) → Fits by sent.tracked
        → Fits by (sent_moved empty moved sent).tracked
    fits_moved empty none None sent fits = fits
    fits_moved empty none (Some n) sent fits = go (packet_at sent.tracked n)
      where
        go : (found : Option (Packet P M))
            → Fits by (replaced n (option_map (with_contents empty) found) sent.tracked)
        go None = fits
        go (Some packet) = fits_replaced sent.tracked n (with_contents empty packet) (omega (arith, none)) fits

  -- by another function, the same below a limit
  fits_as : {A : Type 0} (says : Packet P M → A) (field : ℕ → A) (limit : ℕ) (by then_by : ℕ → ℕ)
      → ((n : ℕ) → n < limit → then_by n ≡ by n) → (packets : Packets P M) → AreSaid says field limit packets
      → Fits by packets → Fits then_by packets
  fits_as says field limit by then_by same [] said fits = tt
  fits_as says field limit by then_by same (entry ∷ packets) said fits =
      let one = same entry.0 said.1 in
      let most = fits.0 in
      (omega (arith, one, most), fits_as says field limit by then_by same packets said.2 fits.1)

-- ---- amounts

-- a packet is lost
lost_more : (asked : Bool) (taken pending lost probed one most joined : ℕ)
    → taken + part (not asked) pending ≤ lost + probed → joined ≡ pending + one → one ≤ most
    → taken + part (not asked) joined ≤ (most + lost) + probed
lost_more true taken pending lost probed one most joined here is within = omega (arith, here)
lost_more false taken pending lost probed one most joined here is within = omega (arith, here, is, within)

-- the queue is taken
taken_more : (asked : Bool) (taken pending lost probed out none : ℕ)
    → taken + part (not asked) pending ≤ lost + probed → out ≡ pending → none ≡ 0
    → (out + taken) + none ≤ lost + (part asked out + probed)
taken_more true taken pending lost probed out none here is empty = omega (arith, here, empty)
taken_more false taken pending lost probed out none here is empty = omega (arith, here, is, empty)

-- it is emptied
emptied_then : (asked : Bool) (taken pending lost probed none : ℕ)
    → taken + part (not asked) pending ≤ lost + probed → none ≡ 0
    → taken + part (not asked) none ≤ lost + probed
emptied_then true taken pending lost probed none here empty = omega (arith, here)
emptied_then false taken pending lost probed none here empty = omega (arith, here, empty)

-- ---- one event

-- neither the queue nor the packets sent change
abbrev repeats_on : SpaceKind → Bool
repeats_on sending = false
repeats_on losing = false
repeats_on probing = false
repeats_on taking = false
repeats_on emptying = false
repeats_on kind = true

module _ {F K Q S M P : Type 0} (beginning : Beginning F K Q S M P) (measure : P → ℕ)
    (adds : AddsContents beginning.queue.words measure) (space : SpaceId) where
  abbrev words : QueueSemantics P S
  words = beginning.queue.words

  abbrev lost_now : History Q S M P → ℕ
  lost_now = lost_there beginning.queue.contents measure space

  abbrev taken_now : History Q S M P → ℕ
  taken_now = taken_there beginning.queue.contents measure space

  abbrev probed_now : History Q S M P → ℕ
  probed_now = probed_there beginning.queue.contents measure space

  abbrev sent_now : History Q S M P → ℕ → ℕ
  sent_now history n = sent_with beginning.queue.contents measure space n history

  -- By a log of the space: what was taken or is queued was lost, or a probe takes it. If nothing was sent, nothing was
  -- taken or is queued.
  abbrev Repeats : List (SpaceEntry P M) → (ℕ → ℕ) → ℕ → ℕ → ℕ → Bool → Type 0
  Repeats log by lost taken probed asked = Fits measure by (sent_by words log).tracked
      × (taken + part (not asked) (measure (queued_by words log).pending) ≤ lost + probed)
      × (((n : ℕ) → by n ≡ 0) → taken + measure (queued_by words log).pending ≡ 0)

  abbrev RepeatsIn : History Q S M P → Type 0
  RepeatsIn history = Repeats ((logs_of beginning history).spaces space) (sent_now history) (lost_now history)
      (taken_now history) (probed_now history) (is_probing space history)

  module _ (before : History Q S M P) (carry : AllCarry beginning before) (here : RepeatsIn before) where
    abbrev log : List (SpaceEntry P M)
    log = (logs_of beginning before).spaces space

    abbrev known : ReplyInputs K P M
    known = inputs_after beginning before

    abbrev sent : SentState P M
    sent = sent_in beginning before space

    abbrev pending : P
    pending = (queued_by words log).pending

    abbrev IsAfter : Option (SpaceEntry P M) → (ℕ → ℕ) → ℕ → ℕ → ℕ → Bool → Type 0
    IsAfter entry = Repeats (onto entry log)

    -- a packet is sent in this space, with these contents
    pushes_if : (b : Bool) (k : ℕ) (packet : Packet P M) (then_by : ℕ → ℕ)
        → ((n : ℕ) → n < sent.next → then_by n ≡ sent_now before n)
        → (b ≡ true → measure packet.retransmits ≤ then_by k)
        → ((n : ℕ) → then_by n ≡ 0 → sent_now before n ≡ 0)
        → IsAfter (cond b (Some (sends k packet)) None) then_by (lost_now before) (taken_now before)
        (probed_now before) (is_probing space before)
    pushes_if true k packet then_by same most less = (
      fits_pushed measure then_by (without_some sent.tracked (forgotten_by sent packet)) k packet (most refl)
          (fits_without_some measure then_by sent.tracked (forgotten_by sent packet)
          (fits_as measure _ _ sent.next (sent_now before) then_by same sent.tracked (carry space) here.0)),
      here.1,
      λ none. here.2 (λ n. less n (none n)),
    )
    pushes_if false k packet then_by same most less = (
      fits_as measure _ _ sent.next (sent_now before) then_by same sent.tracked (carry space) here.0,
      here.1,
      λ none. here.2 (λ n. less n (none n)),
    )

    above_all : (there : SpaceId) → same_space there space ≡ true → sent.next ≤ number_in known there
    above_all there at = subst (λ s. (sent_in beginning before s).next ≤ number_in known there)
        (one_space there space at) (is_new beginning before there)

    this_number : (b : Bool) (k amount rest : ℕ) → b ≡ true → amount ≤ part (b && k == k) amount + rest
    this_number true k amount rest at = grind (arith, nat_tests)
    this_number false k amount rest at = absurd cc

    -- a packet is sent
    sends_one : (there : SpaceId) (number : ℕ) (packet : Packet P M) → number ≡ number_in known there
        → IsAfter (cond (same_space there space) (Some (sends (number_in known there) packet)) None)
        (λ n. part (same_space there space && number == n) (measure packet.retransmits) + sent_now before n)
        (lost_now before) (taken_now before) (probed_now before) (is_probing space before)
    sends_one there number packet is = rw is
        (pushes_if (same_space there space) (number_in known there) packet
        (λ n. part (same_space there space && number_in known there == n) (measure packet.retransmits)
        + sent_now before n)
        (λ n below. other_number (same_space there space) (number_in known there) n sent.next
        (measure packet.retransmits) (sent_now before n) (above_all there) below)
        (this_number (same_space there space) (number_in known there) (measure packet.retransmits)
        (sent_now before (number_in known there)))
        (λ n none. omega (arith, none)))

    -- an MTU probe is sent, which has no contents
    sends_probe : (packet : Packet P M) → packet.retransmits ≡ words.empty
        → IsAfter (cond (same_space Data space) (Some (sends (number_in known Data) packet)) None) (sent_now before)
        (lost_now before) (taken_now before) (probed_now before) (is_probing space before)
    sends_probe packet none = pushes_if (same_space Data space) (number_in known Data) packet (sent_now before)
        (λ n below. refl)
        (λ at. let is = ap measure none ∙ adds.none in omega (arith, is)) (λ n none. none)

    -- a packet is declared lost
    loses_one : (b : Bool) (n : ℕ) → (b ≡ true → ¬ (packet_at sent.tracked n ≡ None))
        → IsAfter (cond b (Some (loses n)) None) (sent_now before) (part b (sent_now before n) + lost_now before)
        (taken_now before) (probed_now before) (is_probing space before)
    loses_one true n tracked =
        let found = is_there (packet_at sent.tracked n) (tracked refl) in
        let joins : measure (joined_with words pending (packet_at sent.tracked n))
        ≡ measure pending + measure found.0.retransmits = ap (λ (one : Option (Packet P M)).
        measure (joined_with words pending one)) found.1 ∙ adds.joined pending found.0.retransmits in
        let most = fits_found measure (sent_now before) sent.tracked here.0 n found.0 found.1 in (
          fits_without measure (sent_now before) sent.tracked n here.0,
          lost_more (is_probing space before) (taken_now before) (measure pending) (lost_now before)
              (probed_now before) (measure found.0.retransmits) (sent_now before n)
              (measure (joined_with words pending (packet_at sent.tracked n))) here.1 joins most,
          λ none. (let zero = here.2 none in let unsent = none n in omega (arith, zero, joins, most, unsent)),
        )
    loses_one false n tracked = (here.0, let most = here.1 in omega (arith, most), here.2)

    -- the retransmission queue is taken
    takes_all : (b : Bool) (out : P) → (b ≡ true → out ≡ pending)
        → IsAfter (cond b (Some takes_pending) None) (sent_now before) (lost_now before)
        (part b (measure out) + taken_now before)
        (part (b && is_probing space before) (measure out) + probed_now before)
        (if b then false else is_probing space before)
    takes_all true out is = (
      here.0,
      taken_more (is_probing space before) (taken_now before) (measure pending) (lost_now before) (probed_now before)
          (measure out) (measure words.empty) here.1 (ap measure (is refl)) adds.none,
      λ none. (
          let zero = here.2 none in
          let all = ap measure (is refl) in let empty = adds.none in omega (arith, zero, all, empty)),
    )
    takes_all false out is = (
      here.0,
      let most = here.1 in omega (arith, most),
      λ none. let zero = here.2 none in omega (arith, zero),
    )

    -- the contents of a packet are joined to the queue
    moves_none : (moved : Option ℕ) → ((n : ℕ) → sent_now before n ≡ 0)
        → taken_now before + measure (joined_with words pending (option_and_then (packet_at sent.tracked) moved)) ≡ 0
    moves_none None none = here.2 none
    moves_none (Some n) none = by (packet_at sent.tracked n) refl
      where
        by : (found : Option (Packet P M)) → packet_at sent.tracked n ≡ found
            → taken_now before + measure (joined_with words pending found) ≡ 0
        by None is = here.2 none
        by (Some packet) is =
            let zero = here.2 none in
            let joins = adds.joined pending packet.retransmits in
            let most = fits_found measure (sent_now before) sent.tracked here.0 n packet is in
            let unsent = none n in omega (arith, zero, joins, most, unsent)

    -- contents are queued for a probe
    queues_probe : (b immediate : Bool) (found : ProbeFound)
        → IsAfter (cond b (Some (probes immediate found)) None) (sent_now before) (lost_now before)
        (taken_now before) (probed_now before) (b || is_probing space before)
    queues_probe true immediate found = (
      fits_moved measure (sent_now before) words.empty adds.none found.moved sent here.0,
      let most = here.1 in omega (arith, most),
      moves_none found.moved,
    )
    queues_probe false immediate found = here

    -- the space is discarded
    empties : (b : Bool) → IsAfter (cond b (Some emptied) None) (sent_now before) (lost_now before) (taken_now before)
        (probed_now before) (is_probing space before)
    empties true = (
      tt,
      emptied_then (is_probing space before) (taken_now before) (measure pending) (lost_now before)
          (probed_now before) (measure words.empty) here.1 adds.none,
      λ none. (let zero = here.2 none in let empty = adds.none in omega (arith, zero, empty)),
    )
    empties false = here

    -- an entry by which nothing is sent, lost, queued or taken
    stays : (entry : SpaceEntry P M) → repeats_on (space_kind entry) ≡ true
        → IsAfter (Some entry) (sent_now before) (lost_now before) (taken_now before) (probed_now before)
        (is_probing space before)
    stays (acknowledged number) on = (fits_without measure (sent_now before) sent.tracked number here.0, here.1, here.2)
    stays entry on = grind (arith, on, here)

    reply_repeats : (event : Event Q S M P) (reply : Reply Q) → RepliesAfter beginning before event reply
        → RepeatsIn ((event, reply) ∷ before)
    reply_repeats (Send there now size eliciting largest queue frames) (Ok (answers.Sent number forgotten)) told =
        let is = past_four told in
        sends_one there number
        (packet_now known now size eliciting largest (beginning.queue.contents queue) frames) cc
    reply_repeats (Send there now size eliciting largest queue frames) (Ok answer) told =
        let is = past_four told in cc
    reply_repeats (PollMtu now) (Ok (Probe number size)) told =
        sends_probe (packet_now known now size true None words.empty beginning.queue.blank) refl
    reply_repeats (PollMtu now) (Ok answer) told = here
    reply_repeats (Lost there number) (Ok answer) told =
        loses_one (same_space there space) number (λ at. rw (one_space there space at) at told.1.0)
    reply_repeats (TakePending there) (Ok (answers.Queue queue)) told =
        takes_all (same_space there space) (beginning.queue.contents queue)
        (λ at. rw (← one_space there space at) told.1)
    reply_repeats (TakePending there) (Ok answer) told = absurd told.1
    reply_repeats (QueueProbe there immediate streams) (Ok answer) told =
        queues_probe (same_space there space) immediate (found_in known words streams there)
    reply_repeats (DiscardSpace there) (Ok answer) told = empties (same_space there space)
    reply_repeats event (Ok answer) told =
        space_kept beginning.queue known space
        (λ entry. IsAfter entry (sent_now before) (lost_now before) (taken_now before) (probed_now before)
        (is_probing space before)) repeats_on here stays event (Ok answer) refl
    reply_repeats (PollMtu now) (Err refusal) told = here
    reply_repeats event (Err refusal) told = here

-- ---- throughout a history

module _ {F K Q S M P : Type 0} (beginning : Beginning F K Q S M P) (measure : P → ℕ)
    (adds : AddsContents beginning.queue.words measure) (space : SpaceId) where
  pub record KeepsRepeats (history : History Q S M P) : Type 0 where
    pub carry : AllCarry beginning history
    pub repeats : RepeatsIn beginning measure adds space history

  keeps_repeats : (before : History Q S M P) (event : Event Q S M P) (reply : Reply Q)
      → RepliesAfter beginning before event reply → KeepsRepeats before → KeepsRepeats ((event, reply) ∷ before)
  keeps_repeats before event reply told kept = record {
    carry = keeps_carried beginning before event reply told kept.carry;
    repeats = reply_repeats beginning measure adds space before kept.carry kept.repeats event reply told;
  }

  repeats_after : (history : History Q S M P) → AtEach (RepliesAfter beginning) history → KeepsRepeats history
  repeats_after = let none = adds.none in
      kept_after (RepliesAfter beginning) KeepsRepeats keeps_repeats (record {
        carry = none_carry beginning;
        repeats = (tt, omega (arith, none), λ zero. omega (arith, none));
      })

  -- what was taken was lost, or a probe took it
  pub repeats_lost : (history : History Q S M P) → AtEach (RepliesAfter beginning) history
      → taken_there beginning.queue.contents measure space history
      ≤ lost_there beginning.queue.contents measure space history
      + probed_there beginning.queue.contents measure space history
  repeats_lost history replies = let most = (repeats_after history replies).repeats.1 in omega (arith, most)

  -- if nothing was sent, nothing is taken
  pub none_taken : (history : History Q S M P) → AtEach (RepliesAfter beginning) history
      → ((n : ℕ) → sent_with beginning.queue.contents measure space n history ≡ 0)
      → taken_there beginning.queue.contents measure space history ≡ 0
  none_taken history replies none = let zero = (repeats_after history replies).repeats.2 none in omega (arith, zero)
