-- Contents are neither lost nor duplicated: what was sent is what is tracked and waits, plus what is gone. The clause
-- `conserved_data` of `run` rests on it.
use Rattle.std.proofs.Common.{◌≡◌, ℕ, Bool, true, false, cond, List, [], ◌∷◌, ◌++◌, Option, None, Some, Ok, Err, refl, sym, ap, subst, ◌∙◌, option_map, arith}
use Rattle.recovery_base.specs.declared.below.SpaceId.{SpaceId}
use Rattle.recovery_base.specs.declared.below.SpaceId.TheVariants.{Data}
use Rattle.recovery_base.specs.Spaces.{same_space}
use Rattle.recovery_spaces.specs.Packets.{Packet, Packets, packet_at, without, without_some, with_contents, replaced, contents_or}
use Rattle.std.specs.Option.{option_and_then}
use Rattle.recovery_spaces.specs.Queued.{joined_with, queued_by}
use Rattle.recovery_spaces.specs.SpaceLog.{SpaceEntry, sends, acknowledged, loses, probes, takes_pending, emptied}
use Rattle.recovery_spaces.specs.Tracked.{SentState, sent_by, sent_moved, forgotten_by}
use Rattle.recovery_spaces.proofs.PacketLaws.{none_found, number_at}
use Rattle.recovery_queue.specs.Queues.{QueueSemantics}
use Rattle.recovery_events.specs.declared.event.Event.{Event}
use Rattle.recovery_events.specs.declared.event.Event.TheVariants.{Send, PollMtu, Acked, DiscardSpace, TakePending}
use Rattle.recovery_events.specs.declared.event.Answer.TheVariants as answers
use Rattle.recovery_events.specs.declared.event.Answer.TheVariants.{Probe}
use Rattle.recovery_history.specs.RepliesAfter.{logs_of, inputs_after, RepliesAfter}
use Rattle.recovery_history.specs.History.{AtEach, Beginning, History, Reply}
use Rattle.recovery_history.specs.ReplyInputs.{ReplyInputs, number_in, packet_now}
use Rattle.recovery_history.specs.Logs.{onto}
use Rattle.recovery_history.specs.Promises.Contents.{ConservesData, all, outgoing, held, gone, carried}
use Rattle.recovery_history.specs.Promises.Measures.{AddsUp, Totals}
use Rattle.recovery_history.proofs.EntryKinds.{SpaceKind, sending, acknowledging, taking, emptying, space_kind, space_kept}
use Rattle.recovery_history.proofs.AnswerLaws.{past_four}
use Rattle.recovery_history.proofs.Runs.{kept_after}
use Rattle.recovery_history.proofs.TrackedLaws.{one_space, sent_in}

-- ---- totals

module _ {T : Type 0} (totals : Totals T) where
  abbrev plus : T → T → T
  plus = totals.plus

  unit_right : (a : T) → plus a totals.zero ≡ a
  unit_right a = totals.commutes a totals.zero ∙ totals.unit a

  -- the last two are exchanged
  turned : (a b c : T) → plus (plus a b) c ≡ plus (plus a c) b
  turned a b c = totals.associates a b c ∙ ap (plus a) (totals.commutes b c) ∙ sym (totals.associates a c b)

  -- one is removed from all, and waits
  waits : (left one all waiting : T) → plus left one ≡ all → plus left (plus waiting one) ≡ plus all waiting
  waits left one all waiting leaves =
      sym (totals.associates left waiting one) ∙ turned left waiting one ∙ ap (λ a. plus a waiting) leaves

  -- it is gone
  goes_away : (left one all waiting gone : T) → plus left one ≡ all
      → plus (plus left waiting) (plus one gone) ≡ plus (plus all waiting) gone
  goes_away left one all waiting gone leaves =
      sym (totals.associates (plus left waiting) one gone)
      ∙ ap (λ a. plus a gone) (turned left waiting one ∙ ap (λ a. plus a waiting) leaves)

  -- one is added, and one is gone
  comes : (left one all waiting more : T) → plus left one ≡ all
      → plus (plus (plus left more) waiting) one ≡ plus (plus all waiting) more
  comes left one all waiting more leaves =
      ap (λ a. plus a one) (turned left more waiting) ∙ turned (plus left waiting) more one
      ∙ ap (λ a. plus a more) (turned left waiting one ∙ ap (λ a. plus a waiting) leaves)

  -- what is sent is held, and what leaves is gone
  balanced : (out held gone after left : T) → plus after left ≡ plus held out
      → plus out (plus held gone) ≡ plus after (plus left gone)
  balanced out held gone after left changes =
      sym (totals.associates out held gone) ∙ ap (λ a. plus a gone) (totals.commutes out held ∙ sym changes)
      ∙ totals.associates after left gone

  -- one replaces another
  exchanged : (first rest one other after : T) → plus after one ≡ plus rest other
      → plus (plus first after) one ≡ plus (plus first rest) other
  exchanged first rest one other after same =
      totals.associates first after one ∙ ap (plus first) same ∙ sym (totals.associates first rest other)

  swapped : (one rest other : T) → plus (plus other rest) one ≡ plus (plus one rest) other
  swapped one rest other =
      totals.commutes (plus other rest) one ∙ sym (totals.associates one other rest) ∙ turned one other rest

-- ---- what packets carry

module _ {F K Q S M P T : Type 0} (run : Beginning F K Q S M P) (totals : Totals T) (measure : P → T)
    (adds : AddsUp run.queue.words totals measure) (space : SpaceId) where
  abbrev all_of : Packets P M → T
  all_of = all run totals measure space

  abbrev measured : Option (Packet P M) → T
  measured packet = measure (contents_or run.queue.words.empty packet)

  -- a packet leaves with its contents
  all_leaves : (packets : Packets P M) (n : ℕ)
      → totals.plus (all_of (without packets n)) (measured (packet_at packets n)) ≡ all_of packets
  all_leaves [] n = totals.unit (measure run.queue.words.empty) ∙ adds.empty
  all_leaves (entry ∷ packets) n =
      grind (
        arith,
        number_at n entry.0,
        all_leaves packets n,
        totals.commutes (all_of packets) (measure entry.1.retransmits),
        totals.associates (measure entry.1.retransmits) (all_of (without packets n)) (measured (packet_at packets n)),
      )

  -- a packet gets other contents
  all_replaced : (packets : Packets P M) (n : ℕ) (packet other : Packet P M) → packet_at packets n ≡ Some packet
      → totals.plus (all_of (replaced n (Some other) packets)) (measure packet.retransmits)
      ≡ totals.plus (all_of packets) (measure other.retransmits)
  all_replaced [] n packet other found = none_found packet found
  all_replaced (entry ∷ packets) n packet other found =
      grind (
        arith,
        number_at n entry.0,
        found,
        swapped totals (measure packet.retransmits) (all_of packets) (measure other.retransmits),
        λ (there : packet_at packets n ≡ Some packet). exchanged totals (measure entry.1.retransmits) (all_of packets)
            (measure packet.retransmits) (measure other.retransmits) (all_of (replaced n (Some other) packets))
            (all_replaced packets n packet other there),
      )

  -- one is appended
  all_behind : (packets : Packets P M) (n : ℕ) (packet : Packet P M)
      → all_of (packets ++ (n, packet) ∷ []) ≡ totals.plus (all_of packets) (measure packet.retransmits)
  all_behind [] n packet = totals.commutes (measure packet.retransmits) totals.zero
  all_behind (entry ∷ packets) n packet =
      ap (totals.plus (measure entry.1.retransmits)) (all_behind packets n packet)
      ∙ sym (totals.associates (measure entry.1.retransmits) (all_of packets) (measure packet.retransmits))

  -- the contents of a packet wait, if it is tracked
  joins : (pending : P) (found : Option (Packet P M))
      → measure (joined_with run.queue.words pending found) ≡ totals.plus (measure pending) (measured found)
  joins pending None = sym (ap (totals.plus (measure pending)) adds.empty ∙ unit_right totals (measure pending))
  joins pending (Some packet) = adds.joined pending packet.retransmits

  -- what a probe finds waits
  moves : (pending : P) (n : ℕ) (tracked : Packets P M) (found : Option (Packet P M)) → packet_at tracked n ≡ found
      → totals.plus (all_of (replaced n (option_map (with_contents run.queue.words.empty) found) tracked))
      (measure (joined_with run.queue.words pending found)) ≡ totals.plus (all_of tracked) (measure pending)
  moves pending n tracked None is = refl
  moves pending n tracked (Some packet) is =
      ap (totals.plus _) (adds.joined pending packet.retransmits)
      ∙ waits totals _ (measure packet.retransmits) (all_of tracked) (measure pending)
      (all_replaced tracked n packet (with_contents run.queue.words.empty packet) is
      ∙ ap (totals.plus (all_of tracked)) adds.empty ∙ unit_right totals (all_of tracked))

  moves_none : (pending : P) (moved : Option ℕ) (sent : SentState P M)
      → totals.plus (all_of (sent_moved run.queue.words.empty moved sent).tracked)
      (measure (joined_with run.queue.words pending (option_and_then (packet_at sent.tracked) moved)))
      ≡ totals.plus (all_of sent.tracked) (measure pending)
  moves_none pending (Some n) sent = moves pending n sent.tracked (packet_at sent.tracked n) refl
  moves_none pending None sent = refl

-- ---- what an event does to them

-- no contents are added or removed
abbrev keeps_contents : SpaceKind → Bool
keeps_contents sending = false
keeps_contents acknowledging = false
keeps_contents taking = false
keeps_contents emptying = false
keeps_contents kind = true

module _ {F K Q S M P T : Type 0} (beginning : Beginning F K Q S M P) (before : History Q S M P) (totals : Totals T)
    (measure : P → T) (adds : AddsUp beginning.queue.words totals measure) (space : SpaceId)
    (same : outgoing beginning totals measure space before
    ≡ totals.plus (held beginning totals measure space before) (gone beginning totals measure space before)) where
  abbrev log : List (SpaceEntry P M)
  log = (logs_of beginning before).spaces space

  abbrev known : ReplyInputs K P M
  known = inputs_after beginning before

  abbrev outgoing_now : T
  outgoing_now = outgoing beginning totals measure space before

  abbrev gone_now : T
  gone_now = gone beginning totals measure space before

  abbrev all_now : Packets P M → T
  all_now = all beginning totals measure space

  abbrev held_by : List (SpaceEntry P M) → T
  held_by entries = totals.plus (all_now (sent_by beginning.queue.words entries).tracked)
      (measure (queued_by beginning.queue.words entries).pending)

  -- after an entry in this space, or none
  abbrev held_after : Bool → SpaceEntry P M → T
  held_after b entry = held_by (onto (cond b (Some entry) None) log)

  goes : (b : Bool) (entry : SpaceEntry P M) (out left : T)
      → (b ≡ true → totals.plus (held_by (entry ∷ log)) left ≡ totals.plus (held_by log) out)
      → totals.plus (cond b out totals.zero) outgoing_now
      ≡ totals.plus (held_after b entry) (totals.plus (cond b left totals.zero) gone_now)
  goes true entry out left changes = ap (totals.plus out) same
      ∙ balanced totals out (held_by log) gone_now (held_by (entry ∷ log)) left (changes refl)
  goes false entry out left changes =
      totals.unit outgoing_now ∙ same ∙ ap (totals.plus (held_by log)) (sym (totals.unit gone_now))

  -- nothing is sent
  leaves : (b : Bool) (entry : SpaceEntry P M) (left : T)
      → (b ≡ true → totals.plus (held_by (entry ∷ log)) (totals.plus left gone_now)
      ≡ totals.plus (held_by log) gone_now)
      → outgoing_now ≡ totals.plus (held_after b entry) (totals.plus (cond b left totals.zero) gone_now)
  leaves true entry left changes = same ∙ sym (changes refl)
  leaves false entry left changes = same ∙ ap (totals.plus (held_by log)) (sym (totals.unit gone_now))

  abbrev words : QueueSemantics P S
  words = beginning.queue.words

  abbrev sent : SentState P M
  sent = sent_in beginning before space

  abbrev pending : P
  pending = (queued_by words log).pending

  -- the packet of a number is no longer tracked
  leaves_some : (number : Option ℕ)
      → totals.plus (all_now (without_some sent.tracked number)) (carried beginning totals measure space number before)
      ≡ all_now sent.tracked
  leaves_some None = unit_right totals (all_now sent.tracked)
  leaves_some (Some number) = all_leaves beginning totals measure adds space sent.tracked number

  forgets : (number other : Option ℕ) → number ≡ other
      → totals.plus (all_now (without_some sent.tracked other)) (carried beginning totals measure space number before)
      ≡ all_now sent.tracked
  forgets number other is = subst (λ other. totals.plus (all_now (without_some sent.tracked other))
      (carried beginning totals measure space number before) ≡ all_now sent.tracked) is (leaves_some number)

  -- a packet is sent, and perhaps another one is forgotten
  sends_more : (k : ℕ) (packet : Packet P M) (forgotten : Option ℕ) → forgotten ≡ forgotten_by sent packet
      → totals.plus (held_by (sends k packet ∷ log)) (carried beginning totals measure space forgotten before)
      ≡ totals.plus (held_by log) (measure packet.retransmits)
  sends_more k packet forgotten is =
      let one = carried beginning totals measure space forgotten before in
      ap (λ all. totals.plus (totals.plus all (measure pending)) one)
      (all_behind beginning totals measure adds space (without_some sent.tracked (forgotten_by sent packet)) k packet)
      ∙ comes totals (all_now (without_some sent.tracked (forgotten_by sent packet))) one (all_now sent.tracked)
      (measure pending) (measure packet.retransmits) (forgets forgotten (forgotten_by sent packet) is)

  -- an entry that adds and removes no contents
  unmoved : (entry : SpaceEntry P M) → keeps_contents (space_kind entry) ≡ true
      → outgoing_now ≡ totals.plus (held_by (entry ∷ log)) gone_now
  unmoved (loses number) keeps = same ∙ ap (λ held. totals.plus held gone_now) (sym (ap (totals.plus _)
      (joins beginning totals measure adds space pending (packet_at sent.tracked number))
      ∙ waits totals _ _ _ (measure pending) (all_leaves beginning totals measure adds space sent.tracked number)))
  unmoved (probes immediate found) keeps = same ∙ ap (λ held. totals.plus held gone_now)
      (sym (moves_none beginning totals measure adds space pending found.moved sent))
  unmoved entry keeps = grind (arith, keeps, same)

  -- the retransmission queue is returned
  taken : (out : P) → out ≡ pending
      → totals.plus (totals.plus (all_now sent.tracked) (measure words.empty)) (totals.plus (measure out) gone_now)
      ≡ totals.plus (held_by log) gone_now
  taken out is =
      ap (λ none. totals.plus (totals.plus (all_now sent.tracked) none) (totals.plus (measure out) gone_now)) adds.empty
      ∙ ap (λ all. totals.plus all (totals.plus (measure out) gone_now)) (unit_right totals (all_now sent.tracked))
      ∙ ap (λ one. totals.plus (all_now sent.tracked) (totals.plus (measure one) gone_now)) is
      ∙ sym (totals.associates (all_now sent.tracked) (measure pending) gone_now)

  -- an MTU probe is sent, which has no contents
  probed : (b : Bool) (k : ℕ) (packet : Packet P M) → packet.retransmits ≡ words.empty
      → None ≡ forgotten_by sent packet → outgoing_now ≡ totals.plus (held_after b (sends k packet)) gone_now
  probed true k packet none kept = same ∙ ap (λ held. totals.plus held gone_now)
      (sym (sym (unit_right totals _) ∙ sends_more k packet None kept
      ∙ ap (totals.plus (held_by log)) (ap measure none ∙ adds.empty) ∙ unit_right totals (held_by log)))
  probed false k packet none kept = same

  abbrev Balanced : History Q S M P → Type 0
  Balanced after = outgoing beginning totals measure space after
      ≡ totals.plus (held beginning totals measure space after) (gone beginning totals measure space after)

  reply_keeps : (event : Event Q S M P) (reply : Reply Q) → RepliesAfter beginning before event reply
      → Balanced ((event, reply) ∷ before)
  reply_keeps (Send there now size eliciting largest queue frames) (Ok (answers.Sent number forgotten)) told =
      let packet = packet_now known now size eliciting largest (beginning.queue.contents queue) frames in
      let is = past_four told in
      let forgets_there : forgotten ≡ forgotten_by (known.spaces there).sent packet = cc in
      goes (same_space there space) (sends (number_in known there) packet) _ _
      (λ at. sends_more (number_in known there) packet forgotten (rw (← one_space there space at) forgets_there))
  reply_keeps (Send there now size eliciting largest queue frames) (Ok answer) told = let is = past_four told in cc
  reply_keeps (PollMtu now) (Ok (Probe number size)) told =
      probed (same_space Data space) (number_in known Data)
      (packet_now known now size true None words.empty beginning.queue.blank) refl refl
  reply_keeps (PollMtu now) (Ok answer) told = same
  reply_keeps (Acked there now number app_limited) (Ok answer) told =
      leaves (same_space there space) (acknowledged number) _ (λ at. goes_away totals _ _ _ (measure pending) gone_now
      (all_leaves beginning totals measure adds space sent.tracked number))
  reply_keeps (DiscardSpace there) (Ok answer) told =
      leaves (same_space there space) emptied _ (λ at. ap (λ waiting. totals.plus (totals.plus totals.zero waiting)
      (totals.plus (held_by log) gone_now)) adds.empty
      ∙ ap (λ none. totals.plus none (totals.plus (held_by log) gone_now)) (totals.unit totals.zero)
      ∙ totals.unit (totals.plus (held_by log) gone_now))
  reply_keeps (TakePending there) (Ok (answers.Queue queue)) told =
      leaves (same_space there space) takes_pending _
      (λ at. taken (beginning.queue.contents queue) (rw (← one_space there space at) told.1))
  reply_keeps (TakePending there) (Ok answer) told = absurd told.1
  reply_keeps event (Ok answer) told =
      space_kept beginning.queue known space
      (λ entry. outgoing_now ≡ totals.plus (held_by (onto entry log)) gone_now)
      keeps_contents same unmoved event (Ok answer) refl
  reply_keeps (PollMtu now) (Err refusal) told = same
  reply_keeps event (Err refusal) told =
      same

-- ---- throughout a run

module _ {F K Q S M P : Type 0} (beginning : Beginning F K Q S M P) where
  pub loses_nothing : (history : History Q S M P) → AtEach (RepliesAfter beginning) history
      → ConservesData beginning history
  loses_nothing =
      kept_after (RepliesAfter beginning) (ConservesData beginning)
      (λ before event reply here kept totals measure adds space.
      reply_keeps beginning before totals measure adds space (kept totals measure adds space) event reply here)
      (λ totals measure adds space. let none = measure beginning.queue.words.empty in
      sym (unit_right totals (totals.plus totals.zero none) ∙ totals.unit none ∙ adds.empty))
