-- A value of each tracked packet, such as its size, is determined by its number: this is preserved as packets are sent
-- and leave, and by each event. `PacketSizeLaws` and `CarriedLaws` rest on it.
use Rattle.std.proofs.lemmas.Bool.Decides.{nat_tests}
use Rattle.std.proofs.Math.Path.{fun_ext}
use Rattle.std.proofs.Common.{ℕ, ◌≡◌, ◌+◌, ◌<◌, ◌≤◌, true, List, [], ◌∷◌, ◌++◌, Option, None, Some, refl, ◌∙◌, arith, ◌==◌, ◌&&◌, Bool, false, cond, Ok, Err, subst}
use Rattle.std.specs.Prelude.{option_map}
use Rattle.recovery_spaces.specs.Packets.{Packet, Packets, packet_at, without, without_some, replaced, carrying, with_contents, forgotten_number, sent_onto}
use Rattle.recovery_spaces.specs.SpaceLog.{SpaceEntry, acknowledged, loses, probes, sends}
use Rattle.recovery_spaces.specs.Tracked.{SentState, sent_by}
use Rattle.recovery_spaces.proofs.PacketLaws.{number_at, none_found}
use Rattle.recovery_queue.specs.Queues.{QueueSemantics}
use Rattle.recovery_history.proofs.EntryKinds.{space_kind, sends_none, space_kept}
use Rattle.recovery_base.specs.declared.below.SpaceId.{SpaceId}
use Rattle.recovery_base.specs.declared.below.SpaceId.TheVariants.{Data}
use Rattle.recovery_base.specs.Spaces.{same_space}
use Rattle.recovery_events.specs.declared.event.Event.{Event}
use Rattle.recovery_events.specs.declared.event.Event.TheVariants.{Send, PollMtu}
use Rattle.recovery_events.specs.declared.event.Answer.TheVariants as answers
use Rattle.recovery_events.specs.declared.event.Answer.TheVariants.{Probe}
use Rattle.recovery_history.specs.Table.{entries_of}
use Rattle.recovery_history.specs.RepliesAfter.{logs_of, inputs_after, RepliesAfter}
use Rattle.recovery_history.specs.History.{Beginning, History, Reply}
use Rattle.recovery_history.specs.ReplyInputs.{ReplyInputs, number_in, packet_now}
use Rattle.recovery_history.specs.Logs.{onto}
use Rattle.recovery_history.proofs.AnswerLaws.{past_four}
use Rattle.recovery_history.proofs.TrackedLaws.{is_new, one_space, probe_number, sent_in}

module _ {P M A : Type 0} (says : Packet P M → A) where
  -- packets have the values of their numbers, which are below a limit
  abbrev pub AreSaid : (ℕ → A) → ℕ → Packets P M → Type 0
  AreSaid by limit [] = Unit {0}
  AreSaid by limit (entry ∷ packets) = (says entry.1 ≡ by entry.0) × (entry.0 < limit) × AreSaid by limit packets

  module _ (by : ℕ → A) (limit : ℕ) where
    -- so does the packet of a number
    pub said_found : (packets : Packets P M) → AreSaid by limit packets → (number : ℕ) (packet : Packet P M)
        → packet_at packets number ≡ Some packet → says packet ≡ by number
    said_found [] said number packet found = none_found packet found
    said_found (entry ∷ packets) said number packet found =
        grind (arith, nat_tests, said, found, number_at number entry.0, said_found packets said.2 number packet)

    -- so do those that are left
    pub said_without : (packets : Packets P M) (number : ℕ) → AreSaid by limit packets
        → AreSaid by limit (without packets number)
    said_without [] number said = tt
    said_without (entry ∷ packets) number said =
        grind (arith, nat_tests, said, said_without packets number said.2)

    said_without_some : (packets : Packets P M) (forgotten : Option ℕ) → AreSaid by limit packets
        → AreSaid by limit (without_some packets forgotten)
    said_without_some packets None said = said
    said_without_some packets (Some number) said = said_without packets number said

    -- one with other contents, which are no such value
    module _ (kept : (contents : P) (packet : Packet P M) → says (with_contents contents packet) ≡ says packet) where
      said_replaced : (packets : Packets P M) (number : ℕ) (packet : Packet P M) → says packet ≡ by number
          → AreSaid by limit packets → AreSaid by limit (replaced number (Some packet) packets)
      said_replaced [] number packet same said = tt
      said_replaced (entry ∷ packets) number packet same said =
          grind (
            arith,
            nat_tests,
            said,
            same,
            number_at number entry.0,
            said_replaced packets number packet same said.2,
          )

      pub said_carrying : (packets : Packets P M) (number : ℕ) (contents : P) → AreSaid by limit packets
          → AreSaid by limit (carrying number contents packets)
      said_carrying packets number contents said = go (packet_at packets number) refl
        where
          go : (found : Option (Packet P M)) → packet_at packets number ≡ found
              → AreSaid by limit (replaced number (option_map (with_contents contents) found) packets)
          go None found = said
          go (Some packet) found = said_replaced packets number (with_contents contents packet)
              (kept contents packet ∙ said_found packets said number packet found) said

    -- one more, under a number that is not below any
    module _ (number : ℕ) (above : limit ≤ number) (then_by : ℕ → A)
        (same : (n : ℕ) → n < limit → by n ≡ then_by n) where
      said_push : (packets : Packets P M) (packet : Packet P M) → says packet ≡ then_by number
          → AreSaid by limit packets → AreSaid then_by (number + 1) (packets ++ (number, packet) ∷ [])
      said_push [] packet own said = (own, omega arith, tt)
      said_push (entry ∷ packets) packet own said =
          grind (arith, said, same entry.0, said_push packets packet own said.2, above)

      pub said_sent : (last : Option ℕ) (packets : Packets P M) (packet : Packet P M) → says packet ≡ then_by number
          → AreSaid by limit packets → AreSaid then_by (number + 1) (sent_onto last number packet packets)
      said_sent last packets packet own said =
          said_push (without_some packets (forgotten_number last packet packets)) packet own
          (said_without_some packets _ said)

  -- so do the tracked packets, whose numbers were assigned
  abbrev pub IsSaid : (ℕ → A) → SentState P M → Type 0
  IsSaid by sent = AreSaid by sent.next sent.tracked

  -- an entry by which no packet is sent
  module _ {S : Type 0}
      (kept : (contents : P) (packet : Packet P M) → says (with_contents contents packet) ≡ says packet)
      (words : QueueSemantics P S) (by : ℕ → A) (log : List (SpaceEntry P M))
      (said : IsSaid by (sent_by words log)) where
    pub said_after : (entry : SpaceEntry P M) → sends_none (space_kind entry) ≡ true
        → IsSaid by (sent_by words (entry ∷ log))
    said_after (acknowledged number) none =
        said_without by (sent_by words log).next (sent_by words log).tracked number said
    said_after (loses number) none = said_without by (sent_by words log).next (sent_by words log).tracked number said
    said_after (probes immediate found) none =
        grind (
          arith,
          said,
          λ (number : ℕ). said_carrying by (sent_by words log).next kept (sent_by words log).tracked number
              words.empty said,
        )
    said_after entry none = grind (arith, none, said)

-- ---- throughout a history

module _ {F K Q S M P A : Type 0} (beginning : Beginning F K Q S M P) (space : SpaceId) (says : Packet P M → A)
    (kept : (contents : P) (packet : Packet P M) → says (with_contents contents packet) ≡ says packet)
    (before : History Q S M P) (by : ℕ → A) (said : IsSaid says by (sent_in beginning before space)) where
  abbrev log : List (SpaceEntry P M)
  log = (logs_of beginning before).spaces space

  abbrev known : ReplyInputs K P M
  known = inputs_after beginning before

  abbrev Says : Option (SpaceEntry P M) → (ℕ → A) → Type 0
  Says entry then_by = IsSaid says then_by (sent_by beginning.queue.words (onto entry log))

  -- the values of numbers after a packet was sent under one, in this space or in another one
  abbrev with_one : Bool → ℕ → Packet P M → ℕ → A
  with_one b k packet n = cond (b && k == n) (says packet) (by n)

  -- a packet is sent under the next number
  goes_out : (there : SpaceId) (packet : Packet P M) (number : ℕ) → number ≡ number_in known there
      → Says (cond (same_space there space) (Some (sends (number_in known there) packet)) None)
      (with_one (same_space there space) number packet)
  goes_out there packet number is = rw is (go (same_space there space) refl)
    where
      go : (b : Bool) → same_space there space ≡ b
          → let k = number_in known there in Says (cond b (Some (sends k packet)) None) (with_one b k packet)
      go false at = said
      go true at =
          let k = number_in known there in
          let IsNext : SpaceId → Type 0 = λ s. (sent_in beginning before s).next ≤ k in
          let sent = sent_in beginning before space in
          let new : sent.next ≤ k = subst IsNext (one_space there space at) (is_new beginning before there) in
          said_sent says by sent.next k new (with_one true k packet)
          (λ n below. grind (arith, nat_tests, new, below)) sent.last sent.tracked packet (grind (arith, nat_tests))
          said

  -- the values of numbers after an event
  abbrev pub said_then : Event Q S M P → Reply Q → ℕ → A
  said_then (Send there now size eliciting largest queue frames) (Ok (answers.Sent number forgotten)) =
      with_one (same_space there space) number
      (packet_now known now size eliciting largest (beginning.queue.contents queue) frames)
  said_then (PollMtu now) (Ok (Probe number size)) =
      with_one (same_space Data space) number
      (packet_now known now size true None beginning.queue.words.empty beginning.queue.blank)
  said_then event reply = by

  reply_says : (event : Event Q S M P) (reply : Reply Q) → RepliesAfter beginning before event reply
      → Says ((entries_of beginning.queue known event reply).spaces space) (said_then event reply)
  reply_says (Send there now size eliciting largest queue frames) (Ok (answers.Sent number forgotten)) told =
      let is = past_four told in
      goes_out there (packet_now known now size eliciting largest (beginning.queue.contents queue) frames) number cc
  reply_says (Send there now size eliciting largest queue frames) (Ok answer) told = let is = past_four told in cc
  reply_says (PollMtu now) (Ok (Probe number size)) told =
      goes_out Data (packet_now known now size true None beginning.queue.words.empty beginning.queue.blank) number
      (probe_number beginning.queue known now _ number size told.1.1)
  reply_says (PollMtu now) reply told = said
  reply_says event (Ok answer) told =
      space_kept beginning.queue known space (λ entry. Says entry by) sends_none said
      (said_after says kept beginning.queue.words by log said) event (Ok answer) refl
  reply_says event (Err refusal) told = said

  -- so the history says it, if it has this value
  pub said_told : (event : Event Q S M P) (reply : Reply Q) (then_by : ℕ → A)
      → RepliesAfter beginning before event reply
      → ((n : ℕ) → said_then event reply n ≡ then_by n)
      → IsSaid says then_by (sent_in beginning ((event, reply) ∷ before) space)
  said_told event reply then_by told same =
      subst (λ b. IsSaid says b (sent_in beginning ((event, reply) ∷ before) space)) (fun_ext same)
      (reply_says event reply told)
