-- The non-ack-eliciting packets that a space tracks since the last ack-eliciting one are those that the history says,
-- in their order, so that the oldest is forgotten: the clause `forgotten` of `run`.
use Rattle.std.proofs.lemmas.Bool.Decides.{nat_tests}
use Rattle.std.proofs.lemmas.List.{append-nil}
use Rattle.std.proofs.lemmas.List.Sums.{sum_by-cons}
use Rattle.std.proofs.Common.{◌≡◌, ◌<◌, ◌≤◌, ℕ, ◌==◌, ◌&&◌, ◌||◌, not, Bool, true, false, cond, if◌then◌else◌, List, [], ◌∷◌, ◌++◌, length, Option, None, Some, Ok, Err, refl, sym, ap, ap₂, ◌∙◌, arith}
use Rattle.recovery_base.specs.declared.below.SpaceId.{SpaceId}
use Rattle.recovery_base.specs.declared.below.SpaceId.TheVariants.{Data}
use Rattle.recovery_base.specs.Spaces.{same_space}
use Rattle.recovery_spaces.specs.Departures.{one_if_same}
use Rattle.recovery_spaces.specs.Packets.{Packet, Packets, packet_at, without, replaced, carrying, with_contents, is_above, is_silent_above, silent_above, least_number}
use Rattle.recovery_spaces.specs.SpaceLog.{SpaceEntry, sends, acknowledged, loses, probes, emptied}
use Rattle.recovery_spaces.specs.Tracked.{SentState, sent_by, sent_less, sent_more, sent_moved, forgotten_by}
use Rattle.recovery_spaces.proofs.PacketLaws.{number_at, none_found}
use Rattle.recovery_events.specs.declared.event.Event.{Event}
use Rattle.recovery_events.specs.declared.event.Event.TheVariants.{Send, Acked, Lost, DiscardSpace, PollMtu}
use Rattle.recovery_events.specs.declared.event.Answer.TheVariants as answers
use Rattle.recovery_events.specs.declared.event.Answer.TheVariants.{Probe}
use Rattle.recovery_history.specs.RepliesAfter.{logs_of, inputs_after, RepliesAfter}
use Rattle.recovery_history.specs.History.{Beginning, History, Reply}
use Rattle.recovery_history.specs.ReplyInputs.{ReplyInputs, number_in, packet_now}
use Rattle.recovery_history.specs.Logs.{onto}
use Rattle.recovery_history.specs.Promises.Forgotten.{oldest, silent_since, ForgetsOldestNonEliciting}
use Rattle.recovery_history.proofs.AnswerLaws.{past_four}
use Rattle.recovery_history.proofs.CountedLaws.{gone_too, gone_with}
use Rattle.recovery_history.proofs.EntryKinds.{keeps_packets, space_kind, space_kept}
use Rattle.recovery_history.proofs.Runs.{AllAlong, throughout_kept}
use Rattle.recovery_history.proofs.TrackedLaws.{at_itself, times, AllTracked, keeps_tracked, none_tracked, is_new, one_space, sent_in}

-- ---- the numbers of non-ack-eliciting packets after the last ack-eliciting one, except for those that are gone

module _ {P M : Type 0} (last : Option ℕ) where
  abbrev pub silents : (ℕ → Bool) → Packets P M → List ℕ
  silents gone [] = []
  silents gone (entry ∷ packets) =
      if is_silent_above last entry && not (gone entry.0) then entry.0 ∷ silents gone packets
      else silents gone packets

  silents-append : (gone : ℕ → Bool) (packets more : Packets P M)
      → silents gone (packets ++ more) ≡ silents gone packets ++ silents gone more
  silents-append gone [] more = refl
  silents-append gone (entry ∷ packets) more = grind (arith, silents-append gone packets more)

  -- if all are gone
  silents_of_none : (packets : Packets P M) → silents (λ n. true) packets ≡ []
  silents_of_none [] = refl
  silents_of_none (entry ∷ packets) = grind (arith, silents_of_none packets)

  -- if none is
  silents_length : (packets : Packets P M) → length (silents (λ n. false) packets) ≡ length (silent_above last packets)
  silents_length [] = refl
  silents_length (entry ∷ packets) = grind (arith, silents_length packets)

  silents_oldest : (packets : Packets P M)
      → oldest (silents (λ n. false) packets) ≡ least_number (silent_above last packets)
  silents_oldest [] = refl
  silents_oldest (entry ∷ packets) = grind (arith, silents_oldest packets)

  -- a packet with other contents
  silents-replaced : (gone : ℕ → Bool) (packets : Packets P M) (number : ℕ) (packet other : Packet P M)
      → packet_at packets number ≡ Some packet → other.ack_eliciting ≡ packet.ack_eliciting
      → silents gone (replaced number (Some other) packets) ≡ silents gone packets
  silents-replaced gone [] number packet other found alike = none_found packet found
  silents-replaced gone (entry ∷ packets) number packet other found alike =
      grind (arith, alike, found, silents-replaced gone packets number packet other)

  silents-carrying : (gone : ℕ → Bool) (packets : Packets P M) (number : ℕ) (contents : P)
      → silents gone (carrying number contents packets) ≡ silents gone packets
  silents-carrying gone packets number contents =
      grind (
        arith,
        λ (packet : Packet P M). silents-replaced gone packets number packet (with_contents contents packet),
      )

  silents_moved : (gone : ℕ → Bool) (sent : SentState P M) (empty : P) (moved : Option ℕ)
      → silents gone sent.tracked ≡ silents gone (sent_moved empty moved sent).tracked
  silents_moved gone sent empty None = refl
  silents_moved gone sent empty (Some number) = sym (silents-carrying gone sent.tracked number empty)

  module _ (gone : ℕ → Bool) (number : ℕ) where
    -- a number that is not there
    others_stay : (packets : Packets P M) → times number packets ≡ 0
        → silents (gone_too gone number) packets ≡ silents gone packets
    others_stay [] none = refl
    others_stay (entry ∷ packets) none =
        grind (
          arith,
          nat_tests,
          none,
          sum_by-cons (λ (e : ℕ × Packet P M). one_if_same e.0 number) entry packets,
          others_stay packets,
        )

    -- the packet of a number, if that occurs at most once
    one_leaves : (packets : Packets P M) → times number packets ≤ 1
        → silents gone (without packets number) ≡ silents (gone_too gone number) packets
    one_leaves [] once = refl
    one_leaves (entry ∷ packets) once =
        grind (
          arith,
          nat_tests,
          once,
          number_at number entry.0,
          at_itself number,
          sum_by-cons (λ (e : ℕ × Packet P M). one_if_same e.0 number) entry packets,
          others_stay packets,
          one_leaves packets,
        )

module _ {P M : Type 0} where
  -- above a number that is above all there is none
  none_above : (number : ℕ) (gone : ℕ → Bool) (packets : Packets P M)
      → ((n : ℕ) → number < n → times n packets ≡ 0) → silents (Some number) gone packets ≡ []
  none_above number gone [] none = refl
  none_above number gone (entry ∷ packets) none =
      let rest = none_above number gone packets (λ n up. (
      let sum = sum_by-cons (λ (e : ℕ × Packet P M). one_if_same e.0 n) entry packets in
      omega (arith, none n up, sum))) in
      let here = none entry.0 in
      grind (
        arith,
        nat_tests,
        rest,
        here,
        sum_by-cons (λ (e : ℕ × Packet P M). one_if_same e.0 entry.0) entry packets,
      )

at_end : (b : Bool) (n : ℕ) (numbers : List ℕ)
    → (if b then numbers ++ n ∷ [] else numbers) ≡ numbers ++ (if b then n ∷ [] else [])
at_end true n numbers = refl
at_end false n numbers = sym (append-nil numbers)

-- ---- what a space tracks, and what the history says about its non-ack-eliciting packets

pub record Recalls {P M : Type 0} (sent : SentState P M) (since : (ℕ → Bool) → List ℕ) : Type 0 where
  pub below : (m : ℕ) → sent.last ≡ Some m → m < sent.next
  pub same : (gone : ℕ → Bool) → since gone ≡ silents sent.last gone sent.tracked

module _ {P M : Type 0} (sent : SentState P M) (since : (ℕ → Bool) → List ℕ) (here : Recalls sent since)
    (once : (n : ℕ) → times n sent.tracked ≤ 1) where
  recalls_less : (number : ℕ) → Recalls (sent_less number sent) (λ gone. since (gone_too gone number))
  recalls_less number = record {
    below = here.below;
    same = λ gone. here.same (gone_too gone number) ∙ sym (one_leaves sent.last gone number sent.tracked (once number));
  }

  module _ (none : (n : ℕ) → sent.next ≤ n → times n sent.tracked ≡ 0) (number : ℕ) (packet : Packet P M)
      (new : sent.next ≤ number) where
    -- an ack-eliciting one is sent
    recalls_eliciting : packet.ack_eliciting ≡ true → Recalls (sent_more number packet sent) (λ gone. [])
    recalls_eliciting elicits = record {
      below = λ m is. grind (arith, elicits, is);
      same = λ gone. grind (
        arith,
        nat_tests,
        elicits,
        silents-append (Some number) gone sent.tracked ((number, packet) ∷ []),
        none_above number gone sent.tracked (λ n up. none n (omega (arith, new, up))),
      );
    }

    is_last : (last : Option ℕ) → ((m : ℕ) → last ≡ Some m → m < sent.next) → is_above last number ≡ true
    is_last None below = refl
    is_last (Some m) below = let less = below m refl in grind (arith, nat_tests, less, new)

    -- what is then tracked, without the packet
    kept_silent : (gone : ℕ → Bool) (forgotten : Option ℕ) → forgotten ≡ forgotten_by sent packet
        → silents sent.last gone (sent_more number packet sent).tracked
        ≡ silents sent.last (gone_with true forgotten gone) sent.tracked
        ++ silents sent.last gone ((number, packet) ∷ [])
    kept_silent gone None is = rw (← is) (silents-append sent.last gone sent.tracked ((number, packet) ∷ []))
    kept_silent gone (Some m) is =
        rw (
          ← is,
          silents-append sent.last gone (without sent.tracked m) ((number, packet) ∷ []),
          one_leaves sent.last gone m sent.tracked (once m),
        ) refl

    last_stays : packet.ack_eliciting ≡ false → (sent_more number packet sent).last ≡ sent.last
    last_stays silent = grind (arith, silent)

    it_stands : (gone : ℕ → Bool) → packet.ack_eliciting ≡ false
        → silents sent.last gone ((number, packet) ∷ []) ≡ (if not (gone number) then number ∷ [] else [])
    it_stands gone silent = grind (arith, silent, is_last sent.last here.below)

    -- a non-ack-eliciting one is sent, and perhaps another is forgotten
    recalls_silent : (forgotten : Option ℕ) → forgotten ≡ forgotten_by sent packet → packet.ack_eliciting ≡ false
        → Recalls (sent_more number packet sent) (λ gone. (let earlier = since (gone_with true forgotten gone) in
        if not (gone number) then earlier ++ number ∷ [] else earlier))
    recalls_silent forgotten is silent = record {
      below = λ m last. grind (arith, silent, here.below m, last, new);
      same = λ gone.
          at_end (not (gone number)) number (since (gone_with true forgotten gone))
          ∙ ap₂ (λ xs ys. xs ++ ys) (here.same (gone_with true forgotten gone)) (sym (it_stands gone silent))
          ∙ sym (ap (λ l. silents l gone (sent_more number packet sent).tracked) (last_stays silent)
          ∙ kept_silent gone forgotten is);
    }

-- ---- what an event does to it

module _ {F K Q S M P : Type 0} (beginning : Beginning F K Q S M P) where
  abbrev AllRecalled : History Q S M P → Type 0
  AllRecalled history =
      (space : SpaceId) → Recalls (sent_in beginning history space) (λ gone. silent_since space gone history)

  module _ (before : History Q S M P) (all : AllTracked beginning before) (space : SpaceId)
      (here : Recalls (sent_in beginning before space) (λ gone. silent_since space gone before)) where
    abbrev log : List (SpaceEntry P M)
    log = (logs_of beginning before).spaces space

    abbrev known : ReplyInputs K P M
    known = inputs_after beginning before

    abbrev sent : SentState P M
    sent = sent_in beginning before space

    abbrev since : (ℕ → Bool) → List ℕ
    since gone = silent_since space gone before

    abbrev After : Option (SpaceEntry P M) → ((ℕ → Bool) → List ℕ) → Type 0
    After entry = Recalls (sent_by beginning.queue.words (onto entry log))

    once : (n : ℕ) → times n sent.tracked ≤ 1
    once n = grind (arith, nat_tests, (all space n).same)

    none : (n : ℕ) → sent.next ≤ n → times n sent.tracked ≡ 0
    none n up = grind (arith, nat_tests, (all space n).same, (all space n).adds, (all space n).late, up)

    unmoved : (entry : SpaceEntry P M) → keeps_packets (space_kind entry) ≡ true → After (Some entry) since
    unmoved (probes immediate found) keeps = record {
      below = here.below;
      same = λ gone. here.same gone ∙ silents_moved sent.last gone sent beginning.queue.words.empty found.moved;
    }
    unmoved entry keeps = grind (arith, keeps, here)

    -- a packet is sent, in this space or in another one
    goes_told : (there : SpaceId) (eliciting : Bool) (packet : Packet P M) → packet.ack_eliciting ≡ eliciting
        → (number : ℕ) (forgotten : Option ℕ) → number ≡ number_in known there
        → forgotten ≡ forgotten_by (known.spaces there).sent packet → (b : Bool) → same_space there space ≡ b
        → After (cond b (Some (sends (number_in known there) packet)) None) (λ gone. (
        let earlier = since (gone_with b forgotten gone) in
        if b && eliciting then []
        else (if b && not (eliciting || gone number) then earlier ++ number ∷ [] else earlier)))
    goes_told there true packet elicits number forgotten is forgets true at =
        rw (one_space there space at)
        (recalls_eliciting sent since here once none (number_in known space) packet (is_new beginning before space)
        elicits)
    goes_told there false packet elicits number forgotten is forgets true at =
        rw (is, one_space there space at)
        (recalls_silent sent since here once none (number_in known space) packet (is_new beginning before space)
        forgotten (rw (← one_space there space at) forgets) elicits)
    goes_told there eliciting packet elicits number None is forgets false at = here
    goes_told there eliciting packet elicits number (Some m) is forgets false at = here

    probe_told : (there : SpaceId) (packet : Packet P M) → packet.ack_eliciting ≡ true → (b : Bool)
        → same_space there space ≡ b
        → After (cond b (Some (sends (number_in known there) packet)) None) (λ gone. if b then [] else since gone)
    probe_told there packet elicits true at =
        rw (one_space there space at)
        (recalls_eliciting sent since here once none (number_in known space) packet (is_new beginning before space)
        elicits)
    probe_told there packet elicits false at = here

    -- a packet leaves
    leaves_told : (entry : SpaceEntry P M) (number : ℕ)
        → sent_by beginning.queue.words (entry ∷ log) ≡ sent_less number sent → (b : Bool)
        → After (cond b (Some entry) None) (λ gone. since (λ n. (b && number == n) || gone n))
    leaves_told entry number less true = rw less (recalls_less sent since here once number)
    leaves_told entry number less false = here

    -- all leave
    all_leave : (b : Bool) → After (cond b (Some emptied) None) (λ gone. since (λ n. b || gone n))
    all_leave true = record {
      below = here.below;
      same = λ gone. here.same (λ n. true) ∙ silents_of_none sent.last sent.tracked;
    }
    all_leave false = here

    reply_recalls : (event : Event Q S M P) (reply : Reply Q) → RepliesAfter beginning before event reply
        → Recalls (sent_in beginning ((event, reply) ∷ before) space)
        (λ gone. silent_since space gone ((event, reply) ∷ before))
    reply_recalls (Send there now size eliciting largest queue frames) (Ok (answers.Sent number None)) told =
        let packet = packet_now known now size eliciting largest (beginning.queue.contents queue) frames in
        let is = past_four told in
        goes_told there eliciting packet refl number None (cc) (cc) (same_space there space) refl
    reply_recalls (Send there now size eliciting largest queue frames) (Ok (answers.Sent number (Some m))) told =
        let packet = packet_now known now size eliciting largest (beginning.queue.contents queue) frames in
        let is = past_four told in
        goes_told there eliciting packet refl number (Some m) (cc) (cc) (same_space there space) refl
    reply_recalls (Send there now size eliciting largest queue frames) (Ok answer) told =
        let is = past_four told in cc
    reply_recalls (PollMtu now) (Ok (Probe number size)) told =
        probe_told Data (packet_now known now size true None beginning.queue.words.empty beginning.queue.blank) refl
        (same_space Data space) refl
    reply_recalls (PollMtu now) (Ok answer) told = here
    reply_recalls (Acked there now number app_limited) (Ok answer) told =
        leaves_told (acknowledged number) number refl (same_space there space)
    reply_recalls (Lost there number) (Ok answer) told =
        leaves_told (loses number) number refl (same_space there space)
    reply_recalls (DiscardSpace there) (Ok answer) told = all_leave (same_space there space)
    reply_recalls event (Ok answer) told =
        space_kept beginning.queue known space (λ entry. After entry since) keeps_packets here unmoved event
        (Ok answer) refl
    reply_recalls (PollMtu now) (Err refusal) told = here
    reply_recalls event (Err refusal) told = here

  -- ---- throughout a run

  abbrev Both : History Q S M P → Type 0
  Both history = AllTracked beginning history × AllRecalled history

  forgets : (before : History Q S M P) (event : Event Q S M P) (reply : Reply Q)
      → RepliesAfter beginning before event reply
      → Both before → ForgetsOldestNonEliciting before event reply
  forgets before (Send space now size eliciting largest queue frames) (Ok (answers.Sent number forgotten)) told both =
      let known = inputs_after beginning before in
      let packet = packet_now known now size eliciting largest (beginning.queue.contents queue) frames in
      let sent = sent_in beginning before space in
      let is = past_four told in
      let same : forgotten ≡ forgotten_by sent packet = (cc) in
      same ∙ rw (
        (both.1 space).same (λ n. false),
        silents_length sent.last sent.tracked,
        silents_oldest sent.last sent.tracked,
      ) refl
  forgets before event reply told both = tt

  pub forgets_oldest : AllAlong beginning ForgetsOldestNonEliciting
  forgets_oldest =
      throughout_kept beginning Both ForgetsOldestNonEliciting
      (λ before event reply here both. (
        keeps_tracked beginning before event reply here both.0,
        λ space. reply_recalls before both.0 space (both.1 space) event reply here,
      ))
      forgets
      (none_tracked beginning, λ space. record { below = λ m is. cc; same = λ gone. refl })
