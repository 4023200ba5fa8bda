-- The promises of a sender by the events before a call.
use Rattle.std.proofs.Common.{◌≡◌, ◌≢◌, ◌⊎◌, ◌<◌, ◌≤◌, ℕ, true, false, Bool, true≢false, ◌==◌, List, [], ◌∷◌, length, Option, None, Some, inl, inr, refl, sym, ap, subst, ◌∙◌}
use Rattle.std.proofs.lemmas.Bool.Decides.{eqb_tells}
use Rattle.std.proofs.lemmas.Option.{none-some, same_Some}
use Rattle.std.specs.Global.{Vec}
use Rattle.std.specs.Option.{ForSome}
use Rattle.recovery_base.specs.declared.below.SpaceId.{SpaceId}
use Rattle.recovery_spaces.specs.Discarded.{is_discarded}
use Rattle.recovery_spaces.specs.Packets.{Packet, Packets, packet_at}
use Rattle.recovery_losses.specs.declared.looks.LossPass.{LossPass}
use Rattle.recovery_losses.specs.Losses.{IsBelow, IsDueAt, IsLost, IsLostBelow, IsOneOf, IsDeclaredLost, lost_at}
use Rattle.recovery_losses.specs.declared.frames.Ack.{Ack}
use Rattle.recovery_losses.specs.Frames.{received_at}
use Rattle.recovery_sender.specs.declared.sender.acks.Acknowledged.{Acknowledged}
use Rattle.recovery_sender.specs.declared.sender.acks.NewlyAcked.{NewlyAcked}
use Rattle.recovery_sender.specs.declared.sender.losses.Losses.{Losses}
use Rattle.recovery_sender.specs.declared.sender.Sender.{Sender}
use Rattle.recovery_sender.specs.Acking.{IsAckAcceptable, ProcessesAck, ProcessesNewlyAcked}
use Rattle.recovery_sender.specs.declared.sender.ends.Retransmitted.{Retransmitted}
use Rattle.recovery_sender.specs.Acks.{AreNewlyAcked}
use Rattle.recovery_sender.specs.Attempts.{LossAttempt, probe_attempts}
use Rattle.recovery_sender.specs.RetransmitAll.{TriesAllTracked}
use Rattle.recovery_sender.proofs.AttemptLaws.{all_declared, cut_first, declared_or_cut, declared_tried, probe_cut}
use Rattle.recovery_sender.specs.Detection.{PassResult}
use Rattle.recovery_sender.specs.Promises.Acked.{AcksTracked, LosesWholeSpace}
use Rattle.recovery_sender.specs.Promises.Lost.{IsLostBy, IsWaitingBy, LosesTracked, sent_at}
use Rattle.recovery_sender.specs.Promises.Pasts.{ForEveryPast}
use Rattle.recovery_sender.specs.Promises.RttSampled.{SamplesByPast}
use Rattle.recovery_sender.specs.Senders.{state_in}
use Rattle.recovery_sender.specs.Spaces.{packets_in}
use Rattle.recovery_sender.proofs.PastLaws.{sent_by_past, tracked_by}
use Rattle.recovery_sender.proofs.RttLaws.{sampled_by_past}
use Rattle.rand_core.specs.Stream.{Stream}
use Rattle.recovery_history.specs.declared.config.RecoveryConfig.{RecoveryConfig}
use Rattle.recovery_history.specs.History.{History, begins, queue_model}
use Rattle.recovery_history.specs.Reachability.{ReachedBy}

-- ---- whether a number is in a list

pub some_left : (numbers : Vec ℕ) → false ≡ (numbers.len == 0) → numbers.items ≡ [] → ⊥
some_left numbers some none = elim (eqb_tells numbers.len 0) [
  | inl same ↦ true≢false (sym (some ∙ same.0))
  | inr apart ↦ apart.1 (numbers.ok.0 ∙ ap (λ (items : List ℕ). length items) none)
]

no_items : (items : List ℕ) → length items ≡ 0 → items ≡ []
no_items [] none = refl
no_items (item ∷ items) none = absurd cc

pub none_left : (numbers : Vec ℕ) → true ≡ (numbers.len == 0) → numbers.items ≡ []
none_left numbers none = elim (eqb_tells numbers.len 0) [
  | inl same ↦ no_items numbers.items (sym numbers.ok.0 ∙ same.1)
  | inr apart ↦ absurd (true≢false (none ∙ apart.0))
]

some_none : (number : ℕ) (numbers : List ℕ) → number ∷ numbers ≡ [] → ⊥
some_none number numbers is = absurd cc

-- ---- a frame in two steps

module _ {F Q R C K S M P : Type 0} {f : _} {c : _} {q : _} {m : _} {r : _} (space : SpaceId) (now : ℕ)
    (ranges : List (ℕ × ℕ)) (ack : Ack) (old new : Sender F Q R C K S M P f c q m r) where
  -- the result of `newly_acked`
  pub takes_ack : (newly : NewlyAcked) (acked : Acknowledged) → IsAckAcceptable space ranges old newly
      → ProcessesNewlyAcked space now ranges ack old new newly acked → ProcessesAck space now ranges ack old new acked
  takes_ack newly acked may takes = record {
    whole = may.whole;
    sent = may.sent;
    allowed = may.allowed;
    elicits = newly.elicits;
    newly = rw takes.numbers may.newly;
    tracked = rw takes.numbers may.tracked;
    sampled = λ config start random past came. by config start random past came newly.numbers.items refl;
    none = λ none. takes.none (sym takes.numbers ∙ none);
    some = λ some. takes.some (λ none. some (takes.numbers ∙ none));
  }
    where
      by : (config : RecoveryConfig F) (start : ℕ) (random : Stream) (past : History Q S M P)
          → ReachedBy (begins f.built c.words (queue_model q.contents q.words q.blank) config start random) past
          (state_in old) → (numbers : List ℕ) → newly.numbers.items ≡ numbers
          → SamplesByPast space (received_at ack now) ranges acked.numbers.items acked.rtt past
      by config start random past came [] none =
          rw (takes.none none).rtt tt
      by config start random past came (number ∷ numbers) some =
          rw (takes.numbers, (takes.some (λ none. absurd (some_none number numbers (sym some ∙ none)))).rtt)
          (sampled_by_past old config start random past came space may.whole.0 (received_at ack now) ranges may.whole.1
          newly.numbers.items newly.elicits may.newly)

one_or_not : (number : ℕ) (numbers : List ℕ) → IsOneOf number numbers ⊎ (IsOneOf number numbers → ⊥)
one_or_not number [] = inr (λ never. never)
one_or_not number (first ∷ numbers) = elim (eqb_tells first number) [
  | inl same ↦ inl (inl same.1)
  | inr apart ↦ elim (one_or_not number numbers) [
    | inl there ↦ inl (inr there)
    | inr other ↦ inr (neither apart.1 other)
  ]
]
  where
    neither : (first ≡ number → ⊥) → (IsOneOf number numbers → ⊥) → IsOneOf number (first ∷ numbers) → ⊥
    neither apart other (inl same) = apart same
    neither apart other (inr there) = other there

probed_or_not : (number : ℕ) (probe : Option ℕ) → (probe ≡ Some number) ⊎ (probe ≡ Some number → ⊥)
probed_or_not number None = inr (none-some number)
probed_or_not number (Some probe) = elim (eqb_tells probe number) [
  | inl same ↦ inl (ap (λ n. Some n) same.1)
  | inr apart ↦ inr (λ is. apart.1 (same_Some probe number is))
]

told_or_not : (numbers : List ℕ) (probe : Option ℕ) (number : ℕ) → IsDeclaredLost numbers probe number
    ⊎ (IsDeclaredLost numbers probe number → ⊥)
told_or_not numbers probe number = elim (one_or_not number numbers) [
  | inl there ↦ inl (inl there)
  | inr other ↦ elim (probed_or_not number probe) [
    | inl probed ↦ inl (inr probed)
    | inr apart ↦ inr (neither other apart)
  ]
]
  where
    neither : (IsOneOf number numbers → ⊥) → (probe ≡ Some number → ⊥) → IsDeclaredLost numbers probe number → ⊥
    neither other apart (inl there) = other there
    neither other apart (inr probed) = apart probed

found_or_not : {P M : Type 0} (packets : Packets P M) (number : ℕ) → packet_at packets number ≢ None
    → (packet : Packet P M) × (packet_at packets number ≡ Some packet)
found_or_not {P} {M} packets number other = by (packet_at packets number) refl
  where
    by : (found : Option (Packet P M)) → packet_at packets number ≡ found
        → (packet : Packet P M) × (packet_at packets number ≡ Some packet)
    by None none = absurd (other none)
    by (Some packet) is = (packet, is)

-- ---- by each past

module _ {F Q R C K S M P : Type 0} {f : _} {c : _} {q : _} {m : _} {r : _} (space : SpaceId)
    (sender : Sender F Q R C K S M P f c q m r) (kept : is_discarded space (state_in sender).discarded ≡ false) where
  -- what a frame newly acknowledges
  pub acks_tracked : (ranges : List (ℕ × ℕ)) (numbers : List ℕ) (elicits : Bool)
      → AreNewlyAcked (packets_in (state_in sender) space) ranges 0 numbers elicits
      → ForEveryPast sender (AcksTracked space ranges numbers)
  acks_tracked ranges numbers elicits newly config start random past came number =
      let tracked = tracked_by sender config start random past came space kept number in (
        (λ there. (let named = (newly.each number).0 there in (named.0, tracked.0 named.1))),
        λ named. (newly.each number).1 (named.0, tracked.1 named.1),
      )

  -- the packets of a space that are declared lost together
  pub loses_all : (all : Retransmitted) (new : Sender F Q R C K S M P f c q m r)
      → TriesAllTracked space sender all.numbers.items all.is_cut new → ForEveryPast sender (LosesWholeSpace space all)
  loses_all all new tries config start random past came number =
      let tracked = tracked_by sender config start random past came space kept number in (
        (λ there. tracked.0 ((tries.each number).0 (declared_tried tries.attempts number
            (subst (IsOneOf number) tries.declared there)))),
        λ whole is. subst (IsOneOf number) (all_declared tries.attempts (sym tries.cut ∙ whole) ∙ sym tries.declared)
            ((tries.each number).1 (tracked.1 is)),
      )

  -- what the state says is lost is so by each past
  pub lost_by_past : (look : LossPass) → look.space ≡ space → ForEveryPast sender (λ past.
      (number : ℕ) → IsLostBelow look (packets_in (state_in sender) space) number → IsLostBy look past number)
  lost_by_past look here config start random past came number lost = rw here (
    (tracked_by sender config start random past came space kept number).0
        (λ none. none-some lost.0 (sym none ∙ lost.1.0)),
    lost.1.1,
    subst (λ sent. IsLost look number sent)
        (sent_by_past sender config start random past came space kept number lost.0 lost.1.0) lost.2,
  )

  -- the packets that a pass finds lost
  pub loses_tracked : (look : LossPass) (attempts : List LossAttempt) (losses : Losses) (time : Option ℕ)
      → look.space ≡ space → PassResult look (packets_in (state_in sender) space) attempts losses time
      → ForEveryPast sender (LosesTracked look losses time)
  loses_tracked look attempts losses time here are config start random past came = record {
    told = told;
    all = all;
    next = next;
    earliest = earliest;
  }
    where
      lost_by : (number : ℕ) → IsLostBelow look (packets_in (state_in sender) space) number → IsLostBy look past number
      lost_by = lost_by_past look here config start random past came

      told : (number : ℕ) → IsDeclaredLost losses.numbers.items losses.probe number → IsLostBy look past number
      told number (inl there) = lost_by number (are.lost.lost number there).0
      told number (inr probed) = lost_by number (are.is_found number (are.probe number probed)).1

      -- what is lost and not declared so was cut
      cut_by : (number : ℕ) → IsLostBelow look (packets_in (state_in sender) space) number
          → (IsDeclaredLost losses.numbers.items losses.probe number → ⊥) → losses.is_cut ≡ true
      cut_by number lost untold = are.cut ∙ elim (are.tries.each number lost lost.1.1) [
        | inl there ↦ cut_first attempts (probe_attempts are.found losses.probe) (declared_or_cut attempts number there
            (λ named. untold (inl (subst (IsOneOf number) (sym are.declared) named))))
        | inr found ↦ probe_cut attempts are.found losses.probe number found (λ named. untold (inr named)) are.probe
      ]

      all : (number : ℕ) → IsLostBy look past number → IsDeclaredLost losses.numbers.items losses.probe number
          ⊎ (losses.is_cut ≡ true) × (due : ℕ) × (time ≡ Some due) × (due ≤ look.at)
      all number (tracked, below, lost) = elim (told_or_not losses.numbers.items losses.probe number) [
        | inl is ↦ inl is
        | inr untold ↦ (
            let found = found_or_not (packets_in (state_in sender) space) number
            ((tracked_by sender config start random past came space kept number).1 (rw here at tracked)) in
            let sent = sent_by_past sender config start random past came space kept number found.0 found.1 in
            let is_lost : IsLost look number found.0.time_sent =
            subst (λ sent. IsLost look number sent) (sym sent) (rw here at lost) in
            let due = are.earliest.least number found.0 look.at (found.1, below) below untold (inr (is_lost, refl)) in
            inr (cut_by number (found.0, (found.1, below), is_lost) untold, due.0, due.1, due.2)
            )
      ]

      -- when a tracked packet was sent
      sent_so : (number : ℕ) (packet : Packet P M)
          → packet_at (packets_in (state_in sender) space) number ≡ Some packet
          → packet.time_sent ≡ sent_at look.space past number
      sent_so number packet is =
          rw here (sent_by_past sender config start random past came space kept number packet is)

      next : ForSome time (λ due. (losses.is_cut ≡ true) × (due ≡ look.at)
          ⊎ (number : ℕ) × IsWaitingBy look past number × (due ≡ lost_at look (sent_at look.space past number)))
      next due is = by (are.earliest.one due is)
        where
          by : ((number : ℕ) × (packet : Packet P M) × IsBelow look (packets_in (state_in sender) space) number packet
              × (number < look.largest) × (IsDeclaredLost losses.numbers.items losses.probe number → ⊥)
              × IsDueAt look number packet.time_sent due)
              → (losses.is_cut ≡ true) × (due ≡ look.at) ⊎ (number : ℕ) × IsWaitingBy look past number
              × (due ≡ lost_at look (sent_at look.space past number))
          by (number, packet, below, small, untold, inl (kept_now, at)) =
              let sent = sent_so number packet below.0 in
              let tracked = (tracked_by sender config start random past came space kept number).0
              (λ none. none-some packet (sym none ∙ below.0)) in
              inr (number, (rw here tracked, below.1, rw sent at kept_now), rw sent at at)
          by (number, packet, below, small, untold, inr (lost, at)) =
              inl (cut_by number (packet, below, lost) untold, at)

      earliest : (number : ℕ) → IsWaitingBy look past number
          → (due : ℕ) × (time ≡ Some due) × (due ≤ lost_at look (sent_at look.space past number))
      earliest number (tracked, below, waits) =
          let found = found_or_not (packets_in (state_in sender) space) number
          ((tracked_by sender config start random past came space kept number).1 (rw here at tracked)) in
          let sent = sent_so number found.0 found.1 in
          are.earliest.least number found.0 (lost_at look (sent_at look.space past number)) (found.1, below) below
          (λ named. waits (told number named).2) (inl (rw sent waits, rw sent refl))
