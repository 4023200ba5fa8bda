-- An ACK frame gives an RTT sample exactly if it newly acknowledges its largest number and an ack-eliciting packet.
-- This holds if no path but the first was made.
use Rattle.std.proofs.Common.{◌≡◌, ◌≢◌, ℕ, ◌-◌, ◌==◌, ◌&&◌, ◌||◌, inl, inr, nat_eq, Bool, true, false, true≢false, cond, List, [], ◌∷◌, Option, None, Some, Ok, refl, sym, ap, ◌∙◌, arith}
use Rattle.std.specs.Prelude.{option_map, if◌then◌else◌}
use Rattle.std.specs.List.{list_any}
use Rattle.std.specs.Option.{option_and_then}
use Rattle.std.specs.Set.{is_member}
use Rattle.std.proofs.lemmas.Bool.Decides.{nat_tests, same_from_decides}
use Rattle.std.proofs.lemmas.Option.{none-some}
use Rattle.rand_core.specs.Stream.{Stream}
use Rattle.recovery_base.specs.declared.below.SpaceId.{SpaceId}
use Rattle.recovery_base.specs.declared.below.SpaceId.TheVariants.{Data}
use Rattle.recovery_base.specs.Spaces.{same_space}
use Rattle.recovery_events.specs.declared.event.Answer.TheVariants as answers
use Rattle.recovery_events.specs.declared.event.Answer.TheVariants.{Probe}
use Rattle.recovery_events.specs.declared.event.Event.{Event}
use Rattle.recovery_events.specs.declared.event.Event.TheVariants.{DropPrevious, NewPath, PollMtu, RevertPath, Send}
use Rattle.recovery_paths.specs.PathLog.{PerPath, reverted}
use Rattle.recovery_paths.specs.declared.path_pair.PathName.TheVariants.{Current}
use Rattle.recovery_spaces.specs.Discarded.{is_discarded}
use Rattle.recovery_spaces.specs.Packets.{Packet, packet_at}
use Rattle.recovery_losses.specs.Frames.{are_ranges, largest_of, received_at}
use Rattle.recovery_losses.specs.Losses.{IsOneOf}
use Rattle.recovery_losses.specs.declared.frames.Ack.{Ack}
use Rattle.recovery_history.specs.declared.config.RecoveryConfig.{RecoveryConfig}
use Rattle.recovery_history.specs.History.{AtEach, Beginning, History, Reply, begins, queue_model}
use Rattle.recovery_history.specs.Promises.Paths.{generations, paths_made}
use Rattle.recovery_history.specs.Promises.Tracked.{goes_out}
use Rattle.recovery_history.specs.Reachability.{ReachedBy}
use Rattle.recovery_history.specs.RepliesAfter.{RepliesAfter, inputs_after}
use Rattle.recovery_history.proofs.FieldLaws.{IsSaid, said_found, said_then, said_told}
use Rattle.recovery_history.proofs.PathLaws.{generation_told}
use Rattle.recovery_history.proofs.Runs.{kept_after}
use Rattle.recovery_history.proofs.TrackedLaws.{sent_in}
use Rattle.recovery_sender.specs.Acking.{AckResult, rtt_of, sent_here, sent_on}
use Rattle.recovery_sender.specs.Acks.{AreNewlyAcked, HasAckEliciting}
use Rattle.recovery_sender.specs.Promises.Lost.{elicits_by, sent_at}
use Rattle.recovery_sender.specs.Senders.{state_in}
use Rattle.recovery_sender.specs.Spaces.{packets_in}
use Rattle.recovery_sender.specs.declared.sender.Sender.{Sender}
use Rattle.recovery_sender.specs.declared.sender.acks.Acknowledged.{Acknowledged}
use Rattle.recovery_sender.proofs.PastLaws.{elicits_by_past, packets_by, sent_by_past}
use Rattle.recovery_sender.proofs.SampleLaws.{current_is}
use Rattle.recovery_pair.specs.declared.steps.AckOutcome.TheVariants.{Taken}
use Rattle.recovery_pair.specs.Pasts.{SampledBy}
use Rattle.recovery_pair.specs.Promises.RttSamples.{sample_of}
use Rattle.recovery_pair.proofs.QuietLaws.{one_of_member}
use Rattle.recovery_pair.proofs.RisingLaws.{largest_in_frame, member_one}

-- ---- the path on which a packet was sent

module _ {Q S M P : Type 0} where
  -- the path in use when the packet of a number was sent
  abbrev path_at : SpaceId → History Q S M P → ℕ → ℕ
  path_at space [] n = 0
  path_at space (happened ∷ earlier) n =
      if goes_out happened space n then (generations earlier).current else path_at space earlier n

  none_before : (happened : Event Q S M P × Reply Q) (earlier : History Q S M P)
      → paths_made (happened ∷ earlier) ≡ 0 → paths_made earlier ≡ 0
  none_before (NewPath now remote is_fresh, Ok answer) earlier none = absurd (omega (arith, none))
  none_before happened earlier none = none

  -- there is only the first path
  one_path : (past : History Q S M P) → paths_made past ≡ 0
      → generations past ≡ (record { current = 0; previous = None; made = 0 })
  one_path [] none = refl
  one_path ((NewPath now remote is_fresh, Ok answer) ∷ earlier) none = absurd (omega (arith, none))
  one_path ((DropPrevious, Ok answer) ∷ earlier) none =
      ap (λ (paths : PerPath ℕ). record paths { previous = None }) (one_path earlier none)
  one_path ((RevertPath, Ok answer) ∷ earlier) none =
      ap (λ (paths : PerPath ℕ). reverted (λ (n : ℕ). n) paths) (one_path earlier none)
  one_path (happened ∷ earlier) none = one_path earlier none

  first_path : (space : SpaceId) (past : History Q S M P) (n : ℕ) → paths_made past ≡ 0
      → path_at space past n ≡ 0
  first_path space [] n none = refl
  first_path space (happened ∷ earlier) n none =
      let before = none_before happened earlier none in
      by (goes_out happened space n) (ap (λ (paths : PerPath ℕ). paths.current) (one_path earlier before))
      (first_path space earlier n before)
    where
      by : (test : Bool) {one other : ℕ} → one ≡ 0 → other ≡ 0 → (if test then one else other) ≡ 0
      by true first second = first
      by false first second = second

-- ---- a tracked packet has it

module _ {F K Q S M P : Type 0} (beginning : Beginning F K Q S M P) (space : SpaceId) where
  abbrev path_of : Packet P M → ℕ
  path_of packet = packet.path_generation

  abbrev Said : History Q S M P → Type 0
  Said history = IsSaid path_of (path_at space history) (sent_in beginning history space)

  said_behind : (history : History Q S M P) (event : Event Q S M P) (reply : Reply Q)
      → RepliesAfter beginning history event reply → Said history → Said ((event, reply) ∷ history)
  said_behind history event reply told said =
      said_told beginning space path_of (λ contents packet. refl) history (path_at space history) said event reply
      (path_at space ((event, reply) ∷ history)) told (same event reply)
    where
      in_use : (inputs_after beginning history).paths.current.generation ≡ (generations history).current
      in_use = let told = generation_told beginning history Current in cc

      same : (event : Event Q S M P) (reply : Reply Q) (n : ℕ)
          → said_then beginning space path_of (λ contents packet. refl) history (path_at space history) said event
          reply n ≡ path_at space ((event, reply) ∷ history) n
      same (Send there now size eliciting largest queue frames) (Ok (answers.Sent number forgotten)) n =
          ap (λ (g : ℕ). cond (same_space there space && number == n) g (path_at space history n)) in_use
      same (PollMtu now) (Ok (Probe number size)) n =
          ap (λ (g : ℕ). cond (same_space Data space && number == n) g (path_at space history n)) in_use
      same event reply n = refl

  all_paths : (history : History Q S M P) → AtEach (RepliesAfter beginning) history → Said history
  all_paths = kept_after (RepliesAfter beginning) Said said_behind tt

-- ---- by the state

chosen : {T : Type 0} (test : Bool) (one other : T) → test ≡ true → (if test then one else other) ≡ one
chosen true one other is = refl
chosen false one other is = absurd (true≢false (sym is))

none_of : (numbers : List ℕ) (n : ℕ) → (IsOneOf n numbers → ⊥) → is_member nat_eq numbers n ≡ false
none_of numbers n none = by (is_member nat_eq numbers n) refl
  where
    by : (test : Bool) → is_member nat_eq numbers n ≡ test → test ≡ false
    by true is = absurd (none (member_one n numbers is))
    by false is = refl

either_none : (elicits : Bool) → ◌≡◌ {A = Option ℕ} (if elicits then None else None) None
either_none true = refl
either_none false = refl

no_sample : (sent : ℕ → ℕ) (elicits : ℕ → Bool) (now : ℕ) (numbers : List ℕ) (l : ℕ)
    → is_member nat_eq numbers l ≡ false → sample_of sent elicits now numbers (Some l) ≡ None
no_sample sent elicits now numbers l none = rw none refl

none_newly : (sent : ℕ → ℕ) (elicits : ℕ → Bool) (now : ℕ) (largest : Option ℕ)
    → sample_of sent elicits now [] largest ≡ None
none_newly sent elicits now None = refl
none_newly sent elicits now (Some l) = refl

module _ {F Q R C K S M P : Type 0} {f : _} {c : _} {q : _} {m : _} {r : _} (sender : Sender F Q R C K S M P f c q m r)
    (config : RecoveryConfig F) (start : ℕ) (random : Stream) (past : History Q S M P)
    (came : ReachedBy (begins f.built c.words (queue_model q.contents q.words q.blank) config start random) past
    (state_in sender)) (space : SpaceId) (kept : is_discarded space (state_in sender).discarded ≡ false)
    (none : paths_made past ≡ 0) where
  abbrev origin : Beginning F K Q S M P
  origin = begins f.built c.words (queue_model q.contents q.words q.blank) config start random

  -- a tracked packet was sent on the path in use
  on_path : (n : ℕ) (packet : Packet P M) → packet_at (packets_in (state_in sender) space) n ≡ Some packet
      → packet.path_generation ≡ (state_in sender).paths.current.ledger.generation
  on_path n packet is =
      said_found (λ (packet : Packet P M). packet.path_generation) (path_at space past)
      (sent_in origin past space).next (sent_in origin past space).tracked
      (all_paths origin space past came.replies) n packet
      (rw (packets_by sender config start random past came space kept) at is)
      ∙ first_path space past n none
      ∙ sym (current_is origin past (state_in sender) came
      ∙ ap (λ (paths : PerPath ℕ). paths.current) (one_path past none))

  sent_there : (n : ℕ) (packet : Packet P M) → packet_at (packets_in (state_in sender) space) n ≡ Some packet
      → sent_on (state_in sender) space n ≡ Some (sent_at space past n)
  sent_there n packet is =
      let here = on_path n packet is in
      ap (λ (found : Option (Packet P M)). sent_here (state_in sender) found) is
      ∙ chosen (packet.path_generation == (state_in sender).paths.current.ledger.generation) (Some packet.time_sent)
      None (grind (arith, nat_tests, here))
      ∙ ap (λ (at : ℕ). Some at) (sent_by_past sender config start random past came space kept n packet is)

  -- ---- whether one of them is ack-eliciting

  any_elicits : (numbers : List ℕ) → HasAckEliciting (packets_in (state_in sender) space) numbers
      → list_any (elicits_by space past) numbers ≡ true
  any_elicits [] has = absurd has
  any_elicits (n ∷ numbers) (inl here) =
      let is = sym (elicits_by_past sender config start random past came space kept n here.0 here.1) ∙ here.2 in
      rw is refl
  any_elicits (n ∷ numbers) (inr more) = let rest = any_elicits numbers more in grind (arith, rest)

  some_elicits : (numbers : List ℕ)
      → ((n : ℕ) → IsOneOf n numbers → packet_at (packets_in (state_in sender) space) n ≢ None)
      → list_any (elicits_by space past) numbers ≡ true → HasAckEliciting (packets_in (state_in sender) space) numbers
  some_elicits [] each is = absurd (true≢false (sym is))
  some_elicits (n ∷ numbers) each is = by (elicits_by space past n) refl
      (some_elicits numbers (λ k one. each k (inr one))) is
    where
      here : (found : Option (Packet P M)) → packet_at (packets_in (state_in sender) space) n ≡ found
          → elicits_by space past n ≡ true → HasAckEliciting (packets_in (state_in sender) space) (n ∷ numbers)
      here None found elicits = absurd (each n (inl refl) found)
      here (Some packet) found elicits = inl (
        packet,
        found,
        elicits_by_past sender config start random past came space kept n packet found ∙ elicits,
      )

      by : (test : Bool) → elicits_by space past n ≡ test → (list_any (elicits_by space past) numbers ≡ true
          → HasAckEliciting (packets_in (state_in sender) space) numbers)
          → (test || list_any (elicits_by space past) numbers) ≡ true
          → HasAckEliciting (packets_in (state_in sender) space) (n ∷ numbers)
      by true elicits rest any = here (packet_at (packets_in (state_in sender) space) n) refl elicits
      by false other rest any = inr (rest any)

  module _ (now : ℕ) (ranges : List (ℕ × ℕ)) (fine : are_ranges ranges ≡ true) (numbers : List ℕ) (elicits : Bool)
      (newly : AreNewlyAcked (packets_in (state_in sender) space) ranges 0 numbers elicits) where
    elicits_is : elicits ≡ list_any (elicits_by space past) numbers
    elicits_is = same_from_decides elicits (list_any (elicits_by space past) numbers) newly.elicits
        (some_elicits numbers (λ n one. ((newly.each n).0 one).1), any_elicits numbers)

    abbrev Sampled : Option ℕ → Type 0
    Sampled rtt = rtt ≡ sample_of (sent_at space past) (elicits_by space past) now numbers (largest_of ranges)

    -- the packet of the largest number
    by_packet : (l : ℕ) (found : Option (Packet P M))
        → largest_of ranges ≡ Some l → packet_at (packets_in (state_in sender) space) l ≡ found
        → (if elicits then option_map (λ sent. now - sent) (sent_on (state_in sender) space l) else None)
        ≡ sample_of (sent_at space past) (elicits_by space past) now numbers (Some l)
    by_packet l None is found =
        rw (ap (λ (one : Option (Packet P M)). sent_here (state_in sender) one) found) (either_none elicits)
        ∙ sym (no_sample (sent_at space past) (elicits_by space past) now numbers l
        (none_of numbers l (λ one. ((newly.each l).0 one).1 found)))
    by_packet l (Some packet) is found =
        let tracked = λ (none : packet_at (packets_in (state_in sender) space) l ≡ None).
        none-some packet (sym none ∙ found) in
        let member = one_of_member l numbers ((newly.each l).1 (largest_in_frame ranges fine l is, tracked)) in
        rw (sent_there l packet found, member, ← elicits_is) refl

    by_frame : (frame : Option ℕ) → largest_of ranges ≡ frame
        → (if elicits then option_map (λ sent. now - sent)
        (option_and_then (λ largest. sent_on (state_in sender) space largest) frame) else None)
        ≡ sample_of (sent_at space past) (elicits_by space past) now numbers frame
    by_frame None is = either_none elicits
    by_frame (Some l) is = by_packet l (packet_at (packets_in (state_in sender) space) l) is refl

    pub rtt_is : Sampled (rtt_of (state_in sender) space now ranges elicits)
    rtt_is = by_frame (largest_of ranges) refl

-- ---- an ACK frame

pub taken_sampled : {F Q R C K S M P : Type 0} {f : _} {c : _} {q : _} {m : _} {r : _} (space : SpaceId) (now : ℕ)
    (ranges : List (ℕ × ℕ)) (ack : Ack) (old new : Sender F Q R C K S M P f c q m r) (acked : Acknowledged)
    → AckResult space now ranges ack old new (Ok acked) → SampledBy space (received_at ack now) ranges old (Taken acked)
taken_sampled space now ranges ack old new acked is config start random past came none = by acked.numbers.items refl
  where
    by : (numbers : List ℕ) → acked.numbers.items ≡ numbers
        → acked.rtt ≡ sample_of (sent_at space past) (elicits_by space past) (received_at ack now) acked.numbers.items
        (largest_of ranges)
    by [] empty = (is.none empty).rtt
        ∙ sym (rw empty (none_newly (sent_at space past) (elicits_by space past) (received_at ack now)
        (largest_of ranges)))
    by (number ∷ numbers) some = (is.some (λ empty. absurd cc)).rtt
        ∙ rtt_is old config start random past came space is.whole.0 none (received_at ack now) ranges is.whole.1
        acked.numbers.items
        is.elicits is.newly
