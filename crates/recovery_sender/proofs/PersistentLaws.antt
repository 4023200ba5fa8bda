-- Persistent congestion has cause, by the events: what the state says of the packets that it is reported for.
use Rattle.std.proofs.Common.{◌≡◌, ◌⊎◌, ◌≤◌, ◌<◌, ℕ, ◌==◌, ◌&&◌, Bool, true, false, cond, List, ◌∷◌, Option, None, Some, Ok, inl, inr, refl, sym, ap, subst, ◌∙◌, arith}
use Rattle.std.proofs.lemmas.Bool.{and_parts, false≢true}
use Rattle.std.proofs.lemmas.Bool.Decides.{nat_tests}
use Rattle.std.proofs.lemmas.Option.{none-some}
use Rattle.std.specs.Prelude.{nat_lt, if◌then◌else◌}
use Rattle.rand_core.specs.Stream.{Stream}
use Rattle.recovery_base.specs.declared.below.SpaceId.{SpaceId}
use Rattle.recovery_base.specs.declared.below.SpaceId.TheVariants.{Data}
use Rattle.recovery_base.specs.Spaces.{same_space}
use Rattle.recovery_events.specs.declared.event.Answer.TheVariants as answers
use Rattle.recovery_events.specs.declared.event.Answer.TheVariants.{Probe}
use Rattle.recovery_events.specs.declared.event.Event.{Event}
use Rattle.recovery_events.specs.declared.event.Event.TheVariants.{Send, PollMtu}
use Rattle.recovery_paths.specs.declared.path_pair.PathName.TheVariants.{Current}
use Rattle.recovery_packet_numbers.specs.Skips.{IsGreatestBelow}
use Rattle.recovery_packet_numbers.proofs.SkipCountLaws.{skip_before_greatest}
use Rattle.recovery_spaces.specs.Discarded.{is_discarded}
use Rattle.recovery_spaces.specs.Packets.{Packet, packet_at}
use Rattle.recovery_losses.specs.declared.looks.FirstSample.TheVariants.{Missing}
use Rattle.recovery_losses.specs.declared.looks.LossPass.{LossPass}
use Rattle.recovery_losses.specs.Losses.{IsDeclaredLost, first_sample_in, is_after_sample}
use Rattle.recovery_losses.specs.PersistentCongestion.{IsEndAt, IsLostOrSkipped, IsPersistentCongestion}
use Rattle.recovery_history.specs.declared.config.RecoveryConfig.{RecoveryConfig}
use Rattle.recovery_history.specs.History.{AtEach, Beginning, History, Reply, begins, queue_model}
use Rattle.recovery_history.specs.Promises.Fates.{is_given, times}
use Rattle.recovery_history.specs.Promises.Paths.{generations}
use Rattle.recovery_history.specs.Reachability.{ReachedBy}
use Rattle.recovery_history.specs.ReplyInputs.{ReplyInputs}
use Rattle.recovery_history.specs.RepliesAfter.{RepliesAfter, inputs_after}
use Rattle.recovery_history.proofs.FieldLaws.{IsSaid, said_found, said_then, said_told}
use Rattle.recovery_history.proofs.PathLaws.{generation_told}
use Rattle.recovery_history.proofs.Runs.{kept_after}
use Rattle.recovery_history.proofs.SkippedLaws.{AllGiven, keeps_given, none_given}
use Rattle.recovery_history.proofs.StateAfterLaws.{known_same}
use Rattle.recovery_history.proofs.TrackedLaws.{one_space, sent_in}
use Rattle.recovery_sender.specs.declared.sender.losses.Losses.{Losses}
use Rattle.recovery_sender.specs.declared.sender.Sender.{Sender}
use Rattle.recovery_sender.specs.Attempts.{LossAttempt}
use Rattle.recovery_sender.specs.Detection.{PassResult}
use Rattle.recovery_sender.specs.Losses.{look_of}
use Rattle.recovery_sender.specs.Promises.Lost.{IsLostBy, sent_at}
use Rattle.recovery_sender.specs.Promises.Pasts.{ForEveryExplainedPast}
use Rattle.recovery_sender.specs.Promises.Persistent.{EndsPersistence, HasPersisted, PersistsByEvents}
use Rattle.recovery_sender.specs.Promises.Samples.{IsMarkOf, has_sample, is_sent_on, is_sent_sampled}
use Rattle.recovery_sender.specs.Senders.{state_in}
use Rattle.recovery_sender.specs.Spaces.{packets_in}
use Rattle.recovery_sender.proofs.PastLaws.{elicits_by_past, packets_by, sent_by_past}
use Rattle.recovery_sender.proofs.PromiseLaws.{lost_by_past}
use Rattle.recovery_sender.proofs.SampleLaws.{current_is}

-- ---- the path of a packet

module _ {F K Q S M P : Type 0} (beginning : Beginning F K Q S M P) (space : SpaceId) (path : ℕ) where
  abbrev on_path : Packet P M → Bool
  on_path packet = packet.path_generation == path

  abbrev Said : History Q S M P → Type 0
  Said history = IsSaid on_path (is_sent_on path space history) (sent_in beginning history space)

  said_behind : (history : History Q S M P) (event : Event Q S M P) (reply : Reply Q)
      → RepliesAfter beginning history event reply → Said history → Said ((event, reply) ∷ history)
  said_behind history event reply told said =
      said_told beginning space on_path (λ contents packet. refl) history (is_sent_on path space history) said
      event reply (is_sent_on path space ((event, reply) ∷ history)) told (same event reply)
    where
      in_use : (inputs_after beginning history).paths.current.generation ≡ (generations history).current
      in_use = let told = generation_told beginning history Current in cc

      same : (event : Event Q S M P) (reply : Reply Q) (n : ℕ)
          → said_then beginning space on_path (λ contents packet. refl) history (is_sent_on path space history) said
          event reply n
          ≡ is_sent_on path space ((event, reply) ∷ history) n
      same (Send there now size eliciting largest queue frames) (Ok (answers.Sent number forgotten)) n =
          ap (λ (g : ℕ). cond (same_space there space && number == n) (g == path) (is_sent_on path space history n))
          in_use
      same (PollMtu now) (Ok (Probe number size)) n =
          ap (λ (g : ℕ). cond (same_space Data space && number == n) (g == path) (is_sent_on path space history n))
          in_use
      same event reply n = refl

  all_on : (history : History Q S M P) → AtEach (RepliesAfter beginning) history → Said history
  all_on = kept_after (RepliesAfter beginning) Said said_behind tt

-- ---- by the state

module _ {F Q R C K S M P : Type 0} {f : _} {c : _} {q : _} {m : _} {r : _} (sender : Sender F Q R C K S M P f c q m r)
    (config : RecoveryConfig F) (start : ℕ) (random : Stream) (past : History Q S M P)
    (came : ReachedBy (begins f.built c.words (queue_model q.contents q.words q.blank) config start random) past
    (state_in sender)) (space : SpaceId) (kept : is_discarded space (state_in sender).discarded ≡ false) where
  abbrev beginning : Beginning F K Q S M P
  beginning = begins f.built c.words (queue_model q.contents q.words q.blank) config start random

  -- the path on which a tracked packet was sent
  on_by_past : (path number : ℕ) (packet : Packet P M)
      → packet_at (packets_in (state_in sender) space) number ≡ Some packet
      → (packet.path_generation == path) ≡ is_sent_on path space past number
  on_by_past path number packet is = said_found (λ (packet : Packet P M). packet.path_generation == path)
      (is_sent_on path space past) (sent_in beginning past space).next (sent_in beginning past space).tracked
      (all_on beginning space path past came.replies) number packet
      (rw (packets_by sender config start random past came space kept) at is)

  abbrev current_path : ℕ
  current_path = (state_in sender).paths.current.ledger.generation

  -- what a mark says of a packet that was sent on the path in use
  after_by : (first : Option (SpaceId × ℕ)) (due : Bool)
      → ((mark : SpaceId × ℕ) → first ≡ Some mark → IsMarkOf current_path past mark)
      → (number sent : ℕ) → is_sent_on current_path space past number ≡ true
      → is_after_sample (if due then first_sample_in first sender.variables.sampled space else Missing) number sent
      ≡ true
      → (is_sent_sampled current_path space past number ≡ true)
      ⊎ (has_sample current_path past ≡ true) × (sender.variables.sampled < sent)
  after_by first false explains number sent here after = absurd (false≢true after)
  after_by None true explains number sent here after = absurd (false≢true after)
  after_by (Some mark) true explains number sent here after = by (same_space mark.0 space) refl after
    where
      by : (test : Bool) → same_space mark.0 space ≡ test
          → is_after_sample (first_sample_in (Some mark) sender.variables.sampled space) number sent ≡ true
          → (is_sent_sampled current_path space past number ≡ true)
          ⊎ (has_sample current_path past ≡ true) × (sender.variables.sampled < sent)
      by true is after =
          let up : mark.1 ≤ number = grind (arith, nat_tests, rw is at after) in
          inl (subst (λ there. is_sent_on current_path there past number ≡ true
          → is_sent_sampled current_path there past number ≡ true) (one_space mark.0 space is)
          ((explains mark refl).after number up) here)
      by false is after =
          let later : sender.variables.sampled < sent = grind (arith, nat_tests, rw is at after) in
          inr ((explains mark refl).sampled, later)

  -- a number that was skipped was not sent
  skipped_given : (number : ℕ)
      → (if same_space space Data then (state_in sender).skipping.filter.last else None) ≡ Some number
      → times (is_given space number) past ≡ 0
  skipped_given number = by (same_space space Data) refl
    where
      in_data : (state_in sender).skipping.filter.last ≡ Some number → times (is_given Data number) past ≡ 0
      in_data last =
          let skips = config.skips in
          let next = (sent_in beginning past Data).next in
          let same = ap (λ (known : ReplyInputs K P M). known.skipped)
          (known_same beginning past (state_in sender) came.state_after) in
          let greatest = subst (IsGreatestBelow skips random next) (sym same ∙ last)
          (skip_before_greatest skips random next) in
          let all = kept_after (RepliesAfter beginning) (AllGiven beginning) (keeps_given beginning)
          (none_given beginning) past came.replies in
          (all Data number).left_out greatest.1

      by : (test : Bool) → same_space space Data ≡ test
          → (if test then (state_in sender).skipping.filter.last else None) ≡ Some number
          → times (is_given space number) past ≡ 0
      by true is last = subst (λ there. times (is_given there number) past ≡ 0) (sym (one_space space Data is))
          (in_data last)
      by false is never = absurd (none-some number never)

-- ---- a pass

module _ {F Q R C K S M P : Type 0} {f : _} {c : _} {q : _} {m : _} {r : _} (space : SpaceId) (now : ℕ) (due : Bool)
    (sender : Sender F Q R C K S M P f c q m r) (kept : is_discarded space (state_in sender).discarded ≡ false)
    (largest : ℕ) (attempts : List LossAttempt) (losses : Losses) (time : Option ℕ) where
  abbrev look : LossPass
  look = look_of (state_in sender) sender.variables space now due largest

  pub persists_by_events : PassResult look (packets_in (state_in sender) space) attempts losses time
      → ForEveryExplainedPast sender (PersistsByEvents look losses sender.variables.sampled)
  persists_by_events are config start random past came explains persistent = has_persisted (are.persistent.0 persistent)
    where
      path_is : (state_in sender).paths.current.ledger.generation ≡ (generations past).current
      path_is = current_is (beginning sender config start random past came space kept) past (state_in sender) came

      sent_so : (number sent : ℕ) → IsEndAt look (packets_in (state_in sender) space) losses.numbers.items number sent
          → sent ≡ sent_at space past number
      sent_so number sent end = sym end.sent_then
          ∙ sent_by_past sender config start random past came space kept number end.packet end.is

      ends_by : (number sent : ℕ) → IsEndAt look (packets_in (state_in sender) space) losses.numbers.items number sent
          → EndsPersistence look losses sender.variables.sampled past number
      ends_by number sent end =
          let counts = and_parts (nat_lt 0 end.packet.size) (end.packet.path_generation == look.generation)
          end.counts in
          let ends = and_parts end.packet.ack_eliciting (is_after_sample look.first_sample number end.packet.time_sent)
          end.ends in
          let same : end.packet.path_generation ≡ (state_in sender).paths.current.ledger.generation =
          grind (arith, nat_tests, counts.1) in
          let on : is_sent_on (state_in sender).paths.current.ledger.generation space past number ≡ true =
          sym (on_by_past sender config start random past came space kept _ number end.packet end.is)
          ∙ grind (arith, nat_tests, same) in
          let after = after_by sender config start random past came space kept
          (state_in sender).paths.current.marks.first_after_sample due explains.0 number end.packet.time_sent on
          ends.1 in
          record {
            lost = end.told;
            elicits = sym (elicits_by_past sender config start random past came space kept number end.packet end.is)
                ∙ ends.0;
            here = rw (← path_is) on;
            sampled_before = rw (
              ← path_is,
              ← sent_by_past sender config start random past came space kept number
                  end.packet end.is,
            ) after;
          }

      between_by : (found : Option ℕ) → found ≡ are.found → (number : ℕ)
          → IsLostOrSkipped (IsDeclaredLost losses.numbers.items found) look.skipped number
          → IsLostBy look past number ⊎ (times (is_given space number) past ≡ 0)
      between_by found is number (inl (inl there)) = inl (lost_by_past space sender kept look refl config start random
          past came number (are.lost.lost number there).0)
      between_by found is number (inl (inr probed)) = inl (lost_by_past space sender kept look refl config start random
          past came number (are.is_found number (sym is ∙ probed)).1)
      between_by found is number (inr skipped) =
          inr (skipped_given sender config start random past came space kept number skipped)

      has_persisted : IsPersistentCongestion (IsDeclaredLost losses.numbers.items are.found)
          (IsEndAt look (packets_in (state_in sender) space) losses.numbers.items) look.skipped look.period
          → HasPersisted look losses sender.variables.sampled past
      has_persisted run = record {
        first = run.first;
        last = run.last;
        rises = run.rises;
        begins = ends_by run.first run.first_sent run.begins;
        ends = ends_by run.last run.last_sent run.ends;
        between = λ number up down. between_by are.found refl number
            (run.between number (omega (arith, up)) (omega (arith, down)));
        long = rw (← sent_so run.first run.first_sent run.begins, ← sent_so run.last run.last_sent run.ends) run.long;
      }
