-- A pass proceeds by the outcome of the next packet.
use Rattle.std.proofs.Common.{◌≡◌, ℕ, ◌+◌, ◌≤◌, true, false, Bool, List, [], ◌∷◌, ◌++◌, length, inl, inr, refl, sym, ap, subst, ◌∙◌, arith, length-append}
use Rattle.std.specs.Prelude.{if◌then◌else◌}
use Rattle.std.proofs.lemmas.Option.{none-some}
use Rattle.recovery_spaces.specs.Packets.{Packets, without}
use Rattle.recovery_losses.specs.declared.looks.Candidate.{Candidate}
use Rattle.recovery_losses.specs.declared.looks.LossPass.{LossPass}
use Rattle.recovery_losses.specs.declared.tally.Tally.{Tally}
use Rattle.recovery_losses.specs.Losses.{IsNextLossCandidate, counting, cutting, finding_probe, is_counted, lost_at, waiting}
use Rattle.recovery_losses.specs.DetectionPass.{PassSoFar}
use Rattle.recovery_losses.proofs.DetectionPassLaws.{looked_waiting, looked_probe, looked_lost}
use Rattle.recovery_losses.proofs.RoomLaws.{count_between, count_next, count_without}
use Rattle.recovery_losses.proofs.TriesLaws.{looked_cut, tries_more, tries_probe, tries_waiting}
use Rattle.recovery_history.specs.History.{queue_model}
use Rattle.recovery_history.specs.RecoveryState.{RecoveryState}
use Rattle.recovery_sender.specs.declared.sender.Sender.{Sender}
use Rattle.recovery_sender.specs.Attempts.{tried_in, trying}
use Rattle.recovery_sender.specs.Detection.{HasScanned, ClassifiesPacket}
use Rattle.recovery_sender.specs.Senders.{state_in}
use Rattle.recovery_sender.specs.Spaces.{packets_in}
use Rattle.recovery_sender.specs.Steps.{StepsLeadTo, TakesSteps}
use Rattle.recovery_sender.proofs.AttemptLaws.{cut_more, declared_more, left_after, tried_more, trying_more}
use Rattle.recovery_sender.proofs.LeadLaws.{leads_on}

-- a packet that counts leaves the rest of the result unchanged
counting_probe : (look : LossPass) (next : Candidate) (tally : Tally) → (counting look next tally).probe ≡ tally.probe
counting_probe look next tally = by (is_counted look next.size next.path_generation) refl
  where
    by : (test : Bool) → is_counted look next.size next.path_generation ≡ test
        → (counting look next tally).probe ≡ tally.probe
    by true is = rw is refl
    by false is = rw is refl

counting_cut : (look : LossPass) (next : Candidate) (tally : Tally) → (counting look next tally).is_cut ≡ tally.is_cut
counting_cut look next tally = by (is_counted look next.size next.path_generation) refl
  where
    by : (test : Bool) → is_counted look next.size next.path_generation ≡ test
        → (counting look next tally).is_cut ≡ tally.is_cut
    by true is = rw is refl
    by false is = rw is refl

module _ {F Q R C K S M P : Type 0} {f : _} {c : _} {q : _} {m : _} {r : _} (look : LossPass)
    (start : Sender F Q R C K S M P f c q m r) (from : ℕ) (numbers : List ℕ) (tally : Tally)
    (now : Sender F Q R C K S M P f c q m r) (finds : HasScanned look start from numbers tally now) (next : Candidate)
    (is : IsNextLossCandidate look (packets_in (state_in now) look.space) from next) where
  abbrev tracked : RecoveryState K P M → Packets P M
  tracked recovery = packets_in recovery look.space

  still : (new : Sender F Q R C K S M P f c q m r) → TakesSteps [] now new
      → TakesSteps (trying look.space finds.attempts) start new
  still new goes = record {
    leads = subst (λ recovery. StepsLeadTo f.built c.words (queue_model q.contents q.words q.blank)
        (trying look.space finds.attempts) (state_in start) recovery) (sym goes.leads) finds.goes.leads;
    variables = goes.variables ∙ finds.goes.variables;
  }

  abbrev Looked : List ℕ → Tally → Packets P M → Type 0
  Looked numbers tally packets = PassSoFar look (tracked (state_in start)) (next.number + 1) numbers tally packets

  -- it was tried
  module _ (new : Sender F Q R C K S M P f c q m r) (refused : Bool)
      (tries : TakesSteps (trying look.space ((next.number, refused) ∷ [])) now new) where
    pub packets_left : tracked (state_in new)
        ≡ (if refused then tracked (state_in now) else without (tracked (state_in now)) next.number)
    packets_left = left_after look.space next.number now (λ none. none-some is.packet (sym none ∙ is.below.0)) new
        refused tries

    more_tries : TakesSteps (trying look.space (finds.attempts ++ (next.number, refused) ∷ [])) start new
    more_tries = record {
      leads = rw (trying_more {Q = Q} {S = S} {M = M} {P = P} look.space finds.attempts
          ((next.number, refused) ∷ [])) (leads_on f.built c.words (queue_model q.contents q.words q.blank)
          (trying look.space finds.attempts) _ _ _ _ finds.goes.leads tries.leads);
      variables = tries.variables ∙ finds.goes.variables;
    }

  pub finds_on : (new : Sender F Q R C K S M P f c q m r) (behind : List ℕ) (after : Tally)
      → ClassifiesPacket look next now numbers tally new behind after → HasScanned look start
      (next.number + 1) behind after new
  finds_on new behind after (inl waits) = rw (waits.numbers, waits.tally) (record {
    looked = subst (Looked numbers (waiting (lost_at look next.time_sent) tally)) (ap tracked (sym waits.goes.leads))
        (looked_waiting look (tracked (state_in start)) from numbers tally _ finds.looked next is
        (lost_at look next.time_sent) (inl (waits.kept, refl)));
    attempts = finds.attempts;
    tries = tries_waiting look (tracked (state_in start)) from numbers (tried_in finds.attempts) tally _ finds.looked
        finds.tries next is waits.kept;
    declared = finds.declared;
    cut = finds.cut;
    goes = still new waits.goes;
  })
  finds_on new behind after (inr (inl probe)) = rw (probe.numbers, probe.tally) (record {
    looked = subst (Looked numbers (finding_probe look next tally)) (ap tracked (sym probe.goes.leads))
        (looked_probe look (tracked (state_in start)) from numbers tally _ finds.looked next is probe.lost probe.probe);
    attempts = finds.attempts;
    tries = tries_probe look (tracked (state_in start)) from numbers (tried_in finds.attempts) tally _ finds.looked
        finds.tries next is probe.probe;
    declared = finds.declared;
    cut = finds.cut;
    goes = still new probe.goes;
  })
  finds_on new behind after (inr (inr (true, tried))) = rw (tried.numbers, tried.tally) (record {
    looked = subst (Looked numbers (cutting look tally)) (sym (packets_left new true tried.goes))
        (looked_cut look (tracked (state_in start)) (next.number + 1) numbers tally _
        (looked_waiting look (tracked (state_in start)) from numbers tally _ finds.looked next is look.at
        (inr (tried.lost, refl))));
    attempts = finds.attempts ++ (next.number, true) ∷ [];
    tries = rw (tried_more finds.attempts next.number true) (tries_more look (tracked (state_in start)) from numbers
        (tried_in finds.attempts) tally _ finds.looked finds.tries next is tried.lost tried.other);
    declared = finds.declared ∙ sym (declared_more finds.attempts next.number true);
    cut = sym (cut_more finds.attempts next.number true);
    goes = more_tries new true tried.goes;
  })
  finds_on new behind after (inr (inr (false, tried))) = rw (tried.numbers, tried.tally) (record {
    looked = subst (Looked (numbers ++ next.number ∷ []) (counting look next tally))
        (sym (packets_left new false tried.goes))
        (looked_lost look (tracked (state_in start)) from numbers tally _ finds.looked next is tried.lost tried.other);
    attempts = finds.attempts ++ (next.number, false) ∷ [];
    tries = rw (tried_more finds.attempts next.number false, counting_probe look next tally) (tries_more look
        (tracked (state_in start)) from numbers (tried_in finds.attempts) tally _ finds.looked finds.tries next is
        tried.lost tried.other);
    declared = ap (λ list. list ++ next.number ∷ []) finds.declared
        ∙ sym (declared_more finds.attempts next.number false);
    cut = counting_cut look next tally ∙ finds.cut ∙ sym (cut_more finds.attempts next.number false);
    goes = more_tries new false tried.goes;
  })

  pub one_fewer : count_between (next.number + 1) look.largest (tracked (state_in now)) + 1
      ≤ count_between from look.largest (tracked (state_in now))
  one_fewer = count_next from look.largest next.number (tracked (state_in now))
      (λ none. none-some is.packet (sym none ∙ is.below.0)) is.from_on is.below.1

  left_same : (new : Sender F Q R C K S M P f c q m r) → TakesSteps [] now new
      → count_between (next.number + 1) look.largest (tracked (state_in new))
      ≡ count_between (next.number + 1) look.largest (tracked (state_in now))
  left_same new goes = ap (λ recovery. count_between (next.number + 1) look.largest (tracked recovery)) goes.leads

  -- there is room for the others, as there was for it and them
  pub room_on : (new : Sender F Q R C K S M P f c q m r) (behind : List ℕ) (after : Tally) (capacity : ℕ)
      → ClassifiesPacket look next now numbers tally new behind after
      → length numbers + count_between from look.largest (tracked (state_in now)) ≤ capacity
      → length behind + count_between (next.number + 1) look.largest (tracked (state_in new)) ≤ capacity
  room_on new behind after capacity (inl waits) room =
      omega (arith, room, one_fewer, left_same new waits.goes, ap (λ (list : List ℕ). length list) waits.numbers)
  room_on new behind after capacity (inr (inl probe)) room =
      omega (arith, room, one_fewer, left_same new probe.goes, ap (λ (list : List ℕ). length list) probe.numbers)
  room_on new behind after capacity (inr (inr (true, tried))) room =
      omega (
        arith,
        room,
        one_fewer,
        ap (count_between (next.number + 1) look.largest) (packets_left new true tried.goes),
        ap (λ (list : List ℕ). length list) tried.numbers,
      )
  room_on new behind after capacity (inr (inr (false, tried))) room =
      omega (
        arith,
        room,
        one_fewer,
        ap (count_between (next.number + 1) look.largest) (packets_left new false tried.goes),
        ap (λ (list : List ℕ). length list) tried.numbers,
        length-append {A = ℕ} numbers (next.number ∷ []),
        count_without (next.number + 1) look.largest next.number (tracked (state_in now)),
      )
