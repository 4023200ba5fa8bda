-- By the table the pending ACKs are what the history says: new numbers, except those dropped since they were received.
-- The clause `to_acknowledge` of `run` rests on it.
use Rattle.std.proofs.lemmas.Bool.Decides.{nat_tests}
use Rattle.std.proofs.Common.{◌≡◌, ◌≤◌, ℕ, ◌==◌, ◌&&◌, Bool, true, false, cond, List, ◌∷◌, length, Option, None, Some, Ok, Err, ◌⊎◌, inl, inr, ◌↔◌, IsTrue, IsSomeAnd, refl, arith}
use Rattle.std.proofs.lemmas.Bool.{cases_lt}
use Rattle.recovery_acks.specs.Acks.{most_ranges}
use Rattle.recovery_acks.specs.Runs.{AtMost, EndsRun, IsInHighest, LiesBelow}
use Rattle.recovery_base.proofs.WindowLaws.{iff_trans}
use Rattle.recovery_acks.proofs.HighestRunLaws.{highest_alike}
use Rattle.recovery_base.specs.declared.below.SpaceId.{SpaceId}
use Rattle.recovery_base.specs.Numbers.{InsertNumber}
use Rattle.recovery_base.specs.Spaces.{same_space}
use Rattle.recovery_spaces.specs.Acks.{ToAcknowledge}
use Rattle.recovery_spaces.specs.Packets.{packet_at, is_above, largest_acked_by}
use Rattle.recovery_spaces.specs.SpaceLog.{SpaceEntry, heard, heard_again, acknowledged}
use Rattle.recovery_spaces.specs.Tracked.{sent_by}
use Rattle.recovery_queue.specs.Queues.{QueueSemantics}
use Rattle.recovery_events.specs.declared.event.Event.{Event}
use Rattle.recovery_events.specs.declared.event.Event.TheVariants.{Received, Acked}
use Rattle.recovery_events.specs.declared.event.Answer.TheVariants.{New}
use Rattle.recovery_history.specs.Table.{entries_of}
use Rattle.recovery_history.specs.RepliesAfter.{logs_of, inputs_after, RepliesAfter}
use Rattle.recovery_history.specs.History.{AtEach, Beginning, History, Reply, history}
use Rattle.recovery_history.specs.ReplyInputs.{ReplyInputs}
use Rattle.recovery_history.specs.Logs.{onto}
use Rattle.recovery_history.specs.Promises.Acknowledged.{WasReceived, TracksPendingAcks, WasDropped, largest_in}
use Rattle.recovery_history.proofs.CarriedLaws.{AllCarry, carries_largest, keeps_carried, none_carry}
use Rattle.recovery_history.proofs.Runs.{kept_after}
use Rattle.recovery_history.proofs.EntryKinds.{SpaceKind, hearing, acknowledging, space_kind, space_kept}

-- an upper bound on their count holds if its negation is refuted
many_or_few : (count : ℕ) (Ends : ℕ → Type 0) → ¬ (¬ AtMost count Ends) → AtMost count Ends
many_or_few count Ends none numbers up = elim (cases_lt count (length numbers)) [
  | inl many ↦ absurd (none (λ few. let h : length numbers ≤ count = few numbers up in omega (arith, many, h)))
  | inr few ↦ few
]

module _ {P M S : Type 0} (words : QueueSemantics P S) (log : List (SpaceEntry P M)) (Came Dropped : ℕ → Type 0)
    (kept : (n : ℕ) → ToAcknowledge words log n ↔ (Came n × ¬ Dropped n)) where
  abbrev Stands : ℕ → Type 0
  Stands n = Came n × ¬ Dropped n

  abbrev Pending : ℕ → Type 0
  Pending n = ToAcknowledge words log n

  -- with one more entry, if there is one
  abbrev IsAfter : Option (SpaceEntry P M) → ℕ → Type 0 → Type 0 → Type 0
  IsAfter entry n Comes Drops = ToAcknowledge words (onto entry log) n ↔ (Comes × ¬ Drops)

  stays : (b : Bool) (entry : SpaceEntry P M) (n : ℕ) → IsAfter (Some entry) n (Came n) (Dropped n)
      → IsAfter (cond b (Some entry) None) n (Came n) (Dropped n)
  stays b entry n first = grind (arith, first, kept n)

  -- ---- a new number, in this space or in another one

  abbrev Comes : Bool → ℕ → ℕ → Type 0
  Comes b m n = ((b && m == n) ≡ true) ⊎ Came n

  abbrev Drops : Bool → ℕ → ℕ → Type 0
  Drops b m n = ((b ≡ true) × LiesBelow most_ranges (InsertNumber m Stands) n) ⊎ (((b && m == n) ≡ false) × Dropped n)

  module _ (m n : ℕ) where
    stands : IsInHighest most_ranges (InsertNumber m Stands) n ↔ (Comes true m n × ¬ Drops true m n)
    stands = (
      λ high. (grind (arith, nat_tests, high.0), λ drops. grind (arith, nat_tests, high.0, high.1, drops)),
      λ both. (
        grind (arith, nat_tests, both.0, both.1),
        many_or_few most_ranges (λ end. (n ≤ end) × EndsRun (InsertNumber m Stands) end)
            (λ low. both.1 (inl (refl, low))),
      ),
    )

    alike : (k : ℕ) → InsertNumber m Pending k ↔ InsertNumber m Stands k
    alike k = grind (arith, kept k)

    arrives : (b : Bool) (now : ℕ) (eliciting : Bool)
        → IsAfter (cond b (Some (heard now m eliciting)) None) n (Comes b m n) (Drops b m n)
    arrives true now eliciting = iff_trans (highest_alike alike most_ranges n) stands
    arrives false now eliciting = grind (arith, kept n)

  -- ---- a tracked packet is acknowledged, which carried the ACK of the numbers up to a largest one

  abbrev Goes : Bool → Option ℕ → ℕ → Type 0
  Goes b largest n = ((b ≡ true) × IsSomeAnd largest (λ last. n ≤ last)) ⊎ Dropped n

  leaves : (b : Bool) (m n : ℕ) (largest : Option ℕ)
      → (b ≡ true → largest_acked_by (packet_at (sent_by words log).tracked m) ≡ largest)
      → IsAfter (cond b (Some (acknowledged m)) None) n (Came n) (Goes b largest n)
  leaves true m n largest is = rw (is refl) (go largest) where
    go : (o : Option ℕ) → (Pending n × IsTrue (is_above o n)) ↔ (Came n × ¬ Goes true o n)
    go None = grind (arith, nat_tests, kept n)
    go (Some last) = grind (arith, nat_tests, kept n)
  leaves false m n largest is = grind (arith, kept n)

-- ---- what an event does

-- no packet is received, and none is acknowledged
abbrev keeps_pending : SpaceKind → Bool
keeps_pending hearing = false
keeps_pending acknowledging = false
keeps_pending kind = true

module _ {F K Q S M P : Type 0} (beginning : Beginning F K Q S M P) (before : History Q S M P) (space : SpaceId) (n : ℕ)
    (carried : AllCarry beginning before) (keeps : TracksPendingAcks beginning before) where
  abbrev log : SpaceId → List (SpaceEntry P M)
  log = (logs_of beginning before).spaces

  abbrev known : ReplyInputs K P M
  known = inputs_after beginning before

  abbrev Came : ℕ → Type 0
  Came n = WasReceived space n before

  abbrev Dropped : ℕ → Type 0
  Dropped n = WasDropped space n before

  abbrev Pending_then : Option (SpaceEntry P M) → Type 0
  Pending_then entry = ToAcknowledge beginning.queue.words (onto entry (log space)) n

  kept : Pending_then None ↔ (Came n × ¬ Dropped n)
  kept = keeps space n

  abbrev After : Option (SpaceEntry P M) → Event Q S M P → Reply Q → Type 0
  After entry event reply = Pending_then entry
      ↔ (WasReceived space n ((event, reply) ∷ before) × ¬ WasDropped space n ((event, reply) ∷ before))

  -- an entry that leaves them unchanged
  unmoved : (entry : SpaceEntry P M) → keeps_pending (space_kind entry) ≡ true
      → Pending_then (Some entry) ↔ (Came n × ¬ Dropped n)
  unmoved entry keeps = grind (arith, keeps, kept)

  reply_keeps : (event : Event Q S M P) (reply : Reply Q) → RepliesAfter beginning before event reply
      → After ((entries_of beginning.queue known event reply).spaces space) event reply
  reply_keeps (Received there now number eliciting) (Ok (New arm)) told =
      arrives beginning.queue.words (log space) Came Dropped (keeps space) number n
      (same_space there space) now eliciting
  reply_keeps (Received there now number eliciting) (Ok answer) told =
      stays beginning.queue.words (log space) Came Dropped (keeps space) (same_space there space) (heard_again number) n
      kept
  reply_keeps (Acked there now number app_limited) (Ok answer) told =
      leaves beginning.queue.words (log space) Came Dropped (keeps space) (same_space there space) number n
      (largest_in space number before) (carries_largest beginning before carried there space number told.1.0)
  reply_keeps event (Ok answer) told =
      space_kept beginning.queue known space (λ entry. Pending_then entry ↔ (Came n × ¬ Dropped n)) keeps_pending kept
      unmoved event (Ok answer) refl
  reply_keeps (Received there now number eliciting) (Err refusal) told = kept
  reply_keeps event (Err refusal) told =
      kept

-- ---- throughout a run

module _ {F K Q S M P : Type 0} (beginning : Beginning F K Q S M P) where
  -- what tracked packets carry, and the pending ACKs, are what the history says
  record Tied (history : History Q S M P) : Type 0 where
    pub carried : AllCarry beginning history
    pub keeps : TracksPendingAcks beginning history

  keeps_after : (before : History Q S M P) (event : Event Q S M P) (reply : Reply Q)
      → RepliesAfter beginning before event reply
      → Tied before → TracksPendingAcks beginning ((event, reply) ∷ before)
  keeps_after before event reply told tied =
      λ space n. reply_keeps beginning before space n tied.carried tied.keeps event reply told

  pub keeps_to_acknowledge : (history : History Q S M P) → AtEach (RepliesAfter beginning) history
      → TracksPendingAcks beginning history
  keeps_to_acknowledge history told =
      (kept_after (RepliesAfter beginning) Tied (λ before event reply here tied. record {
        carried = keeps_carried beginning before event reply here tied.carried;
        keeps = keeps_after before event reply here tied;
      }) (record { carried = none_carry beginning; keeps = λ space n. (λ set. absurd set, λ both. absurd both.0) })
      history told).keeps
