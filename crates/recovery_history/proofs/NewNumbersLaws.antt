-- A number is reported as new exactly if the history says so: the clause `new` of `run` rests on it.
use Rattle.std.proofs.lemmas.Bool.Decides.{nat_tests}
use Rattle.std.proofs.Common.{arith, ◌≡◌, ◌≤◌, ◌+◌, ◌^◌, ℕ, Bool, true, false, cond, nat_eq, nat_lt, nat_le, List, [], ◌∷◌, None, Some, Ok, Err, ◌⊎◌, inl, inr, ◌↔◌, refl}
use Rattle.std.specs.List.{list_all, list_any}
use Rattle.std.proofs.lemmas.Bool.{leb-true, le-leb, false≢true}
use Rattle.recovery_base.specs.declared.below.SpaceId.{SpaceId}
use Rattle.recovery_base.specs.Numbers.{IsNewNumber}
use Rattle.recovery_spaces.specs.Received.{ReceivedNumbers}
use Rattle.recovery_spaces.specs.SpaceLog.{SpaceEntry, heard, heard_again}
use Rattle.recovery_events.specs.declared.event.Event.{Event}
use Rattle.recovery_events.specs.declared.event.Event.TheVariants.{Received}
use Rattle.recovery_events.specs.declared.event.Answer.TheVariants.{New}
use Rattle.recovery_events.specs.declared.event.Refusal.TheVariants.{SpaceDiscarded}
use Rattle.recovery_history.specs.RepliesAfter.{logs_of, inputs_after, RepliesAfter}
use Rattle.recovery_history.specs.History.{Beginning, History, Reply}
use Rattle.recovery_history.specs.ReplyInputs.{SpaceReplyInputs}
use Rattle.recovery_history.specs.Logs.{onto}
use Rattle.recovery_history.specs.PartReplies.{ReceivedReply}
use Rattle.recovery_spaces.specs.Acks.{AckState, acks_by}
use Rattle.recovery_history.specs.Promises.NewNumbers.{is_new, came_in, IsReceiveReply, DetectsDuplicates}
use Rattle.recovery_history.proofs.EntryKinds.{SpaceKind, hearing, space_kind, space_kept}

-- ---- lists of numbers and sets of numbers

abbrev In : ℕ → List ℕ → Type 0
In n [] = ⊥
In n (m ∷ ms) = (n ≡ m) ⊎ In n ms

member : (n : ℕ) (ms : List ℕ) → (list_any (nat_eq n) ms ≡ true) ↔ In n ms
member n [] = grind arith
member n (m ∷ ms) = grind (arith, nat_tests, member n ms)

module _ (test : ℕ → Bool) where
  all_to : (ms : List ℕ) → list_all test ms ≡ true → (m : ℕ) → In m ms → test m ≡ true
  all_to (first ∷ ms) all m there = grind (arith, nat_tests, all, there, all_to ms)
  all_to [] all m there = absurd there

  all_from : (ms : List ℕ) → ((m : ℕ) → In m ms → test m ≡ true) → list_all test ms ≡ true
  all_from [] each = refl
  all_from (m ∷ ms) each =
      grind (arith, nat_tests, each m (inl refl), all_from ms (λ k there. each k (inr there)))

module _ (Numbers : ℕ → Type 0) (came : List ℕ) (same : (m : ℕ) → In m came ↔ Numbers m) (n : ℕ) where
  new_from : IsNewNumber Numbers n → is_new came n ≡ true
  new_from (inl exceeds) =
      let all = all_from (λ m. nat_lt m n) came (λ m there. grind (arith, nat_tests, exceeds m, same m, there)) in
      grind (arith, nat_tests, all)
  new_from (inr other) =
      let near = all_from (λ m. nat_le m (n + 128)) came
      (λ m there. grind (arith, nat_tests, other.1 m, same m, there)) in
      grind (arith, nat_tests, near, other.0, same n, member n came)

  new_to : is_new came n ≡ true → IsNewNumber Numbers n
  new_to e = go (list_all (λ m. nat_lt m n) came) refl
    where
      go : (b : Bool) → list_all (λ m. nat_lt m n) came ≡ b → IsNewNumber Numbers n
      go true all = inl (λ m in_set. grind (arith, nat_tests, all_to _ came all m, same m, in_set))
      go false some =
          let all : list_all (λ m. nat_le m (n + 128)) came ≡ true = grind (arith, nat_tests, e, some) in
          inr (
            (λ in_set. grind (arith, nat_tests, e, some, member n came, same n, in_set)),
            λ m in_set. grind (arith, nat_tests, all_to _ came all m, same m, in_set),
          )

-- ---- the numbers received, and which spaces were discarded

abbrev Alike : {P M : Type 0} → List ℕ → List (SpaceEntry P M) → Type 0
Alike came log = (m : ℕ) → In m came ↔ ReceivedNumbers log m

module _ {P M : Type 0} (came : List ℕ) (log : List (SpaceEntry P M)) (alike : Alike came log) where
  one_more : (n m : ℕ) → In m (n ∷ came) ↔ ((m ≡ n) ⊎ ReceivedNumbers log m)
  one_more n m = grind (arith, alike m)

  arrive : (b : Bool) (n : ℕ) (entry : SpaceEntry P M) → Alike (n ∷ came) (entry ∷ log)
      → Alike (cond b (n ∷ came) came) (onto (cond b (Some entry) None) log)
  arrive b n entry first m = grind (arith, first m, alike m)

abbrev not_heard : SpaceKind → Bool
not_heard hearing = false
not_heard kind = true

module _ {P M : Type 0} (came : List ℕ) (log : List (SpaceEntry P M)) (alike : Alike came log) where
  -- what is no received packet
  unheard : (entry : SpaceEntry P M) → not_heard (space_kind entry) ≡ true → Alike came (entry ∷ log)
  unheard (heard_again number) other = absurd (false≢true other)
  unheard entry other = grind (arith, other, alike)

module _ {F K Q S M P : Type 0} (beginning : Beginning F K Q S M P) where
  all_came : (history : History Q S M P) (space : SpaceId)
      → Alike (came_in space history) ((logs_of beginning history).spaces space)
  all_came [] space = λ m. (λ there. there, λ there. there)
  all_came ((Received there now number eliciting, Ok (New arm)) ∷ earlier) space =
      let log = (logs_of beginning earlier).spaces space in
      let alike = all_came earlier space in
      arrive _ log alike _ number (heard now number eliciting) (one_more _ log alike number)
  all_came ((Received there now number eliciting, Ok answer) ∷ earlier) space =
      let log = (logs_of beginning earlier).spaces space in
      let alike = all_came earlier space in
      arrive _ log alike _ number (heard_again number) (one_more _ log alike number)
  all_came ((Received there now number eliciting, Err refusal) ∷ earlier) space = all_came earlier space
  all_came ((event, reply) ∷ earlier) space =
      let log = (logs_of beginning earlier).spaces space in
      let alike = all_came earlier space in
      space_kept beginning.queue (inputs_after beginning earlier) space
      (λ made. Alike (came_in space earlier) (onto made log)) not_heard alike (unheard _ log alike) event reply refl

-- ---- the result

module _ {Q P M : Type 0} (known : SpaceReplyInputs P M) (heard : AckState) (number : ℕ) (eliciting large new : Bool)
    (sizes : (2 ^ 62 ≤ number) ↔ (large ≡ true)) (news : IsNewNumber heard.came number ↔ (new ≡ true)) where
  verdict : (reply : Reply Q) → ReceivedReply known heard number eliciting reply
      → IsReceiveReply known.discarded large new reply
  verdict (Ok (New arm)) told = grind (arith, told, sizes, news)
  verdict (Err SpaceDiscarded) told = grind (arith, told, sizes, news)
  verdict reply told = grind (arith, told, sizes, news)

module _ {F K Q S M P : Type 0} (beginning : Beginning F K Q S M P) where
  -- the reply to an event follows from the new numbers
  pub numbers_told : (history : History Q S M P) (event : Event Q S M P) (reply : Reply Q)
      → RepliesAfter beginning history event reply → DetectsDuplicates history event reply
  numbers_told history (Received space now number eliciting) reply told =
      let logs = logs_of beginning history in
      let numbers = ReceivedNumbers (logs.spaces space) in
      let came = came_in space history in
      let same = all_came beginning history space in
      verdict ((inputs_after beginning history).spaces space)
      (acks_by beginning.queue.words (logs.spaces space)) number eliciting (nat_le (2 ^ 62) number)
      (is_new came number) (le-leb (2 ^ 62) number, leb-true (2 ^ 62) number)
      (new_from numbers came same number, new_to numbers came same number) reply told
  numbers_told history event reply told = tt
