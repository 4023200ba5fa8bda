-- Worked rows of the promises on ACKs, computed: with the right answer each holds, and with a wrong one it does not.
-- Nothing rests on them.
use Rattle.std.proofs.Common.{◌≡◌, ℕ, zero, suc, ◌+◌, ◌<◌, ◌≤◌, ◌⊎◌, Bool, true, false, List, [], ◌∷◌, Option, None, Some, Ok, inl, inr, refl, arith}
use Rattle.std.proofs.lemmas.Bool.Decides.{nat_tests}
use Rattle.recovery_acks.specs.Acks.{RequiresImmediateAck, fresh, most_ranges}
use Rattle.std.specs.Option.{unwrap_or}
use Rattle.recovery_acks.specs.Runs.{Ascend, AtMost, EndsRun, LiesBelow}
use Rattle.recovery_base.specs.declared.below.SpaceId.TheVariants.{Initial, Handshake, Data}
use Rattle.recovery_base.specs.Numbers.{InsertNumber}
use Rattle.recovery_spaces.specs.Acks.{IsRequired}
use Rattle.recovery_events.specs.declared.event.Event.{Event}
use Rattle.recovery_events.specs.declared.event.Event.TheVariants as event
use Rattle.recovery_events.specs.declared.event.Answer.TheVariants as answer
use Rattle.recovery_history.specs.RepliesAfter.{logs_of}
use Rattle.recovery_history.specs.History.{Beginning, History, Reply}
use Rattle.recovery_history.specs.Promises.Acknowledged.{WasReceived, WasDropped, largest_in}
use Rattle.recovery_history.specs.Promises.AckDuty.{AcknowledgesInTime, timer_runs, waits}
use Rattle.recovery_history.specs.Promises.Sendable.{JoinStaysNonempty, ReportsSendable}
use Rattle.recovery_history.specs.Promises.AckTimer.{StartsAckDelayTimer}

-- ---- ranges

-- if no number is above one, at most one range ends at it or above
one_range : (Numbers : ℕ → Type 0) (n : ℕ) → ((m : ℕ) → n < m → ¬ Numbers m)
    → AtMost 64 (λ end. (n ≤ end) × EndsRun Numbers end)
unfolding Ascend
one_range Numbers n none [] up = omega arith
one_range Numbers n none (k ∷ []) up = omega arith
one_range Numbers n none (k ∷ m ∷ numbers) up =
    let first : n ≤ k = up.1.0 in
    let second : k + 1 ≤ m = up.2.0 in
    absurd (none m (omega (arith, first, second)) up.2.1.1.0)

-- 65 ranges of one number each, from 0 on: 0 is below the 64 highest
abbrev Evens : ℕ → Type 0
Evens n = (k : ℕ) × (n ≡ k + k) × (k ≤ 64)

abbrev by_two : ℕ → ℕ → List ℕ
by_two from zero = []
by_two from (suc more) = (from + from) ∷ by_two (from + 1) more

ascends : (from more low : ℕ) → from + more ≡ 65 → low ≤ from + from
    → Ascend (λ end. (0 ≤ end) × EndsRun Evens end) low (by_two from more)
unfolding Ascend
ascends from zero low sum up = tt
ascends from (suc more) low sum up = (
  up,
  (omega arith, ((from, refl, omega (arith, sum)), λ next. let odd = next.1 in omega (arith, odd))),
  ascends (from + 1) more (from + from + 1) (omega (arith, sum)) (omega arith),
)

zero_lies_below : LiesBelow most_ranges Evens 0
zero_lies_below few = let many : 65 ≤ 64 = few (by_two 0 65) (ascends 0 65 0 refl (omega arith)) in omega (arith, many)

-- ---- the pending ACKs: 3 and 7 were received, and the packet with the ACK of 3 was acknowledged

module _ (Q S M P : Type 0) (queue : Q) (frames : M) where
  abbrev came : ℕ → Event Q S M P × Reply Q
  came n = (event.Received Handshake 5 n true, Ok (answer.New false))

  abbrev sent_and_acked : History Q S M P → History Q S M P
  sent_and_acked before =
      (event.Acked Handshake 7 0 false, Ok (answer.Acked false))
      ∷ (event.Send Handshake 6 50 false (Some 3) queue frames, Ok (answer.Sent 0 None))
      ∷ before

  abbrev told : History Q S M P
  told = sent_and_acked (came 7 ∷ came 3 ∷ [])

  it_carries_three : largest_in Handshake 0 told ≡ Some 3
  it_carries_three = refl

  a_probe_carries_none : largest_in Data 4 ((event.PollMtu 6, Ok (answer.Probe 4 1400)) ∷ told) ≡ None
  a_probe_carries_none = refl

  three_is_dropped : WasDropped Handshake 3 told
  three_is_dropped = inl (refl, omega arith)

  three_to_acknowledge_is_wrong : ¬ (WasReceived Handshake 3 told × ¬ WasDropped Handshake 3 told)
  three_to_acknowledge_is_wrong = λ e. e.1 three_is_dropped

  six_never_came : ¬ WasReceived Handshake 6 told
  six_never_came = λ e. elim e [ inl is ↦ cc | inr before ↦ elim before [ inl is ↦ cc | inr none ↦ none ] ]

  not_in_another_space : ¬ WasReceived Initial 7 told
  not_in_another_space = λ e. elim e [ inl is ↦ cc | inr before ↦ elim before [ inl is ↦ cc | inr none ↦ none ] ]

  -- 7 is above 3, and its range is the highest
  none_above : (n : ℕ) → 7 < n
      → ¬ InsertNumber 7 (λ k. WasReceived Handshake k (came 3 ∷ []) × ¬ WasDropped Handshake k (came 3 ∷ [])) n
  none_above n above (inl is) = omega (arith, above, is)
  none_above n above (inr there) = elim there.0 [
    | inl is ↦ (let same : 3 ≡ n = grind (arith, nat_tests, is) in omega (arith, above, same))
    | inr none ↦ none
  ]

  seven_stays : WasReceived Handshake 7 told × ¬ WasDropped Handshake 7 told
  seven_stays = (
    inl refl,
    λ drops. elim drops [
      | inl up ↦ (let under : 7 ≤ 3 = up.1 in omega (arith, under))
      | inr before ↦ elim before [
        | inl low ↦ low.1 (one_range _ 7 none_above)
        | inr other ↦ (let is = other.0 in cc)
      ]
    ],
  )

  -- what is received after the packet was acknowledged is not dropped by it
  none_but_three : (n : ℕ) → 3 < n
      → ¬ InsertNumber 3 (λ k. WasReceived Handshake k (sent_and_acked []) × ¬ WasDropped Handshake k
      (sent_and_acked [])) n
  none_but_three n above (inl is) = omega (arith, above, is)
  none_but_three n above (inr there) = there.0

  late_three_stays : ¬ WasDropped Handshake 3 (came 3 ∷ sent_and_acked [])
  late_three_stays = λ drops. elim drops [
    | inl low ↦ low.1 (one_range _ 3 none_but_three)
    | inr other ↦ (let is = other.0 in cc)
  ]

-- ---- the duty to acknowledge

-- the first one since an ACK requires none at once, if it follows the largest
asks_nothing : (Numbers : ℕ → Type 0) (greatest acknowledged : Option ℕ) (number : ℕ)
    → unwrap_or greatest 0 ≤ number → number ≤ unwrap_or greatest 0 + 1 → (silent : ℕ) (largest : Option (ℕ × ℕ))
    → ¬ RequiresImmediateAck Numbers (record fresh {
      silent = silent;
      largest = largest;
      greatest = greatest;
      acknowledged = acknowledged;
    }) number
asks_nothing Numbers greatest acknowledged number from to silent largest (inl many) =
    let more : 1 < 1 = many in omega (arith, more)
asks_nothing Numbers greatest acknowledged number from to silent largest (inr (inl gap)) = elim gap.1 [
  | inl below ↦ omega (arith, from, below)
  | inr missing ↦ (let a = missing.1.0 in let b = missing.1.1 in omega (arith, to, a, b))
]
asks_nothing Numbers greatest acknowledged number from to silent largest (inr (inr more)) =
    let above : 1 < 1 = more.0 in omega (arith, above)

module _ {F K Q S M P : Type 0} (beginning : Beginning F K Q S M P) where
  abbrev elicits : ℕ → Bool → Event Q S M P × Reply Q
  elicits n started = (event.Received Data 5 n true, Ok (answer.New started))

  -- 0 was received and acknowledged
  abbrev acked : History Q S M P
  acked = (event.AcksSent Data, Ok answer.Done) ∷ elicits 0 true ∷ []

  only_data : (history : History Q S M P) → waits Initial history ≡ false → waits Handshake history ≡ false
      → (waits Data history ≡ true
      → IsRequired ((logs_of beginning history).spaces Data) ⊎ (timer_runs Data history ≡ true))
      → AcknowledgesInTime beginning history
  only_data history initial handshake in_time Initial = λ is. cc
  only_data history initial handshake in_time Handshake = λ is. cc
  only_data history initial handshake in_time Data = in_time

  nothing_waits : AcknowledgesInTime beginning acked
  nothing_waits = only_data acked refl refl (λ is. cc)

  -- the first ack-eliciting packet, with the timer or without
  with_timer : AcknowledgesInTime beginning (elicits 1 true ∷ acked)
  with_timer = only_data (elicits 1 true ∷ acked) refl refl (λ is. inr refl)

  without_timer_is_wrong : ¬ AcknowledgesInTime beginning (elicits 1 false ∷ acked)
  without_timer_is_wrong in_time = elim (in_time Data refl) [
    | inl required ↦ elim required [
      | inl none ↦ none
      | inr asks ↦ asks_nothing _ (Some 0) (Some 0) 1 (omega arith) (omega arith) 0 (Some (0, 5)) asks.1
    ]
    | inr started ↦ cc
  ]

  -- a timer of one space is not that of another
  abbrev two_spaces : History Q S M P
  two_spaces = (event.Received Initial 6 0 true, Ok (answer.New false)) ∷ elicits 1 true ∷ acked

  other_space_is_wrong : ¬ AcknowledgesInTime beginning two_spaces
  other_space_is_wrong in_time = elim (in_time Initial refl) [
    | inl required ↦ elim required [
      | inl none ↦ none
      | inr asks ↦ asks_nothing _ None None 0 (omega arith) (omega arith) 0 None asks.1
    ]
    | inr started ↦ cc
  ]

  -- one out of order requires an ACK at once: 1 is missing
  out_of_order : AcknowledgesInTime beginning (elicits 5 false ∷ acked)
  out_of_order = only_data (elicits 5 false ∷ acked) refl refl (λ is. inl (inr (
    refl,
    inr (inl (
      refl,
      inr (
        1,
        (omega arith, omega arith, (one_missing, window), λ m above below missing. above),
      ),
    )),
  )))
    where
      one_missing : ¬ InsertNumber 5 (λ n. (n ≡ 0) ⊎ ⊥) 1
      one_missing (inl is) = omega (arith, is)
      one_missing (inr there) = elim there [ inl is ↦ omega (arith, is) | inr none ↦ none ]

      window : (m : ℕ) → InsertNumber 5 (λ n. (n ≡ 0) ⊎ ⊥) m → m ≤ 1 + 128
      window m (inl is) = omega (arith, is)
      window m (inr there) = elim there [ inl is ↦ omega (arith, is) | inr none ↦ absurd none ]

  -- so does the second one, and a timeout while one waits
  abbrev twice : History Q S M P
  twice = elicits 2 false ∷ elicits 1 false ∷ acked

  the_second : AcknowledgesInTime beginning twice
  the_second = only_data twice refl refl (λ is. inl (inr (refl, inl (omega arith))))

  abbrev late : History Q S M P
  late = (event.AckDelayTimeout Data, Ok answer.Done) ∷ elicits 1 false ∷ acked

  timed_out : AcknowledgesInTime beginning late
  timed_out = only_data late refl refl (λ is. inl (omega arith))

  -- with it the timer ends
  expired : timer_runs Data ((event.AckDelayTimeout Data, Ok answer.Done) ∷ elicits 1 true ∷ acked) ≡ false
  expired = refl

  not_of_another_space : timer_runs Data ((event.AckDelayTimeout Initial, Ok answer.Done) ∷ elicits 1 true ∷ acked)
      ≡ true
  not_of_another_space = refl

  -- ---- the timer: it starts at the first one that waits, and not again

  first_starts : StartsAckDelayTimer beginning acked (event.Received Data 6 1 true) (Ok (answer.New true))
  first_starts = (
    λ on. (
      refl,
      refl,
      λ required. elim required [
        | inl none ↦ none
        | inr asks ↦ asks_nothing _ (Some 0) (Some 0) 1 (omega arith) (omega arith) 0 (Some (0, 5)) asks.1
      ],
    ),
    λ all. refl,
  )

  first_without_is_wrong : ¬ StartsAckDelayTimer beginning acked (event.Received Data 6 1 true) (Ok (answer.New false))
  first_without_is_wrong starts = let on = starts.1 (
    refl,
    refl,
    λ required. elim required [
      | inl none ↦ none
      | inr asks ↦ asks_nothing _ (Some 0) (Some 0) 1 (omega arith) (omega arith) 0 (Some (0, 5)) asks.1
    ],
  ) in cc

  again_is_wrong : ¬ StartsAckDelayTimer beginning (elicits 1 true ∷ acked) (event.Received Data 6 2 true)
      (Ok (answer.New true))
  again_is_wrong starts = let stopped = (starts.0 refl).1 in cc

  silent_is_wrong : ¬ StartsAckDelayTimer beginning acked (event.Received Data 6 1 false) (Ok (answer.New true))
  silent_is_wrong starts = let eliciting = (starts.0 refl).0 in cc

  -- ---- what a probe finds: nothing was received, so there is no ACK, but a PING

  an_ack_is_wrong : (streams : S) (other : Bool) → ¬ ReportsSendable beginning [] (event.QueueProbe Data false streams)
      (Ok (answer.Sendable (record { acks = true; other = other })))
  an_ack_is_wrong streams other finds = (finds.0.0 refl).0

  nothing_is_wrong : (streams : S) (acks : Bool) → JoinStaysNonempty beginning.queue.words streams
      → ¬ ReportsSendable beginning [] (event.QueueProbe Data false streams)
      (Ok (answer.Sendable (record { acks = acks; other = false })))
  nothing_is_wrong streams acks full finds = let is = finds.1 full in cc

  a_ping : (streams : S) → ReportsSendable beginning [] (event.QueueProbe Data false streams)
      (Ok (answer.Sendable (record { acks = false; other = true })))
  a_ping streams = ((λ on. cc, λ due. absurd due.0), λ full. refl)
