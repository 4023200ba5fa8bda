-- The log of two ends stays tied to what their senders know.
use Rattle.std.proofs.Common.{◌≡◌, ℕ, ◌<◌, ◌⊎◌, inl, inr, ◌==◌, ◌&&◌, Bool, true, false, true≢false, List, [], ◌∷◌, ◌++◌, length, get_or, Option, None, Some, Ok, zero, suc, refl, sym, ap, subst, ◌∙◌, arith}
use Rattle.std.specs.Prelude.{if◌then◌else◌}
use Rattle.std.proofs.lemmas.Bool.Decides.{nat_tests}
use Rattle.std.specs.Global.{Vec}
use Rattle.std.specs.List.{AllByRecursion}
use Rattle.recovery_base.specs.declared.below.SpaceId.{SpaceId}
use Rattle.recovery_base.specs.Spaces.{same_space}
use Rattle.recovery_base.specs.Units.{number_limit}
use Rattle.recovery_history.specs.History.{History}
use Rattle.recovery_history.specs.Promises.Acknowledged.{WasReceived}
use Rattle.recovery_history.specs.Promises.NewNumbers.{came_in}
use Rattle.recovery_history.proofs.TrackedLaws.{one_space}
use Rattle.recovery_pair.specs.declared.steps.AckOutcome.{AckOutcome}
use Rattle.recovery_pair.specs.declared.steps.End.{End}
use Rattle.recovery_pair.specs.declared.steps.End.TheVariants.{Client, Server}
use Rattle.recovery_pair.specs.declared.steps.Fate.TheVariants.{New}
use Rattle.recovery_pair.specs.declared.steps.PairAnswer.TheVariants.{Arrived, Sent}
use Rattle.recovery_pair.specs.declared.steps.SentAck.{SentAck}
use Rattle.recovery_pair.specs.declared.steps.PairStep.TheVariants.{Arrive, Send}
use Rattle.recovery_pair.specs.Logs.{PairEvent, PairLog, deliveries_of, other_end, sends_of}
use Rattle.recovery_pair.specs.Pasts.{Came, Endings, GoesOn, HearsNumber, SendsNumber, EndTurn, WasSentUnder, hearing}
use Rattle.recovery_pair.specs.Promises.DeliveredOnce.{IsDeliveredOnce}
use Rattle.recovery_pair.specs.Tied.{Flows, HasArrived, IsNotThere, IsUnsent, Travels}
use Rattle.recovery_pair.proofs.GoingLaws.{came_on, itself, not_new, same_itself}

-- ---- lists

pub all_push : {T : Type 0} (P : T → Type 0) (all : List T) (last : T) → AllByRecursion P all → P last
    → AllByRecursion P (all ++ last ∷ [])
all_push P [] last each here = (here, tt)
all_push P (one ∷ all) last each here = (each.0, all_push P all last each.1 here)

pub all_at : {T : Type 0} (P : T → Type 0) (all : List T) (at : ℕ) (one : T) → at < length all
    → one ≡ get_or all at one → AllByRecursion P all → P one
all_at P [] at one within is each = absurd (omega (arith, within))
all_at P (first ∷ all) zero one within is each = subst P (sym is) each.0
all_at P (first ∷ all) (suc at) one within is each = all_at P all at one (omega (arith, within)) is each.1

-- ---- one number

module _ {Q S M P : Type 0} (log after : PairLog) (from : End) (space : SpaceId) (n : ℕ)
    (past past_after peer peer_after : History Q S M P) where
  away_kept : deliveries_of (other_end from) space n after ≡ deliveries_of (other_end from) space n log
      → (WasReceived space n peer_after → WasReceived space n peer) → IsNotThere log from space n past peer
      → IsNotThere after from space n past_after peer_after
  away_kept taken heard away = record {
    undelivered = taken ∙ away.undelivered;
    unheard = λ was. away.unheard (heard was);
  }

  arrival_kept : deliveries_of (other_end from) space n after ≡ deliveries_of (other_end from) space n log
      → (Came space n peer → Came space n peer_after) → (WasReceived space n peer_after → WasReceived space n peer)
      → (items : List ℕ)
      → IsNotThere log from space n past peer ⊎ HasArrived log from space n past peer items
      → IsNotThere after from space n past_after peer_after ⊎ HasArrived after from space n past_after peer_after items
  arrival_kept taken came heard items (inl away) = inl (away_kept taken heard away)
  arrival_kept taken came heard items (inr there) =
      inr (record { delivered = taken ∙ there.delivered; came = came there.came })

  travels_kept : sends_of from space n after ≡ sends_of from space n log
      → deliveries_of (other_end from) space n after ≡ deliveries_of (other_end from) space n log
      → (WasSentUnder space n past → WasSentUnder space n past_after)
      → (Came space n peer → Came space n peer_after) → (WasReceived space n peer_after → WasReceived space n peer)
      → Travels log from space n past peer → Travels after from space n past_after peer_after
  travels_kept sends taken given came heard (inl unsent) =
      inl (record { none = sends ∙ unsent.none; away = away_kept taken heard unsent.away })
  travels_kept sends taken given came heard (inr (items, sent)) = inr (
    items,
    record {
      once = sends ∙ sent.once;
      given = given sent.given;
      small = sent.small;
      arrival = arrival_kept taken came heard items sent.arrival;
    },
  )

-- a step by which nothing new is received
unheard_by : {Q S M P : Type 0} (turn : EndTurn) (peer after : History Q S M P) → turn.heard ≡ None
    → GoesOn turn peer after → (space : SpaceId) (n : ℕ) → WasReceived space n after → WasReceived space n peer
unheard_by turn peer after none goes space n was = by (goes.heard space n was)
  where
    by : WasReceived space n peer ⊎ (turn.heard ≡ Some (space, n)) → WasReceived space n peer
    by (inl before) = before
    by (inr here) = let never = sym none ∙ here in absurd cc

-- what is known of the packets of an end stays so if no step speaks of them
pub flows_kept : {Q S M P : Type 0} (log after : PairLog) (from : End) (turn : EndTurn)
    (past past_after peer peer_after : History Q S M P)
    → ((space : SpaceId) (n : ℕ) → sends_of from space n after ≡ sends_of from space n log)
    → ((space : SpaceId) (n : ℕ)
    → deliveries_of (other_end from) space n after ≡ deliveries_of (other_end from) space n log)
    → ((space : SpaceId) (n : ℕ) → WasSentUnder space n past → WasSentUnder space n past_after)
    → turn.heard ≡ None → GoesOn turn peer peer_after → Flows log from past peer
    → Flows after from past_after peer_after
flows_kept log after from turn past past_after peer peer_after sends taken given none goes flows = record {
  each = λ space n. travels_kept log after from space n past past_after peer peer_after (sends space n) (taken space n)
      (given space n) (came_on turn peer peer_after goes space n)
      (unheard_by turn peer peer_after none goes space n) (flows.each space n);
}

-- ---- a number is the one of a step, or not

abbrev is_it : SpaceId → ℕ → SpaceId → ℕ → Bool
is_it there m space n = same_space there space && m == n

is_same : (there space : SpaceId) (m n : ℕ) → is_it there m space n ≡ true → (space ≡ there) × (n ≡ m)
is_same there space m n is =
    (sym (one_space there space (grind (arith, nat_tests, is))), grind (arith, nat_tests, is))

it_is : (there : SpaceId) (m : ℕ) → is_it there m there m ≡ true
it_is there m = let same = same_itself there in grind (arith, nat_tests, same)

is_other : (there space : SpaceId) (m n : ℕ) → is_it there m space n ≡ false → (space ≡ there) × (n ≡ m) → ⊥
is_other there space m n other same =
    let is : is_it there m space n ≡ true = rw (same.0, same.1) (it_is there m) in true≢false (sym is ∙ other)

chosen : (test : Bool) (items : List ℕ) (more : List (List ℕ)) → test ≡ true
    → (if test then items ∷ more else more) ≡ items ∷ more
chosen true items more is = refl
chosen false items more is = absurd (true≢false (sym is))

left_out : (test : Bool) (items : List ℕ) (more : List (List ℕ)) → test ≡ false
    → (if test then items ∷ more else more) ≡ more
left_out false items more is = refl
left_out true items more is = absurd (true≢false is)

-- ---- a packet is sent

module _ (log : PairLog) (there : SpaceId) (now size m : ℕ) (items : Vec ℕ) (eliciting : Bool) (window : Option ℕ)
    (delay : SentAck) where
  abbrev pub sending : End → PairEvent
  sending end = (Send end there now size, Ok (Sent m items eliciting window delay))

  own_sends : (end : End) (space : SpaceId) (n : ℕ) → sends_of end space n (sending end ∷ log)
      ≡ (if is_it there m space n then items.items ∷ sends_of end space n log else sends_of end space n log)
  own_sends Client space n = refl
  own_sends Server space n = refl

  pub other_sends : (end : End) (space : SpaceId) (n : ℕ)
      → sends_of (other_end end) space n (sending end ∷ log) ≡ sends_of (other_end end) space n log
  other_sends Client space n = refl
  other_sends Server space n = refl

  module _ {Q S M P : Type 0} (end : End) (past past_after peer : History Q S M P)
      (counted : ℕ) (largest : Option ℕ)
      (sends : SendsNumber size counted eliciting there m largest now past past_after)
      (flows : Flows log end past peer) where
    -- nothing was sent under the number before
    unsent_by : Travels log end there m past peer → IsUnsent log end there m past peer
    unsent_by (inl unsent) = unsent
    unsent_by (inr (before, sent)) = absurd (sends.unused sent.given)

    pub unsent_before : IsUnsent log end there m past peer
    unsent_before = unsent_by (flows.each there m)

    travels_sent : Travels (sending end ∷ log) end there m past_after peer
    travels_sent = inr (
      items.items,
      record {
        once = own_sends end there m ∙ chosen (is_it there m there m) items.items (sends_of end there m log) (it_is
            there m)
            ∙ ap (λ more. items.items ∷ more) unsent_before.none;
        given = sends.used;
        small = sends.small;
        arrival = inl (record {
          undelivered = unsent_before.away.undelivered;
          unheard = unsent_before.away.unheard;
        });
      },
    )

    travels_by : (space : SpaceId) (n : ℕ) (test : Bool) → is_it there m space n ≡ test
        → Travels (sending end ∷ log) end space n past_after peer
    travels_by space n true is =
        let same = is_same there space m n is in rw (same.0, same.1) travels_sent
    travels_by space n false is = travels_kept log (sending end ∷ log) end space n past past_after peer peer
        (own_sends end space n ∙ left_out (is_it there m space n) items.items (sends_of end space n log) is) refl
        (sends.goes.given space n) (λ came. came) (λ was. was) (flows.each space n)

    pub flows_sent : Flows (sending end ∷ log) end past_after peer
    flows_sent = record { each = λ space n. travels_by space n (is_it there m space n) refl }

    -- what is on the wire was not sent under it
    sends_by : (space : SpaceId) (n : ℕ) (before : List ℕ) → sends_of end space n log ≡ before ∷ [] → (test : Bool)
        → is_it there m space n ≡ test → sends_of end space n (sending end ∷ log) ≡ before ∷ []
    sends_by space n before once true is =
        let same = is_same there space m n is in
        let none : sends_of end space n log ≡ [] = rw (same.0, same.1) unsent_before.none in
        absurd cc
    sends_by space n before once false is = own_sends end space n
        ∙ left_out (is_it there m space n) items.items (sends_of end space n log) is ∙ once

    pub sends_kept : (space : SpaceId) (n : ℕ) (before : List ℕ) → sends_of end space n log ≡ before ∷ []
        → sends_of end space n (sending end ∷ log) ≡ before ∷ []
    sends_kept space n before once = sends_by space n before once (is_it there m space n) refl

    pub sent_once : sends_of end there m (sending end ∷ log) ≡ items.items ∷ []
    sent_once = own_sends end there m
        ∙ chosen (is_it there m there m) items.items (sends_of end there m log) (it_is there m)
        ∙ ap (λ more. items.items ∷ more) unsent_before.none

-- ---- a packet is new

module _ (log : PairLog) (at now : ℕ) (there : SpaceId) (m size : ℕ) (items : Vec ℕ) (acked : AckOutcome) where
  abbrev pub taking : End → PairEvent
  taking to = (Arrive at now, Ok (Arrived to there m size (New items acked)))

  own_takes : (to : End) (space : SpaceId) (n : ℕ) → deliveries_of to space n (taking to ∷ log)
      ≡ (if is_it there m space n then items.items ∷ deliveries_of to space n log else deliveries_of to space n log)
  own_takes Client space n = refl
  own_takes Server space n = refl

  pub other_takes : (to : End) (space : SpaceId) (n : ℕ)
      → deliveries_of (other_end to) space n (taking to ∷ log) ≡ deliveries_of (other_end to) space n log
  other_takes Client space n = refl
  other_takes Server space n = refl

  -- `from` sent it, and the other end hears it
  module _ {Q S M P : Type 0} (from : End) (past peer peer_after : History Q S M P)
      (ends : Endings) (hears : HearsNumber now size there m (Ok true) ends peer peer_after) (sent : sends_of from
      there m
      log ≡ items.items ∷ [])
      (flows : Flows log from past peer) where
    abbrev heard_now : PairLog
    heard_now = taking (other_end from) ∷ log

    away_by : (before : List ℕ) → IsNotThere log from there m past peer ⊎ HasArrived log from there m past peer before
        → IsNotThere log from there m past peer
    away_by before (inl away) = away
    away_by before (inr arrived) = absurd (not_new m (came_in there peer) hears.by.1 arrived.came)

    -- it was sent, and did not arrive before
    pub record IsUnderWay : Type 0 where
      pub given : WasSentUnder there m past
      pub small : m < number_limit
      pub away : IsNotThere log from there m past peer

    sent_by : Travels log from there m past peer → IsUnderWay
    sent_by (inl unsent) = let none = unsent.none in absurd cc
    sent_by (inr (before, was)) =
        record { given = was.given; small = was.small; away = away_by before was.arrival }

    pub before_it : IsUnderWay
    before_it = sent_by (flows.each there m)

    travels_taken : Travels heard_now from there m past peer_after
    travels_taken = inr (
      items.items,
      record {
        once = sent;
        given = before_it.given;
        small = before_it.small;
        arrival = inr (record {
          delivered = own_takes (other_end from) there m
              ∙ chosen (is_it there m there m) items.items (deliveries_of (other_end from) there m log) (it_is there m)
              ∙ ap (λ more. items.items ∷ more) before_it.away.undelivered;
          came = rw (hears.goes.came there, same_itself there) (itself m (came_in there peer));
        });
      },
    )

    heard_by : (space : SpaceId) (n : ℕ) → is_it there m space n ≡ false
        → WasReceived space n peer ⊎ ◌≡◌ {A = Option (SpaceId × ℕ)} (Some (there, m)) (Some (space, n))
        → WasReceived space n peer
    heard_by space n other (inl was) = was
    heard_by space n other (inr same) =
        let pair : ◌≡◌ {A = SpaceId × ℕ} (there, m) (space, n) = cc in
        absurd (is_other there space m n other
        (sym (ap (λ (number : SpaceId × ℕ). number.0) pair), sym (ap (λ (number : SpaceId × ℕ). number.1) pair)))

    travels_on : (space : SpaceId) (n : ℕ) (test : Bool) → is_it there m space n ≡ test
        → Travels heard_now from space n past peer_after
    travels_on space n true is = let same = is_same there space m n is in rw (same.0, same.1) travels_taken
    travels_on space n false is = travels_kept log heard_now from space n past past peer peer_after refl
        (own_takes (other_end from) space n
        ∙ left_out (is_it there m space n) items.items (deliveries_of (other_end from) space n log) is)
        (λ given. given)
        (came_on (hearing now size there m (Ok true) ends) peer peer_after hears.goes space n) (λ was. heard_by space n
        is
        (hears.goes.heard space n was))
        (flows.each space n)

    pub flows_taken : Flows heard_now from past peer_after
    flows_taken = record { each = λ space n. travels_on space n (is_it there m space n) refl }

    -- what was delivered before stays so
    takes_by : (space : SpaceId) (n : ℕ) (before : List ℕ) → deliveries_of (other_end from) space n log ≡ before ∷ []
        → (test : Bool) → is_it there m space n ≡ test
        → deliveries_of (other_end from) space n heard_now ≡ before ∷ []
    takes_by space n before once true is =
        let same = is_same there space m n is in
        let none : deliveries_of (other_end from) space n log ≡ [] = rw (same.0, same.1) before_it.away.undelivered in
        absurd cc
    takes_by space n before once false is = own_takes (other_end from) space n
        ∙ left_out (is_it there m space n) items.items (deliveries_of (other_end from) space n log) is ∙ once

    pub takes_kept : (space : SpaceId) (n : ℕ) (before : List ℕ)
        → deliveries_of (other_end from) space n log ≡ before ∷ []
        → deliveries_of (other_end from) space n heard_now ≡ before ∷ []
    takes_kept space n before once = takes_by space n before once (is_it there m space n) refl

-- ---- what an ACK frame has

module _ {Q S M P : Type 0} (log : PairLog) (from : End) (past peer : History Q S M P)
    (flows : Flows log from past peer) (space : SpaceId) (n : ℕ) where
  abbrev Known : Type 0
  Known = IsDeliveredOnce log from space n × WasSentUnder space n past × (n < number_limit)

  known_arrived : (before items : List ℕ) → deliveries_of (other_end from) space n log ≡ items ∷ []
      → sends_of from space n log ≡ before ∷ [] → WasSentUnder space n past → n < number_limit
      → IsNotThere log from space n past peer ⊎ HasArrived log from space n past peer before → Known
  known_arrived before items once sent given small (inl away) = let none = away.undelivered in absurd cc
  known_arrived before items once sent given small (inr there) =
      (record { items = before; sent = sent; delivered = there.delivered }, given, small)

  known_by : (items : List ℕ) → deliveries_of (other_end from) space n log ≡ items ∷ []
      → Travels log from space n past peer → Known
  known_by items once (inl unsent) = let none = unsent.away.undelivered in absurd cc
  known_by items once (inr (before, was)) = known_arrived before items once was.once was.given was.small was.arrival

  -- what was delivered was sent
  pub delivered_known : (items : List ℕ) → deliveries_of (other_end from) space n log ≡ items ∷ [] → Known
  delivered_known items once = known_by items once (flows.each space n)

  received_by : WasReceived space n peer → Travels log from space n past peer
      → (items : List ℕ) × (deliveries_of (other_end from) space n log ≡ items ∷ [])
  received_by was (inl unsent) = absurd (unsent.away.unheard was)
  received_by was (inr (items, sent)) = arrived sent.arrival
    where
      arrived : IsNotThere log from space n past peer ⊎ HasArrived log from space n past peer items
          → (items : List ℕ) × (deliveries_of (other_end from) space n log ≡ items ∷ [])
      arrived (inl away) = absurd (away.unheard was)
      arrived (inr there) = (items, there.delivered)

  -- what was received was delivered
  pub received_delivered : WasReceived space n peer
      → (items : List ℕ) × (deliveries_of (other_end from) space n log ≡ items ∷ [])
  received_delivered was = received_by was (flows.each space n)
