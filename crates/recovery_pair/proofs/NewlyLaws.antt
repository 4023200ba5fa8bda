-- A packet in flight is tracked, so an ACK frame with its number newly acknowledges it.
use Rattle.std.proofs.Common.{◌≡◌, ℕ, ◌+◌, ◌<◌, ◌≤◌, ◌⊎◌, inl, inr, ◌==◌, ◌&&◌, ◌||◌, zero, suc, Bool, true, false, true≢false, List, [], ◌∷◌, Ok, refl, arith}
use Rattle.std.specs.Prelude.{not, if◌then◌else◌}
use Rattle.std.proofs.lemmas.Bool.Decides.{nat_tests}
use Rattle.recovery_base.specs.declared.below.SpaceId.{SpaceId}
use Rattle.recovery_base.specs.declared.below.SpaceId.TheVariants.{Data}
use Rattle.recovery_base.specs.Spaces.{same_space}
use Rattle.recovery_events.specs.declared.event.Answer.TheVariants.{Probe, Sent}
use Rattle.recovery_events.specs.declared.event.Event.{Event}
use Rattle.recovery_events.specs.declared.event.Event.TheVariants.{PollMtu, Send}
use Rattle.recovery_history.specs.History.{History, Reply}
use Rattle.recovery_history.specs.Promises.Counted.{sum_on, weight}
use Rattle.recovery_history.specs.Promises.Paths.{generations}
use Rattle.recovery_history.specs.Promises.Tracked.{goes_out, is_tracked, leaves}
use Rattle.recovery_history.proofs.TrackedLaws.{one_space}
use Rattle.recovery_losses.specs.declared.frames.Ack.{Ack}
use Rattle.recovery_sender.specs.Acking.{AckResult}
use Rattle.recovery_sender.specs.declared.sender.Sender.{Sender}
use Rattle.recovery_sender.specs.declared.sender.acks.Acknowledged.{Acknowledged}
use Rattle.recovery_pair.specs.declared.steps.AckOutcome.{AckOutcome}
use Rattle.recovery_pair.specs.declared.steps.AckOutcome.TheVariants.{Taken}
use Rattle.recovery_pair.specs.Flights.{Numbers, counted_if}
use Rattle.recovery_pair.specs.Newly.{AcksFlight, AcksFlightBy}
use Rattle.recovery_pair.specs.Pasts.{flight_in}
use Rattle.recovery_pair.specs.Promises.Newly.{all_but}
use Rattle.recovery_pair.proofs.FlightLaws.{or_left, or_right}

not_true : (a : Bool) → not a ≡ false → a ≡ true
not_true true is = refl
not_true false is = absurd (true≢false is)

it_is : (space : SpaceId) (n : ℕ) → (same_space space space && n == n) ≡ true
it_is space n = let same = same_itself space in grind (arith, nat_tests, same)
  where
    same_itself : (there : SpaceId) → same_space there there ≡ true
    same_itself there = grind arith

all_but_one : (space : SpaceId) (n : ℕ) (there : SpaceId) (m : ℕ) → all_but space n there m ≡ false
    → (there ≡ space) × (m ≡ n)
all_but_one space n there m is =
    let both = not_true (same_space there space && m == n) is in
    (one_space there space (grind (arith, nat_tests, both)), grind (arith, nat_tests, both))

some_of : (a b : ℕ) → 0 < a + b → (0 < a) ⊎ (0 < b)
some_of zero b some = inr (omega (arith, some))
some_of (suc a) b some = inl (omega arith)

if_some : (test : Bool) (a : ℕ) → 0 < (if test then a else 0) → 0 < a
if_some true a some = some
if_some false a some = absurd (omega (arith, some))

tracked_still : (goes left before : Bool) → left ≡ false → before ≡ true → (goes || (not left && before)) ≡ true
tracked_still goes left before kept was = grind (arith, kept, was)

tracked_now : (goes rest : Bool) → goes ≡ true → (goes || rest) ≡ true
tracked_now goes rest is = grind (arith, is)

module _ (space : SpaceId) (n : ℕ) where
  abbrev GoneBut : Numbers → Type 0
  GoneBut gone = (there : SpaceId) (m : ℕ) → gone there m ≡ false → (there ≡ space) × (m ≡ n)

  -- the packet of an event that adds something in flight
  weight_of : (gone : Numbers) → GoneBut gone → (there : SpaceId) (m size : ℕ)
      → 0 < (if gone there m then 0 else size) → ((same_space there space && m == n) ≡ true) × (gone space n ≡ false)
  weight_of gone but there m size some = by (gone there m) refl some
    where
      here : gone there m ≡ false → (there ≡ space) × (m ≡ n)
          → ((same_space there space && m == n) ≡ true) × (gone space n ≡ false)
      here is same = (rw (same.0, same.1) (it_is space n), rw (same.0, same.1) at is)

      by : (test : Bool) → gone there m ≡ test → 0 < (if test then 0 else size)
          → ((same_space there space && m == n) ≡ true) × (gone space n ≡ false)
      by true is none = absurd (omega (arith, none))
      by false is more = here is (but there m is)

module _ {Q S M P : Type 0} (space : SpaceId) (n : ℕ) where
  weight_some : (gone : Numbers) → GoneBut space n gone → (happened : Event Q S M P × Reply Q)
      → 0 < weight (λ size eliciting. counted_if eliciting size) gone happened
      → (goes_out happened space n ≡ true) × (gone space n ≡ false)
  weight_some gone but (Send there now size eliciting largest queue frames, Ok (Sent number forgotten)) some =
      weight_of space n gone but there number (counted_if eliciting size) some
  weight_some gone but (PollMtu now, Ok (Probe number size)) some =
      weight_of space n gone but Data number (counted_if true size) some
  weight_some gone but happened some = absurd (omega (arith, some))

  -- a sum over the packets that are not gone is not zero: this one is tracked
  one_tracked : (generation : ℕ) (gone : Numbers) → GoneBut space n gone → (past : History Q S M P)
      → 0 < sum_on (λ size eliciting. counted_if eliciting size) generation gone past
      → (gone space n ≡ false) × (is_tracked space n past ≡ true)
  one_tracked generation gone but [] some = absurd (omega (arith, some))
  one_tracked generation gone but (happened ∷ earlier) some =
      let more : Numbers = λ there m. leaves happened there m || gone there m in
      by (some_of _ _ some)
      (one_tracked generation more (λ there m is. but there m (or_right (leaves happened there m) (gone there m) is))
      earlier)
    where
      by : (0 < (if (generations earlier).current == generation
          then weight (λ size eliciting. counted_if eliciting size) gone happened else 0))
          ⊎ (0 < sum_on (λ size eliciting. counted_if eliciting size) generation
          (λ there m. leaves happened there m || gone there m) earlier)
          → (0 < sum_on (λ size eliciting. counted_if eliciting size) generation
          (λ there m. leaves happened there m || gone there m) earlier
          → ((leaves happened space n || gone space n) ≡ false) × (is_tracked space n earlier ≡ true))
          → (gone space n ≡ false) × (is_tracked space n (happened ∷ earlier) ≡ true)
      by (inl here) rest =
          let both = weight_some gone but happened (if_some ((generations earlier).current == generation) _ here) in
          (both.1, tracked_now (goes_out happened space n) _ both.0)
      by (inr there) rest =
          let both = rest there in (
            or_right (leaves happened space n) (gone space n) both.0,
            tracked_still (goes_out happened space n) (leaves happened space n) (is_tracked space n earlier)
                (or_left (leaves happened space n) (gone space n) both.0) both.1,
          )

  pub flight_tracked : (past : History Q S M P) → 0 < flight_in (all_but space n) past
      → is_tracked space n past ≡ true
  flight_tracked past some =
      (one_tracked (generations past).current (all_but space n) (all_but_one space n) past some).1

-- ---- an ACK frame

pub taken_flight : {F Q R C K S M P : Type 0} {f : _} {c : _} {q : _} {m : _} {r : _} (space : SpaceId) (now : ℕ)
    (ranges : List (ℕ × ℕ)) (ack : Ack) (old new : Sender F Q R C K S M P f c q m r) (acked : Acknowledged)
    → AckResult space now ranges ack old new (Ok acked) → AcksFlightBy space ranges old (Taken acked)
taken_flight space now ranges ack old new acked is config start random past came n there some =
    (is.tracked config start random past came n).1 (there, flight_tracked space n past some)

-- a past that has no less in flight
pub flight_before : {Q S M P : Type 0} (space : SpaceId) (ranges : List (ℕ × ℕ)) (past after : History Q S M P)
    → ((n : ℕ) → flight_in (all_but space n) past ≤ flight_in (all_but space n) after) → (outcome : AckOutcome)
    → AcksFlight space ranges outcome after → AcksFlight space ranges outcome past
flight_before space ranges past after less (Taken acked) is =
    λ n there some. is n there (let most = less n in omega (arith, most, some))
flight_before space ranges past after less outcome is = tt
