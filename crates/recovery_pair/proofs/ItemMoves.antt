-- What an endpoint takes, sends and loses at each step, from its calls.
use Rattle.std.proofs.Common.{◌≡◌, ℕ, ◌+◌, ◌<◌, ◌==◌, ◌⊎◌, inl, inr, Bool, true, false, List, [], ◌∷◌, ◌++◌, length, get_or, Option, None, Some, Ok, zero, suc, refl, sym, ap, subst, ◌∙◌, arith}
use Rattle.std.proofs.lemmas.Bool.Decides.{nat_tests}
use Rattle.std.specs.Global.{Vec}
use Rattle.std.specs.List.{remove}
use Rattle.recovery_base.specs.declared.below.SpaceId.{SpaceId}
use Rattle.recovery_base.specs.Spaces.{same_space}
use Rattle.recovery_history.proofs.TrackedLaws.{one_space}
use Rattle.recovery_sender.specs.declared.sender.Sender.{Sender}
use Rattle.recovery_pair.specs.declared.endpoint.Outgoing.{Outgoing}
use Rattle.recovery_pair.specs.declared.endpoint.Outgoing.TheVariants as outgoing
use Rattle.recovery_pair.specs.declared.endpoint.Waiting.{Waiting}
use Rattle.recovery_pair.specs.declared.steps.AckOutcome.{AckOutcome}
use Rattle.recovery_pair.specs.declared.steps.Fate.TheVariants.{New}
use Rattle.recovery_pair.specs.Carried.{Balances, Carries, CarriesNone, CarriesOn, ContentsTurn, Exchanges, IsNoProbe, IsProbeIn, IsProbeWith, MovesBack, MovesItems, MovesNone, MovesSent, TakesItems, TakesSent, lost_by_ack, lost_by_fate, losing, none_lost, sending_with, taken_if, taking}
use Rattle.recovery_pair.specs.Logs.{part}
use Rattle.recovery_pair.specs.Waits.{waiting_in}
use Rattle.recovery_pair.specs.Promises.Repeats.{is_probe}
use Rattle.recovery_pair.proofs.ItemLaws.{carries_then, same_carries, taken_then_sent, then_carries}
use Rattle.recovery_pair.proofs.AlongLaws.{beginning_of, joined, past_after, went}
use Rattle.recovery_pair.proofs.RepeatLaws.{none_taken}

-- ---- what waits

pub empty_part : (b : Bool) (amount : ℕ) → amount ≡ 0 → part b amount ≡ 0
empty_part true amount none = none
empty_part false amount none = refl

both_parts : (a b w v : ℕ) → w ≡ b + v → a + w ≡ b + (a + v)
both_parts a b w v is = omega (arith, is)

removed_exactly : (there : SpaceId) (measure : List ℕ → ℕ) (space : SpaceId) (all : List Waiting) (at : ℕ)
    (one : Waiting) → at < length all → same_space (get_or all at one).space there ≡ true
    → waiting_in measure space all
    ≡ part (same_space there space) (measure (get_or all at one).queue) + waiting_in measure space (remove all at)
removed_exactly there measure space [] at one within is = absurd (omega (arith, within))
removed_exactly there measure space (first ∷ all) zero one within is =
    ap (λ (here : SpaceId). part (same_space here space) (measure first.queue) + waiting_in measure space all)
    (one_space first.space there is)
removed_exactly there measure space (first ∷ all) (suc at) one within is =
    both_parts (part (same_space first.space space) (measure first.queue))
    (part (same_space there space) (measure (get_or all at one).queue)) (waiting_in measure space all)
    (waiting_in measure space (remove all at)) (removed_exactly there measure space all at one (omega (arith, within))
    is)

pub none_to_repeat : (items seen : List ℕ) → seen ≡ items → true ≡ (length seen == 0) → items ≡ []
none_to_repeat [] seen same none = refl
none_to_repeat (n ∷ items) seen same none =
    let many = ap (λ (all : List ℕ). length all == 0) same in grind (arith, nat_tests, many, none)

-- one that waits is taken instead of none
pub one_exchanged : (there : SpaceId) (none : List ℕ) (all new : List Waiting) (at : ℕ) (one : Waiting)
    → none ≡ [] → at < length all → same_space (get_or all at one).space there ≡ true → one ≡ get_or all at one
    → new ≡ remove all at → Exchanges all new there none one.queue
one_exchanged there none all new at one empty within is found same measure zero_is space =
    let exact = removed_exactly there measure space all at one within is in
    let queue = ap (λ (it : Waiting). part (same_space there space) (measure it.queue)) found in
    let left = ap (λ (all : List Waiting). waiting_in measure space all) same in
    let zero_part = empty_part (same_space there space) (measure none) (ap measure empty ∙ zero_is) in
    omega (arith, exact, queue, left, zero_part)

-- one more waits
pub one_added : (there : SpaceId) (old new : List Waiting) (last : Waiting) → last.space ≡ there
    → new ≡ old ++ last ∷ [] → Exchanges old new there last.queue []
one_added there old new last is pushed measure none space =
    let zero_part = empty_part (same_space there space) (measure []) none in
    let here = ap (λ (s : SpaceId). part (same_space s space) (measure last.queue)) is in
    let all = pushes old in
    let same = ap (λ (all : List Waiting). waiting_in measure space all) pushed in
    omega (arith, zero_part, here, all, same)
  where
    pushes : (all : List Waiting) → waiting_in measure space (all ++ last ∷ [])
        ≡ part (same_space last.space space) (measure last.queue) + waiting_in measure space all
    pushes [] = refl
    pushes (first ∷ all) = both_parts (part (same_space first.space space) (measure first.queue))
        (part (same_space last.space space) (measure last.queue)) (waiting_in measure space (all ++ last ∷ []))
        (waiting_in measure space all) (pushes all)

-- ---- what a probe takes

-- what is sent, if there is anything
probe_sends : (probe : Bool) (space : SpaceId) (queued queue items : List ℕ) → (queued ≡ []) ⊎ (queue ≡ queued)
    → items ≡ queue → IsProbeWith probe space items (taken_if probe space queued)
probe_sends true space queued queue items (inl none) same = (refl, inl none)
probe_sends true space queued queue items (inr is) same = (refl, inr (same ∙ is))
probe_sends false space queued queue items first same = tt

pub probe_there : (probe : Bool) (space : SpaceId) (queued : List ℕ) → IsProbeIn space (taken_if probe space queued)
probe_there true space queued = refl
probe_there false space queued = tt

-- ---- one turn after another

module _ {F Q R C K S M : Type 0} {f : _} {c : _} {q : _} {m : _} {r : _} where
  -- calls that leave what waits
  moves_by : (numbers : SpaceId → List ℕ) (IsProbed : Option (SpaceId × List ℕ) → Type 0) → IsProbed None
      → (old new : Sender F Q R C K S M (List ℕ) f c q m r) (waits after : List Waiting)
      → Carries (losing numbers) old new → after ≡ waits
      → MovesItems None None numbers IsProbed (old, waits) (new, after)
  moves_by numbers IsProbed idle old new waits after goes kept = record {
    takes = None;
    probes = None;
    probed = idle;
    resent = λ own measure adds space none. refl;
    goes = goes;
    balances = λ measure none space. (
        let same = ap (λ (all : List Waiting). waiting_in measure space all) kept in omega (arith, same));
  }

  pub calls_move : (numbers : SpaceId → List ℕ) (old new : Sender F Q R C K S M (List ℕ) f c q m r)
      (waits after : List Waiting) → Carries (losing numbers) old new → after ≡ waits
      → MovesItems None None numbers IsNoProbe (old, waits) (new, after)
  calls_move numbers = moves_by numbers IsNoProbe tt

  -- nothing changes
  pub same_moves : (old new : Sender F Q R C K S M (List ℕ) f c q m r) (waits after : List Waiting) → new ≡ old
      → after ≡ waits → MovesNone (old, waits) (new, after)
  same_moves old new waits after same kept = calls_move none_lost old new waits after (same_carries old new same) kept

  -- a packet that arrives is new
  pub hears_move : (space : SpaceId) (items : Vec ℕ) (acked : AckOutcome)
      (old counted heard taken new : Sender F Q R C K S M (List ℕ) f c q m r) (waits after : List Waiting)
      → CarriesNone old counted → CarriesNone counted heard → Carries (losing (lost_by_ack space acked)) heard taken
      → CarriesNone taken new → after ≡ waits
      → MovesItems None None (lost_by_fate space (Ok (New items acked))) IsNoProbe (old, waits) (new, after)
  hears_move space items acked old counted heard taken new waits after first second third fourth kept =
      calls_move (lost_by_fate space (Ok (New items acked))) old new waits after
      (then_carries _ old counted new first (then_carries _ counted heard new second
      (carries_then _ heard taken new third fourth))) kept

  -- what is taken from the retransmission queue was sent before
  takes_sent : (probe : Bool) (space : SpaceId) (items : List ℕ)
      (old new : Sender F Q R C K S M (List ℕ) f c q m r × List Waiting) (takes : TakesItems probe space items old new)
      → TakesSent (Some (space, takes.queued)) old.0
  takes_sent probe space items old new takes own measure adds there none =
      let goes = went own takes.goes in
      let taken = none_taken (beginning_of own) measure adds there goes.0 goes.1.replies
      (λ n. let one = none n in let two = goes.2.sent measure there n in omega (arith, one, two)) in
      let is = goes.2.taken measure there in
      omega (arith, taken, is)

  -- a packet is sent with what was to be repeated, or with what waited
  pub sends_move : (probe : Bool) (space : SpaceId) (n : ℕ) (queue items : List ℕ)
      (old taken sent new : Sender F Q R C K S M (List ℕ) f c q m r) (waits between after : List Waiting)
      → TakesItems probe space queue (old, waits) (taken, between) → Carries (sending_with space n queue) taken sent
      → CarriesNone sent new → after ≡ between → items ≡ queue
      → MovesItems None (Some (space, n, items)) none_lost (IsProbeWith probe space items) (old, waits) (new, after)
  sends_move probe space n queue items old taken sent new waits between after takes second third kept same =
      let Turn : List ℕ → ContentsTurn (List ℕ) = λ these. record {
        takes = Some (space, takes.queued);
        probes = taken_if probe space takes.queued;
        sends = Some (space, n, these);
        loses = none_lost;
      } in
      record {
        takes = Some (space, takes.queued);
        probes = taken_if probe space takes.queued;
        probed = probe_sends probe space takes.queued queue items takes.first same;
        resent = takes_sent probe space queue (old, waits) (taken, between) takes;
        goes = subst (λ (these : List ℕ). Carries (Turn these) old new) (sym same)
            (carries_then (Turn queue) old sent new (joined (CarriesOn q.contents (taking probe space takes.queued))
            (CarriesOn q.contents (sending_with space n queue)) (CarriesOn q.contents (Turn queue))
            (taken_then_sent q.contents probe space takes.queued n queue) old taken sent takes.goes second) third);
        balances = λ measure none there. (
            let one = takes.exchanges measure none there in
            let two = ap (λ (these : List ℕ). part (same_space space there) (measure these)) same in
            let three = ap (λ (all : List Waiting). waiting_in measure there all) kept in
            omega (arith, one, two, three));
      }

  -- it cannot be sent: what was taken waits again
  pub keeps_move : (probe : Bool) (space : SpaceId) (queue again : List ℕ)
      (old taken new : Sender F Q R C K S M (List ℕ) f c q m r) (waits between after : List Waiting)
      → TakesItems probe space queue (old, waits) (taken, between) → CarriesNone taken new
      → Exchanges between after space again [] → again ≡ queue → MovesBack space (old, waits) (new, after)
  keeps_move probe space queue again old taken new waits between after takes second puts same = record {
    takes = Some (space, takes.queued);
    probes = taken_if probe space takes.queued;
    probed = probe_there probe space takes.queued;
    resent = takes_sent probe space queue (old, waits) (taken, between) takes;
    goes = carries_then (taking probe space takes.queued) old taken new takes.goes second;
    balances = λ measure none there. (
        let one = takes.exchanges measure none there in
        let two = puts measure none there in
        let three = ap (λ (these : List ℕ). part (same_space space there) (measure these)) same in
        let four = empty_part (same_space space there) (measure []) none in omega (arith, one, two, three, four));
  }

  -- items are passed
  pub hands_move : (space : SpaceId) (items : List ℕ) (old new : Sender F Q R C K S M (List ℕ) f c q m r)
      (waits after : List Waiting) → new ≡ old → Exchanges waits after space items []
      → MovesItems (Some (space, items)) None none_lost IsNoProbe (old, waits) (new, after)
  hands_move space items old new waits after same puts = record {
    takes = None;
    probes = None;
    probed = tt;
    resent = λ own measure adds space none. refl;
    goes = same_carries old new same;
    balances = λ measure none there. (
        let one = puts measure none there in
        let two = empty_part (same_space space there) (measure []) none in omega (arith, one, two));
  }

  -- a packet without items is sent
  pub sends_alone : (space : SpaceId) (n : ℕ) (queue items : List ℕ)
      (old tracked new : Sender F Q R C K S M (List ℕ) f c q m r) (waits after : List Waiting) → queue ≡ []
      → items ≡ [] → Carries (sending_with space n queue) old tracked → CarriesNone tracked new → after ≡ waits
      → MovesItems None (Some (space, n, items)) none_lost (IsProbeWith false space items) (old, waits) (new, after)
  sends_alone space n queue items old tracked new waits after empty none first second is = record {
    takes = None;
    probes = None;
    goes = carries_then (sending_with space n items) old tracked new
        (subst (λ (contents : List ℕ). Carries (sending_with space n contents) old tracked) (empty ∙ sym none) first)
        second;
    balances = λ measure least there. (
        let one = empty_part (same_space space there) (measure items) (ap measure none ∙ least) in
        let two = ap (waiting_in measure there) is in omega (arith, one, two));
    probed = tt;
    resent = λ own measure adds space none. refl;
  }

  -- after a call that takes, sends and loses nothing
  then_moves : (hands : Option (SpaceId × List ℕ)) (sends : Option (SpaceId × ℕ × List ℕ)) (loses : SpaceId → List ℕ)
      (IsProbed : Option (SpaceId × List ℕ) → Type 0) (old between new : Sender F Q R C K S M (List ℕ) f c q m r)
      (waits same after : List Waiting) → CarriesNone old between → same ≡ waits
      → MovesItems hands sends loses IsProbed (between, same) (new, after)
      → MovesItems hands sends loses IsProbed (old, waits) (new, after)
  then_moves hands sends loses IsProbed old between new waits same after first is moves = record {
    takes = moves.takes;
    probes = moves.probes;
    probed = moves.probed;
    resent = λ own measure adds space none. moves.resent (past_after own first) measure adds space
        (λ n. let one = none n in let two = (went own first).2.sent measure space n in omega (arith, one, two));
    goes = then_carries _ old between new first moves.goes;
    balances = subst (λ (all : List Waiting). Balances all after hands moves.takes sends) is moves.balances;
  }

  pub then_sends : (space : SpaceId) (outcome : Outgoing) (old between new : Sender F Q R C K S M (List ℕ) f c q m r)
      (waits same after : List Waiting) → CarriesNone old between → same ≡ waits
      → MovesSent space (Ok outcome) (between, same) (new, after)
      → MovesSent space (Ok outcome) (old, waits) (new, after)
  then_sends space (outgoing.Sent packet items window) =
      then_moves None (Some (space, packet.number, items.items)) none_lost
      (IsProbeWith (is_probe packet.eliciting window) space items.items)
  then_sends space (outgoing.Failed refusal) = then_moves None None none_lost (IsProbeIn space)
  then_sends space outgoing.Nothing = then_moves None None none_lost IsNoProbe
  then_sends space (outgoing.Held held) = then_moves None None none_lost IsNoProbe
