-- A probe takes the items of the first packet in flight that has any, if the retransmission queue has none. A packet is
-- found by its number, since each number is tracked at most once.
use Rattle.std.proofs.Common.{◌≡◌, ◌≤◌, ◌⊎◌, inl, inr, ℕ, ◌==◌, not, Bool, true, false, true≢false, cond, filter, List, [], ◌∷◌, ◌++◌, length, Option, None, Some, Result, Ok, Err, refl, sym, ap, subst, ◌∙◌, arith}
use Rattle.std.proofs.lemmas.Bool.Decides.{nat_tests}
use Rattle.std.proofs.lemmas.Option.{none-some}
use Rattle.std.specs.Option.{option_and_then}
use Rattle.std.specs.Prelude.{IfOk, OnErr}
use Rattle.recovery_base.specs.declared.below.SpaceId.{SpaceId}
use Rattle.recovery_base.specs.Spaces.{same_space}
use Rattle.recovery_queue.specs.Items.{item_words}
use Rattle.recovery_spaces.specs.Packets.{Packet, Packets, least_number, packet_at}
use Rattle.recovery_spaces.specs.Probes.{probe_found}
use Rattle.recovery_spaces.specs.Queued.{joined_with}
use Rattle.recovery_spaces.specs.Spaces.{Space, packets_of, space_of}
use Rattle.recovery_spaces.specs.Tracked.{SentState}
use Rattle.recovery_congestion.specs.Controllers.{ControllerSemantics}
use Rattle.recovery_history.specs.History.{History, QueueModel, begins, queue_model}
use Rattle.recovery_history.specs.RecoveryState.{RecoveryState}
use Rattle.recovery_history.specs.RepliesAfter.{RepliesAfter}
use Rattle.recovery_history.proofs.Runs.{kept_after}
use Rattle.recovery_history.proofs.SendableLaws.{first_full}
use Rattle.recovery_history.proofs.TrackedLaws.{AllTracked, keeps_tracked, none_tracked, times}
use Rattle.recovery_losses.specs.declared.due.Due.{Due}
use Rattle.recovery_losses.specs.declared.variables.Variables.{Variables}
use Rattle.recovery_sender.specs.Calls.{ProbeResult, transmit_steps}
use Rattle.recovery_sender.specs.Senders.{state_in}
use Rattle.recovery_sender.specs.Steps.{CompletesCall, RearmsTimer, SenderStep, StepsLeadTo, timed}
use Rattle.recovery_sender.specs.declared.sender.Sender.{Sender}
use Rattle.recovery_sender.specs.declared.sender.SenderError.{SenderError}
use Rattle.recovery_sender.specs.declared.sender.packets.Transmission.{Transmission}
use Rattle.recovery_sender.specs.declared.sender.packets.Transmission.TheVariants.{Blocked, Delayed, Full, Transmitted}
use Rattle.recovery_pair.specs.declared.endpoint.Outgoing.{Outgoing}
use Rattle.recovery_pair.specs.declared.endpoint.Outgoing.TheVariants as outgoing
use Rattle.recovery_pair.specs.declared.endpoint.Waiting.{Waiting}
use Rattle.recovery_pair.specs.declared.steps.End.{End}
use Rattle.recovery_pair.specs.declared.steps.End.TheVariants.{Client, Server}
use Rattle.recovery_pair.specs.Filled.{AtEnd, CarryNone, FillsOutcome, KeepsSpaces, RepeatsNone, next_in}
use Rattle.recovery_pair.specs.Pasts.{Continues, HasPast}
use Rattle.recovery_pair.proofs.AlongLaws.{past_after}

-- ---- what a probe finds

no_items : (items : List ℕ) → (length items == 0) ≡ true → items ≡ []
no_items [] is = refl
no_items (n ∷ items) is = absurd (grind (arith, nat_tests, is))

some_items : (items : List ℕ) → (length items == 0) ≡ false → items ≡ [] → ⊥
some_items items some none = true≢false (sym (ap (λ (all : List ℕ). length all == 0) none) ∙ some)

none_joined : (items more : List ℕ) → items ++ more ≡ [] → more ≡ []
none_joined [] more is = is
none_joined (n ∷ items) more is = absurd (cc)

at_most_once : (tracked : Bool) (times : ℕ) → times ≡ cond tracked 1 0 → times ≤ 1
at_most_once true times is = omega (arith, is)
at_most_once false times is = omega (arith, is)

module _ {M : Type 0} where
  abbrev is_filled : ℕ × Packet (List ℕ) M → Bool
  is_filled entry = not (length entry.1.retransmits == 0)

  none_full : (packets : Packets (List ℕ) M) → least_number (filter is_filled packets) ≡ None → CarryNone packets
  none_full [] is = tt
  none_full (entry ∷ packets) is = go (length entry.1.retransmits == 0) refl is (none_full packets)
    where
      go : (b : Bool) → (length entry.1.retransmits == 0) ≡ b
          → least_number (cond (not b) (entry ∷ filter is_filled packets) (filter is_filled packets)) ≡ None
          → (least_number (filter is_filled packets) ≡ None → CarryNone packets) → CarryNone (entry ∷ packets)
      go true empty none rest = (no_items entry.1.retransmits empty, rest none)
      go false some none rest = absurd (none-some entry.0 (sym none))

  -- if what it takes has no items, there are none
  finds_none : {S : Type 0} (streams : S) (pending : List ℕ) (packets : Packets (List ℕ) M)
      → ((m : ℕ) → times m packets ≤ 1) → joined_with {S = S} item_words pending (option_and_then (packet_at packets)
      (probe_found item_words streams pending packets).moved) ≡ [] → (pending ≡ []) × CarryNone packets
  finds_none {S = S} streams pending packets once =
      go (length pending == 0) refl (least_number (filter is_filled packets)) refl
    where
      go : (b : Bool) → (length pending == 0) ≡ b → (found : Option ℕ)
          → least_number (filter is_filled packets) ≡ found
          → joined_with {S = S} item_words pending (option_and_then (packet_at packets) (cond b found None)) ≡ []
          → (pending ≡ []) × CarryNone packets
      go false some found is none = absurd (some_items pending some none)
      go true empty None is none = (none, none_full packets is)
      go true empty (Some n) is none =
          let first = first_full {S = S} item_words streams packets n once is in
          let empty = none_joined pending first.0.retransmits (rw first.1 at none) in
          absurd (some_items first.0.retransmits first.2 empty)

-- ---- the call

pub here_itself : (there : SpaceId) → same_space there there ≡ true
here_itself there = grind arith

module _ {F Q R C K S M : Type 0} {f : _} {c : _} {q : _} {m : _} {r : _}
    (old new : Sender F Q R C K S M (List ℕ) f c q m r) (items : q.words ≡ item_words {S = S}) where
  tracked_once : HasPast old → (space : SpaceId) (m : ℕ)
      → times m (packets_of (space_of space (state_in old).spaces)) ≤ 1
  tracked_once own space m =
      let beginning = begins f.built c.words (queue_model q.contents q.words q.blank) own.config own.start own.random in
      let tracked = kept_after (RepliesAfter beginning) (AllTracked beginning) (keeps_tracked beginning)
      (none_tracked beginning) own.past own.came.replies in
      at_most_once _ _ (ap (λ (sent : SentState (List ℕ) M). times m sent.tracked)
      (own.came.state_after.spaces space).sent ∙ (tracked space m).same)

  pub probe_fills : (probe : Bool) (space : SpaceId) (streams : S) (result : Result Q SenderError)
      → ProbeResult space false streams old new result
      → IfOk result (λ queue. probe ≡ true → q.contents queue ≡ [] → HasPast old → RepeatsNone space old)
  probe_fills probe space streams (Err refusal) is = tt
  probe_fills probe space streams (Ok queue) is = λ on none own. (
      let leads = is.2.leads in
      let here = space_of space (state_in old).spaces in
      let step = rw (here_itself space) at (leads.1.steps.spaces space) in
      let taken = sym (ap (λ (there : Space (List ℕ) M). there.pending) step) ∙ sym leads.3.1.told.1 ∙ none in
      finds_none streams here.pending (packets_of here) (tracked_once own space) (rw items at taken))

-- ---- a datagram is permitted: the spaces stay

module _ {K P M : Type 0} where
  abbrev AreSame : RecoveryState K P M → RecoveryState K P M → Type 0
  AreSame one other = (space : SpaceId) → space_of space other.spaces ≡ space_of space one.spaces

  all_same : (one other : RecoveryState K P M) → other ≡ one → AreSame one other
  all_same one other same space = ap (λ (state : RecoveryState K P M). space_of space state.spaces) same

  then_same : (one between other : RecoveryState K P M) → other ≡ between → AreSame one between → AreSame one other
  then_same one between other same spaces space = all_same between other same space ∙ spaces space

module _ {F K Q S M P : Type 0} (built : F → ℕ → ℕ → K) (words : ControllerSemantics K)
    (queue : QueueModel Q S M P) where
  abbrev Leads : List (SenderStep Q S M P) → RecoveryState K P M → RecoveryState K P M → Type 0
  Leads = StepsLeadTo built words queue

  timer_same : (due : Option (ℕ × Due)) (one other : RecoveryState K P M) → Leads (timed due ∷ []) one other
      → AreSame one other
  timer_same None one other leads = then_same one leads.0 other leads.3 leads.1.steps.spaces
  timer_same (Some due) one other leads = then_same one leads.0 other leads.3 leads.1.steps.spaces

  transmit_same : (now size : ℕ) (checked : Bool) (sent : Transmission) (one other : RecoveryState K P M)
      → Leads (transmit_steps now size checked sent) one other → AreSame one other
  transmit_same now size true Transmitted one other leads =
      then_same one leads.0 other leads.3 leads.1.steps.spaces
  transmit_same now size false Transmitted one other leads =
      then_same one leads.0 other leads.3 leads.1.steps.spaces
  transmit_same now size true (Delayed until ack) one other leads =
      then_same one leads.0 other leads.3 leads.1.steps.spaces
  transmit_same now size false (Delayed until ack) one other leads =
      then_same one leads.0 other leads.3 leads.1.steps.spaces
  transmit_same now size checked Blocked one other leads = all_same one other leads
  transmit_same now size checked (Full ack) one other leads = all_same one other leads

  rearmed_same : (kept : Variables) (one other : RecoveryState K P M)
      → RearmsTimer built words queue kept one other → AreSame one other
  rearmed_same kept one other (inl set) = all_same one other set.1
  rearmed_same kept one other (inr sets) = timer_same _ one other sets.1

module _ {F Q R C K S M P : Type 0} {f : _} {c : _} {q : _} {m : _} {r : _} where
  pub spaces_kept : (now size : ℕ) (checked : Bool) (kept : Transmission → Variables)
      (old new : Sender F Q R C K S M P f c q m r) (result : Result Transmission SenderError)
      → IfOk result (λ sent. CompletesCall (transmit_steps now size checked sent) (kept sent) old new)
      → OnErr result (new ≡ old) → KeepsSpaces old new
  spaces_kept now size checked kept old new (Ok sent) does same space =
      rearmed_same _ _ _ (kept sent) does.between (state_in new) does.sets space
      ∙ transmit_same _ _ _ now size checked sent (state_in old) does.between does.leads space
  spaces_kept now size checked kept old new (Err refusal) does same space =
      ap (λ (at : Sender F Q R C K S M P f c q m r). space_of space (state_in at).spaces) same

module _ {F Q R C K S M : Type 0} {f : _} {c : _} {q : _} {m : _} {r : _} where
  -- what is sent after it
  pub fills_before : (space : SpaceId) (outcome : Outgoing)
      (Goes : History Q S M (List ℕ) → History Q S M (List ℕ) → Type 0)
      (old between : Sender F Q R C K S M (List ℕ) f c q m r) (waits same : List Waiting)
      → Continues Goes old between → KeepsSpaces old between → same ≡ waits
      → FillsOutcome space (Ok outcome) (between, same) → FillsOutcome space (Ok outcome) (old, waits)
  fills_before space (outgoing.Sent packet items window) Goes old between waits same goes kept is fills =
      λ probe none own. (
      let has = fills probe none (past_after own goes) in (
        subst (λ (here : Space (List ℕ) M). (here.pending ≡ []) × CarryNone (packets_of here)) (kept space) has.0,
        ap (next_in space) (sym is) ∙ has.1,
      ))
  fills_before space outgoing.Nothing Goes old between waits same goes kept is fills = tt
  fills_before space (outgoing.Held held) Goes old between waits same goes kept is fills = tt
  fills_before space (outgoing.Failed refusal) Goes old between waits same goes kept is fills = tt

-- what waits longest is taken only in place of nothing
pub repeated_none : (repeated result : List ℕ) → (repeated ≡ []) ⊎ (result ≡ repeated) → result ≡ [] → repeated ≡ []
repeated_none repeated result (inl is) none = is
repeated_none repeated result (inr same) none = sym same ∙ none

-- an answer that reports no packet
pub fills_nothing : {A : Type 0} (end : End) (client server : A) → AtEnd end (λ (here : A). Unit {0}) client server
fills_nothing Client client server = tt
fills_nothing Server client server = tt
