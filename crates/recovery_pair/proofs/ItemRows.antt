-- Worked rows of what is sent again and of probes, computed: with the right log and answer each promise holds, and with
-- a wrong one it does not. Nothing rests on them.
use Rattle.std.proofs.Common.{◌≡◌, ℕ, Bool, true, false, true≢false, [], ◌∷◌, length, Option, None, Some, Ok, refl, sym, arith}
use Rattle.std.proofs.lemmas.List.{length-append}
use Rattle.std.specs.Global.{Vec}
use Rattle.recovery_base.specs.declared.below.SpaceId.TheVariants.{Data, Initial}
use Rattle.recovery_sender.specs.declared.sender.SenderError.{SenderError}
use Rattle.recovery_sender.specs.declared.sender.losses.Losses.{Losses}
use Rattle.recovery_sender.specs.declared.sender.packets.Transmission.{Transmission}
use Rattle.recovery_sender.specs.declared.sender.packets.Transmission.TheVariants.{Blocked, Delayed, Full, Transmitted}
use Rattle.recovery_sender.specs.declared.sender.probes.Timeout.TheVariants.{Lost, Probe}
use Rattle.recovery_pair.proofs.PairRows.{no_frame}
use Rattle.recovery_pair.specs.declared.steps.End.TheVariants.{Client, Server}
use Rattle.recovery_pair.specs.declared.steps.LocalStep.TheVariants.{Discard, Expire, Hand}
use Rattle.recovery_pair.specs.declared.steps.PairAnswer.TheVariants.{Done, Expired, Failed, Held, Nothing, Sent}
use Rattle.recovery_pair.specs.declared.steps.PairStep.TheVariants.{Local, Send}
use Rattle.recovery_pair.specs.Logs.{PairEvent, PairLog}
use Rattle.recovery_pair.specs.Promises.Passed.{SendsWhatIsPassed}
use Rattle.recovery_pair.specs.Promises.Probes.{ProbesForFlight}
use Rattle.recovery_pair.specs.Promises.Repeats.{RepeatsWithCause, probed_in}
use Rattle.recovery_pair.specs.Promises.Resends.{AddsItems, ResendsWhatIsLost, lost_in}

-- how many items there are
counts_items : AddsItems length
counts_items = record { none = refl; joined = λ items more. length-append items more }

module _ (items other : Vec ℕ) (losses : Losses) (lost : losses.numbers.items ≡ 0 ∷ []) (none : losses.probe ≡ None)
  where
    abbrev passed_on : PairLog
    passed_on = (Send Client Data 5 60, Ok (Sent 0 items true None no_frame))
        ∷ (Local Client (Hand Data items), Ok Done) ∷ []

    -- number 0 is reported as lost
    abbrev one_lost : PairLog
    one_lost = (Local Client (Expire 9), Ok (Expired (Lost Data losses))) ∷ passed_on

    -- these items are sent under number 1
    abbrev then_sent : Vec ℕ → PairLog
    then_sent these = (Send Client Data 10 60, Ok (Sent 1 these true None no_frame)) ∷ one_lost

    abbrev nothing_more : PairEvent
    nothing_more = (Send Client Data 11 60, Ok Nothing)

    it_is_lost : lost_in Client Data length one_lost ≡ length items.items
    it_is_lost = rw (lost, none) (omega arith)

    not_in_another_space : lost_in Client Initial length one_lost ≡ 0
    not_in_another_space = refl

    not_at_the_server : lost_in Server Data length one_lost ≡ 0
    not_at_the_server = refl

    none_is_lost : ResendsWhatIsLost passed_on nothing_more
    none_is_lost keys measure adds = omega arith

    it_is_sent_again : ResendsWhatIsLost (then_sent items) nothing_more
    it_is_sent_again keys measure adds = rw (lost, none) (omega arith)

    it_was_not_sent_again : items.items ≡ 7 ∷ [] → ¬ ResendsWhatIsLost one_lost nothing_more
    it_was_not_sent_again these resends =
        let most = rw (lost, none, these) at (resends refl length counts_items) in absurd (omega (arith, most))

    too_few_were_sent_again : items.items ≡ 7 ∷ 8 ∷ [] → other.items ≡ 7 ∷ []
        → ¬ ResendsWhatIsLost (then_sent other) nothing_more
    too_few_were_sent_again these those resends =
        let most = rw (lost, none, these, those) at (resends refl length counts_items) in absurd (omega (arith, most))

    not_without_keys : ResendsWhatIsLost ((Local Client (Discard Data 10), Ok Done) ∷ one_lost) nothing_more
    not_without_keys keys measure adds = absurd (true≢false keys)

-- ---- nothing is sent again without cause

module _ (items : Vec ℕ) where
  -- the same items are sent under this number, for this window
  abbrev sends_them : ℕ → Option ℕ → PairEvent
  sends_them n window = (Send Client Data 10 60, Ok (Sent n items true window no_frame))

  -- they were passed once, and are sent for a window
  abbrev sent_once : PairLog
  sent_once = sends_them 0 (Some 1500) ∷ (Local Client (Hand Data items), Ok Done) ∷ []

  no_probe_yet : probed_in Client Data length sent_once ≡ 0
  no_probe_yet = refl

  once_is_right : RepeatsWithCause sent_once
  once_is_right Client Data tracks measure adds = omega arith
  once_is_right Client space tracks measure adds = omega arith
  once_is_right Server space tracks measure adds = omega arith

  -- a probe repeats them
  a_probe_may : RepeatsWithCause (sends_them 1 None ∷ sent_once)
  a_probe_may Client Data tracks measure adds = omega arith
  a_probe_may Client space tracks measure adds = omega arith
  a_probe_may Server space tracks measure adds = omega arith

  another_packet_may_not : items.items ≡ 7 ∷ [] → ¬ RepeatsWithCause (sends_them 1 (Some 1500) ∷ sent_once)
  another_packet_may_not these repeats =
      let most = rw these at (repeats Client Data refl length counts_items) in absurd (omega (arith, most))

  nor_after_the_probe : items.items ≡ 7 ∷ []
      → ¬ RepeatsWithCause (sends_them 2 (Some 1500) ∷ sends_them 1 None ∷ sent_once)
  nor_after_the_probe these repeats =
      let most = rw these at (repeats Client Data refl length counts_items) in absurd (omega (arith, most))

  nor_if_never_passed : items.items ≡ 7 ∷ [] → ¬ RepeatsWithCause (sends_them 0 (Some 1500) ∷ [])
  nor_if_never_passed these repeats =
      let most = rw these at (repeats Client Data refl length counts_items) in absurd (omega (arith, most))

  -- number 0 is reported as lost
  module _ (losses : Losses) (lost : losses.numbers.items ≡ 0 ∷ []) (none : losses.probe ≡ None) where
    abbrev then_lost : PairLog
    then_lost = (Local Client (Expire 9), Ok (Expired (Lost Data losses))) ∷ sent_once

    once_more_if_lost : RepeatsWithCause (sends_them 1 (Some 1500) ∷ then_lost)
    once_more_if_lost Client Data tracks measure adds = rw (lost, none) (omega arith)
    once_more_if_lost Client space tracks measure adds = omega arith
    once_more_if_lost Server space tracks measure adds = omega arith

    not_twice : items.items ≡ 7 ∷ []
        → ¬ RepeatsWithCause (sends_them 2 (Some 1500) ∷ sends_them 1 (Some 1500) ∷ then_lost)
    not_twice these repeats =
        let most = rw (lost, none, these) at (repeats Client Data refl length counts_items) in
        absurd (omega (arith, most))

  -- nothing is invented: what was passed is sent
  passed_is_right : SendsWhatIsPassed sent_once
  passed_is_right Client measure adds Data none = omega (arith, none)
  passed_is_right Client measure adds space none = refl
  passed_is_right Server measure adds space none = refl

  -- and nothing else is, not even by a probe
  never_passed : items.items ≡ 7 ∷ [] → ¬ SendsWhatIsPassed (sends_them 0 None ∷ [])
  never_passed these passed =
      let zero = rw these at (passed Client length counts_items Data refl) in absurd (omega (arith, zero))

  passed_in_another_space : items.items ≡ 7 ∷ []
      → ¬ SendsWhatIsPassed (sends_them 0 None ∷ (Local Client (Hand Initial items), Ok Done) ∷ [])
  passed_in_another_space these passed =
      let zero = rw these at (passed Client length counts_items Data refl) in absurd (omega (arith, zero))

  -- a packet that could not be tracked ends the promise in its space
  not_after_a_failure : (refusal : SenderError)
      → RepeatsWithCause (sends_them 1 (Some 1500) ∷ (Send Client Data 10 60, Ok (Failed refusal)) ∷ sent_once)
  not_after_a_failure refusal Client Data tracks measure adds = absurd (true≢false tracks)
  not_after_a_failure refusal Client space tracks measure adds = omega arith
  not_after_a_failure refusal Server space tracks measure adds = omega arith

-- ---- probes that are asked for

-- the client's timer expires, and asks for probes
abbrev asks : PairLog
asks = (Local Client (Expire 9), Ok (Expired (Probe Data 2))) ∷ []

abbrev held_back : Transmission → PairEvent
held_back held = (Send Client Data 10 60, Ok (Held held))

the_limit_may_block_it : ProbesForFlight asks (held_back Blocked)
the_limit_may_block_it asked = refl

the_window_may_not : (ack : Bool) → ¬ ProbesForFlight asks (held_back (Full ack))
the_window_may_not ack probes = absurd (let blocked = probes refl in cc)

nor_the_pacer : (until : ℕ) (ack : Bool) → ¬ ProbesForFlight asks (held_back (Delayed until ack))
nor_the_pacer until ack probes = absurd (let blocked = probes refl in cc)

it_may_not_be_idle : ¬ ProbesForFlight asks (Send Client Data 10 60, Ok Nothing)
it_may_not_be_idle probes = absurd (probes refl refl)

another_space_may_idle : ProbesForFlight asks (Send Client Initial 10 60, Ok Nothing)
another_space_may_idle asked keys = absurd (true≢false (sym asked))

the_server_may_be_full : ProbesForFlight asks (Send Server Data 10 60, Ok (Held (Full false)))
the_server_may_be_full asked = absurd (true≢false (sym asked))

it_may_without_keys : ProbesForFlight ((Local Client (Expire 9), Ok (Expired (Probe Data 2)))
    ∷ (Local Client (Discard Data 8), Ok Done) ∷ []) (Send Client Data 10 60, Ok Nothing)
it_may_without_keys asked keys = absurd (true≢false keys)

-- another step comes first
it_lapses : ProbesForFlight ((Local Client (Discard Initial 9), Ok Done) ∷ asks) (held_back (Full false))
it_lapses asked = absurd asked

it_is_not_permitted : ¬ ProbesForFlight asks (held_back Transmitted)
it_is_not_permitted probes = absurd (let blocked = probes refl in cc)

module _ (items : Vec ℕ) where
  a_probe_with_items_may : ¬ (items.items ≡ [])
      → ProbesForFlight asks (Send Client Data 10 60, Ok (Sent 1 items true None no_frame))
  a_probe_with_items_may some = (λ asked. refl, λ probe none. absurd (some none))

  not_for_a_window : ¬ ProbesForFlight asks (Send Client Data 10 60, Ok (Sent 1 items true (Some 1500) no_frame))
  not_for_a_window probes = true≢false (sym (probes.0 refl))

  not_an_ack_alone : ¬ ProbesForFlight asks (Send Client Data 10 60, Ok (Sent 1 items false None no_frame))
  not_an_ack_alone probes = true≢false (sym (probes.0 refl))

  not_an_empty_one : (empty : Vec ℕ) → empty.items ≡ [] → items.items ≡ 7 ∷ []
      → ¬ ProbesForFlight (sent_once items) (Send Client Data 10 60, Ok (Sent 1 empty true None no_frame))
  not_an_empty_one empty none these probes =
      let most = rw these at (probes.1 refl none refl refl length counts_items (0 ∷ []) (omega arith, refl, tt)) in
      absurd (omega (arith, most))
