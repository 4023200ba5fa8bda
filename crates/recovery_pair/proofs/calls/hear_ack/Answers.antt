use Rattle.std.proofs.Common.{ℕ, List, None, false, Err, refl, subst}
use Rattle.recovery_sender.specs.Acking.{AckResult}
use Rattle.recovery_pair.proofs.HonestLaws.{has_largest, no_largest, refused_spared, some_items, taken_within}
use Rattle.recovery_pair.proofs.QuietLaws.{ack_ending, same_quietly, within_any}
use Rattle.recovery_pair.proofs.TimedLaws.{ack_timer, same_timer}
use Rattle.recovery_pair.proofs.NewlyLaws.{taken_flight}
use Rattle.recovery_pair.proofs.SampleLaws.{taken_sampled}
use Rattle.recovery_pair.proofs.ItemLaws.{ack_carries, same_carries}
use Rattle.recovery_pair.proofs.FallLaws.{ack_finds, finds_none}
use Rattle.recovery_pair.proofs.LeastLaws.{ack_least}
use Rattle.recovery_pair.proofs.calls.hear_ack.Goals as goal

pub returns-in-Ok-clause-goes : goal.returns-in-Ok-clause-goes
returns-in-Ok-clause-goes g c = ack_ending _ _ _ _ _ _ _ c.in-Ok.ensures refl

pub returns-then-is_empty-clause-goes : goal.returns-then-is_empty-clause-goes
returns-then-is_empty-clause-goes g c = within_any _ c.args.sender.now c.args.sender.now
    (same_quietly c.args.sender.now c.args.sender.now refl)

pub returns-in-Err-clause-goes : goal.returns-in-Err-clause-goes
returns-in-Err-clause-goes g c = within_any _ c.args.sender.now c.on_ack.new.self
    (same_quietly c.args.sender.now c.on_ack.new.self c.in-Err.ensures.0)

pub returns-in-Ok-clause-within : goal.returns-in-Ok-clause-within
returns-in-Ok-clause-within g c = rw (← c.deref.ensures.value)
    (taken_within c.args.packet.now.space c.args.now _ _ c.args.sender.now c.on_ack.new.self c.in-Ok.acknowledged
    c.in-Ok.ensures)

pub returns-in-Ok-clause-sampled : goal.returns-in-Ok-clause-sampled
returns-in-Ok-clause-sampled g c = rw (← c.deref.ensures.value)
    (taken_sampled c.args.packet.now.space c.args.now _ _ c.args.sender.now c.on_ack.new.self c.in-Ok.acknowledged
    c.in-Ok.ensures)

pub returns-in-Ok-clause-newly : goal.returns-in-Ok-clause-newly
returns-in-Ok-clause-newly g c = rw (← c.deref.ensures.value)
    (taken_flight c.args.packet.now.space c.args.now _ _ c.args.sender.now c.on_ack.new.self c.in-Ok.acknowledged
    c.in-Ok.ensures)

pub returns-then-is_empty-clause-framed : goal.returns-then-is_empty-clause-framed
returns-then-is_empty-clause-framed g c = no_largest c.args.packet.now.ranges c.if-is_empty.ensures

pub returns-in-Ok-clause-framed : goal.returns-in-Ok-clause-framed
returns-in-Ok-clause-framed g c = has_largest c.args.packet.now.ranges.items
    (some_items c.args.packet.now.ranges c.if-is_empty.ensures)

pub returns-in-Err-clause-framed : goal.returns-in-Err-clause-framed
returns-in-Err-clause-framed g c = has_largest c.args.packet.now.ranges.items
    (some_items c.args.packet.now.ranges c.if-is_empty.ensures)

pub returns-in-Err-clause-honest : goal.returns-in-Err-clause-honest
returns-in-Err-clause-honest g c =
    refused_spared c.args.packet.now.space c.args.now c.args.packet.now.ranges.items
    (record { delay = c.args.packet.now.delay; ecn = None; app_limited = false; received = None }) c.args.sender.now
    c.on_ack.new.self c.in-Err.refused (some_items c.args.packet.now.ranges c.if-is_empty.ensures)
    (subst (λ (ranges : List (ℕ × ℕ)). AckResult c.args.packet.now.space c.args.now ranges
    (record { delay = c.args.packet.now.delay; ecn = None; app_limited = false; received = None }) c.args.sender.now
    c.on_ack.new.self (Err c.in-Err.refused)) c.deref.ensures.value c.in-Err.ensures)

pub returns-in-Ok-clause-timer : goal.returns-in-Ok-clause-timer
returns-in-Ok-clause-timer g c = ack_timer c.args.sender.now c.on_ack.new.self c.args.packet.now.space c.args.now _ _
    c.in-Ok.acknowledged c.in-Ok.ensures

pub returns-in-Err-clause-timer : goal.returns-in-Err-clause-timer
returns-in-Err-clause-timer g c = same_timer _ _ c.in-Err.ensures.0

pub returns-in-Ok-clause-items : goal.returns-in-Ok-clause-items
returns-in-Ok-clause-items g c = ack_carries _ _ _ _ _ _ _ c.in-Ok.ensures refl

pub returns-then-is_empty-clause-items : goal.returns-then-is_empty-clause-items
returns-then-is_empty-clause-items g c = same_carries _ _ refl

pub returns-in-Err-clause-items : goal.returns-in-Err-clause-items
returns-in-Err-clause-items g c = same_carries _ _ c.in-Err.ensures.0

pub returns-in-Ok-clause-least : goal.returns-in-Ok-clause-least
returns-in-Ok-clause-least g c = ack_least _ _ _ _ _ _ _ c.in-Ok.ensures

pub returns-in-Ok-clause-finds : goal.returns-in-Ok-clause-finds
returns-in-Ok-clause-finds g c = ack_finds _ _ _ _ _ _ _ c.in-Ok.ensures refl

pub returns-then-is_empty-clause-finds : goal.returns-then-is_empty-clause-finds
returns-then-is_empty-clause-finds g c = finds_none c.args.sender.now c.args.sender.now _ _ _ c.args.now
    (within_any _ c.args.sender.now c.args.sender.now (same_quietly c.args.sender.now c.args.sender.now refl))

pub returns-in-Err-clause-finds : goal.returns-in-Err-clause-finds
returns-in-Err-clause-finds g c = finds_none c.args.sender.now c.on_ack.new.self _ _ _ c.args.now
    (within_any _ c.args.sender.now c.on_ack.new.self
    (same_quietly c.args.sender.now c.on_ack.new.self c.in-Err.ensures.0))
