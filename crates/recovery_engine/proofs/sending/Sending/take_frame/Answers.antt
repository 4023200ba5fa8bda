use Rattle.std.proofs.Common.{◌≡◌, ℕ, ◌⊎◌, true, false, List, [], map, Ok, Err, refl, subst, inl, inr, ap, arith, ◌∙◌}
use Rattle.std.specs.Option.{option_map_or}
use Rattle.recovery_events.specs.declared.event.Refusal.TheVariants.{NoMemory}
use Rattle.recovery_spaces.specs.Spaces.{packets_of}
use Rattle.recovery_sender.specs.declared.sender.SenderError.TheVariants as refused
use Rattle.recovery_sender.proofs.PromiseLaws.{takes_ack}
use Rattle.recovery_sender.specs.Acks.{AckChecked}
use Rattle.recovery_sender.specs.Senders.{state_in}
use Rattle.recovery_sender.specs.Spaces.{packets_in}
use Rattle.recovery_engine.specs.Kept.{packets_listed}
use Rattle.recovery_engine.specs.Sending.{range_given}
use Rattle.recovery_engine.proofs.sending.Sending.take_frame.Goals as goal

pub returns-in-Err : goal.returns-in-Err
returns-in-Err c =
    let given : c.deref.result.now ≡ map range_given c.args.given.now =
    grind (arith, c.deref.ensures.value, c.if-not-fill.ensures.ranges) in
    inl (inl (record {
      reply = Err c.in-Err.refused;
      comes = (
        refl,
        subst (λ (ranges : List (ℕ × ℕ)). AckChecked c.args.frame.space ranges c.args.self.now.sender.recovery.recovery
            (Err c.in-Err.refused) ⊎ (c.in-Err.refused ≡ refused.Event NoMemory)) given c.in-Err.ensures,
      );
      fits = tt;
      spells = c.spell_refused.ensures;
      told = refl;
    }))

pub returns-then-not-list_packets : goal.returns-then-not-list_packets
returns-then-not-list_packets c = inl (inl (record {
  reply = Err (refused.Event NoMemory);
  comes = (refl, inr refl);
  fits = tt;
  spells = c.no_memory-then-not-list_packets.ensures;
  told = refl;
}))

pub returns-then-not-has_room_for : goal.returns-then-not-has_room_for
returns-then-not-has_room_for c =
    let given : c.deref.result.now ≡ map range_given c.args.given.now =
    grind (arith, c.deref.ensures.value, c.if-not-fill.ensures.ranges) in
    let same = ap packets_of c.here.view_is ∙ ap (λ there. option_map_or packets_of there [])
    (rw c.recovery.ensures at c.in-Some.ensures) in
    let listed : c.list_packets.new.packets.items
    ≡ packets_listed (packets_in (state_in c.args.self.now.sender) c.args.frame.space) c.in-Ok.newly.numbers.items =
    rw (same, c.deref-2.ensures.value) at (c.if-not-list_packets.ensures refl) in
    inl (inr (record {
      newly = c.in-Ok.newly;
      acceptable = rw given at c.in-Ok.ensures;
      lacks = λ has.
          let never : false ≡ true = (rw (c.deref-3.ensures.value ∙ listed) at c.if-not-has_room_for.ensures).1 has in
          absurd cc;
      spells = rw (c.deref-then-not-has_room_for.ensures.value ∙ listed) at c.spell_room-needed.ensures;
      sender = refl;
      told = refl;
    }))

pub returns : goal.returns
returns c =
    let given : c.deref.result.now ≡ map range_given c.args.given.now =
    grind (arith, c.deref.ensures.value, c.if-not-fill.ensures.ranges) in
    let named : c.deref-4.result.now ≡ map range_given c.args.given.now =
    grind (arith, c.deref-4.ensures.value, c.if-not-fill.ensures.ranges) in
    let same = ap packets_of c.here.view_is ∙ ap (λ there. option_map_or packets_of there [])
    (rw c.recovery.ensures at c.in-Some.ensures) in
    let listed : c.list_packets.new.packets.items
    ≡ packets_listed (packets_in (state_in c.args.self.now.sender) c.args.frame.space)
    c.on_newly_acked-acked.result.numbers.items =
    rw (same, c.deref-2.ensures.value, ← c.on_newly_acked-acked.ensures.numbers) at (c.if-not-list_packets.ensures
    refl) in
    inl (inl (record {
      reply = Ok c.on_newly_acked-acked.result;
      comes = rw c.keep.ensures.sender (takes_ack _ _ _ _ _ _ _ _ (rw given at c.in-Ok.ensures)
          (rw named at c.on_newly_acked-acked.ensures));
      fits = (
        c.in-Ok.newly,
        rw given at c.in-Ok.ensures,
        (rw (c.deref-3.ensures.value ∙ listed) at c.if-not-has_room_for.ensures).0 refl,
      );
      spells = c.spell_acknowledged-reply.ensures;
      told = (c.keep.ensures.acked, grind (arith, c.keep.ensures.packets, listed));
    }))
