use Rattle.recovery_paths.proofs.BalanceLaws.{can_track}
use Rattle.std.proofs.Common.{◌≡◌, ℕ, Option, Ok, Err, refl, sym, ap, ◌∙◌, arith}
use Rattle.recovery_congestion.specs.Calls.{sends as sends_bytes}
use Rattle.recovery_spaces.specs.declared.paths.LedgerError.{LedgerError}
use Rattle.recovery_spaces.specs.Packets.{Packet, entry_number}
use Rattle.recovery_spaces.specs.Spaces.{next_number_of}
use Rattle.recovery_spaces.specs.Tracked.{packet_sent}
use Rattle.recovery_spaces.proofs.ReceivedLaws.{fails}
use Rattle.recovery_paths.specs.PathStates.{after_telling}
use Rattle.recovery_paths.specs.declared.path_pair.PathName.TheVariants.{Current}
use Rattle.recovery_paths.proofs.BalanceLaws.{on_state_kept}
use Rattle.recovery_history.specs.Numbers.{number_behind, skipping_behind}
use Rattle.quic_recovery.specs.State.{state_of}
use Rattle.recovery_history.proofs.NumberLaws.{number_above}
use Rattle.recovery_history.proofs.SendLaws.{sent_balanced, send_changes}
use Rattle.quic_recovery.proofs.driver.Recovery.send.Goals as goal

ok_is_no_err : {P M : Type 0} (forgotten : Option (ℕ × Packet P M)) (error : LedgerError) → Ok forgotten ≡ Err error → ⊥
ok_is_no_err forgotten error e = cc

pub sent-requires : goal.sent-requires
sent-requires g c =
    let there = c.index_mut-here.ensures.value in
    let next = c.next_packet_number-next.ensures ∙ ap next_number_of there in
    let behind = number_above c.args.self.now.filter c.args.space c.next_packet_number-next.result in
    rw there (can_track _ _ c.args.self.now.balanced _ _ _ c.generation.ensures (omega arith))

pub invariant_of-self-2 : goal.invariant_of-self-2
invariant_of-self-2 g c =
    let packet = packet_sent c.generation.result c.args.now c.args.size c.args.ack_eliciting c.args.largest_acked
    (g.Q.RetransmitQueue.contents c.args.queue) c.args.stream_frames in
    let there = c.index_mut-here.ensures.value in
    let next = c.next_packet_number-next.ensures ∙ ap next_number_of there in
    let behind = number_above c.args.self.now.filter c.args.space c.next_packet_number-next.result in
    let is = rw (c.in-Ok.ensures.space, there) at c.on_sent.ensures in
    let counts = rw (c.in-Ok.ensures.forgotten, there) at c.in-Ok.ensures.paths in
    record {
      balanced = rw (c.on_sent-2.ensures, counts) (on_state_kept _ _
          (sent_balanced _ _ c.args.self.now.balanced c.args.space
          c.number_behind-number.result packet c.generation.ensures
          (omega arith) _ _ (λ large. fails _ (c.if-is_too_large.false) (c.is_too_large.ensures.1 large)) is
          refl) Current
          (after_telling g.F.Controller.Controller.words
          (sends_bytes c.args.now c.from.result c.number_behind-number.result)));
      limited = c.args.self.now.limited;
    }

pub returns : goal.returns
returns g c =
    let old = state_of c.args.self.now in
    let there = c.index_mut-here.ensures.value in
    let next = c.next_packet_number-next.ensures ∙ ap next_number_of there in
    let number = c.number_behind-number.ensures ∙ ap (number_behind old.skipping.filter c.args.space) next in
    let is = rw (c.in-Ok.ensures.space, there) at c.on_sent.ensures in
    let gone = rw there at c.in-Ok.ensures.forgotten in
    let tells = rw (c.from.ensures, c.in-Ok.ensures.paths, gone) at c.on_sent-2.ensures in
    send_changes _ _ c.args.self.now.balanced _ _ _ _ _ _ _
    (sym c.if-contains.ensures) (λ large. fails _ (c.if-is_too_large.false) (c.is_too_large.ensures.1 large))
    _ _ _ _ _ _
    c.generation.ensures number (omega arith)
    (λ over. ok_is_no_err _ _ (c.in-Ok.ensures.overflow.1 over))
    (c.number_of.ensures ∙ ap entry_number gone) is (c.draw_skip.ensures
    ∙ ap (λ (n : ℕ). skipping_behind c.args.space n old.skipping) next) tells
