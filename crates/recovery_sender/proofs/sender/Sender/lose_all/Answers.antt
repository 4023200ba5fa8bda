use Rattle.std.proofs.Common.{ℕ, ◌+◌, ◌≤◌, List, length, inl, inr, ap, arith}
use Rattle.std.proofs.lemmas.Bool.Decides.{leb_tells}
use Rattle.recovery_base.specs.Units.{u64_limit}
use Rattle.recovery_sender.specs.Senders.{state_in}
use Rattle.recovery_sender.specs.Spaces.{packets_in}
use Rattle.recovery_losses.proofs.RoomLaws.{below_all, count_first, count_next}
use Rattle.recovery_sender.proofs.RetransmitAllLaws.{below_end, none_beyond, room_next, tries_all, tries_next, tries_none}
use Rattle.recovery_sender.proofs.sender.Sender.lose_all.Goals as goal

pub loop-number-init : goal.loop-number-init
loop-number-init g c =
    let packets = packets_in (state_in c.args.self.now) c.args.space in
    record {
      tries = rw c.requires.none (tries_none c.args.space c.args.self.now);
      room = omega (
        arith,
        c.requires.room,
        count_first u64_limit packets,
        below_all u64_limit packets,
        ap (λ (list : List ℕ). length list) c.requires.none,
      );
      within = omega arith;
    }

pub lose-requires-clause-room : goal.lose-requires-clause-room
lose-requires-clause-room g c =
    let i = c.loop-number.invariant in
    let is = c.in-Some.ensures in
    omega (
      arith,
      i.room,
      c.loop-number.numbers.ok.0,
      count_next c.loop-number.from u64_limit c.in-Some.number (packets_in (state_in c.loop-number.self) c.args.space)
          is.tracked is.from_on (below_end c.args.space c.args.self.now _ _ _ _ i.tries _ is u64_limit
          c.requires.small),
    )

pub loop-number-preserved : goal.loop-number-preserved
loop-number-preserved g c =
    let i = c.loop-number.invariant in
    let is = c.in-Some.ensures in
    let numbers = c.lose.ensures.numbers in
    let tries = c.lose.ensures.tries in
    let small = below_end c.args.space c.args.self.now _ _ _ _ i.tries _ is u64_limit c.requires.small in
    let next = c.in-Some-checked_add.ensures.1 in
    record {
      tries = rw next (tries_next c.args.space c.args.self.now _ _ _ _ i.tries _ is _ _ _
          numbers tries);
      room = rw (next, c.lose.ensures.room) (room_next c.args.space c.args.self.now _ _ _ _
          i.tries _ is _ _ _ numbers tries _ u64_limit small i.room);
      within = omega (arith, small, next);
    }

pub returns-in_default-checked_add : goal.returns-in_default-checked_add
returns-in_default-checked_add g c =
    let i = c.loop-number.invariant in
    let is = c.in-Some.ensures in
    let next = tries_next c.args.space c.args.self.now _ _ _ _ i.tries _ is _ _ _ c.lose.ensures.numbers
    c.lose.ensures.tries in
    let end = elim (leb_tells u64_limit (c.in-Some.number + 1)) as (λ _. u64_limit ≤ c.in-Some.number + 1) [
      | inl beyond ↦ beyond.1
      | inr within ↦ absurd (c.in_default-checked_add.ensures within.1)
    ] in
    tries_all c.args.space c.args.self.now _ _ _ _ next (none_beyond c.args.space c.args.self.now _ _ _ _ next
    u64_limit c.requires.small end) (omega (
      arith,
      below_end c.args.space c.args.self.now _ _ _ _ i.tries _ is
          u64_limit c.requires.small,
    ))

pub returns-in_default : goal.returns-in_default
returns-in_default g c =
    let i = c.loop-number.invariant in
    tries_all c.args.space c.args.self.now _ _ _ _ i.tries c.in_default.ensures i.within
