use Rattle.std.proofs.Common.{ℕ, List, [], length, ap, refl, arith}
use Rattle.recovery_losses.proofs.DetectionPassLaws.{looked_first, looked_end}
use Rattle.recovery_losses.proofs.RoomLaws.{count_first}
use Rattle.recovery_losses.proofs.TriesLaws.{tries_first, tries_end}
use Rattle.recovery_sender.specs.Attempts.{tried_in}
use Rattle.recovery_sender.specs.Senders.{state_in}
use Rattle.recovery_sender.specs.Spaces.{packets_in}
use Rattle.recovery_sender.proofs.FindLaws.{finds_on, one_fewer, room_on}
use Rattle.recovery_sender.proofs.sender.Sender.find_lost.Goals as goal

pub loop-packet-init : goal.loop-packet-init
loop-packet-init g c =
    let packets = packets_in (state_in c.args.self.now) c.args.look.now.space in
    record {
      finds = rw (c.requires.none, c.new-tally.ensures) (record {
        looked = looked_first c.args.look.now packets;
        attempts = [];
        tries = tries_first c.args.look.now packets;
        declared = refl;
        cut = refl;
        goes = record { leads = refl; variables = refl };
      });
      within = omega arith;
      room = omega (
        arith,
        c.requires.room,
        count_first c.args.look.now.largest packets,
        ap (λ (list : List ℕ). length list) c.requires.none,
      );
    }

pub judge-requires-clause-room : goal.judge-requires-clause-room
judge-requires-clause-room g c =
    let i = c.loop-packet.invariant in
    omega (
      arith,
      i.room,
      c.loop-packet.numbers.ok.0,
      one_fewer c.args.look.now _ _ _ _ _ i.finds _ c.in-Some.ensures.next,
    )

pub loop-packet-preserved : goal.loop-packet-preserved
loop-packet-preserved g c =
    let i = c.loop-packet.invariant in
    record {
      finds = finds_on c.args.look.now _ _ _ _ _ i.finds _ c.in-Some.ensures.next _ _ _ c.judge.ensures.becomes;
      within = omega (arith, c.in-Some.ensures.next.below.1);
      room = rw c.judge.ensures.room (room_on c.args.look.now _ _ _ _ _ i.finds _ c.in-Some.ensures.next _ _ _ _
          c.judge.ensures.becomes i.room);
    }

pub returns : goal.returns
returns g c =
    let i = c.loop-packet.invariant in
    let found = i.finds in
    let packets = packets_in (state_in c.args.self.now) c.args.look.now.space in
    record {
      looked = looked_end c.args.look.now packets c.loop-packet.from _ _ _ found.looked c.args.look.now.largest
          i.within c.in_default.ensures.next;
      attempts = found.attempts;
      tries = tries_end c.args.look.now packets c.loop-packet.from _ (tried_in found.attempts) _ _ found.looked
          found.tries c.args.look.now.largest i.within c.in_default.ensures.next;
      declared = found.declared;
      cut = found.cut;
      goes = found.goes;
    }
