use Rattle.std.proofs.Common.{refl}
use Rattle.recovery_pair.proofs.FilledLaws.{repeated_none}
use Rattle.recovery_pair.proofs.ItemLaws.{same_carries}
use Rattle.recovery_pair.proofs.ItemMoves.{keeps_move}
use Rattle.recovery_pair.proofs.endpoint.Endpoint.take_items.Goals as goal

pub returns-in-Err-copied-clause-timer : goal.returns-in-Err-copied-clause-timer
returns-in-Err-copied-clause-timer g c = rw c.keep.ensures.goes c.in-Ok.ensures.timer

pub returns-in-Err-copied-2-clause-timer : goal.returns-in-Err-copied-2-clause-timer
returns-in-Err-copied-2-clause-timer g c = rw c.keep-in-Err-copied-2.ensures.goes c.in-Ok.ensures.timer

pub returns-clause-filled : goal.returns-clause-filled
returns-clause-filled g c = λ on none own. (
  c.in-Ok.ensures.filled on (repeated_none _ _ c.take_waiting-queue.ensures.first none) own,
  c.take_waiting-queue.ensures.next none,
)

pub returns-in-Err-copied-clause-items : goal.returns-in-Err-copied-clause-items
returns-in-Err-copied-clause-items g c = keeps_move c.args.probe c.args.space c.take_waiting-queue.result
    _ _ _ _ _ _ _ (record {
      queued = c.in-Ok.queue;
      goes = c.in-Ok.ensures.items;
      exchanges = c.take_waiting-queue.ensures.items;
      first = c.take_waiting-queue.ensures.first;
    }) (same_carries _ _ c.keep.ensures.goes) c.keep.ensures.items refl

pub returns-in-Err-copied-2-clause-items : goal.returns-in-Err-copied-2-clause-items
returns-in-Err-copied-2-clause-items g c = keeps_move c.args.probe c.args.space c.take_waiting-queue.result
    _ _ _ _ _ _ _ (record {
      queued = c.in-Ok.queue;
      goes = c.in-Ok.ensures.items;
      exchanges = c.take_waiting-queue.ensures.items;
      first = c.take_waiting-queue.ensures.first;
    }) (same_carries _ _ c.keep-in-Err-copied-2.ensures.goes) c.keep-in-Err-copied-2.ensures.items refl
