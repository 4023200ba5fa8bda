use Rattle.std.proofs.Common.{◌≡◌, ap, refl, sym, ◌∙◌}
use Rattle.std.proofs.lemmas.List.{map-id}
use Rattle.std.proofs.lemmas.Iterator.Adapters.{YieldsList-from_vec}
use Rattle.std.proofs.lemmas.Iterator.Consumers.{YieldsList-end}
use Rattle.recovery_events.proofs.FeedingLaws.{takes_push}
use Rattle.recovery_events.proofs.feeding.VecSource.feed.Goals as goal

pub loop-item-init : goal.loop-item-init
loop-item-init g c = refl

pub loop-item-preserved : goal.loop-item-preserved
loop-item-preserved g c = takes_push _ _ _ _ _ _ c.loop-item.invariant c.put.ensures

-- the loop went over all items
all_seen : (g : _) (c : goal.After-drop-item-iterator g) → c.loop-item.yielded ≡ c.args.self.now.items
all_seen g c =
    let gives = c.into_iter-item-iterator.ensures.into_iter_gives in
    let same = ap (λ l. l.items) c.replace-items.ensures.value in
    let each = YieldsList-from_vec {s = c.into_iter-item-iterator.result} c.replace-items.result.items gives.0
    (search (gives)) in
    let seen = YieldsList-end each c.loop-item.yielded c.loop-item.item-iterator c.loop-item.yielded_by
    c.next.result c.next.new.self c.in-None.is c.next.ensures.steps in
    sym (map-id c.loop-item.yielded) ∙ seen.0 ∙ same

pub returns : goal.returns
returns g c = record {
  items = c.loop-item.yielded;
  given = all_seen g c;
  taken = c.loop-item.invariant;
}
