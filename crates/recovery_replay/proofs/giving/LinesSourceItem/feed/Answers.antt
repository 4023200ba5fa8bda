use Rattle.std.proofs.Common.{refl, rules}
use Rattle.recovery_replay.proofs.giving.LinesSourceItem.feed.Goals as goal

pub returns : goal.returns
returns g c = record {
  items = c.give_all-self.ensures.items;
  given = (search rules, search rules, c.give_all-self.ensures.given);
  taken = c.give_all-self.ensures.taken;
}
