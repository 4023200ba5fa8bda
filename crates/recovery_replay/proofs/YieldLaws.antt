-- The items that a sink took: `give`, `give_all` and the calls of a script rest on it.
use Rattle.std.proofs.Common.{List, [], ◌∷◌, ◌++◌, refl}
use Rattle.recovery_events.proofs.FeedingLaws.{takes_more}
use Rattle.recovery_replay.specs.Giving.{YieldsItems}

module _ {S T : Type 0} (takes : S → T → S → Type 0) where
  pub none_given : (P : List T → Type 0) (sink : S) → P [] → YieldsItems takes P sink sink
  none_given P sink here = record { items = []; taken = refl; given = here }

  pub one_given : (P : List T → Type 0) (old new : S) (item : T) → takes old item new
      → P (item ∷ []) → YieldsItems takes P old new
  one_given P old new item taken here =
      record { items = item ∷ []; taken = (new, taken, refl); given = here }

  pub given_so : (P Q : List T → Type 0) (old new : S) → YieldsItems takes P old new
      → ((items : List T) → P items → Q items) → YieldsItems takes Q old new
  given_so P Q old new y so = record { items = y.items; taken = y.taken; given = so y.items y.given }

  pub joined : (P Q R : List T → Type 0) (old mid new : S) → YieldsItems takes P old mid
      → YieldsItems takes Q mid new
      → ((one two : List T) → P one → Q two → R (one ++ two)) → YieldsItems takes R old new
  joined P Q R old mid new y z so = record {
    items = y.items ++ z.items;
    taken = takes_more takes old y.items mid z.items new y.taken z.taken;
    given = so y.items z.items y.given z.given;
  }
