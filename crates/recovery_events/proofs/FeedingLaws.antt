-- Laws of a sink that takes several items.
use Rattle.std.proofs.Common.{◌≡◌, ◌≤◌, ◌+◌, arith, List, [], ◌∷◌, ◌++◌, length, vec_capacity, refl, ap, sym, ◌∙◌}
use Rattle.std.specs.Global.{Vec}
use Rattle.std.proofs.lemmas.List.{length-append, append-nil, append_assoc}
use Rattle.recovery_events.specs.Feeding.{PushesInto, TakesAll}

-- some items, and then others
pub takes_more : {S T : Type 0} (takes : S → T → S → Type 0) (old : S) (first : List T) (between : S) (second : List T)
    (new : S) → TakesAll takes old first between → TakesAll takes between second new
    → TakesAll takes old (first ++ second) new
takes_more takes old [] between second new is then = rw (sym is) then
takes_more takes old (item ∷ first) between second new is then =
    (is.0, is.1, takes_more takes is.0 first between second new is.2 then)

-- one item more
pub takes_push : {S T : Type 0} (takes : S → T → S → Type 0) (old : S) (items : List T) (between : S) (item : T)
    (new : S) → TakesAll takes old items between → takes between item new → TakesAll takes old (items ++ item ∷ []) new
takes_push takes old items between item new is here =
    takes_more takes old items between (item ∷ []) new is (new, here, refl)

-- a list with enough capacity takes all of them
pub fills : {T : Type 0} (old new : Vec T) (items : List T) → TakesAll PushesInto old items new
    → length old.items + length items ≤ vec_capacity old → new.items ≡ old.items ++ items
fills old new [] is room = ap (λ v. v.items) is ∙ sym (append-nil old.items)
fills old new (item ∷ items) is room =
    let here = is.1 (omega (arith, room)) in
    let longer = ap (λ l. length l) here.0 in
    let more = length-append old.items (item ∷ []) in
    fills is.0 new items is.2 (omega (arith, room, here.1, longer, more)) ∙ ap (λ l. l ++ items) here.0
    ∙ append_assoc old.items (item ∷ []) items
