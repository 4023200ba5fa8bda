-- The IDs from a step on are the one there, if any, and those from the next step on: `iter` rests on it.
use Rattle.std.proofs.Common.{◌≡◌, ℕ, ◌+◌, ◌-◌, ◌<◌, ◌≤◌, List, [], ◌∷◌, Option, Some, None, length, refl, ◌∙◌, suc, arith}
use Rattle.std.specs.List.{filter_map, cons_option, range_with_len}
use Rattle.std.proofs.lemmas.List.FromFn.{length-range_with_len}
use Rattle.recovery_ids.specs.RemoteIds.{HeldId, RemoteIds, active_connection_id_limit, item_at, items_from}

step_first : (ids : RemoteIds) (step : ℕ) → step < active_connection_id_limit
    → items_from step ids ≡ cons_option (item_at ids step) (items_from (step + 1) ids)
step_first _ step below =
    let one_more : active_connection_id_limit - step ≡ suc (active_connection_id_limit - (step + 1)) = omega arith in
    rw one_more refl

pub items_where_held : (ids : RemoteIds) (step : ℕ) (entry : HeldId) → step < active_connection_id_limit
    → ids.held (ids.active + step) ≡ Some entry →
    items_from step ids ≡ (step, entry) ∷ items_from (step + 1) ids
items_where_held ids step _ below held = step_first ids _ below ∙ rw held refl

pub items_where_none : (ids : RemoteIds) (step : ℕ) → step < active_connection_id_limit
    → ids.held (ids.active + step) ≡ None →
    items_from step ids ≡ items_from (step + 1) ids
items_where_none ids step below none = step_first ids _ below ∙ rw none refl

length-filter_map : {X Y : Type 0} (h : X → Option Y) (xs : List X) → length (filter_map h xs) ≤ length xs
length-filter_map h [] = omega arith
length-filter_map h (x ∷ xs) = grind (arith, length-filter_map h xs)

-- at most as many IDs are held as are stored
pub length-items_from : (ids : RemoteIds) → length (items_from 0 ids) ≤ active_connection_id_limit
length-items_from ids = omega (
  arith,
  length-filter_map (item_at ids) (range_with_len 0 active_connection_id_limit),
  length-range_with_len 0 active_connection_id_limit,
)
