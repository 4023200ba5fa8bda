-- The value of a `CidState` in contracts.
use Rattle.std.specs.Prelude.{ℕ, List}
use Rattle.std.specs.Map.{keys_of}
use Rattle.recovery_queue.specs.declared.slots.Slot.{Slot}
use Rattle.recovery_queue.specs.Slots.{entries_in}
use Rattle.recovery_ids.specs.LocalIds.{LocalIds}
use Rattle.recovery_ids.specs.declared.state.CidState.TheInside.{Inside}

-- the numbers in a queue of slots, in their order
abbrev pub numbers_in : List (Slot (Unit {0})) → List ℕ
numbers_in slots = keys_of (entries_in slots)

abbrev pub local_ids : Inside → LocalIds
local_ids state = record {
  cid_len = state.cid_len;
  cid_lifetime = state.cid_lifetime;
  issued = state.issued;
  unretired = numbers_in state.active_seq;
  retired_below = state.prev_retire_seq;
  retire_prior_to = state.retire_seq;
  deadlines = state.retire_timestamp.items;
}
