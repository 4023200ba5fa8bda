-- The value of a `CidQueue` in contracts.
use Rattle.std.specs.Prelude.{ℕ, Option}
use Rattle.recovery_ids.specs.RemoteIds.{HeldId, RemoteIds}
use Rattle.recovery_ids.specs.Window.{held_at, ids_in}
use Rattle.recovery_ids.specs.declared.queue.CidQueue.{CidQueue}

-- the entry of a number
abbrev pub held : CidQueue → ℕ → Option HeldId
held queue n = held_at queue n

-- the number of the active ID
abbrev pub active_of : CidQueue → ℕ
active_of queue = queue.start

-- the entries, with the active number
abbrev pub remote_ids : CidQueue → RemoteIds
remote_ids queue = ids_in queue
