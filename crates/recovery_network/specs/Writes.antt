-- What an application writes: a chunk of items at its start, and another one each time that as much time has passed.
use Rattle.std.specs.Prelude.{ℕ, ◌+◌, ◌*◌, ◌/◌, ◌<◌, ◌≤◌, max}
use Rattle.recovery_network.specs.declared.application.Application.{Application}

-- the fewest items that carry these bytes
pub record IsItemCount (bytes size items : ℕ) : Type 0 where
  pub carries : bytes ≤ items * size
  pub fewest : (fewer : ℕ) → fewer < items → fewer * size < bytes

-- when the item of this index is written, with the rest of its chunk
abbrev pub time_of : Application → ℕ → ℕ
time_of application index =
    application.start + index / max 1 application.chunk * application.every

-- these many are written by a time: all whose time it is, and no other
pub record AreWritten (application : Application) (now written : ℕ) : Type 0 where
  pub most : written ≤ application.items
  pub due : (index : ℕ) → index < written → time_of application index ≤ now
  pub not_due : (index : ℕ) → written ≤ index → index < application.items → now < time_of application index
