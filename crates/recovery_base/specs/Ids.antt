-- The bytes of a connection ID (RFC 9000, 17.2).
use Rattle.std.specs.Prelude.{ℕ, ◌≡◌, ◌-◌, ◌≤◌, List, ◌++◌, length, take, replicate, refl}
use Rattle.std.proofs.Common.{arith, length-take}
use Rattle.recovery_base.specs.declared.below.ids.ConnectionId.TheInside.{Inside}

-- the most bytes of a connection ID (RFC 9000, 17.2)
abbrev pub longest_cid : ℕ
longest_cid = 20

-- the bytes of a stateless reset token (RFC 9000, 10.3)
abbrev pub reset_token_size : ℕ
reset_token_size = 16

-- the bytes of an ID, without the zeros after them
abbrev pub bytes_of : Inside → List ℕ
bytes_of id = take id.len id.bytes

-- there are at most twenty bytes, followed by zeros
pub record IsPaddedId (id : Inside) : Type 0 where
  pub small : id.len ≤ longest_cid
  pub room : length id.bytes ≡ longest_cid
  pub zeros : id.bytes ≡ take id.len id.bytes ++ replicate (longest_cid - id.len) 0

-- the representation of an ID with these bytes
abbrev pub padded : List ℕ → Inside
padded bytes = record { len = length bytes; bytes = bytes ++ replicate (longest_cid - length bytes) 0 }

-- an ID is determined by its bytes
pub padded-bytes_of : (id : Inside) → IsPaddedId id → padded (bytes_of id) ≡ id
padded-bytes_of id sound =
    let len : length (take id.len id.bytes) ≡ id.len =
    omega (arith, length-take id.len id.bytes, sound.small, sound.room) in
    rw (len, ← sound.zeros) refl
