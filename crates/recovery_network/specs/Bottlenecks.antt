-- The queue before a link: when packets leave it, how many bytes wait, and which packets are dropped. All follow from
-- the packets that were let in.
use Rattle.std.specs.Prelude.{◌≡◌, ℕ, ◌+◌, ◌*◌, ◌<◌, ◌≤◌, min, max, Bool, true, false, List, [], ◌∷◌, ◌++◌, reverse, Option, None, Some}
use Rattle.std.specs.Int.{div_ceil}
use Rattle.recovery_base.specs.Units.{last_time, seconds}
use Rattle.recovery_network.specs.declared.bottleneck.QueuedPacket.{QueuedPacket}
use Rattle.recovery_network.specs.declared.schedule.Change.{Change}
use Rattle.recovery_network.specs.Schedules.{value_at}

-- ---- what follows from the packets that were let in, the newest first

-- the nanoseconds in which a link of this many bits a second sends these bytes, rounded up; no rate is below one
abbrev pub service : ℕ → ℕ → ℕ
service rate size = div_ceil (size * 8 * seconds) (max 1 rate)

-- When the last bit of a packet is sent, whose first bit is sent at this time, at the rate of that time. Times end with
-- the clock.
abbrev pub end_of : (ℕ → ℕ) → ℕ → ℕ → ℕ
end_of rate_at begins size = min last_time (begins + service (rate_at begins) size)

-- When the last bit of the newest packet is sent. The first one is sent when the packet has come and all packets before
-- it have left.
abbrev pub departure : (ℕ → ℕ) → List QueuedPacket → ℕ
departure rate_at [] = 0
departure rate_at (packet ∷ before) = end_of rate_at (max packet.came (departure rate_at before)) packet.size

abbrev pub bytes_of : List QueuedPacket → ℕ
bytes_of [] = 0
bytes_of (packet ∷ packets) = packet.size + bytes_of packets

-- ---- a queue after a history

pub record Queue : Type 0 where
  -- bits a second, at first and from later times on
  pub rate : ℕ
  pub changes : List Change
  -- the bytes that may wait
  pub room : ℕ
  -- the packets that have not left, the first to leave first, and their bytes
  pub waiting : List QueuedPacket
  pub bytes : ℕ
  -- when the last one that left did
  pub free : ℕ
  -- the most bytes that waited
  pub most : ℕ

-- bits a second at each time
abbrev pub rate_of : Queue → ℕ → ℕ
rate_of queue = value_at queue.rate queue.changes

pub record IsSound (queue : Queue) : Type 0 where
  pub fits : queue.bytes ≤ queue.room
  pub largest : queue.bytes ≤ queue.most
  pub fitted : queue.most ≤ queue.room

-- These packets were let in, and these of them have left. The others wait, in the order in which they came. Their bytes
-- are those that were let in and have not left. The link is free when the last one has left.
pub record IsAfter (let_in left : List QueuedPacket) (queue : Queue) : Type 0 where
  pub order : let_in ≡ reverse queue.waiting ++ left
  pub waits : bytes_of let_in ≡ queue.bytes + bytes_of left
  pub free : queue.free ≡ departure (rate_of queue) left

-- the rates and the room stay
pub record IsSameLink (old new : Queue) : Type 0 where
  pub rates : rate_of new ≡ rate_of old
  pub room : new.room ≡ old.room

-- nothing happened, whatever the history
abbrev pub Keeps : Queue → Queue → Type 0
Keeps old new = (let_in left : List QueuedPacket) → IsAfter let_in left old → IsAfter let_in left new

-- A packet is let in exactly if it has room next to the bytes that wait.
abbrev pub AdmitsAfter : List QueuedPacket → List QueuedPacket → QueuedPacket → Queue → Queue → Bool → Type 0
AdmitsAfter let_in left packet old new true =
    (bytes_of let_in + packet.size ≤ old.room + bytes_of left) × IsAfter (packet ∷ let_in) left new
AdmitsAfter let_in left packet old new false =
    (old.room + bytes_of left < bytes_of let_in + packet.size) × IsAfter let_in left new

abbrev pub Admits : QueuedPacket → Queue → Queue → Bool → Type 0
Admits packet old new is_in =
    (let_in left : List QueuedPacket) → IsAfter let_in left old → AdmitsAfter let_in left packet old new is_in

-- the departure of the packet that leaves next, if any waits
abbrev pub IsNextOf : List QueuedPacket → List QueuedPacket → (ℕ → ℕ) → Option ℕ → Type 0
IsNextOf waiting left rate_at None = waiting ≡ []
IsNextOf waiting left rate_at (Some leaves) =
    (first : QueuedPacket) × (rest : List QueuedPacket) × (waiting ≡ first ∷ rest)
    × (leaves ≡ departure rate_at (first ∷ left))

abbrev pub IsNext : Queue → Option ℕ → Type 0
IsNext queue leaves =
    (let_in left : List QueuedPacket) → IsAfter let_in left queue → IsNextOf queue.waiting left (rate_of queue) leaves

-- The packet that leaves next is the first one that was let in and has not left, and it has left by now. Or none has.
abbrev pub TakesAfter : List QueuedPacket → List QueuedPacket → ℕ → Queue → Queue → Option QueuedPacket → Type 0
TakesAfter let_in left now old new None =
    ((first : QueuedPacket) (later : List QueuedPacket) → let_in ≡ later ++ first ∷ left
    → now < departure (rate_of old) (first ∷ left))
    × IsAfter let_in left new
TakesAfter let_in left now old new (Some first) =
    (departure (rate_of old) (first ∷ left) ≤ now) × IsAfter let_in (first ∷ left) new

abbrev pub Takes : ℕ → Queue → Queue → Option QueuedPacket → Type 0
Takes now old new taken =
    (let_in left : List QueuedPacket) → IsAfter let_in left old → TakesAfter let_in left now old new taken

-- the packet that would leave next is gone, as if it had never been let in
abbrev pub DiscardsAfter : List QueuedPacket → List QueuedPacket → Queue → Queue → Option QueuedPacket → Type 0
DiscardsAfter let_in left old new None = (let_in ≡ left) × IsAfter let_in left new
DiscardsAfter let_in left old new (Some first) =
    (later : List QueuedPacket) × (let_in ≡ later ++ first ∷ left) × IsAfter (later ++ left) left new

abbrev pub Discards : Queue → Queue → Option QueuedPacket → Type 0
Discards old new gone =
    (let_in left : List QueuedPacket) → IsAfter let_in left old → DiscardsAfter let_in left old new gone
