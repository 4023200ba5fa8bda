-- Full counters: `Overflow` rejects exactly a received datagram with which the bytes received on its path would reach
-- 2^64 (RFC 9000, 8.1), and a path with which the paths made would (9.3). For packets see `send_result`, for sent
-- datagrams `blocked`.
use Rattle.std.specs.Prelude.{ℕ, ◌+◌, ◌<◌, ◌≤◌, sum_by, Ok, Err}
use Rattle.recovery_base.specs.Units.{u64_limit}
use Rattle.recovery_events.specs.declared.event.Event.{Event}
use Rattle.recovery_events.specs.declared.event.Event.TheVariants.{DatagramIn, NewPath}
use Rattle.recovery_events.specs.declared.event.Refusal.TheVariants.{Overflow}
use Rattle.recovery_history.specs.History.{History, Reply}
use Rattle.recovery_history.specs.Promises.Datagrams.{datagrams_on, bytes_in}
use Rattle.recovery_history.specs.Promises.Paths.{paths_made}

-- the counter would reach this; for the other errors see `rejections` and `reply_after`
abbrev pub IsRoom : {Q : Type 0} → ℕ → Reply Q → Type 0
IsRoom n (Ok given) = n < u64_limit
IsRoom n (Err Overflow) = u64_limit ≤ n
IsRoom n (Err other) = Unit {0}

module _ {Q S M P : Type 0} where
  abbrev pub OverflowsExactly : History Q S M P → Event Q S M P → Reply Q → Type 0
  OverflowsExactly history (DatagramIn path bytes) reply =
      IsRoom (sum_by bytes_in (datagrams_on path history) + bytes) reply
  OverflowsExactly history (NewPath now remote is_fresh) reply = IsRoom (paths_made history + 1) reply
  OverflowsExactly history event reply = Unit {0}
