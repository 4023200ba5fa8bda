-- Properties by the kinds of calls: each law over calls is a case for each kind.
use Rattle.std.proofs.Common.{ℕ, Bool, true, false, nat_eq, nat_le, nat_lt}
use Rattle.std.specs.Prelude.{if◌then◌else◌}
use Rattle.recovery_congestion.specs.Calls.{ControllerCall, acks, congests, ends_acks, sends, takes_mtu}
use Rattle.recovery_cubic.specs.declared.cubic.Cubic.{Cubic}
use Rattle.recovery_cubic.specs.Stage.{uncounted}
use Rattle.recovery_cubic.specs.Cubic.{cubic_resumed, cubic_found, slow_started, avoided, cubic_after, cubic_recovering, cubic_with_mtu}
use Rattle.recovery_cubic.specs.History.{CubicEntry, resumes, finds, grows, waits, reduces, persists, starts, resizes, passes, turn_of}

-- the premises of a property of a call and of the state after it, for a CUBIC
pub record Turns (cubic : Cubic) (P : CubicEntry → Cubic → Type 0) : Type 0 where
  pub resuming : (now : ℕ) → P (resumes now) (cubic_resumed now cubic)
  pub finding : (now in_flight : ℕ) → P (finds now in_flight) (cubic_found now in_flight cubic)
  pub growing : (now bytes : ℕ) → P (grows now bytes) (avoided now bytes cubic)
  pub waiting : (now : ℕ) → P (waits now) (record cubic { stage = uncounted now cubic.stage })
  pub reducing : (now : ℕ) → P (reduces now) (cubic_recovering now false cubic)
  pub starting : (now bytes : ℕ) → P (starts now bytes) (slow_started now bytes cubic)
  pub persisting : (now : ℕ) → P (persists now) (cubic_recovering now true cubic)
  pub resizing : (mtu : ℕ) → P (resizes mtu) (cubic_with_mtu mtu cubic)
  pub passing : P passes cubic

module _ (cubic : Cubic) (P : CubicEntry → Cubic → Type 0) (turns : Turns cubic P) where
  sent : (now : ℕ) (none : Bool)
      → P (if none then passes else resumes now) (if none then cubic else cubic_resumed now cubic)
  sent now true = turns.passing
  sent now false = turns.resuming now

  acked-open : (now bytes : ℕ) (limited slow : Bool)
      → P (if limited then waits now else if slow then starts now bytes else grows now bytes)
      (if limited then record cubic { stage = uncounted now cubic.stage } else if slow then slow_started now bytes cubic
      else avoided now bytes cubic)
  acked-open now bytes true slow = turns.waiting now
  acked-open now bytes false true = turns.starting now bytes
  acked-open now bytes false false = turns.growing now bytes

  acked : (now bytes : ℕ) (before limited slow : Bool)
      → P (if before then passes else if limited then waits now else if slow then starts now bytes else grows now bytes)
      (if before then cubic else if limited then record cubic { stage = uncounted now cubic.stage }
      else if slow then slow_started now bytes cubic else avoided now bytes cubic)
  acked now bytes true limited slow = turns.passing
  acked now bytes false limited slow = acked-open now bytes limited slow

  congested : (now : ℕ) (before persistent : Bool)
      → P (if before then passes else if persistent then persists now else reduces now)
      (if before then cubic else cubic_recovering now persistent cubic)
  congested now true persistent = turns.passing
  congested now false true = turns.persisting now
  congested now false false = turns.reducing now

  pub by_turn : (call : ControllerCall) → P (turn_of call cubic) (cubic_after call cubic)
  by_turn (acks now sent bytes limited rtt) =
      acked now bytes (nat_le sent cubic.recovery_start_time) limited (nat_lt cubic.window cubic.ssthresh)
  by_turn (congests now sent persistent lost) = congested now (nat_le sent cubic.recovery_start_time) persistent
  by_turn (takes_mtu mtu) = turns.resizing mtu
  by_turn (sends now bytes number) = sent now (nat_eq bytes 0)
  by_turn (ends_acks now in_flight limited largest) = turns.finding now in_flight
