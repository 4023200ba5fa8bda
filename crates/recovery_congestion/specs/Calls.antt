-- The calls of a congestion controller (RFC 9002, 7 and appendix B).
use Rattle.std.specs.Prelude.{ℕ, ◌<◌, ⊤, Bool, Option}
use Rattle.recovery_congestion.specs.Rtt.{Rtt}

pub data ControllerCall : Type 0 where
  -- packets were sent, up to this number
  sends : (now bytes number : ℕ) → ControllerCall
  -- a packet is acknowledged that was sent at a time; whether the sender was application-limited
  acks : (now sent bytes : ℕ) (limited : Bool) (rtt : Rtt) → ControllerCall
  -- all packets of one ACK were reported, with the bytes in flight and the largest acknowledged number
  ends_acks : (now in_flight : ℕ) (limited : Bool) (largest : Option ℕ) → ControllerCall
  -- packets were lost, the last of them sent at a time, or marked; whether the congestion is persistent
  congests : (now sent : ℕ) (persistent : Bool) (lost : ℕ) → ControllerCall
  -- the MTU changes
  takes_mtu : (mtu : ℕ) → ControllerCall

-- MTUs are above zero
abbrev pub IsPositive : ControllerCall → Type 0
IsPositive (takes_mtu mtu) = 0 < mtu
IsPositive call = ⊤

-- when congestion is found, and 0 for any other call
abbrev pub congestion_time : ControllerCall → ℕ
congestion_time (congests now sent persistent lost) = now
congestion_time call = 0
