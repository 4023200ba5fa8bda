-- The congestion of which the events of a step inform a sender's controller (RFC 9002, 7.3.2 and B.6).
use Rattle.std.specs.Prelude.{◌≡◌, ℕ, Bool, true, false, ◌++◌}
use Rattle.std.specs.List.{AllByRecursion}
use Rattle.recovery_events.specs.declared.event.Event.{Event}
use Rattle.recovery_events.specs.declared.event.Event.TheVariants.{Congestion, NewPath, ResetPath, RevertPath}
use Rattle.recovery_history.specs.History.{History}

-- at which time it may be found, if the last lost packet was sent at which time
abbrev pub Congestions : Type 0
Congestions = ℕ → ℕ → Bool

abbrev pub no_congestion : Congestions
no_congestion found sent = false

abbrev pub any_congestion : Congestions
any_congestion found sent = true

-- an event reports no other congestion, and changes no path
abbrev pub IsCongestedBy : {Q S M P : Type 0} → Congestions → Event Q S M P → Type 0
IsCongestedBy congests (Congestion found sent persistent bytes) = congests found sent ≡ true
IsCongestedBy congests (NewPath now remote is_fresh) = ⊥
IsCongestedBy congests (ResetPath now) = ⊥
IsCongestedBy congests RevertPath = ⊥
IsCongestedBy congests event = Unit {0}

-- nor do those that are added to a past
abbrev pub AddsCongestion : {Q S M P : Type 0} → Congestions → History Q S M P → History Q S M P → Type 0
AddsCongestion {Q} {S} {M} {P} congests past after = (events : History Q S M P) × (after ≡ events ++ past)
    × AllByRecursion (λ happened. IsCongestedBy congests happened.0) events
