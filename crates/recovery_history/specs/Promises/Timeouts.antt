-- Timers (RFC 9002, 6.2 and A.3): each has the time for which it was last set, unless it was stopped since. The next
-- timeout is the earliest of these.
use Rattle.std.specs.Prelude.{◌≡◌, ℕ, min, List, [], ◌∷◌, map, Option, None, Some, option_map, unwrap_or, Ok, if◌then◌else◌}
use Rattle.recovery_base.specs.declared.timer.Timer.{Timer}
use Rattle.recovery_base.specs.declared.timer.TheConstants.Timer.{VALUES}
use Rattle.recovery_base.specs.Timers.{same_timer}
use Rattle.recovery_events.specs.declared.event.Event.{Event}
use Rattle.recovery_events.specs.declared.event.Event.TheVariants.{SetTimer, StopTimer, NextTimeout}
use Rattle.recovery_events.specs.declared.event.Answer.TheVariants.{Timeout, Done}
use Rattle.recovery_history.specs.History.{History, Reply}

abbrev pub every_timer : List Timer
every_timer = VALUES

-- the earliest of the times that are there
abbrev pub least : List (Option ℕ) → Option ℕ
least [] = None
least (None ∷ moments) = least moments
least (Some moment ∷ moments) = Some (unwrap_or (option_map (min moment) (least moments)) moment)

module _ {Q S M P : Type 0} where
  -- the time for which a timer is set
  abbrev pub timer_value : History Q S M P → Timer → Option ℕ
  timer_value [] timer = None
  timer_value ((SetTimer other time, Ok answer) ∷ earlier) timer =
      if same_timer timer other then Some time else timer_value earlier timer
  timer_value ((StopTimer other, Ok answer) ∷ earlier) timer =
      if same_timer timer other then None else timer_value earlier timer
  timer_value (happened ∷ earlier) timer = timer_value earlier timer

  abbrev pub ReportsNextTimeout : History Q S M P → Event Q S M P → Reply Q → Type 0
  ReportsNextTimeout history NextTimeout reply = reply ≡ Ok (Timeout (least (map (timer_value history) every_timer)))
  ReportsNextTimeout history (SetTimer timer time) reply = reply ≡ Ok Done
  ReportsNextTimeout history (StopTimer timer) reply = reply ≡ Ok Done
  ReportsNextTimeout history event reply = Unit {0}
