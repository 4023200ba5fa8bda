-- Items in transit in one direction: each arrives after the delay of the time at which it was sent.
use Rattle.std.specs.Prelude.{◌≡◌, ℕ, ◌+◌, ◌<◌, ◌≤◌, min, List, [], ◌∷◌, length, insert, All, Option, None, Some}
use Rattle.std.specs.List.Sorted.{IsNonDecreasingBy, IsPartitionPoint}
use Rattle.recovery_base.specs.Units.{last_time}
use Rattle.recovery_network.specs.declared.schedule.Schedule.{Schedule}
use Rattle.recovery_network.specs.declared.way.Carried.{Carried}
use Rattle.recovery_network.specs.Schedules.{value_at}

-- When an item arrives that is sent at this time, and is late by this much. Times end with the clock.
abbrev pub arrival_of : Schedule → ℕ → ℕ → ℕ
arrival_of delays now late = min last_time (now + value_at delays.first delays.changes.items now + late)

module _ {T : Type 0} where
  -- those that arrive first come first
  abbrev pub ArriveInOrder : List (Carried T) → Type 0
  ArriveInOrder items = IsNonDecreasingBy (λ item. item.arrives) items

  -- the place behind those that arrive no later, and before those that arrive later
  abbrev pub IsPlaceByArrival : ℕ → List (Carried T) → ℕ → Type 0
  IsPlaceByArrival arrives = IsPartitionPoint (λ item. item.arrives ≤ arrives) (λ item. arrives < item.arrives)

  -- an item is added in its place
  abbrev pub Adds : ℕ → T → List (Carried T) → List (Carried T) → Type 0
  Adds arrives what old new = (place : ℕ) × (place ≤ length old)
      × (new ≡ insert old place (record { arrives = arrives; what = what }))
      × (ArriveInOrder old → IsPlaceByArrival arrives old place)

  -- when the first item arrives, if there is one
  abbrev pub IsFirstArrival : List (Carried T) → Option ℕ → Type 0
  IsFirstArrival items None = items ≡ []
  IsFirstArrival items (Some arrives) =
      (first : Carried T) × (rest : List (Carried T)) × (items ≡ first ∷ rest) × (arrives ≡ first.arrives)

  -- The first item is taken, which has arrived by now. Or none has.
  abbrev pub TakesArrived : ℕ → List (Carried T) → List (Carried T) → Option T → Type 0
  TakesArrived now old new None = (new ≡ old) × (ArriveInOrder old → All (λ item. now < item.arrives) old)
  TakesArrived now old new (Some what) =
      (arrives : ℕ) × (arrives ≤ now) × (old ≡ record { arrives = arrives; what = what } ∷ new)
