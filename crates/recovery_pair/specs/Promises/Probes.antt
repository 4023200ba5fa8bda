-- `Send` right after a probe timeout of its space sends a probe, if the space has keys (RFC 9002, 6.2.4), or it fails.
-- Only the amplification limit holds the probe back (RFC 9000, 8.1), and never the window (RFC 9002, 7.5). If an
-- endpoint sends a probe without items in a space with keys, its earlier probes there had no fewer items than are in
-- flight, by every measure that adds up. This last promise ends if a packet of the space cannot be tracked.
use Rattle.std.specs.Prelude.{◌≡◌, ℕ, ◌<◌, ◌≤◌, ◌&&◌, nat_eq, true, false, List, [], ◌∷◌, Ok}
use Rattle.std.specs.Set.{is_member}
use Rattle.recovery_base.specs.declared.below.SpaceId.{SpaceId}
use Rattle.recovery_base.specs.Spaces.{same_space}
use Rattle.recovery_sender.specs.declared.sender.packets.Transmission.TheVariants.{Blocked}
use Rattle.recovery_sender.specs.declared.sender.probes.Timeout.TheVariants.{Probe}
use Rattle.recovery_pair.specs.declared.steps.End.{End}
use Rattle.recovery_pair.specs.declared.steps.LocalStep.TheVariants.{Expire}
use Rattle.recovery_pair.specs.declared.steps.PairAnswer.TheVariants.{Expired, Held, Nothing, Sent}
use Rattle.recovery_pair.specs.declared.steps.PairStep.TheVariants.{Local, Send}
use Rattle.recovery_pair.specs.Logs.{PairEvent, PairLog, same_end, was_discarded}
use Rattle.recovery_pair.specs.Promises.Newly.{flight_of_one}
use Rattle.recovery_pair.specs.Promises.Repeats.{has_failed, is_probe, probed_in}
use Rattle.recovery_pair.specs.Promises.Resends.{AddsItems, sent_under}

-- the last step was a timeout of the endpoint that asks for probes in the space
abbrev pub IsAsked : PairLog → End → SpaceId → Type 0
IsAsked ((Local at (Expire now), Ok (Expired (Probe there count))) ∷ earlier) end space =
    (same_end at end && same_space there space) ≡ true
IsAsked log end space = ⊥

-- different numbers whose packets are in flight
abbrev pub AreInFlight : End → SpaceId → PairLog → List ℕ → Type 0
AreInFlight end space log [] = Unit {0}
AreInFlight end space log (n ∷ numbers) = (0 < flight_of_one end space n log) × (is_member nat_eq numbers n ≡ false)
    × AreInFlight end space log numbers

abbrev pub ProbesForFlight : PairLog → PairEvent → Type 0
ProbesForFlight log (Send end space now size, Ok (Sent number items eliciting window ack)) =
    (IsAsked log end space → is_probe eliciting window ≡ true)
    × (is_probe eliciting window ≡ true → items.items ≡ [] → was_discarded end space log ≡ false
    → has_failed end space log ≡ false → (measure : List ℕ → ℕ) → AddsItems measure
    → (numbers : List ℕ) → AreInFlight end space log numbers
    → sent_under end space measure numbers log ≤ probed_in end space measure log)
ProbesForFlight log (Send end space now size, Ok (Held held)) = IsAsked log end space → held ≡ Blocked
ProbesForFlight log (Send end space now size, Ok Nothing) =
    IsAsked log end space → was_discarded end space log ≡ false → ⊥
ProbesForFlight log event = Unit {0}
