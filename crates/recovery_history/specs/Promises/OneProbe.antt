-- The order of an MTU search (RFC 8899, 5.1 and 5.3; RFC 9000, 14.4). A probe is sent only in a search, while none is
-- in flight. A packet acknowledged or lost is reported as a probe exactly if it is the one in flight. A limit above
-- zero is accepted exactly if no search runs, and an MTU found elsewhere exactly if MTU discovery is disabled.
use Rattle.std.specs.Prelude.{◌≡◌, ℕ, ◌==◌, Bool, true, false, ◌&&◌, ◌||◌, nat_le, is_some, IsSomeAnd, Ok, Err, if◌then◌else◌}
use Rattle.recovery_base.specs.declared.below.SpaceId.{SpaceId}
use Rattle.recovery_base.specs.declared.below.SpaceId.TheVariants.{Data}
use Rattle.recovery_base.specs.Spaces.{same_space}
use Rattle.recovery_events.specs.declared.event.Event.{Event}
use Rattle.recovery_events.specs.declared.event.Event.TheVariants.{Acked, Lost, PollMtu, PeerLimit, MtuFound}
use Rattle.recovery_events.specs.declared.event.Answer.TheVariants as answer
use Rattle.recovery_events.specs.declared.event.Refusal.TheVariants.{Searching, ZeroMtu}
use Rattle.recovery_history.specs.History.{Beginning, History, Reply}
use Rattle.recovery_history.specs.Promises.ProbeCount.{is_in_flight}
use Rattle.recovery_history.specs.Promises.Convergence.{next}
use Rattle.recovery_history.specs.Promises.Probes.{last_probe, runs}
use Rattle.recovery_history.specs.Search.{discovery_settings}

module _ {Q S M P : Type 0} where
  -- the 1-RTT packet of this number is the probe in flight
  abbrev pub is_probe_in_flight : SpaceId → ℕ → History Q S M P → Bool
  is_probe_in_flight space number history =
      same_space space Data && (is_in_flight history && number == (last_probe history).0)

module _ {F K Q S M P : Type 0} (beginning : Beginning F K Q S M P) where
  abbrev pub OneProbeAtATime : History Q S M P → Event Q S M P → Reply Q → Type 0
  OneProbeAtATime history (PollMtu now) (Ok (answer.Probe number size)) =
      (is_in_flight history ≡ false)
      × IsSomeAnd (discovery_settings beginning) (λ settings. (runs history || nat_le (next settings history) now)
      ≡ true)
  OneProbeAtATime history (Acked space now number app_limited) (Ok given) =
      given ≡ answer.Acked (is_probe_in_flight space number history)
  OneProbeAtATime history (Lost space number) (Ok given) = given ≡ answer.Lost (is_probe_in_flight space number history)
  OneProbeAtATime history (PeerLimit size) reply =
      reply ≡ (if size == 0 then Err ZeroMtu else if runs history then Err Searching else Ok answer.Done)
  OneProbeAtATime history (MtuFound mtu) reply =
      let is_enabled = is_some (discovery_settings beginning) in
      reply ≡ (if mtu == 0 then Err ZeroMtu else if is_enabled then Err Searching else Ok answer.Done)
  OneProbeAtATime history event reply = Unit {0}
