-- The calls of an MTU discovery without a recovery (RFC 8899).
use Rattle.std.specs.Prelude.{◌≡◌, ◌⊎◌, ◌≢◌, ℕ, Bool, true, false, ◌&&◌, not, nat_lt, max, ◌==◌, if◌then◌else◌, Option, Some, None, is_some, unwrap_or}
use Rattle.recovery_mtud.specs.Discovery.{Discovery, discovery_made, poll_of, probe_of, is_probe, is_searching_of, reports}
use Rattle.recovery_mtud.specs.DiscoveryLog.{MtuCall, discovery_after, polls, is_limited, acks, loses_probe, loses, losses_end, resets}
use Rattle.recovery_stack.specs.declared.mtu.MtuView.{MtuView}
use Rattle.recovery_stack.specs.declared.mtu_handle.Call.{Call}
use Rattle.recovery_stack.specs.declared.mtu_handle.Call.TheVariants.{Poll, Limit, Acked, ProbeLost, Lost, LossesDone, Reset}
use Rattle.recovery_engine.specs.declared.numbers.TheConstants.{ANSWER_ACKED, ANSWER_BLACK_HOLE, ANSWER_DONE, ANSWER_NO_PROBE, ANSWER_PROBE, NEW_HELD, NEW_MADE, NEW_NO_MEMORY}
use Rattle.recovery_stack.specs.declared.settings.Settings.{Settings}
use Rattle.recovery_engine.specs.declared.spelling.EncodedReply.{EncodedReply}
use Rattle.recovery_engine.specs.Replies.{plain, bad_argument, no_recovery}
use Rattle.recovery_stack.specs.Settings.{discovery_of, settings_fault}

-- the call in terms of the discovery: packets are those of the space Data
abbrev pub call_of : Call → MtuCall
call_of (Poll now number) = polls now number
call_of (Limit size) = is_limited size
call_of (Acked number bytes) = acks number bytes
call_of ProbeLost = loses_probe
call_of (Lost number bytes) = loses number bytes
call_of (LossesDone now) = losses_end now
call_of (Reset mtu min_mtu) = resets mtu min_mtu

abbrev pub told_to : Call → Discovery → Discovery
told_to call = discovery_after (call_of call)

-- sizes are above zero, and the peer's limit is set while no search is running
abbrev pub is_allowed : Call → Discovery → Bool
is_allowed (Limit size) discovery = nat_lt 0 size && not (is_searching_of discovery)
is_allowed (Reset mtu min_mtu) discovery = nat_lt 0 mtu && nat_lt 0 min_mtu
is_allowed call discovery = true

abbrev pub probe_spelled : Option ℕ → ℕ → EncodedReply
probe_spelled (Some size) number = record (plain ANSWER_PROBE) { first = number; size = size }
probe_spelled None number = plain ANSWER_NO_PROBE

-- the reply: a probe that is due, whether it was the probe, whether a black hole is reported, or else done
abbrev pub discovery_told : Call → Discovery → EncodedReply
discovery_told (Poll now number) discovery = probe_spelled (poll_of now discovery) number
discovery_told (Acked number bytes) discovery = record (plain ANSWER_ACKED) { flag = is_probe number discovery }
discovery_told (LossesDone now) discovery = record (plain ANSWER_BLACK_HOLE) { flag = reports discovery }
discovery_told call discovery = plain ANSWER_DONE

-- a call that is allowed is answered; if it is not allowed, or none is held, it fails and nothing changes
abbrev pub DiscoveryAnswers : Option Discovery → Call → EncodedReply → Option Discovery → Type 0
DiscoveryAnswers None call reply new = (reply ≡ no_recovery) × (new ≡ None)
DiscoveryAnswers (Some old) call reply new =
    let allowed = is_allowed call old in
    (reply ≡ (if allowed then discovery_told call old else bad_argument))
    × (new ≡ Some (if allowed then told_to call old else old))

-- the discovery of a path with these settings, for a peer that accepts packets of at most `limit` bytes, or 0 if it
-- stated no limit
abbrev pub discovery_by : Settings → ℕ → Discovery
discovery_by settings limit =
    discovery_made (max settings.initial_mtu settings.min_mtu) settings.min_mtu
    (if limit == 0 then None else Some limit)
    (if settings.allow_mtud then discovery_of settings else None)

-- if the settings are valid, a new discovery is held, or there was no memory; a discovery that was held already stays
abbrev pub NewDiscovery : ℕ → Settings → ℕ → Option Discovery → Option Discovery → Type 0
NewDiscovery code settings limit (Some old) new = (code ≡ NEW_HELD) × (new ≡ Some old)
NewDiscovery code settings limit None new =
    ((settings_fault settings ≡ NEW_MADE) × (code ≡ NEW_MADE) × (new ≡ Some (discovery_by settings limit)))
    ⊎ ((settings_fault settings ≡ NEW_MADE) × (code ≡ NEW_NO_MEMORY) × (new ≡ None))
    ⊎ ((settings_fault settings ≢ NEW_MADE) × (code ≡ settings_fault settings) × (new ≡ None))

-- the readable state; if none is held, the empty view
abbrev pub mtu_shown : Discovery → MtuView
mtu_shown discovery = record {
  probe = unwrap_or (probe_of discovery) 0;
  mtu = discovery.mtu;
  probes = is_some (probe_of discovery);
  searches = is_searching_of discovery;
  some = true;
}

abbrev pub no_mtu : MtuView
no_mtu = record { probe = 0; mtu = 0; probes = false; searches = false; some = false }
