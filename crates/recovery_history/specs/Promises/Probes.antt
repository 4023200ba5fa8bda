-- The probes of the MTU search that runs (RFC 8899, 5.1): their sizes and outcomes.
use Rattle.std.specs.Prelude.{ℕ, Bool, true, nat_lt, length, List, [], ◌∷◌, Ok, if◌then◌else◌}
use Rattle.recovery_events.specs.declared.event.Event.TheVariants.{PollMtu, Acked, Lost}
use Rattle.recovery_events.specs.declared.event.Answer.TheVariants as answer
use Rattle.recovery_history.specs.History.{History}
use Rattle.recovery_history.specs.Promises.ProbeCount.{sizes_probed}

module _ {Q S M P : Type 0} where
  -- a search runs from its first probe until it ends
  abbrev pub runs : History Q S M P → Bool
  runs history = nat_lt 0 (length (sizes_probed history))

  -- the number and the size of the probe that was sent last
  abbrev pub last_probe : History Q S M P → ℕ × ℕ
  last_probe [] = (0, 0)
  last_probe ((PollMtu now, Ok (answer.Probe number size)) ∷ earlier) = (number, size)
  last_probe (happened ∷ earlier) = last_probe earlier

  -- the sizes of the probes that were acknowledged
  abbrev pub acked_probes : History Q S M P → List ℕ
  acked_probes [] = []
  acked_probes ((Acked space now number app_limited, Ok (answer.Acked true)) ∷ earlier) =
      (last_probe earlier).1 ∷ acked_probes earlier
  acked_probes (happened ∷ earlier) = if runs (happened ∷ earlier) then acked_probes earlier else []

  -- the sizes of those that were lost
  abbrev pub lost_probes : History Q S M P → List ℕ
  lost_probes [] = []
  lost_probes ((Lost space number, Ok (answer.Lost true)) ∷ earlier) = (last_probe earlier).1 ∷ lost_probes earlier
  lost_probes (happened ∷ earlier) = if runs (happened ∷ earlier) then lost_probes earlier else []
