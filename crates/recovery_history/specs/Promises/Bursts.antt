-- Bursts of losses (RFC 8899, 4.3): 1-RTT packets with consecutive numbers that were lost, none of them a probe. Also
-- the sizes of packets by their numbers.
use Rattle.std.specs.Prelude.{ℕ, ◌==◌, false, List, [], ◌∷◌, Ok, if◌then◌else◌}
use Rattle.recovery_base.specs.declared.below.SpaceId.TheVariants.{Data}
use Rattle.recovery_mtud.specs.BurstRuns.{Loss, follows}
use Rattle.recovery_events.specs.declared.event.Event.{Event}
use Rattle.recovery_events.specs.declared.event.Event.TheVariants.{Send, PollMtu, Lost, LossesDone}
use Rattle.recovery_events.specs.declared.event.Answer.TheVariants as answer
use Rattle.recovery_history.specs.History.{History, Reply}
use Rattle.recovery_history.specs.Promises.ProbeCount.{begins_anew}

module _ {Q S M P : Type 0} where
  -- the size of the 1-RTT packet that was sent under a number
  abbrev pub size_of : History Q S M P → ℕ → ℕ
  size_of [] n = 0
  size_of ((Send Data now size eliciting largest queue frames, Ok (answer.Sent m forgotten)) ∷ earlier) n =
      if n == m then size else size_of earlier n
  size_of ((PollMtu now, Ok (answer.Probe m size)) ∷ earlier) n = if n == m then size else size_of earlier n
  size_of (happened ∷ earlier) n = size_of earlier n

  -- the run of consecutive losses up to the last one, since the last end of a loss detection pass or restart
  abbrev pub open_run : History Q S M P → List Loss
  open_run [] = []
  open_run ((Lost Data n, Ok (answer.Lost false)) ∷ earlier) =
      record { number = n; bytes = size_of earlier n } ∷ (if follows n (open_run earlier) then open_run earlier else [])
  open_run ((LossesDone now, Ok given) ∷ earlier) = []
  open_run (happened ∷ earlier) = if begins_anew happened then [] else open_run earlier

  -- the burst that an event ends, empty if none was open: a lost number that does not follow ends it, or the end of a
  -- loss detection pass
  abbrev pub closed : Event Q S M P × Reply Q → History Q S M P → List (List Loss)
  closed (Lost Data n, Ok (answer.Lost false)) earlier =
      if follows n (open_run earlier) then [] else open_run earlier ∷ []
  closed (LossesDone now, Ok given) earlier = open_run earlier ∷ []
  closed happened earlier = []
