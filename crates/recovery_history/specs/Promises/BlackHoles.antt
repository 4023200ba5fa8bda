-- Black holes (RFC 8899, 4.3): a report needs four bursts of losses of large packets that no acknowledgement refuted.
-- It is made at four since the first of which no large packet was acknowledged; small ones may have been.
use Rattle.std.specs.Prelude.{◌≡◌, ℕ, ◌≤◌, nat_lt, true, ◌||◌, List, [], ◌∷◌, ◌++◌, drop, length, filter, Ok, if◌then◌else◌, ◌-◌}
use Rattle.std.specs.List.{list_any}
use Rattle.recovery_base.specs.declared.below.SpaceId.TheVariants.{Data}
use Rattle.recovery_mtud.specs.BurstRuns.{Loss, is_above, is_past}
use Rattle.recovery_mtud.specs.Bursts.{black_hole_bursts}
use Rattle.recovery_events.specs.declared.event.Event.{Event}
use Rattle.recovery_events.specs.declared.event.Event.TheVariants.{Acked, LossesDone, NewPath, RevertPath}
use Rattle.recovery_events.specs.declared.event.Answer.TheVariants as answer
use Rattle.recovery_history.specs.History.{History, Reply}
use Rattle.recovery_history.specs.Promises.ProbeCount.{begins_anew}
use Rattle.recovery_history.specs.Promises.Bursts.{size_of, open_run, closed}

module _ {Q S M P : Type 0} where
  -- the bursts closed since the last restart, except those refuted by an acknowledged packet: a probe refutes all,
  -- another packet those that have a packet no larger
  abbrev pub standing : History Q S M P → List (List Loss)
  standing [] = []
  standing ((Acked Data now n app_limited, Ok (answer.Acked probe)) ∷ earlier) =
      if probe then [] else filter (is_above (size_of earlier n)) (standing earlier)
  standing (happened ∷ earlier) = if begins_anew happened then [] else closed happened earlier ++ standing earlier

  -- those closed since the last acknowledgement of a probe or of a packet larger than this
  abbrev pub unanswered : ℕ → History Q S M P → List (List Loss)
  unanswered size [] = []
  unanswered size ((Acked Data now n app_limited, Ok (answer.Acked probe)) ∷ earlier) =
      if probe || nat_lt size (size_of earlier n) then [] else unanswered size earlier
  unanswered size (happened ∷ earlier) =
      if begins_anew happened then [] else closed happened earlier ++ unanswered size earlier

  -- their numbers, since the last fresh path or return to a path
  abbrev pub larger_acked : ℕ → History Q S M P → List ℕ
  larger_acked size [] = []
  larger_acked size ((Acked Data now n app_limited, Ok (answer.Acked probe)) ∷ earlier) =
      if probe || nat_lt size (size_of earlier n) then n ∷ larger_acked size earlier else larger_acked size earlier
  larger_acked size ((NewPath now remote true, Ok given) ∷ earlier) = []
  larger_acked size ((RevertPath, Ok given) ∷ earlier) = []
  larger_acked size (happened ∷ earlier) = larger_acked size earlier

  -- a burst counts if all its packets are above the minimum MTU; a report is made if one that ends above each such
  -- number has three after it
  abbrev pub ReportsBlackHoleAtFour : ℕ → History Q S M P → Event Q S M P → Reply Q → Type 0
  ReportsBlackHoleAtFour least history (LossesDone now) reply =
      let bursts = filter (is_above least) (open_run history ∷ unanswered least history) in
      (reply ≡ Ok (answer.BlackHole true)
      → black_hole_bursts ≤ length (filter (is_above least) (open_run history ∷ standing history)))
      × (list_any (is_past (larger_acked least history)) (drop (black_hole_bursts - 1) bursts) ≡ true
      → reply ≡ Ok (answer.BlackHole true))
  ReportsBlackHoleAtFour least history event reply = Unit {0}
