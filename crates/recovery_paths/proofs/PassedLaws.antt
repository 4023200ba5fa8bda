-- What was transmitted checked had passed the pacer right before. The driver's `PacingLaws` rest on it.
use Rattle.std.proofs.Common.{arith, ◌≡◌, List, [], ◌++◌, refl}
use Rattle.std.proofs.lemmas.Bool.{false≢true}
use Rattle.std.proofs.lemmas.Option.{none-some}
use Rattle.recovery_congestion.proofs.PacerLogLaws.{HavePassed}
use Rattle.recovery_paths.specs.PathMaking.{PathSettings}
use Rattle.recovery_paths.specs.PathLog.{OnEachPath, PathsEntry, PathEntry, PathHistory, PathOrigin, pasts_by, each_path, path_state_of, known_of, past_with, past_following, transmits, passes, is_reset}
use Rattle.recovery_paths.specs.PathStates.{PathState}
use Rattle.recovery_paths.proofs.AllowedLaws.{IsAllowed, AreAllowed, kept_after}

-- on one path, since its pacer was made, full
abbrev pub HavePassedOn : {K : Type 0} → PathHistory K → Type 0
HavePassedOn past =
    (past.kept.pacer.tokens ≡ past.kept.pacer.capacity) × HavePassed past.kept.pacer past.pacing

module _ {K : Type 0} (settings : PathSettings K) where
  -- an entry preserves that
  passed_law : (entry : PathEntry) (past : PathHistory K) → IsAllowed settings.words (path_state_of past) entry
      → HavePassedOn past → HavePassedOn (past_with settings entry past)
  passed_law (transmits bytes) past allowed passed = (passed.0, (λ checked. absurd (false≢true checked), passed.1))
  passed_law (passes now bytes) past allowed passed = (passed.0, (λ checked. (refl, allowed), passed.1))
  passed_law (is_reset now) past allowed passed = (refl, tt)
  passed_law entry past allowed passed = passed

  -- a path that follows has a new pacer
  follows_passed : (following : PathOrigin) (past : PathHistory K) → HavePassedOn past
      → HavePassedOn (past_following settings following past)
  follows_passed following past passed = grind arith

  -- an event's entries preserve it
  pub passed_after : (first : PathState K) (entries log : List PathsEntry) → let pasts = pasts_by settings first log in
      AreAllowed settings (each_path known_of pasts) entries → OnEachPath HavePassedOn pasts
      → OnEachPath HavePassedOn (pasts_by settings first (entries ++ log))
  passed_after =
      kept_after settings HavePassedOn (record { by_entry = passed_law; following = follows_passed })

  pub passed_at_first : (first : PathState K) → first.pacer.tokens ≡ first.pacer.capacity
      → OnEachPath HavePassedOn (pasts_by settings first [])
  passed_at_first first full = ((full, tt), λ past is. absurd (none-some _ is))
