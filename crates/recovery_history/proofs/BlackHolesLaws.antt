-- By the history alone reports of black holes need four bursts and are made at four, as the entries of the search say:
-- the clause `black_holes` of `run`.
use Rattle.std.proofs.Common.{ℕ, ◌≡◌, true, List, [], ◌∷◌, Ok, Err, refl, ap, subst, ◌∙◌, arith}
use Rattle.recovery_base.specs.declared.below.SpaceId.TheVariants as space
use Rattle.recovery_mtud.specs.BurstRuns as entries_
use Rattle.recovery_mtud.specs.Discovery.{Discovery}
use Rattle.recovery_mtud.specs.MtuEntries.{MtuEntry, reset, min_mtu_in_use}
use Rattle.recovery_events.specs.declared.event.Event.{Event}
use Rattle.recovery_events.specs.declared.event.Event.TheVariants.{PollMtu, Acked, Lost, LossesDone, ResetPath, NewPath, RevertPath}
use Rattle.recovery_events.specs.declared.event.Answer.TheVariants as answer
use Rattle.recovery_history.specs.RepliesAfter.{settings_of}
use Rattle.recovery_history.specs.History.{Beginning, History, Reply}
use Rattle.recovery_history.specs.Promises.Bursts.{open_run}
use Rattle.recovery_history.specs.Promises.BlackHoles.{ReportsBlackHoleAtFour, larger_acked, standing, unanswered}
use Rattle.recovery_history.proofs.SearchSaid.{NeedsFourBursts, entered_so_far, Follows, Keeps}
use Rattle.recovery_history.proofs.BurstLaws.{comes_one, needs_one}
use Rattle.recovery_history.proofs.MadeLaws.{is_made, left_size, left_there, made_after, made_in}
use Rattle.recovery_history.proofs.SearchSteps.{Facts, Step, stepped, throughout_facts}
use Rattle.recovery_history.proofs.Runs.{AllAlong}
use Rattle.recovery_history.proofs.TrackedLaws.{AllTracked, keeps_tracked, none_tracked}

-- ---- the minimum MTU is that of the settings

-- each reset is to this minimum MTU
abbrev ResetsTo : ℕ → List MtuEntry → Type 0
ResetsTo least [] = Unit {0}
ResetsTo least (reset mtu min_mtu ∷ earlier) = (min_mtu ≡ least) × ResetsTo least earlier
ResetsTo least (entry ∷ earlier) = ResetsTo least earlier

-- so it is in use
least_in_use : (made : Discovery) (least : ℕ) (entries : List MtuEntry) → made.bursts.min_mtu ≡ least
    → ResetsTo least entries
    → min_mtu_in_use made entries ≡ least
least_in_use made least [] is resets = is
least_in_use made least (entry ∷ earlier) is resets = grind (arith, least_in_use made least earlier is)

-- ---- what is read from the history is what the entries say

module _ {Q S M P : Type 0} (least : ℕ) where
  abbrev pub TiedTo : History Q S M P → List MtuEntry → Type 0
  TiedTo history entries =
      (open_run history ≡ entries_.open_run entries)
      × (standing history ≡ entries_.standing entries)
      × (unanswered least history ≡ entries_.unanswered least entries)
      × (larger_acked least history ≡ entries_.larger_acked least entries)
      × ResetsTo least entries

  module _ (first : ℕ) (history : History Q S M P) (entries : List MtuEntry) (tied : TiedTo history entries) where
    step_tied : (event : Event Q S M P) (reply : Reply Q)
        → Step first least history entries (λ r after. TiedTo ((event, r) ∷ history) after) event reply
    step_tied (ResetPath now) (Ok given) = (refl, refl, refl, tied.3, (refl, tied.4))
    step_tied (NewPath now remote true) (Ok given) = (refl, refl, refl, refl, tt)
    step_tied RevertPath (Ok given) = (refl, refl, refl, refl, tt)
    step_tied (NewPath now remote true) (Err refusal) = tied
    step_tied (PollMtu now) (Ok (answer.Probe number size)) = tied
    step_tied (Acked space.Data now number app_limited) (Err refusal) = tied
    step_tied (Lost space.Data number) (Err refusal) = tied
    step_tied event (Ok given) = grind (arith, tied)
    step_tied event (Err refusal) = tied

module _ {F K Q S M P : Type 0} (beginning : Beginning F K Q S M P) where
  -- the minimum MTU of the settings
  abbrev least : ℕ
  least = beginning.config.transport.min_mtu

  -- ---- the invariant

  -- the path in use was made with the minimum MTU
  abbrev IsMadeLeast : History Q S M P → Type 0
  IsMadeLeast history = (made_in beginning history).bursts.min_mtu ≡ least

  made_least : (left : ℕ) (history : History Q S M P) (event : Event Q S M P) (reply : Reply Q) → IsMadeLeast history
      → (made_after beginning left history event reply).bursts.min_mtu ≡ least
  made_least left history (NewPath now remote true) (Ok given) is = refl
  made_least left history RevertPath (Ok given) is = refl
  made_least left history event reply is = is

  pub record Kept (history : History Q S M P) : Type 0 where
    pub tied : TiedTo least history (entered_so_far beginning history)
    pub made : IsMadeLeast history
    tracked : AllTracked beginning history

  pub kept_after : Keeps (Facts beginning) Kept
  kept_after history event reply known kept = record {
    tied = stepped beginning history (λ r after. TiedTo least ((event, r) ∷ history) after) event reply known
        (step_tied least (settings_of beginning).mtu history (entered_so_far beginning history) kept.tied event reply);
    made = ap (λ made. made.bursts.min_mtu)
        (is_made beginning history event reply _ (left_there beginning history event reply known.told))
        ∙ made_least (left_size beginning history) history event reply kept.made;
    tracked = keeps_tracked beginning history event reply known.told kept.tracked;
  }

  pub kept_first : Kept []
  kept_first = record { tied = (refl, refl, refl, refl, tt); made = refl; tracked = none_tracked beginning }

  pub least_known : (history : History Q S M P) → Kept history
      → min_mtu_in_use (made_in beginning history) (entered_so_far beginning history) ≡ least
  least_known history kept = least_in_use (made_in beginning history) least (entered_so_far beginning history) kept.made
      kept.tied.4

  -- ---- the promise

  holes_one : Follows (Facts beginning) Kept (ReportsBlackHoleAtFour least)
  holes_one history (LossesDone now) reply known kept =
      let is = least_known history kept in
      let tied = kept.tied in
      let Needed : Reply Q → Type 0 = λ r. NeedsFourBursts beginning history (LossesDone now) r in (
        λ reports.
            let needs = subst Needed reports
            (needs_one beginning history (LossesDone now) reply known.told kept.tracked) in
            grind (arith, is, tied, needs),
        λ four. comes_one beginning history (LossesDone now) reply known.told (grind (arith, is, tied)),
      )
  holes_one history event reply known kept = tt

  -- throughout a run
  pub holes_told : AllAlong beginning (ReportsBlackHoleAtFour least)
  holes_told = throughout_facts beginning Kept kept_after kept_first holes_one
