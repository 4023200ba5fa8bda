-- By the history alone the MTU in use is the one in the state, on both paths: the clause `mtu` of `run`.
use Rattle.std.proofs.Common.{ℕ, ◌≡◌, Bool, true, false, List, [], ◌∷◌, Option, None, Some, Ok, Err, refl, sym, subst, ◌∙◌, arith}
use Rattle.std.specs.Prelude.{is_some, option_map}
use Rattle.recovery_base.specs.declared.below.SpaceId.TheVariants as space
use Rattle.recovery_config.specs.Settings.{initial_mtu_of}
use Rattle.recovery_mtud.specs.declared.config.MtuDiscoveryConfig.{MtuDiscoveryConfig}
use Rattle.recovery_mtud.specs.Discovery.{Discovery, within}
use Rattle.recovery_mtud.specs.DiscoveryLog.{kept_limit}
use Rattle.recovery_mtud.specs.MtuEntries.{MtuEntry, probe_in_flight, limit_in_use, min_mtu_in_use, mtu_in_use as by_entries}
use Rattle.recovery_paths.specs.PathLog.{PathReplyInputs, PathHistory, known_of}
use Rattle.recovery_paths.specs.declared.path_pair.PathName.TheVariants.{Previous}
use Rattle.recovery_events.specs.declared.event.Event.{Event}
use Rattle.recovery_events.specs.declared.event.Event.TheVariants.{PollMtu, Acked, Lost, NewPath, RevertPath}
use Rattle.recovery_events.specs.declared.event.Answer.TheVariants as answer
use Rattle.recovery_history.specs.RepliesAfter.{settings_of}
use Rattle.recovery_history.specs.Table.{limit}
use Rattle.recovery_history.specs.History.{Beginning, History, Reply}
use Rattle.recovery_history.specs.Promises.Mtu.{UsesAckedMtu, mtu, mtu_in_use, mtu_on}
use Rattle.recovery_history.specs.Search.{discovery_settings}
use Rattle.recovery_history.proofs.BlackHolesLaws as holes
use Rattle.recovery_history.proofs.MadeLaws.{in_state, is_made, made_in, resumed}
use Rattle.recovery_history.proofs.LeftMtuLaws.{IsLeft, IsNow, before_same, left_after, left_at_first, left_is}
use Rattle.recovery_history.proofs.ConvergenceLaws as near
use Rattle.recovery_history.proofs.SearchLaws.{mtu_one}
use Rattle.recovery_history.proofs.SearchSaid.{ProbesInTurn, entered_so_far, Keeps, IsSmall}
use Rattle.recovery_history.proofs.SearchSteps.{Facts, Step, stepped, throughout_facts}
use Rattle.recovery_history.proofs.Runs.{AllAlong}

-- ---- if MTU discovery is disabled, no probe is sent, and no limit is stored

module _ {Q S M P : Type 0} (first least : ℕ) where
  abbrev TiedTo : Discovery → History Q S M P → List MtuEntry → Type 0
  TiedTo made history entries = (probe_in_flight entries ≡ None) × (limit_in_use made entries ≡ None)
      × (mtu false first least history ≡ by_entries made entries)

  -- no probe is answered
  abbrev ProbesNone : Event Q S M P → Reply Q → Type 0
  ProbesNone (PollMtu now) (Ok (answer.Probe number size)) = ⊥
  ProbesNone event reply = Unit {0}

  module _ (fresh back made : Discovery) (history : History Q S M P) where
    abbrev After : Event Q S M P → Reply Q → List MtuEntry → Type 0
    After event reply after =
        ProbesNone event reply → TiedTo (near.made_then fresh back made event reply) ((event, reply) ∷ history) after

    module _ (entries : List MtuEntry) (tied : TiedTo made history entries)
        (least_is : least ≡ min_mtu_in_use made entries) (fresh_is : (kept_limit fresh ≡ None) × (first ≡ fresh.mtu))
        (back_is : (kept_limit back ≡ None)
        × (within (mtu_on false first least Previous history) (limit history) ≡ back.mtu))
      where
        step_tied : (event : Event Q S M P) (reply : Reply Q)
            → Step first least history entries (After event) event reply
        step_tied (PollMtu now) (Ok (answer.Probe number size)) = λ none. absurd none
        step_tied (Acked space.Data now number app_limited) (Ok given) = grind arith
        step_tied (Lost space.Data number) (Ok given) = grind arith
        step_tied (NewPath now remote true) (Ok given) = λ none. (refl, fresh_is.0, fresh_is.1)
        step_tied (NewPath now remote true) (Err refusal) = λ none. tied
        step_tied RevertPath (Ok given) = λ none. (refl, back_is.0, back_is.1)
        step_tied event (Ok given) = grind arith
        step_tied event (Err refusal) = λ none. tied

module _ {F K Q S M P : Type 0} (beginning : Beginning F K Q S M P) (is : discovery_settings beginning ≡ None) where
  abbrev first : ℕ
  first = initial_mtu_of beginning.config.transport

  abbrev least : ℕ
  least = beginning.config.transport.min_mtu

  fresh_unsearched : (limit : Option ℕ) → (let fresh = (settings_of beginning).discovery limit in
      (kept_limit fresh ≡ None) × (first ≡ fresh.mtu))
  fresh_unsearched limit = grind (arith, is)

  abbrev pub Unsearched : History Q S M P → Type 0
  Unsearched history = TiedTo first least (made_in beginning history) history (entered_so_far beginning history)

  probes_none : (history : History Q S M P) (event : Event Q S M P) (reply : Reply Q)
      → ProbesInTurn beginning history event reply → ProbesNone first least event reply
  probes_none history (PollMtu now) (Ok (answer.Probe number size)) turn = grind (arith, is, turn)
  probes_none history event reply turn = tt

  pub unsearched_after : (history : History Q S M P) → Unsearched history → IsLeft beginning false history
      → least ≡ min_mtu_in_use (made_in beginning history) (entered_so_far beginning history)
      → (event : Event Q S M P) (reply : Reply Q) → Facts beginning history event reply
      → Unsearched ((event, reply) ∷ history)
  unsearched_after history tied left_then least_is event reply known =
      let fresh = (settings_of beginning).discovery (limit history) in
      let left = mtu_on false first least Previous history in
      let back = resumed beginning left history in
      let made = made_in beginning history in
      let Now : Discovery → Type 0 =
      λ d. TiedTo first least d ((event, reply) ∷ history) (entered_so_far beginning ((event, reply) ∷ history)) in
      subst Now
      (sym (is_made beginning history event reply left
      (left_is beginning false history event reply known.told left_then)))
      (stepped beginning history (After first least fresh back made history event) event reply known
      (step_tied first least fresh back made history (entered_so_far beginning history) tied least_is
      (fresh_unsearched (limit history)) ((fresh_unsearched (limit history)).0, refl) event reply)
      (probes_none history event reply known.turn))

  pub unsearched_first : Unsearched []
  unsearched_first = (refl, (fresh_unsearched None).0, (fresh_unsearched None).1)

-- ---- on both paths

module _ {F K Q S M P : Type 0} (beginning : Beginning F K Q S M P) where
  -- whether MTU discovery is enabled
  abbrev is_searched : Bool
  is_searched = is_some (discovery_settings beginning)

  -- ---- throughout a run

  record Kept (history : History Q S M P) : Type 0 where
    near : near.Kept beginning history
    unsearched : (is : discovery_settings beginning ≡ None) → Unsearched beginning is history
    now : IsNow beginning is_searched history
    left : IsLeft beginning is_searched history

  in_use_same : (history : History Q S M P) → near.Kept beginning history
      → ((is : discovery_settings beginning ≡ None) → Unsearched beginning is history)
      → mtu_in_use beginning history ≡ by_entries (made_in beginning history) (entered_so_far beginning history)
  in_use_same history near unsearched = go (discovery_settings beginning) refl
    where
      go : (by : Option MtuDiscoveryConfig) → discovery_settings beginning ≡ by
          → mtu_in_use beginning history ≡ by_entries (made_in beginning history) (entered_so_far beginning history)
      go None is = grind (arith, is, (unsearched is).2)
      go (Some settings) is = grind (arith, is, (near.searched settings is).tied.1)

  kept_after : Keeps (Facts beginning) Kept
  kept_after history event reply known kept =
      let after = near.kept_by beginning history event reply known kept.near in
      let unsearched : (is : discovery_settings beginning ≡ None) → Unsearched beginning is ((event, reply) ∷ history) =
      λ is. unsearched_after beginning is history (kept.unsearched is)
      (subst (λ by. IsLeft beginning (is_some by) history) is kept.left)
      (sym (holes.least_known beginning history kept.near.holes)) event reply known in
      record {
        near = after;
        unsearched = unsearched;
        now = mtu_one beginning history event reply known.told known.searched
            ∙ sym (in_use_same ((event, reply) ∷ history) after unsearched);
        left = left_after beginning is_searched history event reply kept.now kept.left;
      }

  kept_first : Kept []
  kept_first = record {
    near = near.kept_first beginning;
    unsearched = unsearched_first beginning;
    now = sym (in_use_same [] (near.kept_first beginning) (unsearched_first beginning));
    left = left_at_first beginning is_searched;
  }

  state_mtu : (previous : Option (PathHistory K)) (path : PathReplyInputs K)
      → option_map known_of previous ≡ Some path
      → option_map in_state previous ≡ Some path.state.discovery.mtu
  state_mtu previous path is = grind (arith, is)

  pub mtu_told : IsSmall beginning → AllAlong beginning (UsesAckedMtu beginning)
  mtu_told small = throughout_facts beginning Kept kept_after kept_first (λ history event reply known kept.
      let after = kept_after history event reply known kept in (
        after.now,
        λ path lives. after.left path.state.discovery.mtu (state_mtu _ path lives)
            ∙ before_same is_searched _ _ ((event, reply) ∷ history),
      ))
