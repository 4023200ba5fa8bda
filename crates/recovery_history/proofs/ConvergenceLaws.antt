-- By the history alone a search ends near the best size of such a link, as its entries say: the clause `convergence` of
-- `run`.
use Rattle.std.proofs.Common.{ℕ, ◌≡◌, ◌||◌, min, max, Bool, true, false, if◌then◌else◌, List, [], ◌∷◌, Option, None, Some, Ok, Err, refl, sym, ap, ap₂, subst, ◌∙◌, is_some, arith}
use Rattle.std.specs.Prelude.{nat_le, nat_lt, length}
use Rattle.std.proofs.lemmas.Bool.Decides.{nat_tests}
use Rattle.recovery_base.specs.declared.below.SpaceId.TheVariants as space
use Rattle.recovery_config.specs.Settings.{initial_mtu_of}
use Rattle.recovery_mtud.specs.declared.config.MtuDiscoveryConfig.{MtuDiscoveryConfig}
use Rattle.recovery_mtud.specs.Discovery.{Discovery, limit_or_greatest, within}
use Rattle.recovery_mtud.specs.DiscoveryLog.{kept_limit}
use Rattle.recovery_mtud.specs.MtuEntries.{MtuEntry, unprobed, probe_in_flight, limit_in_use, min_mtu_in_use, mtu_in_use}
use Rattle.recovery_mtud.specs.SearchRuns.{AreLimitsOutside, EndsNearBest, start_upper, acked_sizes, before_search, lost_sizes, next_activation, probed_sizes, search_of, search_runs}
use Rattle.recovery_paths.specs.declared.path_pair.PathName.TheVariants.{Previous}
use Rattle.recovery_events.specs.declared.event.Event.{Event}
use Rattle.recovery_events.specs.declared.event.Event.TheVariants.{PollMtu, Acked, Lost, LossesDone, MtuFound, PeerLimit, ResetPath, NewPath, RevertPath}
use Rattle.recovery_events.specs.declared.event.Answer.TheVariants as answer
use Rattle.recovery_history.specs.Table.{limit}
use Rattle.recovery_history.specs.History.{Beginning, History, Reply}
use Rattle.recovery_history.specs.RepliesAfter.{settings_of}
use Rattle.recovery_history.specs.Search.{discovery_settings}
use Rattle.recovery_history.specs.Promises.ProbeCount.{is_in_flight}
use Rattle.recovery_history.specs.Promises.Mtu.{mtu, mtu_on}
use Rattle.recovery_history.specs.Promises.Convergence.{ConvergesNearBest, IsNear, next, start}
use Rattle.recovery_history.specs.Promises.Probes.{acked_probes, lost_probes, runs}
use Rattle.recovery_history.proofs.SearchSaid.{entered_so_far, Follows, Keeps, IsSmall}
use Rattle.recovery_history.proofs.ProbeCountLaws as few
use Rattle.recovery_mtud.proofs.SearchRunLaws.{idle_before}
use Rattle.recovery_history.proofs.BlackHolesLaws as holes
use Rattle.recovery_history.proofs.MadeLaws.{is_made, made_in, resumed}
use Rattle.recovery_history.proofs.LeftMtuLaws.{IsLeft, IsNow, left_after, left_at_first, left_is}
use Rattle.recovery_history.proofs.SearchLaws.{ends_one, mtu_one}
use Rattle.recovery_history.proofs.SearchSteps.{Facts, Step, stepped, throughout_facts}
use Rattle.recovery_history.proofs.Runs.{AllAlong}

-- ---- the limit that the peer stated last

-- ---- the entries of the search that runs

-- if none runs there are none; one runs exactly if it probed some, and while a probe is in flight; its entries have
-- that probe
abbrev Seen : List MtuEntry → Type 0
Seen entries =
    (search_runs entries ≡ false → search_of entries ≡ [])
    × (nat_lt 0 (length (probed_sizes (search_of entries))) ≡ search_runs entries)
    × (is_some (probe_in_flight entries) ≡ true → search_runs entries ≡ true)
    × (search_runs entries ≡ true → probe_in_flight (search_of entries) ≡ probe_in_flight entries)

seen : (entries : List MtuEntry) → Seen entries
seen [] = grind arith
seen (entry ∷ earlier) = grind (arith, nat_tests, seen earlier)

-- the limit was the same as it began
limit_before : (made : Discovery) (entries : List MtuEntry) → AreLimitsOutside entries
    → limit_in_use made (before_search entries) ≡ limit_in_use made entries
limit_before made [] outside = refl
limit_before made (entry ∷ earlier) outside = grind (arith, limit_before made earlier)

-- ---- what is read from the history is what the entries say

-- a search that continues began as before
abbrev Carries : Discovery → Discovery → List MtuEntry → List MtuEntry → Type 0
Carries made old after entries = search_runs after ≡ true → (before_search after ≡ before_search entries) × (made ≡ old)

-- a search runs by the history if one does by its entries
pub runs_same : {Q S M P : Type 0} (history : History Q S M P) (entries : List MtuEntry) → few.TiedTo history entries
    → runs history ≡ search_runs entries
runs_same history entries tied = ap (λ sizes. nat_lt 0 (length sizes)) tied.1 ∙ (seen entries).1

-- the discovery of the path in use, by the one that a fresh path has, and by that of one that is used again
abbrev pub made_then : {Q S M P : Type 0} → Discovery → Discovery → Discovery → Event Q S M P → Reply Q → Discovery
made_then fresh back made (NewPath now remote true) (Ok given) = fresh
made_then fresh back made RevertPath (Ok given) = back
made_then fresh back made event reply = made

-- no MTU found elsewhere is accepted
abbrev FindsNone : {Q S M P : Type 0} → Event Q S M P → Reply Q → Type 0
FindsNone (MtuFound mtu) (Ok given) = ⊥
FindsNone event reply = Unit {0}

module _ {Q S M P : Type 0} (first least : ℕ) (settings : MtuDiscoveryConfig) where
  abbrev pub TiedTo : Discovery → History Q S M P → List MtuEntry → Type 0
  TiedTo made history entries =
      (limit_in_use made entries ≡ Some (limit_or_greatest (limit history)))
      × (mtu true first least history ≡ mtu_in_use made entries)
      × (next settings history ≡ next_activation settings entries)
      × (acked_probes history ≡ acked_sizes (search_of entries))
      × (lost_probes history ≡ lost_sizes (search_of entries))
      × AreLimitsOutside entries

  module _ (fresh back made : Discovery) (history : History Q S M P) (entries : List MtuEntry) where
    abbrev pub After : Event Q S M P → Reply Q → List MtuEntry → Type 0
    After event reply after =
        FindsNone event reply → let now = made_then fresh back made event reply in
        TiedTo now ((event, reply) ∷ history) after × Carries now made after entries

  module _ (fresh back made : Discovery) (history : History Q S M P) (entries : List MtuEntry)
      (before : few.TiedTo history entries) (tied : TiedTo made history entries)
      (least_is : least ≡ min_mtu_in_use made entries)
      (fresh_is : (kept_limit fresh ≡ Some (limit_or_greatest (limit history)))
      × (within first (limit history) ≡ fresh.mtu))
      (back_is : (kept_limit back ≡ Some (limit_or_greatest (limit history)))
      × (within (mtu_on true first least Previous history) (limit history) ≡ back.mtu)) where
    -- if there is no entry
    stays : ((if runs history then acked_probes history else []) ≡ acked_sizes (search_of entries))
        × ((if runs history then lost_probes history else []) ≡ lost_sizes (search_of entries))
    stays = grind (arith, seen entries)

    pub step_tied : (event : Event Q S M P) (reply : Reply Q)
        → Step first least history entries (After fresh back made history entries event) event reply
    step_tied (PollMtu now) (Ok (answer.Probe number size)) = grind arith
    step_tied (PollMtu now) (Ok answer.NoProbe) = grind (arith, seen entries)
    step_tied (PeerLimit size) (Ok given) = grind (arith, seen entries)
    step_tied (Acked space.Data now number app_limited) (Ok given) = grind (arith, seen entries)
    step_tied (Lost space.Data number) (Ok given) = grind (arith, seen entries)
    step_tied (LossesDone now) (Ok given) = grind (arith, seen entries)
    step_tied (ResetPath now) (Ok given) = grind arith
    step_tied (NewPath now remote true) (Ok given) =
        λ none. ((fresh_is.0, fresh_is.1, refl, refl, refl, tt), λ runs. absurd (cc))
    step_tied (NewPath now remote true) (Err refusal) = grind (arith, seen entries)
    step_tied RevertPath (Ok given) =
        λ none. ((back_is.0, back_is.1, refl, refl, refl, tt), λ runs. absurd (cc))
    step_tied (MtuFound mtu) (Ok given) = λ none. absurd none
    step_tied event (Ok given) =
        λ none. ((tied.0, tied.1, tied.2, stays.0, stays.1, tied.5), λ runs. (refl, refl))
    step_tied event (Err refusal) =
        λ none. ((tied.0, tied.1, tied.2, stays.0, stays.1, tied.5), λ runs. (refl, refl))

-- ---- a path that is fresh

module _ {F K Q S M P : Type 0} (beginning : Beginning F K Q S M P) (settings : MtuDiscoveryConfig)
    (is : discovery_settings beginning ≡ Some settings) where
  abbrev first : ℕ
  first = initial_mtu_of beginning.config.transport

  abbrev least : ℕ
  least = beginning.config.transport.min_mtu

  fresh_searched : (limit : Option ℕ) → (let fresh = (settings_of beginning).discovery limit in
      (kept_limit fresh ≡ Some (limit_or_greatest limit)) × (within first limit ≡ fresh.mtu))
  fresh_searched limit = grind (arith, is)

  back_searched : (history : History Q S M P) → (let left = mtu_on true first least Previous history in
      let back = resumed beginning left history in (kept_limit back ≡ Some (limit_or_greatest (limit history)))
      × (within left (limit history) ≡ back.mtu))
  back_searched history = ((fresh_searched (limit history)).0, refl)

  -- ---- the invariant

  pub record Searched (history : History Q S M P) : Type 0 where
    pub tied : TiedTo first least settings (made_in beginning history) history (entered_so_far beginning history)
    start : start first least history ≡ mtu_in_use (made_in beginning history)
        (before_search (entered_so_far beginning history))
    now : IsNow beginning true history
    left : IsLeft beginning true history

  finds_none : (history : History Q S M P) (event : Event Q S M P) (reply : Reply Q)
      → Facts beginning history event reply → FindsNone event reply
  finds_none history (MtuFound mtu) (Ok given) known = grind (arith, is, known.elsewhere)
  finds_none history event reply known = tt

  -- the MTU before a search is unchanged while it runs
  start_after : (now before : Discovery) (history : History Q S M P) (happened : Event Q S M P × Reply Q)
      (after entries : List MtuEntry) → few.TiedTo (happened ∷ history) after
      → mtu true first least (happened ∷ history) ≡ mtu_in_use now after → Carries now before after entries
      → start first least history ≡ mtu_in_use before (before_search entries)
      → start first least (happened ∷ history) ≡ mtu_in_use now (before_search after)
  start_after now before history happened after entries tied same carries started =
      grind (arith, runs_same (happened ∷ history) after tied, idle_before after)

  module _ (history : History Q S M P) (before : few.Tied beginning history) (searched : Searched history)
      (least_is : least ≡ min_mtu_in_use (made_in beginning history) (entered_so_far beginning history)) where
    searched_after : (event : Event Q S M P) (reply : Reply Q) → Facts beginning history event reply
        → few.Tied beginning ((event, reply) ∷ history) → Searched ((event, reply) ∷ history)
    searched_after event reply known after =
        let entries = entered_so_far beginning ((event, reply) ∷ history) in
        let made = made_in beginning history in
        let so_far = entered_so_far beginning history in
        let fresh = (settings_of beginning).discovery (limit history) in
        let left = mtu_on true first least Previous history in
        let back = resumed beginning left history in
        let Now : Discovery → Type 0 =
        λ d. TiedTo first least settings d ((event, reply) ∷ history) entries × Carries d made entries so_far in
        let both = subst Now
        (sym (is_made beginning history event reply left
        (left_is beginning true history event reply known.told searched.left)))
        (stepped beginning history (After first least settings fresh back made history so_far event) event reply known
        (step_tied first least settings fresh back made history so_far before searched.tied least_is
        (fresh_searched (limit history)) (back_searched history) event reply) (finds_none history event reply known)) in
        record {
          tied = both.0;
          start = start_after _ made history (event, reply) entries so_far after both.0.1 both.1 searched.start;
          now = mtu_one beginning history event reply known.told known.searched ∙ sym both.0.1;
          left = left_after beginning true history event reply searched.now searched.left;
        }

  searched_first : Searched []
  searched_first =
      let fresh = fresh_searched None in record {
        tied = (fresh.0, fresh.1, refl, refl, refl, tt);
        start = fresh.1;
        now = sym fresh.1;
        left = left_at_first beginning true;
      }

  -- ---- a search that ends

  -- the upper bound as the search began
  pub upper_is : (history : History Q S M P) → Searched history
      → start_upper (made_in beginning history) settings (entered_so_far beginning history)
      ≡ min (max settings.upper_bound (start first least history)) (limit_or_greatest (limit history))
  upper_is history searched =
      let limited = limit_before (made_in beginning history) (entered_so_far beginning history) searched.tied.5 in
      grind (arith, searched.start, limited, searched.tied.0)

  near_after : (history : History Q S M P) (now : ℕ) → few.Tied beginning history → Searched history
      → EndsNearBest (made_in beginning history) settings (unprobed now ∷ entered_so_far beginning history)
      → is_in_flight history ≡ false → (runs history || nat_le (next settings history) now) ≡ true
      → (link : ℕ) → IsNear first least settings link history
  near_after history now before searched near quiet due link starts acks losses =
      let tied = searched.tied in
      let entries = entered_so_far beginning history in
      let found = near (grind (arith, quiet, before.0))
      (ap₂ (λ (r : Bool) (n : ℕ). r || nat_le n now) (sym (runs_same history entries before)) (sym tied.2)
      ∙ due) link (record {
        start = grind (arith, searched.start, starts);
        acked = rw (← tied.3) acks;
        lost = rw (← tied.4) losses;
      }) in
      (omega (arith, found.carried, tied.1), omega (arith, found.near, upper_is history searched, tied.1))

-- ---- throughout a run

module _ {F K Q S M P : Type 0} (beginning : Beginning F K Q S M P) where
  pub record Kept (history : History Q S M P) : Type 0 where
    pub holes : holes.Kept beginning history
    pub few : few.Tied beginning history
    pub searched : (settings : MtuDiscoveryConfig) (is : discovery_settings beginning ≡ Some settings)
        → Searched beginning settings is history

  pub kept_by : Keeps (Facts beginning) Kept
  kept_by history event reply known kept =
      let after = few.tied_after beginning history event reply known kept.few in
      record {
        holes = holes.kept_after beginning history event reply known kept.holes;
        few = after;
        searched = λ settings is. searched_after beginning settings is history kept.few (kept.searched settings is)
            (sym (holes.least_known beginning history kept.holes)) event reply known after;
      }

  pub kept_first : Kept []
  kept_first = record {
    holes = holes.kept_first beginning;
    few = (refl, refl, tt);
    searched = λ settings is. searched_first beginning settings is;
  }

  pub near_told : IsSmall beginning → AllAlong beginning (ConvergesNearBest beginning)
  near_told small = throughout_facts beginning Kept kept_by kept_first near
    where
      near : Follows (Facts beginning) Kept (ConvergesNearBest beginning)
      near history (PollMtu now) (Ok answer.NoProbe) known kept = λ settings is change.
          near_after beginning settings is history now kept.few (kept.searched settings is)
          (ends_one beginning small history (PollMtu now) (Ok answer.NoProbe) known.told known.searched settings is
          change)
      near history event reply known kept = tt
