-- Local IDs are issued, retired and asked to be retired as the history says: the clauses `own_ids` and
-- `retirement_requests` of `run`.
use Rattle.std.proofs.lemmas.Bool.Decides.{nat_tests}
use Rattle.std.proofs.Common.{arith, ◌≡◌, ◌≤◌, ◌<◌, ◌+◌, ℕ, zero, suc, true, false, ◌++◌, ◌==◌, ◌||◌, nat_lt, nat_le, not, Bool, List, [], ◌∷◌, length, map, filter, Ok, Err, refl, ap, subst, sym, ◌∙◌}
use Rattle.std.specs.Prelude.{◌&&◌, drop, if◌then◌else◌}
use Rattle.std.specs.Bool.{Decides}
use Rattle.std.specs.List.{range_with_len}
use Rattle.std.proofs.lemmas.List.Elements.{filter-append}
use Rattle.std.proofs.lemmas.List.Sums.{length-filter}
use Rattle.recovery_base.specs.declared.below.ids.IssuedCid.{IssuedCid}
use Rattle.recovery_ids.specs.LocalIds.{LocalIds, deadlines_with, deadlines_with_last, next_mark, no_ids, timed_out, with_issued, without_number}
use Rattle.recovery_events.specs.declared.event.Event.TheVariants.{IdTimeout, IssueIds, PeerRetired}
use Rattle.recovery_events.specs.declared.event.Answer.TheVariants.{Flag}
use Rattle.recovery_events.specs.declared.event.Refusal.TheVariants.{NoMemory, CidsNotInUse, UnissuedCid}
use Rattle.recovery_history.specs.History.{Beginning, History, Reply}
use Rattle.recovery_history.specs.IdReplies.{IssueReply, RetirementReply}
use Rattle.recovery_history.specs.RepliesAfter.{first_ids, RepliesAfter}
use Rattle.recovery_history.specs.Table.{own_ids}
use Rattle.recovery_history.specs.Promises.Lifetimes.{AsksToRetire, asked_below, lifetimes, lives_below, oldest_end}
use Rattle.recovery_history.specs.Promises.OwnIds.{go_on, IsIssue, issued, is_retired, IssuesIdsInOrder}
use Rattle.recovery_history.proofs.LifetimesLaws.{AreAsked, AreLeft, AreMarked, answer, asked_less, asked_more, deadlines_more, is_asked, lifetime_stays, marked_more, timed_asked, timed_marked}
use Rattle.recovery_history.proofs.Runs.{AllAlong, throughout_kept}
use Rattle.recovery_history.proofs.SearchSaid.{Follows, Keeps}

-- ---- lists

-- the numbers are consecutive if they are those of a range
go_on_decides : (n : ℕ) (ids : List IssuedCid)
    → Decides (go_on n ids) (map (λ id. id.sequence) ids ≡ range_with_len n (length ids))
go_on_decides n [] = (λ e. refl, λ e. refl)
go_on_decides n (id ∷ ids) = grind (arith, nat_tests, go_on_decides (n + 1) ids)

filter_without : (s : ℕ) (p : ℕ → Bool) (xs : List ℕ)
    → filter (λ n. not (n == s)) (filter (λ n. not (p n)) xs) ≡ filter (λ n. not (n == s || p n)) xs
filter_without s p [] = refl
filter_without s p (x ∷ xs) = grind (arith, nat_tests, filter_without s p xs)

range_more : (a m c : ℕ) → range_with_len a (m + c) ≡ range_with_len a m ++ range_with_len (a + m) c
range_more a zero c = grind arith
range_more a (suc m) c =
    let count : suc m + c ≡ suc (m + c) = omega arith in
    rw count (grind (arith, range_more (a + 1) m c))

filter_whole : (p : ℕ → Bool) (a n : ℕ) → ((m : ℕ) → a ≤ m → p m ≡ true)
    → filter p (range_with_len a n) ≡ range_with_len a n
filter_whole p a zero all = refl
filter_whole p a (suc n) all =
    grind (arith, all a (omega arith), filter_whole p (a + 1) n (λ m above. all m (omega (arith, above))))

-- ---- what was issued and retired

issued_more : (p : ℕ → Bool) (count now : ℕ) (ids : LocalIds) → AreLeft p ids
    → (let more = with_issued count now ids in (more.cid_len ≡ ids.cid_len) × (ids.issued + count ≡ more.issued)
    × AreLeft p more)
issued_more p zero now ids is = (refl, omega arith, is)
issued_more p (suc count) now ids is = (
  refl,
  omega arith,
  (
    grind (
      arith,
      is.0,
      range_more 0 ids.issued (suc count),
      filter-append p (range_with_len 0 ids.issued) (range_with_len ids.issued (suc count)),
      filter_whole p ids.issued (suc count) is.1,
    ),
    λ n more. is.1 n (omega (arith, more)),
  ),
)

-- ---- IDs that are issued

module _ {Q : Type 0} where
  issues_told : (ids : LocalIds) (more : List IssuedCid) (reply : Reply Q) → IssueReply ids more reply
      → IsIssue ids.issued more reply
  issues_told ids [] (Err NoMemory) told = absurd (told.1.1 refl)
  issues_told ids more reply told = grind (arith, nat_tests, told, go_on_decides ids.issued more)

  -- ---- IDs that the peer retires

  module _ (ids : LocalIds) (sequence limit left : ℕ)
      (same : sequence < ids.issued → length (without_number sequence ids).unretired ≡ left) where
    retires_told : (reply : Reply Q) → RetirementReply ids sequence limit reply
        → reply ≡ (if ids.cid_len == 0 then Err CidsNotInUse
        else if nat_le ids.issued sequence then Err UnissuedCid else Ok (Flag (nat_lt left limit)))
    retires_told (Ok (Flag more)) told = grind (arith, nat_tests, same, told)
    retires_told (Err UnissuedCid) told = grind (arith, nat_tests, told)
    retires_told reply told = grind (arith, nat_tests, told)

-- ---- throughout a run

module _ {F K Q S M P : Type 0} (beginning : Beginning F K Q S M P) where
  -- the history says which IDs are issued and left
  abbrev OwnHeld : History Q S M P → Type 0
  OwnHeld history = let ids = own_ids (first_ids beginning) history in
      (ids.cid_len ≡ beginning.config.cid_len) × (issued beginning.config.issued history ≡ ids.issued)
      × AreLeft (λ n. not (is_retired history n)) ids

  own_first : OwnHeld []
  own_first =
      let config = beginning.config in
      let made = issued_more (λ n. true) config.issued beginning.start (no_ids config.cid_len config.cid_lifetime)
      (refl, λ n all. refl) in
      (made.0, omega (arith, made.1), made.2)

  module _ (before : History Q S M P) (same : OwnHeld before) (sequence : ℕ) where
    abbrev ids_before : LocalIds
    ids_before = own_ids (first_ids beginning) before

    without_one : sequence < ids_before.issued
        → AreLeft (λ n. not (n == sequence || is_retired before n)) (without_number sequence ids_before)
    without_one below = (
      ap (filter (λ n. not (n == sequence))) same.2.0
          ∙ filter_without sequence (is_retired before) (range_with_len 0 ids_before.issued),
      λ n more. grind (arith, nat_tests, below, more, same.2.1 n more),
    )

  -- an event preserves that
  own_after : Keeps (RepliesAfter beginning) OwnHeld
  own_after before (IssueIds now ids) (Ok answer) told same =
      let more = issued_more (λ n. not (is_retired before n)) (length ids.items) now (ids_before before same 0) same.2
      in
      (more.0 ∙ same.0, omega (arith, more.1, same.1), more.2)
  own_after before IdTimeout (Ok answer) told same = grind (arith, same)
  own_after before (PeerRetired sequence limit) (Ok answer) told same =
      (same.0, same.1, without_one before same sequence (omega (arith, told.1.0)))
  own_after before event reply told same = same

  -- the reply to an event follows from the local IDs
  issues_here : Follows (RepliesAfter beginning) OwnHeld (IssuesIdsInOrder beginning.config.issued
      beginning.config.cid_len)
  issues_here before (IssueIds now ids) reply told same =
      rw same.1 (issues_told (ids_before before same 0) ids.items reply told)
  issues_here before (PeerRetired sequence limit) reply told same =
      let ids = ids_before before same 0 in
      grind (
        arith,
        same.0,
        same.1,
        retires_told ids sequence limit _ (λ below. ap length (without_one before same sequence below).0
            ∙ length-filter (λ n. not (n == sequence || is_retired before n)) (range_with_len 0 ids.issued)) reply told,
      )
  issues_here before event reply told same = tt

  -- throughout a run
  pub issues_ids : AllAlong beginning (IssuesIdsInOrder beginning.config.issued beginning.config.cid_len)
  issues_ids =
      throughout_kept beginning OwnHeld (IssuesIdsInOrder beginning.config.issued beginning.config.cid_len) own_after
      issues_here own_first

-- ---- lifetimes of IDs

module _ {F K Q S M P : Type 0} (beginning : Beginning F K Q S M P) where
  abbrev ids_by : History Q S M P → LocalIds
  ids_by = own_ids (first_ids beginning)

  abbrev still : History Q S M P → ℕ → Bool
  still history n = not (is_retired history n)

  -- the IDs that are held, the lifetimes that run, and which IDs the peer was asked to retire
  abbrev Kept : History Q S M P → Type 0
  Kept history = OwnHeld beginning history × ((ids_by history).cid_lifetime ≡ beginning.config.cid_lifetime)
      × ((ids_by history).deadlines ≡ lifetimes beginning history) × AreMarked (ids_by history)
      × AreAsked (still history) (asked_below beginning history) (ids_by history)

  first_kept : Kept []
  first_kept =
      let config = beginning.config in let none = no_ids config.cid_len config.cid_lifetime in (
        own_first beginning,
        lifetime_stays config.issued beginning.start none,
        first_deadlines config.issued,
        marked_more config.issued beginning.start none (omega arith, omega arith),
        asked_more (λ n. true) 0 config.issued beginning.start none (record {
          first = λ n below. absurd (omega (arith, below));
          low = omega arith;
          second = λ n above below. absurd (omega (arith, below));
        }),
      )
    where
      first_deadlines : (count : ℕ)
          → (let config = beginning.config in
          (with_issued count beginning.start (no_ids config.cid_len config.cid_lifetime)).deadlines
          ≡ deadlines_with_last config.cid_lifetime beginning.start count [])
      first_deadlines zero = refl
      first_deadlines (suc count) =
          let none : 0 + count ≡ count = omega arith in
          ap (λ n. deadlines_with beginning.config.cid_lifetime beginning.start n []) none

  module _ (before : History Q S M P) (kept : Kept before) where
    abbrev old : LocalIds
    old = ids_by before

    abbrev says : Bool
    says = answer (still before) (asked_below beginning before) old kept.0.2 kept.3 kept.4

    ends : drop 1 old.deadlines ≡ (timed_out old).deadlines
    ends = grind arith

    stays : old.cid_lifetime ≡ (timed_out old).cid_lifetime
    stays = grind arith

    asked_then : (flag : Bool) → says ≡ flag → AreAsked (still before)
        (if flag then oldest_end beginning before else asked_below beginning before) (timed_out old)
    asked_then flag is = subst (λ deadlines. AreAsked (still before)
        (if flag then next_mark 0 deadlines else asked_below beginning before) (timed_out old)) kept.2
        (timed_asked (still before) (asked_below beginning before) old kept.0.2 kept.3 kept.4 flag is)

    told_so : says ≡ (not (lives_below beginning (asked_below beginning before) before)
        && lives_below beginning (oldest_end beginning before) before)
    told_so = subst (λ deadlines. says ≡ (not (lives_below beginning (asked_below beginning before) before)
        && lives_below beginning (next_mark 0 deadlines) before)) kept.2
        (is_asked (still before) (asked_below beginning before) old kept.0.2 kept.3 kept.4)

    marked_then : AreMarked (timed_out old)
    marked_then = timed_marked (still before) (asked_below beginning before) old kept.0.2 kept.3 kept.4

  own_asked : Keeps (RepliesAfter beginning) Kept
  own_asked before (IssueIds now ids) (Ok given) told kept =
      let count = length ids.items in let old = ids_by before in (
        own_after beginning before (IssueIds now ids) (Ok given) told kept.0,
        lifetime_stays count now old ∙ kept.1,
        deadlines_more count now old ∙ grind (arith, kept.1, kept.2, kept.0.1),
        marked_more count now old kept.3,
        asked_more (still before) (asked_below beginning before) count now old kept.4,
      )
  own_asked before IdTimeout (Ok (Flag true)) told kept = (
    own_after beginning before IdTimeout (Ok (Flag true)) told kept.0,
    sym (stays before kept) ∙ kept.1,
    sym (ends before kept) ∙ ap (drop 1) kept.2,
    marked_then before kept,
    asked_then before kept true (cc),
  )
  own_asked before IdTimeout (Ok (Flag false)) told kept = (
    own_after beginning before IdTimeout (Ok (Flag false)) told kept.0,
    sym (stays before kept) ∙ kept.1,
    sym (ends before kept) ∙ ap (drop 1) kept.2,
    marked_then before kept,
    asked_then before kept false (cc),
  )
  own_asked before IdTimeout (Ok given) told kept = absurd (cc)
  own_asked before (PeerRetired sequence limit) (Ok given) told kept = (
    own_after beginning before (PeerRetired sequence limit) (Ok given) told kept.0,
    kept.1,
    kept.2,
    kept.3,
    asked_less (still before) (λ n. not (n == sequence || is_retired before n)) (asked_below beginning before)
        (ids_by before) _ (λ n is. grind (arith, nat_tests, is)) refl refl kept.4,
  )
  own_asked before event reply told kept = kept

  asks_here : Follows (RepliesAfter beginning) Kept (AsksToRetire beginning)
  asks_here before IdTimeout (Ok given) told kept = ap (λ given. Ok given) (told ∙ ap Flag (told_so before kept))
  asks_here before IdTimeout (Err NoMemory) told kept = absurd told
  asks_here before IdTimeout (Err refusal) told kept = absurd told
  asks_here before event reply told kept = tt

  pub asks_to_retire : AllAlong beginning (AsksToRetire beginning)
  asks_to_retire = throughout_kept beginning Kept (AsksToRetire beginning) own_asked asks_here first_kept
