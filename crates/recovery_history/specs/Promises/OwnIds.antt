-- Local IDs (RFC 9000, 5.1.1 and 19.16): their numbers continue from those issued before, and the peer retires only
-- issued ones. The answer states whether it has room for one more.
use Rattle.std.specs.Prelude.{◌≡◌, ℕ, ◌+◌, ◌==◌, Bool, true, false, not, ◌&&◌, ◌||◌, nat_lt, nat_le, List, [], ◌∷◌, length, Ok, Err, count_by, if◌then◌else◌}
use Rattle.std.specs.List.{range_with_len}
use Rattle.recovery_base.specs.declared.below.ids.IssuedCid.{IssuedCid}
use Rattle.recovery_base.specs.Units.{number_limit}
use Rattle.recovery_events.specs.declared.event.Event.{Event}
use Rattle.recovery_events.specs.declared.event.Event.TheVariants.{IssueIds, PeerRetired}
use Rattle.recovery_events.specs.declared.event.Answer.TheVariants.{Done, Flag}
use Rattle.recovery_events.specs.declared.event.Refusal.TheVariants.{NumberTooLarge, BadRange, NoMemory, CidsNotInUse, UnissuedCid}
use Rattle.recovery_history.specs.History.{History, Reply}

-- consecutive numbers from n on
abbrev pub go_on : ℕ → List IssuedCid → Bool
go_on n [] = true
go_on n (id ∷ ids) = id.sequence == n && go_on (n + 1) ids

-- the reply to these IDs, after `count` were issued
abbrev pub issue_reply : {Q : Type 0} → ℕ → List IssuedCid → Reply Q
issue_reply count ids =
    if nat_lt number_limit (count + length ids) then Err NumberTooLarge
    else if go_on count ids then Ok Done else Err BadRange

-- only if there are IDs, `NoMemory` may replace the answer
abbrev pub IsIssue : {Q : Type 0} → ℕ → List IssuedCid → Reply Q → Type 0
IsIssue {Q} count (id ∷ ids) (Err NoMemory) = (let done : Reply Q = Ok Done in issue_reply count (id ∷ ids) ≡ done)
IsIssue count ids reply = reply ≡ issue_reply count ids

module _ {Q S M P : Type 0} where
  -- how many were issued, at the start and since
  abbrev pub issued : ℕ → History Q S M P → ℕ
  issued first [] = first
  issued first ((IssueIds now ids, Ok answer) ∷ earlier) = issued first earlier + length ids.items
  issued first (happened ∷ earlier) = issued first earlier

  abbrev pub is_retired : History Q S M P → ℕ → Bool
  is_retired [] n = false
  is_retired ((PeerRetired sequence limit, Ok answer) ∷ earlier) n = n == sequence || is_retired earlier n
  is_retired (happened ∷ earlier) n = is_retired earlier n

  -- `first` IDs of `bytes` bytes were issued at the start
  abbrev pub IssuesIdsInOrder : ℕ → ℕ → History Q S M P → Event Q S M P → Reply Q → Type 0
  IssuesIdsInOrder first bytes history (IssueIds now ids) reply = IsIssue (issued first history) ids.items reply
  IssuesIdsInOrder first bytes history (PeerRetired sequence limit) reply =
      let count = issued first history in
      let left = count_by (λ n. not (n == sequence || is_retired history n)) (range_with_len 0 count) in
      reply ≡ (if bytes == 0 then Err CidsNotInUse
      else if nat_le count sequence then Err UnissuedCid else Ok (Flag (nat_lt left limit)))
  IssuesIdsInOrder first bytes history event reply = Unit {0}
