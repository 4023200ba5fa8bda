-- Nothing is invented (RFC 9000, 13). An endpoint sends in a space only what was passed to it there, also in probes and
-- in what it sends again. So an item that was not passed, by how often it occurs, is in no packet. By every measure of
-- items that adds up.
use Rattle.std.specs.Prelude.{◌≡◌, ℕ, List}
use Rattle.recovery_base.specs.declared.below.SpaceId.{SpaceId}
use Rattle.recovery_pair.specs.declared.steps.End.{End}
use Rattle.recovery_pair.specs.Logs.{PairLog, handed, sent_in}
use Rattle.recovery_pair.specs.Promises.Resends.{AddsItems}

-- of one endpoint
abbrev pub IsAllPassed : PairLog → End → Type 0
IsAllPassed log end = (measure : List ℕ → ℕ) → AddsItems measure → (space : SpaceId) → handed end measure space log ≡ 0
    → sent_in end measure space log ≡ 0

abbrev pub SendsWhatIsPassed : PairLog → Type 0
SendsWhatIsPassed log = (end : End) → IsAllPassed log end
