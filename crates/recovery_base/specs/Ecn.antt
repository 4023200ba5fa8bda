-- The ECN counts of a peer's ACK frames, and their check (RFC 9000, 13.4.2.1 and 19.3.2).
use Rattle.std.specs.Prelude.{ℕ, ◌+◌, ◌-◌, ◌||◌, if◌then◌else◌, nat_lt, List, Option, None, Some}
use lib.Chars.{codes}
use Rattle.recovery_base.specs.declared.below.frames.EcnCounts.{EcnCounts}

-- The fault of the counts, as text: the first of these causes that holds. Packets sent with ECT(0) are counted as such,
-- or as CE if they were marked on the path. Those in no count are bleached: their codepoint was cleared on the path.
-- Those in neither of these two are corrupted, and so are all with ECT(1), as none is sent.
abbrev pub ecn_fault : EcnCounts → ℕ → EcnCounts → Option (List ℕ)
ecn_fault last newly_acked counts =
    let rise = (counts.ect0 - last.ect0) + (counts.ce - last.ce) in
    if nat_lt counts.ect0 last.ect0 then Some (codes "peer ECT(0) count regression")
    else if nat_lt counts.ect1 last.ect1 then Some (codes "peer ECT(1) count regression")
    else if nat_lt counts.ce last.ce then Some (codes "peer CE count regression")
    else if nat_lt (rise + (counts.ect1 - last.ect1)) newly_acked then Some (codes "ECN bleaching")
    else if nat_lt rise newly_acked || nat_lt last.ect1 counts.ect1 then Some (codes "ECN corruption")
    else None
