use Rattle.std.proofs.Common.{inr, sym, ◌∙◌}
use Rattle.recovery_sender.proofs.CheckLaws.{all_sent, kept_here}
use Rattle.recovery_sender.proofs.sender.Sender.check_ack.Goals as goal

pub returns-in-Err-clause-checked : goal.returns-in-Err-clause-checked
returns-in-Err-clause-checked g c =
    let skipped = c.in-Err.ensures.refused in
    let kept = kept_here _ _ _ c.in-Some.ensures in
    let sent = all_sent c.largest_of.result c.next_packet_number.result
    (sym c.is_unsent.ensures ∙ c.if-is_unsent.false) in
    inr (inr (
      (kept.0, sym c.are_ranges.ensures ∙ c.if-not-are_ranges.false),
      rw (c.largest_of.ensures, c.next_packet_number.ensures, kept.1) at sent,
      skipped.0,
      skipped.1,
      skipped.2,
    ))
