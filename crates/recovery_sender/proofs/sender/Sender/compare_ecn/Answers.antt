use Rattle.std.proofs.Common.{sym, ◌∙◌}
use Rattle.recovery_sender.proofs.sender.Sender.compare_ecn.Goals as goal

pub returns-in_default : goal.returns-in_default
returns-in_default g c = (_, c.in_default.field-0, c.in_default.ensures, c.stop_ecn.ensures)

pub returns-then-not-is_congestion : goal.returns-then-not-is_congestion
returns-then-not-is_congestion g c =
    (c.in-Ok.answer, sym c.is_congestion.ensures ∙ c.if-not-is_congestion.true, c.in-Ok.ensures)

pub returns : goal.returns
returns g c = (
  c.in-Ok.answer,
  _,
  sym c.is_congestion.ensures ∙ c.if-not-is_congestion.false,
  c.in-Ok.ensures,
  c.congested.ensures,
)
