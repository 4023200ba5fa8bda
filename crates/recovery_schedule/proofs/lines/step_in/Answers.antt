use Rattle.std.proofs.Common.{◌≡◌, [], IsSome, sym, ◌∙◌, arith}
use Rattle.std.proofs.lemmas.Result.{IfOk-weaker}
use Rattle.recovery_script_syntax.specs.Reading.{words_left}
use Rattle.recovery_script_syntax.proofs.OneOfLaws.{first_is}
use Rattle.recovery_schedule.proofs.StepLaws.{line_found, line_hand, line_none}
use Rattle.recovery_schedule.proofs.lines.step_in.Goals as goal
use Rattle.recovery_schedule.proofs.lines.step_in.Goals.{in_default-short_step-via-in-Some-short_step+else-is_empty, in_default-short_step-via-in_default-short_step}

pub returns-then-is_name : goal.returns-then-is_name
returns-then-is_name c =
    let is = sym c.new-words.ensures ∙ first_is _ _ c.in-Some.name.now c.in-Some.ensures in
    IfOk-weaker c.hand.result _ _ (line_hand c.args.line.now c.in-Some.name.now _ is c.if-line-gt-LINE_LIMIT.false
    c.if-is_name.ensures) c.hand.ensures

pub returns-in-Some-short_step : goal.returns-in-Some-short_step
returns-in-Some-short_step c =
    let is = sym c.new-words.ensures ∙ first_is _ _ c.in-Some.name.now c.in-Some.ensures in
    line_found c.args.line.now c.in-Some.name.now _ is c.if-line-gt-LINE_LIMIT.false c.in-Some-short_step.step
    (grind (arith, c.in-Some-short_step.ensures, c.is_empty.ensures, c.if-is_empty.true))

pub returns-in_default-short_step : goal.returns-in_default-short_step
returns-in_default-short_step c =
    let is = sym c.new-words.ensures ∙ first_is _ _ c.in-Some.name.now c.in-Some.ensures in
    let over : IsSome c.short_step.result → words_left c.short_step.new.words ≡ [] → ⊥ =
    elim c.in_default-short_step.branch [
      | in_default-short_step-via-in-Some-short_step+else-is_empty w ↦
          λ some none. grind (arith, none, w.is_empty.ensures, w.if-is_empty.false)
      | in_default-short_step-via-in_default-short_step w ↦
          λ some none. grind (arith, some, w.in_default-short_step.is)
    ] in
    line_none c.args.line.now c.in-Some.name.now _ is c.if-line-gt-LINE_LIMIT.false c.if-is_name.ensures
    c.short_step.result (words_left c.short_step.new.words) c.short_step.ensures over
