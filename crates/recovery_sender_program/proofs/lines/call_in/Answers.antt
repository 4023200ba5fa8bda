use Rattle.std.proofs.Common.{◌≡◌, ◌∷◌, IsSome, [], refl, sym, ◌∙◌, arith}
use Rattle.std.proofs.lemmas.Bool.Decides.{nat_tests}
use Rattle.std.proofs.lemmas.Result.{IfOk-weaker}
use Rattle.recovery_script_syntax.specs.Reading.{words_left}
use Rattle.recovery_script_syntax.proofs.OneOfLaws.{first_is, not_whole}
use Rattle.recovery_sender_program.proofs.CallLaws.{line_ack, line_found, line_passed}
use Rattle.recovery_sender_program.proofs.lines.call_in.Goals as goal
use Rattle.recovery_sender_program.proofs.lines.call_in.Goals.{in_default-short_call-via-in-Some-short_call+else-is_empty, in_default-short_call-via-in_default-short_call}

pub returns-then-is_name : goal.returns-then-is_name
returns-then-is_name c =
    let is = sym c.new-words.ensures ∙ first_is _ _ c.in-Some.name.now c.in-Some.ensures in
    IfOk-weaker c.ack.result _ _ (line_ack c.args.line.now c.in-Some.name.now _ is c.if-line-gt-LINE_LIMIT.false
    c.if-is_name.ensures) c.ack.ensures

pub returns-in-Some-short_call : goal.returns-in-Some-short_call
returns-in-Some-short_call c =
    let is = sym c.new-words.ensures ∙ first_is _ _ c.in-Some.name.now c.in-Some.ensures in
    line_found c.args.line.now c.in-Some.name.now _ is c.if-line-gt-LINE_LIMIT.false c.in-Some-short_call.call
    (grind (arith, c.in-Some-short_call.ensures, c.is_empty.ensures, c.if-is_empty.true))

pub returns-in_default-short_call : goal.returns-in_default-short_call
returns-in_default-short_call c =
    let is = sym c.new-words.ensures ∙ first_is _ _ c.in-Some.name.now c.in-Some.ensures in
    let over : IsSome c.short_call.result → words_left c.short_call.new.words ≡ [] → ⊥ =
    elim c.in_default-short_call.branch [
      | in_default-short_call-via-in-Some-short_call+else-is_empty w ↦
          λ some none. grind (arith, none, w.is_empty.ensures, w.if-is_empty.false)
      | in_default-short_call-via-in_default-short_call w ↦
          λ some none. grind (arith, some, w.in_default-short_call.is)
    ] in
    IfOk-weaker c.passed.result _ _ (line_passed c.args.line.now c.in-Some.name.now _ is c.if-line-gt-LINE_LIMIT.false
    c.if-is_name.ensures (not_whole c.short_call.result (words_left c.short_call.new.words) _ c.short_call.ensures
    over)) c.passed.ensures
