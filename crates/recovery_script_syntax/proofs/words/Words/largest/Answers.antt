use Rattle.std.proofs.Common.{refl, arith}
use Rattle.recovery_script_syntax.specs.Reading.{largest_of, words_left}
use Rattle.recovery_script_syntax.proofs.NameLaws.{field_named, largest_as}
use Rattle.recovery_script_syntax.proofs.words.Words.largest.Goals as goal

pub returns-then-take_name : goal.returns-then-take_name
unfolding largest_of
returns-then-take_name c = field_named _ _ _ _ _ c.if-take_name.ensures refl

pub returns-in_err-number : goal.returns-in_err-number
returns-in_err-number c =
    grind (
      arith,
      largest_as (words_left c.args.self.now) c.if-take_name.ensures.1,
      c.if-take_name.ensures.0,
      c.in_err-number.ensures,
      c.from_residual.ensures,
    )

pub returns : goal.returns
returns c =
    grind (
      arith,
      largest_as (words_left c.args.self.now) c.if-take_name.ensures.1,
      c.if-take_name.ensures.0,
      c.in_ok-number.ensures,
    )
