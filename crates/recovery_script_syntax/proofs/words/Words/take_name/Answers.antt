use Rattle.std.proofs.Common.{◌==◌, refl, arith}
use Rattle.std.specs.List.{before_first}
use Rattle.std.proofs.lemmas.Slice.Eq.{bytes_eq-Decides}
use Rattle.recovery_script_syntax.proofs.NameLaws.{taken}
use Rattle.recovery_script_syntax.proofs.WordLaws.{some_first}
use Rattle.recovery_script_syntax.proofs.words.Words.take_name.Goals as goal

pub returns-then-not-begins_with : goal.returns-then-not-begins_with
returns-then-not-begins_with c =
    (refl, grind (arith, some_first c.in-Some.rest.now, c.begins_with.ensures, c.if-not-begins_with.true, c.in-Some.is))

pub returns : goal.returns
returns c =
    let rest = c.in-Some.rest.now in
    let named = taken rest c.args.name.now c.requires (grind (
      arith,
      bytes_eq-Decides (before_first (λ b. b == 32) rest) c.args.name.now,
      c.begins_with.ensures,
      c.if-not-begins_with.false,
    )) in
    grind (arith, c.pass.ensures, named.1, c.in-Some.is)
