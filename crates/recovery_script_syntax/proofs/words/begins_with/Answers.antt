use Rattle.std.proofs.Common.{arith}
use Rattle.recovery_script_syntax.proofs.NameLaws.{is_first, is_other}
use Rattle.recovery_script_syntax.proofs.words.begins_with.Goals as goal

pub returns-then-end-bytes : goal.returns-then-end-bytes
returns-then-end-bytes c =
    is_other c.args.bytes.now c.args.name.now c.requires (λ fits ends. omega (arith, fits, c.if-end-bytes.true))

pub returns-then-not-ends_at : goal.returns-then-not-ends_at
returns-then-not-ends_at c =
    is_other c.args.bytes.now c.args.name.now c.requires
    (λ fits ends. grind (arith, ends, c.ends_at.ensures, c.if-not-ends_at.true))

pub returns : goal.returns
returns c =
    grind (
      arith,
      c.is_name.ensures,
      is_first c.args.bytes.now c.args.name.now c.requires (omega (arith, c.if-end-bytes.false)),
      c.ends_at.ensures,
      c.if-not-ends_at.false,
    )
