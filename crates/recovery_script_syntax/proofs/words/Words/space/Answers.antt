use Rattle.std.proofs.Common.{refl}
use Rattle.recovery_script_syntax.specs.Reading.{space_of, space_names}
use Rattle.recovery_script_syntax.proofs.NameLaws.{field_named, field_unnamed}
use Rattle.recovery_script_syntax.proofs.words.Words.space.Goals as goal

pub returns-then-take_name : goal.returns-then-take_name
unfolding space_of
returns-then-take_name c = field_named _ _ _ _ _ c.if-take_name.ensures refl

pub returns-then-take_name-2 : goal.returns-then-take_name-2
unfolding space_of
returns-then-take_name-2 c =
    rw (← c.if-take_name.ensures.0) (field_named _ _ _ _ _ c.if-take_name-2.ensures refl)

pub returns-then-take_name-3 : goal.returns-then-take_name-3
unfolding space_of
returns-then-take_name-3 c =
    rw (← c.if-take_name.ensures.0, ← c.if-take_name-2.ensures.0) (field_named _ _ _ _ _ c.if-take_name-3.ensures refl)

pub returns : goal.returns
unfolding space_of
returns c =
    field_unnamed space_names _ (
      rw (c.if-take_name.ensures.0) at c.if-take_name-2.ensures.1,
      (
        rw (c.if-take_name-2.ensures.0, c.if-take_name.ensures.0) at c.if-take_name-3.ensures.1,
        (c.if-take_name.ensures.1, tt),
      ),
    )
