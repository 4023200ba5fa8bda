use Rattle.std.proofs.Common.{ℕ, List, refl}
use lib.Chars.{codes}
use Rattle.recovery_paths.specs.declared.path_pair.PathName.TheVariants.{Current, Previous}
use Rattle.recovery_script_syntax.specs.Reading.{path_of}
use Rattle.recovery_script_syntax.proofs.NameLaws.{OfTwo, of_two}
use Rattle.recovery_script_syntax.proofs.words.Words.path.Goals as goal

paths : (words : List (List ℕ)) → OfTwo (codes "current") (codes "previous") Current Previous words
paths = of_two (codes "current") (codes "previous") Current Previous refl

pub returns-then-take_name : goal.returns-then-take_name
unfolding path_of
returns-then-take_name c = (paths _).first _ c.if-take_name.ensures

pub returns-then-take_name-2 : goal.returns-then-take_name-2
unfolding path_of
returns-then-take_name-2 c = (paths _).second _ _ c.if-take_name.ensures c.if-take_name-2.ensures

pub returns : goal.returns
unfolding path_of
returns c = (paths _).neither _ _ c.if-take_name.ensures c.if-take_name-2.ensures
