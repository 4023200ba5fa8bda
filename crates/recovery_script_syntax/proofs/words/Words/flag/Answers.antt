use Rattle.std.proofs.Common.{ℕ, List, true, false, refl}
use lib.Chars.{codes}
use Rattle.recovery_script_syntax.specs.Reading.{flag_of}
use Rattle.recovery_script_syntax.proofs.NameLaws.{OfTwo, of_two}
use Rattle.recovery_script_syntax.proofs.words.Words.flag.Goals as goal

flags : (words : List (List ℕ)) → OfTwo (codes "0") (codes "1") false true words
flags = of_two (codes "0") (codes "1") false true refl

pub returns-then-take_name : goal.returns-then-take_name
unfolding flag_of
returns-then-take_name c = (flags _).first _ c.if-take_name.ensures

pub returns-then-take_name-2 : goal.returns-then-take_name-2
unfolding flag_of
returns-then-take_name-2 c = (flags _).second _ _ c.if-take_name.ensures c.if-take_name-2.ensures

pub returns : goal.returns
unfolding flag_of
returns c = (flags _).neither _ _ c.if-take_name.ensures c.if-take_name-2.ensures
