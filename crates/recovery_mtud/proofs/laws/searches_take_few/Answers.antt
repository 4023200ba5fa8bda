use Rattle.recovery_mtud.proofs.SearchRunLaws.{search_takes_few}
use Rattle.recovery_mtud.proofs.laws.searches_take_few.Goals as goal

pub returns : goal.returns
returns c = λ made settings new is change bound calls. search_takes_few made settings new is change bound calls
