use Rattle.std.proofs.Common.{sym, ◌∙◌}
use Rattle.recovery_paths.proofs.path_pair.PathPair.sent.Goals as goal

pub remove_from_previous-requires : goal.remove_from_previous-requires
remove_from_previous-requires g c = λ path is.
    let counted = rw (← c.self.view_is) at c.requires.previous in
    counted path is (c.in-Some.field-0-0, c.in-Some.packet) (sym c.in_ok-forgotten.ensures.forgotten ∙ c.in-Some.is)
