use Rattle.std.proofs.Common.{[], ◌∷◌, append-nil, arith, refl}
use Rattle.std.proofs.lemmas.Bool.Decides.{nat_tests}
use Rattle.std.proofs.lemmas.List.Elements.{All-nil}
use Rattle.std.proofs.lemmas.Result.{IfOk-weaker}
use Rattle.recovery_replay.proofs.ScriptLaws.{bad_whatever_follows, line_ended, more_taken, nothing_kept}
use Rattle.recovery_replay.proofs.script.Script.take_line.Goals as goal

pub returns-then-is_empty : goal.returns-then-is_empty
returns-then-is_empty g c =
    let old = c.args.self.now in
    let given = c.end_line.ensures in
    record {
      items = given.items;
      taken = given.taken;
      given = IfOk-weaker c.end_line.result _ _ (λ good. line_ended c.args.end.now _ old c.end_line.new.self given.items
          good c.requires (nothing_kept old.line.items _ (grind (arith, nat_tests, old.line.ok.0)))) given.given;
    }

pub returns-then-not-branch : goal.returns-then-not-branch
returns-then-not-branch g c = record {
  items = [];
  taken = refl;
  given = bad_whatever_follows c.args.self.now c.keep.new.self c.args.end.now (10 ∷ []) []
      (rw (c.if-not-branch.true) at c.in_ok-keep.ensures);
}

pub returns : goal.returns
returns g c =
    let mid = c.keep.new.self in
    let given = c.end_kept.ensures in
    record {
      items = given.items;
      taken = given.taken;
      given = IfOk-weaker c.end_kept.result _ _ (λ good ends. more_taken c.args.self.now mid c.end_kept.new.self
          c.args.end.now (10 ∷ []) [] given.items good (rw (c.if-not-branch.false) at c.in_ok-keep.ensures)
          (line_ended [] _ mid c.end_kept.new.self given.items good (All-nil _) (append-nil mid.line.items) ends))
          given.given;
    }
