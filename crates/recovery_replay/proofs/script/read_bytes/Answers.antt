use Rattle.std.proofs.Common.{[], append-nil}
use Rattle.std.proofs.lemmas.Result.{IfOk-weaker}
use Rattle.recovery_replay.proofs.YieldLaws.{joined, given_so}
use Rattle.recovery_replay.proofs.script.read_bytes.Goals as goal

pub returns-then-branch : goal.returns-then-branch
returns-then-branch g c =
    joined g.S.Sink.takes _ _ _ _ _ _ c.in_ok-take_all.ensures c.end.ensures (λ one two t u.
    IfOk-weaker c.end.result _ _ (λ ending ends. ends c.args.input.now one
    ((rw (c.if-branch.true) at t) [] [] c.new-script.ensures)) u)

pub returns : goal.returns
returns g c =
    given_so g.S.Sink.takes _ _ _ _ c.in_ok-take_all.ensures (λ events t. rw (append-nil c.args.input.now) at
    ((rw (c.if-branch.false) at t) [] [] c.new-script.ensures []))
