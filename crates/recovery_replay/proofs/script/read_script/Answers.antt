use Rattle.std.proofs.Common.{[], refl, rules}
use Rattle.std.proofs.lemmas.Result.{IfOk-weaker}
use Rattle.recovery_replay.proofs.ScriptLaws.{all_read, bad_read, cut_off, more_read, nothing_read}
use Rattle.recovery_replay.proofs.YieldLaws.{joined, given_so}
use Rattle.recovery_replay.proofs.script.read_script.Goals as goal
use Rattle.recovery_replay.proofs.script.read_script.Goals.{in-Ok+in_ok-take_all-in-Ok+else-not-branch, in-Err+else-ne}

pub loop-init : goal.loop-init
loop-init g c = record {
  items = [];
  taken = refl;
  given = record { taken = []; consumed = search rules; held = c.new-script.ensures };
}

pub returns-in-Ok-eq0 : goal.returns-in-Ok-eq0
returns-in-Ok-eq0 g c =
    joined g.S.Sink.takes _ _ _ _ _ _ c.loop.invariant c.end.ensures (λ one two before u. IfOk-weaker c.end.result _
    _ (λ ending. all_read (g.R.Read.remaining c.args.input.now) (g.R.Read.remaining c.loop.input)
    (g.R.Read.remaining c.read.new.self) c.loop.script one two ending before (search rules) (search rules)) u)

pub returns-in_err-take_all-in-Ok : goal.returns-in_err-take_all-in-Ok
returns-in_err-take_all-in-Ok g c =
    joined g.S.Sink.takes _ _ _ _ _ _ c.loop.invariant c.take_all.ensures
    (λ one two before u. search rules)

pub returns-then-not-branch : goal.returns-then-not-branch
returns-then-not-branch g c =
    joined g.S.Sink.takes _ _ _ _ _ _ c.loop.invariant c.in_ok-take_all-in-Ok.ensures (λ one two before t. bad_read
    _ _ _ c.loop.script c.take_all.new.self _ one two c.in_ok-take_all-in-Ok.field-0 before c.in-Ok.ensures.bytes.0 t
    c.if-not-branch.true)

pub returns-then-ne : goal.returns-then-ne
returns-then-ne g c =
    given_so g.S.Sink.takes _ _ _ _ c.loop.invariant (λ events before. cut_off (g.R.Read.remaining c.args.input.now)
    (g.R.Read.remaining c.read.new.self) c.loop.script events (nothing_read (g.R.Read.remaining c.args.input.now)
    (g.R.Read.remaining c.loop.input) (g.R.Read.remaining c.read.new.self) c.loop.script events before
    c.in-Err.ensures.bytes))

pub returns : goal.returns
returns g c =
    given_so g.S.Sink.takes _ _ _ _ c.loop.invariant (λ events before. cut_off (g.R.Read.remaining c.args.input.now)
    (g.R.Read.remaining c.loop.input) c.loop.script events before)

pub loop-preserved : goal.loop-preserved
loop-preserved g c =
    elim c.match-read.branch [
      | in-Ok+in_ok-take_all-in-Ok+else-not-branch w ↦
          rw (w.script-is, w.sink-is) (joined g.S.Sink.takes _ _ _ _ _ _ c.loop.invariant
          w.in_ok-take_all-in-Ok.ensures (λ one two before t. more_read _ _ _ c.loop.script w.take_all.new.self _ one
          two w.in_ok-take_all-in-Ok.field-0 before w.in-Ok.ensures.bytes.0 t w.if-not-branch.false))
      | in-Err+else-ne w ↦
          rw (w.script-is, w.sink-is) (given_so g.S.Sink.takes _ _ _ _ c.loop.invariant (λ events before. nothing_read _
          _ _ c.loop.script events before w.in-Err.ensures.bytes))
    ]
