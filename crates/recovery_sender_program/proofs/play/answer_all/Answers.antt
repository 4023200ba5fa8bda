use Rattle.std.proofs.Common.{refl, rules}
use Rattle.recovery_replay.proofs.PlayingLaws.{ends_there}
use Rattle.recovery_replay.proofs.AnsweringLaws.{wrote_all}
use Rattle.recovery_sender_program.specs.CallAnswers.{said_line}
use Rattle.recovery_sender_program.specs.CallLines.{EncodesCall}
use Rattle.recovery_sender_program.proofs.play.answer_all.Goals as goal

pub returns : goal.returns
returns g c =
    let run = c.run_over-sender.ensures in
    let written = wrote_all said_line (λ a. g.W.Write.contents a.output) (λ a. a.broken) _ (λ old said new t. t) _ _
    run.said run.taken (search rules) in
    record {
      calls = run.calls;
      answers = run.said;
      runs = run.runs;
      ends = rw c.ending_of-outcome.ensures (ends_there EncodesCall said_line _
          (g.R.Read.remaining c.run_over-sender.new.calls.input.now) _
          (g.W.Write.contents c.run_over-sender.result.1.output) _
          (g.E.Write.contents c.run_over-sender.new.calls.errors.now) run.calls run.said
          c.run_over-sender.result.1.broken c.run_over-sender.new.calls.outcome _ _ _ (search rules) refl
          (search rules) run.given.2 (rw c.new-answers.ensures.0 at written));
    }
