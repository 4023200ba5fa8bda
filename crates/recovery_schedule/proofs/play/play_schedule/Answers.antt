use Rattle.std.proofs.Common.{refl, rules}
use Rattle.recovery_replay.proofs.PlayingLaws.{ends_there}
use Rattle.recovery_replay.proofs.AnsweringLaws.{wrote_all}
use Rattle.recovery_schedule.specs.Steps.{EncodesStep}
use Rattle.recovery_schedule.specs.Texts.{answer_line}
use Rattle.recovery_schedule.proofs.play.play_schedule.Goals as goal

pub returns : goal.returns
returns g c =
    let run = c.run_over-pair.ensures in
    let written = wrote_all answer_line (λ a. g.W.Write.contents a.output) (λ a. a.broken) _ (λ old said new t. t) _ _
    run.answers run.taken (search rules) in
    record {
      steps = run.steps;
      answers = run.answers;
      promises = λ validated log tied. (run.keeps validated log tied).0;
      ends = rw c.ending_of-outcome.ensures (ends_there EncodesStep answer_line _
          (g.R.Read.remaining c.run_over-pair.new.steps.input.now) _
          (g.W.Write.contents c.run_over-pair.result.1.output) _
          (g.E.Write.contents c.run_over-pair.new.steps.errors.now) run.steps run.answers
          c.run_over-pair.result.1.broken c.run_over-pair.new.steps.outcome _ _ _ (search rules) refl
          (search rules) run.given.2 (rw c.new-answers.ensures.0 at written));
    }
