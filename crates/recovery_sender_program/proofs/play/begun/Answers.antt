use Rattle.std.proofs.Common.{true, false, ap, ◌∙◌}
use Rattle.std.proofs.lemmas.Result.{IfOk-weaker}
use Rattle.rand_core.specs.Pcg32Seed.{pcg32_seed}
use Rattle.rand_core.specs.Steps.{stream_of, steps_u32}
use Rattle.rand_pcg.specs.Pcg.{pcg32, pcg32_of_seed}
use Rattle.recovery_replay.proofs.SessionLaws.{words_of_seed}
use Rattle.recovery_sender_program.proofs.BeginningLaws.{begins_as}
use Rattle.recovery_sender_program.proofs.play.begun.Goals as goal

pub returns-then-choice : goal.returns-then-choice
returns-then-choice g c =
    IfOk-weaker _ _ _ (begins_as _ _ _ c.peer_at.ensures
    _ _ _ c.settings_of-config.ensures c.from_nanos-start.ensures (ap (stream_of (steps_u32 pcg32))
    (c.seed_from_u64-rng.ensures ∙ ap (λ n. pcg32_of_seed (pcg32_seed 16 n)) c.unwrap_or.ensures)
    ∙ words_of_seed _) true c.if-choice.true) c.established.ensures.begins

pub returns-else-choice : goal.returns-else-choice
returns-else-choice g c =
    IfOk-weaker _ _ _ (begins_as _ _ _ c.peer_at.ensures
    _ _ _ c.settings_of-config.ensures c.from_nanos-start.ensures (ap (stream_of (steps_u32 pcg32))
    (c.seed_from_u64-rng.ensures ∙ ap (λ n. pcg32_of_seed (pcg32_seed 16 n)) c.unwrap_or.ensures)
    ∙ words_of_seed _) false c.if-choice.false) c.new.ensures.begins
