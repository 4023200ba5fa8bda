use Rattle.std.proofs.Common.{ℕ, ap, ◌∙◌, string_bytes}
use Rattle.std.proofs.lemmas.Result.{IfOk-weaker}
use Rattle.rand_core.specs.Pcg32Seed.{pcg32_seed}
use Rattle.rand_core.specs.Steps.{stream_of, steps_u32}
use Rattle.rand_pcg.specs.Pcg.{pcg32, pcg32_of_seed}
use Rattle.recovery_replay.specs.Replay.{settings}
use Rattle.recovery_replay.proofs.SessionLaws.{session_of, words_of_seed}
use Rattle.recovery_replay.proofs.replay.answers_over.Goals as goal

pub returns : goal.returns
returns g c =
    let random = c.seed_from_u64-rng.ensures ∙ ap (λ (n : ℕ). pcg32_of_seed (pcg32_seed 16 n)) c.unwrap_or.ensures in
    let is_config = c.config-config.ensures ∙ ap (settings c.args.factory c.peer_at.result) c.skips.ensures in
    let is_random = ap (stream_of (steps_u32 pcg32)) random ∙ words_of_seed c.args.seed in
    IfOk-weaker c.into_text.result _ _ (λ text is. session_of g.F.ControllerFactory.built
    g.F.Controller.Controller.words c.args.factory c.args.seed _ _ _ _ _ c.peer_at.result c.new-text.result
    c.in_ok-recovery.text (string_bytes text) is_config c.from_nanos-start.ensures is_random c.peer_at.ensures
    c.new-text.ensures.text is.0 is.1 c.in_ok-recovery.ensures.runs) c.into_text.ensures
