use Rattle.std.proofs.Common.{ℕ, ap, ◌∙◌}
use Rattle.rand_core.specs.Pcg32Seed.{pcg32_seed}
use Rattle.rand_core.specs.Steps.{stream_of, steps_u32}
use Rattle.rand_pcg.specs.Pcg.{pcg32, pcg32_of_seed}
use Rattle.recovery_replay.specs.Replay.{settings}
use Rattle.recovery_replay.proofs.SessionLaws.{words_of_seed}
use Rattle.recovery_trace.proofs.GoingLaws.{refused}
use Rattle.recovery_trace.proofs.trace.trace_over.Goals as goal

pub returns-in-Ok : goal.returns-in-Ok
returns-in-Ok g c =
    let random = c.seed_from_u64-rng.ensures ∙ ap (λ (n : ℕ). pcg32_of_seed (pcg32_seed 16 n)) c.unwrap_or.ensures in
    let is_config = c.config-config.ensures ∙ ap (settings c.args.factory c.peer_at.result) c.skips.ensures in
    let is_random = ap (stream_of (steps_u32 pcg32)) random ∙ words_of_seed c.args.choice.seed in (
      c.peer_at.result,
      c.peer_at.ensures,
      rw (is_config, c.from_nanos.ensures, is_random) at
          (c.run-outcome.ensures _ _ _ c.in-Ok.ensures.came),
    )

pub returns-in-Err : goal.returns-in-Err
returns-in-Err g c = (
  c.peer_at.result,
  c.peer_at.ensures,
  refused _ c.args.choice (g.R.Read.remaining c.args.input.now) (g.W.Write.contents c.args.output.now)
      (g.E.Write.contents c.args.errors.now),
)
