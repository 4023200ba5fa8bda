-- How a run begins, and its text at the end: `answers_over` rests on it.
use Rattle.std.proofs.Common.{◌≡◌, ℕ, true, List, [], ◌∷◌, ◌++◌, Option, None, Some, string_bytes, refl, ap, sym, ◌∙◌, append-nil, append_assoc}
use Rattle.std.specs.Prelude.{unwrap_or}
use Rattle.std.specs.declared.net.socket_addr.SocketAddr.{SocketAddr}
use Rattle.rand_core.specs.Pcg32Seed.{pcg32_seed}
use Rattle.rand_core.specs.Steps.{stream_of, steps_u32}
use Rattle.rand_core.specs.Stream.{Stream}
use Rattle.rand_pcg.specs.Pcg.{pcg32, pcg32_of_seed}
use Rattle.recovery_script_syntax.specs.Answers.{ScriptReply, answer_line, answer_lines}
use Rattle.recovery_congestion.specs.Controllers.{ControllerSemantics}
use Rattle.recovery_script_syntax.specs.Lines.{ItemEvent, IsDocumentationAddress}
use Rattle.recovery_queue.specs.Items.{item_words}
use Rattle.recovery_history.specs.declared.config.RecoveryConfig.{RecoveryConfig}
use Rattle.recovery_events.specs.Feeding.{TakesAll}
use Rattle.recovery_history.specs.History.{begins, queue_model, Throughout}
use Rattle.quic_recovery.specs.Over.{RunOverSource}
use Rattle.recovery_history.specs.RecoveryState.{RecoveryState}
use Rattle.recovery_history.specs.RepliesAfter.{RepliesAfter}
use Rattle.recovery_replay.specs.declared.text.AnswerText.{AnswerText}
use Rattle.recovery_replay.specs.Replay.{begun_over, settings, skips_with, words_with, RunsOver, Session}
use Rattle.recovery_replay.specs.Text.{TakesLine}

-- the generator of a seed gives the seed's random words
pub words_of_seed : (seed : Option ℕ) → stream_of (steps_u32 pcg32) (pcg32_of_seed (pcg32_seed 16 (unwrap_or seed 0)))
    ≡ words_with seed
words_of_seed None = refl
words_of_seed (Some seed) = refl

-- a text whose last line could be allocated has all lines
abbrev pub TakesText : AnswerText → ScriptReply → AnswerText → Type 0
TakesText old reply new = TakesLine old.text old.whole reply new.text new.whole

pub all_lines : (old new : AnswerText) (replies : List ScriptReply) → TakesAll TakesText old replies new → new.whole
    ≡ true
    → (old.whole ≡ true) × (string_bytes new.text ≡ string_bytes old.text ++ answer_lines replies)
all_lines old new [] taken whole = (
  rw taken at whole,
  ap (λ (text : AnswerText). string_bytes text.text) taken ∙ sym (append-nil (string_bytes old.text)),
)
all_lines old new (reply ∷ replies) taken whole =
    let rest = all_lines taken.0 new replies taken.2 whole in
    let here = taken.1 rest.0 in (
      here.0,
      rest.1 ∙ ap (λ front. front ++ answer_lines replies) here.1
          ∙ append_assoc (string_bytes old.text) (answer_line reply) (answer_lines replies),
    )

-- a run that begins so, whose replies a text took, is a session
pub session_of : {F K : Type 0} (built : F → ℕ → ℕ → K) (words : ControllerSemantics K) (factory : F) (seed : Option ℕ)
    (config : RecoveryConfig F) (start : ℕ) (random : Stream) (IsSaid : List ItemEvent → Type 0)
    (recovery : RecoveryState K (List ℕ) (Unit {0})) (remote : SocketAddr) (empty new : AnswerText) (bytes : List ℕ)
    → config ≡ settings factory remote (skips_with seed) → start ≡ 0
    → random ≡ words_with seed → IsDocumentationAddress 4433 remote → string_bytes empty.text ≡ [] → new.whole ≡ true
    → bytes ≡ string_bytes new.text
    → RunOverSource (begins built words (queue_model (λ items. items) item_words tt) config start random) IsSaid
    (λ replies. TakesAll TakesText empty replies new) recovery
    → Session (RunsOver built words factory seed) IsSaid (λ lines. bytes ≡ lines)
session_of built words factory seed config start random IsSaid recovery remote empty new bytes is_config is_start
    is_random at none whole is run =
    let told : Throughout (RepliesAfter (begun_over built words factory seed remote)) run.events run.replies =
    (run.keeps.0, rw (is_config, is_start, is_random) at run.came.replies) in
    record {
      events = run.events;
      replies = run.replies;
      said = run.given;
      remote = remote;
      at = at;
      told = told;
      written = is ∙ (all_lines empty new run.replies run.taken whole).1
          ∙ ap (λ front. front ++ answer_lines run.replies) none;
    }
