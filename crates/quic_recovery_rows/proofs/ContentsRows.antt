-- Worked rows of the promises that contents are neither lost nor duplicated, and are returned in their order, computed:
-- with the right answers they hold, and with a wrong one they do not. Nothing rests on them.
use Rattle.std.proofs.Common.{◌≡◌, ℕ, ◌+◌, ◌==◌, max, true, false, List, [], ◌∷◌, None, Some, Ok, Err, refl, arith}
use Rattle.std.specs.declared.net.socket_addr.SocketAddr.{SocketAddr}
use Rattle.rand_core.specs.Stream.{Stream}
use Rattle.recovery_base.specs.declared.below.SpaceId.TheVariants.{Initial, Handshake}
use Rattle.recovery_congestion.specs.Controllers.{ControllerSemantics}
use Rattle.recovery_queue.specs.Queues.{QueueSemantics}
use Rattle.recovery_packet_numbers.specs.declared.filter.Skips.TheVariants.{Disabled}
use Rattle.recovery_history.specs.declared.config.RecoveryConfig.{RecoveryConfig}
use Rattle.recovery_events.specs.declared.event.Event.TheVariants as event
use Rattle.recovery_events.specs.declared.event.Answer.TheVariants as answer
use Rattle.recovery_events.specs.declared.event.Refusal.TheVariants as refusal
use Rattle.recovery_history.specs.History.{Beginning, History, begins, queue_model}
use Rattle.recovery_history.specs.Promises.Contents.{ConservesData, outgoing, held, gone}
use Rattle.recovery_history.specs.Promises.Measures.{AddsUp, Totals}
use Rattle.recovery_history.specs.Promises.Pending.{HandsOutInOrder}
use Rattle.quic_recovery_rows.proofs.RowStart.{RowHistory, row_start}

-- contents that are numbers of bytes, which are joined by addition
abbrev words : QueueSemantics ℕ (Unit {0})
words = record { empty = 0; joined = λ p r. p + r; is_empty = λ p streams. p == 0 }

abbrev bytes : ℕ → ℕ
bytes n = n

abbrev sums : Totals ℕ
sums = record {
  zero = 0;
  plus = λ a b. a + b;
  unit = λ a. omega arith;
  commutes = λ a b. omega arith;
  associates = λ a b c. omega arith;
}

adds : AddsUp words sums bytes
adds = record { empty = refl; joined = λ p r. refl }

-- contents that are a flag, which is unchanged by joining itself
abbrev flag_words : QueueSemantics ℕ (Unit {0})
flag_words = record { empty = 0; joined = λ p r. max p r; is_empty = λ p streams. p == 0 }

abbrev flags : Totals ℕ
flags = record {
  zero = 0;
  plus = λ a b. max a b;
  unit = λ a. omega arith;
  commutes = λ a b. omega arith;
  associates = λ a b c. omega arith;
}

joins : AddsUp flag_words flags bytes
joins = record { empty = refl; joined = λ p r. refl }

module _ (F K M : Type 0) (built : F → ℕ → ℕ → K) (controller : ControllerSemantics K) (config : RecoveryConfig F)
    (random : Stream) (frames : M) where
  abbrev start : Beginning F K ℕ (Unit {0}) M ℕ
  start = begins built controller (queue_model (λ n. n) words frames) config 0 random

  -- 5 bytes were sent under 0 and 3 under 1; a probe moved the 5, and the 3 were lost
  abbrev waiting : History ℕ (Unit {0}) M ℕ
  waiting =
      (event.Acked Initial 8 1 false, Err refusal.NotTracked)
      ∷ (event.Lost Initial 1, Ok (answer.Lost false))
      ∷ (event.QueueProbe Initial false tt, Ok (answer.Sendable record { acks = false; other = true }))
      ∷ (event.Send Initial 5 1200 true None 3 frames, Ok (answer.Sent 1 None))
      ∷ (event.Send Initial 4 1200 true None 5 frames, Ok (answer.Sent 0 None))
      ∷ []

  went_out : outgoing start sums bytes Initial waiting ≡ 8
  went_out = refl

  all_wait : held start sums bytes Initial waiting ≡ 8
  all_wait = refl

  none_gone : gone start sums bytes Initial waiting ≡ 0
  none_gone = refl

  none_elsewhere : held start sums bytes Handshake waiting ≡ 0
  none_elsewhere = refl

  -- they were returned; of 7 more and 4 more the 7 were acknowledged, and the 4 discarded with the space
  abbrev past : History ℕ (Unit {0}) M ℕ
  past =
      (event.DiscardSpace Initial, Ok answer.Done)
      ∷ (event.Acked Initial 12 2 false, Ok (answer.Acked false))
      ∷ (event.Send Initial 11 1200 true None 4 frames, Ok (answer.Sent 3 None))
      ∷ (event.Send Initial 10 1200 true None 7 frames, Ok (answer.Sent 2 None))
      ∷ (event.TakePending Initial, Ok (answer.Queue 8))
      ∷ waiting

  all_out : outgoing start sums bytes Initial past ≡ 19
  all_out = refl

  all_gone : gone start sums bytes Initial past ≡ 19
  all_gone = refl

  none_held : held start sums bytes Initial past ≡ 0
  none_held = refl

  -- what is returned is what waits, no less and no more
  less_is_wrong : ¬ ConservesData start ((event.TakePending Initial, Ok (answer.Queue 5)) ∷ waiting)
  less_is_wrong = λ e. let lost = e sums bytes adds Initial in omega (arith, lost)

  twice_is_wrong : ¬ ConservesData start
      ((event.TakePending Initial, Ok (answer.Queue 8)) ∷ (event.TakePending Initial, Ok (answer.Queue 8)) ∷ waiting)
  twice_is_wrong = λ e. let doubled = e sums bytes adds Initial in omega (arith, doubled)

  -- and none is forgotten before there are 1001 non-ack-eliciting ones
  early_is_wrong : ¬ ConservesData start
      ((event.Send Initial 5 100 false None 3 frames, Ok (answer.Sent 1 (Some 0)))
      ∷ (event.Send Initial 4 100 false None 5 frames, Ok (answer.Sent 0 None))
      ∷ [])
  early_is_wrong = λ e. let doubled = e sums bytes adds Initial in omega (arith, doubled)

  -- a flag was sent twice; it was acknowledged once and lost once
  abbrev flagged : Beginning F K ℕ (Unit {0}) M ℕ
  flagged = begins built controller (queue_model (λ n. n) flag_words frames) config 0 random

  abbrev sent_twice : History ℕ (Unit {0}) M ℕ
  sent_twice =
      (event.Lost Initial 1, Ok (answer.Lost false))
      ∷ (event.Acked Initial 7 0 false, Ok (answer.Acked false))
      ∷ (event.Send Initial 5 1200 true None 1 frames, Ok (answer.Sent 1 None))
      ∷ (event.Send Initial 4 1200 true None 1 frames, Ok (answer.Sent 0 None))
      ∷ []

  still_held : held flagged flags bytes Initial sent_twice ≡ 1
  still_held = refl

  -- one that was lost is returned
  lost_is_wrong : ¬ ConservesData flagged
      ((event.TakePending Initial, Ok (answer.Queue 0))
      ∷ (event.Lost Initial 0, Ok (answer.Lost false))
      ∷ (event.Send Initial 4 1200 true None 1 frames, Ok (answer.Sent 0 None))
      ∷ [])
  lost_is_wrong = λ e. let gone = e flags bytes joins Initial in omega (arith, gone)

-- ---- in which order they are returned: items 5 and 6 were sent under 0, and 3 under 1

module _ (remote : SocketAddr) (random : Stream) where
  abbrev RowHands : RowHistory → List ℕ → Type 0
  RowHands history handed = HandsOutInOrder (row_start remote random 8 Disabled) history (event.TakePending Initial)
      (Ok (answer.Queue handed))

  abbrev two_out : RowHistory
  two_out =
      (event.Send Initial 5 1200 true None (3 ∷ []) tt, Ok (answer.Sent 1 None))
      ∷ (event.Send Initial 4 1200 true None (5 ∷ 6 ∷ []) tt, Ok (answer.Sent 0 None))
      ∷ []

  abbrev lost : ℕ → RowHistory → RowHistory
  lost number earlier = (event.Lost Initial number, Ok (answer.Lost false)) ∷ earlier

  by_their_losses : RowHands (lost 0 (lost 1 two_out)) (3 ∷ 5 ∷ 6 ∷ [])
  by_their_losses = refl

  by_their_numbers_is_wrong : ¬ RowHands (lost 0 (lost 1 two_out)) (5 ∷ 6 ∷ 3 ∷ [])
  by_their_numbers_is_wrong = λ e. cc

  -- a probe found the first of them
  abbrev probed : RowHistory
  probed = (event.QueueProbe Initial false tt, Ok (answer.Sendable record { acks = false; other = true })) ∷ two_out

  found_first : RowHands (lost 0 (lost 1 probed)) (5 ∷ 6 ∷ 3 ∷ [])
  found_first = refl

  lost_twice_is_wrong : ¬ RowHands (lost 0 (lost 1 probed)) (5 ∷ 6 ∷ 3 ∷ 5 ∷ 6 ∷ [])
  lost_twice_is_wrong = λ e. cc

  -- what was returned no longer waits, and a loss that is rejected adds nothing
  abbrev taken : RowHistory
  taken =
      (event.Lost Initial 1, Err refusal.NotTracked)
      ∷ (event.TakePending Initial, Ok (answer.Queue (3 ∷ [])))
      ∷ lost 1 two_out

  none_waits : RowHands taken []
  none_waits = refl

  again_is_wrong : ¬ RowHands taken (3 ∷ [])
  again_is_wrong = λ e. cc

  another_space : RowHands ((event.TakePending Handshake, Ok (answer.Queue [])) ∷ lost 1 two_out) (3 ∷ [])
  another_space = refl
