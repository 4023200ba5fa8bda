-- RTT samples by the events (RFC 9002, 5.1 and 7.6.2): which packets were sent after their path had one, and what the
-- sender's mark of a path says of that.
use Rattle.std.specs.Prelude.{◌≡◌, ◌≢◌, ℕ, ◌+◌, ◌≤◌, ◌==◌, ◌&&◌, ◌||◌, ◌⊎◌, Bool, true, false, [], ◌∷◌, Option, None, Some, Ok, if◌then◌else◌}
use Rattle.std.specs.Option.{ForSome}
use Rattle.recovery_base.specs.declared.below.SpaceId.{SpaceId}
use Rattle.recovery_congestion.specs.Controllers.{ControllerSemantics}
use Rattle.recovery_events.specs.declared.event.Event.TheVariants.{Sample, NewPath}
use Rattle.rand_core.specs.Stream.{Stream}
use Rattle.recovery_paths.specs.PathLog.{PerPath, OnEachPath}
use Rattle.recovery_paths.specs.PathStates.{Path}
use Rattle.recovery_spaces.specs.Spaces.{next_number_of, space_of}
use Rattle.recovery_history.specs.declared.config.RecoveryConfig.{RecoveryConfig}
use Rattle.recovery_history.specs.History.{History, QueueModel, begins, queue_model}
use Rattle.recovery_history.specs.Promises.Paths.{generations, paths_made}
use Rattle.recovery_history.specs.Promises.Tracked.{goes_out}
use Rattle.recovery_history.specs.Reachability.{ReachedBy}
use Rattle.recovery_history.specs.RecoveryState.{RecoveryState}
use Rattle.quic_recovery.specs.declared.driver.Recovery.{Recovery}
use Rattle.quic_recovery.specs.State.{state_of}

module _ {Q S M P : Type 0} where
  -- a path, by its generation, has an RTT sample: its own, or that of the path before it, if it is not fresh (RFC 9000,
  -- 9.4)
  abbrev pub has_sample : ℕ → History Q S M P → Bool
  has_sample path [] = false
  has_sample path ((Sample delay rtt, Ok answer) ∷ earlier) =
      (generations earlier).current == path || has_sample path earlier
  has_sample path ((NewPath now remote false, Ok answer) ∷ earlier) =
      (paths_made earlier + 1 == path && has_sample (generations earlier).current earlier) || has_sample path earlier
  has_sample path (happened ∷ earlier) = has_sample path earlier

  -- whether this held of the events before, when a packet was sent under a number
  abbrev pub held_at_sending : (History Q S M P → Bool) → SpaceId → History Q S M P → ℕ → Bool
  held_at_sending holds space [] n = false
  held_at_sending holds space (happened ∷ earlier) n =
      if goes_out happened space n then holds earlier else held_at_sending holds space earlier n

  -- it was sent on this path
  abbrev pub is_sent_on : ℕ → SpaceId → History Q S M P → ℕ → Bool
  is_sent_on path = held_at_sending (λ earlier. (generations earlier).current == path)

  -- it was sent after this path had an RTT sample
  abbrev pub is_sent_sampled : ℕ → SpaceId → History Q S M P → ℕ → Bool
  is_sent_sampled path = held_at_sending (λ earlier. has_sample path earlier)

  -- a mark, a space and a number: the path has a sample, and all its packets in that space from that number on were
  -- sent after it had one
  pub record IsMarkOf (path : ℕ) (past : History Q S M P) (mark : SpaceId × ℕ) : Type 0 where
    pub sampled : has_sample path past ≡ true
    pub after : (number : ℕ) → mark.1 ≤ number → is_sent_on path mark.0 past number ≡ true
        → is_sent_sampled path mark.0 past number ≡ true

  -- so are the marks of all paths
  abbrev pub ExplainsMarks : {K : Type 0} → PerPath (Path K) → History Q S M P → Type 0
  ExplainsMarks paths past =
      OnEachPath (λ path. ForSome path.marks.first_after_sample (IsMarkOf path.ledger.generation past)) paths

-- some beginning and some events led to this state, and explain its marks
pub record IsExplainedState {F K Q S M P : Type 0} (built : F → ℕ → ℕ → K) (words : ControllerSemantics K)
    (queue : QueueModel Q S M P) (recovery : RecoveryState K P M) : Type 0 where
  pub config : RecoveryConfig F
  pub start : ℕ
  pub random : Stream
  pub past : History Q S M P
  pub came : ReachedBy (begins built words queue config start random) past recovery
  pub marks : ExplainsMarks recovery.paths past

abbrev pub IsExplained : {F Q R C K S M P : Type 0} {f : _} {c : _} {q : _} {m : _} {r : _}
    → Recovery F Q R C K S M P f c q m r → Type 0
IsExplained {f = f} {c = c} {q = q} recovery =
    IsExplainedState f.built c.words (queue_model q.contents q.words q.blank) (state_of recovery)

-- a mark of the path in use is unchanged, or it is the next number of a space, and the path has a sample
abbrev pub IsMarkable : {K P M : Type 0} → RecoveryState K P M → Option (SpaceId × ℕ) → Type 0
IsMarkable recovery first = (first ≡ recovery.paths.current.marks.first_after_sample)
    ⊎ (space : SpaceId) × (first ≡ Some (space, next_number_of (space_of space recovery.spaces)))
    × (recovery.paths.current.state.rtt.smoothed ≢ None)
