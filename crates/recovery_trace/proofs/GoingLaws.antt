-- The loop over the lines of a trace: the invariant of `run`.
use Rattle.std.proofs.Common.{◌≡◌, ℕ, ◌+◌, ◌≤◌, inl, true, false, List, [], ◌∷◌, ◌++◌, length, reverse, Option, None, Some, refl, sym, ap, subst, arith, append-nil}
use Rattle.std.proofs.lemmas.List.Elements.{All-nil}
use Rattle.std.specs.Io.KnownBytes.{Consumes}
use Rattle.std.proofs.KnownBytes.{Appends-nil, Consumes-nil, Consumes-trans}
use Rattle.rand_core.specs.Stream.{Stream}
use Rattle.quic_recovery.specs.declared.driver.Recovery.{Recovery}
use Rattle.recovery_history.specs.declared.config.RecoveryConfig.{RecoveryConfig}
use Rattle.recovery_history.specs.Reachability.{ReachedBy}
use Rattle.quic_recovery.specs.State.{state_of}
use Rattle.recovery_replay.specs.declared.reading.Next.{Next}
use Rattle.recovery_replay.specs.declared.reading.Next.TheVariants.{Line, Last}
use Rattle.recovery_replay.specs.declared.reading.Unread.{Unread}
use Rattle.recovery_replay.specs.declared.reading.Unread.TheVariants as reasons
use Rattle.recovery_replay.specs.Reading.{BreaksOff, IsLine, TruncatedLine}
use Rattle.recovery_replay.specs.Script.{lines_of}
use Rattle.recovery_replay.proofs.LinesLaws.{one_line}
use Rattle.recovery_replay.proofs.ScriptLaws.{line_then}
use Rattle.recovery_replay.specs.declared.outcome.Outcome.{Outcome}
use Rattle.recovery_replay.specs.declared.outcome.Outcome.TheVariants.{Ended, OutOfMemory}
use Rattle.recovery_replay.specs.declared.script.Ending.TheVariants.{Whole, BadLine, ReadFailed}
use Rattle.recovery_trace.specs.declared.requests.Choice.{Choice}
use Rattle.recovery_trace.specs.declared.turn.Turn.TheVariants.{Done, Bad, Over}
use Rattle.recovery_replay.specs.Outcomes.{outcome_of}
use Rattle.recovery_replay.specs.Playing.{Streams, streams_of}
use Rattle.recovery_trace.specs.Trace.{ItemBeginning, origin, TracesInput, TracesFrom}
use Rattle.recovery_trace.specs.Turns.{ItemParts, LineOutcome}
use Rattle.recovery_trace.proofs.TraceLaws.{Made, SoFar, Taken, also_taken, bad_line, done_fine, ends_bad, ends_cut, ends_so, fine_more, nothing_taken, takes_last, takes_whole, taken_more, turn_bad, turn_done, turn_over}

-- what was read and done so far, and how the trace would end here
pub record GoingBy {F K : Type 0} (beginning : ItemBeginning F K) (choice : Choice) (streams : Streams)
    (recovery : ItemParts K) (time : ℕ) (outcome : Outcome) (number : ℕ) : Type 0 where
  pub lines : List (List ℕ)
  pub taken : Taken streams.unread streams.left lines
  pub made : Made beginning choice streams.before streams.after streams.unsaid streams.said recovery time lines
  pub so_far : SoFar beginning choice outcome lines
  pub counted : number ≡ length lines + 1

-- one line of an input, of which this is stored; the last may lack its line feed
pub record OneLine (now left : Option (List ℕ)) (kept : List ℕ) : Type 0 where
  pub line : List ℕ
  pub is_kept : TruncatedLine line kept
  pub takes : (unread : Option (List ℕ)) (lines : List (List ℕ)) → Taken unread now lines
      → (taken : List ℕ) × Consumes unread left taken × (lines_of taken ≡ reverse (line ∷ lines))
  pub more : List ℕ
  pub few : length (lines_of more) ≤ 1
  pub consumed : Consumes now left more

pub one_of : (now left : Option (List ℕ)) (kept : List ℕ) (next : Next) → IsLine now left kept (Some next)
    → OneLine now left kept
one_of now left kept Line (line, is_kept, consumed) = record {
  line = line;
  is_kept = is_kept;
  takes = λ unread lines taken.
      takes_whole unread left left (line ∷ lines)
      (taken_more unread now left lines taken line is_kept.no_feed consumed);
  more = line ++ 10 ∷ [];
  few = omega (arith, ap length (line_then line [] is_kept.no_feed));
  consumed = consumed;
}
one_of now left kept Last (line, is_kept, long, consumed, over) = record {
  line = line;
  is_kept = is_kept;
  takes = λ unread lines taken. takes_last unread now left lines taken line is_kept.no_feed long consumed;
  more = line;
  few = one_line line is_kept.no_feed;
  consumed = consumed;
}

pub whole : (next : Next) → (next ≡ Last → ⊥) → next ≡ Line
whole Line not = refl
whole Last not = absurd (not refl)

module _ {F R C K : Type 0} {f : _} {c : _} {q : _} {m : _} {r : _} (choice : Choice)
    (first : Recovery F (List ℕ) R C K (Unit {0}) (Unit {0}) (List ℕ) f c q m r) where
  -- for every beginning that led to the first recovery
  abbrev pub Going : Streams → Recovery F (List ℕ) R C K (Unit {0}) (Unit {0}) (List ℕ) f c q m r → ℕ → Outcome → ℕ
      → Type 0
  Going streams recovery time outcome number = (config : RecoveryConfig F) (start : ℕ) (random : Stream) →
      ReachedBy (origin first config start random) [] (state_of first)
      → GoingBy (origin first config start random) choice streams (state_of recovery) time outcome number

  pub begun : (unread before unsaid : Option (List ℕ))
      → Going (streams_of unread unread before before unsaid unsaid) first 0 (Ended Whole) 1
  begun unread before unsaid config start random came = record {
    lines = [];
    taken = nothing_taken unread unread (Consumes-nil unread);
    made = record {
      text = [];
      told = [];
      traced = record { past = []; spelled = tt; keeps = tt; written = refl; is_told = refl };
      came = came;
      timed = refl;
      out = Appends-nil before;
      is_said = Appends-nil unsaid;
    };
    so_far = All-nil _;
    counted = refl;
  }

  module _ (unread now left before mid after unsaid now_said said : Option (List ℕ))
      (old : Recovery F (List ℕ) R C K (Unit {0}) (Unit {0}) (List ℕ) f c q m r) (earlier : ℕ) (outcome : Outcome)
      (number : ℕ) (going : Going (streams_of unread now before mid unsaid now_said) old earlier outcome number) where
    pub at_end : (kept : List ℕ) (found : Option Next) → found ≡ None → IsLine now left kept found
        → TracesFrom first choice (streams_of unread left before mid unsaid now_said) outcome
    at_end kept found is read config start random came =
        let g = going config start random came in
        let nothing = subst (λ (n : Option Next). IsLine now left kept n) is read in
        let whole = takes_whole unread now left g.lines g.taken in
        ends_so (origin first config start random) choice unread left before mid unsaid now_said (state_of old) earlier
        g.lines g.made outcome g.so_far
        (whole.0, rw append-nil at (Consumes-trans unread now left whole.0 [] whole.1 nothing.0), whole.2) nothing.1

    pub cut_off : (why : Unread) → BreaksOff now left why → (broken : Outcome) → broken ≡ outcome_of why
        → TracesFrom first choice (streams_of unread left before mid unsaid now_said) broken
    cut_off why breaks broken is config start random came =
        let g = going config start random came in
        rw is (ends_cut (origin first config start random) choice unread left before mid unsaid now_said (state_of old)
        earlier g.lines g.made now outcome why g.so_far g.taken breaks)

    module _ (new : Recovery F (List ℕ) R C K (Unit {0}) (Unit {0}) (List ℕ) f c q m r) (later : ℕ)
        (kept items : List ℕ) (same : kept ≡ items) (next : Next) (found : Option Next) (found_is : found ≡ Some next)
        (found_line : IsLine now left items found) where
      is_line : IsLine now left kept (Some next)
      is_line = subst (λ (k : List ℕ). IsLine now left k (Some next)) (sym same)
          (subst (λ (n : Option Next). IsLine now left items n) found_is found_line)

      one : OneLine now left kept
      one = one_of now left kept next is_line

      -- a whole line whose event is applied, or that is empty or a comment
      pub one_done : next ≡ Line → LineOutcome choice.shows kept number old new earlier later mid after now_said said
          Done
          → Going (streams_of unread left before after unsaid said) new later outcome (number + 1)
      one_done is turn config start random came =
          let g = going config start random came in
          let read = rw is at is_line in record {
            lines = read.0 ∷ g.lines;
            taken = taken_more unread now left g.lines g.taken read.0 read.1.no_feed read.2;
            made = turn_done config start random choice old new earlier later before mid after unsaid now_said said
                g.lines read.0 kept number g.made g.counted read.1 turn;
            so_far = fine_more (origin first config start random) choice outcome read.0 g.lines
                (done_fine config start random choice old new earlier later before mid after unsaid now_said said
                g.lines read.0 kept number g.made g.counted read.1 turn) g.so_far;
            counted = omega (arith, g.counted);
          }

      pub one_bad : next ≡ Line → choice.is_strict ≡ false
          → LineOutcome choice.shows kept number old new earlier later mid after now_said said Bad
          → Going (streams_of unread left before after unsaid said) new later (Ended (BadLine number)) (number + 1)
      one_bad is lax turn config start random came =
          let g = going config start random came in
          let read = rw is at is_line in record {
            lines = read.0 ∷ g.lines;
            taken = taken_more unread now left g.lines g.taken read.0 read.1.no_feed read.2;
            made = turn_bad config start random choice old new earlier later before mid after unsaid now_said said
                g.lines read.0 kept number g.made g.counted read.1 turn;
            so_far = (
              inl (
                bad_line config start random choice old new earlier later before mid after unsaid now_said said
                    g.lines read.0 kept number g.made g.counted read.1 turn,
                g.counted,
              ),
              lax,
            );
            counted = omega (arith, g.counted);
          }

      -- the last line, which lacks its line feed
      pub last_done : next ≡ Last → LineOutcome choice.shows kept number old new earlier later mid after now_said said
          Done
          → TracesFrom first choice (streams_of unread left before after unsaid said) outcome
      last_done is turn config start random came =
          let g = going config start random came in
          let read = rw is at is_line in
          ends_so (origin first config start random) choice unread left before after unsaid said (state_of new) later
          (one.line ∷ g.lines)
          (turn_done config start random choice old new earlier later before mid after unsaid now_said said g.lines
          one.line kept number g.made g.counted one.is_kept turn)
          outcome
          (fine_more (origin first config start random) choice outcome one.line g.lines
          (done_fine config start random choice old new earlier later before mid after unsaid now_said said g.lines
          one.line kept number g.made g.counted one.is_kept turn) g.so_far)
          (one.takes unread g.lines g.taken) read.4

      pub last_bad : next ≡ Last → choice.is_strict ≡ false
          → LineOutcome choice.shows kept number old new earlier later mid after now_said said Bad
          → TracesFrom first choice (streams_of unread left before after unsaid said)
          (Ended (BadLine number))
      last_bad is lax turn config start random came =
          let g = going config start random came in
          let read = rw is at is_line in
          ends_so (origin first config start random) choice unread left before after unsaid said (state_of new) later
          (one.line ∷ g.lines)
          (turn_bad config start random choice old new earlier later before mid after unsaid now_said said g.lines
          one.line kept number g.made g.counted one.is_kept turn)
          (Ended (BadLine number)) (
            inl (
              bad_line config start random choice old new earlier later before mid after unsaid now_said said g.lines
                  one.line kept number g.made g.counted one.is_kept turn,
              g.counted,
            ),
            lax,
          )
          (one.takes unread g.lines g.taken) read.4

      -- a line that ends the trace
      pub strict_bad : choice.is_strict ≡ true
          → LineOutcome choice.shows kept number old new earlier later mid after now_said said Bad
          → TracesFrom first choice (streams_of unread left before after unsaid said)
          (Ended (BadLine number))
      strict_bad strict turn config start random came =
          let g = going config start random came in
          ends_bad (origin first config start random) choice unread left before after unsaid said (state_of new) later
          one.line g.lines
          (turn_bad config start random choice old new earlier later before mid after unsaid now_said said g.lines
          one.line kept number g.made g.counted one.is_kept turn)
          outcome g.so_far strict
          (bad_line config start random choice old new earlier later before mid after unsaid now_said said g.lines
          one.line kept number g.made g.counted one.is_kept turn)
          number g.counted (one.takes unread g.lines g.taken)

      pub over : (ends : Outcome)
          → LineOutcome choice.shows kept number old new earlier later mid after now_said said (Over ends)
          → TracesFrom first choice (streams_of unread left before after unsaid said) ends
      over ends turn config start random came =
          let g = going config start random came in
          turn_over config start random choice old new earlier later before mid after unsaid now_said said g.lines
          one.line kept number g.made g.counted one.is_kept unread left outcome g.so_far ends turn
          (one.takes unread g.lines g.taken)
          (one.more, one.few, also_taken unread now left g.lines g.taken one.more one.consumed)

    -- so long an input that lines are no longer counted
    pub too_many : TracesFrom first choice (streams_of unread now before mid unsaid now_said)
        (Ended ReadFailed)
    too_many config start random came =
        let g = going config start random came in
        ends_cut (origin first config start random) choice unread now before mid unsaid now_said (state_of old) earlier
        g.lines g.made now outcome reasons.ReadFailed g.so_far g.taken ([], All-nil _, Consumes-nil now, inl refl)

-- an allocation failed before anything was read
pub refused : {F K : Type 0} (beginning : ItemBeginning F K) (choice : Choice) (unread before unsaid : Option (List ℕ))
    → TracesInput beginning choice (streams_of unread unread before before unsaid unsaid) OutOfMemory
refused beginning choice unread before unsaid = (
  [],
  ([], omega arith, Consumes-nil unread),
  (λ strict. All-nil _),
  (
    [],
    [],
    record { past = []; spelled = tt; keeps = tt; written = refl; is_told = refl },
    Appends-nil before,
    Appends-nil unsaid,
  ),
)
