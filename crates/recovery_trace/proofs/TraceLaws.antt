-- One more line of a trace, and its ends: `run` rests on it.
use Rattle.std.proofs.Common.{◌≡◌, ℕ, suc, ◌+◌, ◌<◌, ◌≤◌, max, inl, inr, true, false, List, [], ◌∷◌, ◌++◌, length, reverse, take, All, Option, refl, sym, ap, subst, true≢false, ◌∙◌, arith, append-nil, append_assoc}
use Rattle.std.specs.List.{flat_map}
use Rattle.std.proofs.lemmas.List.{reverse-append}
use Rattle.std.proofs.lemmas.List.Concat.{flat_map-append}
use Rattle.std.proofs.lemmas.List.Elements.{All-nil, All-append, All-cons, All-tail}
use Rattle.std.specs.Io.KnownBytes.{Appends, Consumes, IsAtEnd, Keeps}
use Rattle.std.proofs.KnownBytes.{Appends-kept, Appends-trans, Consumes-trans}
use Rattle.rand_core.specs.Stream.{Stream}
use Rattle.quic_recovery.specs.declared.driver.Recovery.{Recovery}
use Rattle.recovery_history.specs.declared.config.RecoveryConfig.{RecoveryConfig}
use Rattle.recovery_history.specs.Reachability.{ReachedBy, StepFromPast}
use Rattle.quic_recovery.specs.State.{state_of}
use Rattle.recovery_script_syntax.specs.Answers.{ScriptReply}
use Rattle.recovery_script_syntax.specs.Lines.{ItemEvent, EncodesEvent}
use Rattle.recovery_replay.specs.declared.reading.Unread.{Unread}
use Rattle.recovery_replay.specs.Reading.{BreaksOff, TruncatedLine}
use Rattle.recovery_replay.specs.Script.{NoFeed, ended, lines_of}
use Rattle.recovery_replay.specs.Writing.{AppendsFront}
use Rattle.recovery_replay.proofs.ReadingLaws.{kept_spells}
use Rattle.recovery_replay.specs.declared.outcome.Outcome.{Outcome}
use Rattle.recovery_replay.specs.declared.outcome.Outcome.TheVariants.{Ended, WriteFailed, Closed, OutOfMemory}
use Rattle.recovery_replay.specs.declared.script.Ending.TheVariants.{Whole, BadLine}
use Rattle.recovery_trace.specs.declared.requests.Choice.{Choice}
use Rattle.recovery_trace.specs.declared.turn.Turn.TheVariants.{Done, Bad, Over}
use Rattle.recovery_replay.specs.Outcomes.{outcome_of}
use Rattle.recovery_trace.specs.EventTimes.{moment_of}
use Rattle.recovery_trace.specs.Qlog.{note_of}
use Rattle.recovery_replay.specs.FaultReports.{ReportsFault}
use Rattle.recovery_replay.specs.Faults.{IsSilent}
use Rattle.recovery_replay.proofs.KeptLaws.{kept_silent, kept_speaks, kept_tells}
use Rattle.recovery_replay.proofs.LinesLaws.{alone, lines_ended, one_line}
use Rattle.recovery_script_syntax.specs.Forms.{IsLineOf}
use Rattle.recovery_trace.specs.Turns.{AppliesLineEvent, IsUnreadableLine, IsFine, ItemParts, IsSkippedLine, LineOutcome, turn_text}
use Rattle.recovery_trace.proofs.KeptLaws.{kept_passes}
use Rattle.recovery_replay.specs.Playing.{Streams, streams_of}
use Rattle.recovery_replay.proofs.AnsweringLaws.{take_behind}
use Rattle.recovery_trace.specs.Trace.{WroteAll, AreParseableLines, EndsBad, LastUnreadable, WrotePrefix, ItemBeginning, ItemHistory, SpelledBy, origin, ConsumesLines, TakesAlso, TraceGuarantees, TracesInput, time_of}

-- ---- bytes and lines

turned : {A : Type 0} (x : A) (xs : List A) → reverse (x ∷ xs) ≡ reverse xs ++ x ∷ []
turned x xs = reverse-append (x ∷ []) xs

-- what was read so far are these lines
pub record Taken (unread now : Option (List ℕ)) (lines : List (List ℕ)) : Type 0 where
  pub no_feeds : All NoFeed (reverse lines)
  pub taken : Consumes unread now (flat_map ended (reverse lines))

pub nothing_taken : (unread now : Option (List ℕ)) → Consumes unread now [] → Taken unread now []
nothing_taken unread now none = record { no_feeds = All-nil NoFeed; taken = none }

module _ (unread now left : Option (List ℕ)) (lines : List (List ℕ)) (t : Taken unread now lines) where
  pub taken_more : (line : List ℕ) → NoFeed line → Consumes now left (line ++ 10 ∷ [])
      → Taken unread left (line ∷ lines)
  taken_more line no_feed one = record {
    no_feeds = rw (turned line lines) (All-append NoFeed (reverse lines) (line ∷ []) t.no_feeds
        (All-cons NoFeed line [] no_feed (All-nil NoFeed)));
    taken = rw (turned line lines, flat_map-append ended (reverse lines) (line ∷ []), append-nil (ended line))
        (Consumes-trans unread now left _ _ t.taken one);
  }

  pub also_taken : (more : List ℕ) → Consumes now left more
      → Consumes unread left (flat_map ended (reverse lines) ++ more)
  also_taken more one = Consumes-trans unread now left _ _ t.taken one

  pub takes_whole : (taken : List ℕ) × Consumes unread now taken × (lines_of taken ≡ reverse lines)
  takes_whole = (
    flat_map ended (reverse lines),
    t.taken,
    rw (append-nil (flat_map ended (reverse lines)), append-nil (reverse lines)) at
        (lines_ended (reverse lines) [] t.no_feeds),
  )

  pub takes_last : (line : List ℕ) → NoFeed line → 0 < length line → Consumes now left line
      → (taken : List ℕ) × Consumes unread left taken × (lines_of taken ≡ reverse (line ∷ lines))
  takes_last line no_feed some one = (
    flat_map ended (reverse lines) ++ line,
    also_taken line one,
    lines_ended (reverse lines) line t.no_feeds ∙ ap (λ l. reverse lines ++ l) (alone line no_feed some)
        ∙ sym (turned line lines),
  )

-- ---- the outcome of the lines

module _ {F K : Type 0} (beginning : ItemBeginning F K) (choice : Choice) where
  -- how the trace would end if it ended here
  abbrev pub SoFar : Outcome → List (List ℕ) → Type 0
  SoFar (Ended Whole) lines = All IsFine lines
  SoFar (Ended (BadLine number)) lines = LastUnreadable number lines × (choice.is_strict ≡ false)
  SoFar outcome lines = ⊥

  -- the outcome of these lines, and the recovery and the time by then
  pub record Made (before after unsaid said : Option (List ℕ)) (recovery : ItemParts K) (time : ℕ)
      (lines : List (List ℕ)) : Type 0 where
    pub text : List ℕ
    pub told : List ℕ
    pub traced : TraceGuarantees beginning choice.shows lines text told
    pub came : ReachedBy beginning traced.past recovery
    pub timed : time ≡ time_of traced.past
    pub out : Appends before after text
    pub is_said : Appends unsaid said told

  pub fine_more : (outcome : Outcome) (line : List ℕ) (lines : List (List ℕ)) → IsFine line → SoFar outcome lines
      → SoFar outcome (line ∷ lines)
  fine_more (Ended Whole) line lines fine so_far = All-cons IsFine line lines fine so_far
  fine_more (Ended (BadLine number)) line lines fine so_far = (inr (fine, so_far.0), so_far.1)
  fine_more outcome line lines fine so_far = absurd so_far

  pub allowed : (outcome : Outcome) (lines : List (List ℕ)) → SoFar outcome lines → AreParseableLines choice lines
  allowed (Ended Whole) lines so_far strict = so_far
  allowed (Ended (BadLine number)) lines so_far strict = absurd (true≢false (sym strict ∙ so_far.1))
  allowed outcome lines so_far strict = absurd so_far

  passes_more : (line : List ℕ) (lines : List (List ℕ)) (past : ItemHistory) → IsSkippedLine line → SpelledBy lines past
      → SpelledBy (line ∷ lines) past
  passes_more line lines [] passes spelled = (passes, spelled)
  passes_more line lines (happened ∷ past) passes spelled = inr (passes, spelled)

  module _ (before now after unsaid now_said said : Option (List ℕ)) (old new : ItemParts K) (earlier later : ℕ)
      (lines : List (List ℕ)) (line : List ℕ) (m : Made before now unsaid now_said old earlier lines) where
    is_later : (event : ItemEvent) → later ≡ max earlier (moment_of event)
        → later ≡ max (time_of m.traced.past) (moment_of event)
    is_later event timed = timed ∙ ap (λ time. max time (moment_of event)) m.timed

    -- the line's event is applied
    abbrev traced_done : (event : ItemEvent) (reply : ScriptReply) (text : List ℕ) → EncodesEvent line event
        → StepFromPast beginning m.traced.past event reply new → later ≡ max earlier (moment_of event)
        → text ≡ turn_text beginning.words choice.shows later (note_of event) reply new
        → TraceGuarantees beginning choice.shows (line ∷ lines) (m.text ++ text) m.told
    traced_done event reply text spells goes timed is = record {
      past = (event, reply) ∷ m.traced.past;
      spelled = inl (spells, m.traced.spelled);
      keeps = (goes.keeps, m.traced.keeps);
      written = (
        m.text,
        new,
        m.traced.written,
        goes.came,
        ap (λ l. m.text ++ l)
            (is ∙ ap (λ time. turn_text beginning.words choice.shows time (note_of event) reply new)
            (is_later event timed)),
      );
      is_told = inl (inl (event, spells), m.traced.is_told);
    }

    pub made_done : (event : ItemEvent) (reply : ScriptReply) (text : List ℕ) → EncodesEvent line event
        → StepFromPast beginning m.traced.past event reply new → later ≡ max earlier (moment_of event)
        → text ≡ turn_text beginning.words choice.shows later (note_of event) reply new
        → Appends now after text → Keeps now_said said → Made before after unsaid said new later (line ∷ lines)
    made_done event reply text spells goes timed is writes kept = record {
      text = m.text ++ text;
      told = m.told;
      traced = traced_done event reply text spells goes timed is;
      came = goes.came;
      timed = is_later event timed;
      out = Appends-trans before now after m.text text m.out writes;
      is_said = Appends-kept unsaid now_said said m.told m.is_said kept;
    }

    pub made_silent : IsSkippedLine line → IsSilent line → new ≡ old → later ≡ earlier → Keeps now after
        → Keeps now_said said
        → Made before after unsaid said new later (line ∷ lines)
    made_silent passes silent same still kept kept_said = record {
      text = m.text;
      told = m.told;
      traced = record {
        past = m.traced.past;
        spelled = passes_more line lines m.traced.past passes m.traced.spelled;
        keeps = m.traced.keeps;
        written = m.traced.written;
        is_told = inl (inr (passes, silent), m.traced.is_told);
      };
      came = subst (ReachedBy beginning m.traced.past) (sym same) m.came;
      timed = still ∙ m.timed;
      out = Appends-kept before now after m.text m.out kept;
      is_said = Appends-kept unsaid now_said said m.told m.is_said kept_said;
    }

    pub made_bad : (text : List ℕ) → IsUnreadableLine line → new ≡ old → later ≡ earlier → Keeps now after
        → ReportsFault (IsLineOf EncodesEvent) line (length lines + 1) text → AppendsFront now_said said text
        → Made before after unsaid said new later (line ∷ lines)
    made_bad text bad same still kept tells front = record {
      text = m.text;
      told = m.told ++ take front.0 text;
      traced = record {
        past = m.traced.past;
        spelled = passes_more line lines m.traced.past bad.0 m.traced.spelled;
        keeps = m.traced.keeps;
        written = m.traced.written;
        is_told = inr (bad, (m.told, text, front.0, m.traced.is_told, tells, refl));
      };
      came = subst (ReachedBy beginning m.traced.past) (sym same) m.came;
      timed = still ∙ m.timed;
      out = Appends-kept before now after m.text m.out kept;
      is_said = Appends-trans unsaid now_said said m.told (take front.0 text) m.is_said front.1;
    }

    -- a write of its answer fails
    pub front_out : (unread left : Option (List ℕ)) (event : ItemEvent) (reply : ScriptReply) (text : List ℕ)
        → EncodesEvent line event
        → StepFromPast beginning m.traced.past event reply new → later ≡ max earlier (moment_of event)
        → text ≡ turn_text beginning.words choice.shows later (note_of event) reply new
        → AppendsFront now after text → Keeps now_said said
        → WrotePrefix beginning choice (streams_of unread left before after unsaid said) (line ∷ lines)
    front_out unread left event reply text spells goes timed is front kept = (
      m.text ++ text,
      m.told,
      traced_done event reply text spells goes timed is,
      (
        length m.text + front.0,
        rw (take_behind m.text text front.0) (Appends-trans before now after m.text (take front.0 text) m.out front.1),
      ),
      Appends-kept unsaid now_said said m.told m.is_said kept,
    )

-- ---- a trace of a recovery

module _ {F R C K : Type 0} {f : _} {c : _} {q : _} {m : _} {r : _} (config : RecoveryConfig F) (start : ℕ)
    (random : Stream) (choice : Choice)
    (old new : Recovery F (List ℕ) R C K (Unit {0}) (Unit {0}) (List ℕ) f c q m r) (earlier later : ℕ) where
  module _ (before now after unsaid now_said said : Option (List ℕ)) (lines : List (List ℕ))
      (line kept : List ℕ) (number : ℕ)
      (made : Made (origin old config start random) choice before now unsaid now_said (state_of old) earlier lines)
      (is_number : number ≡ length lines + 1) (is_kept : TruncatedLine line kept) where
    pub turn_done : LineOutcome choice.shows kept number old new earlier later now after now_said said Done
        → Made (origin old config start random) choice before after unsaid said (state_of new) later (line ∷ lines)
    turn_done (inl (text, does, writes), kept_said) =
        made_done (origin old config start random) choice before now after unsaid now_said said (state_of old)
        (state_of new) earlier later lines line made
        does.event does.reply text (kept_spells line kept does.event is_kept does.spelled)
        (does.goes config start random made.traced.past made.came) does.timed does.written writes kept_said
    turn_done (inr (passes, silent, same, still, stays), kept_said) =
        made_silent (origin old config start random) choice before now after unsaid now_said said (state_of old)
        (state_of new) earlier later lines line made
        (kept_passes line kept is_kept passes) (kept_silent line kept is_kept silent) same still stays kept_said

    pub done_fine : LineOutcome choice.shows kept number old new earlier later now after now_said said Done
        → IsFine line
    done_fine (inl (text, does, writes), kept_said) =
        inl (does.event, kept_spells line kept does.event is_kept does.spelled)
    done_fine (inr (passes, silent, same, still, stays), kept_said) =
        inr (kept_passes line kept is_kept passes, kept_silent line kept is_kept silent)

    pub bad_line : LineOutcome choice.shows kept number old new earlier later now after now_said said Bad
        → IsUnreadableLine line
    bad_line turn = (kept_passes line kept is_kept turn.0.0, kept_speaks line kept is_kept turn.0.1)

    pub turn_bad : LineOutcome choice.shows kept number old new earlier later now after now_said said Bad
        → Made (origin old config start random) choice before after unsaid said (state_of new) later (line ∷ lines)
    turn_bad turn =
        made_bad (origin old config start random) choice before now after unsaid now_said said (state_of old)
        (state_of new) earlier later lines line made
        turn.4.0 (bad_line turn) turn.1 turn.2 turn.3
        (subst (λ n. ReportsFault (IsLineOf EncodesEvent) line n turn.4.0) is_number
        (kept_tells (IsLineOf EncodesEvent) line kept number turn.4.0 is_kept turn.4.1))
        turn.4.2

    module _ (unread left : Option (List ℕ)) (so_far : Outcome)
        (is_so_far : SoFar (origin old config start random) choice so_far lines) where
      -- the write of its answer failed
      broken : ((text : List ℕ) × AppliesLineEvent choice.shows kept old new earlier later text
          × AppendsFront now after text)
          × Keeps now_said said
          → AreParseableLines choice (line ∷ lines)
          × WrotePrefix (origin old config start random) choice (streams_of unread left before after unsaid said)
          (line ∷ lines)
      broken ((text, does, front), kept_said) =
          let spells = kept_spells line kept does.event is_kept does.spelled in (
            allowed (origin old config start random) choice so_far (line ∷ lines)
                (fine_more (origin old config start random) choice so_far line lines (inl (does.event, spells))
                is_so_far),
            front_out (origin old config start random) choice before now after unsaid now_said said (state_of old)
                (state_of new) earlier later lines line made unread left does.event does.reply text spells
                (does.goes config start random made.traced.past made.came) does.timed does.written front kept_said,
          )

      -- the trace ends with this line, which was read
      pub turn_over : (outcome : Outcome)
          → LineOutcome choice.shows kept number old new earlier later now after now_said said (Over outcome)
          → ConsumesLines (streams_of unread left before after unsaid said) (line ∷ lines)
          → ((more : List ℕ) × (length (lines_of more) ≤ 1)
          × TakesAlso (streams_of unread left before after unsaid said) lines more)
          → TracesInput (origin old config start random) choice
          (streams_of unread left before after unsaid said) outcome
      turn_over WriteFailed turn takes also =
          let over = broken turn in (line ∷ lines, takes, over.0, over.1)
      turn_over Closed turn takes also =
          let over = broken turn in (line ∷ lines, takes, over.0, over.1)
      turn_over OutOfMemory turn takes also = (
        lines,
        also,
        allowed (origin old config start random) choice so_far lines is_so_far,
        (
          made.text,
          made.told,
          made.traced,
          Appends-kept before now after made.text made.out turn.0,
          Appends-kept unsaid now_said said made.told made.is_said turn.1,
        ),
      )
      turn_over outcome turn takes also = absurd turn

-- ---- its ends

module _ {F K : Type 0} (beginning : ItemBeginning F K) (choice : Choice)
    (unread left before after unsaid said : Option (List ℕ)) (recovery : ItemParts K) (time : ℕ)
    (lines : List (List ℕ)) (made : Made beginning choice before after unsaid said recovery time lines) where
  abbrev ends : Streams
  ends = streams_of unread left before after unsaid said

  all_out : WroteAll beginning choice ends lines
  all_out = (made.text, made.told, made.traced, made.out, made.is_said)

  -- the input is at its end
  pub ends_so : (outcome : Outcome) → SoFar beginning choice outcome lines → ConsumesLines ends lines → IsAtEnd left
      → TracesInput beginning choice ends outcome
  ends_so (Ended Whole) so_far takes over = (lines, takes, over, so_far, all_out)
  ends_so (Ended (BadLine number)) so_far takes over =
      (lines, takes, subst (λ s. EndsBad s number ends lines) (sym so_far.1) (so_far.0, over), all_out)
  ends_so outcome so_far takes over = absurd so_far

  -- a read or an allocation fails before the end of a line
  pub ends_cut : (now : Option (List ℕ)) (so_far : Outcome) (why : Unread) → SoFar beginning choice so_far lines
      → Taken unread now lines → BreaksOff now left why → TracesInput beginning choice ends (outcome_of why)
  ends_cut now so_far why is_so_far taken (cut, no_feed, consumed, inl is) = rw is (
    lines,
    (cut, no_feed, also_taken unread now left lines taken cut consumed),
    allowed beginning choice so_far lines is_so_far,
    all_out,
  )
  ends_cut now so_far why is_so_far taken (cut, no_feed, consumed, inr is) = rw is (
    lines,
    (cut, one_line cut no_feed, also_taken unread now left lines taken cut consumed),
    allowed beginning choice so_far lines is_so_far,
    all_out,
  )

module _ {F K : Type 0} (beginning : ItemBeginning F K) (choice : Choice)
    (unread left before after unsaid said : Option (List ℕ)) (recovery : ItemParts K) (time : ℕ)
    (line : List ℕ) (lines : List (List ℕ))
    (made : Made beginning choice before after unsaid said recovery time (line ∷ lines)) where
  -- a line that cannot be parsed ends a strict trace
  pub ends_bad : (so_far : Outcome) → SoFar beginning choice so_far lines → choice.is_strict ≡ true
      → IsUnreadableLine line → (number : ℕ) → number ≡ length lines + 1
      → ConsumesLines (streams_of unread left before after unsaid said) (line ∷ lines)
      → TracesInput beginning choice (streams_of unread left before after unsaid said)
      (Ended (BadLine number))
  ends_bad so_far is_so_far strict bad number counted takes = (
    line ∷ lines,
    takes,
    subst (λ s. EndsBad s number (streams_of unread left before after unsaid said) (line ∷ lines)) (sym strict)
        (bad, counted, allowed beginning choice so_far lines is_so_far strict),
    (made.text, made.told, made.traced, made.out, made.is_said),
  )
