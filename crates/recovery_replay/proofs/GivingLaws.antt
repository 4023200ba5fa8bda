-- The lines of an input, and the items that they give: `give_all` rests on it.
use Rattle.std.proofs.Common.{◌≡◌, ℕ, ◌+◌, ◌<◌, ◌≤◌, Bool, List, [], ◌∷◌, ◌++◌, length, take, All, Option, None, Some, Result, Ok, Err, inl, inr, refl, sym, ap, subst, ◌∙◌, arith, append-nil, append_assoc, length-append}
use Rattle.std.specs.List.{flat_map}
use Rattle.std.proofs.lemmas.List.Concat.{flat_map-append}
use Rattle.std.proofs.lemmas.List.Elements.{All-nil, All-append, All-cons}
use Rattle.std.specs.Io.KnownBytes.{Consumes, IsAtEnd, Keeps}
use Rattle.std.proofs.KnownBytes.{Consumes-nil, Consumes-trans, Keeps-refl, Keeps-trans}
use Rattle.recovery_replay.specs.Faults.{IsSilent}
use Rattle.recovery_replay.specs.FaultReports.{ReportsFault}
use Rattle.recovery_replay.specs.Outcomes.{outcome_of}
use Rattle.recovery_replay.specs.Reading.{BreaksOff, IsLine, TruncatedLine}
use Rattle.recovery_replay.specs.Script.{NoFeed, ended, lines_of}
use Rattle.recovery_replay.specs.Writing.{AppendsFront}
use Rattle.recovery_replay.proofs.KeptLaws.{kept_silent, kept_speaks, kept_tells}
use Rattle.recovery_replay.proofs.LinesLaws.{alone, lines_ended, one_line}
use Rattle.recovery_replay.proofs.ReadingLaws.{same_line, same_short}
use Rattle.recovery_replay.proofs.ScriptLaws.{line_then}
use Rattle.recovery_replay.proofs.YieldLaws.{given_so, joined}
use Rattle.recovery_replay.specs.declared.outcome.Outcome.{Outcome}
use Rattle.recovery_replay.specs.declared.outcome.Outcome.TheVariants.{Ended, OutOfMemory}
use Rattle.recovery_replay.specs.declared.reading.Next.{Next}
use Rattle.recovery_replay.specs.declared.reading.Next.TheVariants.{Line, Last}
use Rattle.recovery_replay.specs.declared.reading.Unread.{Unread}
use Rattle.recovery_replay.specs.declared.reading.Unread.TheVariants as reasons
use Rattle.recovery_replay.specs.declared.script.Ending.TheVariants.{Whole, BadLine, ReadFailed}
use Rattle.recovery_replay.specs.Giving.{EncodeItems, EndsUnread, GivesItems, GivesLine, IsUnreadable, ReadsItems, ReadsUpTo, TellsLine, YieldsItems}
use Rattle.recovery_script_syntax.specs.Forms.{IsItemOf, IsLineOf}
use Rattle.recovery_script_syntax.specs.Words.{longest_line}

module _ {T : Type 0} (encodes : List ℕ → T → Type 0)
    (are_short : (line : List ℕ) (item : T) → encodes line item → length line ≤ longest_line) where
  -- ---- the items of lines

  more_items : (lines : List (List ℕ)) (items : List T) (line : List ℕ) (more : List T)
      → EncodeItems encodes lines items → EncodeItems encodes (line ∷ []) more
      → EncodeItems encodes (lines ++ line ∷ []) (items ++ more)
  more_items [] [] line more a b = b
  more_items [] (item ∷ items) line more a b = absurd a
  more_items (l ∷ lines) [] line [] a b = (a.0, more_items lines [] line [] a.1 b)
  more_items (l ∷ lines) [] line (m ∷ more) a b = inl (a.0, more_items lines [] line (m ∷ more) a.1 b)
  more_items (l ∷ lines) (item ∷ items) line more (inl a) b = inl (a.0, more_items lines (item ∷ items) line more a.1 b)
  more_items (l ∷ lines) (item ∷ items) line more (inr a) b = inr (a.0, more_items lines items line more a.1 b)

  -- what the stored part of a line gives, the line gives
  kept_item : (line kept : List ℕ) (item : T) → TruncatedLine line kept → encodes kept item
      → encodes line item
  kept_item line kept item k says = subst (λ l. encodes l item) (same_line line kept k (are_short kept item says)) says

  kept_items : (line kept : List ℕ) (items : List T) → TruncatedLine line kept → EncodeItems encodes (kept ∷ []) items
      → EncodeItems encodes (line ∷ []) items
  kept_items line kept [] k a = (kept_silent line kept k a.0, tt)
  kept_items line kept (item ∷ []) k (inl a) = absurd a.1
  kept_items line kept (item ∷ []) k (inr a) = inr (kept_item line kept item k a.0, tt)
  kept_items line kept (item ∷ more ∷ items) k (inl a) = absurd a.1
  kept_items line kept (item ∷ more ∷ items) k (inr a) = absurd a.1

  kept_bad : (line kept : List ℕ) → TruncatedLine line kept → IsUnreadable encodes kept → IsUnreadable encodes line
  kept_bad line kept k bad = (
    kept_speaks line kept k bad.0,
    λ item. bad.1 (
      item.0,
      subst (λ l. encodes l item.0) (sym (same_short line kept k (are_short line item.0 item.1)))
          item.1,
    ),
  )

  -- a line of which none was read is none
  pub no_item : (line : List ℕ) (read : Option T) → read ≡ None → IsItemOf encodes line read → ¬ IsLineOf encodes line
  no_item line read is h item = (subst (IsItemOf encodes line) is h) item.0 item.1

  -- a line that is no item was reported
  pub line_told : (unsaid said : Option (List ℕ)) (line : List ℕ) (number : ℕ) (outcome : Outcome)
      → IsUnreadable encodes line → TellsLine encodes unsaid said line number outcome
      → GivesLine encodes {B = Bool} unsaid said line number [] (Err outcome)
  line_told unsaid said line number (Ended (BadLine named)) bad tells = (refl, bad, tells)
  line_told unsaid said line number OutOfMemory bad tells = (refl, tells)
  line_told unsaid said line number outcome bad tells = absurd tells

  -- ---- the lines that were read

  -- the lines so far, each with its line feed, gave these items, and nothing was reported
  pub record SoFar (unread now unsaid said : Option (List ℕ)) (number : ℕ) (items : List T) : Type 0 where
    pub lines : List (List ℕ)
    pub no_feeds : All NoFeed lines
    pub taken : Consumes unread now (flat_map ended lines)
    pub encoded : EncodeItems encodes lines items
    pub counted : number ≡ length lines + 1
    pub quiet : Keeps unsaid said

  pub nothing_yet : (unread unsaid : Option (List ℕ)) → SoFar unread unread unsaid unsaid 1 []
  nothing_yet unread unsaid = record {
    lines = [];
    no_feeds = All-nil NoFeed;
    taken = Consumes-nil unread;
    encoded = tt;
    counted = refl;
    quiet = Keeps-refl unsaid;
  }

  -- one line of an input, of which this is stored; the last may lack its line feed
  record OneLine (now left : Option (List ℕ)) (kept : List ℕ) : Type 0 where
    line : List ℕ
    is_kept : TruncatedLine line kept
    bytes : List ℕ
    consumed : Consumes now left bytes
    behind : (lines : List (List ℕ)) → All NoFeed lines → lines_of (flat_map ended lines ++ bytes) ≡ lines ++ line ∷ []

  one_of : (now left : Option (List ℕ)) (kept : List ℕ) (next : Next) → IsLine now left kept (Some next)
      → OneLine now left kept
  one_of now left kept Line (line, is_kept, consumed) = record {
    line = line;
    is_kept = is_kept;
    bytes = line ++ 10 ∷ [];
    consumed = consumed;
    behind = λ lines feeds. lines_ended lines (line ++ 10 ∷ []) feeds
        ∙ ap (λ (l : List (List ℕ)). lines ++ l) (line_then line [] is_kept.no_feed);
  }
  one_of now left kept Last (line, is_kept, long, consumed, over) = record {
    line = line;
    is_kept = is_kept;
    bytes = line;
    consumed = consumed;
    behind = λ lines feeds. lines_ended lines line feeds
        ∙ ap (λ (l : List (List ℕ)). lines ++ l) (alone line is_kept.no_feed long);
  }

  all_lines : (lines : List (List ℕ)) → All NoFeed lines → lines_of (flat_map ended lines) ≡ lines ++ []
  all_lines lines feeds =
      ap lines_of (sym (append-nil (flat_map ended lines))) ∙ lines_ended lines [] feeds

  kept_front : (unsaid said told : Option (List ℕ)) (text : List ℕ) → Keeps unsaid said → AppendsFront said told text
      → AppendsFront unsaid told text
  kept_front None said told text kept front = (front.0, tt)
  kept_front (Some x) None told text kept front = absurd kept
  kept_front (Some x) (Some y) None text kept front = absurd front.1
  kept_front (Some x) (Some y) (Some z) text kept front =
      (front.0, front.1 ∙ ap (λ (l : List ℕ). l ++ take front.0 text) kept)

  module _ (unread now left unsaid said told : Option (List ℕ)) (number : ℕ) (one : List T)
      (so : SoFar unread now unsaid said number one) where
    -- the input is at its end
    pub at_end : (kept : List ℕ) (found : Option Next) → found ≡ None → IsLine now left kept found
        → Keeps said told → GivesItems encodes unread left unsaid told one (Some (Ended Whole))
    at_end kept found is read quiet =
        let nothing = subst (λ (n : Option Next). IsLine now left kept n) is read in (
          record {
            taken = flat_map ended so.lines;
            consumed = rw append-nil at (Consumes-trans unread now left _ [] so.taken nothing.0);
            lines = so.lines;
            are = all_lines so.lines so.no_feeds;
            encoded = so.encoded;
          },
          nothing.1,
          Keeps-trans unsaid said told so.quiet quiet,
        )

    -- a line was cut off
    cut_read : (cut : List ℕ) → NoFeed cut → Consumes now left cut → ReadsUpTo encodes unread left one
    cut_read cut feeds consumed = (
      lines_of cut,
      one_line cut feeds,
      record {
        taken = flat_map ended so.lines ++ cut;
        consumed = Consumes-trans unread now left _ _ so.taken consumed;
        lines = so.lines;
        are = lines_ended so.lines cut so.no_feeds;
        encoded = so.encoded;
      },
    )

    pub cut_off : (why : Unread) (outcome : Outcome) → outcome ≡ outcome_of why → BreaksOff now left why
        → Keeps said told → GivesItems encodes unread left unsaid told one (Some outcome)
    cut_off reasons.ReadFailed outcome is breaks quiet =
        rw is (cut_read breaks.0 breaks.1 breaks.2, Keeps-trans unsaid said told so.quiet quiet)
    cut_off reasons.OutOfMemory outcome is breaks quiet =
        rw is (cut_read breaks.0 breaks.1 breaks.2, Keeps-trans unsaid said told so.quiet quiet)

    -- a line gave these items
    module _ (kept : List ℕ) (two : List T) where
      read_also : OneLine now left kept → EncodeItems encodes (kept ∷ []) two
          → ReadsItems encodes unread left (one ++ two) []
      read_also l given = record {
        taken = flat_map ended so.lines ++ l.bytes;
        consumed = Consumes-trans unread now left _ _ so.taken l.consumed;
        lines = so.lines ++ l.line ∷ [];
        are = l.behind so.lines so.no_feeds ∙ sym (append-nil (so.lines ++ l.line ∷ []));
        encoded = more_items so.lines one l.line two so.encoded (kept_items l.line kept two l.is_kept given);
      }

      pub stopped : (next : Next) → IsLine now left kept (Some next) → EncodeItems encodes (kept ∷ []) two
          → Keeps said told
          → GivesItems encodes unread left unsaid told (one ++ two) None
      stopped next line given quiet =
          (read_also (one_of now left kept next line) given, Keeps-trans unsaid said told so.quiet quiet)

      pub last_given : IsLine now left kept (Some Last) → EncodeItems encodes (kept ∷ []) two → Keeps said told
          → GivesItems encodes unread left unsaid told (one ++ two) (Some (Ended Whole))
      last_given line given quiet =
          (read_also (one_of now left kept Last line) given, line.4, Keeps-trans unsaid said told so.quiet quiet)

      pub goes_on : IsLine now left kept (Some Line) → EncodeItems encodes (kept ∷ []) two → Keeps said told
          → SoFar unread left unsaid told (number + 1) (one ++ two)
      goes_on (line, is_kept, consumed) given quiet = record {
        lines = so.lines ++ line ∷ [];
        no_feeds = All-append NoFeed so.lines (line ∷ []) so.no_feeds
            (All-cons NoFeed line [] is_kept.no_feed (All-nil NoFeed));
        taken = rw (flat_map-append ended so.lines (line ∷ []), append-nil (ended line))
            (Consumes-trans unread now left _ _ so.taken consumed);
        encoded = more_items so.lines one line two so.encoded (kept_items line kept two is_kept given);
        counted = rw (length-append so.lines (line ∷ [])) (omega (arith, so.counted));
        quiet = Keeps-trans unsaid said told so.quiet quiet;
      }

      -- a line gave none, and the input ends with it
      abbrev also_read : (l : OneLine now left kept) → two ≡ []
          → ReadsItems encodes unread left (one ++ two) (l.line ∷ [])
      also_read l none = record {
        taken = flat_map ended so.lines ++ l.bytes;
        consumed = Consumes-trans unread now left _ _ so.taken l.consumed;
        lines = so.lines;
        are = l.behind so.lines so.no_feeds;
        encoded = rw (none, append-nil one) so.encoded;
      }

      pub ends_line : (next : Next) → IsLine now left kept (Some next) → (outcome : Outcome)
          → GivesLine encodes {B = Bool} said told kept number two (Err outcome)
          → GivesItems encodes unread left unsaid told (one ++ two) (Some outcome)
      ends_line next line (Ended (BadLine named)) given =
          let l = one_of now left kept next line in
          let tells = given.2.1 in
          record {
            line = l.line;
            read = also_read l given.0;
            bad = kept_bad l.line kept l.is_kept given.1;
            counted = given.2.0 ∙ so.counted;
            text = tells.0;
            reports = rw (given.2.0) (kept_tells (IsLineOf encodes) l.line kept number tells.0 l.is_kept tells.1);
            told = kept_front unsaid said told tells.0 so.quiet tells.2;
          }
      ends_line next line OutOfMemory given =
          let l = one_of now left kept next line in
          ((l.line ∷ [], omega arith, also_read l given.0), Keeps-trans unsaid said told so.quiet given.1)
      ends_line next line outcome given = absurd given

  -- all lines that there may be were read
  pub no_more : (unread now unsaid said : Option (List ℕ)) (number : ℕ) (items : List T)
      → SoFar unread now unsaid said number items
      → GivesItems encodes unread now unsaid said items (Some (Ended ReadFailed))
  no_more unread now unsaid said number items so = (
    (
      [],
      omega arith,
      record {
        taken = flat_map ended so.lines;
        consumed = so.taken;
        lines = so.lines;
        are = all_lines so.lines so.no_feeds;
        encoded = so.encoded;
      },
    ),
    so.quiet,
  )

  -- ---- what a sink took of them

  module _ {S : Type 0} (takes : S → T → S → Type 0) (old mid new : S)
      (unread now left unsaid said told : Option (List ℕ)) (number : ℕ)
      (before : YieldsItems takes (SoFar unread now unsaid said number) old mid) where
    pub all_given : (kept : List ℕ) (found : Option Next) → found ≡ None → IsLine now left kept found
        → YieldsItems takes (λ items. GivesItems encodes unread left unsaid said items (Some (Ended Whole))) old mid
    all_given kept found is line =
        given_so takes _ _ old mid before (λ items so. at_end unread now left unsaid said said number items so kept
        found is line (Keeps-refl said))

    pub cut_given : (why : Unread) (outcome : Outcome) → outcome ≡ outcome_of why → BreaksOff now left why
        → YieldsItems takes (λ items. GivesItems encodes unread left unsaid said items (Some outcome)) old mid
    cut_given why outcome is breaks =
        given_so takes _ _ old mid before (λ items so. cut_off unread now left unsaid said said number items so
        why outcome
        is breaks (Keeps-refl said))

    module _ (kept slice : List ℕ) (same : slice ≡ kept) (next : Next) (found : Option Next) (is : found ≡ Some next)
        (line : IsLine now left kept found) where
      this_line : IsLine now left kept (Some next)
      this_line = subst (λ (n : Option Next). IsLine now left kept n) is line

      pub stopped_given : (more : Bool)
          → YieldsItems takes (λ items. GivesLine encodes {B = Bool} said told slice number items (Ok more)) mid new
          → YieldsItems takes (λ items. GivesItems encodes unread left unsaid told items None) old new
      stopped_given more here =
          joined takes _ _ _ old mid new before here (λ one two so given. stopped unread now left unsaid said told
          number one so kept two next this_line (subst (λ (l : List ℕ). EncodeItems encodes (l ∷ []) two) same given.0)
          given.1)

      pub last_done : (more : Bool) → next ≡ Last
          → YieldsItems takes (λ items. GivesLine encodes {B = Bool} said told slice number items (Ok more)) mid new
          → YieldsItems takes (λ items. GivesItems encodes unread left unsaid told items (Some (Ended Whole))) old new
      last_done more last here =
          joined takes _ _ _ old mid new before here (λ one two so given. last_given unread now left unsaid said told
          number one so kept two (subst (λ (n : Next). IsLine now left kept (Some n)) last this_line)
          (subst (λ (l : List ℕ). EncodeItems encodes (l ∷ []) two) same given.0) given.1)

      pub line_done : (more : Bool) → next ≡ Line
          → YieldsItems takes (λ items. GivesLine encodes {B = Bool} said told slice number items (Ok more)) mid new
          → YieldsItems takes (SoFar unread left unsaid told (number + 1)) old new
      line_done more goes here =
          joined takes _ _ _ old mid new before here (λ one two so given. goes_on unread now left unsaid said told
          number one so kept two (subst (λ (n : Next). IsLine now left kept (Some n)) goes this_line)
          (subst (λ (l : List ℕ). EncodeItems encodes (l ∷ []) two) same given.0) given.1)

      pub end_given : (outcome : Outcome)
          → YieldsItems takes (λ items. GivesLine encodes {B = Bool} said told slice number items (Err outcome)) mid new
          → YieldsItems takes (λ items. GivesItems encodes unread left unsaid told items (Some outcome)) old new
      end_given outcome here =
          joined takes _ _ _ old mid new before here (λ one two so given. ends_line unread now left unsaid said told
          number one so kept two next this_line outcome
          (subst (λ (l : List ℕ). GivesLine encodes {B = Bool} said told l number two (Err outcome)) same given))

pub not_last : (next : Next) → (next ≡ Last → ⊥) → next ≡ Line
not_last Line other = refl
not_last Last other = absurd (other refl)
