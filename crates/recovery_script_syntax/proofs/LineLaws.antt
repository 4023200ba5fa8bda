-- What is read from a line is what it encodes, and what a line encodes is read from it: the laws of lines and of
-- scripts rest on it.
use Rattle.std.proofs.Common.{IsSomeAnd, ◌≡◌, ◌≢◌, ℕ, ◌≤◌, List, [], length, Option, Some, inl, inr, refl, sym, ◌∙◌, arith}
use Rattle.std.proofs.lemmas.Bool.Decides.{nat_tests}
use Rattle.std.specs.List.{All, join_with_byte}
use Rattle.recovery_events.specs.declared.event.Event.TheVariants.{Send}
use Rattle.recovery_script_syntax.specs.declared.forms.Line.{Line}
use Rattle.recovery_script_syntax.specs.declared.forms.Line.TheVariants.{Said, Ids, Path}
use Rattle.recovery_script_syntax.specs.Words.{words_of}
use Rattle.recovery_script_syntax.specs.Lines.{ItemEvent, DenotesEvent, saying, encoding_of, IsWithinTypes, EncodesEvent, IsSameEvent, HoldsList}
use Rattle.recovery_script_syntax.specs.Reading.{whole, line_at, line_of, TakesMemory, TookAll}
use Rattle.recovery_script_syntax.proofs.AddressLaws.{one_address}
use Rattle.recovery_script_syntax.proofs.PlainWordLaws.{plain_no_feed, words_joined}
use Rattle.recovery_script_syntax.proofs.FormLaws.{Saying, Spell, said_by, means_said, line_takes, line_again}

-- ---- whole lines

whole_all : (read : Option (Line × List (List ℕ))) (said : Line) → whole read ≡ Some said → read ≡ Some (said, [])
whole_all (Some (other, [])) said e = grind (arith, e)
whole_all read said e = grind (arith, nat_tests, e)

line_said : (line : List ℕ) (said : Line) → line_of line ≡ Some said → Spell (words_of line) said (said_by said)
unfolding line_of
line_said line said e = line_takes (words_of line) said (whole_all (line_at (words_of line)) said e)

-- what is read from a line that is not too long, it encodes
pub line_found : (line : List ℕ) (said : Line) (event : ItemEvent) → line_of line ≡ Some said → length line ≤ 4096
    → DenotesEvent said event → EncodesEvent line event
line_found line said event e short means =
    let r = line_said line said e in
    let own = means_said said event means in
    record {
      unkept = own.0;
      words = grind (arith, r.0, own.1);
      within = rw (own.1) (r.1, rw (r.2) means);
      short = short;
    }

-- what a line encodes is read from it
pub line_only : (line : List ℕ) (event : ItemEvent) → EncodesEvent line event → (said : Line) ×
    (line_of line ≡ Some said)
    × DenotesEvent said event
unfolding line_of
line_only line event s =
    let by : Saying = saying s.unkept event in
    (by.0.make by.1, rw (s.words, (line_again s.unkept event s.within).0) refl, s.within.1)

one_meant : (said : Line) (first second : ItemEvent) → DenotesEvent said first → DenotesEvent said second
    → IsSameEvent first second
one_meant (Said event) first second m n = inl (m ∙ sym n)
one_meant (Ids now number count) first second m n = rw (m.1, n.1) (inr (refl, m.2 ∙ sym n.2))
one_meant (Path now port fresh) first second m n = inl (grind (arith, m.1, n.1, one_address port m.0 n.0 m.2 n.2))

-- ---- memory

-- allocating IDs fails only for lines that issue them
pub refused_whole : (line : List ℕ) (said : Line) → line_of line ≡ Some said → length line ≤ 4096 → TakesMemory said
    → HoldsList line
refused_whole line (Ids now first count) e short memory =
    let r = line_said line (Ids now first count) e in
    inl (record {
      now = now;
      first = first;
      count = count;
      words = r.0;
      time = omega (arith, r.1);
      some = memory.0;
      few = omega (arith, r.1);
      bound = memory.1;
      short = short;
    })
refused_whole line said e short memory = absurd memory

-- allocating items fails only for lines that have them
pub items_refused : (line : List ℕ) (read : Option (Line × List (List ℕ))) → line_at (words_of line) ≡ read
    → length line ≤ 4096 → IsSomeAnd read TookAll → HoldsList line
items_refused line (Some (Said (Send space now size ack_eliciting largest items none), [])) e short took =
    let r = line_takes (words_of line) (Said (Send space now size ack_eliciting largest items none)) e in
    inr (record {
      values = (space, (now, (size, (ack_eliciting, (largest, items)))));
      words = r.0;
      fit = r.1;
      some = took.0;
      short = short;
    })
items_refused line read e short took = grind (arith, took)

-- ---- laws

pub spelled_no_feed : (line : List ℕ) (event : ItemEvent) → EncodesEvent line event → All (λ byte. byte ≢ 10) line
spelled_no_feed line event spells =
    plain_no_feed line (rw spells.words ((line_again spells.unkept event spells.within).1))

pub one_event : (line : List ℕ) (first second : ItemEvent) → EncodesEvent line first → EncodesEvent line second
    → IsSameEvent first second
one_event line first second s t =
    let a = line_only line first s in
    let b = line_only line second t in
    let same : a.0 ≡ b.0 = grind (arith, a.1, b.1) in
    one_meant b.0 first second (rw (← same) a.2) b.2

pub one_line : (unkept : ℕ) (event : ItemEvent) → IsWithinTypes unkept event
    → length (join_with_byte 32 (encoding_of unkept event)) ≤ 4096
    → EncodesEvent (join_with_byte 32 (encoding_of unkept event)) event
one_line unkept event within short = record {
  unkept = unkept;
  words = words_joined _ _ (line_again unkept event within).1;
  within = within;
  short = short;
}
