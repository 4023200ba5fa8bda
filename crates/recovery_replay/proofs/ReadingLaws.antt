-- One more byte of a line, its end, and the part that is stored: `next_line` rests on it, and so does `recovery_trace`.
use Rattle.std.proofs.Common.{◌≡◌, ◌≢◌, ℕ, zero, suc, ◌≤◌, ◌⊎◌, List, [], ◌∷◌, ◌++◌, length, take, Option, Some, refl, sym, ap, subst, ◌∙◌, arith, length-append, length-take, take_all}
use Rattle.std.proofs.lemmas.List.Elements.{All-nil, All-append, All-cons}
use Rattle.std.specs.Io.KnownBytes.{Consumes}
use Rattle.std.proofs.KnownBytes.{Consumes-trans}
use Rattle.recovery_script_syntax.specs.Lines.{ItemEvent, EncodesEvent}
use Rattle.recovery_replay.specs.declared.reading.Next.TheVariants.{Line}
use Rattle.recovery_replay.specs.declared.reading.Unread.{Unread}
use Rattle.recovery_replay.specs.declared.reading.Unread.TheVariants.{OutOfMemory, ReadFailed}
use Rattle.recovery_replay.specs.Reading.{BreaksOff, IsLine, TruncatedLine}
use Rattle.recovery_replay.proofs.ScriptLaws.{IsNoFeed}

-- what was read of a line so far, and what is stored of it
abbrev pub Taken : Option (List ℕ) → Option (List ℕ) → List ℕ → Type 0
Taken before now kept = (line : List ℕ) × TruncatedLine line kept × Consumes before now line

take_front : (n : ℕ) (xs ys : List ℕ) → take n (take n xs ++ ys) ≡ take n (xs ++ ys)
take_front zero xs ys = refl
take_front (suc n) [] ys = refl
take_front (suc n) (x ∷ xs) ys = ap (λ (l : List ℕ). x ∷ l) (take_front n xs ys)

pub one_more : (before now after : Option (List ℕ)) (kept new : List ℕ) (byte : ℕ) → Taken before now kept
    → byte ≢ 10 → Consumes now after (byte ∷ []) → new ≡ take 4097 (kept ++ byte ∷ []) → Taken before after new
one_more before now after kept new byte taken no_feed one is =
    let line = taken.0 in (
      line ++ byte ∷ [],
      record {
        no_feed = All-append IsNoFeed line (byte ∷ []) taken.1.no_feed (All-cons IsNoFeed byte [] no_feed
            (All-nil IsNoFeed));
        is = is ∙ ap (λ (l : List ℕ). take 4097 (l ++ byte ∷ [])) taken.1.is ∙ take_front 4097 line (byte ∷ []);
      },
      Consumes-trans before now after line (byte ∷ []) taken.2 one,
    )

pub short : (before now : Option (List ℕ)) (kept : List ℕ) → Taken before now kept → length kept ≤ 4097
short before now kept taken =
    let cut : length kept ≡ length (take 4097 taken.0) = ap length taken.1.is in
    omega (arith, cut, length-take 4097 taken.0)

pub line_over : (before now after : Option (List ℕ)) (kept : List ℕ) → Taken before now kept
    → Consumes now after (10 ∷ []) → IsLine before after kept (Some Line)
line_over before now after kept taken one =
    (taken.0, taken.1, Consumes-trans before now after taken.0 (10 ∷ []) taken.2 one)

-- a line of at most 4097 bytes with one more, of which 4097 are stored
pub kept_all : (kept : List ℕ) (byte : ℕ) → length kept ≤ 4096 → kept ++ byte ∷ [] ≡ take 4097 (kept ++ byte ∷ [])
kept_all kept byte le = sym (take_all 4097 (kept ++ byte ∷ []) (omega (arith, length-append kept (byte ∷ []))))

front : (n : ℕ) (xs ys : List ℕ) → length xs ≡ n → take n (xs ++ ys) ≡ xs
front zero [] ys e = refl
front zero (x ∷ xs) ys e = absurd (omega arith)
front (suc n) [] ys e = absurd (omega arith)
front (suc n) (x ∷ xs) ys e = ap (λ (l : List ℕ). x ∷ l) (front n xs ys (omega arith))

pub kept_full : (kept : List ℕ) (byte : ℕ) → length kept ≡ 4097 → kept ≡ take 4097 (kept ++ byte ∷ [])
kept_full kept byte full = sym (front 4097 kept (byte ∷ []) full)

-- the allocation for one more byte failed
pub stopped : (before now after : Option (List ℕ)) (kept : List ℕ) (byte : ℕ) (unread : Unread)
    → Taken before now kept → byte ≢ 10 → Consumes now after (byte ∷ [])
    → (unread ≡ ReadFailed) ⊎ (unread ≡ OutOfMemory) → BreaksOff before after unread
stopped before now after kept byte unread taken no_feed one is =
    let more = one_more before now after kept (take 4097 (kept ++ byte ∷ [])) byte taken no_feed one refl in
    (more.0, more.1.no_feed, more.2, is)

-- ---- a line and what is stored of it

pub same_line : (line kept : List ℕ) → TruncatedLine line kept → length kept ≤ 4096 → kept ≡ line
same_line line kept k short =
    k.is ∙ take_all 4097 line (omega (arith, short, ap length k.is, length-take 4097 line))

pub same_short : (line kept : List ℕ) → TruncatedLine line kept → length line ≤ 4096 → kept ≡ line
same_short line kept k short = k.is ∙ take_all 4097 line (omega (arith, short))

pub kept_spells : (line kept : List ℕ) (event : ItemEvent) → TruncatedLine line kept → EncodesEvent kept event
    → EncodesEvent line event
kept_spells line kept event k spells = subst (λ l. EncodesEvent l event) (same_line line kept k spells.short) spells
