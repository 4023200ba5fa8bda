-- A line of plain words has no line feed, and its words are these. `LineFieldLaws` and `LineLaws` rest on it.
use Rattle.std.proofs.Common.{◌≡◌, ◌≢◌, ℕ, ◌<◌, ◌^◌, ◌==◌, false, List, [], ◌∷◌, decimal, refl, ap, ◌∙◌, arith, ne_eqb}
use Rattle.std.specs.List.{AllByRecursion, All, join_with_byte}
use Rattle.std.proofs.lemmas.List.Splits.{join_with_byte-slice_split, slice_split_at, slice_split_none}
use Rattle.std.proofs.lemmas.List.Elements.{All-append, All-cons, All-nil, All-weaker, All-from_get_or}
use Rattle.std.proofs.lemmas.Fmt.{decimal_is_IsNumeral_wide}
use Rattle.std.proofs.lemmas.Str.Parse.{digit_at}
use Rattle.recovery_script_syntax.specs.Words.{words_of}

-- a word of bytes after the space
abbrev pub IsPlain : List ℕ → Type 0
IsPlain word = All (λ b. 32 < b) word

pub decimal_plain : (n : ℕ) → n < 10 ^ 64 → IsPlain (decimal n)
decimal_plain n lt = All-from_get_or (λ b. 32 < b) (decimal n) 0
    (λ i inside. omega (arith, (digit_at (decimal n) i (decimal_is_IsNumeral_wide n lt).0.1 inside).0))

feedless : (word : List ℕ) → IsPlain word → All (λ b. b ≢ 10) word
feedless = All-weaker (λ b. 32 < b) (λ b. b ≢ 10) (λ b high. omega arith)

joined_feedless : (words : List (List ℕ)) → AllByRecursion IsPlain words
    → All (λ b. b ≢ 10) (join_with_byte 32 words)
joined_feedless [] h = All-nil (λ b. b ≢ 10)
joined_feedless (word ∷ []) h = feedless word h.0
joined_feedless (word ∷ next ∷ words) h =
    All-append (λ b. b ≢ 10) word (32 ∷ join_with_byte 32 (next ∷ words)) (feedless word h.0)
    (All-cons (λ b. b ≢ 10) 32 _ (omega arith) (joined_feedless (next ∷ words) h.1))

-- a line of plain words has no line feed
pub plain_no_feed : (line : List ℕ) → AllByRecursion IsPlain (words_of line) → All (λ b. b ≢ 10) line
plain_no_feed line h = rw (← join_with_byte-slice_split 32 line) (joined_feedless (words_of line) h)

spaceless : (word : List ℕ) → IsPlain word → All (λ b. (b == 32) ≡ false) word
spaceless = All-weaker (λ b. 32 < b) (λ b. (b == 32) ≡ false) (λ b high. ne_eqb b 32 (omega arith))

-- plain words, joined by single spaces, are the words of that line
pub words_joined : (word : List ℕ) (words : List (List ℕ)) → AllByRecursion IsPlain (word ∷ words)
    → words_of (join_with_byte 32 (word ∷ words)) ≡ word ∷ words
words_joined word [] h = slice_split_none (λ b. b == 32) word (spaceless word h.0)
words_joined word (next ∷ words) h =
    slice_split_at (λ b. b == 32) word 32 (join_with_byte 32 (next ∷ words)) (spaceless word h.0) refl
    ∙ ap (λ (ws : List (List ℕ)). word ∷ ws) (words_joined next words h.1)
