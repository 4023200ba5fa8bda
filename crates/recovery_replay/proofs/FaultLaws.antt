-- The spaces before a word, and what begins a line: `fault_beside` and `is_joined` rest on it.
use Rattle.std.proofs.Common.{◌≡◌, ◌≢◌, ℕ, zero, suc, ◌+◌, ◌-◌, ◌<◌, ◌≤◌, ◌==◌, cond, Bool, List, ◌++◌, length, take, slice_index, Option, Some, None, is_some, IsTrue, ap, subst, ◌∙◌, append_assoc, arith}
use Rattle.std.specs.List.{count_by}
use Rattle.std.proofs.lemmas.Bool.Decides.{nat_tests}
use Rattle.std.proofs.lemmas.List.{take_more}
use Rattle.std.proofs.lemmas.List.Sums.{sum_by_push}
use Rattle.recovery_replay.specs.Faults.{EndsWord, IsPrefix}
use Rattle.recovery_script_syntax.specs.Forms.{IsItemOf, IsLineOf}

abbrev pub spaces : List ℕ → ℕ
spaces bytes = count_by (λ byte. byte == 32) bytes

one_more : (line : List ℕ) (place : ℕ) → place < length line
    → spaces (take (place + 1) line) ≡ spaces (take place line) + cond (slice_index line place == 32) 1 0
one_more line place lt =
    ap spaces (take_more line place 0 lt) ∙ sum_by_push (λ byte. cond (byte == 32) 1 0) (take place line) _

-- a word has no space
through : (line : List ℕ) (start n : ℕ) → start + n ≤ length line
    → ((place : ℕ) → start ≤ place → place < start + n → slice_index line place ≢ 32)
    → spaces (take (start + n) line) ≡ spaces (take start line)
through line start zero le none = ap (λ (place : ℕ). spaces (take place line)) (omega arith)
through line start (suc n) le none =
    let before = through line start n (omega arith) (λ place from lt. none place from (omega arith)) in
    let more = one_more line (start + n) (omega arith) in
    let here : slice_index line (start + n) ≢ 32 = none (start + n) (omega arith) (omega arith) in
    ap (λ (place : ℕ). spaces (take place line)) (let e : start + suc n ≡ start + n + 1 = omega arith in e)
    ∙ grind (arith, nat_tests, before, more, here)

-- and is followed by one
pub counted_more : (line : List ℕ) (start end number : ℕ) → EndsWord line start end → end + 1 ≤ length line
    → number ≡ spaces (take start line) + 1 → number + 1 ≡ spaces (take (end + 1) line) + 1
counted_more line start end number word le counted =
    let apart : start + (end - start) ≡ end = omega (arith, word.from) in
    let same = through line start (end - start) (omega (arith, word.within, word.from))
    (λ place from lt. word.whole place from (omega (arith, lt, word.from))) in
    let here = word.ended (omega (arith, le)) in
    grind (arith, nat_tests, one_more line end (omega (arith, le)), rw apart at same, here, counted)

-- a line of three parts begins with the first
pub joined_begins : {T : Type 0} (encodes : List ℕ → T → Type 0) (front behind end line : List ℕ) (item : Option T)
    → line ≡ front ++ behind ++ end → IsItemOf encodes line item → IsTrue (is_some item)
    → IsPrefix (IsLineOf encodes) front
joined_begins encodes front behind end line (Some item) e said true =
    (behind ++ end, subst (IsLineOf encodes) (e ∙ append_assoc front behind end) (item, said))
joined_begins encodes front behind end line None e said true = grind (arith, true)
