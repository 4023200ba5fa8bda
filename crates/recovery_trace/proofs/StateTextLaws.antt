-- Texts that are appended one after another: `write_state`, `write_metrics` and `write_turn` rest on them.
use Rattle.std.proofs.Common.{◌≡◌, ℕ, List, ◌++◌, OnOk, Result, Ok, Err, ap, ◌∙◌, append_assoc}

-- five parts, of which the allocation of the last may have failed
pub five : {X E : Type 0} (r : Result X E) (start one two three four five' a b c d e : List ℕ)
    → one ≡ start ++ a → two ≡ one ++ b → three ≡ two ++ c → four ≡ three ++ d → OnOk r (five' ≡ four ++ e)
    → OnOk r (five' ≡ start ++ (a ++ (b ++ (c ++ (d ++ e)))))
five (Err x) start one two three four five' a b c d e p q s t u = tt
five (Ok x) start one two three four five' a b c d e p q s t u =
    u ∙ ap (λ (l : List ℕ). l ++ e) (t ∙ ap (λ (l : List ℕ). l ++ d) (s ∙ ap (λ (l : List ℕ). l ++ c)
    (q ∙ ap (λ (l : List ℕ). l ++ b) p)))
    ∙ append_assoc (((start ++ a) ++ b) ++ c) d e ∙ append_assoc ((start ++ a) ++ b) c (d ++ e)
    ∙ append_assoc (start ++ a) b (c ++ (d ++ e)) ∙ append_assoc start a (b ++ (c ++ (d ++ e)))

-- two parts
pub two : {X E : Type 0} (r : Result X E) (start one two' a b : List ℕ) → one ≡ start ++ a → OnOk r (two' ≡ one ++ b)
    → OnOk r (two' ≡ start ++ (a ++ b))
two (Err x) start one two' a b p q = tt
two (Ok x) start one two' a b p q = q ∙ ap (λ (l : List ℕ). l ++ b) p ∙ append_assoc start a b
