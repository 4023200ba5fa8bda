-- Two IDs are equal if their lengths are, and their bytes with the zeros after them: `is_same_id` rests on it.
use Rattle.std.proofs.Common.{◌≡◌, ℕ, ◌-◌, ◌==◌, Bool, ◌&&◌, nat_eq, List, ◌++◌, length, take, replicate, sym, ap, ◌∙◌}
use Rattle.std.specs.Bool.{Decides}
use Rattle.std.specs.Cmp.Lexicographic.{pointwise}
use Rattle.std.proofs.lemmas.Bool.Decides.{Decides-and, Decides-at, Decides-eqb, Decides-like}
use Rattle.std.proofs.lemmas.Slice.Eq.{bytes_eq-Decides}
use Rattle.std.proofs.Math.Seq.{take-append_seam}

-- the bytes of an ID with the zeros after them
abbrev with_zeros : List ℕ → List ℕ
with_zeros bytes = bytes ++ replicate (20 - length bytes) 0

first_bytes : (bytes : List ℕ) → take (length bytes) (with_zeros bytes) ≡ bytes
first_bytes bytes = take-append_seam bytes (replicate (20 - length bytes) 0)

same_bytes : (xs ys : List ℕ) → (length xs ≡ length ys) × (with_zeros xs ≡ with_zeros ys) → xs ≡ ys
same_bytes xs ys both =
    sym (first_bytes xs) ∙ ap (λ n. take n (with_zeros xs)) both.0 ∙ ap (take (length ys)) both.1 ∙ first_bytes ys

pub same_id : (xs ys : List ℕ) (same : Bool) →
    same ≡ (length xs == length ys && pointwise nat_eq (with_zeros xs) (with_zeros ys)) → Decides same (xs ≡ ys)
same_id xs ys same is =
    let bytes = bytes_eq-Decides (with_zeros xs) (with_zeros ys) in
    let both =
    Decides-and (length xs == length ys) (pointwise nat_eq (with_zeros xs) (with_zeros ys))
    (Decides-eqb (length xs) (length ys)) bytes in
    Decides-at same _ is (Decides-like _ (same_bytes xs ys) (λ equal. (ap length equal, ap with_zeros equal)) both)
