-- What is written of all answers: programs that answer line by line rest on it.
use Rattle.std.proofs.Common.{◌≡◌, ℕ, zero, suc, ◌+◌, ◌≤◌, min, List, [], ◌∷◌, ◌++◌, length, take, Option, None, Some, refl, sym, ap, subst, ◌∙◌, arith, append-nil, take_all}
use Rattle.std.specs.List.{flat_map}
use Rattle.std.specs.Io.KnownBytes.{Appends, Keeps}
use Rattle.std.proofs.KnownBytes.{Appends-kept, Appends-nil, Appends-trans, Keeps-refl, Keeps-trans}
use Rattle.recovery_events.specs.Feeding.{TakesAll}
use Rattle.recovery_replay.specs.Answering.{TakesAnswer, WritesUpTo}
use Rattle.recovery_replay.specs.Writing.{AppendsFront}
use Rattle.recovery_replay.specs.declared.outcome.Outcome.{Outcome}

-- ---- fronts

pub take_behind : (front bytes : List ℕ) (n : ℕ) → take (length front + n) (front ++ bytes) ≡ front ++ take n bytes
take_behind [] bytes n = ap (λ (k : ℕ). take k bytes) (let e : 0 + n ≡ n = omega arith in e)
take_behind (byte ∷ front) bytes n =
    ap (λ (k : ℕ). take k (byte ∷ (front ++ bytes)))
    (let e : suc (length front) + n ≡ suc (length front + n) = omega arith in e)
    ∙ ap (λ (l : List ℕ). byte ∷ l) (take_behind front bytes n)

-- a front of a list is one of the list with more behind it
front_of : (bytes more : List ℕ) (n : ℕ) → (m : ℕ) × (take m (bytes ++ more) ≡ take n bytes)
front_of [] more n = (0, by n)
  where
    by : (n : ℕ) → take 0 more ≡ take n []
    by n = grind (arith, take_all {A = ℕ} n [])
front_of (byte ∷ bytes) more n = by n (front_of bytes more)
  where
    by : (n : ℕ) → ((n : ℕ) → (m : ℕ) × (take m (bytes ++ more) ≡ take n bytes))
        → (m : ℕ) × (take m (byte ∷ (bytes ++ more)) ≡ take n (byte ∷ bytes))
    by zero rest = (0, refl)
    by (suc n) rest = (suc (rest n).0, ap (λ (l : List ℕ). byte ∷ l) (rest n).1)

front_before : (before after : Option (List ℕ)) (bytes more : List ℕ) → AppendsFront before after bytes
    → AppendsFront before after (bytes ++ more)
front_before before after bytes more (n, appended) =
    let front = front_of bytes more n in
    (front.0, subst (Appends before after) (sym front.1) appended)

front_behind : (before mid after : Option (List ℕ)) (bytes more : List ℕ) → Appends before mid bytes
    → AppendsFront mid after more → AppendsFront before after (bytes ++ more)
front_behind before mid after bytes more appended (n, front) = (
  length bytes + n,
  subst (Appends before after) (sym (take_behind bytes more n))
      (Appends-trans before mid after bytes (take n more) appended front),
)

front_kept : (before mid after : Option (List ℕ)) (bytes : List ℕ) → AppendsFront before mid bytes → Keeps mid after
    → AppendsFront before after bytes
front_kept before mid after bytes (n, front) kept = (n, Appends-kept before mid after (take n bytes) front kept)

pub whole_front : (before after : Option (List ℕ)) (bytes : List ℕ) → Appends before after bytes
    → AppendsFront before after bytes
whole_front before after bytes appended =
    (length bytes, subst (Appends before after) (sym (take_all (length bytes) bytes (omega arith))) appended)

-- ---- all answers

module _ {T Item : Type 0} (line : Item → List ℕ) (contents : T → Option (List ℕ)) (broken : T → Option Outcome)
    (takes : T → Item → T → Type 0)
    (answers : (old : T) (said : Item) (new : T) → takes old said new
    → TakesAnswer (contents old) (contents new) (line said) (broken old) (broken new)) where
  -- nothing is written after a failure
  after_failure : (old new : T) (all : List Item) (outcome : Outcome) → TakesAll takes old all new
      → broken old ≡ Some outcome → (broken new ≡ Some outcome) × Keeps (contents old) (contents new)
  after_failure old new [] outcome taken failed =
      (rw taken failed, subst (λ (t : T). Keeps (contents old) (contents t)) (sym taken) (Keeps-refl (contents old)))
  after_failure old new (said ∷ all) outcome (between, one, more) failed =
      let here = rw failed at (answers old said between one) in
      let rest = after_failure between new all outcome more here.0 in
      (rest.0, Keeps-trans (contents old) (contents between) (contents new) here.1 rest.1)

  pub wrote_all : (old new : T) (all : List Item) → TakesAll takes old all new → broken old ≡ None
      → WritesUpTo (contents old) (contents new) (flat_map line all) (broken new)
  wrote_all old new [] taken whole =
      subst (λ (t : T). WritesUpTo (contents old) (contents t) [] (broken t)) (sym taken)
      (rw whole (Appends-nil (contents old)))
  wrote_all old new (said ∷ all) (between, one, more) whole =
      by (broken between) refl (rw whole at (answers old said between one)) (wrote_all between new all more)
    where
      then_more : (ended : Option Outcome) → Appends (contents old) (contents between) (line said)
          → WritesUpTo (contents between) (contents new) (flat_map line all) ended
          → WritesUpTo (contents old) (contents new) (line said ++ flat_map line all) ended
      then_more None here rest =
          Appends-trans (contents old) (contents between) (contents new) (line said) (flat_map line all) here rest
      then_more (Some outcome) here rest = (
        rest.0,
        front_behind (contents old) (contents between) (contents new) (line said) (flat_map line all) here rest.1,
      )

      by : (ended : Option Outcome) → broken between ≡ ended
          → WritesUpTo (contents old) (contents between) (line said) ended
          → (broken between ≡ None → WritesUpTo (contents between) (contents new) (flat_map line all) (broken new))
          → WritesUpTo (contents old) (contents new) (line said ++ flat_map line all) (broken new)
      by None is here rest = then_more (broken new) here (rest is)
      by (Some outcome) is here rest =
          let after = after_failure between new all outcome more is in
          rw (after.0) (
            here.0,
            front_before (contents old) (contents new) (line said) (flat_map line all)
                (front_kept (contents old) (contents between) (contents new) (line said) here.1 after.1),
          )
