-- The first packet of a queue leaves it: `take`, `discard` and `next` rest on it.
use Rattle.std.proofs.Common.{◌≡◌, ℕ, ◌+◌, ◌-◌, ◌<◌, ◌≤◌, max, List, [], ◌∷◌, ◌++◌, length, reverse, refl, sym, ap, subst, ◌∙◌, Some, slice_index_or, arith, length-append}
use Rattle.std.proofs.lemmas.List.{append_assoc}
use Rattle.std.proofs.lemmas.Grind.{reverse_onto}
use Rattle.recovery_network.specs.declared.bottleneck.QueuedPacket.{QueuedPacket}
use Rattle.recovery_network.specs.Bottlenecks.{IsAfter, IsNextOf, Queue, bytes_of, departure, end_of, rate_of}

pub headed : {A : Type 0} (items : List A) (first : A) → 0 < length items → first ≡ slice_index_or items 0 first
    → (rest : List A) × (items ≡ first ∷ rest)
headed [] first lt is = absurd (omega (arith, lt))
headed (item ∷ items) first lt is = (items, ap (λ it. it ∷ items) (sym is))

bytes_joined : (some more : List QueuedPacket) → bytes_of (some ++ more) ≡ bytes_of some + bytes_of more
bytes_joined [] more = omega arith
bytes_joined (packet ∷ some) more = omega (arith, bytes_joined some more)

-- the first of those that wait is the last of the reversed ones
unreversed : (first : QueuedPacket) (rest left : List QueuedPacket)
    → reverse (first ∷ rest) ++ left ≡ reverse rest ++ first ∷ left
unreversed first rest left =
    ap (λ packets. packets ++ left) (reverse_onto rest first []) ∙ append_assoc (reverse rest) (first ∷ []) left

same_first : (some others : List QueuedPacket) (one other : QueuedPacket) (left : List QueuedPacket)
    → some ++ one ∷ left ≡ others ++ other ∷ left → one ≡ other
same_first [] [] one other left same = cc
same_first [] (packet ∷ others) one other left same =
    absurd (omega (arith, ap length same, length-append others (other ∷ left)))
same_first (packet ∷ some) [] one other left same =
    absurd (omega (arith, ap length same, length-append some (one ∷ left)))
same_first (packet ∷ some) (packet' ∷ others) one other left same = same_first some others one other left cc

-- what the first packet's bytes are part of
parts : (let_in left rest : List QueuedPacket) (first : QueuedPacket) (bytes : ℕ)
    → let_in ≡ reverse (first ∷ rest) ++ left
    → bytes_of let_in ≡ bytes + bytes_of left
    → (let_in ≡ reverse rest ++ first ∷ left) × (bytes ≡ bytes_of (reverse rest) + first.size)
parts let_in left rest first bytes order waits =
    let is = order ∙ unreversed first rest left in
    (is, omega (arith, waits, ap bytes_of is, bytes_joined (reverse rest) (first ∷ left)))

pub took : (let_in left rest : List QueuedPacket) (first : QueuedPacket) (bytes : ℕ)
    → let_in ≡ reverse (first ∷ rest) ++ left
    → bytes_of let_in ≡ bytes + bytes_of left
    → (let_in ≡ reverse rest ++ first ∷ left) × (bytes_of let_in ≡ (bytes - first.size) + bytes_of (first ∷ left))
took let_in left rest first bytes order waits =
    let found = parts let_in left rest first bytes order waits in
    (found.0, omega (arith, waits, found.1))

pub gone : (let_in left rest : List QueuedPacket) (first : QueuedPacket) (bytes : ℕ)
    → let_in ≡ reverse (first ∷ rest) ++ left
    → bytes_of let_in ≡ bytes + bytes_of left
    → (let_in ≡ reverse rest ++ first ∷ left)
    × (bytes_of (reverse rest ++ left) ≡ (bytes - first.size) + bytes_of left)
gone let_in left rest first bytes order waits =
    let found = parts let_in left rest first bytes order waits in
    (found.0, omega (arith, found.1, bytes_joined (reverse rest) left))

-- the first packet has not left yet: none has
pub undue : (let_in left rest waiting : List QueuedPacket) (next : QueuedPacket) (rate_at : ℕ → ℕ) (now leaves : ℕ)
    → let_in ≡ reverse waiting ++ left → waiting ≡ next ∷ rest → leaves ≡ departure rate_at (next ∷ left) → now < leaves
    → (first : QueuedPacket) (later : List QueuedPacket) → let_in ≡ later ++ first ∷ left
    → now < departure rate_at (first ∷ left)
undue let_in left rest waiting next rate_at now leaves order is leaving lt first later apart =
    let same = same_first later (reverse rest) first next left
    (sym apart ∙ order ∙ ap (λ packets. reverse packets ++ left) is ∙ unreversed next rest left) in
    rw same (rw leaving at lt)

pub takes_first : (let_in left rest : List QueuedPacket) (old new : Queue) (first : QueuedPacket) (leaves now : ℕ)
    → IsAfter let_in left old → old.waiting ≡ first ∷ rest → IsNextOf old.waiting left (rate_of old) (Some leaves)
    → leaves ≤ now → new ≡ record old { waiting = rest; bytes = old.bytes - first.size; free = leaves }
    → (departure (rate_of old) (first ∷ left) ≤ now) × IsAfter let_in (first ∷ left) new
takes_first let_in left rest old new first leaves now after is next le becomes =
    let same : next.0 ≡ first = cc (is, next.2) in
    let leaving : leaves ≡ departure (rate_of old) (first ∷ left) = rw same at next.3 in
    let found = took let_in left rest first old.bytes
    (after.order ∙ ap (λ packets. reverse packets ++ left) is) after.waits in (
      rw leaving at le,
      subst (λ queue. IsAfter let_in (first ∷ left) queue) (sym becomes)
          (record { order = found.0; waits = found.1; free = leaving }),
    )

pub discards_first : (let_in left rest : List QueuedPacket) (old new : Queue) (first : QueuedPacket)
    → IsAfter let_in left old → old.waiting ≡ first ∷ rest
    → new ≡ record old { waiting = rest; bytes = old.bytes - first.size }
    → (later : List QueuedPacket) × (let_in ≡ later ++ first ∷ left) × IsAfter (later ++ left) left new
discards_first let_in left rest old new first after is becomes =
    let found = gone let_in left rest first old.bytes
    (after.order ∙ ap (λ packets. reverse packets ++ left) is) after.waits in (
      reverse rest,
      found.0,
      subst (λ queue. IsAfter (reverse rest ++ left) left queue) (sym becomes)
          (record { order = refl; waits = found.1; free = after.free }),
    )

pub takes_none : (let_in left : List QueuedPacket) (queue : Queue) (leaves now : ℕ) → IsAfter let_in left queue
    → IsNextOf queue.waiting left (rate_of queue) (Some leaves) → now < leaves
    → ((first : QueuedPacket) (later : List QueuedPacket) → let_in ≡ later ++ first ∷ left
    → now < departure (rate_of queue) (first ∷ left)) × IsAfter let_in left queue
takes_none let_in left queue leaves now after next lt = (
  undue let_in left next.1 queue.waiting next.0 (rate_of queue) now leaves after.order next.2 next.3 lt,
  after,
)

pub leads : (let_in left : List QueuedPacket) (queue : Queue) (first : QueuedPacket) (leaves : ℕ)
    → IsAfter let_in left queue → 0 < length queue.waiting → first ≡ slice_index_or queue.waiting 0 first
    → leaves ≡ end_of (rate_of queue) (max first.came queue.free) first.size
    → IsNextOf queue.waiting left (rate_of queue) (Some leaves)
leads let_in left queue first leaves after lt is leaving =
    let found = headed queue.waiting first lt is in
    (first, found.0, found.1, rw after.free at leaving)
