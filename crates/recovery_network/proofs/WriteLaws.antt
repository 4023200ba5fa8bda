-- The chunks of an application.
use Rattle.std.proofs.Common.{◌≡◌, ℕ, ◌+◌, ◌-◌, ◌*◌, ◌/◌, ◌<◌, ◌≤◌, max, min, arith}
use Rattle.std.proofs.Math.Nat.{div-lt_iff_lt-mul, div-mul-le_self, lt-div-mul-add, mul-le-mul_left, mul-le-mul_right}
use Rattle.std.proofs.lemmas.Nat.{le-div}
use Rattle.recovery_base.specs.Units.{last_time}
use Rattle.recovery_network.specs.declared.application.Application.{Application}
use Rattle.recovery_network.specs.Writes.{AreWritten}

-- the chunk of an item is due if it is one of those that are
chunk_due : (index chunk every times past : ℕ) → 0 < chunk → index < (times + 1) * chunk → times * every ≤ past
    → index / chunk * every ≤ past
chunk_due index chunk every times past some within le =
    let chunks : index / chunk ≤ times = omega (arith, (div-lt_iff_lt-mul some).1 within) in
    let product = mul-le-mul_right every chunks in
    omega (arith, product, le)

-- and is not if it is a later one
chunk_not_due : (index chunk every times past : ℕ) → 0 < chunk → (times + 1) * chunk ≤ index
    → past < times * every + every → past < index / chunk * every
chunk_not_due index chunk every times past some beyond lt =
    let chunks : times + 1 ≤ index / chunk = le-div (times + 1) index chunk some beyond in
    let product = mul-le-mul_right every chunks in
    omega (arith, product, lt)

all_chunks : (times chunks chunk product index : ℕ) → 1 ≤ chunk → chunks ≡ min last_time (times + 1)
    → product ≡ min last_time (chunks * chunk) → product ≤ index → index < last_time → (times + 1) * chunk ≤ index
all_chunks times chunks chunk product index some adds multiplies le lt =
    let least = mul-le-mul_left chunks some in
    let same : chunks ≡ times + 1 = omega (arith, adds, multiplies, le, lt, least) in
    let whole : chunks * chunk ≤ index = omega (arith, multiplies, le, lt) in
    rw same at whole

pub chunked : (a : Application) (now times chunks product written : ℕ) → a.start ≤ now → 0 < a.every
    → times ≡ (now - a.start) / a.every → chunks ≡ min last_time (times + 1)
    → product ≡ min last_time (chunks * max 1 a.chunk) → written ≡ min a.items product → a.items ≤ last_time
    → AreWritten a now written
chunked a now times chunks product written begun some is adds multiplies least fits = record {
  most = omega (arith, least);
  due = λ index lt.
      let few : chunks ≤ times + 1 = omega (arith, adds) in
      let more = mul-le-mul_right (max 1 a.chunk) few in
      let within : index < (times + 1) * max 1 a.chunk = omega (arith, lt, least, multiplies, more) in
      let past = chunk_due index (max 1 a.chunk) a.every times (now - a.start) (omega arith) within
      (rw is (div-mul-le_self (now - a.start) a.every)) in
      omega (arith, past, begun);
  not_due = λ index le lt.
      let beyond = all_chunks times chunks (max 1 a.chunk) product index (omega arith) adds multiplies
      (omega (arith, least, le, lt)) (omega (arith, lt, fits)) in
      let past = chunk_not_due index (max 1 a.chunk) a.every times (now - a.start) (omega arith) beyond
      (rw is (lt-div-mul-add some)) in
      omega (arith, past, begun);
}
