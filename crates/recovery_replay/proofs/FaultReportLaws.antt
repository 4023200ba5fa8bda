-- ASCII, and what is shown of it: `write_word` rests on it.
use Rattle.std.proofs.Common.{◌≡◌, ℕ, zero, suc, ◌<◌, true, min, List, [], ◌∷◌, ◌++◌, length, take, slice_index, refl, ap, ◌∙◌, arith, take_all, Result, Ok, Err, OnOk}
use Rattle.std.specs.List.{list_all}
use Rattle.std.specs.Char.{is_ascii}
use Rattle.std.specs.Fmt.{AppendsText, debug_str}
use Rattle.std.specs.Str.{IsAscii, IsUtf8}
use Rattle.std.proofs.lemmas.Bool.Decides.{nat_tests}
use Rattle.std.proofs.lemmas.Str.{IsUtf8-from_ascii}
use Rattle.recovery_replay.specs.FaultReports.{quoted}

pub all_ascii : (bytes : List ℕ) → IsAscii bytes → list_all is_ascii bytes ≡ true
all_ascii [] h = refl
all_ascii (byte ∷ bytes) h = grind (arith, nat_tests, h 0, all_ascii bytes (λ place. h (suc place)))

behind_all : (place : ℕ) → slice_index [] place < 128
behind_all zero = omega arith
behind_all (suc place) = omega arith

pub front_ascii : (bytes : List ℕ) (n : ℕ) → IsAscii bytes → IsAscii (take n bytes)
front_ascii [] zero h place = h place
front_ascii [] (suc n) h place = h place
front_ascii (byte ∷ bytes) zero h place = behind_all place
front_ascii (byte ∷ bytes) (suc n) h zero = h zero
front_ascii (byte ∷ bytes) (suc n) h (suc place) = front_ascii bytes n (λ at. h (suc at)) place

-- as much as there is, up to this
pub take_least : (bytes : List ℕ) (n : ℕ) → take (min n (length bytes)) bytes ≡ take n bytes
take_least bytes n = grind (arith, take_all (length bytes) bytes, take_all n bytes)

module _ {X E : Type 0} (old new word : List ℕ) (n : ℕ) where
  -- a word as far as it is shown, which `{:?}` writes
  pub shown_plain : (r : Result X E) (said : List ℕ) → said ≡ take n word → (IsAscii word → n ≡ min 64 (length word))
      → OnOk r (AppendsText old new (debug_str said)) → OnOk r (IsAscii word → new ≡ old ++ quoted word)
  shown_plain (Err e) said is len writes = tt
  shown_plain (Ok x) said is len writes = λ ascii.
      let same : said ≡ take 64 word = is ∙ ap (λ k. take k word) (len ascii) ∙ take_least word 64 in
      rw (same, all_ascii (take 64 word) (front_ascii word 64 ascii)) at writes

  -- it is text
  pub never : (r : Result X E) → ¬ IsUtf8 (take n word) → OnOk r (IsAscii word → new ≡ old ++ quoted word)
  never (Err e) not = tt
  never (Ok x) not = λ ascii. absurd (not (IsUtf8-from_ascii (take n word) (front_ascii word n ascii)))
