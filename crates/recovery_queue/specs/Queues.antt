-- What the calls of a retransmission queue do to its contents, and the laws that every queue proves (RFC 9000, 13.3).
use Rattle.std.specs.Prelude.{◌≡◌, Bool, true}

-- what each call does to the contents P; S is the argument of the test for emptiness
pub record QueueSemantics (P S : Type 0) : Type 0 where
  pub empty : P
  -- the contents that were there, and those that are joined to them
  pub joined : P → P → P
  pub is_empty : P → S → Bool

-- contents that are empty for every argument
abbrev pub IsVoid : {P S : Type 0} → QueueSemantics P S → P → Type 0
IsVoid {P} {S} words contents = (s : S) → words.is_empty contents s ≡ true

-- joining the empty contents on either side changes nothing, and the test for emptiness holds for them
pub record QueueLaws {P S : Type 0} (words : QueueSemantics P S) : Type 0 where
  pub unit_left : (p : P) → words.joined words.empty p ≡ p
  pub unit_right : (p : P) → words.joined p words.empty ≡ p
  pub empty_is_empty : (s : S) → words.is_empty words.empty s ≡ true
