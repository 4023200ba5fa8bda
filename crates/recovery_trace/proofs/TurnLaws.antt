-- A write that fails: `take_turn` rests on it.
use Rattle.std.proofs.Common.{ℕ, inl, inr, List, Option, sym, subst}
use Rattle.std.specs.Io.KnownBytes.{Keeps}
use Rattle.quic_recovery.specs.declared.driver.Recovery.{Recovery}
use Rattle.recovery_replay.specs.Writing.{AppendsFront}
use Rattle.recovery_replay.specs.declared.outcome.Outcome.{Outcome}
use Rattle.recovery_trace.specs.declared.requests.Shown.{Shown}
use Rattle.recovery_trace.specs.declared.turn.Turn.TheVariants.{Over}
use Rattle.recovery_replay.specs.Outcomes.{IsBroken}
use Rattle.recovery_trace.specs.Turns.{AppliesLineEvent, LineOutcome}

module _ {F R C K : Type 0} {f : _} {c : _} {q : _} {m : _} {r : _} (shows : Shown) (line : List ℕ) (number : ℕ)
    (old new : Recovery F (List ℕ) R C K (Unit {0}) (Unit {0}) (List ℕ) f c q m r) (earlier later : ℕ)
    (before after unsaid said : Option (List ℕ)) where
  pub broken_off : (outcome : Outcome) (text : List ℕ) → IsBroken outcome
      → AppliesLineEvent shows line old new earlier later text → AppendsFront before after text → Keeps unsaid said
      → LineOutcome shows line number old new earlier later before after unsaid said (Over outcome)
  broken_off outcome text (inl is) does front kept =
      subst (λ o. LineOutcome shows line number old new earlier later before after unsaid said (Over o)) (sym is)
      ((text, does, front), kept)
  broken_off outcome text (inr is) does front kept =
      subst (λ o. LineOutcome shows line number old new earlier later before after unsaid said (Over o)) (sym is)
      ((text, does, front), kept)
