-- What is stated about the stored part of a line holds for the line: programs that read lines rest on it.
use Rattle.std.proofs.Common.{◌↔◌, ℕ, ◌≤◌, List, [], ◌∷◌, length, take, sym, ap, subst, arith, length-take}
use Rattle.recovery_replay.specs.Reading.{TruncatedLine}
use Rattle.recovery_replay.proofs.ReadingLaws.{same_line}
use Rattle.recovery_replay.specs.declared.faults.Fault.{Fault}
use Rattle.recovery_replay.specs.declared.faults.Fault.TheVariants.{TooLong, TooShort, Word}
use Rattle.recovery_replay.specs.Faults.{IsSilent, NamesWordOf}
use Rattle.recovery_replay.specs.FaultReports.{ReportsFault, TellsFault}

silent_front : (line : List ℕ) → IsSilent (take 4097 line) ↔ IsSilent line
silent_front [] = (λ s. s, λ s. s)
silent_front (byte ∷ line) = (λ s. s, λ s. s)

pub kept_silent : (line kept : List ℕ) → TruncatedLine line kept → IsSilent kept → IsSilent line
kept_silent line kept k silent = (silent_front line).0 (subst IsSilent k.is silent)

pub kept_speaks : (line kept : List ℕ) → TruncatedLine line kept → (IsSilent kept → ⊥) → IsSilent line → ⊥
kept_speaks line kept k speaks silent = speaks (subst IsSilent (sym k.is) ((silent_front line).1 silent))

module _ (IsLine : List ℕ → Type 0) where
  kept_named : (line kept : List ℕ) (number : ℕ) (fault : Fault) (text : List ℕ) → TruncatedLine line kept
      → NamesWordOf IsLine kept fault
      → TellsFault kept number fault [] text → NamesWordOf IsLine line fault × TellsFault line number fault [] text
  kept_named line kept number TooLong text k long tells =
      (omega (arith, long, ap length k.is, length-take 4097 line), tells)
  kept_named line kept number TooShort text k begins tells =
      subst (λ l. NamesWordOf IsLine l TooShort × TellsFault l number TooShort [] text)
      (same_line line kept k begins.0) (begins, tells)
  kept_named line kept number (Word word start end) text k named tells =
      subst (λ l. NamesWordOf IsLine l (Word word start end) × TellsFault l number (Word word start end) [] text)
      (same_line line kept k named.short) (named, tells)

  pub kept_tells : (line kept : List ℕ) (number : ℕ) (text : List ℕ) → TruncatedLine line kept
      → ReportsFault IsLine kept number text → ReportsFault IsLine line number text
  kept_tells line kept number text k tells =
      let named = kept_named line kept number tells.0 text k tells.1 tells.2 in (tells.0, named.0, named.1)
