-- The tokens of a pacer are the balance of the bytes paid for, whatever was checked. The clauses
-- `delayed_when_uncovered` and `paid_rate` of `run` rest on it.
use Rattle.std.proofs.lemmas.Bool.Decides.{nat_tests}
use Rattle.std.proofs.Common.{◌≡◌, ◌<◌, List, [], ◌∷◌, arith, sym}
use Rattle.std.specs.Prelude.{SomeIff}
use Rattle.recovery_congestion.specs.Pacing.{Bucket, PacerCall, next_moment, paced, pacer_delay}
use Rattle.recovery_congestion.specs.PacerLog.{PacerEntry, asked, took, bucket_by, marks_asking}
use Rattle.recovery_congestion.specs.PaidLog.{IsPaced, paid_of, marks_paid, DelaysUncovered, PaysInFull, PaysRate}
use Rattle.recovery_congestion.proofs.PacerBalanceLaws.{balance_is, paid_bound}
use Rattle.recovery_congestion.proofs.PacerLogLaws.{Tied, tied_made, tied_took, tied_asking, passed_is_covered}

-- a call is delayed exactly if it is paced and tokens are missing
lacks_tokens : (call : PacerCall) (bucket : Bucket)
    → SomeIff (pacer_delay call bucket) (IsPaced call × (bucket.tokens < call.bytes))
    (next_moment call bucket.capacity bucket.tokens bucket.last)
lacks_tokens call bucket = grind (arith, nat_tests)

module _ (made : Bucket) where
  -- the state of the pacer is what the history of the bytes paid for says
  tied_paid : (entries : List PacerEntry) → made.tokens ≡ made.capacity
      → Tied made (marks_paid made entries) (bucket_by made entries)
  tied_paid [] full = tied_made made full
  tied_paid (asked call ∷ earlier) full = tied_asking made call _ _ (tied_paid earlier full)
  tied_paid (took bytes _ ∷ earlier) full =
      let t = tied_paid earlier full in
      tied_took made bytes (paid_of made bytes (marks_paid made earlier)) _ _ (grind (arith, t.tokens)) t

  -- after one more call
  tied_call : (earlier : List PacerEntry) (call : PacerCall) → made.tokens ≡ made.capacity
      → Tied made (marks_asking made call (marks_paid made earlier)) (paced call (bucket_by made earlier))
  tied_call earlier call full = tied_paid (asked call ∷ earlier) full

  pub delays_uncovered : (earlier : List PacerEntry) (call : PacerCall) → made.tokens ≡ made.capacity
      → DelaysUncovered made earlier call (pacer_delay call (paced call (bucket_by made earlier)))
  delays_uncovered earlier call full =
      let bucket = paced call (bucket_by made earlier) in
      let tied = tied_call earlier call full in
      let lacks = lacks_tokens call bucket in
      (balance_is made _ tied.no_debt, rw (sym tied.tokens, sym tied.capacity, sym tied.last) lacks)

  pub pays_in_full : (earlier : List PacerEntry) (call : PacerCall) → made.tokens ≡ made.capacity
      → PaysInFull made earlier call (pacer_delay call (paced call (bucket_by made earlier)))
  pays_in_full earlier call full passes is_paced =
      let low = passed_is_covered call (paced call (bucket_by made earlier)) is_paced passes in
      omega (arith, (tied_call earlier call full).tokens, low)

  pub pays_rate : (entries : List PacerEntry) → made.tokens ≡ made.capacity → PaysRate made entries
  pays_rate entries full later past rtt window moment is =
      let t = tied_paid entries full in
      paid_bound made (marks_paid made entries) later past rtt window moment t.no_debt t.earned is
