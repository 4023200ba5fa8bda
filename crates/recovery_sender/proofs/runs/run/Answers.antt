use Rattle.std.proofs.Common.{◌≡◌, ◌<◌, true, false, ℕ, zero, suc, length, Result, Ok, Err, OnErr, inr, arith, refl}
use Rattle.recovery_sender.proofs.RunLaws.{over_lists}
use Rattle.recovery_sender.proofs.WaitingLaws.{waits_by_answers}
use Rattle.recovery_sender.proofs.runs.run.Goals as goal

pub returns-clause-runs : goal.returns-clause-runs
returns-clause-runs g c =
    let runs = over_lists c.args.calls.items c.in_ok-said.said c.run_over.result.1 c.in_ok-sender.sender
    c.run_over.result.0
    c.in_ok-said.ensures.items (omega (arith, c.in_ok-said.ensures.capacity, c.len.ensures, c.args.calls.ok))
    c.run_over.ensures in
    record {
      first = c.in_ok-sender.sender;
      begins = c.in_ok-sender.ensures.begins;
      runs = runs;
      waits = waits_by_answers c.args.calls.items _ c.in_ok-sender.sender c.run_over.result.0 runs;
    }

-- an allocation that failed asked for some room
asked : (n : ℕ) → (n ≡ 0 → false ≡ true) → 0 < n
asked zero none = let never : false ≡ true = none refl in absurd cc
asked (suc n) none = omega arith

refused : {T E : Type 0} {P : Type 0} (result : Result T E) → P → OnErr result P
refused (Ok value) is = tt
refused (Err error) is = is

pub returns-in_err-said-clause-memory : goal.returns-in_err-said-clause-memory
returns-in_err-said-clause-memory g c =
    let some = asked (length c.args.calls.items)
    (λ none. c.in_err-said.ensures.succeeds (omega (arith, c.len.ensures, c.args.calls.ok, none))) in
    refused c.from_residual.result (inr some)
