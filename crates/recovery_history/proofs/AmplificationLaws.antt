-- The bound on what is sent to an address that is not validated, by events and answers: the clause
-- `amplification_limit` of `run`.
use Rattle.std.proofs.Common.{Bool, ◌∷◌, Option, None, Some, arith}
use Rattle.recovery_paths.specs.declared.path_pair.PathName.TheVariants.{Current, Previous}
use Rattle.recovery_paths.specs.PathLog.{PerPath, each_path}
use Rattle.recovery_history.specs.History.{Beginning, History}
use Rattle.recovery_history.specs.RepliesAfter.{pasts_of}
use Rattle.recovery_history.specs.Promises.Datagrams.{datagrams_on, is_validated}
use Rattle.recovery_history.specs.Promises.Amplification.{LimitsAmplification, IsWithinAmplificationLimit}
use Rattle.recovery_history.proofs.Runs.{AllAlong, throughout_kept}
use Rattle.recovery_history.proofs.DatagramLaws.{Flow, AreFlows, FlowsAgree, IsBounded, IsFlowWhereLives, flow_of, flows_at_first, flows_after}

module _ {Q S M P : Type 0} where
  -- a missing path has no datagrams
  where_lives : (validated : Bool) (here : History Q S M P) (found : Option Flow)
      → IsFlowWhereLives validated here found → IsBounded validated here
  where_lives validated here None is = rw is (λ unproved checked. omega arith)
  where_lives validated here (Some found) is = is.1

  on_each : (first : Bool) (history : History Q S M P) (flows : PerPath Flow) → AreFlows first history flows
      → IsWithinAmplificationLimit first history
  on_each first history flows are Current = are.0.1
  on_each first history flows are Previous =
      where_lives (is_validated first Previous history) (datagrams_on Previous history) flows.previous are.1

-- throughout a run
pub sends_threefold : {F K Q S M P : Type 0} (beginning : Beginning F K Q S M P)
    → AllAlong beginning (LimitsAmplification beginning.config.validated)
sends_threefold beginning =
    throughout_kept beginning (FlowsAgree beginning) (LimitsAmplification beginning.config.validated)
    (flows_after beginning)
    (λ before event reply told same. on_each beginning.config.validated ((event, reply) ∷ before)
    (each_path flow_of (pasts_of beginning ((event, reply) ∷ before)))
    (flows_after beginning before event reply told same)) (flows_at_first beginning)
