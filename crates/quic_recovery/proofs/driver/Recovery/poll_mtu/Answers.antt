use Rattle.std.proofs.Common.{◌≡◌, Some, rules}
use Rattle.recovery_mtud.specs.Discovery.{poll_of}
use Rattle.recovery_mtud.specs.DiscoveryLog.{polls, discovery_after}
use Rattle.recovery_history.proofs.PathStepLaws.{probe_refused, probe_changes}
use Rattle.quic_recovery.proofs.driver.Recovery.poll_mtu.Goals.{in-Ok, in-Err}
use Rattle.quic_recovery.proofs.driver.Recovery.poll_mtu.Goals as goal

pub returns : goal.returns
returns g c =
    let old = c.args.self.now.paths.current.state.discovery in
    let due : poll_of c.args.now old ≡ Some c.in-Some.size = search rules in
    let polled : c.poll_transmit.new.self ≡ discovery_after (polls c.args.now c.number_in-number.result) old =
    search rules in
    let blank = g.met.Q.RetransmitQueue.is_blank _ c.default-frames.ensures in
    elim c.match-send.branch [
      | in-Ok w ↦ rw (w.result-is, w.self-is) (probe_changes _ _ _ _ _ _ _ c.empty-queue.ensures blank due _ _ _ _
          c.number_in-number.ensures polled w.search_on-in-Ok.ensures
          (rw (← c.self-2.view_is) at w.in-Ok.ensures))
      | in-Err w ↦ rw (w.result-is, w.self-is)
          (probe_refused _ _ _ _ _ _ _ c.empty-queue.ensures blank due _ w.in-Err.ensures)
    ]
