use Rattle.std.proofs.Common.{ap}
use Rattle.recovery_pair.specs.AddressKnown.{known_of}
use Rattle.recovery_pair.proofs.NewLaws.{new_tied}
use Rattle.recovery_pair.proofs.pair.Pair.new.Goals as goal

pub returns-clause-tied : goal.returns-clause-tied
returns-clause-tied g c = rw (c.new-3.ensures.sender, c.new-4.ensures.sender, c.new-5.ensures.items) (new_tied
    c.args.client.config
    c.args.server.config c.args.start _ _ c.in_ok-client.client c.in_ok-server.server c.in_ok-client.ensures.begins
    c.in_ok-server.ensures.begins _ _ c.new-3.ensures.waits c.new-4.ensures.waits
    (λ measure adds. record { none = adds.none; joined = adds.joined }))

pub returns-clause-timer_set : goal.returns-clause-timer_set
returns-clause-timer_set g c =
    let client = c.in_ok-client.ensures.begins.does in
    let server = c.in_ok-server.ensures.begins.does in
    rw (c.new-3.ensures.sender, c.new-4.ensures.sender) (
      (client.running, ap known_of client.variables, client.timer),
      (server.running, ap known_of server.variables, server.timer),
    )
