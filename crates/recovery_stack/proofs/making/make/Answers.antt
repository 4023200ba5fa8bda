use Rattle.std.proofs.Common.{ap}
use Rattle.rand_core.specs.Steps.{stream_of, steps_u32}
use Rattle.rand_pcg.specs.Pcg.{pcg32}
use Rattle.recovery_stack.proofs.SettingsMadeLaws.{made_or}
use Rattle.recovery_stack.proofs.making.make.Goals as goal

pub returns-in-Ok : goal.returns-in-Ok
returns-in-Ok c =
    made_or c.args.form c.make.result c.args.settings.now c.args.remote.now c.args.id c.args.now c.in-Ok.stack
    c.make.new.self.slot.held c.socket_of-peer.result c.config-config.result c.from_nanos.result _
    c.socket_of-peer.ensures c.config-config.ensures.config c.from_nanos.ensures
    (ap (stream_of (steps_u32 pcg32)) c.seed_from_u64-rng.ensures) c.in-Ok.ensures c.make.ensures
