use Rattle.std.proofs.Common.{arith}
use Rattle.recovery_replay.proofs.ScriptLaws.{too_long}
use Rattle.recovery_replay.proofs.script.Script.keep.Goals as goal

pub returns-then-len-bytes-gt-LINE_LIMIT : goal.returns-then-len-bytes-gt-LINE_LIMIT
returns-then-len-bytes-gt-LINE_LIMIT c = too_long c.args.self.now c.args.bytes.now c.requires (omega arith)
