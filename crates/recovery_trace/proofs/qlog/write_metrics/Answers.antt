use Rattle.std.proofs.Common.{rules, string_bytes}
use lib.Chars.{codes}
use Rattle.recovery_spaces.specs.Paths.{counters_of}
use Rattle.recovery_trace.specs.Qlog.{metrics_named}
use Rattle.recovery_trace.specs.States.{flight_text, window_text, rtt_text}
use Rattle.recovery_trace.proofs.StateTextLaws.{five}
use Rattle.recovery_trace.proofs.qlog.write_metrics.Goals as goal

pub returns : goal.returns
returns g c =
    five c.push_str.result (string_bytes c.args.text.now) (string_bytes c.write_metrics_name.new.text)
    (string_bytes c.write_flight.new.text) (string_bytes c.write_window.new.text) (string_bytes c.write_rtt.new.text)
    (string_bytes c.push_str.new.self) (metrics_named c.args.time) (flight_text (counters_of c.args.path.now.ledger))
    (window_text (g.C.Controller.words.metrics c.args.path.now.state.controller)) (rtt_text c.args.path.now.state.rtt)
    (codes "}}\n") (search rules) (search rules) (search rules) (search rules) (search rules)
