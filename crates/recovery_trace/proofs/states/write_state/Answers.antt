use Rattle.std.proofs.Common.{rules, string_bytes}
use Rattle.recovery_spaces.specs.Paths.{counters_of}
use Rattle.recovery_trace.specs.States.{time_text, flight_text, window_text, rtt_text, room_text}
use Rattle.recovery_trace.proofs.StateTextLaws.{five}
use Rattle.recovery_trace.proofs.states.write_state.Goals as goal

pub returns : goal.returns
returns g c =
    five c.write_room.result (string_bytes c.args.text.now) (string_bytes c.write_time.new.text)
    (string_bytes c.write_flight.new.text) (string_bytes c.write_window.new.text) (string_bytes c.write_rtt.new.text)
    (string_bytes c.write_room.new.text) (time_text c.args.time) (flight_text (counters_of c.args.path.now.ledger))
    (window_text (g.C.Controller.words.metrics c.args.path.now.state.controller)) (rtt_text c.args.path.now.state.rtt)
    (room_text c.args.path.now.state.discovery.mtu c.args.path.now.state.pacer.tokens) (search rules) (search rules)
    (search rules) (search rules) (search rules)
