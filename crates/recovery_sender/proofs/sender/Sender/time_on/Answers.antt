use Rattle.recovery_sender.proofs.sender.Sender.time_on.Goals as goal

pub keep_timer-requires : goal.keep_timer-requires
keep_timer-requires g c = record {
  timed = c.requires.timed c.if-was_timed.true;
  known = c.requires.known c.if-was_timed.true;
}
