-- When an event happens.
use Rattle.std.specs.Prelude.{ℕ}
use Rattle.recovery_events.specs.declared.event.Event.TheVariants.{Received, Send, Acked, IssueIds, Transmit, PacerCheck, Congestion, EndAcks, PollMtu, LossesDone, NewPath, ResetPath}
use Rattle.recovery_script_syntax.specs.Lines.{ItemEvent}

-- the time of an event, or 0 if it has none
abbrev pub moment_of : ItemEvent → ℕ
moment_of (Received space now number eliciting) = now
moment_of (Send space now size eliciting largest queue frames) = now
moment_of (Acked space now number limited) = now
moment_of (IssueIds now ids) = now
moment_of (Transmit now bytes checked) = now
moment_of (PacerCheck now bytes) = now
moment_of (Congestion now sent persistent bytes) = now
moment_of (EndAcks now limited largest) = now
moment_of (PollMtu now) = now
moment_of (LossesDone now) = now
moment_of (NewPath now remote fresh) = now
moment_of (ResetPath now) = now
moment_of event = 0
