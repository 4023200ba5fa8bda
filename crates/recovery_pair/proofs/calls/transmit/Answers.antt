use Rattle.recovery_sender.specs.Calls.{after_transmit, is_checked}
use Rattle.recovery_pair.proofs.FilledLaws.{spaces_kept}
use Rattle.recovery_pair.proofs.PacketLaws.{may_transmit}
use Rattle.recovery_pair.proofs.PermitLaws.{known_same, waits_for}
use Rattle.recovery_pair.proofs.TimedLaws.{tries_timer}
use Rattle.recovery_pair.proofs.TurnLaws.{fits_checked}
use Rattle.recovery_pair.proofs.ItemLaws.{transmit_carries}
use Rattle.recovery_pair.proofs.calls.transmit.Goals as goal

pub returns-clause-goes : goal.returns-clause-goes
returns-clause-goes g c = may_transmit c.args.now c.args.size (is_checked c.args.sender.now.variables c.args.space
    c.args.eliciting)
    (λ sent. after_transmit c.args.now c.args.space c.args.eliciting sent c.args.sender.now.variables)
    c.args.sender.now c.transmit.new.self c.transmit.result c.transmit.ensures.steps c.transmit.ensures.refused

pub returns-clause-fits : goal.returns-clause-fits
returns-clause-fits g c = fits_checked c.args.sender.now c.args.space c.args.size c.args.eliciting c.transmit.result
    c.transmit.ensures.window

pub returns-clause-timer : goal.returns-clause-timer
returns-clause-timer g c = tries_timer c.args.sender.now c.transmit.new.self _
    (λ sent. after_transmit c.args.now c.args.space c.args.eliciting sent c.args.sender.now.variables)
    c.transmit.result c.transmit.ensures.steps c.transmit.ensures.refused
    (λ sent. known_same c.args.now c.args.space c.args.eliciting sent c.args.sender.now.variables)

pub returns-clause-items : goal.returns-clause-items
returns-clause-items g c = transmit_carries c.args.now c.args.size (is_checked c.args.sender.now.variables c.args.space
    c.args.eliciting)
    (λ sent. after_transmit c.args.now c.args.space c.args.eliciting sent c.args.sender.now.variables)
    c.args.sender.now c.transmit.new.self c.transmit.result c.transmit.ensures.steps c.transmit.ensures.refused

pub returns-clause-spaces : goal.returns-clause-spaces
returns-clause-spaces g c = spaces_kept c.args.now c.args.size (is_checked c.args.sender.now.variables c.args.space
    c.args.eliciting)
    (λ sent. after_transmit c.args.now c.args.space c.args.eliciting sent c.args.sender.now.variables)
    c.args.sender.now c.transmit.new.self c.transmit.result c.transmit.ensures.steps c.transmit.ensures.refused

pub returns-clause-waits : goal.returns-clause-waits
returns-clause-waits g c = waits_for c.args.sender.now c.transmit.new.self c.args.space c.args.now c.args.size
    c.args.eliciting c.transmit.result c.transmit.ensures.reply c.transmit.ensures.steps c.transmit.ensures.alone
