use Rattle.std.proofs.Common.{false, inr, arith}
use Rattle.recovery_sender.proofs.sender.Sender.judge.Goals as goal

pub returns-then-lose-clause-becomes : goal.returns-then-lose-clause-becomes
returns-then-lose-clause-becomes g c =
    inr (inr (
      false,
      record {
        goes = rw c.if-lose.true at c.lose.ensures.tries;
        numbers = rw c.if-lose.true at c.lose.ensures.numbers;
        lost = c.is_lost.ensures.0 c.if-not-is_lost.false;
        other = λ is.
            first_of (search (c.eq.ensures, c.if-eq.false, is), grind (arith, c.eq.ensures, c.if-eq.false, is));
        tally = c.counts.ensures;
      },
    ))
