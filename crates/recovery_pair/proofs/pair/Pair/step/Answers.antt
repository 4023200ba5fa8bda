use Rattle.std.proofs.Common.{true≢false, sym}
use Rattle.recovery_pair.proofs.DeadlockLaws.{never_stuck}
use Rattle.recovery_pair.proofs.pair.Pair.step.Goals as goal

pub returns-in-Send : goal.returns-in-Send
returns-in-Send g c = rw c.in-Send.is (record {
  keeps = c.send.ensures.keeps;
  permits = c.send.ensures.permits;
  timer_set = c.send.ensures.timer_set;
  unstuck = never_stuck _ _ _ _ _ _ _ _ _ _ _ _ c.send.ensures.keeps c.send.ensures.timer_set c.send.ensures.held;
  filled = c.send.ensures.filled;
  expires = tt;
  least = (λ never. absurd (true≢false (sym never)), λ never. absurd (true≢false (sym never)));
})

pub returns-in-Arrive : goal.returns-in-Arrive
returns-in-Arrive g c = rw c.in-Arrive.is (record {
  keeps = c.arrive.ensures.keeps;
  permits = tt;
  timer_set = c.arrive.ensures.timer_set;
  unstuck = never_stuck _ _ _ _ _ _ _ _ _ _ _ _ c.arrive.ensures.keeps c.arrive.ensures.timer_set
      (λ validated log tied have. tt);
  filled = tt;
  expires = tt;
  least = c.arrive.ensures.least;
})

pub returns-in-Local : goal.returns-in-Local
returns-in-Local g c = rw c.in-Local.is (record {
  keeps = c.local.ensures.keeps;
  permits = tt;
  timer_set = c.local.ensures.timer_set;
  unstuck = never_stuck _ _ _ _ _ _ _ _ _ _ _ _ c.local.ensures.keeps c.local.ensures.timer_set
      (λ validated log tied have. tt);
  filled = tt;
  expires = c.local.ensures.expires;
  least = c.local.ensures.least;
})
