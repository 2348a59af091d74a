use lib.Ieee.{of_bits, round}
use Rattle.tally.specs.Times.{next_after}
use Rattle.tally.proofs.next_after.Goals as goal

pub returns-then-due : goal.returns-then-due
unfolding next_after of_bits round
returns-then-due c = rw c.if-due.true
