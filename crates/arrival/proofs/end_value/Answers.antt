use lib.Ieee.{of_bits, round}
use Rattle.arrival.specs.Arrival.{end_value}
use Rattle.arrival.proofs.Found.{found, onward, stopped}
use Rattle.arrival.proofs.end_value.Goals as goal

pub returns-in_err-f : goal.returns-in_err-f
unfolding end_value
returns-in_err-f c = rw c.if-b-arc.true (stopped _ _ c.clearance_at.ensures c.in_err-f.was _ c.from_residual.ensures.1)

pub returns-then-b-arc : goal.returns-then-b-arc
unfolding end_value of_bits round
returns-then-b-arc c = rw (c.if-b-arc.true, c.min.ensures) (onward _ _ c.clearance_at.ensures c.in_ok-f.was found)

pub returns : goal.returns
unfolding end_value
returns c = rw c.if-b-arc.false found
