use Rattle.std.proofs.Common.{arith}
use lib.Ieee.{of_bits, round}
use Rattle.arrival.specs.Arrival.{first_crossing}
use Rattle.arrival.proofs.Turns.{crossing_off, crossing_at, crossing_on, crossing_none}
use Rattle.arrival.proofs.first_crossing.Goals as goal

pub returns-in_err-b : goal.returns-in_err-b
unfolding first_crossing
returns-in_err-b c =
    rw (← c.at_start-b.ensures) (c.loop-i.invariant _ _
    (crossing_off _ _ _ _ (omega (arith, c.loop-i-test.true)) c.sub_step.ensures c.in_err-b.was _ c.from_residual.ensures.1))

pub returns-then-b : goal.returns-then-b
unfolding first_crossing of_bits round
returns-then-b c =
    rw (← c.at_start-b.ensures)
    (c.loop-i.invariant _ _ (crossing_at _ _ _ _ (omega (arith, c.loop-i-test.true)) c.sub_step.ensures c.in_ok-b.was c.if-b.true))

pub loop-i-preserved : goal.loop-i-preserved
unfolding of_bits round
loop-i-preserved c x u k =
    c.loop-i.invariant _ _ (crossing_on _ _ _ _ (omega (arith, c.loop-i-test.true)) c.sub_step.ensures c.in_ok-b.was c.if-b.false k)

pub returns : goal.returns
unfolding first_crossing
returns c = rw (← c.at_start-b.ensures) (c.loop-i.invariant _ _ (crossing_none _ _ _ _ (omega (arith, c.loop-i-test.false))))
