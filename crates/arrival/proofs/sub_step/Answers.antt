use lib.Ieee.{of_bits, round}
use borrow.Author.Tests.{eq-eqb, ne_eqb}
use Rattle.arrival.specs.Arrival.{sub_step}
use Rattle.arrival.proofs.Found.{found, onward, stopped}
use Rattle.arrival.proofs.sub_step.Goals as goal

pub returns-then-i-eq-CROSSING_SUBSTEPS : goal.returns-then-i-eq-CROSSING_SUBSTEPS
unfolding sub_step
returns-then-i-eq-CROSSING_SUBSTEPS c = rw (eq-eqb _ _ c.if-i-eq-CROSSING_SUBSTEPS.true, c.advance.ensures) found

pub returns-in_err-fx : goal.returns-in_err-fx
unfolding sub_step of_bits round
returns-in_err-fx c =
    rw (ne_eqb _ _ c.if-i-eq-CROSSING_SUBSTEPS.false) (stopped _ _ c.clearance_at.ensures c.in_err-fx.was _ c.from_residual.ensures.1)

pub returns : goal.returns
unfolding sub_step of_bits round
returns c =
    rw (ne_eqb _ _ c.if-i-eq-CROSSING_SUBSTEPS.false, c.advance-2.ensures) (onward _ _ c.clearance_at.ensures c.in_ok-fx.was found)
