use Rattle.arrival.specs.Arrival.{clearance}
use Rattle.arrival.proofs.Found.{found, onward, stopped}
use Rattle.arrival.proofs.clear.Goals as goal

pub returns-in_err-under : goal.returns-in_err-under
unfolding clearance
returns-in_err-under c = stopped _ _ c.look.ensures c.in_err-under.was _ c.from_residual.ensures.1

pub returns : goal.returns
unfolding clearance
returns c = onward _ _ c.look.ensures c.in_ok-under.was found
