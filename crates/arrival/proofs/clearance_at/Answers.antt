use Rattle.arrival.specs.Arrival.{clearance_at}
use Rattle.arrival.proofs.clearance_at.Goals as goal

pub returns : goal.returns
unfolding clearance_at
returns c = rw c.place_at.ensures at c.clear.ensures
